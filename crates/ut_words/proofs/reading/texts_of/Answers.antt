use Rattle.std.proofs.Common.{◌∙◌, ap, sym, subst, arith, rules}
use Rattle.std.proofs.lemmas.List.{take_all}
use Rattle.ut_words.specs.Reading.{AreUtf8}
use Rattle.ut_words.proofs.Texts.{texts, one_more_text, one_more_utf8}
use Rattle.ut_words.proofs.reading.texts_of.Goals as goal

pub loop-word-init : goal.loop-word-init
loop-word-init c = (ap texts c.new-texts.ensures.items, subst (λ l. AreUtf8 (texts l)) (sym c.new-texts.ensures.items) tt)

pub loop-word-preserved : goal.loop-word-preserved
loop-word-preserved c =
    let at = c.loop-word in (
      one_more_text at.texts.items c.push.new.self.items c.text-text.result c.args.words.now at.word-index c.word-item.result (omega arith) (search rules) c.in_ok-push.ensures.items c.text-text.ensures at.invariant.0,
      one_more_utf8 at.texts.items c.push.new.self.items c.text-text.result c.in_ok-push.ensures.items c.text-text.utf8 at.invariant.1,
    )

pub returns-clause-same : goal.returns-clause-same
returns-clause-same c = c.loop-word.invariant.0 ∙ take_all c.loop-word.word-index c.args.words.now (omega arith)

pub returns-clause-utf8 : goal.returns-clause-utf8
returns-clause-utf8 c = c.loop-word.invariant.1
