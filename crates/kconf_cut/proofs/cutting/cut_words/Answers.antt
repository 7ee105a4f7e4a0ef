use Rattle.std.proofs.Common.{sym}
use Rattle.kconf_cut.proofs.WordLemmas.{goes_on, next_shorter}
use Rattle.kconf_cut.proofs.cutting.cut_words.Goals as goal

pub words-smaller : goal.words-smaller
words-smaller c =
    let h = rw c.in-Some.is at c.in_ok-word.ensures in
    next_shorter c.args.vars.now c.words.rest.now (c.in-Some.word, c.in-Some.after.now) (sym h)

pub words-preserved : goal.words-preserved
words-preserved c =
    let h = rw c.in-Some.is at c.in_ok-word.ensures in
    goes_on c.args.vars.now c.args.line.now c.words.words.items c.push.new.self.items c.words.rest.now (c.in-Some.word, c.in-Some.after.now)
    c.in-Ok.ensures.items c.words.invariant (sym h)
