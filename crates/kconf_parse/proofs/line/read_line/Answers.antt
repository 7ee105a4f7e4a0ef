use Rattle.std.proofs.Common.{subst, Err}
use Rattle.std.proofs.lemmas.Result.{err_from_is_err_and}
use Rattle.kconf_parse.specs.Reading.{AddsWords, ReadsLine}
use Rattle.kconf_parse.proofs.AddedLaws.{line_read, line_bad}
use Rattle.kconf_parse.proofs.line.read_line.Goals as goal

pub returns-in_err-words : goal.returns-in_err-words
returns-in_err-words c =
    let p = err_from_is_err_and c.from_residual.result c.from_residual.ensures.1 in
    λ before s. rw (p.1, p.2) (subst
    (λ text. ReadsLine c.args.setting.values.now c.args.setting.root.now c.args.line.now.number before text (Err c.in_err-words.field-0.0) c.args.progress.now)
    c.bytes.ensures
    (line_bad c.args.setting.root.now c.args.line.now.number before c.args.setting.values.now c.bytes.result.now c.in_err-words.field-0.0 c.args.progress.now c.in_err-words.ensures))

pub returns : goal.returns
returns c = λ before s.
    subst (λ text. ReadsLine c.args.setting.values.now c.args.setting.root.now c.args.line.now.number before text c.add_words.result c.add_words.new.progress) c.bytes.ensures
    (line_read c.args.setting.root.now c.args.line.now.number before c.args.setting.values.now c.bytes.result.now c.in_ok-words.words.items c.add_words.result c.add_words.new.progress
    c.in_ok-words.ensures
    (subst (λ words. AddsWords c.args.setting.root.now c.args.line.now.number before words c.add_words.result c.add_words.new.progress) c.deref.ensures.value (c.add_words.ensures before s)))
