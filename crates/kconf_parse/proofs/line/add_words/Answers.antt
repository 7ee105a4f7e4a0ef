use Rattle.std.proofs.Common.{◌≡◌, ◌<◌, length, refl, sym, subst, arith}
use Rattle.std.proofs.lemmas.Grind.{common_steps}
use Rattle.std.proofs.lemmas.Result.{err_from_is_err_and}
use Rattle.kconf_words.specs.Faults.{Fails}
use Rattle.kconf_parse.proofs.AddedLaws.{nothing_added, words_added, words_refused}
use Rattle.kconf_parse.proofs.line.add_words.Goals as goal

pub returns-then-is_empty : goal.returns-then-is_empty
returns-then-is_empty c =
    let none : length c.args.words.now ≡ 0 = grind (arith, common_steps) in
    λ before s. nothing_added c.args.setting.root.now c.args.number before c.args.words.now c.args.progress.now _ none s refl refl

pub returns-in_err-said : goal.returns-in_err-said
returns-in_err-said c =
    let some : 0 < length c.args.words.now = grind (arith, common_steps) in
    let p = err_from_is_err_and c.from_residual.result c.from_residual.ensures.1 in
    λ before s. rw (p.1, p.2) (words_refused c.args.setting.root.now c.args.number before c.args.words.now some c.in_err-said.field-0.0 c.args.progress.now
    (c.in_err-said.ensures.adds c.args.number before (sym (c.owner.ensures before s))))

pub returns-in_err-text : goal.returns-in_err-text
returns-in_err-text c =
    let some : 0 < length c.args.words.now = grind (arith, common_steps) in
    let p = err_from_is_err_and c.from_residual-in_err-text.result c.from_residual-in_err-text.ensures.1 in
    λ before s.
    let owner = sym (c.owner.ensures before s) in
    rw (p.1, p.2) (words_refused c.args.setting.root.now c.args.number before c.args.words.now some c.in_err-text.field-0.0 c.add.new.self
    (subst (Fails c.in_err-text.field-0.0) (sym (c.in_ok-said.ensures.adds c.args.number before owner))
    (c.in_err-text.ensures.stands before s (rw owner c.in_ok-said.ensures.fits))))

pub returns : goal.returns
returns c =
    let some : 0 < length c.args.words.now = grind (arith, common_steps) in
    λ before s.
    let owner = sym (c.owner.ensures before s) in
    words_added c.args.setting.root.now c.args.number before c.args.words.now some c.in_ok-said.said _ c.add.new.self
    (c.in_ok-said.ensures.adds c.args.number before owner) (rw owner c.in_ok-said.ensures.fits) (c.in_ok-text.ensures.stands before s (rw owner c.in_ok-said.ensures.fits))
    c.in_ok-text.ensures.file c.begins_help.ensures
