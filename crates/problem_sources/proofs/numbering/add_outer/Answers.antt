use Rattle.std.proofs.Common.{cond, sym, ap, ◌∙◌}
use Rattle.ut_text.specs.Text.{text_eq, text_equiv}
use Rattle.cpp_blocks.specs.Mentions.{with_new}
use Rattle.ut_case.specs.Numbering.{basis_outers}
use Rattle.problem_sources.specs.Grounds.{basis_of}
use Rattle.problem_sources.proofs.PlaceLaws.{found_any, none_any, same_any}
use Rattle.problem_sources.proofs.numbering.add_outer.Goals as goal

pub returns-in-Some : goal.returns-in-Some
returns-in-Some c = let text = c.args.text in let first = basis_outers (basis_of c.args.ground.now) in let more = c.args.more.now.keys in
    sym (ap (λ b. cond b more (with_new text_eq more text)) (same_any (text_eq text) (λ o. text_eq o text) first (text_equiv.symm text)
    ∙ found_any (λ o. text_eq o text) first c.in-Some.field-0 (sym c.in-Some.ensures)))

pub returns-in_ok-insert-in-None : goal.returns-in_ok-insert-in-None
returns-in_ok-insert-in-None c = let text = c.args.text in let first = basis_outers (basis_of c.args.ground.now) in let more = c.args.more.now.keys in
    c.in_ok-insert-in-None.ensures.keys ∙ sym (ap (λ b. cond b more (with_new text_eq more text)) (same_any (text_eq text) (λ o. text_eq o text) first (text_equiv.symm text)
    ∙ none_any (λ o. text_eq o text) first (sym c.in-None.ensures)))
