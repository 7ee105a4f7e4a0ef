use Rattle.std.proofs.Common.{◌≡◌, ◌+◌, ℕ, List, None, Some, length, position, sym, ap, ◌∙◌}
use Rattle.std.specs.List.{position_or_len}
use Rattle.ut_text.specs.Text.{text_eq, text_equiv}
use Rattle.kconf_tree.proofs.Places.{same_position}
use Rattle.ut_case.specs.Numbering.{basis_outers, kbuild_text}
use Rattle.problem_sources.specs.Grounds.{basis_of}
use Rattle.problem_sources.proofs.PlaceLaws.{place_front, place_back}
use Rattle.problem_sources.proofs.outer_numbers.kbuild_place.Goals as goal

pub returns-in-Some : goal.returns-in-Some
returns-in-Some c = let t = kbuild_text c.args.text.now in let first = basis_outers (basis_of c.args.ground.now) in
    let found : position (text_eq t) first ≡ Some c.in-Some.number = same_position (text_eq t) (λ o. text_eq o t) first (text_equiv.symm t)
    ∙ (sym (ap (λ (x : List ℕ). position (λ o. text_eq o x) first) c.in_ok-text.ensures) ∙ sym c.in-Some.ensures) in
    sym (place_front (text_eq t) first c.args.more.now.keys c.in-Some.number found)

pub returns : goal.returns
returns c = let t = kbuild_text c.args.text.now in let first = basis_outers (basis_of c.args.ground.now) in let more = c.args.more.now.keys in
    let none : position (text_eq t) first ≡ None = same_position (text_eq t) (λ o. text_eq o t) first (text_equiv.symm t)
    ∙ (sym (ap (λ (x : List ℕ). position (λ o. text_eq o x) first) c.in_ok-text.ensures) ∙ sym c.in-None.ensures) in
    ap (λ n. n + c.place_in.result) c.first_outers.ensures
    ∙ (ap (λ n. length first + n) (c.place_in.ensures.place ∙ ap (λ (x : List ℕ). position_or_len (text_eq x) more) c.in_ok-text.ensures) ∙ sym (place_back (text_eq t) first more none))
