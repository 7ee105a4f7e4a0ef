use Rattle.std.proofs.Common.{◌≡◌, ◌↔◌, ◌++◌, ℕ, List, Contains, refl, sym, subst, map, false}
use Rattle.std.specs.List.{flat_map}
use Rattle.std.specs.BTreeSet.{contains}
use Rattle.std.proofs.lemmas.Result.{IfOk-weaker}
use Rattle.ut_text.specs.Text.{text_cmp}
use Rattle.ut_case.specs.Numbering.{basis_undeclared, source_undeclared}
use Rattle.problem_sources.specs.Grounds.{basis_of, posed_source}
use Rattle.problem_sources.specs.Undeclared.{AddsNames}
use Rattle.problem_sources.proofs.SetLaws.{adds_then, adds_all, same_members, instead}
use Rattle.problem_sources.proofs.undeclared.undeclared_of.Goals as goal

pub returns-clause-exact : goal.returns-clause-exact
returns-clause-exact c = let b = basis_of c.args.ground.now in let own = basis_undeclared b in let more = flat_map (source_undeclared b) (map (posed_source c.args.conds.now) c.args.sources.now) in
    let one : AddsNames c.new-set.result c.add_names.new.set own = instead c.new-set.result c.add_names.new.set c.in_ok-first.first.items own c.in_ok-first.ensures c.in_ok-add_names.ensures in
    let both : AddsNames c.new-set.result c.add_sources.new.set (own ++ more) = adds_then c.new-set.result c.add_names.new.set c.add_sources.new.set own more one c.in_ok-add_sources.ensures in
    let none : (name : List ℕ) → contains text_cmp c.new-set.result name ≡ false = λ name. rw c.new-set.ensures.empty refl in
    IfOk-weaker c.rising.result _ _ (λ v h. λ name. subst (λ (xs : List (List ℕ)). Contains xs name ↔ Contains (own ++ more) name) (sym h)
    (same_members c.add_sources.new.set (own ++ more) (adds_all c.new-set.result c.add_sources.new.set (own ++ more) none both) name)) c.rising.ensures.names
