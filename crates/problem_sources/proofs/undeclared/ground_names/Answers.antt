use Rattle.std.proofs.Common.{◌↔◌, Contains, sym, subst}
use Rattle.std.proofs.lemmas.Result.{IfOk-weaker}
use Rattle.ut_case.specs.Numbering.{basis_undeclared}
use Rattle.problem_sources.specs.Grounds.{basis_of}
use Rattle.problem_sources.proofs.undeclared.ground_names.Goals as goal

pub returns-in-Tree : goal.returns-in-Tree
returns-in-Tree c = IfOk-weaker c.undeclared.result _ _ (λ v h. λ name. subst (λ g. Contains v.items name ↔ Contains (basis_undeclared (basis_of g)) name) (sym c.in-Tree.is) (h.exact name)) c.undeclared.ensures
