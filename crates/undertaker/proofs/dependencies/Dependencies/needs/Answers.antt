use Rattle.std.proofs.Common.{◌<◌, length, List, ℕ, subst, sym}
use Rattle.std.specs.List.{All}
use Rattle.undertaker.specs.Dependencies.{AreRows}
use Rattle.undertaker.proofs.dependencies.Dependencies.needs.Goals as goal

pub returns-clause-within : goal.returns-clause-within
returns-clause-within c = subst (λ (ks : List ℕ). All (λ j. j < length c.args.self.now.needs) ks) (sym c.row.ensures) (subst AreRows c.self.view_is c.self.invariant c.args.symbol)
