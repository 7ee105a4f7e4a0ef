use Rattle.std.proofs.Common.{ap, ◌∙◌, []}
use Rattle.kconf_constr.specs.Scope.{number_among}
use Rattle.kconf_constr.proofs.Searching.{found_at, missed}
use Rattle.kconf_constr.proofs.scope.Scope.undeclared_number.Goals as goal

pub returns-in-Ok : goal.returns-in-Ok
returns-in-Ok c = found_at c.self.inside.undeclared.now c.args.name.now _ [] c.self.invariant c.in-Ok.ensures.bound (c.in-Ok.ensures.position [])
    ∙ ap (λ s. number_among s.undeclared c.args.name.now) c.self.view_is

pub returns-in-Err : goal.returns-in-Err
returns-in-Err c = missed c.self.inside.undeclared.now c.args.name.now _ c.self.invariant c.in-Err.ensures.position
    ∙ ap (λ s. number_among s.undeclared c.args.name.now) c.self.view_is
