use Rattle.std.proofs.Common.{[], sym, ap}
use Rattle.std.specs.List.Sorted.{IsStrictlySortedBy}
use Rattle.kconf_constr.specs.Scope.{IsRising}
use Rattle.ut_case.specs.StartFormulas.{undeclared_in}
use Rattle.problem_sources.proofs.shared.Shared.undeclared_in.Goals as goal

none_rise : IsRising []
unfolding IsStrictlySortedBy
none_rise = tt

pub returns-in-Code : goal.returns-in-Code
returns-in-Code c = record { value = sym (ap (undeclared_in c.args.self.now) c.in-Code.is); rising = none_rise }

pub returns-in-Whole : goal.returns-in-Whole
returns-in-Whole c = record { value = sym (ap (undeclared_in c.args.self.now) c.in-Whole.is); rising = none_rise }
