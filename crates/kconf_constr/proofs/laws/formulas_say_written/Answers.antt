use Rattle.std.proofs.Common.{refl}
use Rattle.kconf_constr.specs.PropertyFormulas.{written_formula}
use Rattle.kconf_constr.proofs.WrittenLaws.{writes_of, owns_of}
use Rattle.kconf_constr.proofs.laws.formulas_say_written.Goals as goal

pub returns-clause-says : goal.returns-clause-says
returns-clause-says a s k = writes_of s s k (written_formula s k) refl refl

pub returns-clause-mentions : goal.returns-clause-mentions
returns-clause-mentions a s k = owns_of s s k (written_formula s k) refl refl
