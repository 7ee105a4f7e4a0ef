-- What a run reads, in the order of work, and what that comes to. This project's rule.
use Rattle.std.specs.Prelude.{◌≡◌, Option, None, Some, Ok}
use Rattle.ut_text.specs.Bytes.{Bytes}
use Rattle.ut_base.specs.Plans.{plan}
use Rattle.ut_base.specs.Reading.{Step, ◌>>=◌, turned, says}
use Rattle.kbuild_paths.specs.Paths.{Conds, names_nothing}
use Rattle.kbuild_folders.specs.Errors.{kbuild_errors}
use Rattle.kbuild_cond.specs.Reading.{kbuild_plan}
use Rattle.ut_words.specs.declared.order.Order.{Order}
use Rattle.undertaker_run.specs.Errors.{run_errors, bad_of_kbuild}
use Rattle.undertaker_run.specs.declared.bad.Bad.{Bad}
use Rattle.undertaker_run.specs.declared.texts.Texts.{Texts}

-- the texts that an order names
pub record Wanted : Type 0 where
  -- the root text of Kbuild
  pub kbuild : Option Bytes

-- what golem reads, the one job that is built
abbrev pub wanted_of : Order → Wanted
wanted_of order = record { kbuild = order.kbuild }

-- the files that Kbuild texts name; no file where no root text is given
abbrev pub kbuild_of : Option Bytes → Step Conds Bad
kbuild_of None = says run_errors (λ r. r ≡ Ok names_nothing)
kbuild_of (Some root) = turned bad_of_kbuild (plan kbuild_errors (kbuild_plan root))

-- all texts, one after another; the first refusal ends the run
abbrev pub texts_of : Wanted → Step Texts Bad
texts_of wanted = kbuild_of wanted.kbuild >>= λ conds. says run_errors (λ t. t ≡ Ok (record { kbuild = conds }))
