-- The refusals of reading Kbuild texts. This project's rule.
use Rattle.std.specs.Prelude.{◌≡◌}
use Rattle.ut_base.specs.Reading.{Errors}
use Rattle.ut_base.specs.declared.limits.Limit.{Limit}
use Rattle.ut_base.specs.declared.limits.Limit.TheVariants as limit
use Rattle.kbuild_folders.specs.declared.bad.KbuildBad.{KbuildBad}
use Rattle.kbuild_folders.specs.declared.bad.KbuildBad.TheVariants as bad

-- the limit on paths
abbrev pub IsOfPaths : Limit → Type 0
IsOfPaths what = what ≡ limit.Paths

-- a refusal for what the texts say
abbrev pub IsOfTexts : KbuildBad → Type 0
IsOfTexts (bad.Syntax file line) = Unit {0}
IsOfTexts (bad.TooLarge what count) = IsOfPaths what
IsOfTexts (bad.Missing file) = ⊥
IsOfTexts (bad.ReadFault file) = ⊥
IsOfTexts bad.Oom = ⊥

abbrev pub kbuild_errors : Errors KbuildBad
kbuild_errors = record {
  missing = bad.Missing;
  fault = bad.ReadFault;
  too_large = bad.TooLarge;
  memory = bad.Oom;
  IsOwn = IsOfTexts;
}
