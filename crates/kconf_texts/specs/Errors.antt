-- The refusals of Kconfig texts that reading files makes by itself, and those of lines. This project's words.
use Rattle.ut_base.specs.Reading.{Errors}
use Rattle.kconf_texts.specs.declared.bad.KconfBad.{KconfBad}
use Rattle.kconf_texts.specs.declared.bad.KconfBad.TheVariants as bad

-- a refusal of a line
abbrev pub IsOfLine : KconfBad → Type 0
IsOfLine (bad.Syntax file line kind) = Unit {0}
IsOfLine (bad.Missing file) = ⊥
IsOfLine (bad.ReadFault file) = ⊥
IsOfLine (bad.Macro file line) = Unit {0}
IsOfLine (bad.Depth file line what) = Unit {0}
IsOfLine (bad.TooLarge what count) = ⊥
IsOfLine bad.Oom = ⊥

abbrev pub kconf_errors : Errors KconfBad
kconf_errors = record {
  missing = bad.Missing;
  fault = bad.ReadFault;
  too_large = bad.TooLarge;
  memory = bad.Oom;
  IsOwn = IsOfLine;
}
