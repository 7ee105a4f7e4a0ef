-- Which refusals of a run are those of reading, and how those of each reader are turned into them. This project's rule.
use Rattle.ut_base.specs.Reading.{Errors}
use Rattle.ut_base.specs.declared.limits.Limit.{Limit}
use Rattle.ut_base.specs.declared.limits.Limit.TheVariants as limit
use Rattle.kbuild_folders.specs.declared.bad.KbuildBad.{KbuildBad}
use Rattle.kbuild_folders.specs.declared.bad.KbuildBad.TheVariants as kbuild
use Rattle.undertaker_run.specs.declared.bad.Bad.{Bad}
use Rattle.undertaker_run.specs.declared.bad.Bad.TheVariants as bad
use Rattle.undertaker_run.specs.declared.bad.LineKind.TheVariants as kind

-- a limit on what the texts say, and not on their bytes
abbrev pub IsOfTexts : Limit → Type 0
IsOfTexts limit.FileBytes = ⊥
IsOfTexts limit.AllBytes = ⊥
IsOfTexts limit.Sources = Unit {0}
IsOfTexts limit.Symbols = Unit {0}
IsOfTexts limit.Members = Unit {0}
IsOfTexts limit.Defaults = Unit {0}
IsOfTexts limit.Nesting = Unit {0}
IsOfTexts limit.SourceDepth = Unit {0}
IsOfTexts limit.Brackets = Unit {0}
IsOfTexts limit.Paths = Unit {0}
IsOfTexts limit.Wishes = Unit {0}
IsOfTexts limit.Constants = Unit {0}
IsOfTexts limit.Replacements = Unit {0}

-- a refusal for what the words or the texts say
abbrev pub IsOwn : Bad → Type 0
IsOwn (bad.Usage kind) = Unit {0}
IsOwn (bad.Line file line kind) = Unit {0}
IsOwn (bad.Missing file) = ⊥
IsOwn (bad.ReadFault file) = ⊥
IsOwn (bad.TooLarge what count) = IsOfTexts what
IsOwn bad.Oom = ⊥

-- the refusals of a run
abbrev pub run_errors : Errors Bad
run_errors = record {
  missing = bad.Missing;
  fault = bad.ReadFault;
  too_large = bad.TooLarge;
  memory = bad.Oom;
  IsOwn = IsOwn;
}

-- a refusal of Kbuild texts
abbrev pub bad_of_kbuild : KbuildBad → Bad
bad_of_kbuild (kbuild.Syntax file line) = bad.Line file line kind.Kbuild
bad_of_kbuild (kbuild.Missing file) = bad.Missing file
bad_of_kbuild (kbuild.ReadFault file) = bad.ReadFault file
bad_of_kbuild (kbuild.TooLarge what count) = bad.TooLarge what count
bad_of_kbuild kbuild.Oom = bad.Oom
