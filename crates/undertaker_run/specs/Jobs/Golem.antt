-- Job golem: the conditions under which the build takes each source. Rule: Linux kbuild/makefiles, "Built-in object
-- goals" and "Descending down in directories"; the text is this project's rule.
use Rattle.std.specs.Prelude.{◌≡◌, Option, Result, Ok}
use Rattle.std.specs.Result.{result_map_both}
use Rattle.ut_text.specs.Bytes.{Bytes}
use Rattle.ut_base.specs.Plans.{outcome}
use Rattle.kbuild_files.specs.Golem.{golem_text_of}
use Rattle.kbuild_folders.specs.Errors.{kbuild_errors}
use Rattle.kbuild_cond.specs.Reading.{kbuild_plan}
use Rattle.undertaker_run.specs.Errors.{bad_of_kbuild}
use Rattle.undertaker_run.specs.declared.bad.Bad.{Bad}
use Rattle.undertaker_run.specs.declared.texts.Texts.{Texts}

-- the text of what was read
abbrev pub IsGolem : Texts → Result Bytes Bad → Type 0
IsGolem texts r = r ≡ Ok (golem_text_of texts.kbuild)

-- the text over these files, from a root text on, or the first refusal
abbrev pub golem_of : (Bytes → Option Bytes) → Bytes → Result Bytes Bad
golem_of files root = result_map_both golem_text_of bad_of_kbuild (outcome kbuild_errors files (kbuild_plan root) 0).result
