-- Which line is named where a Kconfig text is not of the first form: the first with which no text of the form
-- begins, or the last `config` line where the text ends after it. This project's rule.
use Rattle.std.specs.Prelude.{◌≡◌, ℕ, ◌⊎◌, ◌++◌, length, Ok, List, [], ◌∷◌}
use Rattle.ut_text.specs.Bytes.{Bytes}
use Rattle.ut_text.specs.FirstWrong.{CanGoOn, IsFirstWrong}
use Rattle.kconf_entries.specs.declared.entries.ConfigEntry.{ConfigEntry}
use Rattle.undertaker.specs.declared.first_kconfig.lines.FirstLine.TheVariants.{Config}
use Rattle.undertaker.specs.FirstKconfig.Form.{start, first_line, read_lines}

-- the lines are those of a text of the form
abbrev pub IsOfForm : List Bytes → Type 0
IsOfForm lines = (entries : List ConfigEntry) × (read_lines 1 start lines ≡ Ok entries)

-- the last line is a `config` line
pub record EndsInConfig (lines : List Bytes) : Type 0 where
  pub front : List Bytes
  pub line : Bytes
  pub name : Bytes
  pub last : lines ≡ front ++ line ∷ []
  pub is : first_line line ≡ Config name

-- a text of the form begins with all the lines, but the last one, line n, is a `config` line
pub record EndsBehindConfig (lines : List Bytes) (n : ℕ) : Type 0 where
  pub goes_on : CanGoOn IsOfForm lines
  pub last : n ≡ length lines
  pub config : EndsInConfig lines

-- the line that is named
abbrev pub IsNamed : List Bytes → ℕ → Type 0
IsNamed lines n = IsFirstWrong IsOfForm lines n ⊎ EndsBehindConfig lines n
