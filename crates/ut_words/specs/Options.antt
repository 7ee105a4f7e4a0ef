-- The options in one table, as in the manual: the name, and the form of its value. This project's rule.
use Rattle.std.specs.Prelude.{ℕ, Bool, true, false, ◌&&◌, nat_le, codes, bytes_eq, Option, None, Some, List, [], ◌∷◌, find}
use Rattle.ut_base.specs.Names.{is_name}
use Rattle.ut_text.specs.Bytes.{Bytes}
use Rattle.ut_words.specs.declared.order.UsageKind.{UsageKind}
use Rattle.ut_words.specs.declared.order.UsageKind.TheVariants as usage
use Rattle.ut_words.specs.Values.{is_number, number_of, is_one_of, are_vars}

-- the form of a value, and the usage kind of a value that doesn't have it
pub record Form : Type 0 where
  pub fits : Bytes → Bool
  pub kind : UsageKind

-- a job; the table of jobs has their names
abbrev pub a_job : Form
a_job = record { fits = λ value. true; kind = usage.Job }

-- the name of a file
abbrev pub a_file : Form
a_file = record { fits = is_name; kind = usage.File }

-- a number from the first to the last
abbrev pub a_number : ℕ → ℕ → Form
a_number first last = record {
  fits = λ value. is_number value && (nat_le first (number_of value) && nat_le (number_of value) last);
  kind = usage.Number;
}

-- values for macros
abbrev pub some_vars : Form
some_vars = record { fits = are_vars; kind = usage.Var }

-- one of the styles
abbrev pub a_style : Form
a_style = record { fits = is_one_of (codes "simple" ∷ codes "min" ∷ []); kind = usage.Style }

-- a row of the table; an option that isn't built yet is unknown; a flag has no value
pub record OptionRow : Type 0 where
  pub name : Bytes
  pub form : Option Form
  pub built : Bool

-- an option with a value
abbrev pub valued : Bytes → Form → OptionRow
valued name form = record { name = name; form = Some form; built = true }

-- an option without one
abbrev pub flag : Bytes → OptionRow
flag name = record { name = name; form = None; built = true }

-- a row that isn't built yet
abbrev pub later : OptionRow → OptionRow
later row = record row { built = false }

-- the table
abbrev pub options : List OptionRow
options =
    valued (codes "-j") a_job
    ∷ later (valued (codes "-m") a_file)
    ∷ valued (codes "-t") (a_number 1 64)
    ∷ valued (codes "--kconfig") a_file
    ∷ later (valued (codes "--rsf") a_file)
    ∷ valued (codes "--kbuild") a_file
    ∷ valued (codes "--var") some_vars
    ∷ valued (codes "--steps") (a_number 0 1000000000000)
    ∷ flag (codes "--evidence")
    ∷ valued (codes "--report") a_file
    ∷ valued (codes "--trace") a_file
    ∷ valued (codes "--white") a_file
    ∷ valued (codes "--black") a_file
    ∷ valued (codes "--style") a_style
    ∷ valued (codes "--size") (a_number 1 10000)
    ∷ []

-- the row of a name, if it is built
abbrev pub option_named : List OptionRow → Bytes → Option OptionRow
option_named rows name = find (λ row. row.built && bytes_eq row.name name) rows
