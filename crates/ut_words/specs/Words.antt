-- The order that the words give, or the first usage kind in order of testing. This project's rule.
use Rattle.std.specs.Prelude.{ℕ, Bool, true, ◌&&◌, ◌==◌, not, codes, bytes_eq, find, Option, None, Some, unwrap_or, option_map, Result, Ok, Err, List, [], ◌∷◌, if◌then◌else◌}
use Rattle.std.specs.Option.{option_map_or}
use Rattle.std.specs.List.{list_all}
use Rattle.ut_base.specs.Names.{is_name}
use Rattle.ut_words.specs.declared.order.Job.{Job}
use Rattle.ut_words.specs.declared.order.Order.{Order}
use Rattle.ut_words.specs.declared.order.Style.{Style}
use Rattle.ut_words.specs.declared.order.Style.TheVariants as style
use Rattle.ut_words.specs.declared.order.UsageKind.{UsageKind}
use Rattle.ut_words.specs.declared.order.UsageKind.TheVariants as usage
use Rattle.ut_text.specs.Bytes.{Bytes}
use Rattle.ut_words.specs.Spelled.{begins_with}
use Rattle.ut_words.specs.Values.{are_distinct, number_of, vars_of}
use Rattle.ut_words.specs.Options.{Form, OptionRow, options}
use Rattle.ut_words.specs.Said.{Said, said_by, given, is_given}
use Rattle.ut_words.specs.Jobs.{JobRow, job_named, jobs}

-- the place of a kind in the order of testing
abbrev pub place : UsageKind → ℕ
place usage.Words = 0
place usage.Job = 1
place usage.Number = 2
place usage.Style = 3
place usage.Var = 4
place usage.Needs = 5
place usage.File = 6

-- an option that isn't given, or whose value has the form
abbrev pub fits_if_given : Form → Bytes → Said → Bool
fits_if_given form name said = option_map_or form.fits (given name said) true

-- the value of an option, if it is given, isn't refused by this kind
abbrev pub is_right : UsageKind → Said → OptionRow → Bool
is_right kind said row = option_map_or (λ form. if place form.kind == place kind then fits_if_given form row.name said else true) row.form true

-- no value of an option is refused by this kind
abbrev pub are_right : UsageKind → List OptionRow → Said → Bool
are_right kind table said = list_all (is_right kind said) table

-- FILEs: names that don't begin with a space, each once
abbrev pub are_sources : List Bytes → Bool
are_sources files = list_all (λ file. is_name file && not (begins_with (codes " ") file)) files && are_distinct files

-- the tests of what words say for a job, in order
abbrev pub tests : List OptionRow → JobRow → Said → List (UsageKind × Bool)
tests table job said =
    (usage.Number, are_right usage.Number table said)
    ∷ (usage.Style, are_right usage.Style table said)
    ∷ (usage.Var, are_right usage.Var table said)
    ∷ (usage.Needs, job.needs said)
    ∷ (usage.File, are_right usage.File table said && are_sources said.files)
    ∷ []

-- the kind of the first test that isn't passed
abbrev pub first_failed : List (UsageKind × Bool) → Option UsageKind
first_failed all = option_map (λ test. test.0) (find (λ test. not test.1) all)

-- the style of a text
abbrev pub style_of : Bytes → Style
style_of text = if bytes_eq text (codes "min") then style.Min else style.Simple

-- the number of an option, or this one
abbrev pub number_or : ℕ → Bytes → Said → ℕ
number_or n name said = option_map_or number_of (given name said) n

-- what is ordered
abbrev pub order : Job → Said → Order
order job said = record {
  job = job;
  model = given (codes "-m") said;
  workers = number_or 1 (codes "-t") said;
  kconfig = given (codes "--kconfig") said;
  rsf = given (codes "--rsf") said;
  kbuild = given (codes "--kbuild") said;
  vars = option_map_or vars_of (given (codes "--var") said) [];
  steps = number_or 4000000 (codes "--steps") said;
  evidence = is_given said (codes "--evidence");
  report = given (codes "--report") said;
  trace = given (codes "--trace") said;
  white = given (codes "--white") said;
  black = given (codes "--black") said;
  style = option_map_or style_of (given (codes "--style") said) style.Simple;
  size = option_map number_of (given (codes "--size") said);
  files = said.files;
}

-- the order, unless a test isn't passed
abbrev pub order_unless : Option UsageKind → Order → Result Order UsageKind
order_unless None o = Ok o
order_unless (Some kind) o = Err kind

-- the order of a job
abbrev pub order_for : List OptionRow → Said → Option JobRow → Result Order UsageKind
order_for table said None = Err usage.Job
order_for table said (Some row) = order_unless (first_failed (tests table row said)) (order row.job said)

-- the order that words say; without a job it is dead
abbrev pub order_said : List OptionRow → List JobRow → Option Said → Result Order UsageKind
order_said table rows None = Err usage.Words
order_said table rows (Some said) = order_for table said (job_named rows (unwrap_or (given (codes "-j") said) (codes "dead")))

-- the order of words by these tables
abbrev pub order_by : List OptionRow → List JobRow → List Bytes → Result Order UsageKind
order_by table rows words = order_said table rows (said_by table words)

-- the order of words
abbrev pub order_of : List Bytes → Result Order UsageKind
order_of words = order_by options jobs words
