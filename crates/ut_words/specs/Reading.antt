-- What clap's rows hold of the words, and what is read of them. The words of inner functions.
use Rattle.std.specs.Prelude.{◌≡◌, ◌==◌, ◌&&◌, Bool, not, codes, bytes_eq, true, false, option_map, Result, Ok, Err, Option, None, Some, List, [], ◌∷◌, if◌then◌else◌}
use Rattle.std.specs.List.{AllByRecursion}
use Rattle.std.specs.Str.{IsUtf8}
use Rattle.clap.specs.Words.{Row, all_of, first_of, found_of, rows_of}
use Rattle.clap.specs.declared.parser.matches.ArgMatches.{ArgMatches}
use Rattle.ut_text.specs.Bytes.{Bytes}
use Rattle.ut_words.specs.declared.bad.WordsBad.{WordsBad}
use Rattle.ut_words.specs.declared.bad.WordsBad.TheVariants as bad
use Rattle.ut_words.specs.declared.names.Names.{Names}
use Rattle.ut_words.specs.declared.numbers.Numbers.{Numbers}
use Rattle.ut_words.specs.declared.order.Order.{Order}
use Rattle.ut_words.specs.declared.order.UsageKind.{UsageKind}
use Rattle.ut_words.specs.declared.order.UsageKind.TheVariants as usage
use Rattle.ut_words.specs.Said.{Said, given, is_given}
use Rattle.ut_words.specs.Values.{number_of}
use Rattle.ut_words.specs.Words.{number_or}

-- no list where there is no FILE
abbrev pub some_files : List Bytes → Option (List Bytes)
some_files [] = None
some_files (file ∷ files) = Some (file ∷ files)

-- the rows hold what is said: the value of each option, whether the flag is given, and the FILEs
pub record Holds (said : Said) (rows : List Row) : Type 0 where
  pub values : (name : Bytes) → bytes_eq (codes "-evidence") name ≡ false → first_of (45 ∷ name) rows ≡ given (45 ∷ name) said
  pub flag : first_of (codes "--evidence") rows ≡ Some (if is_given said (codes "--evidence") then codes "true" else codes "false")
  pub sources : all_of (codes "FILE") rows ≡ some_files said.files

-- the words are text
abbrev pub AreUtf8 : List Bytes → Type 0
AreUtf8 words = AllByRecursion IsUtf8 words

-- what clap found holds what is said
abbrev pub Reads : Said → ArgMatches → Type 0
Reads said matches = Holds said (rows_of (found_of matches))

-- the name of an option with a value
abbrev pub is_valued : Bytes → Bool
is_valued [] = false
is_valued (hyphen ∷ name) = hyphen == 45 && not (bytes_eq (codes "-evidence") name)

-- words are refused for want of memory, or as words that say nothing
abbrev pub IsRefusal : WordsBad → Option Said → Type 0
IsRefusal bad.Oom said = Unit {0}
IsRefusal (bad.Usage kind) said = (kind ≡ usage.Words) × (said ≡ None)

-- a test is failed, and this is its kind; or memory ran out
abbrev pub Fails : UsageKind → Bool → WordsBad → Type 0
Fails kind right bad.Oom = Unit {0}
Fails kind right (bad.Usage other) = (other ≡ kind) × (right ≡ false)

-- a test is passed, and gives this value; or it is failed
abbrev pub Tests : {A : Type 0} → UsageKind → Bool → A → Result A WordsBad → Type 0
Tests kind right value (Ok found) = (right ≡ true) × (found ≡ value)
Tests kind right value (Err e) = Fails kind right e

-- an answer is the order or the usage kind, or that memory ran out
abbrev pub Answers : Result Order WordsBad → Result Order UsageKind → Type 0
Answers (Ok o) order = order ≡ Ok o
Answers (Err (bad.Usage kind)) order = order ≡ Err kind
Answers (Err bad.Oom) order = Unit {0}

-- the value where it is right, and none else
abbrev pub some_if : {A : Type 0} → Bool → A → Option A
some_if right value = if right then Some value else None

-- the numbers of the options
abbrev pub numbers_of : Said → Numbers
numbers_of said = record {
  workers = number_or 1 (codes "-t") said;
  steps = number_or 4000000 (codes "--steps") said;
  size = option_map number_of (given (codes "--size") said);
}

-- the files that the options name
abbrev pub names_of : Said → Names
names_of said = record {
  model = given (codes "-m") said;
  kconfig = given (codes "--kconfig") said;
  rsf = given (codes "--rsf") said;
  kbuild = given (codes "--kbuild") said;
  report = given (codes "--report") said;
  trace = given (codes "--trace") said;
  white = given (codes "--white") said;
  black = given (codes "--black") said;
}
