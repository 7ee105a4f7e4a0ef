-- Rows that show what was said: the options that were used with their values, and the FILEs.
use Rattle.std.proofs.Common.{◌≡◌, ◌∙◌, ap, sym, subst, refl, codes, List, [], ◌∷◌, ◌++◌, Bool, true, false, if◌then◌else◌, Option, Some, None, option_map, find, is_some}
use Rattle.std.specs.Str.{bytes_eq}
use Rattle.clap.specs.Words.{Row, Text, all_of}
use Rattle.clap.specs.Walk.{has_row, with_values, without}
use Rattle.clap.specs.declared.builder.value_parser.Reading.{Reading}
use Rattle.clap.specs.declared.parser.matches.ValueSource.TheVariants.{CommandLine}
use Rattle.ut_words.proofs.RowLaws.{either, either_none, first_use, row_of_use, has_row-all_of, all_of-more, values_in, file_more, option_kept}

-- options with their values
abbrev pub Options : Type 0
Options = List (Text × Text)

-- the value of an option
abbrev pub value_in : Text → Options → Option Text
value_in name options = option_map (λ given. given.1) (find (λ given. bytes_eq given.0 name) options)

-- a list with this one value
abbrev pub one : Text → List Text
one value = value ∷ []

-- no list where there are no values
unfoldable pub some_values : List Text → Option (List Text)
some_values [] = None
some_values (value ∷ values) = Some (value ∷ values)

-- the name of the flag
abbrev pub evidence : Text
evidence = codes "--evidence"

-- the flag has no value but `true`
abbrev pub IsFlag : Text → Text → Type 0
IsFlag name value = bytes_eq name evidence ≡ true → value ≡ codes "true"

-- the rows show these options and FILEs
pub record Shows (rows : List Row) (options : Options) (files : List Text) : Type 0 where
  pub values : (name : Text) → all_of (45 ∷ name) rows ≡ option_map one (value_in (45 ∷ name) options)
  pub listed : all_of (codes "FILE") rows ≡ some_values files
  pub flag : (value : Text) → value_in evidence options ≡ Some value → value ≡ codes "true"

pub nothing_shown : Shows [] [] []
unfolding some_values
nothing_shown = record { values = λ name. refl; listed = refl; flag = λ value e. cc }

-- an option has a row exactly where it has a value
some_one : (o : Option Text) → is_some (option_map one o) ≡ is_some o
some_one (Some x) = refl
some_one None = refl

pub has_row-shown : (rows : List Row) (options : Options) (files : List Text) (name : Text) → Shows rows options files
    → has_row (45 ∷ name) rows ≡ is_some (value_in (45 ∷ name) options)
has_row-shown rows options files name shown =
    has_row-all_of (45 ∷ name) rows ∙ ap is_some (shown.values name) ∙ some_one (value_in (45 ∷ name) options)

-- the value of an option after one more
pub value_in-more : (name other value : Text) (options : Options) → value_in name (options ++ (other, value) ∷ []) ≡ either (value_in name options) (if bytes_eq other name then Some value else None)
unfolding either
value_in-more name other value [] = by (bytes_eq other name)
  where
    by : (b : Bool) → option_map (λ (given : Text × Text). given.1) (if b then Some (other, value) else None) ≡ (if b then Some value else None)
    by true = refl
    by false = refl
value_in-more name other value (o ∷ options) = by (bytes_eq o.0 name) (value_in-more name other value options)
  where
    by : (b : Bool) → value_in name (options ++ (other, value) ∷ []) ≡ either (value_in name options) (if bytes_eq other name then Some value else None)
        → option_map (λ (given : Text × Text). given.1) (if b then Some o else find (λ given. bytes_eq given.0 name) (options ++ (other, value) ∷ []))
        ≡ either (option_map (λ (given : Text × Text). given.1) (if b then Some o else find (λ given. bytes_eq given.0 name) options)) (if bytes_eq other name then Some value else None)
    by true h = refl
    by false h = h

both_maps : (o : Option Text) (b : Bool) (value : Text) → either (option_map one o) (if b then Some (one value) else None) ≡ option_map one (either o (if b then Some value else None))
unfolding either
both_maps (Some x) b value = refl
both_maps None true value = refl
both_maps None false value = refl

-- the flag has no other value after one more option
flag_more : (old : Option Text) (name value : Text) (v : Text) → IsFlag name value → (old ≡ Some v → v ≡ codes "true")
    → either old (if bytes_eq name evidence then Some value else None) ≡ Some v → v ≡ codes "true"
unfolding either
flag_more (Some x) name value v is before e = before e
flag_more None name value v is before e = by (bytes_eq name evidence) refl e
  where
    by : (b : Bool) → bytes_eq name evidence ≡ b → (if b then Some value else None) ≡ Some v → v ≡ codes "true"
    by true same h =
        let value_is : value ≡ v = cc in
        sym value_is ∙ is same
    by false other h = cc

-- an option that is used for the first time is shown
pub option_shown : (rows : List Row) (options : Options) (files : List Text) (rest value : Text) (how : Reading) → Shows rows options files
    → has_row (45 ∷ rest) rows ≡ false → IsFlag (45 ∷ rest) value
    → Shows (with_values (45 ∷ rest) how CommandLine (value ∷ []) (without (45 ∷ rest) rows)) (options ++ (45 ∷ rest, value) ∷ []) files
option_shown rows options files rest value how shown none flag =
    let row = row_of_use (45 ∷ rest) how (value ∷ []) in
    let same = first_use (45 ∷ rest) how (value ∷ []) rows none in
    subst (λ rs. Shows rs (options ++ (45 ∷ rest, value) ∷ []) files) (sym same) (record {
      values = λ name.
          all_of-more (45 ∷ name) rows row
          ∙ ap (λ o. either o (if bytes_eq (45 ∷ rest) (45 ∷ name) then Some (one value) else None)) (shown.values name)
          ∙ both_maps (value_in (45 ∷ name) options) (bytes_eq (45 ∷ rest) (45 ∷ name)) value
          ∙ ap (option_map one) (sym (value_in-more (45 ∷ name) (45 ∷ rest) value options));
      listed = all_of-more (codes "FILE") rows row ∙ either_none (all_of (codes "FILE") rows) ∙ shown.listed;
      flag = λ v e. flag_more (value_in evidence options) (45 ∷ rest) value v flag (shown.flag v) (sym (value_in-more evidence (45 ∷ rest) value options) ∙ e);
    })

some_more : (files : List Text) (word : Text) → Some (values_in (some_values files) ++ word ∷ []) ≡ some_values (files ++ word ∷ [])
unfolding some_values values_in
some_more [] word = refl
some_more (file ∷ files) word = refl

-- one more FILE is shown
pub file_shown : (rows : List Row) (options : Options) (files : List Text) (word : Text) (how : Reading) → Shows rows options files
    → Shows (with_values (codes "FILE") how CommandLine (word ∷ []) rows) options (files ++ word ∷ [])
file_shown rows options files word how shown = record {
  values = λ name. option_kept how word name rows ∙ shown.values name;
  listed = file_more how word rows ∙ ap (λ o. Some (values_in o ++ word ∷ [])) shown.listed ∙ some_more files word;
  flag = shown.flag;
}
