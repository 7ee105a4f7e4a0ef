-- The rows of a parse hold what the words say, and clap refuses exactly the words that say nothing.
use Rattle.std.proofs.Common.{◌≡◌, ◌∙◌, ap, sym, subst, refl, codes, List, [], ◌∷◌, ◌++◌, Some, None, Option, IfSome, Bool, true, false, if◌then◌else◌, option_map, is_some, fold, slice_get, find}
use Rattle.std.proofs.Common.{◌==◌, not, ◌⊎◌, inl, inr, Bor, map, unwrap_or}
use Rattle.std.proofs.lemmas.Bool.{eqb-true, false≢true}
use Rattle.std.specs.Prelude.{option_and_then}
use Rattle.std.specs.Option.{IsSomeAnd}
use Rattle.std.specs.Str.{bytes_eq}
use Rattle.clap.specs.Words.{HasKind, IsAmong, Kinds, Row, Text, all_of, first_of, fault_of, kind_of, matches_of}
use Rattle.clap.specs.declared.error.Error.{Error}
use Rattle.clap.specs.declared.error.kind.ErrorKind.{ErrorKind}
use Rattle.clap.specs.declared.error.kind.ErrorKind.TheVariants as kind
use Rattle.clap.specs.Walk.{idle, has_row, more_values, reading_by, with_default, with_values}
use Rattle.clap.specs.declared.parser.matches.ValueSource.TheVariants.{DefaultValue}
use Rattle.ut_words.specs.Command.{the_app}
use Rattle.ut_words.specs.Options.{options}
use Rattle.ut_words.specs.declared.bad.WordsBad.{WordsBad}
use Rattle.ut_words.specs.declared.bad.WordsBad.TheVariants as bad
use Rattle.ut_words.specs.declared.order.UsageKind.TheVariants as usage
use Rattle.ut_words.specs.Reading.{AreUtf8, Holds, IsRefusal, is_valued, some_files}
use Rattle.ut_words.specs.Said.{Said, given, is_given, is_once, said_by, words_said}
use Rattle.ut_words.proofs.BoolLaws.{left_of, right_of}
use Rattle.ut_words.proofs.Nil.{is_nil}
use Rattle.ut_words.proofs.RowLaws.{absent, all_of-more, either, either_none}
use Rattle.ut_words.proofs.Rules.{ruled, rule_for}
use Rattle.ut_words.proofs.Shown.{Shows, evidence, one, some_values, value_in, has_row-shown}
use Rattle.ut_words.proofs.Turns.{rules, at}
use Rattle.ut_words.proofs.Walking.{accepts, is_fresh, rows_at_end, walk_agrees}
use Rattle.ut_words.proofs.Ending.{fault_of-accepts, finished_is, the_flag}
use Rattle.ut_words.proofs.Once.{fresh-once}

-- the first of some values
abbrev first_value : Option (List Text) → Option Text
first_value o = option_and_then (λ values. slice_get values 0) o

first_of-all_of : (id : Text) (rows : List Row) → first_of id rows ≡ first_value (all_of id rows)
first_of-all_of id rows = by (find (λ r. bytes_eq r.id id) rows)
  where
    by : (o : Option Row) → option_and_then (λ (r : Row). slice_get r.values 0) o ≡ first_value (option_map (λ (r : Row). r.values) o)
    by (Some r) = refl
    by None = refl

first_one : (o : Option Text) → first_value (option_map one o) ≡ o
first_one (Some x) = refl
first_one None = refl

-- what the flag's default adds
abbrev flag_row : Row
flag_row = record { id = evidence; values = codes "false" ∷ []; count = None; source = Some DefaultValue; reading = reading_by the_flag }

with_flag : (rows : List Row) → has_row evidence rows ≡ true → with_default rows the_flag ≡ rows
unfolding rule_for ruled
with_flag rows has = ap (λ b. if b then rows else with_values evidence (reading_by the_flag) DefaultValue (codes "false" ∷ []) rows) has

without_flag : (rows : List Row) → has_row evidence rows ≡ false → with_default rows the_flag ≡ rows ++ flag_row ∷ []
unfolding rule_for ruled
without_flag rows has =
    ap (λ b. if b then rows else with_values evidence (reading_by the_flag) DefaultValue (codes "false" ∷ []) rows) has
    ∙ absent evidence (more_values DefaultValue (codes "false" ∷ [])) (flag_row ∷ []) rows has

files_alike : (files : List Text) → some_values files ≡ some_files files
unfolding some_values
files_alike [] = refl
files_alike (file ∷ files) = refl

-- the rows at the end of a walk, with the default of the flag, hold what they show
flag_given : (o : Option Text) → ((value : Text) → o ≡ Some value → value ≡ codes "true") → is_some o ≡ true
    → first_value (option_map one o) ≡ Some (if is_some o then codes "true" else codes "false")
flag_given (Some x) is some = ap (λ (v : Text). Some v) (is x refl)
flag_given None is some = absurd (false≢true some)

flag_not_given : (o : Option Text) → is_some o ≡ false
    → first_value (either (option_map one o) (Some (codes "false" ∷ []))) ≡ Some (if is_some o then codes "true" else codes "false")
unfolding either
flag_not_given (Some x) none = absurd (false≢true (sym none))
flag_not_given None none = refl

holds_with : (rows : List Row) (said : Said) → Shows rows said.options said.files → has_row evidence rows ≡ true → Holds said rows
holds_with rows said shows has = record {
  values = λ name other. first_of-all_of (45 ∷ name) rows ∙ ap first_value (shows.values name) ∙ first_one (value_in (45 ∷ name) said.options);
  flag =
      first_of-all_of evidence rows ∙ ap first_value (shows.values (codes "-evidence"))
      ∙ flag_given (value_in evidence said.options) shows.flag (sym (has_row-shown rows said.options said.files (codes "-evidence") shows) ∙ has);
  sources = shows.listed ∙ files_alike said.files;
}

holds_without : (rows : List Row) (said : Said) → Shows rows said.options said.files → has_row evidence rows ≡ false → Holds said (rows ++ flag_row ∷ [])
holds_without rows said shows has = record {
  values = λ name other.
      first_of-all_of (45 ∷ name) (rows ++ flag_row ∷ [])
      ∙ ap first_value
      (all_of-more (45 ∷ name) rows flag_row
      ∙ ap (λ b. either (all_of (45 ∷ name) rows) (if b then Some (codes "false" ∷ []) else None)) other
      ∙ either_none (all_of (45 ∷ name) rows) ∙ shows.values name)
      ∙ first_one (value_in (45 ∷ name) said.options);
  flag =
      first_of-all_of evidence (rows ++ flag_row ∷ [])
      ∙ ap first_value (all_of-more evidence rows flag_row ∙ ap (λ o. either o (Some (codes "false" ∷ []))) (shows.values (codes "-evidence")))
      ∙ flag_not_given (value_in evidence said.options) (sym (has_row-shown rows said.options said.files (codes "-evidence") shows) ∙ has);
  sources = all_of-more (codes "FILE") rows flag_row ∙ either_none (all_of (codes "FILE") rows) ∙ shows.listed ∙ files_alike said.files;
}

holds : (rows : List Row) (said : Said) → Shows rows said.options said.files → Holds said (fold with_default rows rules)
holds rows said shows = subst (Holds said) (sym (finished_is rows)) (by (has_row evidence rows) refl)
  where
    by : (b : Bool) → has_row evidence rows ≡ b → Holds said (with_default rows the_flag)
    by true has = subst (Holds said) (sym (with_flag rows has)) (holds_with rows said shows has)
    by false has = subst (Holds said) (sym (without_flag rows has)) (holds_without rows said shows has)

-- what words say, if no option stands twice
abbrev gated : Option Said → Option Said
gated o = option_and_then (λ said. if is_once said then Some said else None) o

gated_some : (o : Option Said) (rows : List Row) → is_fresh [] o ≡ true → IfSome o (λ s. Shows rows ([] ++ s.options) ([] ++ s.files))
    → IsSomeAnd (gated o) (λ said. Holds said (fold with_default rows rules))
unfolding is_fresh
gated_some None rows is shows = absurd (false≢true is)
gated_some (Some s) rows is shows =
    subst (λ b. IsSomeAnd (if b then Some s else None) (λ said. Holds said (fold with_default rows rules))) (sym is ∙ fresh-once s.options) (holds rows s shows)

gated_none : (o : Option Said) → is_fresh [] o ≡ false → gated o ≡ None
unfolding is_fresh
gated_none None is = refl
gated_none (Some s) is = ap (λ b. if b then Some s else None) (sym (fresh-once s.options) ∙ is)

-- where clap refuses nothing, its rows hold what the words say
pub parsed_holds : (words : List Text) → AreUtf8 words → fault_of the_app words ≡ [] → IsSomeAnd (said_by options words) (λ said. Holds said (matches_of the_app words))
unfolding is_nil
parsed_holds words utf8 free =
    let agrees = walk_agrees words utf8 in
    let accepted : accepts (at [] None idle) words ≡ true = sym (fault_of-accepts words) ∙ ap is_nil free in
    gated_some (words_said options None words) (rows_at_end (at [] None idle) words) (sym agrees.same ∙ accepted) (agrees.shown accepted)

-- where it refuses something, so does the definition
pub refused_says_nothing : (words : List Text) → AreUtf8 words → is_nil (fault_of the_app words) ≡ false → said_by options words ≡ None
refused_says_nothing words utf8 refused =
    gated_none (words_said options None words) (sym (walk_agrees words utf8).same ∙ sym (fault_of-accepts words) ∙ refused)

-- the same, as the code has it
pub said_where_parsed : (words : List Text) (rows : List Row) → AreUtf8 words → (fault_of the_app words ≡ []) × (rows ≡ matches_of the_app words)
    → IsSomeAnd (said_by options words) (λ said. Holds said rows)
said_where_parsed words rows all h =
    subst (λ rs. IsSomeAnd (said_by options words) (λ said. Holds said rs)) (sym h.1) (parsed_holds words all h.0)

refused_kinds : (kinds : Kinds) (k : ErrorKind) → IsAmong k kinds → is_nil kinds ≡ false
unfolding is_nil
refused_kinds [] k among = absurd among
refused_kinds (x ∷ kinds) k among = refl

pub refusal_where_refused : (words : List Text) (error : Error) (b : WordsBad) → AreUtf8 words → HasKind (fault_of the_app words) error
    → (kind_of error ≡ kind.OutOfMemory → b ≡ bad.Oom) → (b ≡ bad.Oom) ⊎ (b ≡ bad.Usage usage.Words) → IsRefusal b (said_by options words)
refusal_where_refused words error b all (inl memory) oom words_kind = subst (λ x. IsRefusal x (said_by options words)) (sym (oom memory)) tt
refusal_where_refused words error b all (inr among) oom (inl is) = subst (λ x. IsRefusal x (said_by options words)) (sym is) tt
refusal_where_refused words error b all (inr among) oom (inr is) =
    subst (λ x. IsRefusal x (said_by options words)) (sym is)
    (refl, refused_says_nothing words all (refused_kinds (fault_of the_app words) (kind_of error) among))

not_true : (b : Bool) → not b ≡ true → b ≡ false
not_true true h = absurd (false≢true h)
not_true false h = refl

-- the value of an option with a value
pub value_held : (said : Said) (rows : List Row) (name : Text) → Holds said rows → is_valued name ≡ true → first_of name rows ≡ given name said
value_held said rows [] holds valued = absurd (false≢true valued)
value_held said rows (hyphen ∷ name) holds valued =
    let first : hyphen ≡ 45 = eqb-true hyphen 45 (left_of (hyphen == 45) (not (bytes_eq (codes "-evidence") name)) valued) in
    let other : bytes_eq (codes "-evidence") name ≡ false = not_true (bytes_eq (codes "-evidence") name) (right_of (hyphen == 45) (not (bytes_eq (codes "-evidence") name)) valued) in
    subst (λ h. first_of (h ∷ name) rows ≡ given (h ∷ name) said) (sym first) (holds.values name other)

-- the flag's text says whether it is given
flag_tells : (given_it : Bool) (text : Text) → Some text ≡ Some (if given_it then codes "true" else codes "false") → bytes_eq text (codes "true") ≡ given_it
flag_tells true text e =
    let same : text ≡ codes "true" = cc in
    ap (λ t. bytes_eq t (codes "true")) same
flag_tells false text e =
    let same : text ≡ codes "false" = cc in
    ap (λ t. bytes_eq t (codes "true")) same

pub evidence_held : (said : Said) (rows : List Row) (text : Text) → Holds said rows → Some text ≡ first_of (codes "--evidence") rows → bytes_eq text (codes "true") ≡ is_given said (codes "--evidence")
evidence_held said rows text holds is = flag_tells (is_given said (codes "--evidence")) text (is ∙ holds.flag)

pub evidence_there : (said : Said) (rows : List Row) → Holds said rows → None ≡ first_of (codes "--evidence") rows → ⊥
evidence_there said rows holds is = by (is ∙ holds.flag)
  where
    by : None ≡ Some (if is_given said (codes "--evidence") then codes "true" else codes "false") → ⊥
    by e = absurd cc

-- the FILEs are those that are found
some_files_are : (files found : List Text) → Some found ≡ some_files files → found ≡ files
some_files_are [] found e = absurd cc
some_files_are (file ∷ files) found e = cc

no_files_are : (files : List Text) → None ≡ some_files files → [] ≡ files
no_files_are [] e = refl
no_files_are (file ∷ files) e = absurd cc

pub files_there : (said : Said) (rows : List Row) (found : Option (Bor (List (Bor Text)))) (result none : Bor (List (Bor Text))) → Holds said rows
    → result ≡ unwrap_or found none → none.now ≡ [] → option_map (λ s. map (λ f. f.now) s.now) found ≡ all_of (codes "FILE") rows → map (λ f. f.now) result.now ≡ said.files
files_there said rows (Some files) result none holds is empty same = ap (λ (b : Bor (List (Bor Text))). map (λ f. f.now) b.now) is ∙ some_files_are said.files (map (λ f. f.now) files.now) (same ∙ holds.sources)
files_there said rows None result none holds is empty same =
    ap (λ (b : Bor (List (Bor Text))). map (λ f. f.now) b.now) is ∙ ap (map (λ f. f.now)) empty ∙ no_files_are said.files (same ∙ holds.sources)
