-- What is found in the rows of clap after one more use of an argument.
use Rattle.std.proofs.Common.{◌≡◌, ◌∙◌, ap, refl, codes, List, [], ◌∷◌, ◌++◌, Bool, true, false, ◌||◌, if◌then◌else◌, Option, Some, None, option_map, find, is_some, append-nil}
use Rattle.std.specs.Str.{bytes_eq}
use Rattle.clap.specs.Words.{Row, Text, all_of}
use Rattle.clap.specs.Walk.{at_row, has_row, more_values, with_values, without}
use Rattle.clap.specs.declared.builder.value_parser.Reading.{Reading}
use Rattle.clap.specs.declared.parser.matches.ValueSource.TheVariants.{CommandLine}
use Rattle.ut_words.proofs.BoolLaws.{or_left_false, or_right_false, same_text_of}

-- the first of two values, if any
unfoldable pub either : {A : Type 0} → Option A → Option A → Option A
either (Some x) other = Some x
either None other = other

pub either_none : {A : Type 0} (o : Option A) → either o None ≡ o
unfolding either
either_none (Some x) = refl
either_none None = refl

-- a new row is put at the end
pub absent : (id : Text) (change : Row → List Row) (missing rows : List Row) → has_row id rows ≡ false → at_row id change missing rows ≡ rows ++ missing
absent id change missing [] none = refl
absent id change missing (r ∷ rs) none =
    let miss : bytes_eq r.id id ≡ false = or_left_false (bytes_eq r.id id) (has_row id rs) none in
    rw miss (ap (λ l. r ∷ l) (absent id change missing rs (or_right_false (bytes_eq r.id id) (has_row id rs) none)))

-- the row of an option that is used for the first time
abbrev pub row_of_use : Text → Reading → List Text → Row
row_of_use id how values = record { id = id; values = values; count = None; source = Some CommandLine; reading = how }

pub first_use : (id : Text) (how : Reading) (values : List Text) (rows : List Row) → has_row id rows ≡ false
    → with_values id how CommandLine values (without id rows) ≡ rows ++ row_of_use id how values ∷ []
first_use id how values rows none =
    ap (with_values id how CommandLine values) (absent id (λ _. []) [] rows none ∙ append-nil rows)
    ∙ absent id (more_values CommandLine values) (row_of_use id how values ∷ []) rows none

-- there is a row exactly where its values are found
pub has_row-all_of : (id : Text) (rows : List Row) → has_row id rows ≡ is_some (all_of id rows)
has_row-all_of id [] = refl
has_row-all_of id (r ∷ rs) = by (bytes_eq r.id id) (has_row-all_of id rs)
  where
    by : (b : Bool) → has_row id rs ≡ is_some (all_of id rs)
        → (b || has_row id rs) ≡ is_some (option_map (λ (s : Row). s.values) (if b then Some r else find (λ s. bytes_eq s.id id) rs))
    by true h = refl
    by false h = h

-- what is found after one more row
pub all_of-more : (id : Text) (rows : List Row) (r : Row) → all_of id (rows ++ r ∷ []) ≡ either (all_of id rows) (if bytes_eq r.id id then Some r.values else None)
unfolding either
all_of-more id [] r = by (bytes_eq r.id id)
  where
    by : (b : Bool) → option_map (λ (s : Row). s.values) (if b then Some r else None) ≡ (if b then Some r.values else None)
    by true = refl
    by false = refl
all_of-more id (q ∷ rows) r = by (bytes_eq q.id id) (all_of-more id rows r)
  where
    by : (b : Bool) → all_of id (rows ++ r ∷ []) ≡ either (all_of id rows) (if bytes_eq r.id id then Some r.values else None)
        → option_map (λ (s : Row). s.values) (if b then Some q else find (λ s. bytes_eq s.id id) (rows ++ r ∷ []))
        ≡ either (option_map (λ (s : Row). s.values) (if b then Some q else find (λ s. bytes_eq s.id id) rows)) (if bytes_eq r.id id then Some r.values else None)
    by true h = refl
    by false h = h

-- the values of a list, and none without one
unfoldable pub values_in : Option (List Text) → List Text
values_in None = []
values_in (Some values) = values

-- one more FILE is found after the others
pub file_more : (how : Reading) (word : Text) (rows : List Row)
    → all_of (codes "FILE") (with_values (codes "FILE") how CommandLine (word ∷ []) rows) ≡ Some (values_in (all_of (codes "FILE") rows) ++ word ∷ [])
unfolding values_in
file_more how word [] = refl
file_more how word (r ∷ rs) = by (bytes_eq r.id (codes "FILE")) refl (file_more how word rs)
  where
    by : (b : Bool) → bytes_eq r.id (codes "FILE") ≡ b
        → all_of (codes "FILE") (with_values (codes "FILE") how CommandLine (word ∷ []) rs) ≡ Some (values_in (all_of (codes "FILE") rs) ++ word ∷ [])
        → all_of (codes "FILE") (with_values (codes "FILE") how CommandLine (word ∷ []) (r ∷ rs)) ≡ Some (values_in (all_of (codes "FILE") (r ∷ rs)) ++ word ∷ [])
    by true hit further = rw (hit, hit) refl
    by false miss further = rw (miss, miss) further

-- a FILE changes nothing of the options
pub option_kept : (how : Reading) (word name : Text) (rows : List Row)
    → all_of (45 ∷ name) (with_values (codes "FILE") how CommandLine (word ∷ []) rows) ≡ all_of (45 ∷ name) rows
option_kept how word name [] = refl
option_kept how word name (r ∷ rs) = by (bytes_eq r.id (codes "FILE")) refl (option_kept how word name rs)
  where
    over : (b : Bool) → all_of (45 ∷ name) (with_values (codes "FILE") how CommandLine (word ∷ []) rs) ≡ all_of (45 ∷ name) rs
        → option_map (λ (s : Row). s.values) (if b then Some r else find (λ s. bytes_eq s.id (45 ∷ name)) (with_values (codes "FILE") how CommandLine (word ∷ []) rs))
        ≡ option_map (λ (s : Row). s.values) (if b then Some r else find (λ s. bytes_eq s.id (45 ∷ name)) rs)
    over true h = refl
    over false h = h

    by : (b : Bool) → bytes_eq r.id (codes "FILE") ≡ b
        → all_of (45 ∷ name) (with_values (codes "FILE") how CommandLine (word ∷ []) rs) ≡ all_of (45 ∷ name) rs
        → all_of (45 ∷ name) (with_values (codes "FILE") how CommandLine (word ∷ []) (r ∷ rs)) ≡ all_of (45 ∷ name) (r ∷ rs)
    by true hit further =
        let other : bytes_eq r.id (45 ∷ name) ≡ false = ap (λ id. bytes_eq id (45 ∷ name)) (same_text_of r.id (codes "FILE") hit) in
        rw (hit, other) refl
    by false miss further = rw miss (over (bytes_eq r.id (45 ∷ name)) further)
