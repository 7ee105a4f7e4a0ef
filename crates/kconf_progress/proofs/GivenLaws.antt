-- A type line more: what it does to the type of its symbol, and to that of a choice.
use Rattle.std.proofs.Common.{ℕ, suc, ◌≡◌, ◌∙◌, refl, sym, ap, ◌<◌, ◌≤◌, ◌==◌, ◌&&◌, arith, Bool, true, false, List, [], ◌∷◌, ◌++◌, append_assoc, Some, None}
use Rattle.std.specs.Prelude.{if◌then◌else◌}
use Rattle.std.proofs.lemmas.Bool.{eqb-true, false≢true}
use Rattle.std.proofs.lemmas.List.{append-nil}
use Rattle.ut_text.specs.Bytes.{Bytes}
use Rattle.ut_text.specs.Text.{text_eq}
use Rattle.kconf_entries.specs.declared.entries.Kind.{Kind}
use Rattle.kconf_entries.specs.declared.entries.Kind.TheVariants as kind
use Rattle.kconf_entries.specs.declared.entries.ChoiceEntry.{ChoiceEntry}
use Rattle.kconf_statements.specs.EntryLines.{first_type, type_of_lines, Entry, At, Before}
use Rattle.kconf_statements.specs.Enclosing.{enclosing}
use Rattle.kconf_statements.specs.Entries.{TypeLine, type_of, is_number, gives_type, given_type, is_logical, may_be_member, choice_entry, choice_of, choices_of, with_choice, choice_count}
use Rattle.kconf_progress.specs.Kept.{on_last}
use Rattle.kconf_progress.proofs.TypeLaws.{first_of_none, counts_on}
use Rattle.kconf_progress.proofs.LastLaws.{on_last_append}

-- ---- the first type
first_assoc : (a b c : Kind) → first_type (first_type a b) c ≡ first_type a (first_type b c)
first_assoc kind.Untyped b c = refl
first_assoc kind.Bool b c = refl
first_assoc kind.Tristate b c = refl
first_assoc kind.Str b c = refl
first_assoc kind.Hex b c = refl
first_assoc kind.Int b c = refl

logical_stays : (k l : Kind) → is_logical k ≡ true → first_type k l ≡ k
logical_stays kind.Bool l h = refl
logical_stays kind.Tristate l h = refl
logical_stays kind.Str l h = absurd (false≢true h)
logical_stays kind.Hex l h = absurd (false≢true h)
logical_stays kind.Int l h = absurd (false≢true h)
logical_stays kind.Untyped l h = absurd (false≢true h)

-- of an entry with a type line more
pub lines_last : (ks : List Kind) (k : Kind) → type_of_lines (ks ++ k ∷ []) ≡ first_type (type_of_lines ks) k
lines_last [] k = first_of_none k
lines_last (l ∷ ks) k = ap (first_type l) (lines_last ks k) ∙ sym (first_assoc l (type_of_lines ks) k)

-- of a symbol
abbrev pub kind_for : TypeLine → Bytes → Kind
kind_for t name = if text_eq t.name name then t.kind else kind.Untyped

pub type_last : (ts : List TypeLine) (t : TypeLine) (name : Bytes) → type_of (ts ++ t ∷ []) name ≡ first_type (type_of ts name) (kind_for t name)
type_last [] t name = by (text_eq t.name name)
  where
    by : (b : Bool) → (if b then first_type t.kind kind.Untyped else kind.Untyped) ≡ (if b then t.kind else kind.Untyped)
    by true = first_of_none t.kind
    by false = refl
type_last (u ∷ ts) t name = by (text_eq u.name name) (type_last ts t name)
  where
    by : (b : Bool) → type_of (ts ++ t ∷ []) name ≡ first_type (type_of ts name) (kind_for t name)
        → (if b then first_type u.kind (type_of (ts ++ t ∷ []) name) else type_of (ts ++ t ∷ []) name)
        ≡ first_type (if b then first_type u.kind (type_of ts name) else type_of ts name) (kind_for t name)
    by true h = ap (first_type u.kind) h ∙ sym (first_assoc u.kind (type_of ts name) (kind_for t name))
    by false h = h

-- ---- the type that a choice is given
abbrev pub given_by : ℕ → List TypeLine → TypeLine → Kind
given_by n earlier t = if gives_type n earlier t then t.kind else kind.Untyped

two : (x y : Bool) → (x && y) ≡ true → y ≡ true
two true y h = h
two false y h = absurd (false≢true h)

one : (x y : Bool) → (x && y) ≡ true → x ≡ true
one true y h = refl
one false y h = absurd (false≢true h)

is_given_logical : (n : ℕ) (earlier : List TypeLine) (t : TypeLine) → gives_type n earlier t ≡ true → is_logical t.kind ≡ true
is_given_logical n earlier t h = one (is_logical t.kind) _ (two (is_number n t.choice) _ h)

pub given_last : (n : ℕ) (earlier ts : List TypeLine) (t : TypeLine) → given_type n earlier (ts ++ t ∷ []) ≡ first_type (given_type n earlier ts) (given_by n (earlier ++ ts) t)
given_last n earlier [] t = ap (λ es. given_by n es t) (sym (append-nil earlier))
given_last n earlier (u ∷ ts) t = by (gives_type n earlier u) refl (given_last n (earlier ++ u ∷ []) ts t)
  where
    more : given_by n ((earlier ++ u ∷ []) ++ ts) t ≡ given_by n (earlier ++ u ∷ ts) t
    more = ap (λ es. given_by n es t) (append_assoc earlier (u ∷ []) ts)

    by : (b : Bool) → gives_type n earlier u ≡ b
        → given_type n (earlier ++ u ∷ []) (ts ++ t ∷ []) ≡ first_type (given_type n (earlier ++ u ∷ []) ts) (given_by n ((earlier ++ u ∷ []) ++ ts) t)
        → (if b then u.kind else given_type n (earlier ++ u ∷ []) (ts ++ t ∷ [])) ≡ first_type (if b then u.kind else given_type n (earlier ++ u ∷ []) ts) (given_by n (earlier ++ u ∷ ts) t)
    by true e h = sym (logical_stays u.kind _ (is_given_logical n earlier u e))
    by false e h = h ∙ ap (first_type (given_type n (earlier ++ u ∷ []) ts)) more

-- ---- choices
-- a line of another choice gives none
gives_no_other : (j n : ℕ) (earlier : List TypeLine) (t : TypeLine) → t.choice ≡ Some n → j < n → given_by j earlier t ≡ kind.Untyped
gives_no_other j n earlier t h lt = rw h (by (j == n) refl)
  where
    by : (b : Bool) → (j == n) ≡ b → (if b && (is_logical t.kind && may_be_member (type_of earlier t.name)) then t.kind else kind.Untyped) ≡ kind.Untyped
    by true e = let z = eqb-true j n e in let w : ⊥ = omega (arith, z, lt) in absurd w
    by false e = refl

abbrev pub with_kind : Kind → ChoiceEntry → ChoiceEntry
with_kind k c = record c { kind = first_type c.kind k }

-- nothing stands after a list
onto_same : {X : Type 0} (f : X → X) (xs ys : List X) → xs ≡ on_last f ys → xs ++ [] ≡ on_last f (ys ++ [])
onto_same f xs ys h = append-nil xs ∙ h ∙ ap (on_last f) (sym (append-nil ys))

module _ (ts : List TypeLine) (t : TypeLine) (n : ℕ) (here : t.choice ≡ Some n) where
  -- of an earlier choice nothing changes
  earlier_same : (before : Before) (e : Entry) → with_choice e (choice_count before) ≤ n → choice_of (ts ++ t ∷ []) before e ≡ choice_of ts before e
  earlier_same before Entry.MainMenu h = refl
  earlier_same before Entry.Comment h = refl
  earlier_same before (Entry.Menu m) h = refl
  earlier_same before (Entry.Config c) h = refl
  earlier_same before (Entry.Choice c) h =
      ap (λ k. choice_entry (enclosing before) (first_type c.kind k) c ∷ [])
      (given_last (choice_count before) [] ts t
      ∙ ap (first_type (given_type (choice_count before) [] ts)) (gives_no_other (choice_count before) n ts t here (omega (arith, h)))
      ∙ first_of_none (given_type (choice_count before) [] ts))
  earlier_same before (Entry.If x) h = refl
  earlier_same before (Entry.End what) h = refl
  earlier_same before (Entry.Source file) h = refl
  earlier_same before Entry.Sourced h = refl

  choices_same : (before : Before) → choice_count before ≤ n → choices_of (ts ++ t ∷ []) before ≡ choices_of ts before
  choices_same [] h = refl
  choices_same (At line e ∷ before) h =
      let more = counts_on e (choice_count before) in
      ap (λ l. l ++ choice_of (ts ++ t ∷ []) before e) (choices_same before (omega (arith, more, h)))
      ∙ ap (λ l. choices_of ts before ++ l) (earlier_same before e h)

  -- the last choice has the type that it is given
  pub last_given : (before : Before) → choice_count before ≡ suc n → choices_of (ts ++ t ∷ []) before ≡ on_last (with_kind (given_by n ts t)) (choices_of ts before)
  last_given [] h = let z : ⊥ = omega (arith, h) in absurd z
  last_given (At line Entry.MainMenu ∷ before) h = onto_same _ _ _ (last_given before h)
  last_given (At line Entry.Comment ∷ before) h = onto_same _ _ _ (last_given before h)
  last_given (At line (Entry.Menu m) ∷ before) h = onto_same _ _ _ (last_given before h)
  last_given (At line (Entry.Config c) ∷ before) h = onto_same _ _ _ (last_given before h)
  last_given (At line (Entry.Choice c) ∷ before) h =
      let num : choice_count before ≡ n = omega (arith, h) in
      let made : given_type (choice_count before) [] (ts ++ t ∷ []) ≡ first_type (given_type (choice_count before) [] ts) (given_by n ts t) =
      given_last (choice_count before) [] ts t ∙ ap (λ k. first_type (given_type (choice_count before) [] ts) (given_by k ts t)) num in
      ap (λ l. l ++ choice_of (ts ++ t ∷ []) before (Entry.Choice c)) (choices_same before (omega (arith, num)))
      ∙ ap (λ k. choices_of ts before ++ choice_entry (enclosing before) k c ∷ [])
      (ap (first_type c.kind) made ∙ sym (first_assoc c.kind (given_type (choice_count before) [] ts) (given_by n ts t)))
      ∙ sym (on_last_append (with_kind (given_by n ts t)) (choices_of ts before) (choice_entry (enclosing before) (first_type c.kind (given_type (choice_count before) [] ts)) c))
  last_given (At line (Entry.If x) ∷ before) h = onto_same _ _ _ (last_given before h)
  last_given (At line (Entry.End what) ∷ before) h = onto_same _ _ _ (last_given before h)
  last_given (At line (Entry.Source file) ∷ before) h = onto_same _ _ _ (last_given before h)
  last_given (At line Entry.Sourced ∷ before) h = onto_same _ _ _ (last_given before h)

-- a line outside of choices gives none
gives_nothing : (j : ℕ) (earlier : List TypeLine) (t : TypeLine) → t.choice ≡ None → given_by j earlier t ≡ kind.Untyped
gives_nothing j earlier t h = rw h refl

module _ (ts : List TypeLine) (t : TypeLine) (outside : t.choice ≡ None) where
  choice_stays : (before : Before) (e : Entry) → choice_of (ts ++ t ∷ []) before e ≡ choice_of ts before e
  choice_stays before Entry.MainMenu = refl
  choice_stays before Entry.Comment = refl
  choice_stays before (Entry.Menu m) = refl
  choice_stays before (Entry.Config c) = refl
  choice_stays before (Entry.Choice c) =
      ap (λ k. choice_entry (enclosing before) (first_type c.kind k) c ∷ [])
      (given_last (choice_count before) [] ts t
      ∙ ap (first_type (given_type (choice_count before) [] ts)) (gives_nothing (choice_count before) ts t outside)
      ∙ first_of_none (given_type (choice_count before) [] ts))
  choice_stays before (Entry.If x) = refl
  choice_stays before (Entry.End what) = refl
  choice_stays before (Entry.Source file) = refl
  choice_stays before Entry.Sourced = refl

  pub choices_stay : (before : Before) → choices_of (ts ++ t ∷ []) before ≡ choices_of ts before
  choices_stay [] = refl
  choices_stay (At line e ∷ before) =
      ap (λ l. l ++ choice_of (ts ++ t ∷ []) before e) (choices_stay before) ∙ ap (λ l. choices_of ts before ++ l) (choice_stays before e)

-- the type that is no type changes no choice
pub last_same : (cs : List ChoiceEntry) → on_last (with_kind kind.Untyped) cs ≡ cs
last_same [] = refl
last_same (c ∷ []) = ap (λ k. record c { kind = k } ∷ []) (first_of_none c.kind)
last_same (c ∷ d ∷ cs) = ap (λ l. c ∷ l) (last_same (d ∷ cs))
