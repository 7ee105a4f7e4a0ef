-- Whether a symbol stands in another choice, by the first choice that it stands in: choices follow one another.
use Rattle.std.proofs.Common.{ℕ, ◌≡◌, refl, sym, ap, ◌<◌, ◌≤◌, ◌-◌, ◌+◌, eq-eqb, subst, ◌==◌, ◌&&◌, ◌||◌, arith, not, Bool, true, false, List, [], ◌∷◌, ◌++◌, Option, Some, None}
use Rattle.std.specs.Prelude.{IfSome, All, if◌then◌else◌}
use Rattle.std.specs.List.{list_any}
use Rattle.std.proofs.lemmas.Bool.{eqb-true}
use Rattle.std.proofs.lemmas.List.Elements.{All-nil, All-cons, All-append, All-head, All-tail}
use Rattle.ut_text.specs.Bytes.{Bytes}
use Rattle.ut_text.specs.Text.{text_eq}
use Rattle.kconf_entries.specs.declared.entries.ConfigEntry.{ConfigEntry}
use Rattle.kconf_statements.specs.EntryLines.{Entry, At, Before}
use Rattle.kconf_statements.specs.Enclosing.{enclosing, in_choice}
use Rattle.kconf_statements.specs.Entries.{configs_of, choice_count, number_of_choice}
use Rattle.kconf_statements.specs.Standing.{is_elsewhere}
use Rattle.kconf_statements.proofs.FormedLaws.{Below, configs_below}
use Rattle.kconf_progress.specs.Known.{first_choice, choice_by}

-- ---- numbers of choices rise
abbrev LessOrSame : Option ℕ → Option ℕ → Type 0
LessOrSame None q = Unit {0}
LessOrSame (Some m) None = Unit {0}
LessOrSame (Some m) (Some n) = m ≤ n

abbrev AreRising : List ConfigEntry → Type 0
AreRising [] = Unit {0}
AreRising (c ∷ cs) = All (λ d. LessOrSame c.choice d.choice) cs × AreRising cs

top_is : (k : ℕ) (o q : Option ℕ) → IfSome o (λ n. n < k) → IfSome q (λ n. k ≤ n + 1) → LessOrSame o q
top_is k None q h g = tt
top_is k (Some m) None h g = tt
top_is k (Some m) (Some n) h g = omega (arith, h, g)

-- a config at the end whose number is the greatest
at_end : (k : ℕ) (cs : List ConfigEntry) (d : ConfigEntry) → All (Below k) cs → IfSome d.choice (λ n. k ≤ n + 1) → AreRising cs → AreRising (cs ++ d ∷ [])
at_end k [] d below top rising = (All-nil _, tt)
at_end k (c ∷ cs) d below top rising =
    let Later : ConfigEntry → Type 0 = λ (x : ConfigEntry). LessOrSame c.choice x.choice in (
      All-append Later cs (d ∷ []) rising.0 (All-cons Later d [] (top_is k c.choice d.choice (All-head (Below k) c cs below) top) (All-nil Later)),
      at_end k cs d (All-tail (Below k) c cs below) top rising.1,
    )

no_more : (cs : List ConfigEntry) → AreRising cs → AreRising (cs ++ [])
no_more [] h = tt
no_more (c ∷ cs) h = let Later : ConfigEntry → Type 0 = λ (x : ConfigEntry). LessOrSame c.choice x.choice in (All-append Later cs [] h.0 (All-nil Later), no_more cs h.1)

number_top : (before : Before) → IfSome (number_of_choice before) (λ n. choice_count before ≤ n + 1)
number_top before = by (in_choice (enclosing before))
  where
    by : (b : Bool) → IfSome (if b then Some (choice_count before - 1) else None) (λ n. choice_count before ≤ n + 1)
    by true = omega arith
    by false = tt

pub rising : (before : Before) → AreRising (configs_of before)
rising [] = tt
rising (At line Entry.MainMenu ∷ before) = no_more _ (rising before)
rising (At line Entry.Comment ∷ before) = no_more _ (rising before)
rising (At line (Entry.Menu m) ∷ before) = no_more _ (rising before)
rising (At line (Entry.Config c) ∷ before) = at_end (choice_count before) (configs_of before) _ (configs_below before (choice_count before) (omega arith)) (number_top before) (rising before)
rising (At line (Entry.Choice c) ∷ before) = no_more _ (rising before)
rising (At line (Entry.If x) ∷ before) = no_more _ (rising before)
rising (At line (Entry.End what) ∷ before) = no_more _ (rising before)
rising (At line (Entry.Source file) ∷ before) = no_more _ (rising before)
rising (At line Entry.Sourced ∷ before) = no_more _ (rising before)

-- ---- a symbol in another choice
abbrev stands_elsewhere : ℕ → Bytes → List ConfigEntry → Bool
stands_elsewhere k name cs = list_any (λ c. text_eq c.name name && is_elsewhere k c.choice) cs

same_not : (k m : ℕ) → k ≤ m → m < k + 1 → not (k == m) ≡ false
same_not k m h g = let e : k ≡ m = omega (arith, h, g) in ap not (eq-eqb k m e)

-- a config in this choice or a later one
abbrev From : ℕ → ConfigEntry → Type 0
From k d = LessOrSame (Some k) d.choice

-- after a config in the last choice none stands in another one
none_after : (k : ℕ) (name : Bytes) (cs : List ConfigEntry) → All (Below (k + 1)) cs → All (From k) cs → stands_elsewhere k name cs ≡ false
none_after k name [] below from = refl
none_after k name (c ∷ cs) below from =
    rw (here c.choice (All-head (Below (k + 1)) c cs below) (All-head (From k) c cs from)) (by (text_eq c.name name) (none_after k name cs (All-tail (Below (k + 1)) c cs below) (All-tail (From k) c cs from)))
  where
    here : (o : Option ℕ) → IfSome o (λ n. n < k + 1) → LessOrSame (Some k) o → is_elsewhere k o ≡ false
    here None h g = refl
    here (Some m) h g = same_not k m g h

    by : (b : Bool) → stands_elsewhere k name cs ≡ false → ((b && false) || stands_elsewhere k name cs) ≡ false
    by true h = h
    by false h = h

pub elsewhere_is : (k : ℕ) (name : Bytes) (cs : List ConfigEntry) → All (Below (k + 1)) cs → AreRising cs → stands_elsewhere k name cs ≡ is_elsewhere k (choice_by cs name)
elsewhere_is k name [] below up = refl
elsewhere_is k name (c ∷ cs) below up =
    by (text_eq c.name name) c.choice up.0 (elsewhere_is k name cs (All-tail (Below (k + 1)) c cs below) up.1)
  where
    at : (m : ℕ) → All (From m) cs → (b : Bool) → (k == m) ≡ b → (not b || stands_elsewhere k name cs) ≡ not b
    at m from true e =
        let same : m ≡ k = sym (eqb-true k m e) in
        none_after k name cs (All-tail (Below (k + 1)) c cs below) (subst (λ j. All (From j) cs) same from)
    at m from false e = refl

    by : (b : Bool) (o : Option ℕ) → All (λ d. LessOrSame o d.choice) cs → stands_elsewhere k name cs ≡ is_elsewhere k (choice_by cs name)
        → ((b && is_elsewhere k o) || stands_elsewhere k name cs) ≡ is_elsewhere k (if b then first_choice o (choice_by cs name) else choice_by cs name)
    by true None from h = h
    by true (Some m) from h = at m from (k == m) refl
    by false o from h = h
