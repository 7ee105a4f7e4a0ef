-- A clause form in terms of truths of items, and the least truths by the least model.
use Rattle.std.proofs.Common.{◌≡◌, ℕ, ◌+◌, ◌-◌, ◌<◌, ◌≤◌, zero, suc, Bool, true, false, not, ◌||◌, cond, List, [], ◌∷◌, ◌++◌, map, length, refl, ap, sym, ◌∙◌, ◌⊎◌, inl, inr, arith}
use Rattle.std.specs.Prelude.{slice_index_or}
use Rattle.std.specs.List.{AllByRecursion}
use Rattle.std.proofs.lemmas.Bool.{false≢true, cases_lt}
use Rattle.std.proofs.lemmas.List.Elements.{All-from_recursion, recursion_from_All, All-contains}
use Rattle.std.proofs.lemmas.List.Folds.{list_any-append}
use Rattle.ut_logic.specs.declared.item.Item.{Item}
use Rattle.ut_logic.specs.declared.item.Item.TheVariants.{Outer}
use Rattle.ut_logic.specs.declared.literals.Lit.{Lit}
use Rattle.ut_logic.specs.declared.formula.Formula.{Formula}
use Rattle.ut_logic.specs.declared.facts.Definition.{Definition}
use Rattle.ut_logic.specs.declared.facts.Fact.{Fact}
use Rattle.ut_logic.specs.Assign.{is_in}
use Rattle.ut_logic.specs.Item.{item_eq}
use Rattle.ut_logic.specs.ItemIdentity.{item_eq-Decides}
use Rattle.ut_logic.specs.Facts.{Meets, IsDefined}
use Rattle.ut_logic.specs.Truth.{truths, all_true, mentioned, together}
use Rattle.ut_logic.specs.Variables.{AreDistinct}
use Rattle.ut_logic.specs.Clauses.{AreWithin, IsWithin, IsModel, value_of}
use Rattle.ut_logic.proofs.MentionLaws.{truth-agree}
use Rattle.clausify.specs.Meaning.{StandsFor, AreMet, items_under}
use Rattle.clausify.specs.Order.{AreOver, mentioned_of, mentioned_in}
use Rattle.clausify.specs.Over.{Reads, AgreeUpTo, StandsOver, ComesBefore, SameOn, IsEarlier, IsLeastOver}
use Rattle.clausify.proofs.NumberedLaws.{placed}

-- ---- facts and formulas look at what they mention

second_true : (a b : Bool) → b ≡ true → (a || b) ≡ true
second_true true b h = refl
second_true false b h = h

pub in_front : (xs ys : List Item) (i : Item) → is_in xs i ≡ true → is_in (xs ++ ys) i ≡ true
in_front xs ys i h = list_any-append (λ x. item_eq x i) xs ys ∙ ap (λ b. b || is_in ys i) h

pub in_back : (xs ys : List Item) (i : Item) → is_in ys i ≡ true → is_in (xs ++ ys) i ≡ true
in_back xs ys i h = list_any-append (λ x. item_eq x i) xs ys ∙ second_true (is_in xs i) (is_in ys i) h

module _ (v u : Item → Bool) where
  truths_same : (fs : List Formula) → ((i : Item) → is_in (together (map mentioned fs)) i ≡ true → v i ≡ u i) → truths v fs ≡ truths u fs
  truths_same [] a = refl
  truths_same (f ∷ fs) a = let one = truth-agree v u f (λ i h. a i (in_front (mentioned f) (together (map mentioned fs)) i h)) in
      let more = truths_same fs (λ i h. a i (in_back (mentioned f) (together (map mentioned fs)) i h)) in λ j. one j ∷ more j

  defined_same : (ds : List Definition) → ((i : Item) → is_in (together (map (λ (d : Definition). d.item ∷ mentioned d.formula) ds)) i ≡ true → v i ≡ u i) → AllByRecursion (IsDefined v) ds → AllByRecursion (IsDefined u) ds
  defined_same [] a h = tt
  defined_same (d ∷ ds) a h = (
    sym (a d.item (in_front (d.item ∷ mentioned d.formula) (together (map (λ (e : Definition). e.item ∷ mentioned e.formula) ds)) d.item (ap (λ b. b || is_in (mentioned d.formula) d.item) ((item_eq-Decides d.item d.item).1 refl))))
        ∙ (h.0 ∙ truth-agree v u d.formula (λ i g. a i (in_front (d.item ∷ mentioned d.formula) (together (map (λ (e : Definition). e.item ∷ mentioned e.formula) ds)) i (in_back (d.item ∷ []) (mentioned d.formula) i g)))),
    defined_same ds (λ i g. a i (in_back (d.item ∷ mentioned d.formula) (together (map (λ (e : Definition). e.item ∷ mentioned e.formula) ds)) i g)) h.1,
  )

  meets_same : (f : Fact) → ((i : Item) → is_in (mentioned_of f) i ≡ true → v i ≡ u i) → Meets v f → Meets u f
  meets_same f a m = record {
    held = sym (ap all_true (truths_same f.holds (λ i h. a i (in_front (together (map mentioned f.holds)) (together (map (λ (d : Definition). d.item ∷ mentioned d.formula) f.defines)) i h)))) ∙ m.held;
    defined = All-from_recursion (IsDefined u) f.defines (defined_same f.defines (λ i h. a i (in_back (together (map mentioned f.holds)) (together (map (λ (d : Definition). d.item ∷ mentioned d.formula) f.defines)) i h)) (recursion_from_All (IsDefined v) f.defines m.defined));
  }

  each_meets : (fs : List Fact) → ((i : Item) → is_in (mentioned_in fs) i ≡ true → v i ≡ u i) → AllByRecursion (Meets v) fs → AllByRecursion (Meets u) fs
  each_meets [] a m = tt
  each_meets (f ∷ fs) a m = (meets_same f (λ i h. a i (in_front (mentioned_of f) (mentioned_in fs) i h)) m.0, each_meets fs (λ i h. a i (in_back (mentioned_of f) (mentioned_in fs) i h)) m.1)

-- ---- places and variables

record HasPlace (items : List Item) (i : Item) : Type 0 where
  place : ℕ
  within : place < length items
  is : (d : Item) → slice_index_or items place d ≡ i

more : (n m : ℕ) → n < m → suc n < suc m
more n m h = omega (arith, h)

has_place : (items : List Item) (i : Item) → is_in items i ≡ true → HasPlace items i
has_place [] i h = absurd (false≢true h)
has_place (x ∷ xs) i h = by (item_eq x i) refl (has_place xs i)
  where
    by : (b : Bool) → item_eq x i ≡ b → (is_in xs i ≡ true → HasPlace xs i) → HasPlace (x ∷ xs) i
    by true e rest = record { place = 0; within = omega arith; is = λ d. (item_eq-Decides x i).0 e }
    by false e rest = let r = rest (sym (ap (λ b. b || is_in xs i) e) ∙ h) in record { place = suc r.place; within = more r.place (length xs) r.within; is = r.is }

same_default : (xs : List Item) (k : ℕ) (d e : Item) → k < length xs → slice_index_or xs k d ≡ slice_index_or xs k e
same_default [] k d e h = absurd (none k h)
  where
    none : (n : ℕ) → n < 0 → ⊥
    none n l = omega arith
same_default (x ∷ xs) zero d e h = refl
same_default (x ∷ xs) (suc k) d e h = same_default xs k d e (omega (arith, h))

module _ (items : List Item) (facts : List Fact) (wish : List Formula) (vars : ℕ) (clauses : List (List Lit)) (form : StandsFor items facts wish vars clauses)
    (within : AreWithin vars clauses) (distinct : AreDistinct items) (of_facts : (i : Item) → is_in (mentioned_in facts) i ≡ true → is_in items i ≡ true) (of_wish : AreOver items wish) where
  -- what reads the items has their truths
  reads_back : (w : ℕ → Bool) (v : Item → Bool) → Reads items w v → (i : Item) → is_in items i ≡ true → items_under items w i ≡ v i
  reads_back w v reads i h = let r = has_place items i h in
      ap w (sym (placed items r.place i i distinct r.within (r.is i))) ∙ (reads r.place i r.within ∙ ap v (r.is i))

  met_alike : (v u : Item → Bool) → ((i : Item) → is_in items i ≡ true → v i ≡ u i) → AreMet v facts wish → AreMet u facts wish
  met_alike v u same met = record {
    facts_met = All-from_recursion (Meets u) facts (each_meets v u facts (λ i h. same i (of_facts i h)) (recursion_from_All (Meets v) facts met.facts_met));
    wish_met = sym (ap all_true (truths_same v u wish (λ i h. same i (of_wish i h)))) ∙ met.wish_met;
  }

  -- values that differ at 0 alone satisfy the same clauses
  abbrev with_zero : Bool → (ℕ → Bool) → ℕ → Bool
  with_zero b u zero = b
  with_zero b u (suc x) = u (suc x)

  same_above : (b : Bool) (u : ℕ → Bool) (x : ℕ) → 0 < x → with_zero b u x ≡ u x
  same_above b u zero l = absurd (none l)
    where
      none : 0 < 0 → ⊥
      none l = omega arith
  same_above b u (suc x) l = refl

  lit_same : (b : Bool) (u : ℕ → Bool) (l : Lit) → 0 < l.var → value_of (with_zero b u) l ≡ value_of u l
  lit_same b u l h = ap (λ c. cond l.positive c (not c)) (same_above b u l.var h)

  still_model : (b : Bool) (u : ℕ → Bool) → IsModel u clauses → IsModel (with_zero b u) clauses
  still_model b u m c there = let s = m c there in
      (s.0, s.1, lit_same b u s.0 (All-contains (λ (l : Lit). (0 < l.var) × (l.var ≤ vars)) c s.0 (All-contains (IsWithin vars) clauses c within there) s.1).0 ∙ s.2)

  abbrev ext : (Item → Bool) → ℕ → Bool
  ext v zero = false
  ext v (suc x) = v (slice_index_or items x (Outer 0))

  ext_reads : (v : Item → Bool) → Reads items (ext v) v
  ext_reads v k d h = let at : k + 1 ≡ suc k = omega arith in ap (ext v) at ∙ ap v (same_default items k (Outer 0) d h)

  extended : (v : Item → Bool) → AreMet v facts wish → (w : ℕ → Bool) × Reads items w v × IsModel w clauses
  extended v met = let r = form.complete (ext v) (met_alike v (items_under items (ext v)) (λ i h. sym (reads_back (ext v) v (ext_reads v) i h)) met) in
      (r.0, (λ k d h. sym (r.1 (k + 1) (omega (arith, h))) ∙ ext_reads v k d h), r.2)

  alone : (w u : ℕ → Bool) → IsModel w clauses → IsModel u clauses → AgreeUpTo (length items) w u → AgreeUpTo vars w u
  alone w u mw mu same x low high = form.one w (with_zero (w 0) u) mw (still_model (w 0) u mu) agree x high ∙ same_above (w 0) u x low
    where
      agree : (y : ℕ) → y ≤ length items → w y ≡ with_zero (w 0) u y
      agree zero h = refl
      agree (suc y) h = same (suc y) (omega arith) h

  pub stands_over : StandsOver items facts wish vars clauses
  stands_over = record {
    sound = λ w v m reads. met_alike (items_under items w) v (reads_back w v reads) (form.sound w m);
    complete = extended;
    one = alone;
  }

-- ---- the least

module _ (items : List Item) (facts : List Fact) (wish : List Formula) (vars : ℕ) (clauses : List (List Lit)) (w : ℕ → Bool) (v : Item → Bool)
    (form : StandsOver items facts wish vars clauses) (room : length items ≤ vars) (model : IsModel w clauses) (least : (u : ℕ → Bool) → IsModel u clauses → AgreeUpTo vars w u ⊎ ComesBefore vars w u) (reads : Reads items w v) where
  module _ (u : Item → Bool) (met : AreMet u facts wish) where
    u_reads : Reads items (form.complete u met).0 u
    u_reads = (form.complete u met).1

    u_model : IsModel (form.complete u met).0 clauses
    u_model = (form.complete u met).2

    on_item : (k : ℕ) (d : Item) → k < length items → w (k + 1) ≡ (form.complete u met).0 (k + 1) → v (slice_index_or items k d) ≡ u (slice_index_or items k d)
    on_item k d l e = sym (reads k d l) ∙ (e ∙ u_reads k d l)

    by_order : AgreeUpTo vars w (form.complete u met).0 ⊎ ComesBefore vars w (form.complete u met).0 → SameOn items v u ⊎ IsEarlier items v u
    by_order (inl same) = inl (λ k d l. on_item k d l (same (k + 1) (omega arith) (omega arith)))
    by_order (inr before) = by (cases_lt (length items) before.0)
      where
        by : ((length items < before.0) ⊎ (before.0 ≤ length items)) → SameOn items v u ⊎ IsEarlier items v u
        by (inr inside) = let low : 0 < before.0 = before.1 in let at : (before.0 - 1) + 1 ≡ before.0 = omega arith in
            inr (
              before.0 - 1,
              omega arith,
              λ d. sym (reads (before.0 - 1) d (omega arith)) ∙ (ap w at ∙ before.3),
              λ d. sym (u_reads (before.0 - 1) d (omega arith)) ∙ (ap (form.complete u met).0 at ∙ before.4),
              λ j d l. on_item j d (omega arith) (before.5 (j + 1) (omega arith) (omega arith)),
            )
        by (inl outside) = let low : 0 < before.0 = before.1 in let high : before.0 ≤ vars = before.2 in
            absurd (false≢true (sym before.3 ∙ (form.one w (form.complete u met).0 model u_model (λ y l h. before.5 y l (omega arith)) before.0 before.1 before.2 ∙ before.4)))

  pub least_over : IsLeastOver items facts wish v
  least_over = record { met = form.sound w v model reads; least = λ u met. by_order u met (least (form.complete u met).0 (u_model u met)) }
