-- The clause form of a slice stands for its facts and the wish.
use Rattle.std.proofs.Common.{◌≡◌, ℕ, ◌≤◌, ◌<◌, ◌==◌, Bool, true, false, not, ◌&&◌, ◌||◌, cond, Option, None, Some, List, [], ◌∷◌, ◌++◌, length, map, filter, position, refl, sym, ap, subst, ◌∙◌, arith}
use Rattle.std.proofs.lemmas.Grind.{common_steps}
use Rattle.std.proofs.lemmas.Bool.{false≢true}
use Rattle.std.proofs.lemmas.Bool.Decides.{nat_tests}
use Rattle.std.proofs.lemmas.List.Elements.{All-from_recursion, recursion_from_All}
use Rattle.std.proofs.lemmas.List.Folds.{list_any-append}
use Rattle.std.proofs.lemmas.List.Quantifiers.{position-Some}
use Rattle.std.specs.List.{list_any, AllByRecursion, position_or_len}
use Rattle.ut_logic.specs.declared.item.Item.{Item}
use Rattle.ut_logic.specs.declared.literals.Lit.{Lit}
use Rattle.ut_logic.specs.declared.node.Node.{Node}
use Rattle.ut_logic.specs.declared.node.Node.TheVariants.{Sym, Choice, Block, State}
use Rattle.ut_logic.specs.declared.facts.Fact.{Fact}
use Rattle.ut_logic.specs.declared.formula.Formula.{Formula}
use Rattle.ut_logic.specs.Assign.{is_in}
use Rattle.ut_logic.specs.Item.{item_eq}
use Rattle.ut_logic.specs.ItemIdentity.{item_eq-Decides}
use Rattle.ut_logic.specs.Facts.{IsDefined, Meets as MeetsFact}
use Rattle.ut_logic.specs.Truth.{truth, truths, all_true, mentioned, together}
use Rattle.ut_logic.specs.Clauses.{AreWithin, IsModel}
use Rattle.clausify.specs.declared.stage.Stage.{Stage}
use Rattle.clausify.specs.declared.stage.Stage.TheVariants.{Symbols, Starts, Blocks, States}
use Rattle.clausify.specs.ClauseForm.{var_at, var_of}
use Rattle.clausify.specs.Order.{holds_in, defines_in, form_with, mentioned_in, items_of, outers_of, is_outer, AreListed, AreOver, IsWishOver}
use Rattle.clausify.specs.Tidy.{AreTidy}
use Rattle.clausify.specs.Meaning.{items_under, AreMet, StandsFor}
use Rattle.clausify.proofs.InSet.{is_in-any}
use Rattle.clausify.proofs.Meets.{Meets, Within}
use Rattle.clausify.proofs.Held.{Held}
use Rattle.clausify.proofs.Models.{tidy_meets, meets_tidy, model_from_meets, meets_from_model, tidy_are_within}
use Rattle.clausify.proofs.WaysLaws.{and_first, and_second, and_both}
use Rattle.clausify.proofs.OrderLaws.{AllMetIn, Whole, holds_whole}

-- ---- the variables of items

pub var_of-le : (items : List Item) (i : Item) → var_of items i ≤ length items
var_of-le items i = by (position (item_eq i) items) refl
  where
    by : (o : Option ℕ) → position (item_eq i) items ≡ o → var_at o ≤ length items
    by None e = omega arith
    by (Some k) e = omega (arith, (position-Some (item_eq i) items k i e).0)

found_below : (p : Item → Bool) (xs : List Item) → list_any p xs ≡ true → position_or_len p xs < length xs
found_below p [] h = absurd (false≢true h)
found_below p (x ∷ xs) h = by (p x) refl h (found_below p xs)
  where
    by : (b : Bool) → p x ≡ b → (b || list_any p xs) ≡ true → (list_any p xs ≡ true → position_or_len p xs < length xs) → position_or_len p (x ∷ xs) < length (x ∷ xs)
    by true e g r = grind (arith, common_steps, nat_tests, e)
    by false e g r = grind (arith, common_steps, nat_tests, e, r g)

pub has_variable : (items : List Item) (i : Item) → is_in items i ≡ true → 0 < var_of items i
has_variable items i h = by (found_below (item_eq i) items (is_in-any items i ∙ h))
  where
    by : position_or_len (item_eq i) items < length items → 0 < var_of items i
    by lt = grind (arith, common_steps, nat_tests, lt)

-- an outer condition of the list is among the outer conditions of the list
in_filter : (xs : List Item) (i : Item) → is_outer i ≡ true → is_in xs i ≡ true → is_in (filter is_outer xs) i ≡ true
in_filter [] i o h = h
in_filter (x ∷ xs) i o h = by (item_eq x i) refl h (in_filter xs i o)
  where
    second : (b : Bool) (ys : List Item) → is_in ys i ≡ true → is_in (cond b (x ∷ ys) ys) i ≡ true
    second true ys g = any_second (item_eq x i) (is_in ys i) g
      where
        any_second : (a b : Bool) → b ≡ true → (a || b) ≡ true
        any_second true b h = refl
        any_second false b h = h
    second false ys g = g

    by : (b : Bool) → item_eq x i ≡ b → (b || is_in xs i) ≡ true → (is_in xs i ≡ true → is_in (filter is_outer xs) i ≡ true) → is_in (cond (is_outer x) (x ∷ filter is_outer xs) (filter is_outer xs)) i ≡ true
    by true e g r = let kept : is_outer x ≡ true = ap is_outer ((item_eq-Decides x i).0 e) ∙ o in
        ap (λ b. is_in (cond b (x ∷ filter is_outer xs) (filter is_outer xs)) i) kept ∙ ap (λ b. b || is_in (filter is_outer xs) i) e
    by false e g r = second (is_outer x) (filter is_outer xs) (r g)

true-append : (v : Item → Bool) (fs gs : List Formula) → all_true (truths v (fs ++ gs)) ≡ (all_true (truths v fs) && all_true (truths v gs))
true-append v [] gs = refl
true-append v (f ∷ fs) gs = ap (λ b. truth v f && b) (true-append v fs gs) ∙ together_and (truth v f) (all_true (truths v fs)) (all_true (truths v gs))
  where
    together_and : (a b c : Bool) → (a && (b && c)) ≡ ((a && b) && c)
    together_and true b c = refl
    together_and false b c = refl

-- ---- what all stages ask of a fact

module _ (v : Item → Bool) (f : Fact) where
  abbrev MetAt : Stage → Node → Type 0
  MetAt stage x = (all_true (truths v (cond (holds_in stage x) f.holds [])) ≡ true) × AllByRecursion (IsDefined v) (cond (defines_in stage x) f.defines [])

  abbrev Met : Type 0
  Met = (all_true (truths v f.holds) ≡ true) × AllByRecursion (IsDefined v) f.defines

  gathered : (x : Node) → MetAt Symbols x → MetAt Starts x → MetAt Blocks x → MetAt States x → Met
  gathered (Sym a) m n o p = m
  gathered (Choice a) m n o p = m
  gathered (Block file block) m n o p = o
  gathered (State file name turn) m n o p = (by (turn == 0) n.0 p.0, p.1)
    where
      by : (b : Bool) → all_true (truths v (cond b f.holds [])) ≡ true → all_true (truths v (cond (not b) f.holds [])) ≡ true → all_true (truths v f.holds) ≡ true
      by true h g = h
      by false h g = g

  some_holds : (b : Bool) → all_true (truths v f.holds) ≡ true → all_true (truths v (cond b f.holds [])) ≡ true
  some_holds true h = h
  some_holds false h = refl

  some_defined : (b : Bool) → AllByRecursion (IsDefined v) f.defines → AllByRecursion (IsDefined v) (cond b f.defines [])
  some_defined true h = h
  some_defined false h = tt

  spread : (stage : Stage) (x : Node) → Met → MetAt stage x
  spread stage x m = (some_holds (holds_in stage x) m.0, some_defined (defines_in stage x) m.1)

module _ (items : List Item) (w : ℕ → Bool) where
  all_gathered : (fs : List Fact) → AllMetIn (var_of items) (length items) (var_of-le items) Symbols w fs → AllMetIn (var_of items) (length items) (var_of-le items) Starts w fs
      → AllMetIn (var_of items) (length items) (var_of-le items) Blocks w fs → AllMetIn (var_of items) (length items) (var_of-le items) States w fs → AllByRecursion (MeetsFact (items_under items w)) fs
  all_gathered [] a b c d = tt
  all_gathered (f ∷ fs) a b c d =
      let met = gathered (items_under items w) f f.node a.0 b.0 c.0 d.0 in
      (record { held = met.0; defined = All-from_recursion (IsDefined (items_under items w)) f.defines met.1 }, all_gathered fs a.1 b.1 c.1 d.1)

  all_spread : (stage : Stage) (fs : List Fact) → AllByRecursion (MeetsFact (items_under items w)) fs → AllMetIn (var_of items) (length items) (var_of-le items) stage w fs
  all_spread stage [] m = tt
  all_spread stage (f ∷ fs) m = (spread (items_under items w) f stage f.node (m.0.held, recursion_from_All (IsDefined (items_under items w)) f.defines m.0.defined), all_spread stage fs m.1)

  pub met_from_whole : (held : List Formula) (fs : List Fact) (wish : List Formula) → Whole (var_of items) (length items) (var_of-le items) w held fs wish → AreMet (items_under items w) fs (held ++ wish)
  met_from_whole held fs wish q = record {
    facts_met = All-from_recursion (MeetsFact (items_under items w)) fs (all_gathered fs q.0.1.0.0.0 q.0.1.0.0.1 q.0.1.0.1 q.0.1.1);
    wish_met = true-append (items_under items w) held wish ∙ and_both (all_true (truths (items_under items w) held)) (all_true (truths (items_under items w) wish)) q.0.0 q.1;
  }

  pub whole_from_met : (held : List Formula) (fs : List Fact) (wish : List Formula) → AreMet (items_under items w) fs (held ++ wish) → Whole (var_of items) (length items) (var_of-le items) w held fs wish
  whole_from_met held fs wish m =
      let each = recursion_from_All (MeetsFact (items_under items w)) fs m.facts_met in
      let all = sym (true-append (items_under items w) held wish) ∙ m.wish_met in (
        (
          and_first (all_true (truths (items_under items w) held)) (all_true (truths (items_under items w) wish)) all,
          (((all_spread Symbols fs each, all_spread Starts fs each), all_spread Blocks fs each), all_spread States fs each),
        ),
        and_second (all_true (truths (items_under items w) held)) (all_true (truths (items_under items w) wish)) all,
      )

-- ---- the whole

-- all that is mentioned is among the items
pub record AreAmong (items : List Item) (held : List Formula) (fs : List Fact) (wish : List Formula) : Type 0 where
  pub of_held : AreOver items held
  pub of_facts : (i : Item) → is_in (mentioned_in fs) i ≡ true → is_in items i ≡ true
  pub of_wish : AreOver items wish

module _ (items : List Item) (held : List Formula) (fs : List Fact) (wish : List Formula) (among : AreAmong items held fs wish) where
  held_whole : Held (record { vars = length items; clauses = [] }) (form_with items held fs wish) (λ w. Whole (var_of items) (length items) (var_of-le items) w held fs wish)
  held_whole = holds_whole (var_of items) (length items) (var_of-le items) held fs wish (record { vars = length items; clauses = [] }) (omega arith)
      (λ i h. has_variable items i (among.of_held i h)) (λ i h. has_variable items i (among.of_facts i h)) (λ i h. has_variable items i (among.of_wish i h))

  written : Within (form_with items held fs wish).vars (form_with items held fs wish).clauses
  written = subst (Within (form_with items held fs wish).vars) (sym held_whole.is) held_whole.within

  pub named : length items ≤ (form_with items held fs wish).vars
  named = held_whole.upward

  pub in_range : (cs : List (List Lit)) → AreTidy (form_with items held fs wish).clauses cs → AreWithin (form_with items held fs wish).vars cs
  in_range cs t = tidy_are_within (form_with items held fs wish).vars (form_with items held fs wish).clauses cs t written

  meets_more : (w : ℕ → Bool) (cs : List (List Lit)) → AreTidy (form_with items held fs wish).clauses cs → IsModel w cs → Meets w held_whole.more
  meets_more w cs t m = subst (Meets w) held_whole.is (meets_tidy w (form_with items held fs wish).clauses cs t (meets_from_model w cs m))

  pub stands_for : (cs : List (List Lit)) → AreTidy (form_with items held fs wish).clauses cs → StandsFor items fs (held ++ wish) (form_with items held fs wish).vars cs
  stands_for cs t = record {
    sound = λ w m. met_from_whole items w held fs wish (held_whole.says w (meets_more w cs t m));
    complete = λ w m. let u = held_whole.some w (whole_from_met items w held fs wish m) in
        (u.0, u.1, model_from_meets u.0 cs (tidy_meets u.0 (form_with items held fs wish).clauses cs t (subst (Meets u.0) (sym held_whole.is) u.2)));
    one = λ w u m k a. held_whole.one w u (meets_more w cs t m) (meets_more u cs t k) a;
  }

-- ---- what is listed is among the items of a form

listed_among : (items : List Item) (fs : List Fact) (wish : List Formula) → ((i : Item) → is_in items i ≡ is_in (items_of fs ++ outers_of wish) i) → (i : Item) → is_in (items_of fs) i ≡ true → is_in items i ≡ true
listed_among items fs wish members i h = members i ∙ (list_any-append (λ x. item_eq x i) (items_of fs) (outers_of wish) ∙ ap (λ b. b || is_in (outers_of wish) i) h)

pub facts_among : (items : List Item) (fs : List Fact) (wish : List Formula) → ((i : Item) → is_in items i ≡ is_in (items_of fs ++ outers_of wish) i) → AreListed fs → (i : Item) → is_in (mentioned_in fs) i ≡ true → is_in items i ≡ true
facts_among items fs wish members listed i h = listed_among items fs wish members i (listed i h)

pub held_among : (items : List Item) (fs : List Fact) (held wish : List Formula) → ((i : Item) → is_in items i ≡ is_in (items_of fs ++ outers_of wish) i) → AreOver (items_of fs) held → AreOver items held
held_among items fs held wish members over i h = listed_among items fs wish members i (over i h)

pub wish_among : (items : List Item) (fs : List Fact) (wish : List Formula) → ((i : Item) → is_in items i ≡ is_in (items_of fs ++ outers_of wish) i) → IsWishOver fs wish → AreOver items wish
wish_among items fs wish members over i h = members i ∙ (list_any-append (λ x. item_eq x i) (items_of fs) (outers_of wish) ∙ by (is_in (items_of fs) i) (over i h))
  where
    by : (b : Bool) → (b || is_outer i) ≡ true → (b || is_in (outers_of wish) i) ≡ true
    by true g = refl
    by false g = in_filter (together (map mentioned wish)) i g h
