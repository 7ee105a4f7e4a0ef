-- A renaming of items that keeps their order keeps their variables, and so the clauses of what is renamed.
use Rattle.std.proofs.Common.{◌≡◌, ℕ, ◌+◌, ◌<◌, Bool, true, false, not, ◌||◌, cond, None, Some, List, [], ◌∷◌, ◌++◌, length, map, get_or, refl, sym, ap, subst, ◌∙◌, rules, arith, nat_lt}
use Rattle.std.proofs.lemmas.List.{length-map, get_or-map}
use Rattle.std.proofs.lemmas.List.Folds.{list_any_at}
use Rattle.std.specs.List.{position_or_len}
use Rattle.std.specs.Ordering.{is_eq}
use Rattle.ut_logic.specs.declared.item.Item.{Item}
use Rattle.ut_logic.specs.declared.item.Item.TheVariants.{Outer}
use Rattle.ut_logic.specs.declared.facts.Definition.{Definition}
use Rattle.ut_logic.specs.declared.facts.Fact.{Fact}
use Rattle.ut_logic.specs.declared.formula.Formula.{Formula, out-Formula}
use Rattle.ut_logic.specs.declared.formula.Formula.TheOpen.{Formula-F}
use Rattle.ut_logic.specs.declared.formula.Formula.TheVariants.{Yes, No, Is, Neg, AllOf, AnyOf}
use Rattle.ut_logic.specs.declared.formula.Formula.TheViews.{roll-Formula, the_lemmas}
use Rattle.ut_logic.specs.declared.formula.Formula.TheFolds.{fold_out-Formula, fold-roll-Formula, map-Formula, ind-Formula}
use Rattle.ut_logic.specs.Assign.{is_in}
use Rattle.ut_logic.specs.Item.{item_eq, item_cmp}
use Rattle.ut_logic.specs.ItemIdentity.{item_eq-Decides}
use Rattle.ut_logic.specs.Renaming.{renamed, rename_step}
use Rattle.ut_logic.specs.Truth.{mentioned, mention_step, together}
use Rattle.ut_logic.specs.Variables.{AreInOrder}
use Rattle.ut_logic.proofs.MentionLaws.{mentioned_at, mentioned_out}
use Rattle.clausify.specs.declared.stage.Stage.{Stage}
use Rattle.clausify.specs.declared.stage.Stage.TheVariants.{Symbols, Starts, Blocks, States}
use Rattle.clausify.specs.Form.{Form}
use Rattle.clausify.specs.ClauseForm.{pos, var_at, var_of, define_all, define_any, negate_first, each_in_turn, in_turn, asserted, asserted_any, Ways, ways_step, ways, literal, hold_each, all_after, any_after, same_after, defined_at, defined, defined_each}
use Rattle.clausify.specs.Order.{holds_in, defines_in, held_in, defined_in, staged, form_with, mentioned_of, mentioned_in, AreOver}
use Rattle.clausify.specs.Renamed.{KeepsOrder, renamed_definition, renamed_fact}
use Rattle.clausify.proofs.OverLaws.{in_front, in_back}

-- ---- what a formula does, by its layer

abbrev is_ways : ℕ → Ways
is_ways x = record { literal = λ s. (pos x, s); held = λ s. asserted (pos x, s) }

abbrev neg_ways : Ways → Ways
neg_ways m = record { literal = λ s. negate_first (m.literal s); held = λ s. asserted (negate_first (m.literal s)) }

abbrev all_ways : List Ways → Ways
all_ways ms = record { literal = λ s. define_all (each_in_turn (map (λ m. m.literal) ms) s); held = in_turn (map (λ m. m.held) ms) }

abbrev any_ways : List Ways → Ways
any_ways ms = record { literal = λ s. define_any (each_in_turn (map (λ m. m.literal) ms) s); held = λ s. asserted_any (each_in_turn (map (λ m. m.literal) ms) s) }

abbrev ways_at : (Item → ℕ) → Formula-F Formula → Ways
ways_at at Formula-F.Yes = ways_step at Formula-F.Yes
ways_at at Formula-F.No = ways_step at Formula-F.No
ways_at at (Formula-F.Is item) = is_ways (at item)
ways_at at (Formula-F.Neg f) = neg_ways (ways at f)
ways_at at (Formula-F.AllOf fs) = all_ways (map (ways at) fs)
ways_at at (Formula-F.AnyOf fs) = any_ways (map (ways at) fs)

mapped : (at : Item → ℕ) (x : Formula-F Formula) → ways_step at (map-Formula Formula Ways (ways at) x) ≡ ways_at at x
mapped at Formula-F.Yes = refl
mapped at Formula-F.No = refl
mapped at (Formula-F.Is item) = refl
mapped at (Formula-F.Neg f) = refl
mapped at (Formula-F.AllOf fs) = refl
mapped at (Formula-F.AnyOf fs) = refl

ways_out : (at : Item → ℕ) (f : Formula) → ways at f ≡ ways_at at (out-Formula f)
ways_out at f = fold_out-Formula Ways (ways_step at) f ∙ mapped at (out-Formula f)

out-Yes : out-Formula Yes ≡ Formula-F.Yes
out-Yes = search (rules, the_lemmas)

out-No : out-Formula No ≡ Formula-F.No
out-No = search (rules, the_lemmas)

out-Is : (item : Item) → out-Formula (Is item) ≡ Formula-F.Is item
out-Is item = search (rules, the_lemmas)

out-Neg : (f : Formula) → out-Formula (Neg f) ≡ Formula-F.Neg f
out-Neg f = search (rules, the_lemmas)

out-AllOf : (fs : List Formula) → out-Formula (AllOf fs) ≡ Formula-F.AllOf fs
out-AllOf fs = search (rules, the_lemmas)

out-AnyOf : (fs : List Formula) → out-Formula (AnyOf fs) ≡ Formula-F.AnyOf fs
out-AnyOf fs = search (rules, the_lemmas)

and_itself : (x : Item) (xs : List Item) → is_in (x ∷ xs) x ≡ true
and_itself x xs = ap (λ b. b || is_in xs x) ((item_eq-Decides x x).1 refl)

module _ (r : Item → Item) where
  -- one layer of a renamed formula
  abbrev layer : Formula-F Formula → Formula-F Formula
  layer Formula-F.Yes = Formula-F.Yes
  layer Formula-F.No = Formula-F.No
  layer (Formula-F.Is item) = Formula-F.Is (r item)
  layer (Formula-F.Neg f) = Formula-F.Neg (renamed r f)
  layer (Formula-F.AllOf fs) = Formula-F.AllOf (map (renamed r) fs)
  layer (Formula-F.AnyOf fs) = Formula-F.AnyOf (map (renamed r) fs)

  out_step : (x : Formula-F Formula) → out-Formula (rename_step r (map-Formula Formula Formula (renamed r) x)) ≡ layer x
  out_step Formula-F.Yes = out-Yes
  out_step Formula-F.No = out-No
  out_step (Formula-F.Is item) = out-Is (r item)
  out_step (Formula-F.Neg f) = out-Neg (renamed r f)
  out_step (Formula-F.AllOf fs) = out-AllOf (map (renamed r) fs)
  out_step (Formula-F.AnyOf fs) = out-AnyOf (map (renamed r) fs)

  out_renamed : (f : Formula) → out-Formula (renamed r f) ≡ layer (out-Formula f)
  out_renamed f = ap out-Formula (fold_out-Formula Formula (rename_step r) f) ∙ out_step (out-Formula f)

  module _ (at bt : Item → ℕ) where
    -- the new items have the variables of the old ones
    abbrev Same : List Item → Type 0
    Same xs = (i : Item) → is_in xs i ≡ true → bt (r i) ≡ at i

    front : (xs ys : List Item) → Same (xs ++ ys) → Same xs
    front xs ys a i h = a i (in_front xs ys i h)

    back : (xs ys : List Item) → Same (xs ++ ys) → Same ys
    back xs ys a i h = a i (in_back xs ys i h)

    abbrev Each : Type 0
    Each = (f : Formula) × (Same (mentioned f) → ways bt (renamed r f) ≡ ways at f)

    abbrev of : List Each → List Formula
    of es = map (λ e. e.0) es

    each_same : (es : List Each) → Same (together (map mentioned (of es))) → map (ways bt) (map (renamed r) (of es)) ≡ map (ways at) (of es)
    each_same [] a = refl
    each_same (e ∷ es) a = let one = e.1 (front (mentioned e.0) (together (map mentioned (of es))) a) in
        let more = each_same es (back (mentioned e.0) (together (map mentioned (of es))) a) in λ i. one i ∷ more i

    step : (y : Formula-F Each) → Same (mention_step (map-Formula Formula (List Item) mentioned (map-Formula Each Formula (λ e. e.0) y)))
        → ways bt (rename_step r (map-Formula Formula Formula (renamed r) (map-Formula Each Formula (λ e. e.0) y))) ≡ ways_step at (map-Formula Formula Ways (ways at) (map-Formula Each Formula (λ e. e.0) y))
    step Formula-F.Yes a = ways_out bt Yes ∙ ap (ways_at bt) out-Yes
    step Formula-F.No a = ways_out bt No ∙ ap (ways_at bt) out-No
    step (Formula-F.Is item) a = (ways_out bt (Is (r item)) ∙ ap (ways_at bt) (out-Is (r item))) ∙ ap is_ways (a item (and_itself item []))
    step (Formula-F.Neg e) a = (ways_out bt (Neg (renamed r e.0)) ∙ ap (ways_at bt) (out-Neg (renamed r e.0))) ∙ ap neg_ways (e.1 a)
    step (Formula-F.AllOf es) a = (ways_out bt (AllOf (map (renamed r) (of es))) ∙ ap (ways_at bt) (out-AllOf (map (renamed r) (of es)))) ∙ ap all_ways (each_same es a)
    step (Formula-F.AnyOf es) a = (ways_out bt (AnyOf (map (renamed r) (of es))) ∙ ap (ways_at bt) (out-AnyOf (map (renamed r) (of es)))) ∙ ap any_ways (each_same es a)

    rolled : (x : Formula-F Formula) → (Same (mention_step (map-Formula Formula (List Item) mentioned x)) → ways bt (rename_step r (map-Formula Formula Formula (renamed r) x)) ≡ ways_step at (map-Formula Formula Ways (ways at) x))
        → Same (mentioned (roll-Formula x)) → ways bt (renamed r (roll-Formula x)) ≡ ways at (roll-Formula x)
    rolled x h a = ap (ways bt) (fold-roll-Formula Formula (rename_step r) x) ∙ (h (subst Same (fold-roll-Formula (List Item) mention_step x) a) ∙ sym (fold-roll-Formula Ways (ways_step at) x))

    ways_same : (f : Formula) → Same (mentioned f) → ways bt (renamed r f) ≡ ways at f
    ways_same = ind-Formula (λ f. Same (mentioned f) → ways bt (renamed r f) ≡ ways at f)
        (λ x y is. rolled x (subst (λ (z : Formula-F Formula). Same (mention_step (map-Formula Formula (List Item) mentioned z)) → ways bt (rename_step r (map-Formula Formula Formula (renamed r) z)) ≡ ways_step at (map-Formula Formula Ways (ways at) z)) is (step y)))

    each_ways : (fs : List Formula) → Same (together (map mentioned fs)) → map (ways bt) (map (renamed r) fs) ≡ map (ways at) fs
    each_ways [] a = refl
    each_ways (f ∷ fs) a = let one = ways_same f (front (mentioned f) (together (map mentioned fs)) a) in
        let more = each_ways fs (back (mentioned f) (together (map mentioned fs)) a) in λ i. one i ∷ more i

    holds_same : (fs : List Formula) (s : Form) → Same (together (map mentioned fs)) → hold_each bt (map (renamed r) fs) s ≡ hold_each at fs s
    holds_same fs s a = ap (λ (ms : List Ways). in_turn (map (λ m. m.held) ms) s) (each_ways fs a)

    -- ---- definitions

    defined_layer : (x : ℕ) (f : Formula) (y : Formula-F Formula) (s : Form) → Same (mentioned f) → Same (mentioned_at y) → defined_at bt x (renamed r f) (layer y) s ≡ defined_at at x f y s
    defined_layer x f Formula-F.Yes s a b = refl
    defined_layer x f Formula-F.No s a b = refl
    defined_layer x f (Formula-F.Is item) s a b = ap (λ (m : Ways). same_after x (m.literal s)) (ways_same f a)
    defined_layer x f (Formula-F.Neg g) s a b = ap (λ (m : Ways). same_after x (m.literal s)) (ways_same f a)
    defined_layer x f (Formula-F.AllOf fs) s a b = ap (λ (ms : List Ways). all_after x (each_in_turn (map (λ m. m.literal) ms) s)) (each_ways fs b)
    defined_layer x f (Formula-F.AnyOf fs) s a b = ap (λ (ms : List Ways). any_after x (each_in_turn (map (λ m. m.literal) ms) s)) (each_ways fs b)

    defined_same : (d : Definition) (s : Form) → Same (d.item ∷ mentioned d.formula) → defined bt (renamed_definition r d) s ≡ defined at d s
    defined_same d s a =
        let f = d.formula in
        let inner : Same (mentioned f) = back (d.item ∷ []) (mentioned f) a in
        ap (λ (x : ℕ). defined_at bt x (renamed r f) (out-Formula (renamed r f)) s) (a d.item (and_itself d.item (mentioned f)))
        ∙ (ap (λ (y : Formula-F Formula). defined_at bt (at d.item) (renamed r f) y s) (out_renamed f)
        ∙ defined_layer (at d.item) f (out-Formula f) s inner (subst Same (mentioned_out f) inner))

    abbrev defining : List Definition → List Item
    defining ds = together (map (λ (d : Definition). d.item ∷ mentioned d.formula) ds)

    defines_same : (ds : List Definition) (s : Form) → Same (together (map (λ (d : Definition). d.item ∷ mentioned d.formula) ds)) → defined_each bt (map (renamed_definition r) ds) s ≡ defined_each at ds s
    defines_same [] s a = refl
    defines_same (d ∷ ds) s a =
        ap (λ (t : Form). defined_each bt (map (renamed_definition r) ds) t) (defined_same d s (front (d.item ∷ mentioned d.formula) (defining ds) a))
        ∙ defines_same ds (defined at d s) (back (d.item ∷ mentioned d.formula) (defining ds) a)

    -- ---- facts

    held_same : (stage : Stage) (f : Fact) (s : Form) → Same (mentioned_of f) → hold_each bt (held_in stage (renamed_fact r f)) s ≡ hold_each at (held_in stage f) s
    held_same stage f s a = by (holds_in stage f.node)
      where
        by : (b : Bool) → hold_each bt (cond b (map (renamed r) f.holds) []) s ≡ hold_each at (cond b f.holds []) s
        by true = holds_same f.holds s (front (together (map mentioned f.holds)) (defining f.defines) a)
        by false = refl

    given_same : (stage : Stage) (f : Fact) (s : Form) → Same (mentioned_of f) → defined_each bt (defined_in stage (renamed_fact r f)) s ≡ defined_each at (defined_in stage f) s
    given_same stage f s a = by (defines_in stage f.node)
      where
        by : (b : Bool) → defined_each bt (cond b (map (renamed_definition r) f.defines) []) s ≡ defined_each at (cond b f.defines []) s
        by true = defines_same f.defines s (back (together (map mentioned f.holds)) (defining f.defines) a)
        by false = refl

    staged_same : (stage : Stage) (fs : List Fact) (s : Form) → Same (mentioned_in fs) → staged bt stage (map (renamed_fact r) fs) s ≡ staged at stage fs s
    staged_same stage [] s a = refl
    staged_same stage (f ∷ fs) s a =
        let here = front (mentioned_of f) (mentioned_in fs) a in
        let t = hold_each at (held_in stage f) s in
        ap (λ (u : Form). staged bt stage (map (renamed_fact r) fs) (defined_each bt (defined_in stage (renamed_fact r f)) u)) (held_same stage f s here)
        ∙ (ap (λ (u : Form). staged bt stage (map (renamed_fact r) fs) u) (given_same stage f t here)
        ∙ staged_same stage fs (defined_each at (defined_in stage f) t) (back (mentioned_of f) (mentioned_in fs) a))

-- ---- variables

place_same : (r : Item → Item) (p q : Item → Bool) (xs : List Item) → ((x : Item) → is_in xs x ≡ true → q (r x) ≡ p x) → position_or_len q (map r xs) ≡ position_or_len p xs
place_same r p q [] h = refl
place_same r p q (x ∷ xs) h = ap (λ b. cond (not b) (1 + position_or_len q (map r xs)) 0) (h x (and_itself x xs))
    ∙ ap (λ k. cond (not (p x)) (1 + k) 0) (place_same r p q xs (λ y g. h y (in_back (x ∷ []) xs y g)))

pub var_same : (r : Item → Item) (items : List Item) → KeepsOrder r items → (i : Item) → is_in items i ≡ true → var_of (map r items) (r i) ≡ var_of items i
var_same r items keeps i h =
    let place = place_same r (item_eq i) (item_eq (r i)) items (λ x g. ap is_eq (keeps i x h g)) in
    ap (λ n. var_at (cond (nat_lt (position_or_len (item_eq (r i)) (map r items)) n) (Some (position_or_len (item_eq (r i)) (map r items))) None)) (length-map items r)
    ∙ ap (λ k. var_at (cond (nat_lt k (length items)) (Some k) None)) place

pub order_same : (r : Item → Item) (items : List Item) → KeepsOrder r items → AreInOrder items → AreInOrder (map r items)
order_same r items keeps order j k d before within =
    let e = Outer 0 in
    let inside : k < length items = subst (λ (n : ℕ). k < n) (length-map items r) within in
    let early : j < length items = omega (arith, before, inside) in
    let a = get_or items j e in
    let b = get_or items k e in
    ap (λ (x : Item). item_cmp x (get_or (map r items) k d)) (get_or-map r items j e d early)
    ∙ (ap (λ (y : Item). item_cmp (r a) y) (get_or-map r items k e d inside)
    ∙ (keeps a b (list_any_at (λ x. item_eq x a) items j e early ((item_eq-Decides a a).1 refl)) (list_any_at (λ x. item_eq x b) items k e inside ((item_eq-Decides b b).1 refl))
    ∙ order j k e before inside))

pub form_same : (r : Item → Item) (items : List Item) (held : List Formula) (facts : List Fact) (wish : List Formula) → KeepsOrder r items → AreOver items held
    → ((i : Item) → is_in (mentioned_in facts) i ≡ true → is_in items i ≡ true) → AreOver items wish
    → form_with (map r items) (map (renamed r) held) (map (renamed_fact r) facts) (map (renamed r) wish) ≡ form_with items held facts wish
form_same r items held facts wish keeps over_held over_facts over_wish =
    let at = var_of items in
    let bt = var_of (map r items) in
    let news = map (renamed_fact r) facts in
    let wishes = map (renamed r) wish in
    let same : (i : Item) → is_in items i ≡ true → bt (r i) ≡ at i = var_same r items keeps in
    let of_facts : (i : Item) → is_in (mentioned_in facts) i ≡ true → bt (r i) ≡ at i = λ i h. same i (over_facts i h) in
    let s0 : Form = record { vars = length items; clauses = [] } in
    let s1 = hold_each at held s0 in
    let s2 = staged at Symbols facts s1 in
    let s3 = staged at Starts facts s2 in
    let s4 = staged at Blocks facts s3 in
    let s5 = staged at States facts s4 in
    let then_wish : Form → Form = λ t. hold_each bt wishes t in
    let then_states : Form → Form = λ t. then_wish (staged bt States news t) in
    let then_blocks : Form → Form = λ t. then_states (staged bt Blocks news t) in
    let then_starts : Form → Form = λ t. then_blocks (staged bt Starts news t) in
    let then_symbols : Form → Form = λ t. then_starts (staged bt Symbols news t) in
    ap (λ (n : ℕ). then_symbols (hold_each bt (map (renamed r) held) (record { vars = n; clauses = [] }))) (length-map items r)
    ∙ (ap then_symbols (holds_same r at bt held s0 (λ i h. same i (over_held i h)))
    ∙ (ap then_starts (staged_same r at bt Symbols facts s1 of_facts)
    ∙ (ap then_blocks (staged_same r at bt Starts facts s2 of_facts)
    ∙ (ap then_states (staged_same r at bt Blocks facts s3 of_facts)
    ∙ (ap then_wish (staged_same r at bt States facts s4 of_facts)
    ∙ holds_same r at bt wish s5 (λ i h. same i (over_wish i h)))))))
