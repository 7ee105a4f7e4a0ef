-- What a symbol and a choice come to depends on the symbols alone that they refer to, on the tree's undeclared names and
-- on its outer conditions.
use Rattle.std.proofs.Common.{◌≡◌, ℕ, ◌<◌, ◌≤◌, ◌==◌, Bool, true, false, not, ◌&&◌, ◌||◌, cond, List, [], ◌∷◌, ◌++◌, map, length, filter, get_or, zero, suc, refl, ap, sym, ◌∙◌, min, max, arith, Option, None, Some}
use Rattle.std.specs.List.{flat_map, list_any, list_all, AllByRecursion}
use Rattle.std.specs.Option.{option_to_list}
use Rattle.ut_text.specs.Text.{text_eq}
use Rattle.kconf_entries.specs.declared.expr.Expr.{Expr}
use Rattle.kconf_entries.specs.declared.entries.DefaultOf.{DefaultOf}
use Rattle.kconf_entries.specs.declared.entries.SelectOf.{SelectOf}
use Rattle.kconf_tree.specs.declared.shape.Counts.{Counts}
use Rattle.kconf_tree.specs.declared.shape.Counts.TheVariants as counts
use Rattle.kconf_tree.specs.declared.shape.Symbol.{Symbol}
use Rattle.kconf_tree.specs.declared.shape.Choice.{Choice}
use Rattle.kconf_tree.specs.Shape.{Selecting, Shape, symbol_at, choice_at, no_symbol, no_choice, counts_as, selects_at, selects_from, implies_from, selectors_of, impliers_of, number_of, counts_alone}
use Rattle.kconf_tree.specs.declared.place.Place.TheVariants.{Condition, Value}
use Rattle.kconf_tree.specs.Value.{Configuration, value_of, has_modules, greatest, stands_for}
use Rattle.kconf_tree.specs.Undeclared.{undeclared_in, undeclared_of_default, undeclared_of_conditions, undeclared_of_symbol, undeclared_of_choice, undeclared_of}
use Rattle.kconf_tree.specs.Properties.{visibility_of, reverse_of, implied_of, direct_of, weakened, default_of, first_default, selected_by, choice_visibility_of}
use Rattle.kconf_tree.specs.Valid.{calculate, calculated_of, lets_y, lets_m, can_be_y, can_be_m, is_y, allows_mode, has_allowed_mode}
use Rattle.kconf_tree.specs.References.{numbers_in, in_conditions, of_default, of_selector, of_type, of_implied, own_references, symbol_references, choice_references, of_choice_default}
use Rattle.kconf_tree.specs.Right.{IsRight, is_m, is_n, keeps_mode, has_one_y, is_right_choice}
use Rattle.kconf_tree.specs.WellMade.{is_among}
use Rattle.kconf_tree.proofs.Small.{or_left, or_right, number_self}
use Rattle.kconf_tree.proofs.ValueLaws.{Agree, Alike, Names, agree_left, agree_right, names_left, names_right, value_same, on_same}

-- the tree's outer conditions hold alike, and its undeclared names are read alike
pub record AlikeIn (t : Shape) (c d : Configuration) : Type 0 where
  pub outer : (k : ℕ) → k < length t.outers → c.outer k ≡ d.outer k
  pub names : Names c d (undeclared_of t)

pub all_names : (c d : Configuration) → ((name : List ℕ) → c.undeclared name ≡ d.undeclared name) → (ns : List (List ℕ)) → Names c d ns
all_names c d h [] = tt
all_names c d h (n ∷ ns) = (h n, all_names c d h ns)

-- where all are alike, those of the tree are
pub alike_in : (t : Shape) (c d : Configuration) → Alike c d → AlikeIn t c d
alike_in t c d h = record { outer = λ k l. h.outer k; names = all_names c d h.undeclared (undeclared_of t) }

-- ---- tests that agree on a list

abbrev pub SameOn : (p q : ℕ → Bool) → List ℕ → Type 0
SameOn p q [] = Unit {0}
SameOn p q (j ∷ js) = (p j ≡ q j) × SameOn p q js

pub same_back : (p q : ℕ → Bool) (js : List ℕ) → SameOn p q js → SameOn q p js
same_back p q [] h = tt
same_back p q (j ∷ js) h = (sym h.0, same_back p q js h.1)

pub same_on : (p q : ℕ → Bool) (js : List ℕ) → ((j : ℕ) → is_among js j ≡ true → p j ≡ q j) → SameOn p q js
same_on p q [] h = tt
same_on p q (j ∷ js) h = (h j (or_left (j == j) (is_among js j) (number_self j)), same_on p q js (λ k g. h k (or_right (j == k) (is_among js k) g)))

pub any_same : (p q : ℕ → Bool) (js : List ℕ) → SameOn p q js → list_any p js ≡ list_any q js
any_same p q [] h = refl
any_same p q (j ∷ js) h = let rest = any_same p q js h.1 in λ i. h.0 i || rest i

pub all_same : (p q : ℕ → Bool) (js : List ℕ) → SameOn p q js → list_all p js ≡ list_all q js
all_same p q [] h = refl
all_same p q (j ∷ js) h = let rest = all_same p q js h.1 in λ i. h.0 i && rest i

pub filter_same : (p q : ℕ → Bool) (js : List ℕ) → SameOn p q js → filter p js ≡ filter q js
filter_same p q [] h = refl
filter_same p q (j ∷ js) h = let rest = filter_same p q js h.1 in λ i. cond (h.0 i) (j ∷ rest i) (rest i)

-- ---- the undeclared names of a symbol and of a choice are the tree's

module _ (c d : Configuration) where
  names_at : {X : Type 0} (f : X → List (List ℕ)) (xs : List X) (k : ℕ) (x : X) → Names c d (f x) → Names c d (flat_map f xs) → Names c d (f (get_or xs k x))
  names_at f [] k x e n = e
  names_at f (y ∷ ys) zero x e n = names_left c d (f y) (flat_map f ys) n
  names_at f (y ∷ ys) (suc k) x e n = names_at f ys k x e (names_right c d (f y) (flat_map f ys) n)

module _ (t : Shape) (c d : Configuration) (alike : AlikeIn t c d) where
  abbrev symbol_names : List (List ℕ)
  symbol_names = flat_map (undeclared_of_symbol t) t.symbols

  abbrev choice_names : List (List ℕ)
  choice_names = flat_map (undeclared_of_choice t) t.choices

  pub of_symbol : (k : ℕ) → Names c d (undeclared_of_symbol t (symbol_at t k))
  of_symbol k = names_at c d (undeclared_of_symbol t) t.symbols k no_symbol tt (names_left c d symbol_names choice_names alike.names)

  pub of_choice : (i : ℕ) → Names c d (undeclared_of_choice t (choice_at t i))
  of_choice i = names_at c d (undeclared_of_choice t) t.choices i no_choice tt (names_right c d symbol_names choice_names alike.names)

  -- the parts of a symbol's
  abbrev places_names : Symbol → List (List ℕ)
  places_names s = flat_map (undeclared_in t) s.places

  abbrev prompts_names : Symbol → List (List ℕ)
  prompts_names s = flat_map (undeclared_in t) s.prompts

  abbrev defaults_names : Symbol → List (List ℕ)
  defaults_names s = flat_map (undeclared_of_default t) s.defaults

  abbrev selects_names : Symbol → List (List ℕ)
  selects_names s = undeclared_of_conditions t s.selects

  abbrev implies_names : Symbol → List (List ℕ)
  implies_names s = undeclared_of_conditions t s.implies

  module _ (s : Symbol) (n : Names c d (undeclared_of_symbol t s)) where
    front : Names c d (places_names s ++ prompts_names s ++ defaults_names s)
    front = names_left c d (places_names s ++ prompts_names s ++ defaults_names s) (selects_names s) (names_left c d (places_names s ++ prompts_names s ++ defaults_names s ++ selects_names s) (implies_names s) n)

    in_places : Names c d (places_names s)
    in_places = names_left c d (places_names s) (prompts_names s) (names_left c d (places_names s ++ prompts_names s) (defaults_names s) front)

    in_prompts : Names c d (prompts_names s)
    in_prompts = names_right c d (places_names s) (prompts_names s) (names_left c d (places_names s ++ prompts_names s) (defaults_names s) front)

    pub in_defaults : Names c d (defaults_names s)
    in_defaults = names_right c d (places_names s ++ prompts_names s) (defaults_names s) front

    in_selects : Names c d (selects_names s)
    in_selects = names_right c d (places_names s ++ prompts_names s ++ defaults_names s) (selects_names s) (names_left c d (places_names s ++ prompts_names s ++ defaults_names s ++ selects_names s) (implies_names s) n)

    in_implies : Names c d (implies_names s)
    in_implies = names_right c d (places_names s ++ prompts_names s ++ defaults_names s ++ selects_names s) (implies_names s) n

  -- those in the conditions of selects and implies
  abbrev SelectNames : List Selecting → Type 0
  SelectNames = AllByRecursion (λ (s : Selecting). Names c d (undeclared_in t s.cond))

  two_lists : (xs ys : List Selecting) → SelectNames xs → SelectNames ys → SelectNames (xs ++ ys)
  two_lists [] ys a b = b
  two_lists (x ∷ xs) ys a b = (a.0, two_lists xs ys a.1 b)

  at_names : (name : List ℕ) (j : ℕ) (ss : List SelectOf) → Names c d (undeclared_of_conditions t ss) → SelectNames (selects_at name j ss)
  at_names name j [] n = tt
  at_names name j (s ∷ ss) n = by (text_eq s.target name) (at_names name j ss (names_right c d (undeclared_in t s.cond) (undeclared_of_conditions t ss) n))
    where
      by : (b : Bool) → SelectNames (selects_at name j ss) → SelectNames (cond b (record { by = j; cond = s.cond } ∷ selects_at name j ss) (selects_at name j ss))
      by true h = (names_left c d (undeclared_in t s.cond) (undeclared_of_conditions t ss) n, h)
      by false h = h

  from_names : (name : List ℕ) (j : ℕ) (ss : List Symbol) → Names c d (flat_map (undeclared_of_symbol t) ss) → SelectNames (selects_from name j ss)
  from_names name j [] n = tt
  from_names name j (s ∷ ss) n = two_lists (selects_at name j s.selects) (selects_from name (suc j) ss)
      (at_names name j s.selects (in_selects s (names_left c d (undeclared_of_symbol t s) (flat_map (undeclared_of_symbol t) ss) n)))
      (from_names name (suc j) ss (names_right c d (undeclared_of_symbol t s) (flat_map (undeclared_of_symbol t) ss) n))

  implied_names : (name : List ℕ) (j : ℕ) (ss : List Symbol) → Names c d (flat_map (undeclared_of_symbol t) ss) → SelectNames (implies_from name j ss)
  implied_names name j [] n = tt
  implied_names name j (s ∷ ss) n = two_lists (selects_at name j s.implies) (implies_from name (suc j) ss)
      (at_names name j s.implies (in_implies s (names_left c d (undeclared_of_symbol t s) (flat_map (undeclared_of_symbol t) ss) n)))
      (implied_names name (suc j) ss (names_right c d (undeclared_of_symbol t s) (flat_map (undeclared_of_symbol t) ss) n))

  -- ---- lists of conditions

  abbrev names_of_all : List Expr → List (List ℕ)
  names_of_all es = flat_map (undeclared_in t) es

  conditions_same : (es : List Expr) → Agree c d (in_conditions t es) → Names c d (names_of_all es) → map (value_of t c) es ≡ map (value_of t d) es
  conditions_same [] h n = refl
  conditions_same (e ∷ es) h n = let one = value_same t c d alike.outer Condition e (agree_left c d (numbers_in t Condition e) (in_conditions t es) h) (names_left c d (undeclared_in t e) (names_of_all es) n) in
      let more = conditions_same es (agree_right c d (numbers_in t Condition e) (in_conditions t es) h) (names_right c d (undeclared_in t e) (names_of_all es) n) in λ i. one i ∷ more i

  abbrev names_of_defaults : List DefaultOf → List (List ℕ)
  names_of_defaults ds = flat_map (undeclared_of_default t) ds

  defaults_same : (ds : List DefaultOf) → Agree c d (flat_map (of_default t) ds) → Names c d (names_of_defaults ds) → first_default t c ds ≡ first_default t d ds
  defaults_same [] h n = refl
  defaults_same (e ∷ ds) h n = let here = agree_left c d (of_default t e) (flat_map (of_default t) ds) h in
      let own = names_left c d (undeclared_of_default t e) (names_of_defaults ds) n in
      let one = value_same t c d alike.outer Condition e.cond (agree_left c d (numbers_in t Condition e.cond) (numbers_in t Value e.value) here) (names_right c d (undeclared_in t e.value) (undeclared_in t e.cond) own) in
      let two = value_same t c d alike.outer Value e.value (agree_right c d (numbers_in t Condition e.cond) (numbers_in t Value e.value) here) (names_left c d (undeclared_in t e.value) (undeclared_in t e.cond) own) in
      let more = defaults_same ds (agree_right c d (of_default t e) (flat_map (of_default t) ds) h) (names_right c d (undeclared_of_default t e) (names_of_defaults ds) n) in
      λ i. cond (one i == 0) (more i) (min (two i) (one i))

  selected_same : (ss : List Selecting) → Agree c d (flat_map (of_selector t) ss) → SelectNames ss → map (selected_by t c) ss ≡ map (selected_by t d) ss
  selected_same [] h n = refl
  selected_same (s ∷ ss) h n = let here = agree_left c d (of_selector t s) (flat_map (of_selector t) ss) h in
      let own = ap (stands_for (counts_as t s.by)) here.0 in
      let one = value_same t c d alike.outer Condition s.cond here.1 n.0 in
      let more = selected_same ss (agree_right c d (of_selector t s) (flat_map (of_selector t) ss) h) n.1 in
      λ i. min (own i) (one i) ∷ more i

  -- ---- a symbol

  -- what it refers to, in parts
  abbrev pub prompts_of : ℕ → List ℕ
  prompts_of k = in_conditions t (symbol_at t k).prompts

  abbrev pub defaults_of : ℕ → List ℕ
  defaults_of k = flat_map (of_default t) (symbol_at t k).defaults

  abbrev places_of : ℕ → List ℕ
  places_of k = of_implied t (impliers_of t k) (symbol_at t k).places

  abbrev type_of : ℕ → List ℕ
  type_of k = of_type t (counts_as t k)

  abbrev selecting_of : ℕ → List ℕ
  selecting_of k = flat_map (of_selector t) (selectors_of t k)

  abbrev implying_of : ℕ → List ℕ
  implying_of k = flat_map (of_selector t) (impliers_of t k)

  module _ (k : ℕ) (own : Agree c d (own_references t k)) where
    pub own_front : Agree c d (prompts_of k ++ defaults_of k)
    own_front = agree_left c d (prompts_of k ++ defaults_of k) (places_of k) (agree_left c d (prompts_of k ++ defaults_of k ++ places_of k) (type_of k) own)

    own_places : Agree c d (places_of k)
    own_places = agree_right c d (prompts_of k ++ defaults_of k) (places_of k) (agree_left c d (prompts_of k ++ defaults_of k ++ places_of k) (type_of k) own)

    pub own_type : Agree c d (type_of k)
    own_type = agree_right c d (prompts_of k ++ defaults_of k ++ places_of k) (type_of k) own

    pub visibility_same : visibility_of t c k ≡ visibility_of t d k
    visibility_same = ap greatest (conditions_same (symbol_at t k).prompts (agree_left c d (prompts_of k) (defaults_of k) own_front) (in_prompts (symbol_at t k) (of_symbol k)))

    first_same : first_default t c (symbol_at t k).defaults ≡ first_default t d (symbol_at t k).defaults
    first_same = defaults_same (symbol_at t k).defaults (agree_right c d (prompts_of k) (defaults_of k) own_front) (in_defaults (symbol_at t k) (of_symbol k))

  -- modules matter to a tristate alone
  abbrev pub modules_same : (kind : Counts) → Type 0
  modules_same counts.Bool = Unit {0}
  modules_same counts.Tristate = has_modules t c ≡ has_modules t d
  modules_same counts.Neither = Unit {0}

  type_modules : (kind : Counts) → Agree c d (of_type t kind) → modules_same kind
  type_modules counts.Bool h = tt
  type_modules counts.Tristate h = on_same t c d h
  type_modules counts.Neither h = tt

  type_same : (kind : Counts) (vis rev def : ℕ) (u : Option ℕ) → modules_same kind → calculate kind (has_modules t c) vis rev def u ≡ calculate kind (has_modules t d) vis rev def u
  type_same counts.Bool vis rev def u h = refl
  type_same counts.Tristate vis rev def u h = ap (λ on. calculate counts.Tristate on vis rev def u) h
  type_same counts.Neither vis rev def u h = refl

  lets_same : (kind : Counts) (vis : ℕ) → modules_same kind → lets_y kind (has_modules t c) vis ≡ lets_y kind (has_modules t d) vis
  lets_same counts.Bool vis h = refl
  lets_same counts.Tristate vis h = ap (λ on. lets_y counts.Tristate on vis) h
  lets_same counts.Neither vis h = refl

  -- the direct dependency counts where the symbol is implied alone
  weak_same : (k : ℕ) (ss : List Selecting) (def : ℕ) → Agree c d (of_implied t ss (symbol_at t k).places) → map (selected_by t c) ss ≡ map (selected_by t d) ss
      → weakened (greatest (map (selected_by t c) ss)) (direct_of t c k) def ≡ weakened (greatest (map (selected_by t d) ss)) (direct_of t d k) def
  weak_same k [] def h e = refl
  weak_same k (s ∷ ss) def h e = let direct : direct_of t c k ≡ direct_of t d k = ap greatest (conditions_same (symbol_at t k).places h (in_places (symbol_at t k) (of_symbol k))) in
      λ i. weakened (greatest (e i)) (direct i) def

  module _ (k : ℕ) (all : Agree c d (symbol_references t k)) where
    to_own : Agree c d (own_references t k)
    to_own = agree_left c d (own_references t k) (selecting_of k) (agree_left c d (own_references t k ++ selecting_of k) (implying_of k) all)

    reverse_same : reverse_of t c k ≡ reverse_of t d k
    reverse_same = ap greatest (selected_same (selectors_of t k) (agree_right c d (own_references t k) (selecting_of k) (agree_left c d (own_references t k ++ selecting_of k) (implying_of k) all))
        (from_names (symbol_at t k).name 0 t.symbols (names_left c d symbol_names choice_names alike.names)))

    default_same : default_of t c k ≡ default_of t d k
    default_same = ap (weakened (implied_of t c k) (direct_of t c k)) (first_same k to_own)
        ∙ weak_same k (impliers_of t k) (first_default t d (symbol_at t k).defaults) (own_places k to_own)
        (selected_same (impliers_of t k) (agree_right c d (own_references t k ++ selecting_of k) (implying_of k) all) (implied_names (symbol_at t k).name 0 t.symbols (names_left c d symbol_names choice_names alike.names)))

    pub calculated_same : (u : Option ℕ) → calculated_of t c u k ≡ calculated_of t d u k
    calculated_same u = let vis = visibility_same k to_own in let rev = reverse_same in let def = default_same in
        (λ i. calculate (counts_as t k) (has_modules t c) (vis i) (rev i) (def i) u)
        ∙ type_same (counts_as t k) (visibility_of t d k) (reverse_of t d k) (default_of t d k) u (type_modules (counts_as t k) (own_type k to_own))

    -- a right symbol stays right
    pub right_stays : c.value k ≡ d.value k → IsRight t c k → IsRight t d k
    right_stays own r = (r.0, (r.1.0, sym (calculated_same r.0) ∙ (r.1.1 ∙ own)))

  -- ---- a choice

  abbrev asked_of : ℕ → List ℕ
  asked_of i = in_conditions t (choice_at t i).prompts

  abbrev picks_of : ℕ → List ℕ
  picks_of i = flat_map (of_choice_default t i) (choice_at t i).defaults

  abbrev choice_type_of : ℕ → List ℕ
  choice_type_of i = of_type t (counts_alone (choice_at t i).kind)

  abbrev members_of : ℕ → List ℕ
  members_of i = flat_map (own_references t) (choice_at t i).members

  can_y_same : (js : List ℕ) → Agree c d (flat_map (own_references t) js) → SameOn (can_be_y t c) (can_be_y t d) js
  can_y_same [] h = tt
  can_y_same (j ∷ js) h = let own = agree_left c d (own_references t j) (flat_map (own_references t) js) h in let vis = visibility_same j own in (
    (λ i. lets_y (counts_as t j) (has_modules t c) (vis i)) ∙ lets_same (counts_as t j) (visibility_of t d j) (type_modules (counts_as t j) (own_type j own)),
    can_y_same js (agree_right c d (own_references t j) (flat_map (own_references t) js) h),
  )

  can_m_same : (js : List ℕ) → Agree c d (flat_map (own_references t) js) → SameOn (can_be_m t c) (can_be_m t d) js
  can_m_same [] h = tt
  can_m_same (j ∷ js) h = let own = agree_left c d (own_references t j) (flat_map (own_references t) js) h in
      (ap (lets_m (counts_as t j)) (visibility_same j own), can_m_same js (agree_right c d (own_references t j) (flat_map (own_references t) js) h))

  module _ (i : ℕ) (all : Agree c d (choice_references t i)) where
    choice_front : Agree c d (asked_of i ++ picks_of i ++ choice_type_of i)
    choice_front = agree_left c d (asked_of i ++ picks_of i ++ choice_type_of i) (members_of i) all

    pub to_members : Agree c d (members_of i)
    to_members = agree_right c d (asked_of i ++ picks_of i ++ choice_type_of i) (members_of i) all

    pub to_picks : Agree c d (picks_of i)
    to_picks = agree_right c d (asked_of i) (picks_of i) (agree_left c d (asked_of i ++ picks_of i) (choice_type_of i) choice_front)

    pub to_choice_type : Agree c d (choice_type_of i)
    to_choice_type = agree_right c d (asked_of i ++ picks_of i) (choice_type_of i) choice_front

    pub choice_visibility_same : choice_visibility_of t c i ≡ choice_visibility_of t d i
    choice_visibility_same = ap greatest (conditions_same (choice_at t i).prompts (agree_left c d (asked_of i) (picks_of i) (agree_left c d (asked_of i ++ picks_of i) (choice_type_of i) choice_front))
        (names_left c d (flat_map (undeclared_in t) (choice_at t i).prompts) (undeclared_of_conditions t (choice_at t i).defaults) (of_choice i)))

    pub cans_same : SameOn (can_be_y t c) (can_be_y t d) (choice_at t i).members
    cans_same = can_y_same (choice_at t i).members to_members

    pub can_ms_same : SameOn (can_be_m t c) (can_be_m t d) (choice_at t i).members
    can_ms_same = can_m_same (choice_at t i).members to_members

    pub choice_modules : modules_same (counts_alone (choice_at t i).kind)
    choice_modules = type_modules (counts_alone (choice_at t i).kind) to_choice_type

  allows_same : (kind : Counts) (optional : Bool) (vis mode : ℕ) → modules_same kind → allows_mode kind (has_modules t c) optional vis mode ≡ allows_mode kind (has_modules t d) optional vis mode
  allows_same counts.Bool optional vis mode h = ap (λ b. cond (mode == 0) ((vis == 0) || optional) (cond (mode == 1) b ((mode == 2) && not (vis == 0)))) (never (has_modules t c) ∙ sym (never (has_modules t d)))
    where
      never : (b : Bool) → (b && false) ≡ false
      never true = refl
      never false = refl
  allows_same counts.Tristate optional vis mode h = ap (λ on. allows_mode counts.Tristate on optional vis mode) h
  allows_same counts.Neither optional vis mode h = ap (λ b. cond (mode == 0) ((vis == 0) || optional) (cond (mode == 1) b ((mode == 2) && not (vis == 0)))) (never (has_modules t c) ∙ sym (never (has_modules t d)))
    where
      never : (b : Bool) → (b && false) ≡ false
      never true = refl
      never false = refl

  keeps_same : (mode : ℕ) (js : List ℕ) → ((j : ℕ) → is_among js j ≡ true → c.value j ≡ d.value j) → SameOn (can_be_y t c) (can_be_y t d) js → SameOn (can_be_m t c) (can_be_m t d) js
      → SameOn (keeps_mode t c mode) (keeps_mode t d mode) js
  keeps_same mode [] h a b = tt
  keeps_same mode (j ∷ js) h a b = let own : c.value j ≡ d.value j = h j (or_left (j == j) (is_among js j) (number_self j)) in
      ((λ i. cond (own i == 2) ((mode == 2) && a.0 i) (cond (own i == 1) ((mode == 1) && b.0 i) (own i == 0))), keeps_same mode js (λ k g. h k (or_right (j == k) (is_among js k) g)) a.1 b.1)

  pub choice_stays : (i : ℕ) → c.mode i ≡ d.mode i → ((j : ℕ) → is_among (choice_at t i).members j ≡ true → c.value j ≡ d.value j) → Agree c d (choice_references t i) → is_right_choice t c i ≡ true → is_right_choice t d i ≡ true
  choice_stays i mode values all r = sym same ∙ r
    where
      ms : List ℕ
      ms = (choice_at t i).members

      ys : SameOn (is_y c) (is_y d) ms
      ys = same_on (is_y c) (is_y d) ms (λ j h. ap (λ x. x == 2) (values j h))

      allowed : has_allowed_mode t c i ≡ has_allowed_mode t d i
      allowed = let vis = choice_visibility_same i all in (λ z. allows_mode (counts_alone (choice_at t i).kind) (has_modules t c) (choice_at t i).optional (vis z) (mode z))
          ∙ allows_same (counts_alone (choice_at t i).kind) (choice_at t i).optional (choice_visibility_of t d i) (d.mode i) (choice_modules i all)

      kept : list_all (keeps_mode t c (c.mode i)) ms ≡ list_all (keeps_mode t d (d.mode i)) ms
      kept = ap (λ (m : ℕ). list_all (keeps_mode t c m) ms) mode ∙ all_same (keeps_mode t c (d.mode i)) (keeps_mode t d (d.mode i)) ms (keeps_same (d.mode i) ms values (cans_same i all) (can_ms_same i all))

      one : has_one_y t c (c.mode i) ms ≡ has_one_y t d (d.mode i) ms
      one = let some = any_same (can_be_y t c) (can_be_y t d) ms (cans_same i all) in let those = filter_same (is_y c) (is_y d) ms ys in
          λ z. cond ((mode z == 2) && some z) (length (those z) == 1) true

      same : is_right_choice t c i ≡ is_right_choice t d i
      same = λ z. allowed z && (kept z && one z)
