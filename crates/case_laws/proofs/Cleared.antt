-- Where the symbol of a macro isn't written, the truth that the environment gives it changes nothing: so a least case has none.
use Rattle.std.proofs.Common.{◌≡◌, ℕ, Bool, true, false, ◌&&◌, ◌||◌, cond, List, [], ◌∷◌, Option, None, Some, is_some, position, get_or, refl, ap, sym, ◌∙◌, ◌⊎◌, inl, inr}
use Rattle.std.specs.List.{AllByRecursion, list_all}
use Rattle.std.proofs.lemmas.Bool.{false≢true}
use Rattle.std.proofs.lemmas.List.Elements.{recursion_from_All}
use Rattle.std.proofs.lemmas.List.Quantifiers.{position-Some}
use Rattle.ut_text.specs.Text.{text_eq, text_eq-exact}
use Rattle.ut_logic.specs.declared.item.Item.{Item}
use Rattle.ut_logic.specs.declared.item.Item.TheVariants as item
use Rattle.ut_logic.specs.Assign.{is_in}
use Rattle.ut_logic.specs.Item.{item_eq}
use Rattle.ut_logic.specs.ItemIdentity.{item_eq-Decides}
use Rattle.ut_logic.specs.Owners.{owner}
use Rattle.ut_logic.proofs.MentionLaws.{truth-agree}
use Rattle.kconf_tree.specs.Shape.{number_of}
use Rattle.kconf_tree.specs.Value.{Configuration}
use Rattle.cpp_blocks.specs.declared.state.MacroState.{MacroState}
use Rattle.cpp_blocks.specs.Mentions.{names_of}
use Rattle.cpp_blocks.specs.Run.{Start, is_defined, is_on_in, is_true}
use Rattle.cpp_blocks.specs.Formulas.{piece_in, source_of}
use Rattle.cpp_blocks.specs.Solution.{state_of, states_of}
use Rattle.cpp_blocks.specs.declared.state.MacroState.TheVariants.{DefinedTrue, Undefined}
use Rattle.ut_case.specs.declared.question.Family.{Family}
use Rattle.ut_case.specs.declared.question.Family.TheVariants as family
use Rattle.ut_case.specs.declared.wish.Wish.{Wish}
use Rattle.ut_case.specs.declared.wish.Wish.TheVariants as wish
use Rattle.ut_case.specs.Cases.{Case, IsCaseOf}
use Rattle.ut_case.specs.Environments.{is_written_by}
use Rattle.ut_case.specs.Items.{item_truth, macro_at}
use Rattle.ut_case.specs.Least.{IsAtMost}
use Rattle.ut_case.specs.Names.{config_name, module_of}
use Rattle.ut_case.specs.Numbering.{shared}
use Rattle.ut_case.specs.On.{start_in}
use Rattle.ut_case.specs.Posed.{IsAskable, IsItemOf, IsOuterOf, IsWishOf}
use Rattle.ut_case.specs.Problem.{Basis, OfTree, OfRules, Problem, directives_at, source_at}
use Rattle.ut_case.specs.Questions.{Question, is_met, meets}
use Rattle.ut_case.specs.Starts.{config_start, defined_as, free_start, has_value, macro_start, named_start, numbered_start, present_if}

-- ---- another item

other_item : (a b : Item) → (a ≡ b → ⊥) → item_eq a b ≡ false
other_item a b never = by (item_eq a b) refl
  where
    by : (c : Bool) → item_eq a b ≡ c → item_eq a b ≡ false
    by true e = absurd (never ((item_eq-Decides a b).0 e))
    by false e = e

abbrev is_truth : Item → Bool
is_truth (item.SymY k) = false
is_truth (item.SymM k) = false
is_truth (item.Undeclared k) = false
is_truth (item.ModeY k) = false
is_truth (item.ModeM k) = false
is_truth (item.Outer k) = false
is_truth (item.Same k j) = false
is_truth (item.Below k j) = false
is_truth (item.StartD file n) = false
is_truth (item.StartT file n) = false
is_truth (item.Truth file n) = true
is_truth (item.Piece file k) = false
is_truth (item.Line file k) = false
is_truth (item.Block file k) = false
is_truth (item.StateD file n turn) = false
is_truth (item.StateT file n turn) = false

-- one that is no truth
not_truth : (i : Item) (file n : ℕ) → is_truth i ≡ false → item_eq i (item.Truth file n) ≡ false
not_truth i file n h = other_item i (item.Truth file n) (λ (e : i ≡ item.Truth file n). false≢true (sym h ∙ ap is_truth e))

-- the numbers of a truth
abbrev file_in : Item → ℕ
file_in (item.SymY k) = 0
file_in (item.SymM k) = 0
file_in (item.Undeclared k) = 0
file_in (item.ModeY k) = 0
file_in (item.ModeM k) = 0
file_in (item.Outer k) = 0
file_in (item.Same k j) = 0
file_in (item.Below k j) = 0
file_in (item.StartD file n) = 0
file_in (item.StartT file n) = 0
file_in (item.Truth file n) = file
file_in (item.Piece file k) = 0
file_in (item.Line file k) = 0
file_in (item.Block file k) = 0
file_in (item.StateD file n turn) = 0
file_in (item.StateT file n turn) = 0

abbrev name_in : Item → ℕ
name_in (item.SymY k) = 0
name_in (item.SymM k) = 0
name_in (item.Undeclared k) = 0
name_in (item.ModeY k) = 0
name_in (item.ModeM k) = 0
name_in (item.Outer k) = 0
name_in (item.Same k j) = 0
name_in (item.Below k j) = 0
name_in (item.StartD file n) = 0
name_in (item.StartT file n) = 0
name_in (item.Truth file n) = n
name_in (item.Piece file k) = 0
name_in (item.Line file k) = 0
name_in (item.Block file k) = 0
name_in (item.StateD file n turn) = 0
name_in (item.StateT file n turn) = 0

-- ---- the case without it

abbrev pub without : Case → ℕ → ℕ → Case
without x file n = record { configuration = x.configuration; environment = λ i. cond (item_eq i (item.Truth file n)) false (x.environment i) }

-- a name that isn't written starts alike
config_same : (b : Basis) (c : Configuration) (macro name : List ℕ) (u w : Bool) → is_written_by b c (Some name) ≡ false → config_start b c u macro name ≡ config_start b c w macro name
config_same (OfTree t) c macro name u w h = ap (λ (b : Bool). by b u) h ∙ sym (ap (λ (b : Bool). by b w) h)
  where
    by : Bool → Bool → MacroState
    by b v = cond (has_value t c 2 (number_of t name) || has_value t c 1 (module_of t name)) DefinedTrue
        (cond b (defined_as v) (cond (is_some (number_of t name) || is_some (module_of t name)) Undefined (present_if (c.undeclared name))))
config_same (OfRules r) c macro name u w h = refl

module _ (p : Problem) (q : Question) (x : Case) (file n : ℕ) (unwritten : is_written_by p.basis x.configuration (config_name (macro_at p file n)) ≡ false) where
  kept : (i : Item) → item_eq i (item.Truth file n) ≡ false → (without x file n).environment i ≡ x.environment i
  kept i e = ap (λ (b : Bool). cond b false (x.environment i)) e

  free_same : (g m : ℕ) → free_start (without x file n) g m ≡ free_start x g m
  free_same g m = λ i. state_of (kept (item.StartD g m) (not_truth (item.StartD g m) file n refl) i) (kept (item.StartT g m) (not_truth (item.StartT g m) file n refl) i)

  named_same : (g m : ℕ) (macro : List ℕ) → macro ≡ macro_at p g m → (o : Option (List ℕ)) → config_name macro ≡ o → named_start p.basis (without x file n) g m macro o ≡ named_start p.basis x g m macro o
  named_same g m macro at None e = free_same g m
  named_same g m macro at (Some name) e = by (item_eq (item.Truth g m) (item.Truth file n)) refl
    where
      by : (b : Bool) → item_eq (item.Truth g m) (item.Truth file n) ≡ b
          → config_start p.basis x.configuration ((without x file n).environment (item.Truth g m)) macro name ≡ config_start p.basis x.configuration (x.environment (item.Truth g m)) macro name
      by false d = ap (λ (b : Bool). config_start p.basis x.configuration b macro name) (kept (item.Truth g m) d)
      by true d = config_same p.basis x.configuration macro name ((without x file n).environment (item.Truth g m)) (x.environment (item.Truth g m)) here
        where
          same : item.Truth g m ≡ item.Truth file n
          same = (item_eq-Decides (item.Truth g m) (item.Truth file n)).0 d

          moved : macro_at p g m ≡ macro_at p file n
          moved = λ i. macro_at p (file_in (same i)) (name_in (same i))

          this : macro_at p file n ≡ macro
          this = sym moved ∙ sym at

          here : is_written_by p.basis x.configuration (Some name) ≡ false
          here = ap (is_written_by p.basis x.configuration) (sym e ∙ ap config_name (sym this)) ∙ unwritten

  macro_same : (f : Family) (g m : ℕ) (macro : List ℕ) → macro ≡ macro_at p g m → macro_start p.basis f (without x file n) g m macro ≡ macro_start p.basis f x g m macro
  macro_same family.Code g m macro at = free_same g m
  macro_same family.Kconfig g m macro at = named_same g m macro at (config_name macro) refl
  macro_same family.Whole g m macro at = named_same g m macro at (config_name macro) refl

  numbered_same : (g : ℕ) (macro : List ℕ) → numbered_start p.basis q.family (without x file n) g macro (position (text_eq macro) (names_of (directives_at p g))) ≡ numbered_start p.basis q.family x g macro (position (text_eq macro) (names_of (directives_at p g)))
  numbered_same g macro = by (position (text_eq macro) (names_of (directives_at p g))) refl
    where
      by : (o : Option ℕ) → position (text_eq macro) (names_of (directives_at p g)) ≡ o → numbered_start p.basis q.family (without x file n) g macro o ≡ numbered_start p.basis q.family x g macro o
      by None e = refl
      by (Some m) e = macro_same q.family g m macro (text_eq-exact macro (macro_at p g m) (position-Some (text_eq macro) (names_of (directives_at p g)) m [] e).1)

  start_same : (g : ℕ) → start_in (shared p) q.family (without x file n) g (source_at p g) ≡ start_in (shared p) q.family x g (source_at p g)
  start_same g = λ i. record {
    built = (start_in (shared p) q.family x g (source_at p g)).built;
    macros = λ macro. numbered_same g macro i;
    piece = λ text turn. kept (item.Piece g (piece_in (source_of g (directives_at p g)) text turn)) (not_truth (item.Piece g (piece_in (source_of g (directives_at p g)) text turn)) file n refl) i;
    line = λ line. kept (item.Line g line) (not_truth (item.Line g line) file n refl) i;
  }

  -- every other item has its truth
  item_same : (i : Item) → item_eq i (item.Truth file n) ≡ false → item_truth p q.family (without x file n) i ≡ item_truth p q.family x i
  item_same (item.SymY k) e = refl
  item_same (item.SymM k) e = refl
  item_same (item.Undeclared k) e = refl
  item_same (item.ModeY k) e = refl
  item_same (item.ModeM k) e = refl
  item_same (item.Outer k) e = refl
  item_same (item.Same k j) e = refl
  item_same (item.Below k j) e = refl
  item_same (item.StartD g m) e = ap is_defined (free_same g m)
  item_same (item.StartT g m) e = ap is_true (free_same g m)
  item_same (item.Truth g m) e = kept (item.Truth g m) e
  item_same (item.Piece g k) e = kept (item.Piece g k) e
  item_same (item.Line g k) e = kept (item.Line g k) e
  item_same (item.Block g k) e = ap (λ (s : Start). is_on_in s (directives_at p g) k) (start_same g)
  item_same (item.StateD g m turn) e = ap (λ (s : Start). is_defined (get_or (states_of s (directives_at p g) (macro_at p g m)) turn Undefined)) (start_same g)
  item_same (item.StateT g m turn) e = ap (λ (s : Start). is_true (get_or (states_of s (directives_at p g) (macro_at p g m)) turn Undefined)) (start_same g)

  this_false : item_truth p q.family (without x file n) (item.Truth file n) ≡ false
  this_false = ap (λ (b : Bool). cond b false (x.environment (item.Truth file n))) ((item_eq-Decides (item.Truth file n) (item.Truth file n)).1 refl)

  -- so the question is met alike
  wish_same : (w : Wish) → IsWishOf p q w → is_met p q.family (without x file n) w ≡ is_met p q.family x w
  wish_same (wish.Block b) h = ap (λ (s : Start). is_on_in s (directives_at p b.file) b.block) (start_same b.file)
  wish_same (wish.On name) h = refl
  wish_same (wish.Off name) h = refl
  wish_same (wish.Holds formula nodes) h = truth-agree (item_truth p q.family (without x file n)) (item_truth p q.family x) formula (λ i m. item_same i (other_item i (item.Truth file n) (λ e. never i (h.items i m) e)))
    where
      never : (i : Item) → IsOuterOf p i ⊎ IsItemOf p q nodes i → i ≡ item.Truth file n → ⊥
      never i (inl r) e = false≢true (ap is_truth (sym r.1 ∙ e))
      never i (inr r) e = let wrong : None ≡ Some r.node = sym (ap owner e) ∙ r.owns in absurd (cc)

  each_same : (ws : List Wish) → AllByRecursion (IsWishOf p q) ws → list_all (is_met p q.family (without x file n)) ws ≡ list_all (is_met p q.family x) ws
  each_same [] h = refl
  each_same (w ∷ ws) h = λ i. wish_same w h.0 i && each_same ws h.1 i

  meets_same : IsAskable p q → meets p q (without x file n) ≡ meets p q x
  meets_same askable = each_same q.wishes (recursion_from_All (IsWishOf p q) q.wishes askable.wished)

case_same : (p : Problem) (f : Family) (x : Case) (file n : ℕ) → IsCaseOf p f x → IsCaseOf p f (without x file n)
case_same p family.Code x file n h = h
case_same p family.Kconfig x file n h = h
case_same p family.Whole x file n h = h

-- ---- the least

-- what comes first isn't true at an item where another one, the same elsewhere, is false
never_most : (items : List Item) (a b : Item → Bool) (i : Item) → is_in items i ≡ true → a i ≡ true → b i ≡ false → ((j : Item) → item_eq j i ≡ false → b j ≡ a j) → IsAtMost items a b → ⊥
never_most [] a b i m on off same most = false≢true m
never_most (h ∷ hs) a b i m on off same (inl r) = by (item_eq h i) refl
  where
    by : (c : Bool) → item_eq h i ≡ c → ⊥
    by true e = false≢true (sym r.0 ∙ (ap a ((item_eq-Decides h i).0 e) ∙ on))
    by false e = false≢true (sym r.0 ∙ (sym (same h e) ∙ r.1))
never_most (h ∷ hs) a b i m on off same (inr r) = by (item_eq h i) refl m (λ g. never_most hs a b i g on off same r.1)
  where
    by : (c : Bool) → item_eq h i ≡ c → (c || is_in hs i) ≡ true → (is_in hs i ≡ true → ⊥) → ⊥
    by true e g rest = false≢true (sym off ∙ (sym (ap b ((item_eq-Decides h i).0 e)) ∙ (sym r.0 ∙ (ap a ((item_eq-Decides h i).0 e) ∙ on))))
    by false e g rest = rest g

-- a truth of the least case is that of a written symbol
pub truth_written : (p : Problem) (q : Question) (x : Case) (file n : ℕ) → IsAskable p q → (items : List Item) → is_in items (item.Truth file n) ≡ true → x.environment (item.Truth file n) ≡ true
    → IsCaseOf p q.family x → meets p q x ≡ true → ((z : Case) → IsCaseOf p q.family z → meets p q z ≡ true → IsAtMost items (item_truth p q.family x) (item_truth p q.family z))
    → is_written_by p.basis x.configuration (config_name (macro_at p file n)) ≡ true
truth_written p q x file n askable items m on belongs met least = by (is_written_by p.basis x.configuration (config_name (macro_at p file n))) refl
  where
    by : (b : Bool) → is_written_by p.basis x.configuration (config_name (macro_at p file n)) ≡ b → is_written_by p.basis x.configuration (config_name (macro_at p file n)) ≡ true
    by true e = e
    by false e = absurd (never_most items (item_truth p q.family x) (item_truth p q.family (without x file n)) (item.Truth file n) m on (this_false p q x file n e) (item_same p q x file n e)
        (least (without x file n) (case_same p q.family x file n belongs) (meets_same p q x file n e askable ∙ met)))
