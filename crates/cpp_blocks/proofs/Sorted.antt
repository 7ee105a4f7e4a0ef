-- The facts of a source, sorted by their nodes, are those of its directives with those of the file and the starts.
use Rattle.std.proofs.Common.{◌≡◌, ℕ, ◌+◌, ◌<◌, ◌≤◌, zero, suc, Bool, true, false, cond, List, [], ◌∷◌, ◌++◌, length, filter, slice_get, Some, eqb, refl, sym, ◌∙◌, subst, arith, ◌⊎◌, inl, inr}
use Rattle.std.specs.List.{flat_map}
use Rattle.std.proofs.lemmas.Bool.{false≢true}
use Rattle.std.proofs.lemmas.Bool.Decides.{nat_tests}
use Rattle.ut_logic.specs.declared.node.Node.{Node}
use Rattle.ut_logic.specs.declared.facts.Fact.{Fact}
use Rattle.ut_logic.specs.declared.formula.Formula.{Formula}
use Rattle.cpp_directives.specs.declared.directive.Directive.{Directive}
use Rattle.cpp_directives.specs.declared.directive.What.{What}
use Rattle.cpp_directives.specs.declared.directive.What.TheVariants.{If, Elif, Else, Endif, Define, Undef}
use Rattle.cpp_blocks.specs.declared.groups.OpenGroups.{OpenGroups}
use Rattle.cpp_blocks.specs.declared.starts.StartOf.{StartOf}
use Rattle.cpp_blocks.specs.Facts.{start_fact, is_block, is_state, states_from}
use Rattle.cpp_blocks.specs.Formulas.{Source, turns_after}
use Rattle.cpp_blocks.specs.Mentions.{names_at}
use Rattle.cpp_blocks.specs.Steps.{Standing, next_group, fact_at, after, facts_along}
use Rattle.cpp_blocks.specs.Turns.{touched_at}
use Rattle.cpp_blocks.proofs.Along.{AllKnown, each_front, each_back, each_both}
use Rattle.cpp_blocks.proofs.CondTruth.{is_known, Known, known_front, known_back, and_front}
use Rattle.cpp_blocks.proofs.Meeting.{Each}
use Rattle.cpp_blocks.proofs.Numbers.{place_within}

-- a fact of a block, or of a state of one of so many names
abbrev pub IsOf : ℕ → Fact → Type 0
IsOf count f = (is_block f.node ≡ true) ⊎ ((n : ℕ) × (n < count) × (is_state n f.node ≡ true))

same_number : (n : ℕ) → eqb n n ≡ true
same_number n = grind (arith, nat_tests)

group_of : (src : Source) (next : ℕ) (cs : List OpenGroups) (states : List Node) (f : Formula) → Each (IsOf (length src.names)) (next_group src.file next cs states f)
group_of src next [] states f = tt
group_of src next (c ∷ cs) states f = (inl refl, tt)

fact_of : (src : Source) (touched : List (List ℕ)) (at : Standing) (line : ℕ) (w : What) → Known src (names_at w) → Each (IsOf (length src.names)) (fact_at src (turns_after touched) at line w)
fact_of src touched at line (If c) known = (inl refl, tt)
fact_of src touched at line (Elif c) known = group_of src at.next at.chains _ _
fact_of src touched at line Else known = group_of src at.next at.chains _ _
fact_of src touched at line Endif known = tt
fact_of src touched at line (Define x gives) known = (inr (_, place_within _ src.names (and_front (is_known src x) true known), same_number _), tt)
fact_of src touched at line (Undef x) known = (inr (_, place_within _ src.names (and_front (is_known src x) true known), same_number _), tt)

-- each fact of the directives is one of them
pub facts_of_kind : (src : Source) (ds : List Directive) (touched : List (List ℕ)) (at : Standing) → AllKnown src ds → Each (IsOf (length src.names)) (facts_along src touched at ds)
facts_of_kind src [] touched at known = tt
facts_of_kind src (d ∷ ds) touched at known = each_both (IsOf (length src.names)) (fact_at src (turns_after touched) at d.line d.what) (facts_along src (touched ++ touched_at d.what) (after at d.what) ds)
    (fact_of src touched at d.line d.what (known_front src (names_at d.what) (flat_map (λ x. names_at x.what) ds) known))
    (facts_of_kind src ds (touched ++ touched_at d.what) (after at d.what) (known_back src (names_at d.what) (flat_map (λ x. names_at x.what) ds) known))

-- ---- parts of a list

of_filtered : (P : Fact → Type 0) (p : Fact → Bool) (xs : List Fact) → Each P (filter p xs) → Each (λ x. p x ≡ true → P x) xs
of_filtered P p [] h = tt
of_filtered P p (x ∷ xs) h = by (p x) refl h (of_filtered P p xs)
  where
    by : (b : Bool) → p x ≡ b → Each P (cond b (x ∷ filter p xs) (filter p xs)) → (Each P (filter p xs) → Each (λ y. p y ≡ true → P y) xs) → (p x ≡ true → P x) × Each (λ y. p y ≡ true → P y) xs
    by true e h f = (λ t. h.0, f h.1)
    by false e h f = (λ t. absurd (false≢true (sym e ∙ t)), f h)

to_filtered : (P : Fact → Type 0) (p : Fact → Bool) (xs : List Fact) → Each P xs → Each P (filter p xs)
to_filtered P p [] h = tt
to_filtered P p (x ∷ xs) h = by (p x) (to_filtered P p xs h.1)
  where
    by : (b : Bool) → Each P (filter p xs) → Each P (cond b (x ∷ filter p xs) (filter p xs))
    by true f = (h.0, f)
    by false f = f

-- the facts of the names from one on hold those of their states
states_part : (P : Fact → Type 0) (file : ℕ) (lines : List Fact) (k : ℕ) (ss : List StartOf) → Each P (states_from file lines k ss) → (n : ℕ) → k ≤ n → n < k + length ss → Each (λ f. is_state n f.node ≡ true → P f) lines
states_part P file lines k [] h n low high = absurd (omega arith)
states_part P file lines k (s ∷ ss) h n low high = by (eqb k n) refl (λ l. states_part P file lines (suc k) ss rest n l (omega arith))
  where
    own : Each P (start_fact file k s ∷ filter (λ f. is_state k f.node) lines)
    own = each_front P (start_fact file k s ∷ filter (λ f. is_state k f.node) lines) (states_from file lines (suc k) ss) h

    rest : Each P (states_from file lines (suc k) ss)
    rest = each_back P (start_fact file k s ∷ filter (λ f. is_state k f.node) lines) (states_from file lines (suc k) ss) h

    equal : (a b : ℕ) → eqb a b ≡ true → a ≡ b
    equal a b e = grind (arith, nat_tests)

    above : (a b : ℕ) → a ≤ b → eqb a b ≡ false → suc a ≤ b
    above a b l e = grind (arith, nat_tests)

    by : (b : Bool) → eqb k n ≡ b → (suc k ≤ n → Each (λ f. is_state n f.node ≡ true → P f) lines) → Each (λ f. is_state n f.node ≡ true → P f) lines
    by true e go = subst (λ m. Each (λ f. is_state m f.node ≡ true → P f) lines) (equal k n e) (of_filtered P (λ f. is_state k f.node) lines own.1)
    by false e go = go (above k n low e)

-- where each fact is of a block or a name, and all of these are so, all are
joined : (P : Fact → Type 0) (count : ℕ) (xs : List Fact) → Each (IsOf count) xs → Each (λ f. is_block f.node ≡ true → P f) xs → ((n : ℕ) → n < count → Each (λ f. is_state n f.node ≡ true → P f) xs) → Each P xs
joined P count [] kind blocks states = tt
joined P count (x ∷ xs) kind blocks states = (by kind.0, joined P count xs kind.1 blocks.1 (λ n l. (states n l).1))
  where
    by : IsOf count x → P x
    by (inl b) = blocks.0 b
    by (inr s) = (states s.0 s.1).0 s.2

-- the facts of the directives are among all
pub lines_of : (P : Fact → Type 0) (file : ℕ) (lines : List Fact) (starts : List StartOf) (count : ℕ) → length starts ≡ count → Each (IsOf count) lines → Each P (filter (λ f. is_block f.node) lines) → Each P (states_from file lines 0 starts) → Each P lines
lines_of P file lines starts count e kind blocks states = joined P count lines kind (of_filtered P (λ f. is_block f.node) lines blocks)
    (λ n l. states_part P file lines 0 starts states n (omega arith) (omega arith))

-- and so are those of the starts
pub starts_of : (P : Fact → Type 0) (file : ℕ) (lines : List Fact) (k : ℕ) (ss : List StartOf) → Each P (states_from file lines k ss) → (j : ℕ) (s : StartOf) → slice_get ss j ≡ Some s → P (start_fact file (k + j) s)
starts_of P file lines k [] h j s e = absurd (cc)
starts_of P file lines k (s ∷ ss) h zero t e = let same : s ≡ t = cc in let at : k ≡ k + 0 = omega arith in subst (λ n. P (start_fact file n t)) at (subst (λ x. P (start_fact file k x)) same h.0)
starts_of P file lines k (s ∷ ss) h (suc j) t e = let at : suc k + j ≡ k + suc j = omega arith in
    subst (λ n. P (start_fact file n t)) at (starts_of P file lines (suc k) ss (each_back P (start_fact file k s ∷ filter (λ f. is_state k f.node) lines) (states_from file lines (suc k) ss) h) j t e)

-- all of them, from those of the directives and of the starts
pub states_all : (P : Fact → Type 0) (file : ℕ) (lines : List Fact) (k : ℕ) (ss : List StartOf) → Each P lines → ((j : ℕ) (s : StartOf) → slice_get ss j ≡ Some s → P (start_fact file (k + j) s)) → Each P (states_from file lines k ss)
states_all P file lines k [] h starts = tt
states_all P file lines k (s ∷ ss) h starts = let at : k + 0 ≡ k = omega arith in
    each_both P (start_fact file k s ∷ filter (λ f. is_state k f.node) lines) (states_from file lines (suc k) ss)
    (subst (λ n. P (start_fact file n s)) at (starts 0 s refl), to_filtered P (λ f. is_state k f.node) lines h)
    (states_all P file lines (suc k) ss h (λ j t e. let at : k + suc j ≡ suc k + j = omega arith in subst (λ n. P (start_fact file n t)) at (starts (suc j) t e)))

pub blocks_all : (P : Fact → Type 0) (lines : List Fact) → Each P lines → Each P (filter (λ f. is_block f.node) lines)
blocks_all P lines h = to_filtered P (λ f. is_block f.node) lines h
