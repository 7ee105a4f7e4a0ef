-- What gathering the facts of all directives gives.
use Rattle.std.proofs.Common.{◌≡◌, ℕ, ◌+◌, ◌<◌, ◌≤◌, zero, suc, Bool, true, false, cond, List, [], ◌∷◌, ◌++◌, length, filter, map, set, get_or, drop, eqb, refl, sym, ap, ◌∙◌, arith, append_assoc}
use Rattle.std.specs.List.{flat_map}
use Rattle.std.proofs.lemmas.Bool.Decides.{nat_tests}
use Rattle.std.proofs.lemmas.List.{append-nil, at_drop_more}
use Rattle.cpp_directives.specs.declared.directive.Directive.{Directive}
use Rattle.ut_logic.specs.declared.node.Node.{Node}
use Rattle.ut_logic.specs.declared.node.Node.TheVariants.{Sym, Choice, Block, State}
use Rattle.ut_logic.specs.declared.facts.Fact.{Fact}
use Rattle.cpp_blocks.specs.declared.starts.StartOf.{StartOf}
use Rattle.cpp_blocks.specs.Facts.{start_fact, is_block, is_state, states_from}
use Rattle.cpp_blocks.specs.Gathered.{Gathered, put_at, put_by, put_all, lists_from}
use Rattle.cpp_blocks.specs.declared.turns.Turns.{Turns}
use Rattle.cpp_blocks.specs.Counted.{IsCounted}
use Rattle.cpp_blocks.specs.Formulas.{Source, turns_after}
use Rattle.cpp_blocks.specs.Places.{kept_turns}
use Rattle.cpp_blocks.specs.Steps.{Standing, fact_at, after, facts_along}
use Rattle.cpp_blocks.specs.Turns.{touched_at}
use Rattle.cpp_blocks.proofs.TurnLaws.{pieces_counted}

-- one more member of a filtered list
filter_push : (p : Fact → Bool) (xs : List Fact) (f : Fact) → filter p (xs ++ f ∷ []) ≡ filter p xs ++ filter p (f ∷ [])
filter_push p [] f = refl
filter_push p (x ∷ xs) f = by (p x) (filter_push p xs f)
  where
    by : (b : Bool) → filter p (xs ++ f ∷ []) ≡ filter p xs ++ filter p (f ∷ []) → cond b (x ∷ filter p (xs ++ f ∷ [])) (filter p (xs ++ f ∷ [])) ≡ cond b (x ∷ filter p xs) (filter p xs) ++ filter p (f ∷ [])
    by true h = ap (λ ys. x ∷ ys) h
    by false h = h

passed : (p : Fact → Bool) (xs : List Fact) (f : Fact) → p f ≡ true → filter p (xs ++ f ∷ []) ≡ filter p xs ++ f ∷ []
passed p xs f h = filter_push p xs f ∙ ap (λ b. filter p xs ++ cond b (f ∷ []) []) h

left_out : (p : Fact → Bool) (xs : List Fact) (f : Fact) → p f ≡ false → filter p (xs ++ f ∷ []) ≡ filter p xs
left_out p xs f h = filter_push p xs f ∙ (ap (λ b. filter p xs ++ cond b (f ∷ []) []) h ∙ append-nil (filter p xs))

-- a fact of none of these names leaves their lists
others : (file : ℕ) (lines : List Fact) (f : Fact) (k : ℕ) (ss : List StartOf) → ((j : ℕ) → k ≤ j → is_state j f.node ≡ false) → lists_from file (lines ++ f ∷ []) k ss ≡ lists_from file lines k ss
others file lines f k [] h = refl
others file lines f k (s ∷ ss) h = λ i. (start_fact file k s ∷ left_out (λ x. is_state k x.node) lines f (h k (omega arith)) i) ∷ others file lines f (suc k) ss (λ j l. h j (omega arith)) i

same_number : (n : ℕ) → eqb n n ≡ true
same_number n = grind (arith, nat_tests)

other_number : (m n : ℕ) → m < n → eqb m n ≡ false
other_number m n h = grind (arith, nat_tests)

-- a fact of a name goes after those of that name
put_in : (file : ℕ) (lines : List Fact) (f : Fact) (n k m owner turn : ℕ) (ss : List StartOf) → f.node ≡ State owner m turn → k + n ≡ m → put_at n f (lists_from file lines k ss) ≡ lists_from file (lines ++ f ∷ []) k ss
put_in file lines f n k m owner turn [] e h = refl
put_in file lines f zero k m owner turn (s ∷ ss) e h = λ i. (start_fact file k s ∷ sym (passed (λ x. is_state k x.node) lines f (ap (is_state k) e ∙ (ap (eqb m) at ∙ same_number m))) i)
    ∷ sym (others file lines f (suc k) ss (λ j l. ap (is_state j) e ∙ other_number m j (omega arith))) i
  where
    at : k ≡ m
    at = omega arith
put_in file lines f (suc n) k m owner turn (s ∷ ss) e h = λ i. (start_fact file k s ∷ sym (left_out (λ x. is_state k x.node) lines f (ap (is_state k) e ∙ apart)) i)
    ∷ put_in file lines f n (suc k) m owner turn ss e (omega arith) i
  where
    apart : eqb m k ≡ false
    apart = above m k (omega arith)
      where
        above : (a b : ℕ) → b < a → eqb a b ≡ false
        above a b l = grind (arith, nat_tests)

-- the facts gathered after some directives
abbrev gathered : ℕ → List StartOf → List Fact → List Fact → Gathered
gathered file ss blocks lines = record { blocks = blocks ++ filter (λ f. is_block f.node) lines; states = lists_from file lines 0 ss }

put_one : (file : ℕ) (ss : List StartOf) (blocks lines : List Fact) (f : Fact) → put_by f.node f (gathered file ss blocks lines) ≡ gathered file ss blocks (lines ++ f ∷ [])
put_one file ss blocks lines f = by f.node refl
  where
    kept : (w : Node) → f.node ≡ w → is_block w ≡ false → filter (λ x. is_block x.node) (lines ++ f ∷ []) ≡ filter (λ x. is_block x.node) lines
    kept w e h = left_out (λ x. is_block x.node) lines f (ap is_block e ∙ h)

    by : (w : Node) → f.node ≡ w → put_by w f (gathered file ss blocks lines) ≡ gathered file ss blocks (lines ++ f ∷ [])
    by (Sym a) e = λ i. record { blocks = blocks ++ sym (kept (Sym a) e refl) i; states = sym (others file lines f 0 ss (λ j l. ap (is_state j) e)) i }
    by (Choice a) e = λ i. record { blocks = blocks ++ sym (kept (Choice a) e refl) i; states = sym (others file lines f 0 ss (λ j l. ap (is_state j) e)) i }
    by (Block owner block) e = λ i. record {
      blocks = (append_assoc blocks (filter (λ x. is_block x.node) lines) (f ∷ []) ∙ ap (λ xs. blocks ++ xs) (sym (passed (λ x. is_block x.node) lines f (ap is_block e)))) i;
      states = sym (others file lines f 0 ss (λ j l. ap (is_state j) e)) i;
    }
    by (State owner name turn) e = λ i. record {
      blocks = blocks ++ sym (kept (State owner name turn) e refl) i;
      states = put_in file lines f name 0 name owner turn ss e (omega arith) i;
    }

put_each : (file : ℕ) (ss : List StartOf) (blocks lines more : List Fact) → put_all (gathered file ss blocks lines) more ≡ gathered file ss blocks (lines ++ more)
put_each file ss blocks lines [] = ap (gathered file ss blocks) (sym (append-nil lines))
put_each file ss blocks lines (f ∷ more) = ap (λ g. put_all g more) (put_one file ss blocks lines f)
    ∙ (put_each file ss blocks (lines ++ f ∷ []) more ∙ ap (gathered file ss blocks) (append_assoc lines (f ∷ []) more))

-- the lists of names, one after another
joined : (file : ℕ) (lines : List Fact) (k : ℕ) (ss : List StartOf) → flat_map (λ list. list) (lists_from file lines k ss) ≡ states_from file lines k ss
joined file lines k [] = refl
joined file lines k (s ∷ ss) = ap (λ xs. (start_fact file k s ∷ filter (λ f. is_state k f.node) lines) ++ xs) (joined file lines (suc k) ss)

-- all facts are the blocks' and then the names'
pub all_put : (file : ℕ) (ss : List StartOf) (first : Fact) (lines : List Fact) (g : Gathered) → g ≡ put_all (record { blocks = first ∷ []; states = lists_from file [] 0 ss }) lines
    → g.blocks ++ flat_map (λ list. list) g.states ≡ (first ∷ filter (λ f. is_block f.node) lines) ++ states_from file lines 0 ss
all_put file ss first lines g e = ap (λ (x : Gathered). x.blocks ++ flat_map (λ list. list) x.states) (e ∙ put_each file ss (first ∷ []) [] lines)
    ∙ ap (λ xs. (first ∷ filter (λ f. is_block f.node) lines) ++ xs) (joined file lines 0 ss)

-- several facts put one list after another
pub put_all-append : (g : Gathered) (xs ys : List Fact) → put_all g (xs ++ ys) ≡ put_all (put_all g xs) ys
put_all-append g [] ys = refl
put_all-append g (x ∷ xs) ys = put_all-append (put_by x.node x g) xs ys

-- ---- lists in place

pub put_set : {V : Type 0} (items : V → List Fact) (ls : List V) (i : ℕ) (v w : V) (f : Fact) → i < length ls → v ≡ get_or ls i v → items w ≡ items v ++ f ∷ [] → map items (set ls i w) ≡ put_at i f (map items ls)
put_set items [] i v w f h e g = absurd (omega arith)
put_set items (x ∷ ls) zero v w f h e g = λ j. (g ∙ ap (λ y. items y ++ f ∷ []) e) j ∷ map items ls
put_set items (x ∷ ls) (suc i) v w f h e g = ap (λ ys. items x ∷ ys) (put_set items ls i v w f (omega arith) e g)

pub put_past : {V : Type 0} (items : V → List Fact) (ls : List V) (i : ℕ) (f : Fact) → length ls ≤ i → map items ls ≡ put_at i f (map items ls)
put_past items [] i f h = refl
put_past items (x ∷ ls) zero f h = absurd (omega arith)
put_past items (x ∷ ls) (suc i) f h = ap (λ ys. items x ∷ ys) (put_past items ls i f (omega arith))

-- ---- directives passed one after another

-- the facts of the next directive, and then those of what is left
pub facts_next : (g : Gathered) (src : Source) (touched : List (List ℕ)) (at : Standing) (ds : List Directive) (i : ℕ) (d : Directive) → i < length ds → d ≡ get_or ds i d
    → put_all g (facts_along src touched at (drop i ds)) ≡ put_all (put_all g (fact_at src (turns_after touched) at d.line d.what)) (facts_along src (touched ++ touched_at d.what) (after at d.what) (drop (i + 1) ds))
facts_next g src touched at ds i d h e = at_drop_more (λ ys. put_all g (facts_along src touched at ys)) ds i d h
    ∙ (put_all-append g (fact_at src (turns_after touched) at (get_or ds i d).line (get_or ds i d).what) (facts_along src (touched ++ touched_at (get_or ds i d).what) (after at (get_or ds i d).what) (drop (i + 1) ds))
    ∙ ap (λ (x : Directive). put_all (put_all g (fact_at src (turns_after touched) at x.line x.what)) (facts_along src (touched ++ touched_at x.what) (after at x.what) (drop (i + 1) ds))) (sym e))

-- the turns kept are those after the macro lines passed
pub turns_kept : (turns : Turns) (touched : List (List ℕ)) → IsCounted turns touched → kept_turns turns ≡ turns_after touched
turns_kept turns touched is i = record { name = λ x. is x i; piece = pieces_counted turns touched is i }
