-- Starts that differ in nothing that the source names have the same run, and so have directives that differ in lines.
use Rattle.std.proofs.Common.{◌≡◌, ℕ, Bool, true, false, not, ◌&&◌, ◌||◌, cond, List, [], ◌∷◌, ◌++◌, map, filter, refl, sym, ap, ◌∙◌, subst}
use Rattle.std.specs.List.{list_any, list_all, flat_map}
use Rattle.std.proofs.lemmas.Bool.{false≢true}
use Rattle.std.proofs.lemmas.List.{append-nil}
use Rattle.std.proofs.lemmas.List.Folds.{list_any-append}
use Rattle.ut_logic.specs.declared.facts.Fact.{Fact}
use Rattle.ut_text.specs.Text.{text_eq, text_equiv, text_eq-exact}
use Rattle.cpp_directives.specs.declared.condition.Cond.{Cond}
use Rattle.cpp_directives.specs.declared.condition.Cond.TheOpen.{Cond-F}
use Rattle.cpp_directives.specs.declared.condition.Cond.TheFolds.{fold-roll-Cond, ind-Cond, map-Cond}
use Rattle.cpp_directives.specs.declared.condition.Cond.TheViews.{roll-Cond}
use Rattle.cpp_directives.specs.declared.directive.Directive.{Directive}
use Rattle.cpp_directives.specs.declared.directive.Gives.{Gives}
use Rattle.cpp_directives.specs.declared.directive.Gives.TheVariants.{Zero, Nonzero, Free}
use Rattle.cpp_directives.specs.declared.directive.What.{What}
use Rattle.cpp_directives.specs.declared.directive.What.TheVariants.{If, Elif, Else, Endif, Define, Undef}
use Rattle.cpp_blocks.specs.declared.pieces.PieceOf.{PieceOf}
use Rattle.cpp_blocks.specs.declared.state.MacroState.{MacroState}
use Rattle.cpp_blocks.specs.declared.state.MacroState.TheVariants.{Undefined, DefinedFalse, DefinedTrue}
use Rattle.cpp_blocks.specs.Alike.{given_line, free_line, free_lines, AreAlike, DifferInLines, AreSame}
use Rattle.cpp_blocks.specs.Blocks.{parent_at, next_after, open_after, parents_from}
use Rattle.cpp_blocks.specs.Facts.{file_fact, is_block, states_from, at_first}
use Rattle.cpp_blocks.specs.Formulas.{Source, source_of, turns_after}
use Rattle.cpp_blocks.specs.Mentions.{with_new, firsts, names_step, names_in, names_at, names_of}
use Rattle.cpp_blocks.specs.PieceIdentity.{piece_eq, piece_equiv, piece_eq-exact}
use Rattle.cpp_blocks.specs.Run.{Start, Running, OpenChain, is_defined, is_true, touches, cond_step, holds, opened, turned, closed, sets, given, step, run_from, beginning, run_of}
use Rattle.cpp_blocks.specs.Steps.{Standing, current, define_fact, fact_at, facts_along, after}
use Rattle.cpp_blocks.specs.Turns.{touched_at, pieces_step, pieces_in, pieces_at, pieces_from, pieces_of}
use Rattle.cpp_blocks.proofs.Along.{each_front, each_back}
use Rattle.cpp_blocks.proofs.Meeting.{Each, each_of}

-- ---- members

or_left : (a b : Bool) → a ≡ true → (a || b) ≡ true
or_left a b h = ap (λ c. c || b) h

or_right : (a b : Bool) → b ≡ true → (a || b) ≡ true
or_right true b h = refl
or_right false b h = h

module _ {A : Type 0} (eq : A → A → Bool) (same : (x : A) → eq x x ≡ true) (exact : (x y : A) → eq x y ≡ true → x ≡ y) (P : A → Type 0) where
  -- what is new is among the first ones
  stays : (x y : A) (seen : List A) → list_any (eq x) seen ≡ true → list_any (eq x) (with_new eq seen y) ≡ true
  stays x y seen h = by (list_any (eq y) seen)
    where
      by : (b : Bool) → list_any (eq x) (cond b seen (seen ++ y ∷ [])) ≡ true
      by true = h
      by false = list_any-append (eq x) seen (y ∷ []) ∙ or_left (list_any (eq x) seen) (list_any (eq x) (y ∷ [])) h

  comes : (x : A) (seen : List A) → list_any (eq x) (with_new eq seen x) ≡ true
  comes x seen = by (list_any (eq x) seen) refl
    where
      by : (b : Bool) → list_any (eq x) seen ≡ b → list_any (eq x) (cond b seen (seen ++ x ∷ [])) ≡ true
      by true e = e
      by false e = list_any-append (eq x) seen (x ∷ []) ∙ or_right (list_any (eq x) seen) (eq x x || false) (or_left (eq x x) false (same x))

  among : (x : A) (seen more : List A) → list_any (eq x) seen ≡ true → list_any (eq x) (firsts eq seen more) ≡ true
  among x seen [] h = h
  among x seen (y ∷ more) h = among x (with_new eq seen y) more (stays x y seen h)

  member : (x : A) (xs : List A) → Each P xs → list_any (eq x) xs ≡ true → P x
  member x [] h m = absurd (false≢true m)
  member x (y ∷ ys) h m = by (eq x y) refl m (member x ys h.1)
    where
      by : (b : Bool) → eq x y ≡ b → (b || list_any (eq x) ys) ≡ true → (list_any (eq x) ys ≡ true → P x) → P x
      by true e m rest = subst P (sym (exact x y e)) h.0
      by false e m rest = rest m

  pub each_from : (seen more : List A) → Each P (firsts eq seen more) → Each P more
  each_from seen [] h = tt
  each_from seen (x ∷ more) h = (member x (firsts eq (with_new eq seen x) more) h (among x (with_new eq seen x) more (comes x seen)), each_from (with_new eq seen x) more h)

-- ---- runs

-- what both starts agree on
abbrev SameMacro : Start → Start → List ℕ → Type 0
SameMacro s t name = s.macros name ≡ t.macros name

abbrev SamePiece : Start → Start → PieceOf → Type 0
SamePiece s t p = s.piece p.text p.turn ≡ t.piece p.text p.turn

abbrev SameLine : Start → Start → ℕ → Type 0
SameLine s t line = s.line line ≡ t.line line

-- both runs stand alike
record Alike (s t : Start) (r q : Running) : Type 0 where
  on : r.on ≡ q.on
  chains : r.chains ≡ q.chains
  touched : r.touched ≡ q.touched
  blocks : r.blocks ≡ q.blocks
  macros : (name : List ℕ) → SameMacro s t name → r.macros name ≡ q.macros name

module _ (s t : Start) (r q : Running) (alike : Alike s t r q) where
  each : (ps : List ((c : Cond) × (Each (SameMacro s t) (names_in c) → Each (SamePiece s t) (pieces_in (touches r.touched) c) → holds s r c ≡ holds t q c)))
      → Each (SameMacro s t) (flat_map (λ names. names) (map names_in (map (λ p. p.0) ps))) → Each (SamePiece s t) (flat_map (λ pieces. pieces) (map (pieces_in (touches r.touched)) (map (λ p. p.0) ps)))
      → map (holds s r) (map (λ p. p.0) ps) ≡ map (holds t q) (map (λ p. p.0) ps)
  each [] k l = refl
  each (p ∷ ps) k l = let rest : List (List ℕ) = flat_map (λ names. names) (map names_in (map (λ p. p.0) ps)) in
      let more : List PieceOf = flat_map (λ pieces. pieces) (map (pieces_in (touches r.touched)) (map (λ p. p.0) ps)) in
      λ i. p.1 (each_front (SameMacro s t) (names_in p.0) rest k) (each_front (SamePiece s t) (pieces_in (touches r.touched) p.0) more l) i
      ∷ each ps (each_back (SameMacro s t) (names_in p.0) rest k) (each_back (SamePiece s t) (pieces_in (touches r.touched) p.0) more l) i

  one_layer : (y : Cond-F ((c : Cond) × (Each (SameMacro s t) (names_in c) → Each (SamePiece s t) (pieces_in (touches r.touched) c) → holds s r c ≡ holds t q c)))
      → Each (SameMacro s t) (names_step (map-Cond Cond (List (List ℕ)) names_in (map-Cond _ Cond (λ p. p.0) y)))
      → Each (SamePiece s t) (pieces_step (touches r.touched) (map-Cond Cond (List PieceOf) (pieces_in (touches r.touched)) (map-Cond _ Cond (λ p. p.0) y)))
      → cond_step s r (map-Cond Cond Bool (holds s r) (map-Cond _ Cond (λ p. p.0) y)) ≡ cond_step t q (map-Cond Cond Bool (holds t q) (map-Cond _ Cond (λ p. p.0) y))
  one_layer (Cond-F.Const b) k l = refl
  one_layer (Cond-F.Defined name) k l = ap is_defined (alike.macros name k.0)
  one_layer (Cond-F.Plain name) k l = ap is_true (alike.macros name k.0)
  one_layer (Cond-F.Piece text) k l = l.0 ∙ ap (λ ts. t.piece text (touches ts text)) alike.touched
  one_layer (Cond-F.Neg p) k l = ap not (p.1 k l)
  one_layer (Cond-F.AllOf ps) k l = ap (list_all (λ b. b)) (each ps k l)
  one_layer (Cond-F.AnyOf ps) k l = ap (list_any (λ b. b)) (each ps k l)

  rolled : (x : Cond-F Cond) → (Each (SameMacro s t) (names_step (map-Cond Cond (List (List ℕ)) names_in x)) → Each (SamePiece s t) (pieces_step (touches r.touched) (map-Cond Cond (List PieceOf) (pieces_in (touches r.touched)) x))
      → cond_step s r (map-Cond Cond Bool (holds s r) x) ≡ cond_step t q (map-Cond Cond Bool (holds t q) x))
      → Each (SameMacro s t) (names_in (roll-Cond x)) → Each (SamePiece s t) (pieces_in (touches r.touched) (roll-Cond x)) → holds s r (roll-Cond x) ≡ holds t q (roll-Cond x)
  rolled x h k l = fold-roll-Cond Bool (cond_step s r) x
      ∙ (h (subst (Each (SameMacro s t)) (fold-roll-Cond (List (List ℕ)) names_step x) k) (subst (Each (SamePiece s t)) (fold-roll-Cond (List PieceOf) (pieces_step (touches r.touched)) x) l) ∙ sym (fold-roll-Cond Bool (cond_step t q) x))

  -- a condition holds in both or in none
  same_cond : (c : Cond) → Each (SameMacro s t) (names_in c) → Each (SamePiece s t) (pieces_in (touches r.touched) c) → holds s r c ≡ holds t q c
  same_cond = ind-Cond (λ c. Each (SameMacro s t) (names_in c) → Each (SamePiece s t) (pieces_in (touches r.touched) c) → holds s r c ≡ holds t q c)
      (λ x y is. rolled x (subst (λ (z : Cond-F Cond). Each (SameMacro s t) (names_step (map-Cond Cond (List (List ℕ)) names_in z)) → Each (SamePiece s t) (pieces_step (touches r.touched) (map-Cond Cond (List PieceOf) (pieces_in (touches r.touched)) z))
      → cond_step s r (map-Cond Cond Bool (holds s r) z) ≡ cond_step t q (map-Cond Cond Bool (holds t q) z)) is (one_layer y)))

  open_alike : (h k : Bool) → h ≡ k → Alike s t (opened r h) (opened q k)
  open_alike h k e = record {
    on = λ i. alike.on i && e i;
    chains = λ i. record { around = alike.on i; taken = alike.on i && e i } ∷ alike.chains i;
    touched = alike.touched;
    blocks = λ i. alike.blocks i ++ (alike.on i && e i) ∷ [];
    macros = alike.macros;
  }

  turn_alike : (os : List OpenChain) (h k : Bool) → h ≡ k → Alike s t (turned r os h) (turned q os k)
  turn_alike [] h k e = alike
  turn_alike (o ∷ os) h k e = record {
    on = λ i. o.around && (not o.taken && e i);
    chains = λ i. record { around = o.around; taken = o.taken || (o.around && e i) } ∷ os;
    touched = alike.touched;
    blocks = λ i. alike.blocks i ++ (o.around && (not o.taken && e i)) ∷ [];
    macros = alike.macros;
  }

  close_alike : (os : List OpenChain) → Alike s t (closed r os) (closed q os)
  close_alike [] = alike
  close_alike (o ∷ os) = record { on = refl; chains = refl; touched = alike.touched; blocks = alike.blocks; macros = alike.macros }

  set_alike : (x : List ℕ) (a b : MacroState) → a ≡ b → Alike s t (sets r x a) (sets q x b)
  set_alike x a b e = record {
    on = alike.on;
    chains = alike.chains;
    touched = λ i. alike.touched i ++ x ∷ [];
    blocks = alike.blocks;
    macros = λ name h i. cond (alike.on i && text_eq x name) (e i) (alike.macros name h i);
  }

  given_alike : (line : ℕ) (gives : Gives) → Each (SameLine s t) (given_line line gives) → given s line gives ≡ given t line gives
  given_alike line Zero h = refl
  given_alike line Nonzero h = refl
  given_alike line Free h = ap (λ b. cond b DefinedTrue DefinedFalse) h.0

  -- one directive
  step_alike : (line : ℕ) (w : What) → Each (SameMacro s t) (names_at w) → Each (SamePiece s t) (pieces_at (touches r.touched) w) → Each (SameLine s t) (free_line line w)
      → Alike s t (step s r (record { line = line; what = w })) (step t q (record { line = line; what = w }))
  step_alike line (If c) k l m = open_alike (holds s r c) (holds t q c) (same_cond c k l)
  step_alike line (Elif c) k l m = subst (λ (os : List OpenChain). Alike s t (turned r r.chains (holds s r c)) (turned q os (holds t q c))) alike.chains (turn_alike r.chains (holds s r c) (holds t q c) (same_cond c k l))
  step_alike line Else k l m = subst (λ (os : List OpenChain). Alike s t (turned r r.chains true) (turned q os true)) alike.chains (turn_alike r.chains true true refl)
  step_alike line Endif k l m = subst (λ (os : List OpenChain). Alike s t (closed r r.chains) (closed q os)) alike.chains (close_alike r.chains)
  step_alike line (Define x gives) k l m = set_alike x (given s line gives) (given t line gives) (given_alike line gives m)
  step_alike line (Undef x) k l m = set_alike x Undefined Undefined refl

module _ (s t : Start) where
  touched_after : (r : Running) (line : ℕ) (w : What) → (step s r (record { line = line; what = w })).touched ≡ r.touched ++ touched_at w
  touched_after r line (If c) = sym (append-nil r.touched)
  touched_after r line (Elif c) = by r.chains
    where
      by : (os : List OpenChain) → (turned r os (holds s r c)).touched ≡ r.touched ++ []
      by [] = sym (append-nil r.touched)
      by (o ∷ os) = sym (append-nil r.touched)
  touched_after r line Else = by r.chains
    where
      by : (os : List OpenChain) → (turned r os true).touched ≡ r.touched ++ []
      by [] = sym (append-nil r.touched)
      by (o ∷ os) = sym (append-nil r.touched)
  touched_after r line Endif = by r.chains
    where
      by : (os : List OpenChain) → (closed r os).touched ≡ r.touched ++ []
      by [] = sym (append-nil r.touched)
      by (o ∷ os) = sym (append-nil r.touched)
  touched_after r line (Define x gives) = refl
  touched_after r line (Undef x) = refl

  runs : (ds : List Directive) (r q : Running) (touched : List (List ℕ)) → r.touched ≡ touched → Alike s t r q → Each (SameMacro s t) (flat_map (λ d. names_at d.what) ds) → Each (SamePiece s t) (pieces_from touched ds) → Each (SameLine s t) (free_lines ds)
      → Alike s t (run_from s r ds) (run_from t q ds)
  runs [] r q touched e a k l m = a
  runs (d ∷ ds) r q touched e a k l m = runs ds (step s r d) (step t q d) (touched ++ touched_at d.what) (touched_after r d.line d.what ∙ ap (λ ts. ts ++ touched_at d.what) e)
      (step_alike s t r q a d.line d.what (each_front (SameMacro s t) (names_at d.what) (flat_map (λ d. names_at d.what) ds) k)
      (subst (λ ts. Each (SamePiece s t) (pieces_at (touches ts) d.what)) (sym e) (each_front (SamePiece s t) (pieces_at (touches touched) d.what) (pieces_from (touched ++ touched_at d.what) ds) l))
      (each_front (SameLine s t) (free_line d.line d.what) (free_lines ds) m))
      (each_back (SameMacro s t) (names_at d.what) (flat_map (λ d. names_at d.what) ds) k)
      (each_back (SamePiece s t) (pieces_at (touches touched) d.what) (pieces_from (touched ++ touched_at d.what) ds) l)
      (each_back (SameLine s t) (free_line d.line d.what) (free_lines ds) m)

-- starts that agree on what the source names have the same blocks on
pub runs_alike : (ds : List Directive) (s t : Start) → AreAlike ds s t → (run_of s ds).blocks ≡ (run_of t ds).blocks
runs_alike ds s t h = (runs s t ds (beginning s) (beginning t) [] refl
    (record { on = h.built; chains = refl; touched = refl; blocks = λ i. h.built i ∷ []; macros = λ name e. e })
    (each_from text_eq text_equiv.refl text_eq-exact (SameMacro s t) [] (flat_map (λ d. names_at d.what) ds) (each_of (SameMacro s t) (names_of ds) h.macros))
    (each_from piece_eq piece_equiv.refl piece_eq-exact (SamePiece s t) [] (pieces_from [] ds) (each_of (SamePiece s t) (pieces_of ds) h.pieces))
    (each_of (SameLine s t) (free_lines ds) h.lines)).blocks

-- ---- lines

first_same : (x y : ℕ) (xs ys : List ℕ) → x ∷ xs ≡ y ∷ ys → x ≡ y
first_same x y xs ys e = cc

given_same : (start : Start) (a b : ℕ) (gives : Gives) → given_line a gives ≡ given_line b gives → given start a gives ≡ given start b gives
given_same start a b Zero e = refl
given_same start a b Nonzero e = refl
given_same start a b Free e = ap (λ n. given start n Free) (first_same a b [] [] e)

step_same : (start : Start) (r : Running) (a b : ℕ) (w : What) → free_line a w ≡ free_line b w → step start r (record { line = a; what = w }) ≡ step start r (record { line = b; what = w })
step_same start r a b (If c) e = refl
step_same start r a b (Elif c) e = refl
step_same start r a b Else e = refl
step_same start r a b Endif e = refl
step_same start r a b (Define x gives) e = ap (sets r x) (given_same start a b gives e)
step_same start r a b (Undef x) e = refl

define_same : (src : Source) (x : List ℕ) (turn block a b : ℕ) (gives : Gives) → given_line a gives ≡ given_line b gives → define_fact src x turn block a gives ≡ define_fact src x turn block b gives
define_same src x turn block a b Zero e = refl
define_same src x turn block a b Nonzero e = refl
define_same src x turn block a b Free e = ap (λ n. define_fact src x turn block n Free) (first_same a b [] [] e)

fact_same : (src : Source) (touched : List (List ℕ)) (at : Standing) (a b : ℕ) (w : What) → free_line a w ≡ free_line b w → fact_at src (turns_after touched) at a w ≡ fact_at src (turns_after touched) at b w
fact_same src touched at a b (If c) e = refl
fact_same src touched at a b (Elif c) e = refl
fact_same src touched at a b Else e = refl
fact_same src touched at a b Endif e = refl
fact_same src touched at a b (Define x gives) e = ap (λ (f : Fact). f ∷ []) (define_same src x _ (current at.chains) a b gives e)
fact_same src touched at a b (Undef x) e = refl

-- the lines of the second directive that stands for the first
lines_to : (d e : Directive) → d.what ≡ e.what → free_line d.line d.what ≡ free_line e.line e.what → free_line d.line e.what ≡ free_line e.line e.what
lines_to d e w l = subst (λ x. free_line d.line x ≡ free_line e.line e.what) w l

parents_same : (ds es : List Directive) (next : ℕ) (inside : List ℕ) → DifferInLines ds es → parents_from next inside ds ≡ parents_from next inside es
parents_same [] [] next inside h = refl
parents_same [] (e ∷ es) next inside h = absurd h
parents_same (d ∷ ds) [] next inside h = absurd h
parents_same (d ∷ ds) (e ∷ es) next inside h = ap (λ w. parent_at inside w ++ parents_from (next_after next w) (open_after next inside w) ds) h.0
    ∙ ap (λ ps. parent_at inside e.what ++ ps) (parents_same ds es (next_after next e.what) (open_after next inside e.what) h.2)

names_same : (ds es : List Directive) → DifferInLines ds es → flat_map (λ (d : Directive). names_at d.what) ds ≡ flat_map (λ (d : Directive). names_at d.what) es
names_same [] [] h = refl
names_same [] (e ∷ es) h = absurd h
names_same (d ∷ ds) [] h = absurd h
names_same (d ∷ ds) (e ∷ es) h = λ i. names_at (h.0 i) ++ names_same ds es h.2 i

pieces_same : (ds es : List Directive) (touched : List (List ℕ)) → DifferInLines ds es → pieces_from touched ds ≡ pieces_from touched es
pieces_same [] [] touched h = refl
pieces_same [] (e ∷ es) touched h = absurd h
pieces_same (d ∷ ds) [] touched h = absurd h
pieces_same (d ∷ ds) (e ∷ es) touched h = ap (λ w. pieces_at (touches touched) w ++ pieces_from (touched ++ touched_at w) ds) h.0
    ∙ ap (λ ps. pieces_at (touches touched) e.what ++ ps) (pieces_same ds es (touched ++ touched_at e.what) h.2)

facts_same : (src : Source) (ds es : List Directive) (touched : List (List ℕ)) (at : Standing) → DifferInLines ds es → facts_along src touched at ds ≡ facts_along src touched at es
facts_same src [] [] touched at h = refl
facts_same src [] (e ∷ es) touched at h = absurd h
facts_same src (d ∷ ds) [] touched at h = absurd h
facts_same src (d ∷ ds) (e ∷ es) touched at h = ap (λ w. fact_at src (turns_after touched) at d.line w ++ facts_along src (touched ++ touched_at w) (after at w) ds) h.0
    ∙ (λ i. fact_same src touched at d.line e.line e.what (lines_to d e h.0 h.1) i ++ facts_same src ds es (touched ++ touched_at e.what) (after at e.what) h.2 i)

runs_same : (start : Start) (ds es : List Directive) (r : Running) → DifferInLines ds es → run_from start r ds ≡ run_from start r es
runs_same start [] [] r h = refl
runs_same start [] (e ∷ es) r h = absurd h
runs_same start (d ∷ ds) [] r h = absurd h
runs_same start (d ∷ ds) (e ∷ es) r h = ap (λ w. run_from start (step start r (record { line = d.line; what = w })) ds) h.0
    ∙ (ap (λ (q : Running). run_from start q ds) (step_same start r d.line e.line e.what (lines_to d e h.0 h.1)) ∙ runs_same start ds es (step start r e) h.2)

-- directives that differ in lines have all in common
pub lines_matter_nowhere : (ds es : List Directive) → DifferInLines ds es → AreSame ds es
lines_matter_nowhere ds es h = record {
  parents = parents_same ds es 1 [] h;
  names = ap (firsts text_eq []) (names_same ds es h);
  pieces = ap (firsts piece_eq []) (pieces_same ds es [] h);
  facts = λ file starts built. ap (λ (src : Source). (file_fact file built ∷ filter (λ f. is_block f.node) (facts_along src [] at_first ds)) ++ states_from file (facts_along src [] at_first ds) 0 starts) (source file)
      ∙ ap (λ (lines : List Fact). (file_fact file built ∷ filter (λ f. is_block f.node) lines) ++ states_from file lines 0 starts) (facts_same (source_of file es) ds es [] at_first h);
  runs = λ start. runs_same start ds es (beginning start) h;
}
  where
    source : (file : ℕ) → source_of file ds ≡ source_of file es
    source file = λ i. record { file = file; names = firsts text_eq [] (names_same ds es h i); pieces = firsts piece_eq [] (pieces_same ds es [] h i) }
