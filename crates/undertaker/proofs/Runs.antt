-- In a source without macro lines a block is on exactly where its wishes are met at the start.
use Rattle.std.proofs.Common.{◌≡◌, ℕ, ◌<◌, zero, suc, Bool, true, false, not, ◌&&◌, refl, ap, sym, subst, ◌∙◌, arith, rules, List, [], ◌∷◌, ◌++◌, length, get_or, map}
use Rattle.std.proofs.Common.{length-append}
use Rattle.std.proofs.Math.ListN.{get_or-append}
use Rattle.std.proofs.Math.Seq.{get_or-append_seam}
use Rattle.std.specs.List.{list_all}
use Rattle.cpp_directives.specs.declared.condition.Cond.{Cond, out-Cond}
use Rattle.cpp_directives.specs.declared.condition.Cond.TheVariants.{Defined, Neg}
use Rattle.cpp_directives.specs.declared.condition.Cond.TheOpen.{Cond-F}
use Rattle.cpp_directives.specs.declared.condition.Cond.TheFolds.{fold-roll-Cond}
use Rattle.cpp_directives.specs.declared.condition.Cond.TheViews.{roll-Cond, the_lemmas}
use Rattle.cpp_directives.specs.declared.directive.Directive.{Directive}
use Rattle.cpp_directives.specs.declared.directive.What.{What}
use Rattle.cpp_directives.specs.declared.directive.What.TheVariants.{If, Endif}
use Rattle.cpp_blocks.specs.declared.state.MacroState.{MacroState}
use Rattle.cpp_blocks.specs.Run.{Start, Running, OpenChain, is_defined, holds, cond_step, step, run_from, opened, closed}
use Rattle.cpp_blocks.specs.Blocks.{innermost, outside, parents_from}
use Rattle.undertaker.specs.declared.wishes.Wish.{Wish}
use Rattle.undertaker.specs.declared.steps.Step.{Step}
use Rattle.undertaker.specs.declared.steps.Step.TheVariants.{Opens, Closes}
use Rattle.undertaker.specs.Wishes.{agrees, macro_of, is_met}
use Rattle.undertaker.specs.Plain.{cond_of}
use Rattle.undertaker.specs.Steps.{StandFor, behind, asked_from}

-- ---- the truth of a condition

-- one layer
abbrev holds_at : Start → Running → Cond-F Cond → Bool
holds_at start r (Cond-F.Defined name) = is_defined (r.macros name)
holds_at start r (Cond-F.Neg c) = not (holds start r c)
holds_at start r x = holds start r (roll-Cond x)

holds_roll : (start : Start) (r : Running) (x : Cond-F Cond) → holds start r (roll-Cond x) ≡ holds_at start r x
holds_roll start r (Cond-F.Defined name) = fold-roll-Cond Bool (cond_step start r) (Cond-F.Defined name)
holds_roll start r (Cond-F.Neg c) = fold-roll-Cond Bool (cond_step start r) (Cond-F.Neg c)
holds_roll start r x = refl

holds_out : (start : Start) (r : Running) (c : Cond) → holds start r c ≡ holds_at start r (out-Cond c)
holds_out start r c = search (rules, the_lemmas, holds_roll)

holds_defined : (start : Start) (r : Running) (name : List ℕ) → holds start r (Defined name) ≡ is_defined (r.macros name)
holds_defined start r name = holds_out start r (Defined name) ∙ search (rules, the_lemmas)

holds_neg : (start : Start) (r : Running) (c : Cond) → holds start r (Neg c) ≡ not (holds start r c)
holds_neg start r c = holds_out start r (Neg c) ∙ search (rules, the_lemmas)

holds_cond : (start : Start) (r : Running) (name : List ℕ) (defined : Bool) → holds start r (cond_of name defined) ≡ agrees defined (is_defined (r.macros name))
holds_cond start r name true = holds_defined start r name
holds_cond start r name false = holds_neg start r (Defined name) ∙ ap not (holds_defined start r name)

-- ---- the parents

abbrev top : List Bool → Bool
top [] = true
top (b ∷ bs) = b

-- the open blocks, innermost first and without the file, are on as the stack says; the file is its last
abbrev Matches : List Bool → List ℕ → List Bool → Type 0
Matches bs inside [] = ⊥
Matches bs [] (a ∷ []) = (0 < length bs) × (get_or bs 0 false ≡ a)
Matches bs [] (a ∷ b ∷ stack) = ⊥
Matches bs (n ∷ ns) (a ∷ stack) = (n < length bs) × (get_or bs n false ≡ a) × Matches bs ns stack

more_matches : (bs more : List Bool) (inside : List ℕ) (stack : List Bool) → Matches bs inside stack → Matches (bs ++ more) inside stack
more_matches bs more inside [] m = absurd m
more_matches bs more [] (a ∷ []) m = (omega (arith, length-append bs more, m.0), get_or-append bs more false 0 m.0 ∙ m.1)
more_matches bs more [] (a ∷ b ∷ stack) m = absurd m
more_matches bs more (n ∷ ns) (a ∷ stack) m = (omega (arith, length-append bs more, m.0), get_or-append bs more false n m.0 ∙ m.1, more_matches bs more ns stack m.2)

top_matches : (bs more : List Bool) (inside : List ℕ) (stack : List Bool) → Matches bs inside stack → get_or (bs ++ more) (innermost inside) false ≡ top stack
top_matches bs more inside [] m = absurd m
top_matches bs more [] (a ∷ []) m = get_or-append bs more false 0 m.0 ∙ m.1
top_matches bs more [] (a ∷ b ∷ stack) m = absurd m
top_matches bs more (n ∷ ns) (a ∷ stack) m = get_or-append bs more false n m.0 ∙ m.1

-- ---- the stack of a path of wishes

abbrev stack_of : (Wish → Bool) → List Wish → List Bool
stack_of met [] = true ∷ []
stack_of met (w ∷ ws) = list_all met (w ∷ ws) ∷ stack_of met ws

top_stack : (met : Wish → Bool) (ws : List Wish) → top (stack_of met ws) ≡ list_all met ws
top_stack met [] = refl
top_stack met (w ∷ ws) = refl

-- the open chains from the innermost are the rest of the stack
abbrev Chained : List OpenChain → List Bool → Type 0
Chained chains [] = ⊥
Chained [] (a ∷ []) = Unit {0}
Chained [] (a ∷ b ∷ stack) = ⊥
Chained (c ∷ cs) (a ∷ []) = ⊥
Chained (c ∷ cs) (a ∷ b ∷ stack) = (c.around ≡ b) × Chained cs (b ∷ stack)

and_turned : (a b : Bool) → (a && b) ≡ (b && a)
and_turned true true = refl
and_turned true false = refl
and_turned false true = refl
and_turned false false = refl

-- ---- what a directive does

step_if : (start : Start) (r : Running) (d : Directive) (c : Cond) → d.what ≡ If c → step start r d ≡ opened r (holds start r c)
step_if start r d c e = subst (λ (w : What). step start r (record d { what = w }) ≡ opened r (holds start r c)) (sym e) refl

step_endif : (start : Start) (r : Running) (d : Directive) → d.what ≡ Endif → step start r d ≡ closed r r.chains
step_endif start r d e = subst (λ (w : What). step start r (record d { what = w }) ≡ closed r r.chains) (sym e) refl

parents_if : (next : ℕ) (inside : List ℕ) (d : Directive) (ds : List Directive) (c : Cond) → d.what ≡ If c
    → parents_from next inside (d ∷ ds) ≡ innermost inside ∷ parents_from (suc next) (next ∷ inside) ds
parents_if next inside d ds c e = subst (λ (w : What). parents_from next inside (record d { what = w } ∷ ds) ≡ innermost inside ∷ parents_from (suc next) (next ∷ inside) ds) (sym e) refl

parents_endif : (next : ℕ) (inside : List ℕ) (d : Directive) (ds : List Directive) → d.what ≡ Endif
    → parents_from next inside (d ∷ ds) ≡ parents_from next (outside inside) ds
parents_endif next inside d ds e = subst (λ (w : What). parents_from next inside (record d { what = w } ∷ ds) ≡ parents_from next (outside inside) ds) (sym e) refl

append_assoc : {A : Type 0} (xs ys zs : List A) → (xs ++ ys) ++ zs ≡ xs ++ (ys ++ zs)
append_assoc [] ys zs = refl
append_assoc (x ∷ xs) ys zs = ap (λ rest. x ∷ rest) (append_assoc xs ys zs)

-- ---- the run

module _ (start : Start) (macros : List (List ℕ)) where
  abbrev met : Wish → Bool
  met = is_met start.macros macros

  -- where the run stands inside these open wishes
  pub record Stands (r : Running) (ws : List Wish) : Type 0 where
    pub same : r.macros ≡ start.macros
    pub on : r.on ≡ list_all met ws
    pub chained : Chained r.chains (stack_of met ws)

  chained_more : (c : OpenChain) (cs : List OpenChain) (a : Bool) (ws : List Wish) → c.around ≡ list_all met ws → Chained cs (stack_of met ws) → Chained (c ∷ cs) (a ∷ stack_of met ws)
  chained_more c cs a [] e h = (e, h)
  chained_more c cs a (w ∷ ws) e h = (e, h)

  holds_met : (r : Running) (w : Wish) → r.macros ≡ start.macros → holds start r (cond_of (macro_of macros w) w.defined) ≡ met w
  holds_met r w e = holds_cond start r (macro_of macros w) w.defined ∙ ap (λ (states : List ℕ → MacroState). agrees w.defined (is_defined (states (macro_of macros w)))) e

  on_opened : (r : Running) (w : Wish) (ws : List Wish) → Stands r ws → (r.on && holds start r (cond_of (macro_of macros w) w.defined)) ≡ list_all met (w ∷ ws)
  on_opened r w ws s = rw (s.on, holds_met r w s.same) (and_turned (list_all met ws) (met w))

  after_if : (r : Running) (w : Wish) (ws : List Wish) → Stands r ws → Stands (opened r (holds start r (cond_of (macro_of macros w) w.defined))) (w ∷ ws)
  after_if r w ws s = record {
    same = s.same;
    on = on_opened r w ws s;
    chained = chained_more (record { around = r.on; taken = r.on && holds start r (cond_of (macro_of macros w) w.defined) }) r.chains (list_all met (w ∷ ws)) ws s.on s.chained;
  }

  after_endif : (r : Running) (ws : List Wish) (chains : List OpenChain) → r.chains ≡ chains → Stands r ws → Stands (closed r chains) (behind ws)
  after_endif r [] [] e s = s
  after_endif r [] (c ∷ cs) e s = absurd (subst (λ chains. Chained chains (stack_of met [])) e s.chained)
  after_endif r (w ∷ ws) [] e s = absurd (empty ws (subst (λ chains. Chained chains (stack_of met (w ∷ ws))) e s.chained))
    where
      empty : (ws : List Wish) → Chained [] (list_all met (w ∷ ws) ∷ stack_of met ws) → ⊥
      empty [] h = absurd h
      empty (v ∷ vs) h = absurd h
  after_endif r (w ∷ ws) (c ∷ cs) e s = popped ws (subst (λ chains. Chained chains (stack_of met (w ∷ ws))) e s.chained)
    where
      popped : (vs : List Wish) → Chained (c ∷ cs) (list_all met (w ∷ ws) ∷ stack_of met vs) → Stands (closed r (c ∷ cs)) vs
      popped [] h = record { same = s.same; on = h.0; chained = h.1 }
      popped (v ∷ vs) h = record { same = s.same; on = h.0; chained = h.1 }

  blocks_closed : (r : Running) (chains : List OpenChain) → (closed r chains).blocks ≡ r.blocks
  blocks_closed r [] = refl
  blocks_closed r (c ∷ cs) = refl

  pub blocks_are : (ss : List Step) (ds : List Directive) → StandFor macros ss ds → (ws : List Wish) (r : Running) → Stands r ws
      → (run_from start r ds).blocks ≡ r.blocks ++ map (list_all met) (asked_from ws ss)
  blocks_are [] [] h ws r s = sym (append_nil r.blocks)
    where
      append_nil : (bs : List Bool) → bs ++ [] ≡ bs
      append_nil [] = refl
      append_nil (b ∷ bs) = ap (λ rest. b ∷ rest) (append_nil bs)
  blocks_are [] (d ∷ ds) h ws r s = absurd h
  blocks_are (s ∷ ss) [] h ws r st = absurd h
  blocks_are (Opens w ∷ ss) (d ∷ ds) h ws r s = ap (λ (q : Running). (run_from start q ds).blocks) (step_if start r d (cond_of (macro_of macros w) w.defined) h.0.1)
      ∙ (blocks_are ss ds h.1 (w ∷ ws) (opened r (holds start r (cond_of (macro_of macros w) w.defined))) (after_if r w ws s)
      ∙ (append_assoc r.blocks ((r.on && holds start r (cond_of (macro_of macros w) w.defined)) ∷ []) (map (list_all met) (asked_from (w ∷ ws) ss))
      ∙ ap (λ (b : Bool). r.blocks ++ (b ∷ map (list_all met) (asked_from (w ∷ ws) ss))) (on_opened r w ws s)))
  blocks_are (Closes ∷ ss) (d ∷ ds) h ws r s = ap (λ (q : Running). (run_from start q ds).blocks) (step_endif start r d h.0)
      ∙ (blocks_are ss ds h.1 (behind ws) (closed r r.chains) (after_endif r ws r.chains refl s)
      ∙ ap (λ (bs : List Bool). bs ++ map (list_all met) (asked_from (behind ws) ss)) (blocks_closed r r.chains))

  -- ---- the parents

  abbrev ons : List Wish → List Step → List Bool
  ons ws ss = map (list_all met) (asked_from ws ss)

  outer_matches : (bs : List Bool) (inside : List ℕ) (ws : List Wish) → Matches bs inside (stack_of met ws) → Matches bs (outside inside) (stack_of met (behind ws))
  outer_matches bs [] [] m = m
  outer_matches bs (n ∷ ns) [] m = absurd m.2
  outer_matches bs [] (w ∷ ws) m = absurd (none ws m)
    where
      none : (vs : List Wish) → Matches bs [] (list_all met (w ∷ ws) ∷ stack_of met vs) → ⊥
      none [] h = absurd h
      none (v ∷ vs) h = absurd h
  outer_matches bs (n ∷ ns) (w ∷ ws) m = m.2

  pub parents_count : (ss : List Step) (ds : List Directive) → StandFor macros ss ds → (ws : List Wish) (next : ℕ) (inside : List ℕ)
      → length (parents_from next inside ds) ≡ length (asked_from ws ss)
  parents_count [] [] h ws next inside = refl
  parents_count [] (d ∷ ds) h ws next inside = absurd h
  parents_count (s ∷ ss) [] h ws next inside = absurd h
  parents_count (Opens w ∷ ss) (d ∷ ds) h ws next inside = rw (parents_if next inside d ds (cond_of (macro_of macros w) w.defined) h.0.1) (ap suc (parents_count ss ds h.1 (w ∷ ws) (suc next) (next ∷ inside)))
  parents_count (Closes ∷ ss) (d ∷ ds) h ws next inside = rw (parents_endif next inside d ds h.0) (parents_count ss ds h.1 (behind ws) next (outside inside))

  pub parents_are : (ss : List Step) (ds : List Directive) → StandFor macros ss ds → (ws : List Wish) (inside : List ℕ) (bs : List Bool) → Matches bs inside (stack_of met ws)
      → (k : ℕ) → k < length (asked_from ws ss)
      → get_or (bs ++ ons ws ss) (get_or (parents_from (length bs) inside ds) k 0) false ≡ list_all met (behind (get_or (asked_from ws ss) k []))
  parents_are [] ds h ws inside bs m k lt = absurd (omega arith)
  parents_are (s ∷ ss) [] h ws inside bs m k lt = absurd h
  parents_are (Closes ∷ ss) (d ∷ ds) h ws inside bs m k lt = rw (parents_endif (length bs) inside d ds h.0) (parents_are ss ds h.1 (behind ws) (outside inside) bs (outer_matches bs inside ws m) k lt)
  parents_are (Opens w ∷ ss) (d ∷ ds) h ws inside bs m zero lt = rw (parents_if (length bs) inside d ds (cond_of (macro_of macros w) w.defined) h.0.1)
      (top_matches bs (ons ws (Opens w ∷ ss)) inside (stack_of met ws) m ∙ top_stack met ws)
  parents_are (Opens w ∷ ss) (d ∷ ds) h ws inside bs m (suc k) lt = rw (parents_if (length bs) inside d ds (cond_of (macro_of macros w) w.defined) h.0.1)
      (rest (λ matches. parents_are ss ds h.1 (w ∷ ws) (length bs ∷ inside) (bs ++ list_all met (w ∷ ws) ∷ []) matches k (omega arith)))
    where
      longer : length (bs ++ list_all met (w ∷ ws) ∷ []) ≡ suc (length bs)
      longer = omega (arith, length-append bs (list_all met (w ∷ ws) ∷ []))

      matches : Matches (bs ++ list_all met (w ∷ ws) ∷ []) (length bs ∷ inside) (stack_of met (w ∷ ws))
      matches = (omega (arith, longer), get_or-append_seam bs (list_all met (w ∷ ws)) [] false, more_matches bs (list_all met (w ∷ ws) ∷ []) inside (stack_of met ws) m)

      rest : (Matches (bs ++ list_all met (w ∷ ws) ∷ []) (length bs ∷ inside) (stack_of met (w ∷ ws))
          → get_or ((bs ++ list_all met (w ∷ ws) ∷ []) ++ ons (w ∷ ws) ss) (get_or (parents_from (length (bs ++ list_all met (w ∷ ws) ∷ [])) (length bs ∷ inside) ds) k 0) false ≡ list_all met (behind (get_or (asked_from (w ∷ ws) ss) k [])))
          → get_or (bs ++ ons ws (Opens w ∷ ss)) (get_or (parents_from (suc (length bs)) (length bs ∷ inside) ds) k 0) false ≡ list_all met (behind (get_or (asked_from (w ∷ ws) ss) k []))
      rest go = ap (λ (all : List Bool). get_or all (get_or (parents_from (suc (length bs)) (length bs ∷ inside) ds) k 0) false) (sym (append_assoc bs (list_all met (w ∷ ws) ∷ []) (ons (w ∷ ws) ss)))
          ∙ subst (λ (n : ℕ). get_or ((bs ++ list_all met (w ∷ ws) ∷ []) ++ ons (w ∷ ws) ss) (get_or (parents_from n (length bs ∷ inside) ds) k 0) false ≡ list_all met (behind (get_or (asked_from (w ∷ ws) ss) k []))) longer
          (go matches)
