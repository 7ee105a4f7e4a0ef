-- What is added to a form does not depend on the clauses that it has, so that its first clauses can be put in order before.
use Rattle.std.proofs.Common.{◌≡◌, ℕ, ◌+◌, ◌<◌, Bor, Bool, true, false, ◌||◌, cond, List, [], ◌∷◌, ◌++◌, length, get_or, take, map, refl, sym, ap, subst, ◌∙◌, arith}
use Rattle.std.proofs.lemmas.Grind.{common_steps}
use Rattle.std.proofs.lemmas.List.{append_assoc, append-nil, take_more, map-append}
use Rattle.ut_logic.specs.declared.item.Item.{Item}
use Rattle.ut_logic.specs.declared.literals.Lit.{Lit}
use Rattle.ut_logic.specs.declared.formula.Formula.{Formula, out-Formula}
use Rattle.ut_logic.specs.declared.formula.Formula.TheOpen.{Formula-F}
use Rattle.ut_logic.specs.declared.formula.Formula.TheFolds.{fold-roll-Formula, map-Formula, ind-Formula}
use Rattle.ut_logic.specs.declared.facts.Definition.{Definition}
use Rattle.ut_logic.specs.declared.facts.Fact.{Fact}
use Rattle.clausify.specs.declared.stage.Stage.{Stage}
use Rattle.clausify.specs.Form.{Form}
use Rattle.clausify.specs.ClauseForm.{pos, neg, all_clauses, any_clauses, same_clauses, with_clauses, define, define_all, define_any, negate_first, joined, asserted, asserted_any, Ways, ways_step, ways, literal, literals, hold, hold_each, all_after, any_after, same_after, defined_at, defined, defined_each}
use Rattle.clausify.specs.Order.{holds_in, defines_in, held_in, defined_in, staged}
use Rattle.clausify.specs.Tidy.{AreTidy}
use Rattle.clausify.specs.Draft.{after, IsDraft}

-- what was made, and the form after the clauses
abbrev ahead : {A : Type 0} → List (List Lit) → A × Form → A × Form
ahead front r = (r.0, after front r.1)

move_clauses : (front : List (List Lit)) (s : Form) (cs : List (List Lit)) → with_clauses (after front s) cs ≡ after front (with_clauses s cs)
move_clauses front s cs = ap (λ (ks : List (List Lit)). record { vars = s.vars; clauses = ks }) (append_assoc front s.clauses cs)

move_define : (front : List (List Lit)) (s : Form) (cs : ℕ → List (List Lit)) → define (after front s) cs ≡ ahead front (define s cs)
move_define front s cs = ap (λ (ks : List (List Lit)). (pos (s.vars + 1), record { vars = s.vars + 1; clauses = ks })) (append_assoc front s.clauses (cs (s.vars + 1)))

-- both ways of a formula do the same whatever stands in front
record Shifts (m : Ways) : Type 0 where
  pub literal : (front : List (List Lit)) (s : Form) → m.literal (after front s) ≡ ahead front (m.literal s)
  pub held : (front : List (List Lit)) (s : Form) → m.held (after front s) ≡ after front (m.held s)

neither : (a b : Bool) → (a || b) ≡ false → (a ≡ false) × (b ≡ false)
neither true b h = (grind (arith, common_steps, h), grind (arith, common_steps, h))
neither false b h = (refl, h)

module _ (at : Item → ℕ) where
  abbrev Each : Type 0
  Each = (f : Formula) × Shifts (ways at f)

  abbrev of : List Each → List Formula
  of es = map (λ e. e.0) es

  each_shifts : (es : List Each) (front : List (List Lit)) (s : Form) → literals at (of es) (after front s) ≡ ahead front (literals at (of es) s)
  each_shifts [] front s = refl
  each_shifts (e ∷ es) front s = let r = literal at e.0 s in
      ap (λ (q : Lit × Form). joined q.0 (literals at (of es) q.1)) (e.1.literal front s) ∙ ap (λ (q : List Lit × Form). joined r.0 q) (each_shifts es front r.1)

  held_shift : (es : List Each) (front : List (List Lit)) (s : Form) → hold_each at (of es) (after front s) ≡ after front (hold_each at (of es) s)
  held_shift [] front s = refl
  held_shift (e ∷ es) front s = ap (λ (t : Form). hold_each at (of es) t) (e.1.held front s) ∙ held_shift es front (hold at e.0 s)

  step : (y : Formula-F Each) → Shifts (ways_step at (map-Formula Formula Ways (ways at) (map-Formula Each Formula (λ e. e.0) y)))
  step Formula-F.Yes = record {
    literal = λ front s. move_define front s (λ x. all_clauses x []);
    held = λ front s. refl;
  }
  step Formula-F.No = record {
    literal = λ front s. move_define front s (λ x. any_clauses x []);
    held = λ front s. move_clauses front s ([] ∷ []);
  }
  step (Formula-F.Is item) = record {
    literal = λ front s. refl;
    held = λ front s. move_clauses front s ((pos (at item) ∷ []) ∷ []);
  }
  step (Formula-F.Neg e) = record {
    literal = λ front s. ap negate_first (e.1.literal front s);
    held = λ front s. let r = negate_first (literal at e.0 s) in ap (λ (q : Lit × Form). asserted (negate_first q)) (e.1.literal front s) ∙ move_clauses front r.1 ((r.0 ∷ []) ∷ []);
  }
  step (Formula-F.AllOf es) = record {
    literal = λ front s. let r = literals at (of es) s in ap define_all (each_shifts es front s) ∙ move_define front r.1 (λ x. all_clauses x r.0);
    held = held_shift es;
  }
  step (Formula-F.AnyOf es) = record {
    literal = λ front s. let r = literals at (of es) s in ap define_any (each_shifts es front s) ∙ move_define front r.1 (λ x. any_clauses x r.0);
    held = λ front s. let r = literals at (of es) s in ap asserted_any (each_shifts es front s) ∙ move_clauses front r.1 (r.0 ∷ []);
  }

  shifts : (f : Formula) → Shifts (ways at f)
  shifts = ind-Formula (λ f. Shifts (ways at f))
      (λ x y is. subst Shifts (sym (fold-roll-Formula Ways (ways_step at) x)) (subst (λ (z : Formula-F Formula). Shifts (ways_step at (map-Formula Formula Ways (ways at) z))) is (step y)))

  literals_move : (fs : List Formula) (front : List (List Lit)) (s : Form) → literals at fs (after front s) ≡ ahead front (literals at fs s)
  literals_move [] front s = refl
  literals_move (f ∷ fs) front s = let r = literal at f s in
      ap (λ (q : Lit × Form). joined q.0 (literals at fs q.1)) ((shifts f).literal front s) ∙ ap (λ (q : List Lit × Form). joined r.0 q) (literals_move fs front r.1)

  holds_move : (fs : List Formula) (front : List (List Lit)) (s : Form) → hold_each at fs (after front s) ≡ after front (hold_each at fs s)
  holds_move [] front s = refl
  holds_move (f ∷ fs) front s = ap (λ (t : Form). hold_each at fs t) ((shifts f).held front s) ∙ holds_move fs front (hold at f s)

  defined_move : (x : ℕ) (f : Formula) (y : Formula-F Formula) (front : List (List Lit)) (s : Form) → defined_at at x f y (after front s) ≡ after front (defined_at at x f y s)
  defined_move x f Formula-F.Yes front s = move_clauses front s ((pos x ∷ []) ∷ [])
  defined_move x f Formula-F.No front s = move_clauses front s ((neg x ∷ []) ∷ [])
  defined_move x f (Formula-F.Is item) front s = let r = literal at f s in ap (same_after x) ((shifts f).literal front s) ∙ move_clauses front r.1 (same_clauses x r.0)
  defined_move x f (Formula-F.Neg g) front s = let r = literal at f s in ap (same_after x) ((shifts f).literal front s) ∙ move_clauses front r.1 (same_clauses x r.0)
  defined_move x f (Formula-F.AllOf fs) front s = let r = literals at fs s in ap (all_after x) (literals_move fs front s) ∙ move_clauses front r.1 (all_clauses x r.0)
  defined_move x f (Formula-F.AnyOf fs) front s = let r = literals at fs s in ap (any_after x) (literals_move fs front s) ∙ move_clauses front r.1 (any_clauses x r.0)

  defines_move : (ds : List Definition) (front : List (List Lit)) (s : Form) → defined_each at ds (after front s) ≡ after front (defined_each at ds s)
  defines_move [] front s = refl
  defines_move (d ∷ ds) front s = ap (λ (t : Form). defined_each at ds t) (defined_move (at d.item) d.formula (out-Formula d.formula) front s) ∙ defines_move ds front (defined at d s)

  -- a draft of a form with more is that draft with more
  pub draft_held : (fs : List Formula) (s w : Form) (cs : List (List Lit)) → IsDraft s w cs → IsDraft (hold_each at fs s) (hold_each at fs w) cs
  draft_held fs s w cs d = record { front = d.front; is = ap (λ (t : Form). hold_each at fs t) d.is ∙ holds_move fs d.front w; tidy = d.tidy }

  pub draft_defined : (ds : List Definition) (s w : Form) (cs : List (List Lit)) → IsDraft s w cs → IsDraft (defined_each at ds s) (defined_each at ds w) cs
  draft_defined ds s w cs d = record { front = d.front; is = ap (λ (t : Form). defined_each at ds t) d.is ∙ defines_move ds d.front w; tidy = d.tidy }

  -- a fact whose node comes in another stage leaves the form as it is
  pub skipped : (stage : Stage) (f : Fact) (s : Form) → (holds_in stage f.node || defines_in stage f.node) ≡ false
      → s ≡ defined_each at (defined_in stage f) (hold_each at (held_in stage f) s)
  skipped stage f s h = let no = neither (holds_in stage f.node) (defines_in stage f.node) h in
      sym (ap (λ (b : Bool). defined_each at (defined_in stage f) (hold_each at (cond b f.holds []) s)) no.0 ∙ ap (λ (b : Bool). defined_each at (cond b f.defines []) s) no.1)

  -- one fact more
  pub staged_one : (stage : Stage) (fs : List Fact) (f : Fact) (s : Form)
      → staged at stage (fs ++ f ∷ []) s ≡ defined_each at (defined_in stage f) (hold_each at (held_in stage f) (staged at stage fs s))
  staged_one stage [] f s = refl
  staged_one stage (g ∷ fs) f s = staged_one stage fs f (defined_each at (defined_in stage g) (hold_each at (held_in stage g) s))

  pub staged_next : (stage : Stage) (facts : List (Bor Fact)) (k : ℕ) (d f : Bor Fact) (s : Form) → k < length facts → f ≡ get_or facts k d
      → staged at stage (map (λ (g : Bor Fact). g.now) (take (k + 1) facts)) s ≡ defined_each at (defined_in stage f.now) (hold_each at (held_in stage f.now) (staged at stage (map (λ (g : Bor Fact). g.now) (take k facts)) s))
  staged_next stage facts k d f s h e = let now : Bor Fact → Fact = λ g. g.now in let t = staged at stage (map now (take k facts)) s in let next : Bor Fact = get_or facts k d in
      ap (λ (gs : List (Bor Fact)). staged at stage (map now gs) s) (take_more facts k d h)
      ∙ (ap (λ (gs : List Fact). staged at stage gs s) (map-append now (take k facts) (next ∷ []))
      ∙ (staged_one stage (map now (take k facts)) next.now s
      ∙ ap (λ (g : Bor Fact). defined_each at (defined_in stage g.now) (hold_each at (held_in stage g.now) t)) (sym e)))

-- the clauses as written are put in order too
pub draft_settled : (s w v : Form) (cs ds : List (List Lit)) → IsDraft s w cs → ((front : List (List Lit)) → AreTidy front cs → AreTidy (front ++ w.clauses) ds)
    → v ≡ record { vars = w.vars; clauses = [] } → IsDraft s v ds
draft_settled s w v cs ds d h e = record {
  front = d.front ++ w.clauses;
  is = d.is ∙ (ap (λ (ks : List (List Lit)). record { vars = w.vars; clauses = ks }) (sym (append-nil (d.front ++ w.clauses))) ∙ ap (λ (u : Form). after (d.front ++ w.clauses) u) (sym e));
  tidy = h d.front d.tidy;
}

-- where nothing is as written, all clauses are in order
pub draft_tidy : (s w : Form) (cs : List (List Lit)) → IsDraft s w cs → w.clauses ≡ [] → AreTidy s.clauses cs
draft_tidy s w cs d e = subst (λ (ks : List (List Lit)). AreTidy ks cs) (sym (ap (λ (t : Form). t.clauses) d.is ∙ (ap (λ (ks : List (List Lit)). d.front ++ ks) e ∙ append-nil d.front))) d.tidy

-- at first none is in order
pub draft_start : (s : Form) → IsDraft s s []
draft_start s = record { front = []; is = refl; tidy = tt }
