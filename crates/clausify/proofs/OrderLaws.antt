-- What the stages and the wish add can be met just where facts and wish are met, and in one way.
use Rattle.std.proofs.Common.{◌≡◌, ℕ, ◌≤◌, ◌<◌, Bool, true, false, not, ◌||◌, cond, List, [], ◌∷◌, map, refl, sym, ap, subst, ◌∙◌, arith}
use Rattle.std.specs.List.{AllByRecursion}
use Rattle.std.proofs.lemmas.Bool.{false≢true}
use Rattle.std.proofs.lemmas.Cmp.{eq_by_cmp_equiv}
use Rattle.ut_logic.specs.Item.{item_total}
use Rattle.ut_logic.specs.declared.item.Item.{Item}
use Rattle.ut_logic.specs.declared.facts.Definition.{Definition}
use Rattle.ut_logic.specs.declared.facts.Fact.{Fact}
use Rattle.ut_logic.specs.declared.formula.Formula.{Formula, out-Formula}
use Rattle.ut_logic.specs.declared.formula.Formula.TheOpen.{Formula-F}
use Rattle.ut_logic.specs.Truth.{truth, truths, all_true, any_true, mentioned, together}
use Rattle.ut_logic.specs.Clauses.{value_of}
use Rattle.ut_logic.specs.Assign.{is_in}
use Rattle.ut_logic.specs.Facts.{IsDefined}
use Rattle.ut_logic.proofs.FoldLaws.{truth_at, truth_out}
use Rattle.ut_logic.proofs.MentionLaws.{mentioned_at, mentioned_out}
use Rattle.clausify.specs.declared.stage.Stage.{Stage}
use Rattle.clausify.specs.declared.stage.Stage.TheVariants.{Symbols, Starts, Blocks, States}
use Rattle.clausify.specs.Form.{Form}
use Rattle.clausify.specs.ClauseForm.{HaveVariables, pos, neg, literal, literals, hold, hold_each, defined, defined_at, defined_each, same_after, all_clauses, any_clauses, same_clauses}
use Rattle.clausify.specs.Order.{holds_in, defines_in, held_in, defined_in, staged, form_of, mentioned_of, mentioned_in}
use Rattle.clausify.specs.Meaning.{Agree}
use Rattle.clausify.proofs.Meets.{Meets, lits_true, all_within, any_within, same_within}
use Rattle.clausify.proofs.Grows.{stays, then_grows, weaker}
use Rattle.clausify.proofs.Define.{all_if, all_met, any_if, any_met, same_if_met, met_if_same}
use Rattle.clausify.proofs.Held.{Held, held_none, then_held, held_as, held_after}
use Rattle.clausify.proofs.WaysLaws.{Makes, MakesEach, have_front, have_back, works, means_alike, all_alike, and_first, and_second, and_both, or_only}

module _ (at : Item → ℕ) (n : ℕ) (known : (i : Item) → at i ≤ n) where
  -- the truths of items
  abbrev pub under : (ℕ → Bool) → Item → Bool
  under w i = w (at i)

  -- the literals of formulas have their truths
  lits_made : (fs : List Formula) (s : Form) → n ≤ s.vars → HaveVariables at (together (map mentioned fs)) → MakesEach s (literals at fs s) (λ w. truths (under w) fs)
  lits_made [] s h v = record { grows = stays s _ (λ w. refl); within = tt }
  lits_made (f ∷ fs) s h v =
      let one = (works at n known f (have_front at (mentioned f) (together (map mentioned fs)) v)).literal s h in
      let t = (literal at f s).1 in
      let more = lits_made fs t (omega (arith, one.grows.upward, h)) (have_back at (mentioned f) (together (map mentioned fs)) v) in
      record {
        grows = weaker s _ _ _ (λ w p. rw (p.0, p.1) refl) (then_grows s t _ _ _ one.grows more.grows);
        within = ((one.within.0, omega (arith, one.within.1, more.grows.upward)), more.within);
      }

  -- formulas that are held
  pub holds_each : (fs : List Formula) (s : Form) → n ≤ s.vars → HaveVariables at (together (map mentioned fs)) → Held s (hold_each at fs s) (λ w. all_true (truths (under w) fs) ≡ true)
  holds_each [] s h v = held_as s s (λ w. Unit {0}) _ (λ w p. refl) (λ w q. tt) (held_none s)
  holds_each (f ∷ fs) s h v =
      let one = (works at n known f (have_front at (mentioned f) (together (map mentioned fs)) v)).held s h in
      let t = hold at f s in
      let more = holds_each fs t (omega (arith, one.upward, h)) (have_back at (mentioned f) (together (map mentioned fs)) v) in
      held_as s _ _ _ (λ w p. and_both (truth (under w) f) (all_true (truths (under w) fs)) p.0 p.1)
      (λ w q. (and_first (truth (under w) f) (all_true (truths (under w) fs)) q, and_second (truth (under w) f) (all_true (truths (under w) fs)) q))
      (then_held s t _ (λ w. truth (under w) f ≡ true) (λ w. all_true (truths (under w) fs) ≡ true) (λ w u a q. ap all_true (sym (all_alike at n known s.vars w u fs h a)) ∙ q) one more)

  -- ---- definitions

  one_true : (w : ℕ → Bool) (x : ℕ) → Meets w ((pos x ∷ []) ∷ []) → w x ≡ true
  one_true w x m = or_only (w x) m.0

  true_one : (w : ℕ → Bool) (x : ℕ) → w x ≡ true → Meets w ((pos x ∷ []) ∷ [])
  true_one w x e = (rw e refl, tt)

  not_true : (b : Bool) → not b ≡ true → b ≡ false
  not_true false h = refl
  not_true true h = sym h

  one_false : (w : ℕ → Bool) (x : ℕ) → Meets w ((neg x ∷ []) ∷ []) → w x ≡ false
  one_false w x m = not_true (w x) (or_only (not (w x)) m.0)

  false_one : (w : ℕ → Bool) (x : ℕ) → w x ≡ false → Meets w ((neg x ∷ []) ∷ [])
  false_one w x e = (rw e refl, tt)

  -- the definition of a variable x by a formula f
  defines_at : (x : ℕ) (f : Formula) (s : Form) → n ≤ s.vars → (0 < x) × (x ≤ n) → HaveVariables at (mentioned f) → Held s (defined_at at x f (out-Formula f) s) (λ w. w x ≡ truth (under w) f)
  defines_at x f s h k v = by (out-Formula f) (λ a. truth_out a f) (mentioned_out f)
    where
      reads : (w u : ℕ → Bool) → Agree s.vars w u → w x ≡ truth (under w) f → u x ≡ truth (under u) f
      reads w u a e = sym (a x (omega (arith, k.1, h))) ∙ (e ∙ means_alike at n known s.vars w u f h a)

      wide : (t : Form) → s.vars ≤ t.vars → (0 < x) × (x ≤ t.vars)
      wide t g = (k.0, omega (arith, k.1, h, g))

      made : Makes s (literal at f s) (λ w. truth (under w) f)
      made = (works at n known f v).literal s h

      by_literal : Held s (same_after x (literal at f s)) (λ w. w x ≡ truth (under w) f)
      by_literal = held_after s (literal at f s).1 (same_clauses x (literal at f s).0) (λ w. value_of w (literal at f s).0 ≡ truth (under w) f) _ made.grows (same_within (literal at f s).1.vars x (literal at f s).0 (wide (literal at f s).1 made.grows.upward) made.within)
          (λ w p m. same_if_met w x (literal at f s).0 m ∙ p) (λ w p q. met_if_same w x (literal at f s).0 (q ∙ sym p)) reads

      by : (y : Formula-F Formula) → ((a : Item → Bool) → truth a f ≡ truth_at a y) → mentioned f ≡ mentioned_at y → Held s (defined_at at x f y s) (λ w. w x ≡ truth (under w) f)
      by Formula-F.Yes e m = held_after s s ((pos x ∷ []) ∷ []) (λ w. Unit {0}) _ (stays s _ (λ w. tt)) ((wide s (omega arith), tt), tt) (λ w p c. one_true w x c ∙ sym (e (under w))) (λ w p q. true_one w x (q ∙ e (under w))) reads
      by Formula-F.No e m = held_after s s ((neg x ∷ []) ∷ []) (λ w. Unit {0}) _ (stays s _ (λ w. tt)) ((wide s (omega arith), tt), tt) (λ w p c. one_false w x c ∙ sym (e (under w))) (λ w p q. false_one w x (q ∙ e (under w))) reads
      by (Formula-F.Is item) e m = by_literal
      by (Formula-F.Neg g) e m = by_literal
      by (Formula-F.AllOf fs) e m =
          let each = lits_made fs s h (subst (HaveVariables at) m v) in
          let r = literals at fs s in
          held_after s r.1 (all_clauses x r.0) (λ w. lits_true w r.0 ≡ truths (under w) fs) _ each.grows (all_within r.1.vars x r.0 (wide r.1 each.grows.upward) each.within)
          (λ w p c. all_if w x r.0 c ∙ (ap all_true p ∙ sym (e (under w)))) (λ w p q. all_met w x r.0 (q ∙ (e (under w) ∙ ap all_true (sym p)))) reads
      by (Formula-F.AnyOf fs) e m =
          let each = lits_made fs s h (subst (HaveVariables at) m v) in
          let r = literals at fs s in
          held_after s r.1 (any_clauses x r.0) (λ w. lits_true w r.0 ≡ truths (under w) fs) _ each.grows (any_within r.1.vars x r.0 (wide r.1 each.grows.upward) each.within)
          (λ w p c. any_if w x r.0 c ∙ (ap any_true p ∙ sym (e (under w)))) (λ w p q. any_met w x r.0 (q ∙ (e (under w) ∙ ap any_true (sym p)))) reads

  -- the items that definitions mention
  abbrev defining : List Definition → List Item
  defining ds = together (map (λ d. d.item ∷ mentioned d.formula) ds)

  reads_definitions : (m : ℕ) (ds : List Definition) → n ≤ m → (w u : ℕ → Bool) → Agree m w u → AllByRecursion (IsDefined (under w)) ds → AllByRecursion (IsDefined (under u)) ds
  reads_definitions m [] h w u a q = tt
  reads_definitions m (d ∷ ds) h w u a q = (sym (a (at d.item) (omega (arith, known d.item, h))) ∙ (q.0 ∙ means_alike at n known m w u d.formula h a), reads_definitions m ds h w u a q.1)

  defines_each : (ds : List Definition) (s : Form) → n ≤ s.vars → HaveVariables at (together (map (λ d. d.item ∷ mentioned d.formula) ds)) → Held s (defined_each at ds s) (λ w. AllByRecursion (IsDefined (under w)) ds)
  defines_each [] s h v = held_none s
  defines_each (d ∷ ds) s h v =
      let here = have_front at (d.item ∷ mentioned d.formula) (together (map (λ (d : Definition). d.item ∷ mentioned d.formula) ds)) v in
      let has : 0 < at d.item = have_front at (d.item ∷ []) (mentioned d.formula) here d.item (itself d.item) in
      let one = defines_at (at d.item) d.formula s h (has, known d.item) (have_back at (d.item ∷ []) (mentioned d.formula) here) in
      let t = defined at d s in
      let more = defines_each ds t (omega (arith, one.upward, h)) (have_back at (d.item ∷ mentioned d.formula) (together (map (λ (d : Definition). d.item ∷ mentioned d.formula) ds)) v) in
      then_held s t _ (λ w. IsDefined (under w) d) (λ w. AllByRecursion (IsDefined (under w)) ds) (λ w u a q. reads_definitions s.vars ds h w u a q) one more
    where
      itself : (i : Item) → is_in (i ∷ []) i ≡ true
      itself i = ap (λ b. b || false) ((eq_by_cmp_equiv item_total).refl i)

  -- ---- a fact, in one stage and in all

  -- what a stage asks of a fact, and of facts
  abbrev pub MetIn : Stage → (ℕ → Bool) → Fact → Type 0
  MetIn stage w f = (all_true (truths (under w) (held_in stage f)) ≡ true) × AllByRecursion (IsDefined (under w)) (defined_in stage f)

  abbrev pub AllMetIn : Stage → (ℕ → Bool) → List Fact → Type 0
  AllMetIn stage w fs = AllByRecursion (MetIn stage w) fs

  held_variables : (stage : Stage) (f : Fact) → HaveVariables at (mentioned_of f) → HaveVariables at (together (map mentioned (held_in stage f)))
  held_variables stage f v = by (holds_in stage f.node)
    where
      none : HaveVariables at []
      none i h = absurd (false≢true h)

      by : (b : Bool) → HaveVariables at (together (map mentioned (cond b f.holds [])))
      by true = have_front at (together (map mentioned f.holds)) (together (map (λ (d : Definition). d.item ∷ mentioned d.formula) f.defines)) v
      by false = none

  defined_variables : (stage : Stage) (f : Fact) → HaveVariables at (mentioned_of f) → HaveVariables at (together (map (λ (d : Definition). d.item ∷ mentioned d.formula) (defined_in stage f)))
  defined_variables stage f v = by (defines_in stage f.node)
    where
      none : HaveVariables at []
      none i h = absurd (false≢true h)

      by : (b : Bool) → HaveVariables at (together (map (λ (d : Definition). d.item ∷ mentioned d.formula) (cond b f.defines [])))
      by true = have_back at (together (map mentioned f.holds)) (together (map (λ (d : Definition). d.item ∷ mentioned d.formula) f.defines)) v
      by false = none

  reads_fact : (m : ℕ) (stage : Stage) (f : Fact) → n ≤ m → (w u : ℕ → Bool) → Agree m w u → MetIn stage w f → MetIn stage u f
  reads_fact m stage f h w u a q = (ap all_true (sym (all_alike at n known m w u (held_in stage f) h a)) ∙ q.0, reads_definitions m (defined_in stage f) h w u a q.1)

  reads_stage : (m : ℕ) (stage : Stage) (fs : List Fact) → n ≤ m → (w u : ℕ → Bool) → Agree m w u → AllMetIn stage w fs → AllMetIn stage u fs
  reads_stage m stage [] h w u a q = tt
  reads_stage m stage (f ∷ fs) h w u a q = (reads_fact m stage f h w u a q.0, reads_stage m stage fs h w u a q.1)

  pub holds_fact : (stage : Stage) (f : Fact) (s : Form) → n ≤ s.vars → HaveVariables at (mentioned_of f) → Held s (defined_each at (defined_in stage f) (hold_each at (held_in stage f) s)) (λ w. MetIn stage w f)
  holds_fact stage f s h v =
      let one = holds_each (held_in stage f) s h (held_variables stage f v) in
      let t = hold_each at (held_in stage f) s in
      then_held s t _ (λ w. all_true (truths (under w) (held_in stage f)) ≡ true) (λ w. AllByRecursion (IsDefined (under w)) (defined_in stage f))
      (λ w u a q. reads_definitions s.vars (defined_in stage f) h w u a q) one (defines_each (defined_in stage f) t (omega (arith, one.upward, h)) (defined_variables stage f v))

  pub holds_stage : (stage : Stage) (fs : List Fact) (s : Form) → n ≤ s.vars → HaveVariables at (mentioned_in fs) → Held s (staged at stage fs s) (λ w. AllMetIn stage w fs)
  holds_stage stage [] s h v = held_none s
  holds_stage stage (f ∷ fs) s h v =
      let one = holds_fact stage f s h (have_front at (mentioned_of f) (mentioned_in fs) v) in
      let t = defined_each at (defined_in stage f) (hold_each at (held_in stage f) s) in
      then_held s t _ (λ w. MetIn stage w f) (λ w. AllMetIn stage w fs) (λ w u a q. reads_stage s.vars stage fs h w u a q) one (holds_stage stage fs t (omega (arith, one.upward, h)) (have_back at (mentioned_of f) (mentioned_in fs) v))

  -- ---- all stages, what is held before them, and the wish

  abbrev pub Stages : (ℕ → Bool) → List Fact → Type 0
  Stages w fs = ((AllMetIn Symbols w fs × AllMetIn Starts w fs) × AllMetIn Blocks w fs) × AllMetIn States w fs

  reads_stages : (m : ℕ) (fs : List Fact) → n ≤ m → (w u : ℕ → Bool) → Agree m w u → Stages w fs → Stages u fs
  reads_stages m fs h w u a q = (((reads_stage m Symbols fs h w u a q.0.0.0, reads_stage m Starts fs h w u a q.0.0.1), reads_stage m Blocks fs h w u a q.0.1), reads_stage m States fs h w u a q.1)

  reads_each : (m : ℕ) (gs : List Formula) → n ≤ m → (w u : ℕ → Bool) → Agree m w u → all_true (truths (under w) gs) ≡ true → all_true (truths (under u) gs) ≡ true
  reads_each m gs h w u a q = ap all_true (sym (all_alike at n known m w u gs h a)) ∙ q

  pub holds_stages : (fs : List Fact) (s : Form) → n ≤ s.vars → HaveVariables at (mentioned_in fs)
      → Held s (staged at States fs (staged at Blocks fs (staged at Starts fs (staged at Symbols fs s)))) (λ w. Stages w fs)
  holds_stages fs s h v =
      let s1 = staged at Symbols fs s in
      let s2 = staged at Starts fs s1 in
      let s3 = staged at Blocks fs s2 in
      let a = holds_stage Symbols fs s h v in
      let b = holds_stage Starts fs s1 (omega (arith, a.upward, h)) v in
      let c = holds_stage Blocks fs s2 (omega (arith, a.upward, b.upward, h)) v in
      let d = holds_stage States fs s3 (omega (arith, a.upward, b.upward, c.upward, h)) v in
      then_held s s3 _ _ (λ w. AllMetIn States w fs) (λ w u g q. reads_stage s.vars States fs h w u g q)
      (then_held s s2 _ _ (λ w. AllMetIn Blocks w fs) (λ w u g q. reads_stage s.vars Blocks fs h w u g q)
      (then_held s s1 _ (λ w. AllMetIn Symbols w fs) (λ w. AllMetIn Starts w fs) (λ w u g q. reads_stage s.vars Starts fs h w u g q) a b) c) d

  abbrev pub Whole : (ℕ → Bool) → List Formula → List Fact → List Formula → Type 0
  Whole w held fs wish = ((all_true (truths (under w) held) ≡ true) × Stages w fs) × (all_true (truths (under w) wish) ≡ true)

  pub holds_whole : (held : List Formula) (fs : List Fact) (wish : List Formula) (s : Form) → n ≤ s.vars → HaveVariables at (together (map mentioned held)) → HaveVariables at (mentioned_in fs) → HaveVariables at (together (map mentioned wish))
      → Held s (form_of at fs wish (hold_each at held s)) (λ w. Whole w held fs wish)
  holds_whole held fs wish s h k v l =
      let s1 = hold_each at held s in
      let s2 = staged at States fs (staged at Blocks fs (staged at Starts fs (staged at Symbols fs s1))) in
      let a = holds_each held s h k in
      let b = holds_stages fs s1 (omega (arith, a.upward, h)) v in
      let c = holds_each wish s2 (omega (arith, a.upward, b.upward, h)) l in
      then_held s s2 _ (λ w. (all_true (truths (under w) held) ≡ true) × Stages w fs) (λ w. all_true (truths (under w) wish) ≡ true) (λ w u g q. reads_each s.vars wish h w u g q)
      (then_held s s1 _ (λ w. all_true (truths (under w) held) ≡ true) (λ w. Stages w fs) (λ w u g q. reads_stages s.vars fs h w u g q) a b) c
