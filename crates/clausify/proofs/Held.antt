-- What is held adds clauses that can be met just where it is true, and in one way.
use Rattle.std.proofs.Common.{◌≡◌, ℕ, ◌≤◌, Bool, List, [], ◌++◌, refl, ap, ◌∙◌, rules, arith, append_assoc}
use Rattle.ut_logic.specs.declared.literals.Lit.{Lit}
use Rattle.clausify.specs.Form.{Form}
use Rattle.clausify.specs.ClauseForm.{with_clauses}
use Rattle.clausify.specs.Meaning.{Agree}
use Rattle.clausify.proofs.Grows.{Grows}
use Rattle.clausify.proofs.Meets.{Meets, Within, wider, within-append, meets-append, meets_front, meets_back, meets_alike}

pub record Held (s t : Form) (Q : (ℕ → Bool) → Type 0) : Type 0 where
  pub more : List (List Lit)
  pub is : t.clauses ≡ s.clauses ++ more
  pub upward : s.vars ≤ t.vars
  pub within : Within t.vars more
  pub says : (w : ℕ → Bool) → Meets w more → Q w
  pub one : (w u : ℕ → Bool) → Meets w more → Meets u more → Agree s.vars w u → Agree t.vars w u
  pub some : (w : ℕ → Bool) → Q w → (u : ℕ → Bool) × Agree s.vars w u × Meets u more

-- nothing is held
pub held_none : (s : Form) → Held s s (λ w. Unit {0})
held_none s = record {
  more = [];
  is = search rules;
  upward = omega arith;
  within = tt;
  says = λ w m. tt;
  one = λ w u m k a. a;
  some = λ w q. (w, (λ x h. refl), tt);
}

-- one after another, where the second reads old variables alone
pub then_held : (s t r : Form) (P Q : (ℕ → Bool) → Type 0) → ((w u : ℕ → Bool) → Agree s.vars w u → Q w → Q u) → Held s t P → Held t r Q → Held s r (λ w. P w × Q w)
then_held s t r P Q reads f g = record {
  more = f.more ++ g.more;
  is = g.is ∙ (ap (λ cs. cs ++ g.more) f.is ∙ append_assoc s.clauses f.more g.more);
  upward = omega (arith, f.upward, g.upward);
  within = within-append r.vars f.more g.more (wider t.vars r.vars f.more g.upward f.within) g.within;
  says = λ w m. (f.says w (meets_front w f.more g.more m), g.says w (meets_back w f.more g.more m));
  one = λ w u m k a. g.one w u (meets_back w f.more g.more m) (meets_back u f.more g.more k) (f.one w u (meets_front w f.more g.more m) (meets_front u f.more g.more k) a);
  some = λ w h. let a = f.some w h.0 in let b = g.some a.0 (reads w a.0 a.1 h.1) in
      (b.0, (λ x i. a.1 x i ∙ b.1 x (omega (arith, i, f.upward))), meets-append b.0 f.more g.more (meets_alike t.vars a.0 b.0 f.more f.within b.1 a.2) b.2);
}

-- the same under other words
pub held_as : (s t : Form) (P Q : (ℕ → Bool) → Type 0) → ((w : ℕ → Bool) → P w → Q w) → ((w : ℕ → Bool) → Q w → P w) → Held s t P → Held s t Q
held_as s t P Q to from g = record { more = g.more; is = g.is; upward = g.upward; within = g.within; says = λ w m. to w (g.says w m); one = g.one; some = λ w q. g.some w (from w q) }

-- clauses after those of inner nodes
pub held_after : (s t : Form) (cs : List (List Lit)) (P Q : (ℕ → Bool) → Type 0) → Grows s t P → Within t.vars cs
    → ((w : ℕ → Bool) → P w → Meets w cs → Q w) → ((w : ℕ → Bool) → P w → Q w → Meets w cs) → ((w u : ℕ → Bool) → Agree s.vars w u → Q w → Q u)
    → Held s (with_clauses t cs) Q
held_after s t cs P Q g within if_met met_if reads = record {
  more = g.more ++ cs;
  is = ap (λ ds. ds ++ cs) g.is ∙ append_assoc s.clauses g.more cs;
  upward = g.upward;
  within = within-append t.vars g.more cs g.within within;
  says = λ w m. if_met w (g.says w (meets_front w g.more cs m)) (meets_back w g.more cs m);
  one = λ w u m k a. g.one w u (meets_front w g.more cs m) (meets_front u g.more cs k) a;
  some = λ w h. let u = g.some w in (u.0, u.1, meets-append u.0 g.more cs u.2 (met_if u.0 (g.says u.0 u.2) (reads w u.0 u.1 h)));
}
