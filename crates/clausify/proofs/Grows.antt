-- What a part of the clause form adds: clauses that give the new variables one value each.
use Rattle.std.proofs.Common.{◌≡◌, ℕ, ◌≤◌, Bool, List, [], ◌++◌, refl, ap, ◌∙◌, rules, arith, append_assoc}
use Rattle.ut_logic.specs.declared.literals.Lit.{Lit}
use Rattle.clausify.specs.Form.{Form}
use Rattle.clausify.specs.Meaning.{Agree}
use Rattle.clausify.proofs.Meets.{Meets, Within, wider, within-append, meets-append, meets_front, meets_back, meets_alike}

-- from s to t: P holds where the new clauses are met, which happens in exactly one way
pub record Grows (s t : Form) (P : (ℕ → Bool) → Type 0) : Type 0 where
  pub more : List (List Lit)
  pub is : t.clauses ≡ s.clauses ++ more
  pub upward : s.vars ≤ t.vars
  pub within : Within t.vars more
  pub says : (w : ℕ → Bool) → Meets w more → P w
  pub one : (w u : ℕ → Bool) → Meets w more → Meets u more → Agree s.vars w u → Agree t.vars w u
  pub some : (w : ℕ → Bool) → (u : ℕ → Bool) × Agree s.vars w u × Meets u more

pub stays : (s : Form) (P : (ℕ → Bool) → Type 0) → ((w : ℕ → Bool) → P w) → Grows s s P
stays s P p = record {
  more = [];
  is = search rules;
  upward = omega arith;
  within = tt;
  says = λ w m. p w;
  one = λ w u m k a. a;
  some = λ w. (w, (λ x h. refl), tt);
}

pub then_grows : (s t r : Form) (P Q : (ℕ → Bool) → Type 0) → Grows s t P → Grows t r Q → Grows s r (λ w. P w × Q w)
then_grows s t r P Q f g = record {
  more = f.more ++ g.more;
  is = g.is ∙ (ap (λ cs. cs ++ g.more) f.is ∙ append_assoc s.clauses f.more g.more);
  upward = omega (arith, f.upward, g.upward);
  within = within-append r.vars f.more g.more (wider t.vars r.vars f.more g.upward f.within) g.within;
  says = λ w m. (f.says w (meets_front w f.more g.more m), g.says w (meets_back w f.more g.more m));
  one = λ w u m k a. g.one w u (meets_back w f.more g.more m) (meets_back u f.more g.more k) (f.one w u (meets_front w f.more g.more m) (meets_front u f.more g.more k) a);
  some = λ w. let a = f.some w in let b = g.some a.0 in
      (b.0, (λ x h. a.1 x h ∙ b.1 x (omega (arith, h, f.upward))), meets-append b.0 f.more g.more (meets_alike t.vars a.0 b.0 f.more f.within b.1 a.2) b.2);
}

pub weaker : (s t : Form) (P Q : (ℕ → Bool) → Type 0) → ((w : ℕ → Bool) → P w → Q w) → Grows s t P → Grows s t Q
weaker s t P Q h g = record { more = g.more; is = g.is; upward = g.upward; within = g.within; says = λ w m. h w (g.says w m); one = g.one; some = g.some }
