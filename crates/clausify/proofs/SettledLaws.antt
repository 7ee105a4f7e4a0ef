-- What a fact or a wish adds where all clauses are in order: clauses without the variable 0.
use Rattle.std.proofs.Common.{◌≡◌, ℕ, zero, suc, ◌≤◌, ◌<◌, Bor, Bool, List, [], ◌∷◌, ◌++◌, length, get_or, map, refl, sym, ap, subst, ◌∙◌, arith}
use Rattle.std.proofs.lemmas.List.Elements.{All-nil, All-cons}
use Rattle.ut_logic.specs.declared.item.Item.{Item}
use Rattle.ut_logic.specs.declared.literals.Lit.{Lit}
use Rattle.ut_logic.specs.declared.formula.Formula.{Formula}
use Rattle.ut_logic.specs.declared.facts.Fact.{Fact}
use Rattle.ut_logic.specs.Clauses.{CountFromOne}
use Rattle.ut_logic.specs.Truth.{mentioned, together}
use Rattle.clausify.specs.declared.stage.Stage.{Stage}
use Rattle.clausify.specs.Form.{Form}
use Rattle.clausify.specs.ClauseForm.{HaveVariables, var_of, hold_each, defined_each}
use Rattle.clausify.specs.Order.{held_in, defined_in, mentioned_of, mentioned_in}
use Rattle.clausify.specs.Draft.{AreCounted, IsSettled}
use Rattle.clausify.proofs.Meets.{LitsWithin, Within}
use Rattle.clausify.proofs.Held.{Held}
use Rattle.clausify.proofs.FormLaws.{var_of-le}
use Rattle.clausify.proofs.WaysLaws.{have_front, have_back}
use Rattle.clausify.proofs.OrderLaws.{holds_each, holds_fact}

lits_counted : (n : ℕ) (ls : List Lit) → LitsWithin n ls → CountFromOne ls
lits_counted n [] h = All-nil (λ (l : Lit). 0 < l.var)
lits_counted n (l ∷ ls) h = All-cons (λ (k : Lit). 0 < k.var) l ls h.0.0 (lits_counted n ls h.1)

counted : (n : ℕ) (cs : List (List Lit)) → Within n cs → AreCounted cs
counted n [] h = All-nil CountFromOne
counted n (c ∷ cs) h = All-cons CountFromOne c cs (lits_counted n c h.0) (counted n cs h.1)

-- each item has a variable of the form t, and its clauses do not have the variable 0
pub record Follows (items : List Item) (t : Form) : Type 0 where
  pub wide : length items ≤ t.vars
  pub counted : AreCounted t.clauses

follows : (items : List Item) (s t : Form) (Q : (ℕ → Bool) → Type 0) → IsSettled items s → Held s t Q → Follows items t
follows items s t Q h g = record {
  wide = omega (arith, h.wide, g.upward);
  counted = subst AreCounted (sym (g.is ∙ ap (λ (cs : List (List Lit)). cs ++ g.more) h.none)) (counted t.vars g.more g.within);
}

pub fact_follows : (items : List Item) (stage : Stage) (f : Fact) (s : Form) → IsSettled items s → HaveVariables (var_of items) (mentioned_of f)
    → Follows items (defined_each (var_of items) (defined_in stage f) (hold_each (var_of items) (held_in stage f) s))
fact_follows items stage f s h v = follows items s _ _ h (holds_fact (var_of items) (length items) (var_of-le items) stage f s h.wide v)

pub wish_follows : (items : List Item) (wish : List Formula) (s : Form) → IsSettled items s → HaveVariables (var_of items) (together (map mentioned wish)) → Follows items (hold_each (var_of items) wish s)
wish_follows items wish s h v = follows items s _ _ h (holds_each (var_of items) (length items) (var_of-le items) wish s h.wide v)

-- the form that is settled after it
pub settled_again : (items : List Item) (t v : Form) → length items ≤ t.vars → v ≡ record { vars = t.vars; clauses = [] } → IsSettled items v
settled_again items t v h e = subst (IsSettled items) (sym e) (record { wide = h; none = refl })

-- what the fact at a place mentions has variables
pub known_at : (at : Item → ℕ) (facts : List (Bor Fact)) (k : ℕ) (d f : Bor Fact) → k < length facts → f ≡ get_or facts k d
    → HaveVariables at (mentioned_in (map (λ (g : Bor Fact). g.now) facts)) → HaveVariables at (mentioned_of f.now)
known_at at facts k d f h e v = subst (λ (g : Bor Fact). HaveVariables at (mentioned_of g.now)) (sym e) (each facts k h v)
  where
    each : (gs : List (Bor Fact)) (j : ℕ) → j < length gs → HaveVariables at (mentioned_in (map (λ (g : Bor Fact). g.now) gs)) → HaveVariables at (mentioned_of (get_or gs j d).now)
    each [] j h v = absurd (omega (arith, h))
    each (g ∷ gs) zero h v = have_front at (mentioned_of g.now) (mentioned_in (map (λ (g : Bor Fact). g.now) gs)) v
    each (g ∷ gs) (suc j) h v = each gs j (omega (arith, h)) (have_back at (mentioned_of g.now) (mentioned_in (map (λ (g : Bor Fact). g.now) gs)) v)
