use Rattle.std.proofs.Common.{◌≡◌, Bool, true, false, not, refl}
use Rattle.std.specs.Prelude.{◌↔◌}
use Rattle.std.proofs.lemmas.Bool.{false≢true}
use Rattle.sat_log.proofs.visiting.may_watch.Goals as goal

other_way : (r : Bool) (P : Type 0) → ((r ≡ true) ↔ P) → (not r ≡ true) ↔ (¬ P)
other_way true P h = ((λ e. absurd (false≢true e)), (λ n. absurd (n (h.0 refl))))
other_way false P h = ((λ e p. false≢true (h.1 p)), (λ n. refl))

pub returns-then-code-other : goal.returns-then-code-other
returns-then-code-other c = ((λ e. absurd (false≢true e)), (λ h. absurd (h.0 c.if-code-other.true)))

pub returns : goal.returns
returns c =
    let found = other_way _ _ (rw c.truth_of.ensures at c.is_false.ensures) in
    ((λ e. (c.if-code-other.false, found.0 e)), (λ h. found.1 h.1))
