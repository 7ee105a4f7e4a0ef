use Rattle.std.proofs.Common.{◌≡◌, ◌-◌, length, take, ap, ◌∙◌, sym, arith}
use Rattle.sat_log.specs.Stores.{clauses_from}
use Rattle.sat_log.proofs.Storing.{length_clauses, stored_take, view_take}
use Rattle.sat_log.proofs.store.Store.pop.Goals as goal

pub invariant_of-self : goal.invariant_of-self
invariant_of-self c = rw c.truncate.ensures.items (stored_take _ _ _ c.self.invariant)

pub returns : goal.returns
returns c =
    let s = c.self.inside in
    let all = clauses_from 0 s.ends.items s.codes.items in
    let less : c.len-count.result - 1 ≡ length all - 1 = omega (arith, c.len-count.ensures, length_clauses 0 s.ends.items s.codes.items, s.ends.ok.0) in
    rw (← c.self.view_is) (ap (λ e. clauses_from 0 e s.codes.items) c.truncate.ensures.items ∙ view_take 0 (c.len-count.result - 1) s.ends.items s.codes.items ∙ ap (λ n. take n all) less)
