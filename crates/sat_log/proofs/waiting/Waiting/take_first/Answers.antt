use Rattle.std.proofs.Common.{◌≡◌, ◌-◌, ◌<◌, ◌≤◌, length, get_or, sym, arith}
use Rattle.std.proofs.lemmas.List.{get_or_default}
use Rattle.sat_log.proofs.OnceLemmas.{length_list, taken}
use Rattle.sat_log.proofs.waiting.Waiting.take_first.Goals as goal

pub invariant_of-self : goal.invariant_of-self
invariant_of-self c =
    let s = c.self.inside in
    let h = rw (← c.self.view_is) at c.requires in
    let some : 0 < s.count = omega (arith, h, length_list s.places.items s.listed.items s.count c.self.invariant) in
    (taken s.places.items s.listed.items s.count c.self.invariant c.index-place.result.now some c.index-place.ensures).0

pub returns-clause-list : goal.returns-clause-list
returns-clause-list c =
    let s = c.self.inside in
    let h = rw (← c.self.view_is) at c.requires in
    let some : 0 < s.count = omega (arith, h, length_list s.places.items s.listed.items s.count c.self.invariant) in
    rw (← c.self.view_is) (get_or s.places.items (s.count - 1) 0, (taken s.places.items s.listed.items s.count c.self.invariant (get_or s.places.items (s.count - 1) 0) some (get_or_default s.places.items (s.count - 1) 0 _ (omega (arith, some, c.self.invariant.within)))).1)
