use Rattle.std.proofs.Common.{arith}
use Rattle.sat_log.proofs.Storing.{length_clauses}
use Rattle.sat_log.proofs.store.Store.len.Goals as goal

pub returns : goal.returns
returns c =
    let s = c.self.inside in
    rw (← c.self.view_is) (omega (arith, length_clauses 0 s.ends.items s.codes.items, s.ends.ok.0))
