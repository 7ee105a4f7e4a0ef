use Rattle.std.proofs.Common.{map, ap, ◌∙◌, sym, subst}
use Rattle.std.proofs.lemmas.List.{take_all}
use Rattle.ut_logic.specs.Clauses.{IsClause}
use Rattle.sat_log.specs.Codes.{literal_of}
use Rattle.sat_log.proofs.store.Store.clause.Goals as goal

pub new-requires : goal.new-requires
new-requires c =
    let whole = c.loop-code.invariant ∙ ap (map literal_of) (take_all _ _ c.loop-code-test.false) in
    rw c.as_slice.ensures.value (subst IsClause (sym whole) c.codes-codes.ensures.clause)
