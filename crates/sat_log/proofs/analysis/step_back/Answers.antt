use Rattle.std.proofs.Common.{◌≡◌, ◌-◌, ◌<◌, ◌≤◌, List, [], length, get_or, sym, ◌∙◌, subst, arith}
use Rattle.std.proofs.lemmas.List.{get_or_default}
use Rattle.ut_logic.specs.declared.literals.Lit.{Lit}
use Rattle.log_check.specs.Resolution.{HasNoResolvent}
use Rattle.sat_log.proofs.Pivoting.{numbered_clause}
use Rattle.sat_log.proofs.analysis.step_back.Goals as goal

pub clause-requires : goal.clause-requires
clause-requires c = let given = c.requires.1 in omega (arith, given.0, given.1)

pub unreachable-requires : goal.unreachable-requires
unreachable-requires c =
    let given = c.requires in
    let same = sym (get_or_default c.args.store.now (c.args.number - 1) given.0 [] (omega (arith, given.1.0, given.1.1))) ∙ given.1.2 in
    let stuck = rw c.in-None.is at c.in_ok-found.ensures.found in
    given.2 (subst (λ t. HasNoResolvent c.args.acc.now t c.args.pivot) (c.in_ok-next.ensures ∙ same) stuck)

pub returns : goal.returns
returns c =
    let given = c.requires.1 in
    let found = rw c.in-Some.is at c.in_ok-found.ensures.found in
    (_, numbered_clause _ _ _ given.0 given.1 c.in_ok-next.ensures, found, c.in_ok-push-in-Some.ensures.items)
