use Rattle.std.proofs.Common.{◌≡◌, ◌≤◌, length, map, take, ◌∙◌, arith}
use Rattle.std.proofs.lemmas.List.{length-map, length-take}
use Rattle.sat_log.specs.Codes.{code_of}
use Rattle.sat_log.specs.Stores.{GrowsUpTo}
use Rattle.sat_log.proofs.Storing.{on_err}
use Rattle.sat_log.proofs.store.push_codes.Goals as goal

pub returns-in_err-push-clause-err : goal.returns-in_err-push-clause-err
returns-in_err-push-clause-err c =
    let part = take c.loop-lit.lit-index c.args.lits.now in
    let grown : GrowsUpTo c.args.codes.now.items c.push.new.self.items (length c.args.lits.now) = (map code_of part, c.in_err-push.ensures.items ∙ c.loop-lit.invariant, omega (arith, length-map part code_of, length-take c.loop-lit.lit-index c.args.lits.now)) in
    on_err _ grown
