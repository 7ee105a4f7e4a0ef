use Rattle.std.proofs.Common.{subst, sym}
use Rattle.kconf_words.specs.Faults.{Gives, Fails}
use Rattle.kconf_rests.specs.Rests.{within_limit}
use Rattle.kconf_rests.proofs.RestLemmas.{value_is, value_next, fails_first}
use Rattle.kconf_rests.proofs.values.a_value.Goals as goal

pub returns : goal.returns
returns c =
    let k = c.in_ok-read.ensures in
    let w = c.args.words.now in
    let rest = c.in_ok-read.read.rest.now in
    subst (Gives c.default_of.result)
    (value_is w rest k.parsed k.is k.rest c.in_ok-read.read.expr c.in_ok-condition.condition c.in_ok-text.text k.expr c.in_ok-condition.ensures c.in_ok-text.ensures)
    c.default_of.ensures
