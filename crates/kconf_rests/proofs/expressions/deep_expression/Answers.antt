use Rattle.std.proofs.Common.{◌≡◌, ◌-◌, ◌∙◌, length, drop, length-drop, sym, refl, arith}
use Rattle.std.proofs.lemmas.List.{take_all}
use Rattle.kconf_exprs.specs.Grammar.{expression_at}
use Rattle.kconf_rests.proofs.RestLemmas.{deep, absent}
use Rattle.kconf_rests.proofs.expressions.deep_expression.Goals as goal

pub returns-in-Some : goal.returns-in-Some
returns-in-Some c =
    let ws = c.args.words.now in
    let n = c.in-Some.count in
    let p = deep ws n c.requires (expression_at ws) refl c.in-Some.ensures.value in
    record { parsed = p.0; is = p.1; expr = p.2; rest = take_all (length ws - n) (drop n ws) (omega (arith, length-drop n ws)) ∙ p.3 }

pub returns-in-None : goal.returns-in-None
returns-in-None c = absent c.args.words.now (expression_at c.args.words.now) refl c.in-None.ensures.value
