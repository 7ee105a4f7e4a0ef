use Rattle.std.proofs.Common.{ap, refl, sym}
use Rattle.kconf_words.specs.declared.line_bad.SyntaxKind.TheVariants as fault
use Rattle.kconf_exprs.specs.Grammar.{Parsed}
use Rattle.kconf_rests.specs.Rests.{wanted}
use Rattle.kconf_rests.proofs.RestLemmas.{is_kept}
use Rattle.kconf_rests.proofs.expressions.expression_at.Goals as goal

pub returns-in-Ok : goal.returns-in-Ok
returns-in-Ok c =
    let r = c.in-Ok.ensures.read in
    let p : Parsed = record { expr = c.in-Ok.expr; signs = r.signs; rest = c.in-Ok.rest.now } in
    record { parsed = p; is = ap (wanted fault.Expression) r.is; expr = sym (is_kept p r.within); rest = refl }
