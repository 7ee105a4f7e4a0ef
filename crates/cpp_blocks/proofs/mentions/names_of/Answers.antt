use Rattle.std.proofs.Common.{◌+◌, sym, ap, ◌∙◌, drop, arith}
use Rattle.std.specs.List.{flat_map}
use Rattle.ut_text.specs.Text.{text_eq}
use Rattle.cpp_directives.specs.declared.directive.Directive.{Directive}
use Rattle.cpp_blocks.specs.Mentions.{firsts, names_at}
use Rattle.cpp_blocks.proofs.FirstsLaws.{firsts_next}
use Rattle.cpp_blocks.proofs.mentions.names_of.Goals as goal

pub loop-directive-preserved : goal.loop-directive-preserved
loop-directive-preserved c =
    ap (λ ks. firsts text_eq ks (flat_map (λ (d : Directive). names_at d.what) (drop (c.loop-directive.directive-index + 1) c.args.list.now))) (c.in_ok-add_names_at.ensures ∙ ap (λ (x : Directive). firsts text_eq c.loop-directive.names.keys (names_at x.what)) c.directive-item.is)
    ∙ (sym (firsts_next text_eq (λ (d : Directive). names_at d.what) c.loop-directive.names.keys c.args.list.now c.loop-directive.directive-index c.directive-item.result (omega (arith, c.loop-directive-test.true))) ∙ c.loop-directive.invariant)
