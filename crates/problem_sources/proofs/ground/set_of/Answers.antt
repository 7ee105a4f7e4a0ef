use Rattle.std.proofs.Common.{◌+◌, sym, ap, ◌∙◌, drop, arith}
use Rattle.ut_text.specs.Text.{text_eq}
use Rattle.cpp_blocks.specs.Mentions.{firsts, with_new}
use Rattle.problem_sources.proofs.FirstsLaws.{firsts_one}
use Rattle.problem_sources.proofs.ground.set_of.Goals as goal

pub loop-name-preserved : goal.loop-name-preserved
loop-name-preserved c = let xs = c.args.names.now in let i = c.loop-name.name-index in
    ap (λ ks. firsts text_eq ks (drop (i + 1) xs)) (c.in_ok-insert.ensures.keys ∙ ap (with_new text_eq c.loop-name.set.keys) (c.in_ok-copy.ensures ∙ c.name-item.is))
    ∙ (sym (firsts_one text_eq c.loop-name.set.keys xs i c.name-item.result (omega (arith, c.loop-name-test.true))) ∙ c.loop-name.invariant)
