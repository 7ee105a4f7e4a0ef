use Rattle.std.proofs.Common.{◌+◌, sym, ap, ◌∙◌, drop, map, arith}
use Rattle.std.specs.List.{flat_map}
use Rattle.ut_text.specs.Text.{text_eq}
use Rattle.cpp_blocks.specs.Mentions.{firsts, names_in}
use Rattle.cpp_blocks.proofs.FirstsLaws.{firsts_map_next}
use Rattle.cpp_blocks.proofs.mentions.+names.Goals as goal

pub add_names_each-loop-part-preserved : goal.add_names_each-loop-part-preserved
add_names_each-loop-part-preserved t c =
    ap (λ ks. firsts text_eq ks (flat_map (λ found. found) (map names_in (drop (c.loop-part.part-index + 1) c.args.list.now)))) (c.in_ok-add_names.ensures ∙ ap (λ x. firsts text_eq c.loop-part.names.keys (names_in x)) c.part-item.is)
    ∙ (sym (firsts_map_next text_eq names_in c.loop-part.names.keys c.args.list.now c.loop-part.part-index c.part-item.result (omega (arith, c.loop-part-test.true))) ∙ c.loop-part.invariant)
