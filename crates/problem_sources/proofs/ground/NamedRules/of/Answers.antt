use Rattle.std.proofs.Common.{◌∙◌, ap, [], arith}
use Rattle.ut_text.specs.Text.{text_eq, text_equiv}
use Rattle.cpp_blocks.specs.Mentions.{firsts}
use Rattle.problem_sources.proofs.FirstsLaws.{firsts_apart}
use Rattle.problem_sources.proofs.ground.NamedRules.of.Goals as goal

pub invariant_of-result : goal.invariant_of-result
invariant_of-result c = record {
  rules = c.requires;
  same = c.in_ok-names.ensures ∙ (ap (firsts text_eq []) c.as_slice.ensures ∙ firsts_apart text_eq text_equiv.symm c.args.rules.names c.requires.apart);
  few = omega arith;
}
