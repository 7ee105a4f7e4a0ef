use Rattle.std.proofs.Common.{[], ◌≤◌, sym, ap, ◌∙◌, subst}
use Rattle.cpp_directives.proofs.ChainLaws.{few_blocks}
use Rattle.cpp_blocks.specs.Mentions.{names_of}
use Rattle.cpp_blocks.specs.Nested.{nothing, all_passed}
use Rattle.cpp_blocks.specs.Turns.{pieces_of}
use Rattle.cpp_blocks.proofs.NestedLaws.{all_parents, all_openers, all_inner, as_many_blocks}
use Rattle.cpp_blocks.proofs.blocks.Blocks.build.Goals as goal

pub invariant_of-result : goal.invariant_of-result
invariant_of-result c =
    let ds = c.args.list.items in
    let is = c.parents.view_is ∙ (c.in_ok-parents.ensures ∙ ap (λ xs. all_passed 0 xs nothing) c.deref.ensures.value) in record {
      formed = c.requires;
      few = subst (λ n. n ≤ 65535) (sym (as_many_blocks ds 1 [])) (few_blocks ds c.requires);
      parents_are = ap (λ n. n.parents) is ∙ all_parents ds 0 nothing;
      openers_are = ap (λ n. n.openers) is ∙ all_openers ds 0 nothing;
      inner_are = ap (λ n. n.inner) is ∙ all_inner ds 0 nothing;
      names_are = c.in_ok-names.ensures ∙ ap names_of c.deref-2.ensures.value;
      pieces_are = c.in_ok-pieces.ensures ∙ ap pieces_of c.deref-3.ensures.value;
    }
