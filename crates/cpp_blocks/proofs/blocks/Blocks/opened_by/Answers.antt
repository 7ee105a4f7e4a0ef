use Rattle.std.proofs.Common.{◌-◌, ◌≤◌, [], length, get_or, ap, sym, subst, ◌∙◌, arith}
use Rattle.std.proofs.lemmas.List.{get_or_read}
use Rattle.cpp_blocks.specs.Blocks.{count_of}
use Rattle.cpp_blocks.specs.Nesting.{opener_of}
use Rattle.cpp_blocks.proofs.NestedLaws.{as_many}
use Rattle.cpp_blocks.proofs.blocks.Blocks.opened_by.Goals as goal

pub index-requires : goal.index-requires
index-requires c = let last : c.args.block ≤ count_of c.self.inside.list.items = subst (λ ds. c.args.block ≤ count_of ds) (sym c.self.view_is) c.requires.last in
    let many = as_many c.self.inside.list.items 0 1 [] in
    let is = ap length c.self.invariant.openers_are in
    omega (arith, c.self.inside.openers.ok.0)

pub returns : goal.returns
returns c = let last : c.args.block ≤ count_of c.self.inside.list.items = subst (λ ds. c.args.block ≤ count_of ds) (sym c.self.view_is) c.requires.last in
    let many = as_many c.self.inside.list.items 0 1 [] in
    let is = ap length c.self.invariant.openers_are in
    get_or_read c.self.inside.openers.items (c.args.block - 1) c.index.result.now (omega arith) c.index.ensures 0
    ∙ (ap (λ xs. get_or xs (c.args.block - 1) 0) c.self.invariant.openers_are ∙ ap (λ ds. opener_of ds c.args.block) c.self.view_is)
