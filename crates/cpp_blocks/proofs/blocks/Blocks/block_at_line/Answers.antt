use Rattle.std.proofs.Common.{◌-◌, [], length, get_or, ap, sym, ◌∙◌, arith}
use Rattle.std.proofs.lemmas.List.{get_or_read}
use Rattle.cpp_blocks.specs.Kept.{inner_from}
use Rattle.cpp_blocks.proofs.NestedLaws.{none_before, last_before, inner_length}
use Rattle.cpp_blocks.proofs.blocks.Blocks.block_at_line.Goals as goal

pub returns-then-count-eq0 : goal.returns-then-count-eq0
returns-then-count-eq0 c = none_before c.args.self.now c.deref.result.now c.args.line c.lines_up_to-count.result (c.deref.ensures.value ∙ c.self.view_is) c.lines_up_to-count.ensures.parts c.if-count-eq0.true

pub index-requires : goal.index-requires
index-requires c = let many = inner_length c.self.inside.list.items 1 [] in
    let is = ap length c.self.invariant.inner_are in
    let all = ap length c.deref.ensures.value in
    let within = c.lines_up_to-count.ensures.within in
    omega (arith, c.self.inside.inner.ok.0)

pub returns : goal.returns
returns c = let many = inner_length c.self.inside.list.items 1 [] in
    let is = ap length c.self.invariant.inner_are in
    let all = ap length c.deref.ensures.value in
    let within = c.lines_up_to-count.ensures.within in
    get_or_read c.self.inside.inner.items (c.lines_up_to-count.result - 1) c.index.result.now (omega arith) c.index.ensures 0
    ∙ (ap (λ xs. get_or xs (c.lines_up_to-count.result - 1) 0) (c.self.invariant.inner_are ∙ ap (λ ds. inner_from 1 [] ds) (sym c.deref.ensures.value))
    ∙ last_before c.args.self.now c.deref.result.now c.args.line c.lines_up_to-count.result (c.deref.ensures.value ∙ c.self.view_is) c.lines_up_to-count.ensures.parts within c.if-count-eq0.false)
