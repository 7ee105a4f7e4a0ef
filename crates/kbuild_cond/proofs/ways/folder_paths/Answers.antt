use Rattle.kbuild_cond.proofs.OverLaws.{folders_come, folders_on, folders_out}
use Rattle.kbuild_cond.proofs.ways.folder_paths.Goals as goal

pub returns-in_err-add_naming : goal.returns-in_err-add_naming
returns-in_err-add_naming c =
    folders_out c.args.base.now c.args.texts.now c.as_slice-naming-items.result.now c.loop-naming.invariant.order c.loop-naming.naming-index c.loop-naming.folders c.loop-naming.invariant.left
    c.naming-item.result c.loop-naming-test.true c.naming-item.is c.add_naming.new.folders c.in_err-add_naming.field-0.0 c.from_residual-in_err-add_naming.result
    c.from_residual-in_err-add_naming.ensures.1 c.in_err-add_naming.ensures

pub loop-naming-preserved : goal.loop-naming-preserved
loop-naming-preserved c = record {
  order = c.loop-naming.invariant.order;
  left = folders_on c.args.base.now c.args.texts.now c.as_slice-naming-items.result.now c.loop-naming.invariant.order c.loop-naming.naming-index c.loop-naming.folders c.loop-naming.invariant.left
      c.naming-item.result c.loop-naming-test.true c.naming-item.is c.add_naming.new.folders c.in_ok-add_naming.ensures;
}

pub returns : goal.returns
returns c =
    folders_come c.args.base.now c.args.texts.now c.as_slice-naming-items.result.now c.loop-naming.invariant.order c.loop-naming.naming-index c.loop-naming.folders c.loop-naming.invariant.left
    c.loop-naming-test.false
