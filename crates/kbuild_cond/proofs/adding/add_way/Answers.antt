use Rattle.kbuild_cond.proofs.AddingLaws.{way_added, way_lacks, way_over}
use Rattle.kbuild_cond.proofs.adding.add_way.Goals as goal

pub returns-in_err-count : goal.returns-in_err-count
returns-in_err-count c = way_lacks c.args.object.now c.args.path c.args.files.now c.add.new.self c.from_residual.result c.from_residual.ensures.1

pub returns-then-are_too_many : goal.returns-then-are_too_many
returns-then-are_too_many c =
    way_over c.args.object.now c.args.path c.args.files.now c.add.new.self c.add.new.self c.in_ok-count.count c.are_too_many.result c.too_many.result c.too_many.ensures
    c.in_ok-count.ensures.added c.in_ok-count.ensures.count c.are_too_many.ensures c.if-are_too_many.true

pub returns : goal.returns
returns c =
    way_added c.args.object.now c.args.path c.args.files.now c.add.new.self c.in_ok-count.count c.are_too_many.result c.in_ok-count.ensures.added c.in_ok-count.ensures.count
    c.are_too_many.ensures c.if-are_too_many.false
