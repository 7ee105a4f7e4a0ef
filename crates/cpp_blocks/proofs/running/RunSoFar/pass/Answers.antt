use Rattle.std.proofs.lemmas.Result.{on_ok_weaker}
use Rattle.cpp_blocks.proofs.RunLaws.{steps_if, steps_elif, steps_define, steps_undef}
use Rattle.cpp_blocks.proofs.running.RunSoFar.pass.Goals as goal

pub returns-in_ok-holds_there-in-If : goal.returns-in_ok-holds_there-in-If
returns-in_ok-holds_there-in-If c = on_ok_weaker c.open.result
    (steps_if c.args.place.now c.args.directive.now c.args.self.now c.open.new.self c.in-If.cond c.in_ok-holds_there-in-If.holds_there c.in-If.is c.in_ok-holds_there-in-If.ensures)
    c.open.ensures

pub returns-in_ok-holds_there-in-Elif : goal.returns-in_ok-holds_there-in-Elif
returns-in_ok-holds_there-in-Elif c = on_ok_weaker c.turn.result
    (steps_elif c.args.place.now c.args.directive.now c.args.self.now c.turn.new.self c.in-Elif.cond c.in_ok-holds_there-in-Elif.holds_there c.in-Elif.is c.in_ok-holds_there-in-Elif.ensures)
    c.turn.ensures

pub returns-in-Define : goal.returns-in-Define
returns-in-Define c = on_ok_weaker c.set.result
    (steps_define c.args.place.now c.args.directive.now c.args.self.now c.set.new.self c.in-Define.name c.in-Define.gives c.given-state.result c.in-Define.is (c.given-state.ensures c.args.place.now.blocks.now))
    c.set.ensures

pub returns-in-Undef : goal.returns-in-Undef
returns-in-Undef c = on_ok_weaker c.set-in-Undef.result
    (steps_undef c.args.place.now c.args.directive.now c.args.self.now c.set-in-Undef.new.self c.in-Undef.name c.in-Undef.is)
    c.set-in-Undef.ensures
