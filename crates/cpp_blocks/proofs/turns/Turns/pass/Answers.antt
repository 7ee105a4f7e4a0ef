use Rattle.std.proofs.Common.{ℕ, List, ◌++◌, sym, subst}
use Rattle.std.specs.Prelude.{OnOk}
use Rattle.std.proofs.lemmas.Result.{on_ok_weaker}
use Rattle.cpp_directives.specs.declared.directive.What.{What}
use Rattle.cpp_blocks.specs.Counted.{IsCounted}
use Rattle.cpp_blocks.specs.Turns.{touched_at}
use Rattle.cpp_blocks.proofs.TurnLaws.{counted}
use Rattle.cpp_blocks.proofs.turns.Turns.pass.Goals as goal

pub returns-in-Define : goal.returns-in-Define
returns-in-Define c = subst (λ (w : What). OnOk c.count.result ((ts : List (List ℕ)) → IsCounted c.args.self.now ts → IsCounted c.count.new.self (ts ++ touched_at w))) (sym c.in-Define.is)
    (on_ok_weaker c.count.result (counted c.args.self.now c.count.new.self _) c.count.ensures)

pub returns-in-Undef : goal.returns-in-Undef
returns-in-Undef c = subst (λ (w : What). OnOk c.count-in-Undef.result ((ts : List (List ℕ)) → IsCounted c.args.self.now ts → IsCounted c.count-in-Undef.new.self (ts ++ touched_at w))) (sym c.in-Undef.is)
    (on_ok_weaker c.count-in-Undef.result (counted c.args.self.now c.count-in-Undef.new.self _) c.count-in-Undef.ensures)
