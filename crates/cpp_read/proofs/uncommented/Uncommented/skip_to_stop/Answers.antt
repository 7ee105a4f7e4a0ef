use Rattle.std.proofs.Common.{◌≡◌, true, ap, length, rules, ◌∙◌, arith}
use Rattle.cpp_read.specs.LineSteps.{after_line, newline_end}
use Rattle.cpp_read.specs.Stops.{is_steady}
use Rattle.cpp_read.proofs.StopsLemmas.{after}
use Rattle.cpp_read.proofs.uncommented.Uncommented.skip_to_stop.Goals as goal

pub returns-then-is_steady-clause-same : goal.returns-then-is_steady-clause-same
returns-then-is_steady-clause-same c =
    let steady : is_steady c.self.inside.mode ≡ true = search rules in
    (after c.self.inside.mode c.self.inside.cursor c.skip_to_stop.new.self steady c.skip_to_stop.ensures).same ∙ ap after_line c.self.view_is

pub returns-then-is_steady-clause-ends : goal.returns-then-is_steady-clause-ends
returns-then-is_steady-clause-ends c =
    let steady : is_steady c.self.inside.mode ≡ true = search rules in
    (after c.self.inside.mode c.self.inside.cursor c.skip_to_stop.new.self steady c.skip_to_stop.ensures).ends ∙ ap newline_end c.self.view_is

pub returns-then-is_steady-clause-shorter : goal.returns-then-is_steady-clause-shorter
returns-then-is_steady-clause-shorter c =
    let steady : is_steady c.self.inside.mode ≡ true = search rules in
    omega (arith, (after c.self.inside.mode c.self.inside.cursor c.skip_to_stop.new.self steady c.skip_to_stop.ensures).shorter, ap length c.self.view_is)
