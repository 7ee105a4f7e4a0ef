-- The reader by the rules is one of those that `read` speaks of.
use Rattle.std.proofs.Common.{◌≡◌, true, sym, ◌∙◌}
use Rattle.cpp_read.specs.Conditions.{is_readable}
use Rattle.cpp_read.specs.Condition.{ruled_condition}
use Rattle.cpp_read.proofs.ConditionLaws.{condition_reads}
use Rattle.cpp_read.proofs.reader.read_condition.Goals as goal

pub returns : goal.returns
returns c =
    let ready : is_readable c.args.tokens.now ≡ true = sym c.in_ok-is_readable.ensures ∙ c.if-not-branch.false in
    rw ready (c.read.ensures (ruled_condition c.args.line) (condition_reads c.args.line))
