use Rattle.std.proofs.Common.{sym, ◌∙◌}
use Rattle.cpp_read.proofs.NestLaws.{nest_reads}
use Rattle.cpp_read.proofs.nest.core.Goals as goal

pub returns-then-is_nest-clause-same : goal.returns-then-is_nest-clause-same
returns-then-is_nest-clause-same c = λ line f r. nest_reads line f c.args.tokens.now c.front_of-front.result.now c.rest_of-rest.result.now c.front_of-middle.result.now c.rest_of-back.result.now _ _ r c.requires
    c.front_of-front.ensures.value c.rest_of-rest.ensures.value c.front_of-middle.ensures.value c.rest_of-back.ensures.value (sym c.is_nest.ensures ∙ c.if-is_nest.true)
