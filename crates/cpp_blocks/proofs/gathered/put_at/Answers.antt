use Rattle.std.proofs.Common.{Vec, Global, arith}
use Rattle.ut_logic.specs.declared.facts.Fact.{Fact}
use Rattle.cpp_blocks.proofs.GatheredLaws.{put_set, put_past}
use Rattle.cpp_blocks.proofs.gathered.put_at.Goals as goal

pub returns-in_ok-push : goal.returns-in_ok-push
returns-in_ok-push c = put_set (λ (list : Vec Fact Global). list.items) c.args.states.now.items c.args.name c.index_mut-list.result.now c.push.new.self c.args.fact
    (omega (arith, c.if-place-len.true, c.len.ensures, c.args.states.now.ok.0)) c.index_mut-list.ensures.value c.in_ok-push.ensures.items

pub returns-else-place-len : goal.returns-else-place-len
returns-else-place-len c = put_past (λ (list : Vec Fact Global). list.items) c.args.states.now.items c.args.name c.args.fact (omega (arith, c.if-place-len.false, c.len.ensures, c.args.states.now.ok.0))
