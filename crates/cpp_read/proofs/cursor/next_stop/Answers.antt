use Rattle.std.proofs.Common.{◌≡◌, false, rules, drop, get_or, arith}
use Rattle.cpp_read.specs.Splices.{spliced_bytes}
use Rattle.cpp_read.specs.Stops.{is_stop}
use Rattle.cpp_read.proofs.StopsLemmas.{skips_more}
use Rattle.cpp_read.proofs.cursor.next_stop.Goals as goal

pub loop-at-preserved : goal.loop-at-preserved
loop-at-preserved c =
    let no_stop : is_stop (get_or c.args.bytes.now c.loop-at.at 0) ≡ false = search rules in
    record {
      skips = λ line. skips_more c.args.bytes.now c.loop-at.at line (spliced_bytes c.args.at line (drop c.args.at c.args.bytes.now)) (omega arith) no_stop (c.loop-at.invariant.skips line);
      from = omega arith;
      within = omega arith;
    }
