use Rattle.std.specs.Prelude.{Vec}
use Rattle.std.proofs.Common.{List, ℕ}
use Rattle.std.specs.declared.alloc.Global.{Global}
use Rattle.undertaker.specs.Outcome.{outcome_of}
use Rattle.undertaker.specs.Words.{names_in}
use Rattle.undertaker.proofs.RunLemmas.{if_told, refused_writes, refused_ends, refused_tells_one, refused_tells_outcome}
use Rattle.undertaker.proofs.Telling.{told_line}
use Rattle.undertaker.proofs.top.run.Goals as goal

pub returns-in-Err-clause-written : goal.returns-in-Err-clause-written
returns-in-Err-clause-written g c =
    if_told (λ m r. refused_writes _ _ (outcome_of c.args.words.now m) c.in-Err.bad c.refuse.result c.refuse.ensures.status)
    (g.F.Files.held c.args.files.now) c.in-Err.ensures.told

pub returns-in-Err-clause-refusal : goal.returns-in-Err-clause-refusal
returns-in-Err-clause-refusal g c =
    if_told (λ m r. refused_ends (outcome_of c.args.words.now m) c.in-Err.bad c.refuse.result c.refuse.ensures.status r)
    (g.F.Files.held c.args.files.now) c.in-Err.ensures.told

pub returns-in-Err-clause-err : goal.returns-in-Err-clause-err
returns-in-Err-clause-err g c =
    refused_tells_one g.E.Sink.taken g.E.Sink.faults c.args.err.now c.refuse.new.err (Vec (List ℕ) Global) (names_in c.args.words.now) c.in-Err.bad c.refuse.result
    c.refuse.ensures.status c.in-Err.ensures.named c.refuse.ensures.told

pub returns-in-Err-clause-err_told : goal.returns-in-Err-clause-err_told
returns-in-Err-clause-err_told g c =
    if_told (λ m r. refused_tells_outcome g.E.Sink.taken g.E.Sink.faults c.args.err.now c.refuse.new.err (outcome_of c.args.words.now m) c.in-Err.bad c.refuse.result
    c.refuse.ensures.status r c.refuse.ensures.told)
    (g.F.Files.held c.args.files.now) c.in-Err.ensures.told

pub returns-in-Err-clause-first_bad_line : goal.returns-in-Err-clause-first_bad_line
returns-in-Err-clause-first_bad_line g c = told_line c.args.words.now (g.F.Files.held c.args.files.now)

pub returns-clause-first_bad_line : goal.returns-clause-first_bad_line
returns-clause-first_bad_line g c = told_line c.args.words.now (g.F.Files.held c.args.files.now)
