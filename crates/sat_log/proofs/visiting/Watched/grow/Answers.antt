use Rattle.std.proofs.Common.{refl, arith}
use Rattle.std.proofs.lemmas.Result.{on_ok_weaker}
use Rattle.sat_log.proofs.Keeping.{roomier}
use Rattle.sat_log.proofs.visiting.Watched.grow.Goals as goal

pub returns-in_err-grow-clause-watched : goal.returns-in_err-grow-clause-watched
returns-in_err-grow-clause-watched c = λ n ms a. roomier n c.args.self.now _ ms a refl c.grow.ensures.grown refl (omega arith) refl

pub returns-clause-watched : goal.returns-clause-watched
returns-clause-watched c = λ n ms a. roomier n c.args.self.now _ ms a refl c.grow.ensures.grown refl c.grow-2.ensures.more c.grow-2.ensures.list

pub returns-clause-room : goal.returns-clause-room
returns-clause-room c =
    let a = c.requires.2 in
    on_ok_weaker c.grow-2.result (λ e. omega (arith, e, a.sized.room)) c.grow-2.ensures.ok

pub returns-clause-next_room : goal.returns-clause-next_room
returns-clause-next_room c =
    let a = c.requires.2 in
    on_ok_weaker c.grow-2.result (λ e. omega (arith, c.in_ok-grow.ensures.next, c.grow.ensures.grown.slots, a.linked.room)) c.grow-2.ensures.ok

pub returns-clause-watch_room : goal.returns-clause-watch_room
returns-clause-watch_room c =
    let a = c.requires.2 in
    on_ok_weaker c.grow-2.result (λ e. omega (arith, c.in_ok-grow.ensures.watched, c.grow.ensures.grown.slots, a.linked.watch_room)) c.grow-2.ensures.ok
