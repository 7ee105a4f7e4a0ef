-- The four ways in which a run ends: its status, what the output took, and the one line on the error output. This
-- project's rule.
use Rattle.std.specs.Prelude.{◌≡◌, ◌⊎◌, ℕ, ◌++◌, [], ◌∷◌, Option, Result, Ok, Err, codes}
use Rattle.ut_text.specs.Bytes.{Bytes, newline}
use Rattle.ut_base.specs.Outside.{Rose, with_more}
use Rattle.ut_base.specs.declared.outside.Sink.{Ghosts}
use Rattle.undertaker_run.specs.Refusals.{line_of, status_of}
use Rattle.undertaker_run.specs.declared.bad.Bad.{Bad}
use Rattle.undertaker_run.specs.declared.status.Status.{Status}
use Rattle.undertaker_run.specs.declared.status.Status.TheVariants as status

-- what a sink shows at one time: the bytes that it took, where that is known, and its count of faults
pub record SinkStand : Type 0 where
  pub taken : Option Bytes
  pub faults : ℕ

-- what a sink of a type shows, by its trait
abbrev pub sink_stand : {S : Type 0} → Ghosts S → S → SinkStand
sink_stand shows s = record { taken = shows.taken s; faults = shows.faults s }

-- the output and the error output
pub record Sinks : Type 0 where
  pub out : SinkStand
  pub err : SinkStand

abbrev pub sinks : {O E : Type 0} → Ghosts O → Ghosts E → O → E → Sinks
sinks shows_out shows_err out err = record { out = sink_stand shows_out out; err = sink_stand shows_err err }

-- a sink took the bytes, or a part of them from the front where a fault was counted
pub record Says (bytes : Bytes) (old new : SinkStand) : Type 0 where
  pub part : Bytes
  pub rest : Bytes
  pub whole : bytes ≡ part ++ rest
  pub took : new.taken ≡ with_more old.taken part
  pub faulted : (rest ≡ []) ⊎ Rose old.faults new.faults

-- the same of a line with its newline
abbrev pub SaysLine : Bytes → SinkStand → SinkStand → Type 0
SaysLine line old new = Says (line ++ newline ∷ []) old new

-- a sink took a part of a text from the front, and a fault was counted
pub record TakesPart (text : Bytes) (old new : SinkStand) : Type 0 where
  pub part : Bytes
  pub rest : Bytes
  pub whole : text ≡ part ++ rest
  pub took : new.taken ≡ with_more old.taken part
  pub faulted : Rose old.faults new.faults

-- how a run ends that comes to a text or to a refusal: the text is written; it is written up to a fault; the refusal is
-- reported; or there was no memory for its line
pub data Ends (ending : Result Bytes Bad) (old new : Sinks) (s : Status) : Type 0 where
  Wrote : (text : Bytes) → ending ≡ Ok text → s ≡ status.Well → new.out.taken ≡ with_more old.out.taken text → new.err.taken ≡ old.err.taken
      → Ends ending old new s
  BrokeOff : (text : Bytes) → ending ≡ Ok text → s ≡ status.WriteFault → TakesPart text old.out new.out → SaysLine (codes "output: write fault") old.err new.err
      → Ends ending old new s
  Refused : (e : Bad) → ending ≡ Err e → s ≡ status_of e → new.out.taken ≡ old.out.taken → SaysLine (line_of e) old.err new.err
      → Ends ending old new s
  Lacked : (e : Bad) → ending ≡ Err e → s ≡ status.Memory → new.out.taken ≡ old.out.taken → SaysLine (codes "memory") old.err new.err
      → Ends ending old new s

-- the status of a run that comes to this, but for want of memory
abbrev pub Closes : Result Bytes Bad → Status → Type 0
Closes (Ok text) s = (s ≡ status.Well) ⊎ (s ≡ status.WriteFault)
Closes (Err e) s = s ≡ status_of e
