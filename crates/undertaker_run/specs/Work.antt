-- The whole work of a run: the words, the texts in order, and the job. This project's rule.
use Rattle.std.specs.Prelude.{◌≡◌, ℕ, List, Result, Ok, Err, Option}
use Rattle.ut_text.specs.Bytes.{Bytes}
use Rattle.ut_base.specs.Reading.{Step, ◌>>=◌, says}
use Rattle.ut_base.specs.Settled.{ComesTo}
use Rattle.ut_words.specs.declared.order.Order.{Order}
use Rattle.ut_words.specs.declared.order.UsageKind.{UsageKind}
use Rattle.undertaker_run.specs.Errors.{run_errors}
use Rattle.undertaker_run.specs.Jobs.Golem.{IsGolem}
use Rattle.undertaker_run.specs.Orders.{order_of}
use Rattle.undertaker_run.specs.Texts.{wanted_of, texts_of}
use Rattle.undertaker_run.specs.declared.bad.Bad.{Bad}
use Rattle.undertaker_run.specs.declared.bad.Bad.TheVariants as bad
use Rattle.undertaker_run.specs.declared.texts.Texts.{Texts}

-- what the job makes of the texts; golem is the one that is built
abbrev pub IsDone : Order → Texts → Result Bytes Bad → Type 0
IsDone order texts r = IsGolem texts r

-- words of another form are refused; others have the texts of their order read, and then their job done
abbrev pub work_by : Result Order UsageKind → Step Bytes Bad
work_by (Err kind) = says run_errors (λ r. r ≡ Err (bad.Usage kind))
work_by (Ok order) = texts_of (wanted_of order) >>= λ texts. says run_errors (IsDone order texts)

-- the work that words order
abbrev pub work_of : List Bytes → Step Bytes Bad
work_of words = work_by (order_of words)

-- what a run comes to over these files, where no read fails and memory is at hand: the text, or the first refusal
pub record IsOutcome (files : Bytes → Option Bytes) (words : List Bytes) (outcome : Result Bytes Bad) : Type 0 where
  pub used : ℕ
  pub comes : ComesTo run_errors files (work_of words) 0 used outcome
