-- What contracts see of real files: how many reads have ended in each way that is counted. This project's rule.
use Rattle.std.specs.Prelude.{ℕ}

-- how many reads have failed, have found no file, and have found one that is too long
pub record ReadCounts : Type 0 where
  pub faults : ℕ
  pub missing : ℕ
  pub long : ℕ

-- before the first read
abbrev pub no_reads : ReadCounts
no_reads = record { faults = 0; missing = 0; long = 0 }
