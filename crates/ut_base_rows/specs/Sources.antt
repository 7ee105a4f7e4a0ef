-- Sources are read in order, and each has to exist.
use Rattle.std.specs.Prelude.{◌≡◌, List, [], ◌∷◌, ◌++◌, Ok}
use Rattle.ut_text.specs.Bytes.{Bytes}
use Rattle.ut_base.specs.Reading.{Step, ◌>>=◌, says, wanted, each}
use Rattle.ut_base_rows.specs.Errors.{job_errors}
use Rattle.ut_base_rows.specs.declared.bad.JobBad.{JobBad}

-- one more source
abbrev pub one_more : List Bytes → Bytes → Step (List Bytes) JobBad
one_more texts name = wanted job_errors name >>= λ text. says job_errors (λ r. r ≡ Ok (texts ++ text ∷ []))

-- all sources
abbrev pub sources_of : List Bytes → Step (List Bytes) JobBad
sources_of names = each job_errors one_more [] names
