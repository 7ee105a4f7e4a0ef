-- A whole job: the folders, and then the sources.
use Rattle.std.specs.Prelude.{◌≡◌, [], Ok}
use Rattle.ut_base.specs.Plans.{plan}
use Rattle.ut_base.specs.Reading.{Step, ◌>>=◌, says, turned}
use Rattle.ut_base_rows.specs.Errors.{folder_errors, job_bad, job_errors}
use Rattle.ut_base_rows.specs.Folders.{folders_plan}
use Rattle.ut_base_rows.specs.Sources.{sources_of}
use Rattle.ut_base_rows.specs.declared.bad.JobBad.{JobBad}
use Rattle.ut_base_rows.specs.declared.job.Wanted.{Wanted}
use Rattle.ut_base_rows.specs.declared.job.Wholes.{Wholes}

-- what a job reads
abbrev pub wholes_of : Wanted → Step Wholes JobBad
wholes_of wanted = turned job_bad (plan folder_errors (folders_plan [] wanted.folders.items)) >>= λ folders.
    sources_of wanted.sources.items >>= λ sources. says job_errors (λ r. r ≡ Ok (record { folders = folders; sources = sources }))
