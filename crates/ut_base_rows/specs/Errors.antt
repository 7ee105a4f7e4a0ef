-- The refusals of the worked readers.
use Rattle.ut_base.specs.Reading.{Errors}
use Rattle.ut_base_rows.specs.declared.bad.FolderBad.{FolderBad}
use Rattle.ut_base_rows.specs.declared.bad.FolderBad.TheVariants as folder
use Rattle.ut_base_rows.specs.declared.bad.JobBad.{JobBad}
use Rattle.ut_base_rows.specs.declared.bad.JobBad.TheVariants as job

-- a refusal of a folder for its text
abbrev pub IsOfFolder : FolderBad → Type 0
IsOfFolder (folder.Empty file) = Unit {0}
IsOfFolder (folder.Missing file) = ⊥
IsOfFolder (folder.ReadFault file) = ⊥
IsOfFolder (folder.TooLarge what count) = ⊥
IsOfFolder folder.Oom = ⊥

abbrev pub folder_errors : Errors FolderBad
folder_errors = record {
  missing = folder.Missing;
  fault = folder.ReadFault;
  too_large = folder.TooLarge;
  memory = folder.Oom;
  IsOwn = IsOfFolder;
}

-- a refusal of a job for a text
abbrev pub IsOfJob : JobBad → Type 0
IsOfJob (job.Folder file) = Unit {0}
IsOfJob (job.Missing file) = ⊥
IsOfJob (job.ReadFault file) = ⊥
IsOfJob (job.TooLarge what count) = ⊥
IsOfJob job.Oom = ⊥

abbrev pub job_errors : Errors JobBad
job_errors = record {
  missing = job.Missing;
  fault = job.ReadFault;
  too_large = job.TooLarge;
  memory = job.Oom;
  IsOwn = IsOfJob;
}

-- the job's refusal for that of a folder
abbrev pub job_bad : FolderBad → JobBad
job_bad (folder.Empty file) = job.Folder file
job_bad (folder.Missing file) = job.Missing file
job_bad (folder.ReadFault file) = job.ReadFault file
job_bad (folder.TooLarge what count) = job.TooLarge what count
job_bad folder.Oom = job.Oom
