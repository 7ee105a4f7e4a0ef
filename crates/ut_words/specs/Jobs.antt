-- The jobs in one table, as in the manual: the name, and what the job needs. This project's rule.
use Rattle.std.specs.Prelude.{Bool, true, false, ◌&&◌, ◌==◌, not, length, filter, find, map, codes, bytes_eq, Option, List, [], ◌∷◌}
use Rattle.std.specs.List.{list_any}
use Rattle.ut_text.specs.Bytes.{Bytes}
use Rattle.ut_words.specs.declared.order.Job.{Job}
use Rattle.ut_words.specs.declared.order.Job.TheVariants as job
use Rattle.ut_words.specs.Said.{Said, is_given}

-- what a job needs of the words
abbrev pub Need : Type 0
Need = Said → Bool

-- one of these options and no second one
abbrev pub one_of : List Bytes → Need
one_of names said = length (filter (is_given said) names) == 1

-- one of these options or more
abbrev pub some_of : List Bytes → Need
some_of names said = list_any (is_given said) names

-- at least one FILE
abbrev pub a_source : Need
a_source said = not (length said.files == 0)

-- the one need and the other
infixl 15 ◌and◌
abbrev pub ◌and◌ : Need → Need → Need
(need and other) said = need said && other said

-- the texts that a job may read first
abbrev pub grounds : List Bytes
grounds = codes "--kconfig" ∷ codes "--rsf" ∷ codes "-m" ∷ []

-- a row of the table: a job that isn't built yet is unknown
pub record JobRow : Type 0 where
  pub name : Bytes
  pub job : Job
  pub needs : Need
  pub built : Bool

-- a job and what it needs
abbrev pub row : Bytes → Job → Need → JobRow
row name job needs = record { name = name; job = job; needs = needs; built = true }

-- a row that isn't built yet
abbrev pub later : JobRow → JobRow
later row = record row { built = false }

-- the table, job by job
abbrev pub row_of : Job → JobRow
row_of job.Dead = row (codes "dead") job.Dead (one_of grounds and a_source)
row_of job.Coverage = later (row (codes "coverage") job.Coverage (one_of grounds and a_source))
row_of job.Check = later (row (codes "check") job.Check (one_of grounds and a_source and some_of (codes "--report" ∷ [])))
row_of job.Tailor =
    later (row (codes "tailor") job.Tailor (one_of grounds and some_of (codes "--trace" ∷ codes "--white" ∷ codes "--black" ∷ [])))
row_of job.Dumpconf = later (row (codes "dumpconf") job.Dumpconf (one_of (codes "--kconfig" ∷ [])))
row_of job.Model = later (row (codes "model") job.Model (one_of (codes "--kconfig" ∷ codes "--rsf" ∷ [])))
row_of job.Golem = row (codes "golem") job.Golem (some_of (codes "--kbuild" ∷ []))
row_of job.Generate = row (codes "generate") job.Generate (some_of (codes "--size" ∷ []))

-- all rows
abbrev pub jobs : List JobRow
jobs = map row_of (job.Dead ∷ job.Coverage ∷ job.Check ∷ job.Tailor ∷ job.Dumpconf ∷ job.Model ∷ job.Golem ∷ job.Generate ∷ [])

-- the row of a name, if it is built
abbrev pub job_named : List JobRow → Bytes → Option JobRow
job_named rows name = find (λ row. row.built && bytes_eq row.name name) rows
