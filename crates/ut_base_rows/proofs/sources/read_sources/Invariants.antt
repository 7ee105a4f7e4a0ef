use Rattle.std.proofs.Common.{drop}
use Rattle.ut_base.specs.Reading.{LeadsTo, each, stand}
use Rattle.ut_base_rows.specs.Errors.{job_errors}
use Rattle.ut_base_rows.specs.Sources.{one_more, sources_of}
use Rattle.ut_base_rows.proofs.sources.read_sources.Given as goal

abbrev pub invariant-loop-name : goal.invariant-loop-name
invariant-loop-name g l =
    LeadsTo (sources_of l.names) (stand g.F.Files l.initial.files) l.initial.meter
    (each job_errors one_more l.texts (drop l.name-index l.names)) (stand g.F.Files l.files) l.meter
