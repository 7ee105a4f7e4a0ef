use Rattle.std.proofs.Common.{drop, []}
use Rattle.ut_base.specs.Plans.{plan}
use Rattle.ut_base.specs.Reading.{LeadsTo, stand}
use Rattle.ut_base_rows.specs.Errors.{folder_errors}
use Rattle.ut_base_rows.specs.Folders.{folders_plan}
use Rattle.ut_base_rows.proofs.folder.read_folders.Given as goal

abbrev pub invariant-loop-folder : goal.invariant-loop-folder
invariant-loop-folder g l =
    LeadsTo (plan folder_errors (folders_plan [] l.folders)) (stand g.F.Files l.initial.files) l.initial.meter
    (plan folder_errors (folders_plan l.texts (drop l.folder-index l.folders))) (stand g.F.Files l.files) l.meter
