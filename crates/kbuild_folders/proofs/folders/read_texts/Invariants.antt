use Rattle.std.proofs.Common.{◌≡◌, ◌+◌, ◌-◌, ◌^◌, length}
use Rattle.ut_base.specs.Plans.{plan}
use Rattle.ut_base.specs.Reading.{LeadsTo, stand}
use Rattle.kbuild_folders.specs.Errors.{kbuild_errors}
use Rattle.kbuild_folders.specs.Folders.{folders_of, most_folders, rest_plan, texts_plan}
use Rattle.kbuild_folders.proofs.folders.read_texts.Given as goal

abbrev pub invariant-loop-folder : goal.invariant-loop-folder
invariant-loop-folder g l = record {
  leads : LeadsTo (plan kbuild_errors (texts_plan l.root l.base)) (stand g.F.Files l.fn.files) l.fn.meter
      (plan kbuild_errors (rest_plan l.base (most_folders + 1 - length l.texts.reads) l.texts.reads)) (stand g.F.Files l.files) l.meter;
  folders : l.texts.folders ≡ folders_of l.base l.texts.reads;
}

abbrev pub decreases-loop-folder : goal.decreases-loop-folder
decreases-loop-folder g l = 2 ^ 64 - length l.texts.reads
