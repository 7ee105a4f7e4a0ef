use Rattle.std.proofs.Common.{◌∙◌, sym}
use Rattle.ut_base.proofs.ReadingLaws.{exit_is}
use Rattle.kbuild_folders.specs.Texts.{makefile_plan}
use Rattle.kbuild_folders.proofs.TextLaws.{lacking, taken_named, taken_unnamed}
use Rattle.kbuild_folders.proofs.texts.read_makefile.Goals as goal

pub returns-in_err-makefile : goal.returns-in_err-makefile
returns-in_err-makefile g c = lacking (makefile_plan c.args.place.base.now c.args.place.folder.now) (exit_is c.from_residual.ensures.1)

pub returns-in-Some : goal.returns-in-Some
returns-in-Some g c = taken_named c.args.place.folder.now _ c.in-Some.makefile (sym c.in-Some.is ∙ c.in_ok-makefile.ensures) c.read_named.ensures

pub returns-in-None : goal.returns-in-None
returns-in-None g c = taken_unnamed c.args.place.folder.now _ (sym c.in-None.is ∙ c.in_ok-makefile.ensures) c.unread.ensures
