use Rattle.std.proofs.Common.{◌∙◌, sym}
use Rattle.ut_base.proofs.ReadingLaws.{exit_is}
use Rattle.kbuild_folders.specs.Texts.{folder_plan}
use Rattle.kbuild_folders.proofs.TextLaws.{asked_named, asked_unnamed, lacking}
use Rattle.kbuild_folders.proofs.texts.read_folder.Goals as goal

pub returns-in_err-kbuild : goal.returns-in_err-kbuild
returns-in_err-kbuild g c = lacking (folder_plan c.args.place.base.now c.args.place.folder.now) (exit_is c.from_residual.ensures.1)

pub returns-in-Some : goal.returns-in-Some
returns-in-Some g c = asked_named c.args.place.base.now c.args.place.folder.now _ c.in-Some.kbuild (sym c.in-Some.is ∙ c.in_ok-kbuild.ensures) c.read_kbuild_or.ensures

pub returns-in-None : goal.returns-in-None
returns-in-None g c = asked_unnamed c.args.place.base.now c.args.place.folder.now _ (sym c.in-None.is ∙ c.in_ok-kbuild.ensures) c.unread.ensures
