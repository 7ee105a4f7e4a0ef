use Rattle.kbuild_folders.proofs.FolderLaws.{added}
use Rattle.kbuild_folders.proofs.folders.Folders.add.Goals as goal

pub returns : goal.returns
returns c = rw (← c.self.view_is) (added c.self.inside.set.keys c.insert.new.self.keys c.args.name c.in_ok-insert.ensures.keys)
