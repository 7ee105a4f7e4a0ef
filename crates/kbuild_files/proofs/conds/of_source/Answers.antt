use Rattle.std.proofs.Common.{◌∙◌, ap, sym}
use Rattle.kbuild_paths.specs.Paths.{Conds}
use Rattle.kbuild_files.specs.Tables.{or_always}
use Rattle.kbuild_files.proofs.SourceLaws.{paths_by, paths_none}
use Rattle.kbuild_files.proofs.conds.of_source.Goals as goal

pub returns-in-Some : goal.returns-in-Some
returns-in-Some c =
    paths_by c.args.conds.now c.as_slice.result.now c.args.source.now c.in-Some.file.now (c.as_slice.ensures.value ∙ ap (λ (v : Conds). v.folder) c.conds.view_is) c.in-Some.ensures
    ∙ sym (ap or_always c.named.ensures)

pub returns-in-None : goal.returns-in-None
returns-in-None c =
    paths_none c.args.conds.now c.as_slice.result.now c.args.source.now (c.as_slice.ensures.value ∙ ap (λ (v : Conds). v.folder) c.conds.view_is) c.in-None.ensures
