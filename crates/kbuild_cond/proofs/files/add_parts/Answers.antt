use Rattle.std.proofs.Common.{◌∙◌, sym, ap}
use Rattle.kbuild_paths.specs.Paths.{paths_named}
use Rattle.kbuild_folders.specs.Names.{bytes_in}
use Rattle.kbuild_cond.specs.Files.{part_ways}
use Rattle.kbuild_cond.proofs.GoalLaws.{adds_no, parts_none, parts_other}
use Rattle.kbuild_cond.proofs.files.add_parts.Goals as goal

pub returns-in_default : goal.returns-in_default
returns-in_default c =
    adds_no (part_ways c.args.source.place.base.now c.args.source.place.folder.now c.args.source.own.now.files c.args.source.fronts.now c.args.of.now c.args.listing.now) c.args.files.now
    (parts_none c.args.source.place.base.now c.args.source.place.folder.now c.args.source.own.now.files c.args.source.fronts.now c.args.of.now c.args.listing.now
    (sym (ap bytes_in c.in_default.is) ∙ c.in_ok-whole.ensures))

pub returns : goal.returns
returns c =
    adds_no (part_ways c.args.source.place.base.now c.args.source.place.folder.now c.args.source.own.now.files c.args.source.fronts.now c.args.of.now c.args.listing.now) c.args.files.now
    (parts_other c.args.source.place.base.now c.args.source.place.folder.now c.args.source.own.now.files c.args.source.fronts.now c.args.of.now c.args.listing.now c.in-Some.whole.items
    (sym (ap bytes_in c.in-Some.is) ∙ c.in_ok-whole.ensures) (c.in-None.ensures ∙ ap (paths_named c.args.source.own.now.files) c.as_slice.ensures.value))
