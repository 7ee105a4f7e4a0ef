use Rattle.std.proofs.Common.{◌∙◌, sym, ap}
use Rattle.kbuild_cond.specs.Files.{part_ways, ways_in}
use Rattle.kbuild_cond.proofs.GoalLaws.{adds_as}
use Rattle.kbuild_cond.proofs.files.add_listing.Goals as goal

pub returns-in-Parts : goal.returns-in-Parts
returns-in-Parts c =
    let base = c.args.source.place.base.now in
    let folder = c.args.source.place.folder.now in
    let own = c.args.source.own.now.files in
    let fronts = c.args.source.fronts.now in
    let listing = c.args.listing.now in
    adds_as (part_ways base folder own fronts c.as_slice-in-Parts.result.now listing) (ways_in base folder own fronts listing.role listing) c.args.files.now c.add_parts.new.files c.add_parts.result
    (ap (λ of. part_ways base folder own fronts of listing) c.as_slice-in-Parts.ensures ∙ ap (λ role. ways_in base folder own fronts role listing) (sym c.in-Parts.is)) c.add_parts.ensures
