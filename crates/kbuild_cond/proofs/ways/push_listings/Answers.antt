use Rattle.std.proofs.Common.{◌++◌}
use Rattle.std.specs.List.{flat_map}
use Rattle.kbuild_cond.specs.Files.{namings_by}
use Rattle.kbuild_cond.proofs.NamingLaws.{list_done, list_more}
use Rattle.kbuild_cond.proofs.ways.push_listings.Goals as goal

pub loop-listing-preserved : goal.loop-listing-preserved
loop-listing-preserved c =
    let named = namings_by c.args.place.base.now c.args.place.folder.now in
    list_more named c.args.listings.now c.loop-listing.listing-index c.listing-item.result c.loop-listing.namings.items c.push_listing.new.namings.items
    (c.args.namings.now.items ++ flat_map named c.args.listings.now) c.loop-listing-test.true c.listing-item.is c.in_ok-push_listing.ensures c.loop-listing.invariant

pub returns : goal.returns
returns c =
    let named = namings_by c.args.place.base.now c.args.place.folder.now in
    list_done named c.args.listings.now c.loop-listing.listing-index c.loop-listing.namings.items (c.args.namings.now.items ++ flat_map named c.args.listings.now) c.loop-listing-test.false
    c.loop-listing.invariant
