use Rattle.kbuild_text.specs.declared.listings.Listing.{Listing}
use Rattle.std.specs.List.{flat_map}
use Rattle.kbuild_cond.specs.Files.{ways_in}
use Rattle.kbuild_cond.proofs.AddingLaws.{item_on, item_out, items_end}
use Rattle.kbuild_cond.proofs.files.add_source.Goals as goal

pub returns-in_err-add_listing : goal.returns-in_err-add_listing
returns-in_err-add_listing c =
    let ways = (λ (listing : Listing). ways_in c.args.source.place.base.now c.args.source.place.folder.now c.args.source.own.now.files c.args.source.fronts.now listing.role listing) in
    item_out ways c.args.listings.now c.loop-listing.listing-index (flat_map ways c.args.listings.now) c.args.files.now c.loop-listing.files c.listing-item.result c.loop-listing-test.true c.listing-item.is c.add_listing.new.files c.add_listing.new.files
    c.in_err-add_listing.field-0.0 c.from_residual.result c.from_residual.ensures.1 c.loop-listing.invariant c.in_err-add_listing.ensures

pub loop-listing-preserved : goal.loop-listing-preserved
loop-listing-preserved c =
    let ways = (λ (listing : Listing). ways_in c.args.source.place.base.now c.args.source.place.folder.now c.args.source.own.now.files c.args.source.fronts.now listing.role listing) in
    item_on ways c.args.listings.now c.loop-listing.listing-index (flat_map ways c.args.listings.now) c.args.files.now c.loop-listing.files c.listing-item.result c.loop-listing-test.true c.listing-item.is c.add_listing.new.files c.loop-listing.invariant c.in_ok-add_listing.ensures

pub returns : goal.returns
returns c =
    let ways = (λ (listing : Listing). ways_in c.args.source.place.base.now c.args.source.place.folder.now c.args.source.own.now.files c.args.source.fronts.now listing.role listing) in
    items_end ways c.args.listings.now c.loop-listing.listing-index (flat_map ways c.args.listings.now) c.args.files.now c.loop-listing.files c.loop-listing-test.false c.loop-listing.invariant
