use Rattle.kbuild_text.specs.declared.listings.Listing.{Listing}
use Rattle.kbuild_cond.specs.Files.{goal_ways, own_of}
use Rattle.kbuild_cond.proofs.AddingLaws.{ways_done, ways_more}
use Rattle.kbuild_cond.proofs.files.own_objects.Goals as goal

pub loop-listing-preserved : goal.loop-listing-preserved
loop-listing-preserved c =
    let ways = (λ (listing : Listing). goal_ways c.args.place.base.now c.args.place.folder.now listing.role listing) in
    ways_more ways c.args.listings.now c.loop-listing.listing-index c.listing-item.result c.loop-listing-test.true c.listing-item.is c.loop-listing.own.files c.add_goals.new.own.files
    (own_of c.args.place.base.now c.args.place.folder.now c.args.listings.now) c.in_ok-add_goals.ensures c.loop-listing.invariant

pub returns : goal.returns
returns c =
    let ways = (λ (listing : Listing). goal_ways c.args.place.base.now c.args.place.folder.now listing.role listing) in
    ways_done ways c.args.listings.now c.loop-listing.listing-index c.loop-listing.own.files (own_of c.args.place.base.now c.args.place.folder.now c.args.listings.now) c.loop-listing-test.false
    c.loop-listing.invariant
