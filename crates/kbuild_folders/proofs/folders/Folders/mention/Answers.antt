use Rattle.kbuild_folders.proofs.FolderLaws.{mention_more}
use Rattle.kbuild_folders.proofs.folders.Folders.mention.Goals as goal

pub loop-listing-preserved : goal.loop-listing-preserved
loop-listing-preserved c =
    mention_more c.args.place.base.now c.args.place.folder.now c.loop-listing.self c.mention_goals.new.self c.args.listings.now c.loop-listing.listing-index c.listing-item.result
    c.as_slice.result.now _ c.loop-listing-test.true c.listing-item.is c.as_slice.ensures c.in_ok-mention_goals.ensures c.loop-listing.invariant
