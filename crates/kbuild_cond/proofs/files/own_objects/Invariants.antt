-- The listings that are left lead to the same files as all did.
use Rattle.std.proofs.Common.{◌≡◌, [], drop}
use Rattle.std.specs.List.{flat_map}
use Rattle.kbuild_cond.specs.Files.{goal_ways, with_ways}
use Rattle.kbuild_cond.proofs.files.own_objects.Given as goal

abbrev pub invariant-loop-listing : goal.invariant-loop-listing
invariant-loop-listing l =
    with_ways l.own.files (flat_map (λ listing. goal_ways l.place.base.now l.place.folder.now listing.role listing) (drop l.listing-index l.listings))
    ≡ with_ways [] (flat_map (λ listing. goal_ways l.place.base.now l.place.folder.now listing.role listing) l.listings)
