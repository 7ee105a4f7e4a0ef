-- What is left to add leads to the same words.
use Rattle.std.proofs.Common.{◌≡◌, ◌++◌, drop}
use Rattle.std.specs.List.{flat_map}
use Rattle.kbuild_cond.specs.Files.{namings_by}
use Rattle.kbuild_cond.proofs.ways.push_listings.Given as goal

abbrev pub invariant-loop-listing : goal.invariant-loop-listing
invariant-loop-listing l =
    let named = namings_by l.place.base.now l.place.folder.now in
    l.namings.items ++ flat_map named (drop l.listing-index l.listings) ≡ l.initial.namings.items ++ flat_map named l.listings
