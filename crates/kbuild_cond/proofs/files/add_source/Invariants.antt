-- The listings that are left lead to the same files as all did.
use Rattle.kbuild_text.specs.declared.listings.Listing.{Listing}
use Rattle.std.proofs.Common.{drop}
use Rattle.std.specs.List.{flat_map}
use Rattle.kbuild_cond.specs.Adding.{AddsLeft}
use Rattle.kbuild_cond.specs.Files.{ways_in}
use Rattle.kbuild_cond.proofs.files.add_source.Given as goal

abbrev pub invariant-loop-listing : goal.invariant-loop-listing
invariant-loop-listing l =
    let ways = (λ (listing : Listing). ways_in l.source.place.base.now l.source.place.folder.now l.source.own.now.files l.source.fronts.now listing.role listing) in
    AddsLeft (flat_map ways l.listings) l.initial.files (flat_map ways (drop l.listing-index l.listings)) l.files
