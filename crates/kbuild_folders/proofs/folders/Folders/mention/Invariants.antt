use Rattle.std.proofs.Common.{◌≡◌, drop}
use Rattle.kbuild_folders.specs.Folders as spec
use Rattle.kbuild_folders.proofs.folders.Folders.mention.Given as goal

abbrev pub invariant-loop-listing : goal.invariant-loop-listing
invariant-loop-listing l =
    spec.with_names l.self (spec.folders_listed l.place.base.now l.place.folder.now (drop l.listing-index l.listings))
    ≡ spec.with_names l.initial.self (spec.folders_listed l.place.base.now l.place.folder.now l.listings)
