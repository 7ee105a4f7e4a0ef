-- The texts that are left lead to the same files as all did, and no file has too many paths yet.
use Rattle.kbuild_folders.specs.declared.texts.TextRead.{TextRead}
use Rattle.std.proofs.Common.{[], drop}
use Rattle.std.specs.List.{flat_map}
use Rattle.kbuild_cond.specs.Adding.{AddsLeft}
use Rattle.kbuild_cond.specs.Files.{paths_at, text_ways}
use Rattle.kbuild_cond.proofs.files.files_of.Given as goal

abbrev pub invariant-loop-text : goal.invariant-loop-text
invariant-loop-text l =
    let ways = (λ (text : TextRead). text_ways l.base (paths_at l.folders.files text.folder) text) in
    AddsLeft (flat_map ways l.texts) (record { folder = l.base; files = [] }) (flat_map ways (drop l.text-index l.texts)) l.files
