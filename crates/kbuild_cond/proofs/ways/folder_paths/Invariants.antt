-- The words that are left lead to the same folders as all did.
use Rattle.std.proofs.Common.{[], drop}
use Rattle.kbuild_cond.specs.Adding.{AddsLeft, IsShorterFirst}
use Rattle.kbuild_cond.specs.Files.{namings, paths_to, root_folder, ways_over}
use Rattle.kbuild_cond.proofs.ways.folder_paths.Given as goal

abbrev pub invariant-loop-naming : goal.invariant-loop-naming
invariant-loop-naming l =
    let ways = ways_over (paths_to l.base l.texts) in
    record {
      order : IsShorterFirst (namings l.base l.texts) l.naming-items;
      left : AddsLeft (ways l.naming-items) (record { folder = []; files = root_folder }) (ways (drop l.naming-index l.naming-items)) l.folders;
    }
