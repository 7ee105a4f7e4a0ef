-- What is left to add leads to the same words.
use Rattle.std.proofs.Common.{◌≡◌, ◌++◌, drop}
use Rattle.std.specs.List.{flat_map}
use Rattle.kbuild_cond.specs.Files.{namings, namings_of}
use Rattle.kbuild_cond.proofs.ways.all_namings.Given as goal

abbrev pub invariant-loop-text : goal.invariant-loop-text
invariant-loop-text l = l.namings.items ++ flat_map (namings_of l.base) (drop l.text-index l.texts) ≡ namings l.base l.texts
