-- The conditions so far and those of the sources that are left are all.
use Rattle.std.proofs.Common.{◌≡◌, ◌++◌, drop, map}
use Rattle.std.specs.List.{flat_map}
use Rattle.ut_text.specs.Text.{text_eq}
use Rattle.cpp_blocks.specs.Mentions.{firsts}
use Rattle.ut_case.specs.Numbering.{basis_outers, source_outers}
use Rattle.problem_sources.specs.Grounds.{basis_of, posed_source}
use Rattle.problem_sources.proofs.numbering.outers_of.Given as goal

abbrev pub invariant-loop-source : goal.invariant-loop-source
invariant-loop-source l = firsts text_eq (basis_outers (basis_of l.ground) ++ l.more.keys) (flat_map source_outers (map (posed_source l.conds) (drop l.source-index l.sources)))
    ≡ firsts text_eq (basis_outers (basis_of l.ground)) (flat_map source_outers (map (posed_source l.conds) l.sources))
