-- The blocks of a run that is under way.
-- This project's own; no contract of a public call rests on it.
use Rattle.std.specs.Prelude.{Bool, not, ◌&&◌, ◌||◌, List, [], ◌∷◌, ◌++◌}
use Rattle.cpp_blocks.specs.declared.run_blocks.RunChain.{RunChain}

-- whether the innermost open block is on, the open chains from the innermost, and for each block so far whether it was on
pub record Stage : Type 0 where
  pub on : Bool
  pub chains : List RunChain
  pub blocks : List Bool

-- the file is begun
abbrev pub begun : Bool → Stage
begun built = record { on = built; chains = []; blocks = built ∷ [] }

-- a chain is opened, whose first group's condition holds or not
abbrev pub opened : Bool → Stage → Stage
opened cond s = record { on = s.on && cond; chains = record { around = s.on; taken = s.on && cond } ∷ s.chains; blocks = s.blocks ++ (s.on && cond) ∷ [] }

-- the next group of the innermost chain is begun
abbrev pub turned : Bool → Stage → List RunChain → Stage
turned cond s [] = s
turned cond s (c ∷ cs) = record {
  on = c.around && (not c.taken && cond);
  chains = record { around = c.around; taken = c.taken || (c.around && cond) } ∷ cs;
  blocks = s.blocks ++ (c.around && (not c.taken && cond)) ∷ [];
}

-- the innermost chain is ended
abbrev pub closed : Stage → List RunChain → Stage
closed s [] = s
closed s (c ∷ cs) = record { on = c.around; chains = cs; blocks = s.blocks }
