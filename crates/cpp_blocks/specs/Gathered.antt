-- What the functions that gather facts promise each other.
use Rattle.std.specs.Prelude.{ℕ, zero, suc, List, [], ◌∷◌, ◌++◌, filter}
use Rattle.std.specs.List.{flat_map}
use Rattle.ut_logic.specs.declared.node.Node.{Node}
use Rattle.ut_logic.specs.declared.node.Node.TheVariants as node
use Rattle.ut_logic.specs.declared.facts.Fact.{Fact}
use Rattle.cpp_blocks.specs.declared.starts.StartOf.{StartOf}
use Rattle.cpp_blocks.specs.Facts.{start_fact, is_state}

-- the facts of blocks, and those of each name
pub record Gathered : Type 0 where
  pub blocks : List Fact
  pub states : List (List Fact)

-- the lists, with one more fact in the list at this place
abbrev pub put_at : ℕ → Fact → List (List Fact) → List (List Fact)
put_at n fact [] = []
put_at zero fact (list ∷ lists) = (list ++ fact ∷ []) ∷ lists
put_at (suc n) fact (list ∷ lists) = list ∷ put_at n fact lists

-- the facts, with one more by its node
abbrev pub put_by : Node → Fact → Gathered → Gathered
put_by (node.Block file block) fact g = record g { blocks = g.blocks ++ fact ∷ [] }
put_by (node.State file name turn) fact g = record g { states = put_at name fact g.states }
put_by _ fact g = g

-- the facts, with several more
abbrev pub put_all : Gathered → List Fact → Gathered
put_all g [] = g
put_all g (fact ∷ facts) = put_all (put_by fact.node fact g) facts

-- the facts of each name from this number on, where the lines have these facts
abbrev pub lists_from : ℕ → List Fact → ℕ → List StartOf → List (List Fact)
lists_from file lines name [] = []
lists_from file lines name (start ∷ starts) = (start_fact file name start ∷ filter (λ f. is_state name f.node) lines) ∷ lists_from file lines (suc name) starts

-- all of them
abbrev pub all_gathered : Gathered → List Fact
all_gathered g = g.blocks ++ flat_map (λ list. list) g.states
