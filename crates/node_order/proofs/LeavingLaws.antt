-- Turns of the search: each takes one away, or meets a node and leaves no more than that node's work.
use Rattle.std.proofs.Common.{◌≡◌, ℕ, ◌+◌, ◌<◌, List, [], ◌∷◌, ◌++◌, length, get_or, set, map, subst, sym, ap, ◌∙◌, arith}
use Rattle.std.specs.Prelude.{All}
use Rattle.std.proofs.lemmas.List.{length-set, length-map, length-append}
use Rattle.std.proofs.lemmas.List.Elements.{All-push, All-append, All-map}
use Rattle.node_order.specs.declared.search.Mark.{Mark}
use Rattle.node_order.specs.declared.search.Mark.TheVariants.{New, Open}
use Rattle.node_order.specs.declared.leaving.Turn.{Turn}
use Rattle.node_order.specs.declared.leaving.Turn.TheVariants.{Comes, Leaves}
use Rattle.node_order.specs.declared.leaving.Leaving.{Leaving}
use Rattle.node_order.specs.Graph.{refers_of}
use Rattle.node_order.specs.Searching.{new_work, weight}
use Rattle.node_order.specs.Leaving.{node_in, IsLeaving, TakesTurn, turns_left}
use Rattle.node_order.proofs.StepLaws.{new_work-set}

-- nothing changes
pub met_again : (g : List (List ℕ)) (old new : Leaving) → IsLeaving g old → old ≡ new → TakesTurn g old new
met_again g old new s e = subst (λ (x : Leaving). TakesTurn g old x) e (record { leaving = s; fewer = omega arith })

-- one node more is left
pub left_more : (g : List (List ℕ)) (old new : Leaving) (node : ℕ) → IsLeaving g old → node < length g → new.marks.items ≡ old.marks.items → new.turns.items ≡ old.turns.items → new.left.items ≡ old.left.items ++ node ∷ [] → TakesTurn g old new
left_more g old new node s l m t e = record {
  leaving = record { count = ap length m ∙ s.count; turns = rw t s.turns; left = rw e (All-push (λ (a : ℕ). a < length g) old.left.items node s.left l) };
  fewer = rw (m, t) (omega arith);
}

-- a node is met
pub met_first : (g : List (List ℕ)) (old new : Leaving) (node : ℕ) (nodes : List ℕ) → IsLeaving g old → node < length g → get_or old.marks.items node New ≡ New → nodes ≡ refers_of g node → All (λ a. a < length g) nodes
    → new.marks.items ≡ set old.marks.items node Open → new.turns.items ≡ (old.turns.items ++ Leaves node ∷ []) ++ map Comes nodes → new.left.items ≡ old.left.items → TakesTurn g old new
met_first g old new node nodes s l n r within m t e = record {
  leaving = record {
    count = ap length m ∙ (length-set old.marks.items node Open ∙ s.count);
    turns = rw t (All-append (λ (x : Turn). node_in x < length g) (old.turns.items ++ Leaves node ∷ []) (map Comes nodes) (All-push (λ (x : Turn). node_in x < length g) old.turns.items (Leaves node) s.turns l) (All-map (λ (x : Turn). node_in x < length g) Comes nodes within));
    left = rw e s.left;
  };
  fewer = rw (m, t) fewer;
}
  where
    work : new_work (set old.marks.items node Open) g + (length (refers_of g node) + 2) ≡ new_work old.marks.items g + 0
    work = subst (λ (k : Mark). new_work (set old.marks.items node Open) g + weight k (refers_of g node) ≡ new_work old.marks.items g + 0) n (new_work-set old.marks.items g node Open s.count (omega (arith, l, s.count)))

    added : length ((old.turns.items ++ Leaves node ∷ []) ++ map Comes nodes) ≡ length old.turns.items + 1 + length (refers_of g node)
    added = length-append (old.turns.items ++ Leaves node ∷ []) (map Comes nodes) ∙ (λ i. length-append old.turns.items (Leaves node ∷ []) i + (length-map nodes Comes ∙ ap length r) i)

    fewer : new_work (set old.marks.items node Open) g + length ((old.turns.items ++ Leaves node ∷ []) ++ map Comes nodes) < turns_left g old + 1
    fewer = omega (arith, work, added)
