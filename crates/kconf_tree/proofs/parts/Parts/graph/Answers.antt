use Rattle.std.proofs.Common.{◌≡◌, List, ℕ, sym, ap, ◌∙◌, subst, length, map, arith}
use Rattle.std.proofs.lemmas.List.FromFn.{length-map-range_with_len}
use Rattle.ut_logic.specs.declared.node.Node.{Node}
use Rattle.kconf_tree.specs.Shape.{Shape}
use Rattle.node_order.specs.Graph.{IsGraph}
use Rattle.kconf_tree.specs.References.{node_of}
use Rattle.kconf_tree.specs.Links.{AreRowsBelow}
use Rattle.kconf_tree.specs.Numbering.{each_at, lists_of, place_among, rows_among, symbol_places}
use Rattle.kconf_tree.specs.Orders.{graph_of, nodes_of}
use Rattle.kconf_tree.proofs.GraphOf.{length-nodes, looked_up, graph_is, graph_whole}
use Rattle.kconf_tree.proofs.parts.Parts.graph.Goals as goal

-- the rows that are looked up are the graph
rows_are : (t : Shape) (nodes : List Node) (lists : List (List ℕ)) (places : List ℕ) (rows : List (List ℕ))
    → nodes ≡ nodes_of t → lists ≡ lists_of t (nodes_of t) → AreRowsBelow (length t.symbols) lists
    → places ≡ symbol_places t nodes → rows ≡ map (each_at places) lists → rows ≡ graph_of t
rows_are t nodes lists places rows n l w p r = r ∙ (ap (λ ps. map (each_at ps) lists) p ∙ (looked_up t nodes lists w ∙ ((λ i. rows_among t (n i) (l i)) ∙ graph_is t)))

pub symbol_places-requires : goal.symbol_places-requires
symbol_places-requires c = omega (arith, ap length c.requires.nodes, length-nodes c.args.self.now, c.requires.few)

pub rows_of-requires : goal.rows_of-requires
rows_of-requires c = let t = c.args.self.now in let nodes = c.args.found.now.nodes.keys in
    subst (λ rows. AreRowsBelow (length c.as_slice.result.now) rows) (sym c.as_slice-2.ensures.value)
    (subst (λ n. AreRowsBelow n c.args.found.now.lists.items)
    (sym (ap length (c.as_slice.ensures.value ∙ c.in_ok-places.ensures) ∙ length-map-range_with_len (λ k. place_among nodes (node_of t k)) 0 (length t.symbols))) c.requires.within)

pub of-requires : goal.of-requires
of-requires c = let t = c.args.self.now in let lists = c.args.found.now.lists.items in
    subst IsGraph (sym (rows_are t c.args.found.now.nodes.keys lists c.as_slice.result.now _ c.requires.nodes c.requires.lists c.requires.within (c.as_slice.ensures.value ∙ c.in_ok-places.ensures)
    (c.in_ok-rows.ensures ∙ ap (map (each_at c.as_slice.result.now)) c.as_slice-2.ensures.value)))
    (graph_whole t c.requires.few (subst (AreRowsBelow (length t.symbols)) c.requires.lists c.requires.within))

pub returns : goal.returns
returns c = let t = c.args.self.now in let lists = c.args.found.now.lists.items in
    c.of.ensures ∙ rows_are t c.args.found.now.nodes.keys lists c.as_slice.result.now _ c.requires.nodes c.requires.lists c.requires.within (c.as_slice.ensures.value ∙ c.in_ok-places.ensures)
    (c.in_ok-rows.ensures ∙ ap (map (each_at c.as_slice.result.now)) c.as_slice-2.ensures.value)
