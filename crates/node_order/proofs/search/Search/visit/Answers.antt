use Rattle.std.proofs.Common.{List, reverse, sym, subst, ◌∙◌}
use Rattle.std.proofs.lemmas.List.{nil_from_length, append-nil}
use Rattle.node_order.specs.declared.search.Visit.{Visit}
use Rattle.node_order.specs.Searching.{IsSearch}
use Rattle.node_order.proofs.StepLaws.{visits}
use Rattle.node_order.proofs.search.Search.visit.Goals as goal

pub returns : goal.returns
returns c =
    visits _ _ c.args.self.now (record { marks = c.loop-top.self.marks; path = c.pop.new.self; order = c.loop-top.self.order }) c.requires.search
    (subst (λ (t : List Visit). IsSearch c.args.graph.now c.loop-top.self.marks.items (reverse t) c.loop-top.self.order.items) (c.in_default.ensures.items ∙ append-nil _) c.loop-top.invariant.search)
    (nil_from_length _ (sym c.pop.new.self.ok.0 ∙ c.in_default.ensures.cases.1)) c.loop-top.invariant.met c.loop-top.invariant.kept
