-- What is left gives the rest.
use Rattle.std.proofs.Common.{◌≡◌, drop, length}
use Rattle.kconf_tree.specs.Shape.{symbol_at}
use Rattle.kconf_tree.specs.Linking.{linked_each, list_of}
use Rattle.kconf_tree.specs.Links.{AreLinkers}
use Rattle.kconf_tree.proofs.parts.Parts.link_each.Given as goal

abbrev pub invariant-loop-nth : goal.invariant-loop-nth
invariant-loop-nth l = let list = list_of l.fn.link (symbol_at l.self l.by) in record {
  count : length l.rows.items ≡ length l.fn.rows.items;
  left : linked_each l.self l.by l.nth l.rows.items (drop l.nth list) ≡ linked_each l.self l.by 0 l.fn.rows.items list;
  within : AreLinkers l.self l.fn.link l.rows.items;
}
