-- What is left gives the rest.
use Rattle.std.proofs.Common.{◌≡◌, drop, length, replicate, []}
use Rattle.kconf_tree.specs.Linking.{linked_all}
use Rattle.kconf_tree.specs.Links.{AreLinkers}
use Rattle.kconf_tree.proofs.parts.Parts.linked.Given as goal

abbrev pub invariant-loop-sym : goal.invariant-loop-sym
invariant-loop-sym l = record {
  count : length l.rows.items ≡ length l.self.symbols;
  left : linked_all l.self l.link l.sym l.rows.items (drop l.sym l.self.symbols) ≡ linked_all l.self l.link 0 (replicate (length l.self.symbols) []) l.self.symbols;
  within : AreLinkers l.self l.link l.rows.items;
}
