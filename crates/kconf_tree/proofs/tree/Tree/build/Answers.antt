use Rattle.std.proofs.Common.{◌≡◌, None, sym, ap, subst, ◌∙◌, length}
use Rattle.std.proofs.lemmas.Result.{err_from_is_err_and}
use Rattle.kconf_tree.specs.Shape.{Shape}
use Rattle.kconf_tree.specs.Gathered.{gathered}
use Rattle.kconf_tree.specs.Types.{types_of}
use Rattle.kconf_tree.specs.Limits.{each_past, first_passed}
use Rattle.kconf_tree.specs.Orders.{IsOrder, IsRecursive}
use Rattle.kconf_tree.specs.Built.{IsRefused}
use Rattle.kconf_tree.proofs.BuildLaws.{passed_later, refused_by}
use Rattle.kconf_tree.proofs.OrderNodes.{ordered_here}
use Rattle.kconf_tree.proofs.tree.Tree.build.Goals as goal

pub returns-in-Some-passed-clause-refused : goal.returns-in-Some-passed-clause-refused
returns-in-Some-passed-clause-refused c = let e = c.args.entries in
    let count : c.len.result ≡ length (types_of e.configs) = c.len.ensures ∙ ap length (c.in_ok-types.ensures ∙ ap types_of c.as_slice.ensures) in
    let each : c.passed.result ≡ each_past (gathered e).choices (gathered e).symbols = c.passed.ensures ∙ ap (λ (t : Shape). each_past t.choices t.symbols) c.in_ok-parts.ensures in
    subst (IsRefused e) (sym c.too_many-in-Some-passed.ensures)
    (passed_later e c.past_symbols.result c.len.result c.past_symbols.ensures c.in-None.is count ∙ (sym each ∙ c.in-Some-passed.is))

pub returns-in_err-order-clause-refused : goal.returns-in_err-order-clause-refused
returns-in_err-order-clause-refused c = let e = c.args.entries in
    let count : c.len.result ≡ length (types_of e.configs) = c.len.ensures ∙ ap length (c.in_ok-types.ensures ∙ ap types_of c.as_slice.ensures) in
    let each : c.passed.result ≡ each_past (gathered e).choices (gathered e).symbols = c.passed.ensures ∙ ap (λ (t : Shape). each_past t.choices t.symbols) c.in_ok-parts.ensures in
    let within : first_passed (gathered e) ≡ None = passed_later e c.past_symbols.result c.len.result c.past_symbols.ensures c.in-None.is count ∙ (sym each ∙ c.in-None-passed.is) in
    let p = err_from_is_err_and c.from_residual-in_err-order.result c.from_residual-in_err-order.ensures.1 in
    rw (p.1, p.2) (refused_by e _ within (subst (λ (t : Shape). IsRecursive t c.in_err-order.field-0.0) c.in_ok-parts.ensures c.in_err-order.ensures.cycle))

pub invariant_of-result : goal.invariant_of-result
invariant_of-result c = record {
  links = c.in_ok-links.ensures;
  tree = ordered_here c.args.entries (record { shape = c.in_ok-parts.parts; order = c.in_ok-order.order.items }) c.requires c.in_ok-parts.ensures c.in_ok-order.ensures.order;
}

pub returns-clause-built : goal.returns-clause-built
returns-clause-built c = let e = c.args.entries in
    let count : c.len.result ≡ length (types_of e.configs) = c.len.ensures ∙ ap length (c.in_ok-types.ensures ∙ ap types_of c.as_slice.ensures) in
    let each : c.passed.result ≡ each_past (gathered e).choices (gathered e).symbols = c.passed.ensures ∙ ap (λ (t : Shape). each_past t.choices t.symbols) c.in_ok-parts.ensures in
    record {
      gathered_whole = c.in_ok-parts.ensures;
      within = passed_later e c.past_symbols.result c.len.result c.past_symbols.ensures c.in-None.is count ∙ (sym each ∙ c.in-None-passed.is);
      ordered = subst (λ (t : Shape). IsOrder t c.in_ok-order.order.items) c.in_ok-parts.ensures c.in_ok-order.ensures.order;
    }
