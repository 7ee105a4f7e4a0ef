use Rattle.std.proofs.Common.{◌≡◌, ◌<◌, ◌+◌, ℕ, suc, List, ap, sym, subst, ◌∙◌, length, drop, get_or, arith}
use Rattle.std.proofs.lemmas.List.{drop_more}
use Rattle.kconf_entries.specs.declared.entries.SelectOf.{SelectOf}
use Rattle.kconf_tree.specs.declared.shape.Selector.{Selector}
use Rattle.kconf_tree.specs.Shape.{Shape, number_of, symbol_at}
use Rattle.kconf_tree.specs.Links.{AreLinkers}
use Rattle.kconf_tree.specs.Linking.{linked_each, linked_one, list_of, with_one}
use Rattle.kconf_tree.proofs.LinkLaws.{length-one, linkers_with}
use Rattle.kconf_tree.proofs.parts.Parts.link_each.Goals as goal

-- with one more, what is left still gives the whole
one_more : (t : Shape) (j n : ℕ) (list all : List SelectOf) (rows next whole : List (List Selector)) (d : SelectOf)
    → list ≡ all → n < length list → next ≡ with_one rows (number_of t (get_or list n d).target) (record { by = j; nth = n })
    → linked_each t j n rows (drop n all) ≡ whole → linked_each t j (n + 1) next (drop (n + 1) all) ≡ whole
one_more t j n list all rows next whole d e l h w = let up : n + 1 ≡ suc n = omega arith in
    ap (λ rs. linked_each t j (n + 1) rs (drop (n + 1) all)) h
    ∙ (ap (λ y. linked_each t j (n + 1) (linked_one t j n rows y) (drop (n + 1) all)) (ap (λ ys. get_or ys n d) e)
    ∙ (ap (λ m. linked_each t j m (linked_one t j n rows (get_or all n d)) (drop (n + 1) all)) up
    ∙ (ap (linked_each t j n rows) (sym (drop_more all n d (subst (λ (ys : List SelectOf). n < length ys) e l))) ∙ w)))

pub loop-nth-preserved : goal.loop-nth-preserved
loop-nth-preserved c = let t = c.args.self.now in let rows = c.loop-nth.rows.items in let d = c.index-list-nth.result in let x = get_or c.list-list.result.now c.loop-nth.nth d in
    let s : Selector = record { by = c.args.by; nth = c.loop-nth.nth } in record {
      count = ap length c.in_ok-link.ensures ∙ (length-one rows (number_of t x.target) s ∙ c.loop-nth.invariant.count);
      left = one_more t c.args.by c.loop-nth.nth c.list-list.result.now (list_of c.args.link (symbol_at t c.args.by)) rows c.link.new.rows.items _ d
          c.list-list.ensures c.loop-nth-test.true c.in_ok-link.ensures c.loop-nth.invariant.left;
      within = subst (AreLinkers t c.args.link) (sym c.in_ok-link.ensures)
          (linkers_with t c.args.link rows (number_of t x.target) s c.loop-nth.invariant.within
          (c.requires.by, subst (λ (ys : List SelectOf). c.loop-nth.nth < length ys) c.list-list.ensures c.loop-nth-test.true));
    }
