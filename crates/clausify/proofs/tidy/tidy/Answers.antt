use Rattle.std.proofs.Common.{◌≡◌, false, ◌++◌, sym, ap, subst, ◌∙◌, List}
use Rattle.std.proofs.lemmas.Bool.{false≢true}
use Rattle.std.specs.List.Sorted.{IsPermutation}
use Rattle.ut_logic.specs.declared.literals.Lit.{Lit}
use Rattle.ut_logic.specs.Clauses.{IsClause}
use Rattle.clausify.specs.Tidy.{IsTidy, has_both_signs}
use Rattle.clausify.proofs.TidyLaws.{tidy_kept, counted_kept, both_kept}
use Rattle.clausify.proofs.tidy.tidy.Goals as goal

pub returns-in_ok-new : goal.returns-in_ok-new
returns-in_ok-new c = let taken = c.in_ok-extend_from_slice.ensures.items ∙ ap (λ (ls : List Lit). ls ++ c.args.lits.now) c.clear.ensures.items in
    let moved = subst (λ (ls : List Lit). IsPermutation ls c.sort_unstable.new.self.items) taken c.sort_unstable.ensures.permutation in
    let proper = subst IsClause c.deref.ensures.value (c.are_ordered.ensures.0 c.if-are_ordered.true) in
    subst (λ (ls : List Lit). (has_both_signs c.args.lits.now ≡ false) × IsTidy c.args.lits.now ls) (sym (c.in_ok-new.ensures ∙ c.deref-then-are_ordered.ensures.value))
    (tidy_kept c.args.lits.now c.sort_unstable.new.self.items c.dedup.new.self.items moved c.dedup.ensures.filtered proper.ordered)

pub returns-else-are_ordered : goal.returns-else-are_ordered
returns-else-are_ordered c = let taken = c.in_ok-extend_from_slice.ensures.items ∙ ap (λ (ls : List Lit). ls ++ c.args.lits.now) c.clear.ensures.items in
    let moved = subst (λ (ls : List Lit). IsPermutation ls c.sort_unstable.new.self.items) taken c.sort_unstable.ensures.permutation in
    both_kept c.args.lits.now c.sort_unstable.new.self.items c.dedup.new.self.items moved c.dedup.ensures.filtered c.sort_unstable.ensures.sorted
    (λ o. false≢true (sym c.if-are_ordered.false ∙ c.are_ordered.ensures.1 (subst IsClause (sym c.deref.ensures.value)
    (record { ordered = o; counted = counted_kept c.args.lits.now c.sort_unstable.new.self.items c.dedup.new.self.items moved c.dedup.ensures.filtered c.requires }))))
