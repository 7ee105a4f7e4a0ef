use Rattle.std.proofs.Common.{ℕ, ◌≤◌, List, length, sym, subst, ◌∙◌}
use Rattle.std.proofs.lemmas.Map.Made.{AllPairs-from_IsDistinct}
use Rattle.ut_logic.specs.declared.item.Item.{Item}
use Rattle.ut_logic.specs.ItemIdentity.{item_eq-Decides}
use Rattle.ut_logic.specs.Clauses.{AreWithin}
use Rattle.ut_logic.specs.Variables.{AreDistinct}
use Rattle.clausify.proofs.wish.done.Goals as goal

pub new-requires-clause-each_once : goal.new-requires-clause-each_once
new-requires-clause-each_once c = subst AreDistinct (sym (c.in_ok-list.ensures.items ∙ c.as_slice.ensures.keys)) (AllPairs-from_IsDistinct item_eq-Decides _ c.as_slice.ensures.unique)

pub new-requires-clause-named : goal.new-requires-clause-named
new-requires-clause-named c = subst (λ (n : ℕ). length c.in_ok-list.list.items ≤ n) (sym c.vars.ensures)
    (subst (λ (xs : List Item). length xs ≤ c.args.draft.written.vars) (sym (c.in_ok-list.ensures.items ∙ c.as_slice.ensures.keys)) c.requires.named)

pub new-requires-clause-in_range : goal.new-requires-clause-in_range
new-requires-clause-in_range c = subst (λ (n : ℕ). AreWithin n c.args.draft.clauses.items) (sym c.vars.ensures) c.requires.in_range
