use Rattle.std.proofs.Common.{inl, inr, refl, ◌∙◌, subst, arith}
use Rattle.std.specs.Prelude.{Contains}
use Rattle.std.proofs.lemmas.Bool.{cases_eq}
use Rattle.log_check.proofs.Resolvents.{contains_nothing}
use Rattle.sat_log.proofs.Keeping.{learned, learn_codes}
use Rattle.sat_log.proofs.visiting.Watched.learn.Goals as goal

pub add_both-requires-clause-first : goal.add_both-requires-clause-first
add_both-requires-clause-first c = (learn_codes _ _ _ _ _ c.requires.2).0

pub add_both-requires-clause-second : goal.add_both-requires-clause-second
add_both-requires-clause-second c = (learn_codes _ _ _ _ _ c.requires.2).1

pub returns-clause-learned : goal.returns-clause-learned
returns-clause-learned c = λ n ms l.
    let added = rw c.len.ensures at c.add.ensures.added in
    let only = rw c.len.ensures at c.add.ensures.only in
    learned n c.args.self.now _ ms _ _ l refl c.add_both.ensures.watched c.add_both.ensures.slots c.add_both.ensures.heads c.add_both.ensures.linked (c.add.ensures.room ∙ c.clear.ensures.room) refl added (λ k i. elim (cases_eq k _) [
      | inl e ↦ e
      | inr other ↦ absurd (contains_nothing k (subst (λ t. Contains t k) c.clear.ensures.list (only k i other)))
    ])
