use Rattle.std.proofs.Common.{◌∙◌, ◌<◌, ap, sym, subst, ℕ, Bool, length, nat_lt, ◌∷◌}
use Rattle.std.specs.List.{list_any, list_all, All}
use Rattle.undertaker.specs.Wishes.{wanted_symbols, is_hit}
use Rattle.undertaker.proofs.JudgingLaws.{wanted_below, all_below, same_least, marks_are}
use Rattle.undertaker.proofs.judging.is_hit.Goals as goal

pub closure-requires-clause-wanted : goal.closure-requires-clause-wanted
closure-requires-clause-wanted c = rw c.deref.ensures.value (all_below (length c.args.graph.now.needs) c.in_ok-wanted.wanted.items
    (c.in_ok-wanted.ensures (λ k. nat_lt k (length c.args.graph.now.needs)) ∙ wanted_below (length c.args.graph.now.needs) (c.args.own ∷ c.args.path.now) c.requires.within))

pub returns-clause-hit : goal.returns-clause-hit
returns-clause-hit c = let found = c.in_ok-found.found.items in let same = c.in_ok-found.ensures.count ∙ c.requires.count in (
  found,
  same_least c.args.graph.now c.deref.result.now (wanted_symbols (c.args.own ∷ c.args.path.now)) found (λ s. ap (list_all s) c.deref.ensures.value ∙ c.in_ok-wanted.ensures s) c.in_ok-found.ensures.least,
  c.is_hit-hit.ensures ∙ ap (λ (s : ℕ → Bool). list_any (is_hit s) (c.args.own ∷ c.args.path.now)) (λ i k. marks_are c.closure.new.marks found c.in_ok-found.ensures.marked
      (subst (λ n. All (λ j. j < n) found) (sym same) c.in_ok-found.ensures.within) k i),
)
