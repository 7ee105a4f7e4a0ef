use Rattle.std.proofs.Common.{rules, length, subst}
use Rattle.std.proofs.lemmas.Fn.{always_returns_same}
use Rattle.std.proofs.lemmas.List.Sorted.{IsNonDecreasingBy-from_sort_by_key}
use Rattle.kbuild_cond.specs.Adding.{IsShorterFirst}
use Rattle.kbuild_cond.specs.Files.{Naming}
use Rattle.kbuild_cond.proofs.ways.sorted_namings.Goals as goal

pub returns : goal.returns
returns c =
    subst (λ namings. IsShorterFirst namings c.sort_by_key.new.self.items) c.in_ok-namings.ensures
    (record {
      same = c.sort_by_key.ensures.permutation;
      ascending = IsNonDecreasingBy-from_sort_by_key (λ (naming : Naming). length naming.to) _ c.in_ok-sort_by_key.ensures.sorted (λ a r q k. search rules);
      stable = c.sort_by_key.ensures.stable (λ (naming : Naming). length naming.to) (always_returns_same _ _ _ (λ a r q k. search rules));
    })
