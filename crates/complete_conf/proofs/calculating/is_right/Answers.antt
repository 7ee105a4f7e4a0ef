use Rattle.std.proofs.Common.{◌≡◌, ◌≤◌, ◌∙◌, ℕ, sym, subst}
use Rattle.complete_conf.specs.Config.{by_lists}
use Rattle.kconf_tree.specs.Right.{is_settled, is_right}
use Rattle.complete_conf.proofs.Extremes.{rank_small}
use Rattle.kconf_tree.proofs.RightLaws.{right_by_test, test_by_right}
use Rattle.complete_conf.proofs.calculating.is_right.Goals as goal

pub returns : goal.returns
returns c = let t = c.args.tree.now.shape in let conf = by_lists c.args.config.now in let k = c.args.sym in
    let same : c.settles.result ≡ is_right t conf k = c.settles.ensures ∙ (λ i. is_settled (c.counts_as.ensures i) (c.has_modules.ensures i) (c.visibility.ensures i) (c.reverse.ensures i) (c.default_value.ensures i) (c.value.ensures i)) in (
      λ h. right_by_test t conf k (subst (λ (x : ℕ). x ≤ 2) c.value.ensures (rank_small c.value.result)) (sym same ∙ h),
      λ r. same ∙ test_by_right t conf k (subst (λ (x : ℕ). x ≤ 2) c.visibility.ensures (rank_small c.visibility.result)) (subst (λ (x : ℕ). x ≤ 2) c.reverse.ensures (rank_small c.reverse.result)) (subst (λ (x : ℕ). x ≤ 2) c.default_value.ensures (rank_small c.default_value.result)) r,
    )
