use Rattle.std.proofs.Common.{ℕ, map, ap, sym, ◌∙◌}
use Rattle.std.proofs.lemmas.Simd.{map-map}
use Rattle.kconf_tree.specs.Shape.{Selecting, implying_of}
use Rattle.kconf_tree.specs.Value.{greatest}
use Rattle.kconf_tree.specs.Properties.{selected_by}
use Rattle.complete_conf.specs.Config.{by_lists}
use Rattle.complete_conf.proofs.selecting.implied.Goals as goal

pub returns : goal.returns
returns c = let t = c.args.tree.now.shape in let f : Selecting → ℕ = selected_by t (by_lists c.args.config.now) in
    c.implied_each.ensures ∙ (ap greatest (sym (map-map f (implying_of t) c.impliers.result.now)) ∙ ap (λ ss. greatest (map f ss)) c.impliers.ensures.value)
