use Rattle.std.proofs.Common.{ℕ, map, ap, sym, ◌∙◌}
use Rattle.std.proofs.lemmas.Simd.{map-map}
use Rattle.kconf_tree.specs.Shape.{Selecting, selecting_of}
use Rattle.kconf_tree.specs.Value.{greatest}
use Rattle.kconf_tree.specs.Properties.{selected_by}
use Rattle.complete_conf.specs.Config.{by_lists}
use Rattle.complete_conf.proofs.selecting.reverse.Goals as goal

pub returns : goal.returns
returns c = let t = c.args.tree.now.shape in let f : Selecting → ℕ = selected_by t (by_lists c.args.config.now) in
    c.raised.ensures ∙ (ap greatest (sym (map-map f (selecting_of t) c.selectors.result.now)) ∙ ap (λ ss. greatest (map f ss)) c.selectors.ensures.value)
