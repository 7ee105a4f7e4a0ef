use Rattle.std.proofs.Common.{◌≡◌, ◌∙◌, ◌<◌, ℕ, List, true, ap, sym, subst}
use Rattle.kconf_tree.specs.declared.shape.Choice.{Choice}
use Rattle.kconf_tree.specs.Shape.{choice_at}
use Rattle.complete_conf.specs.Config.{by_lists}
use Rattle.complete_conf.specs.Free.{free_mode, candidate_of, picked_at, picked_of}
use Rattle.kconf_tree.specs.WellMade.{is_among}
use Rattle.complete_conf.specs.Inner.{with_free_mode, with_picked}
use Rattle.complete_conf.specs.Parts.{part_of}
use Rattle.kconf_tree.proofs.MadeLaws.{member_within}
use Rattle.complete_conf.proofs.completing.complete_choice.Goals as goal

pub returns-clause-value : goal.returns-clause-value
returns-clause-value c = λ made. let t = c.args.tree.now.shape in let conf = by_lists c.args.config.now in let i = c.args.choice in let p = part_of c.args.known.now in
    let first : by_lists c.complete_mode.new.config ≡ with_free_mode p conf i (free_mode t conf i) = c.complete_mode.ensures.value ∙ ap (with_free_mode p conf i) c.free_mode-mode.ensures in
    let pick : c.picked_in-picked.result ≡ picked_of t conf i = c.picked_in-picked.ensures ∙ ap (λ m. picked_at m (candidate_of t conf i)) c.free_mode-mode.ensures in
    let ms : c.as_slice.result.now ≡ (choice_at t i).members = c.as_slice.ensures ∙ ap (λ (x : Choice). x.members) c.choice_at.ensures.value in
    c.complete_members.ensures.value (λ j h. subst (λ (n : ℕ). j < n) (sym (c.complete_mode.ensures.lengths.values ∙ c.requires.fits.values)) (member_within t made i j (subst (λ (xs : List ℕ). is_among xs j ≡ true) ms h)))
    ∙ (λ z. with_picked p (first z) (pick z) (ms z))
