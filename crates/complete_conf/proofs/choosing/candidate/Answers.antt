use Rattle.std.proofs.Common.{◌≡◌, ◌∙◌, List, ap, sym}
use Rattle.std.specs.List.{find}
use Rattle.kconf_entries.specs.declared.entries.SelectOf.{SelectOf}
use Rattle.kconf_tree.specs.declared.shape.Choice.{Choice}
use Rattle.kconf_tree.specs.Shape.{choice_at}
use Rattle.complete_conf.specs.Config.{by_lists}
use Rattle.complete_conf.specs.Free.{is_candidate, named_by_defaults}
use Rattle.complete_conf.proofs.Finding.{find_front, find_after}
use Rattle.complete_conf.proofs.choosing.candidate.Goals as goal

pub returns-in-Some : goal.returns-in-Some
returns-in-Some c = let t = c.args.tree.now.shape in let conf = by_lists c.args.config.now in let i = c.args.choice in
    let ds : c.as_slice.result.now ≡ (choice_at t i).defaults = c.as_slice.ensures ∙ ap (λ (x : Choice). x.defaults) c.choice_at-properties.ensures.value in
    sym (find_front (is_candidate t conf i) (named_by_defaults t conf (choice_at t i).defaults) (choice_at t i).members c.in-Some.sym (ap (λ (xs : List SelectOf). find (is_candidate t conf i) (named_by_defaults t conf xs)) (sym ds) ∙ sym c.in-Some.ensures))

pub returns-in-None : goal.returns-in-None
returns-in-None c = let t = c.args.tree.now.shape in let conf = by_lists c.args.config.now in let i = c.args.choice in
    let ds : c.as_slice.result.now ≡ (choice_at t i).defaults = c.as_slice.ensures ∙ ap (λ (x : Choice). x.defaults) c.choice_at-properties.ensures.value in
    let ms : c.as_slice-in-None.result.now ≡ (choice_at t i).members = c.as_slice-in-None.ensures ∙ ap (λ (x : Choice). x.members) c.choice_at-properties.ensures.value in
    c.member_candidate.ensures ∙ (ap (find (is_candidate t conf i)) ms ∙ sym (find_after (is_candidate t conf i) (named_by_defaults t conf (choice_at t i).defaults) (choice_at t i).members (ap (λ (xs : List SelectOf). find (is_candidate t conf i) (named_by_defaults t conf xs)) (sym ds) ∙ sym c.in-None.ensures)))
