use Rattle.std.proofs.Common.{◌∙◌, ◌++◌, ap}
use Rattle.std.specs.List.{flat_map}
use Rattle.std.proofs.lemmas.Result.{on_ok_weaker}
use Rattle.kbuild_cond.proofs.NamingLaws.{goals_flat, naming_in}
use Rattle.kbuild_cond.proofs.ways.push_listing.Goals as goal

pub returns : goal.returns
returns c =
    let base = c.args.place.base.now in
    let folder = c.args.place.folder.now in
    let named = (λ i. flat_map (naming_in base folder (c.as_slice-steps.ensures i)) (c.as_slice.ensures i)) ∙ goals_flat base folder c.args.listing.now.steps c.args.listing.now.goals in
    on_ok_weaker c.push_goals.result (λ h. h ∙ ap (λ l. c.args.namings.now.items ++ l) named) c.push_goals.ensures
