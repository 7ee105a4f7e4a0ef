use Rattle.std.proofs.Common.{◌∙◌, ap}
use Rattle.std.specs.List.{flat_map}
use Rattle.kbuild_text.specs.declared.listings.Listing.{Listing}
use Rattle.kbuild_cond.specs.Files.{own_of, paths_at, text_ways, ways_in}
use Rattle.kbuild_cond.proofs.GoalLaws.{adds_as}
use Rattle.kbuild_cond.proofs.files.add_text.Goals as goal

pub returns : goal.returns
returns c =
    let base = c.args.base.now in
    let folders = c.args.folders.now.files in
    let text = c.args.text.now in
    let own = c.in_ok-own.ensures ∙ (λ i. own_of base (c.as_slice.ensures i) (c.as_slice-3.ensures i)) in
    let fronts = c.as_slice-4.ensures.value ∙ (c.in_ok-fronts.ensures ∙ ap (paths_at folders) c.as_slice-2.ensures) in
    adds_as (flat_map (λ (listing : Listing). ways_in base c.as_slice.result.now c.in_ok-own.own.files c.as_slice-4.result.now listing.role listing) c.as_slice-6.result.now)
    (text_ways base (paths_at folders text.folder) text) c.args.files.now c.add_source.new.files c.add_source.result
    (λ i. flat_map (λ (listing : Listing). ways_in base (c.as_slice.ensures i) (own i) (fronts i) listing.role listing) (c.as_slice-6.ensures i)) c.add_source.ensures
