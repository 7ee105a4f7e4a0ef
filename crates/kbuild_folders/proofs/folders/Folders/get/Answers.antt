use Rattle.std.proofs.Common.{◌∙◌, ap, sym, Some}
use Rattle.std.specs.Option.{option_map}
use Rattle.kbuild_folders.proofs.ReadLaws.{get-items}
use Rattle.kbuild_folders.proofs.folders.Folders.get.Goals as goal

pub returns-in-Some : goal.returns-in-Some
returns-in-Some c =
    rw (← c.self.view_is)
    (get-items c.self.inside.set.keys c.args.number ∙ (ap (option_map (λ name. name.items)) (sym c.in-Some.ensures.key) ∙ ap Some (sym c.as_slice.ensures.value)))

pub returns-in-None : goal.returns-in-None
returns-in-None c =
    rw (← c.self.view_is) (get-items c.self.inside.set.keys c.args.number ∙ ap (option_map (λ name. name.items)) (sym c.in-None.ensures.key))
