use Rattle.std.proofs.Common.{◌∙◌, ap, List, refl}
use Rattle.std.specs.List.{list_any}
use Rattle.undertaker.specs.declared.path.Level.{Level}
use Rattle.undertaker.specs.Wishes.{clash}
use Rattle.undertaker.proofs.LevelLaws.{any_levels}
use Rattle.undertaker.proofs.path.Path.clashes.Goals as goal

pub returns : goal.returns
returns c = rw (c.is_clashing.ensures, c.any_clash.ensures ∙ (ap (λ (ls : List Level). list_any (λ (l : Level). clash c.args.own l.wish) ls) c.deref.ensures.value ∙ any_levels (clash c.args.own) c.self.inside.levels.items c.args.self.now c.self.view_is)) refl
