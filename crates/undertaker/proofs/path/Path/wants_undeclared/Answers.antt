use Rattle.std.proofs.Common.{◌∙◌, ap, List, refl}
use Rattle.std.specs.List.{list_any}
use Rattle.undertaker.specs.declared.path.Level.{Level}
use Rattle.undertaker.specs.Wishes.{wants_undeclared}
use Rattle.undertaker.proofs.LevelLaws.{any_levels}
use Rattle.undertaker.proofs.path.Path.wants_undeclared.Goals as goal

pub returns : goal.returns
returns c = rw (c.wants_undeclared.ensures, c.any_undeclared.ensures ∙ (ap (λ (ls : List Level). list_any (λ (l : Level). wants_undeclared l.wish) ls) c.deref.ensures.value ∙ any_levels wants_undeclared c.self.inside.levels.items c.args.self.now c.self.view_is)) refl
