use Rattle.std.proofs.Common.{◌∙◌, ap, List, refl}
use Rattle.std.specs.List.{list_any}
use Rattle.undertaker.specs.declared.path.Level.{Level}
use Rattle.undertaker.specs.Wishes.{is_hit}
use Rattle.undertaker.specs.Marks.{is_marked}
use Rattle.undertaker.proofs.LevelLaws.{any_levels}
use Rattle.undertaker.proofs.path.Path.is_hit.Goals as goal

pub returns : goal.returns
returns c = rw (c.is_hit.ensures, c.any_hit.ensures ∙ (ap (λ (ls : List Level). list_any (λ (l : Level). (is_hit (is_marked c.args.marks.now)) l.wish) ls) c.deref.ensures.value ∙ any_levels (is_hit (is_marked c.args.marks.now)) c.self.inside.levels.items c.args.self.now c.self.view_is)) refl
