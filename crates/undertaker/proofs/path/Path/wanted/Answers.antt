use Rattle.std.proofs.Common.{◌&&◌, ◌∙◌, ap, sym, List}
use Rattle.std.proofs.lemmas.Result.{IfOk-weaker}
use Rattle.std.proofs.lemmas.List.Folds.{list_all-append}
use Rattle.std.specs.List.{list_all}
use Rattle.undertaker.specs.declared.path.Level.{Level}
use Rattle.undertaker.specs.Levels.{wishes_of}
use Rattle.undertaker.specs.Wishes.{wanted_symbol, wanted_symbols}
use Rattle.undertaker.proofs.LevelLaws.{wanted_levels}
use Rattle.undertaker.proofs.path.Path.wanted.Goals as goal

pub returns : goal.returns
returns c = IfOk-weaker c.wanted_of.result _ _ (λ v h s. ap (list_all s) h ∙ (list_all-append s (wanted_symbol c.args.own) (wanted_symbols (wishes_of c.deref.result.now))
    ∙ (ap (λ b. list_all s (wanted_symbol c.args.own) && b) (ap (λ (ls : List Level). list_all s (wanted_symbols (wishes_of ls))) c.deref.ensures.value ∙ wanted_levels s c.self.inside.levels.items c.args.self.now c.self.view_is)
    ∙ sym (list_all-append s (wanted_symbol c.args.own) (wanted_symbols c.args.self.now))))) c.wanted_of.ensures
