use Rattle.std.proofs.Common.{◌≡◌, ◌≤◌, ◌∙◌, List, Bool, false, length, ap, arith}
use Rattle.std.proofs.lemmas.List.{length-replicate}
use Rattle.ut_logic.specs.declared.trit.Trit.{Trit}
use Rattle.ut_logic.specs.declared.trit.Trit.TheVariants.{N}
use Rattle.complete_conf.proofs.AllN.{none_is}
use Rattle.complete_conf.proofs.config.Config.none.Goals as goal

pub returns-clause-none : goal.returns-clause-none
returns-clause-none c = none_is (record { values = c.in_ok-values.values; modes = c.in_ok-modes.modes; outers = c.in_ok-outers.outers }) c.symbols.result c.choices.result c.outers.result
    c.in_ok-values.ensures c.in_ok-modes.ensures c.in_ok-outers.ensures

pub returns-clause-fits : goal.returns-clause-fits
returns-clause-fits c = record {
  values = ap (λ (xs : List Trit). length xs) c.in_ok-values.ensures ∙ (length-replicate c.symbols.result N ∙ c.symbols.ensures.count);
  modes = ap (λ (xs : List Trit). length xs) c.in_ok-modes.ensures ∙ (length-replicate c.choices.result N ∙ c.choices.ensures);
  outers = let long = ap (λ (xs : List Bool). length xs) c.in_ok-outers.ensures ∙ (length-replicate c.outers.result false ∙ c.outers.ensures) in omega arith;
}
