use Rattle.std.proofs.Common.{◌∙◌, ap, sym, arith, ◌++◌, ◌∷◌, []}
use Rattle.ut_words.specs.Values.{is_item, var_of}
use Rattle.ut_words.proofs.NumberLaws.{none_is, some_is}
use Rattle.ut_words.proofs.OneByOne.{made_nothing, made_more, made_fails, made_all}
use Rattle.ut_words.proofs.vars.each_var.Goals as goal

pub loop-item-init : goal.loop-item-init
loop-item-init c = made_nothing is_item var_of c.args.items.now c.new-vars.result.items c.new-vars.ensures.items

pub returns-in_default : goal.returns-in_default
returns-in_default c =
    made_fails is_item var_of c.args.items.now c.loop-item.item-index c.loop-item.vars.items _ _ (omega arith) (none_is _ _ (sym c.in_default.is ∙ c.in_ok-var.ensures)) c.loop-item.invariant

pub loop-item-preserved : goal.loop-item-preserved
loop-item-preserved c =
    let is = some_is _ _ _ (sym c.in-Some.is ∙ c.in_ok-var.ensures) in
    made_more is_item var_of c.args.items.now c.loop-item.item-index c.loop-item.vars.items c.push.new.self.items _ (omega arith) is.0 (c.in_ok-push.ensures.items ∙ ap (λ x. c.loop-item.vars.items ++ x ∷ []) (sym is.1)) c.loop-item.invariant

pub returns : goal.returns
returns c = made_all is_item var_of c.args.items.now c.loop-item.item-index c.loop-item.vars.items (omega arith) c.loop-item.invariant
