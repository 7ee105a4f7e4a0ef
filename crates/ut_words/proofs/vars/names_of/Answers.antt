use Rattle.std.proofs.Common.{ap, arith, true}
use Rattle.std.specs.List.{before_first}
use Rattle.ut_words.specs.Spelled.{is_sign}
use Rattle.ut_words.proofs.OneByOne.{bytes_of, made_nothing, made_whole, text_more}
use Rattle.ut_words.proofs.vars.names_of.Goals as goal

pub loop-item-init : goal.loop-item-init
loop-item-init c = made_nothing (λ text. true) (before_first is_sign) c.args.items.now (bytes_of c.new-names.result.items) (ap bytes_of c.new-names.ensures.items)

pub loop-item-preserved : goal.loop-item-preserved
loop-item-preserved c =
    text_more (before_first is_sign) c.args.items.now c.loop-item.item-index c.loop-item.names.items c.push.new.self.items c.name_of.result _ (omega arith) c.in_ok-push.ensures.items c.name_of.ensures c.loop-item.invariant

pub returns : goal.returns
returns c = made_whole (λ text. true) (before_first is_sign) c.args.items.now c.loop-item.item-index (bytes_of c.loop-item.names.items) (omega arith) c.loop-item.invariant
