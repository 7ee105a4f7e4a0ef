use Rattle.std.proofs.Common.{◌≡◌, arith, map, subst, [], IfOk, if◌then◌else◌}
use Rattle.std.proofs.lemmas.Iterator.Consumers.{map_from_collect}
use Rattle.std.proofs.lemmas.Iterator.Splits.{YieldsList-from_str_split}
use Rattle.std.specs.List.{slice_split}
use Rattle.ut_words.specs.Values.{is_comma}
use Rattle.ut_words.proofs.vars.items_of.Goals as goal

pub returns : goal.returns
returns c =
    subst (λ b. IfOk c.collect.result (λ items. map (λ item. item.now) items.items ≡ (if b then [] else slice_split is_comma c.args.text.now))) c.if-is_empty.ensures
    (map_from_collect _ c.collect.ensures.ran (YieldsList-from_str_split 44 c.args.text.now (omega arith) c.split.ensures.text c.split.ensures.has_more c.split.ensures.pattern))
