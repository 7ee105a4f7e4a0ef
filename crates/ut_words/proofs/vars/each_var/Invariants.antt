use Rattle.ut_words.specs.Values.{is_item, var_of}
use Rattle.ut_words.proofs.OneByOne.{Made}
use Rattle.ut_words.proofs.vars.each_var.Given as goal

abbrev pub invariant-loop-item : goal.invariant-loop-item
invariant-loop-item l = Made is_item var_of l.items l.item-index l.vars.items
