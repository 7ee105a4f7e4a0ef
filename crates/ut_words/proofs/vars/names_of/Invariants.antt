use Rattle.std.proofs.Common.{true}
use Rattle.std.specs.List.{before_first}
use Rattle.ut_words.specs.Spelled.{is_sign}
use Rattle.ut_words.proofs.OneByOne.{Made, bytes_of}
use Rattle.ut_words.proofs.vars.names_of.Given as goal

abbrev pub invariant-loop-item : goal.invariant-loop-item
invariant-loop-item l = Made (λ text. true) (before_first is_sign) l.items l.item-index (bytes_of l.names.items)
