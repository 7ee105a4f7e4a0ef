use Rattle.std.proofs.Common.{◌<◌, ◌≤◌, List, length, drop, ap, subst, sym, ◌∙◌, arith}
use Rattle.std.specs.List.{prefix_len}
use Rattle.cpp_read.specs.declared.token.Token.{Token}
use Rattle.cpp_read.proofs.RowLaws.{row_shorter}
use Rattle.cpp_read.proofs.reader.after_row.Goals as goal

pub returns-clause-len : goal.returns-clause-len
returns-clause-len c = subst (λ (us : List Token). length us < length c.args.tokens.now) (sym (c.rest_of.ensures.value ∙ ap (λ n. drop n c.args.tokens.now) c.requires.count)) (row_shorter c.args.tokens.now c.requires.row)
