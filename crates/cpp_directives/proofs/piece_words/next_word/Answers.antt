use Rattle.std.proofs.Common.{◌∙◌, sym, refl}
use Rattle.cpp_directives.proofs.PieceNamesLaws.{first_word, plain_word}
use Rattle.cpp_directives.proofs.piece_words.next_word.Goals as goal

pub returns-clause-names : goal.returns-clause-names
returns-clause-names c = first_word c.args.text.now (sym c.is_empty.ensures ∙ c.if-is_empty.false) ∙ rw (c.split_at.ensures.front, c.split_at.ensures.back, c.first_len.ensures.value) refl

pub returns-clause-plain : goal.returns-clause-plain
returns-clause-plain c = rw (c.split_at.ensures.front, c.first_len.ensures.value) (plain_word c.args.text.now)
