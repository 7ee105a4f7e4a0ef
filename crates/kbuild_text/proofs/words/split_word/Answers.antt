use Rattle.std.proofs.Common.{◌∙◌, ap, ◌∷◌}
use Rattle.std.specs.List.{prefix_len}
use Rattle.kbuild_text.specs.Words.{is_of_word, words_of}
use Rattle.kbuild_text.proofs.WordLaws.{first_word, no_word, rest_shorter, some_marks}
use Rattle.kbuild_text.proofs.words.split_word.Goals as goal

pub returns-then-is_empty-clause-none : goal.returns-then-is_empty-clause-none
returns-then-is_empty-clause-none c = no_word c.args.line.now c.from_word-words.result.now c.from_word-words.ensures.value _ c.is_empty.ensures c.if-is_empty.true

pub returns-clause-some : goal.returns-clause-some
returns-clause-some c =
    rw (c.split_at.ensures.front, c.split_at.ensures.back, c.word_len.ensures.value)
    (first_word c.args.line.now c.from_word-words.result.now c.from_word-words.ensures.value (some_marks c.from_word-words.result.now _ c.is_empty.ensures c.if-is_empty.false))

pub returns-clause-shorter : goal.returns-clause-shorter
returns-clause-shorter c =
    rw (c.split_at.ensures.back, c.word_len.ensures.value)
    (rest_shorter c.args.line.now c.from_word-words.result.now c.from_word-words.ensures.value (some_marks c.from_word-words.result.now _ c.is_empty.ensures c.if-is_empty.false))
