use Rattle.std.proofs.Common.{◌∙◌, refl}
use Rattle.undertaker.proofs.FirstKconfig.LinesLemmas.{first_word}
use Rattle.undertaker.proofs.first_kconfig.lines.split_word.Goals as goal

pub returns-clause-words : goal.returns-clause-words
returns-clause-words c = first_word c.args.text.now ∙ rw (c.split_at.ensures.front, c.split_at.ensures.back, c.word_len.ensures.value) refl
