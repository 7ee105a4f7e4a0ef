use Rattle.std.proofs.Common.{◌≡◌, take}
use Rattle.ut_words.specs.Reading.{AreUtf8}
use Rattle.ut_words.proofs.Texts.{texts}
use Rattle.ut_words.proofs.reading.texts_of.Given as goal

abbrev pub invariant-loop-word : goal.invariant-loop-word
invariant-loop-word l = (texts l.texts.items ≡ take l.word-index l.words) × AreUtf8 (texts l.texts.items)
