use Rattle.std.proofs.Common.{◌≡◌, ◌∙◌, ◌<◌, ℕ, List, [], ◌∷◌, None, refl, sym, length, drop, arith, length-drop}
use Rattle.ut_text.specs.Bytes.{Bytes}
use Rattle.kbuild_text.specs.Marks.{after_front}
use Rattle.kbuild_text.specs.declared.marks.Mark.{Mark}
use Rattle.kbuild_text.proofs.marks.after_front.Goals as goal

-- no mark is left for the byte at hand
none_left : (rest : List Mark) (bytes : Bytes) (i : ℕ) → length rest < 1 → i < length bytes → after_front rest (drop i bytes) ≡ None
none_left (m ∷ rest) bytes i none lt = absurd (omega (arith, none))
none_left [] bytes i none lt = by (drop i bytes) (omega (arith, lt, length-drop i bytes))
  where
    by : (s : Bytes) → 0 < length s → after_front [] s ≡ None
    by [] some = absurd (omega (arith, some))
    by (b ∷ s) some = refl

pub returns-in-empty : goal.returns-in-empty
returns-in-empty c = sym (none_left c.loop-byte.rest.now c.args.bytes.now c.loop-byte.byte-index (omega (arith, c.in-empty.len_below)) c.loop-byte-test.true) ∙ c.loop-byte.invariant
