-- Two pieces are one where their texts and their numbers are. This project's rule.
use Rattle.std.specs.Prelude.{◌≡◌, ◌++◌, Bool, true, false, ◌&&◌, nat_eq, refl}
use Rattle.std.specs.Cmp.{IsEquivalence}
use Rattle.std.specs.Hash as fed
use Rattle.std.proofs.Common.{ap}
use Rattle.std.proofs.lemmas.Bool.{false≢true, eqb-true}
use Rattle.std.proofs.lemmas.Cmp.{and_equiv, on_equiv, nat_eq_equiv}
use Rattle.ut_text.specs.Text.{text_eq, text_equiv, text_eq-exact}
use Rattle.cpp_blocks.specs.declared.pieces.PieceOf.{PieceOf}

-- the same text and the same number
abbrev pub piece_eq : PieceOf → PieceOf → Bool
piece_eq p q = text_eq p.text q.text && nat_eq p.turn q.turn

and_left : (a b : Bool) → (a && b) ≡ true → a ≡ true
and_left true b h = refl
and_left false b h = h

and_right : (a b : Bool) → (a && b) ≡ true → b ≡ true
and_right true b h = h
and_right false b h = absurd (false≢true h)

-- pieces that test equal are one
pub piece_eq-exact : (p q : PieceOf) → piece_eq p q ≡ true → p ≡ q
piece_eq-exact p q h = λ i. record {
  text = text_eq-exact p.text q.text (and_left (text_eq p.text q.text) (nat_eq p.turn q.turn) h) i;
  turn = eqb-true p.turn q.turn (and_right (text_eq p.text q.text) (nat_eq p.turn q.turn) h) i;
}

pub piece_equiv : IsEquivalence piece_eq
piece_equiv = and_equiv (on_equiv (λ p. p.text) text_equiv) (on_equiv (λ p. p.turn) nat_eq_equiv)

-- what a hash table is fed of a piece
abbrev pub piece_input : PieceOf → fed.HashWrites
piece_input p = fed.str p.text ++ fed.u32 p.turn

-- pieces that test equal are fed alike
pub piece_alike : (p q : PieceOf) → piece_eq p q ≡ true → piece_input p ≡ piece_input q
piece_alike p q h = ap piece_input (piece_eq-exact p q h)
