-- The literals and the pairs of a step can be told apart, and from what comes after them.
use Rattle.std.proofs.Common.{◌≡◌, ◌≢◌, true, false, [], ◌++◌, get_or, refl, sym, ap, ◌∙◌, arith}
use Rattle.std.specs.Prelude.{codes}
use Rattle.std.proofs.lemmas.Fmt.{decimal_digit}
use Rattle.ut_text.specs.Bytes.{Bytes}
use Rattle.ut_text.specs.Decimals.{begins_with_digit, IsNumberThen}
use Rattle.ut_text.proofs.DecimalLaws.{number_once}
use Rattle.line_texts.proofs.ListTexts.{AreApart}
use Rattle.ut_logic.specs.declared.literals.Lit.{Lit}
use Rattle.log_check.specs.DerivationText.{literal_text, pair_text, IsVariable, IsPair}
use Rattle.log_check.proofs.PieceLaws.{literal_once, sign_splits, pair_once, pair_is}

-- the word after the literals
abbrev pub EndsLiterals : Bytes → Type 0
EndsLiterals here = (rest : Bytes) × (here ≡ codes "0 via " ++ rest)

-- a literal's variable isn't the 0 of that word
not_word : (l : Lit) (s rest : Bytes) → IsVariable l.var → literal_text l ++ s ≢ codes "0 via " ++ rest
not_word l s rest v e =
    let bytes : Bytes = codes "0 via " ++ rest in
    let parts = sign_splits bytes l true s bytes (record { variable = v; text = sym e }) (refl, λ more m. omega (arith, ap (λ t. get_or t 0 0) m)) in
    let zero : IsNumberThen bytes 0 (codes " via " ++ rest) = record {
      fits = omega arith;
      text = ap (λ d. d ++ (codes " via " ++ rest)) (sym (decimal_digit 0 (omega arith)));
      ends = refl;
    } in
    let same = (number_once bytes l.var 0 _ _ parts.1 zero).0 in
    let some = v.0 in
    omega arith

pub literals_apart : AreApart literal_text (λ (l : Lit). IsVariable l.var) (λ _. Unit {0}) EndsLiterals
literals_apart = record {
  once = λ x y s t v w p q e. literal_once _ x y s t (record { variable = v; text = refl }) (record { variable = w; text = e });
  ended = λ x s t v (rest, e) f. not_word x s rest v (f ∙ e);
  begins = λ x s. tt;
  ends = λ t e. tt;
}

-- nothing comes after the pairs
abbrev pub EndsPairs : Bytes → Type 0
EndsPairs here = here ≡ []

pub pairs_apart : AreApart pair_text IsPair (λ s. begins_with_digit s ≡ false) EndsPairs
pairs_apart = record {
  once = λ x y s t v w p q e. pair_once _ x y s t (record { fits = v; text = refl; ends = p }) (record { fits = w; text = e; ends = q });
  ended = λ x s t v e f. omega (arith, ap (λ u. get_or u 0 0) (sym (pair_is x s) ∙ f ∙ e));
  begins = λ x s. ap begins_with_digit (pair_is x s);
  ends = λ t e. ap begins_with_digit e;
}
