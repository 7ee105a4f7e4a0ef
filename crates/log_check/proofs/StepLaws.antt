-- The parts of a step: what stands at a place is one thing at most.
use Rattle.std.proofs.Common.{◌≡◌, ◌≢◌, ℕ, ltb, suc, ◌+◌, ◌-◌, ◌<◌, true, false, cond, List, [], ◌∷◌, ◌++◌, length, get_or, refl, sym, ap, ◌∙◌, subst, arith, append_assoc, inl, inr}
use Rattle.std.specs.Prelude.{◌↔◌, All, codes, decimal, Contains, Option, None, Some, MatchOption}
use Rattle.std.specs.List.{flat_map}
use Rattle.std.proofs.lemmas.Bool.{cases_lt, ltb-true, lt-ltb}
use Rattle.std.proofs.lemmas.List.{append-nil, append_cancel_left, get_or-append_right, get_or_append_left, length-append}
use Rattle.std.proofs.lemmas.List.Elements.{All-contains, Contains-append_right}
use Rattle.ut_text.specs.Bytes.{Bytes}
use Rattle.ut_text.specs.Decimals.{begins_with_digit, IsNumberThen}
use Rattle.ut_text.proofs.DecimalLaws.{number_once}
use Rattle.line_texts.proofs.ListTexts.{front_of_list, list_once, no_list, follows}
use Rattle.ut_logic.specs.declared.literals.Lit.{Lit}
use Rattle.ut_logic.specs.Clauses.{IsOrdered}
use Rattle.log_check.specs.declared.derivations.PivotOf.{PivotOf}
use Rattle.log_check.specs.declared.derivations.Chain.{Chain}
use Rattle.log_check.specs.declared.derivations.DerivationLine.{DerivationLine}
use Rattle.log_check.specs.DerivationText.{literal_text, pair_text, chain_text, step_text, IsVariable, IsPair, IsStep}
use Rattle.log_check.specs.Reading.{IsLiteralThen, AreLiteralsThen, IsPairThen, ArePairs, IsChain, IsHeadThen, IsBody}
use Rattle.log_check.proofs.PieceLaws.{literal_once, head_once}
use Rattle.log_check.proofs.Apart.{EndsLiterals, EndsPairs, literals_apart, pairs_apart}

-- neither a literal nor the word after the literals stands here
pub no_literals : (start : Bytes) (lits : List Lit) (here : Bytes) → start ≡ flat_map literal_text lits ++ here → All (λ (l : Lit). IsVariable l.var) lits → ((rest : Bytes) → here ≢ codes "0 via " ++ rest) → ((l : Lit) (rest : Bytes) → ¬ IsLiteralThen here l rest) → (c : List Lit) (rest : Bytes) → ¬ AreLiteralsThen start c rest
no_literals start lits here e v other none c rest h =
    no_list literal_text (λ l. IsVariable l.var) (λ _. Unit {0}) EndsLiterals literals_apart start lits here e v tt
    (λ (more, end). other more end) (λ l more w q g. none l more (record { variable = w; text = g })) c (codes "0 via " ++ rest) h.variables (rest, refl) h.text

-- a literal of the front of an ordered list is below the one after the front
front_below : (lits ls : List Lit) (l : Lit) → IsOrdered (lits ++ l ∷ ls) → All (λ (x : Lit). x.var < l.var) lits
front_below lits ls l o k d h =
    let len : length (lits ++ l ∷ ls) ≡ length lits + suc (length ls) = length-append lits (l ∷ ls) in
    let before : get_or (lits ++ l ∷ ls) k d ≡ get_or lits k d = get_or_append_left lits (l ∷ ls) d k h in
    let at : get_or (lits ++ l ∷ ls) (length lits) d ≡ get_or (l ∷ ls) (length lits - length lits) d = get_or-append_right lits (l ∷ ls) (length lits) (length lits) d refl (omega arith) in
    let here : get_or (lits ++ l ∷ ls) (length lits) d ≡ l = at ∙ (let zero : length lits - length lits ≡ 0 = omega arith in ap (λ n. get_or (l ∷ ls) n d) zero) in
    let lt = o k (length lits) d h (omega arith) in
    subst (λ (x : Lit). x.var < l.var) before (subst (λ (x : Lit). (get_or (lits ++ l ∷ ls) k d).var < x.var) here lt)

-- the last literal of an ordered list is above the others
pub above_all : (lits : List Lit) (last : Lit) (x : ℕ) → IsOrdered lits → (0 < length lits) × ((d : Lit) → last ≡ get_or lits (length lits - 1) d) → (ltb last.var x ≡ true) ↔ All (λ (l : Lit). l.var < x) lits
above_all lits last x o (some, at) = (
  λ e k d h. elim (cases_lt k (length lits - 1)) [
    | inl before ↦ omega (arith, o k (length lits - 1) d before (omega arith), ltb-true last.var x e, ap (λ (l : Lit). l.var) (at d))
    | inr end ↦
        let here : k ≡ length lits - 1 = omega arith in
        subst (λ n. (get_or lits n d).var < x) (sym here) (subst (λ (l : Lit). l.var < x) (at d) (ltb-true last.var x e))
  ],
  λ all. lt-ltb last.var x (subst (λ (l : Lit). l.var < x) (sym (at last)) (all (length lits - 1) last (omega arith))),
)

-- the literal that stands here doesn't come after those before it
pub no_order : (start : Bytes) (lits : List Lit) (here next : Bytes) (l : Lit) → start ≡ flat_map literal_text lits ++ here → All (λ (x : Lit). IsVariable x.var) lits → ((rest : Bytes) → here ≢ codes "0 via " ++ rest) → IsLiteralThen here l next → ¬ All (λ (x : Lit). x.var < l.var) lits → (c : List Lit) (rest : Bytes) → ¬ AreLiteralsThen start c rest
no_order start lits here next l e v other found above c rest h = by more.0 more.1 more.2
  where
    more : (more : List Lit) × (c ≡ lits ++ more) × (here ≡ flat_map literal_text more ++ (codes "0 via " ++ rest))
    more = front_of_list literal_text (λ x. IsVariable x.var) (λ _. Unit {0}) EndsLiterals literals_apart lits c here (codes "0 via " ++ rest) v h.variables tt (rest, refl) (sym e ∙ h.text)

    by : (ls : List Lit) → c ≡ lits ++ ls → here ≡ flat_map literal_text ls ++ (codes "0 via " ++ rest) → ⊥
    by [] g t = other rest t
    by (m ∷ ls) g t =
        let mine : IsLiteralThen here m (flat_map literal_text ls ++ (codes "0 via " ++ rest)) = record {
          variable = All-contains (λ (x : Lit). IsVariable x.var) c m h.variables (subst (λ s. Contains s m) (sym g) (Contains-append_right lits (m ∷ ls) m (0, omega arith, refl)));
          text = t ∙ append_assoc (literal_text m) (flat_map literal_text ls) (codes "0 via " ++ rest);
        } in
        let same : m ≡ l = (literal_once here m l _ next mine found).0 in
        above (subst (λ (x : Lit). All (λ (y : Lit). y.var < x.var) lits) same (front_below lits ls m (subst IsOrdered g h.ordered)))

pub literals_once : (bytes : Bytes) (c d : List Lit) (rest more : Bytes) → AreLiteralsThen bytes c rest → AreLiteralsThen bytes d more → (c ≡ d) × (rest ≡ more)
literals_once bytes c d rest more h k =
    let both = list_once literal_text (λ l. IsVariable l.var) (λ _. Unit {0}) EndsLiterals literals_apart c d (codes "0 via " ++ rest) (codes "0 via " ++ more) h.variables k.variables (rest, refl) (more, refl) (sym h.text ∙ k.text) in
    (both.0, append_cancel_left (codes "0 via ") rest more both.1)

-- a literal takes a byte at least
pub literal_shorter : (bytes : Bytes) (l : Lit) (rest : Bytes) → IsLiteralThen bytes l rest → length rest < length bytes
literal_shorter bytes l rest h =
    let front : Bytes = cond l.positive [] (codes "-") ++ decimal l.var in
    let len : length bytes ≡ length front + 1 + length rest = ap length h.text ∙ length-append (literal_text l) rest ∙ ap (λ n. n + length rest) (length-append front (codes " ")) in
    omega arith

-- a pair takes a byte at least
pub pair_shorter : (bytes : Bytes) (p : PivotOf) (rest : Bytes) → IsPairThen bytes p rest → length rest < length bytes
pair_shorter bytes p rest h =
    let len : length bytes ≡ length (pair_text p) + length rest = ap length h.text ∙ length-append (pair_text p) rest in
    let some : length (pair_text p) ≡ length (32 ∷ decimal p.pivot ++ (32 ∷ [])) + length (decimal p.clause) = length-append (32 ∷ decimal p.pivot ++ (32 ∷ [])) (decimal p.clause) in
    omega arith

-- neither a pair nor the end of the step is here
pub no_pairs : (start : Bytes) (pairs : List PivotOf) (here : Bytes) → start ≡ flat_map pair_text pairs ++ here → All IsPair pairs → begins_with_digit here ≡ false → ¬ (here ≡ []) → ((p : PivotOf) (rest : Bytes) → ¬ IsPairThen here p rest) → (ps : List PivotOf) → ¬ ArePairs start ps
no_pairs start pairs here e v q other none ps h =
    no_list pair_text IsPair (λ s. begins_with_digit s ≡ false) EndsPairs pairs_apart start pairs here e v q other
    (λ p rest w r g. none p rest (record { fits = w; text = g; ends = r })) ps [] h.fit refl (h.text ∙ sym (append-nil (flat_map pair_text ps)))

-- the pairs end where the step ends
pub pairs_made : (start : Bytes) (pairs : List PivotOf) (here : Bytes) → start ≡ flat_map pair_text pairs ++ here → All IsPair pairs → here ≡ [] → ArePairs start pairs
pairs_made start pairs here e v end = record {
  fit = v;
  text = e ∙ ap (λ t. flat_map pair_text pairs ++ t) end ∙ append-nil (flat_map pair_text pairs);
}

pairs_once : (bytes : Bytes) (ps qs : List PivotOf) → ArePairs bytes ps → ArePairs bytes qs → ps ≡ qs
pairs_once bytes ps qs h k =
    (list_once pair_text IsPair (λ s. begins_with_digit s ≡ false) EndsPairs pairs_apart ps qs [] [] h.fit k.fit refl refl (ap (λ t. t ++ []) (sym h.text ∙ k.text))).0

-- a chain is a number and pairs
pub chain_splits : (bytes : Bytes) (chain : Chain) → IsChain bytes chain → IsNumberThen bytes chain.first (flat_map pair_text chain.pairs)
chain_splits bytes chain h = record {
  fits = h.first;
  text = h.text;
  ends = subst (λ t. begins_with_digit t ≡ false) (append-nil (flat_map pair_text chain.pairs))
      (follows pair_text IsPair (λ s. begins_with_digit s ≡ false) EndsPairs pairs_apart chain.pairs [] refl);
}

pub chain_pairs : (bytes more : Bytes) (n : ℕ) (chain : Chain) → IsNumberThen bytes n more → IsChain bytes chain → ArePairs more chain.pairs
chain_pairs bytes more n chain found h = record {
  fit = h.fit;
  text = (number_once bytes n chain.first more _ found (chain_splits bytes chain h)).1;
}

pub chain_made : (bytes more : Bytes) (n : ℕ) (pairs : List PivotOf) → IsNumberThen bytes n more → ArePairs more pairs → IsChain bytes (record { first = n; pairs = pairs })
chain_made bytes more n pairs found h = record {
  first = found.fits;
  fit = h.fit;
  text = found.text ∙ ap (λ t. decimal n ++ t) h.text;
}

chain_from : (c d : Chain) → c.first ≡ d.first → c.pairs ≡ d.pairs → c ≡ d
chain_from c d e f = rw (e, f) refl

chain_once : (bytes : Bytes) (c d : Chain) → IsChain bytes c → IsChain bytes d → c ≡ d
chain_once bytes c d h k =
    let firsts = number_once bytes c.first d.first _ _ (chain_splits bytes c h) (chain_splits bytes d k) in
    let mine : ArePairs (flat_map pair_text c.pairs) c.pairs = record { fit = h.fit; text = refl } in
    let other = chain_pairs bytes _ c.first d (chain_splits bytes c h) k in
    chain_from c d firsts.0 (pairs_once _ c.pairs d.pairs mine other)

-- a step after its number is literals and a chain
body_literals : (bytes : Bytes) (line : DerivationLine) → IsBody bytes line → AreLiteralsThen bytes line.result (chain_text line.chain)
body_literals bytes line h = record { ordered = h.printable.ordered; variables = h.printable.variables; text = h.text }

pub body_chain : (bytes more : Bytes) (c : List Lit) (line : DerivationLine) → AreLiteralsThen bytes c more → IsBody bytes line → IsChain more line.chain
body_chain bytes more c line found h = record {
  first = h.printable.first;
  fit = h.printable.pairs;
  text = (literals_once bytes c line.result more _ found (body_literals bytes line h)).1;
}

pub body_made : (bytes more : Bytes) (c : List Lit) (chain : Chain) → AreLiteralsThen bytes c more → IsChain more chain → IsBody bytes (record { result = c; chain = chain })
body_made bytes more c chain found h = record {
  printable = record { ordered = found.ordered; variables = found.variables; first = h.first; pairs = h.fit };
  text = found.text ∙ ap (λ t. flat_map literal_text c ++ (codes "0 via " ++ t)) h.text;
}

line_from : (l m : DerivationLine) → l.result ≡ m.result → l.chain ≡ m.chain → l ≡ m
line_from l m e f = rw (e, f) refl

body_once : (bytes : Bytes) (l m : DerivationLine) → IsBody bytes l → IsBody bytes m → l ≡ m
body_once bytes l m h k =
    let mine = body_literals bytes l h in
    let results = literals_once bytes l.result m.result _ _ mine (body_literals bytes m k) in
    line_from l m results.0 (chain_once _ l.chain m.chain (body_chain bytes _ l.result l mine h) (body_chain bytes _ l.result m mine k))

assoc_step : (a b c d e f : Bytes) → a ++ b ++ c ++ d ++ e ++ f ≡ a ++ (b ++ (c ++ (d ++ (e ++ f))))
assoc_step a b c d e f = simp append_assoc

step_is : (n : ℕ) (line : DerivationLine) → step_text n line ≡ codes " step " ++ (decimal n ++ (codes ": " ++ (flat_map literal_text line.result ++ (codes "0 via " ++ chain_text line.chain))))
step_is n line = assoc_step (codes " step ") (decimal n) (codes ": ") (flat_map literal_text line.result) (codes "0 via ") (chain_text line.chain)

-- a step is a head and a body
step_head : (bytes : Bytes) (n : ℕ) (line : DerivationLine) → IsStep n line bytes → IsHeadThen bytes n (flat_map literal_text line.result ++ (codes "0 via " ++ chain_text line.chain))
step_head bytes n line h = record { fits = h.fits; text = h.text ∙ step_is n line }

pub step_body : (bytes more : Bytes) (m n : ℕ) (line : DerivationLine) → IsHeadThen bytes m more → IsStep n line bytes → IsBody more line
step_body bytes more m n line found h = record {
  printable = h.printable;
  text = (head_once bytes m n more _ found (step_head bytes n line h)).1;
}

pub no_head : (bytes : Bytes) → ((n : ℕ) (rest : Bytes) → ¬ IsHeadThen bytes n rest) → (n : ℕ) (line : DerivationLine) → ¬ IsStep n line bytes
no_head bytes none n line h = none n _ (step_head bytes n line h)

pub step_made : (bytes more : Bytes) (n : ℕ) (line : DerivationLine) → IsHeadThen bytes n more → IsBody more line → IsStep n line bytes
step_made bytes more n line found h = record {
  fits = found.fits;
  printable = h.printable;
  text = found.text ∙ ap (λ t. codes " step " ++ (decimal n ++ (codes ": " ++ t))) h.text ∙ sym (step_is n line);
}

-- bytes are one step at most
pub step_once : (bytes : Bytes) (n m : ℕ) (l k : DerivationLine) → IsStep n l bytes → IsStep m k bytes → (n ≡ m) × (l ≡ k)
step_once bytes n m l k h g =
    let mine = step_head bytes n l h in
    let heads = head_once bytes n m _ _ mine (step_head bytes m k g) in
    (heads.0, body_once _ l k (step_body bytes _ n n l mine h) (step_body bytes _ n m k mine g))

-- where a step is found it is the one that stands here
pub step_only : (bytes : Bytes) (found : Option (ℕ × DerivationLine)) → MatchOption found ((n : ℕ) (line : DerivationLine) → ¬ IsStep n line bytes) (λ read. IsStep read.0 read.1 bytes) → (n : ℕ) (line : DerivationLine) → IsStep n line bytes → found ≡ Some (n, line)
step_only bytes None none n line h = absurd (none n line h)
step_only bytes (Some (m, other)) found n line h =
    let same = step_once bytes m n other line found h in
    rw (same.0, same.1) refl
