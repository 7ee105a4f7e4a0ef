-- Lines that are taken from the front, and those that belong to a help text.
use Rattle.std.proofs.Common.{ℕ, suc, ◌≡◌, ◌∙◌, refl, sym, ap, ◌<◌, ◌+◌, ◌-◌, ◌==◌, arith, Bool, true, false, List, [], ◌∷◌, ◌++◌, length, append_assoc}
use Rattle.std.specs.Prelude.{Option}
use Rattle.std.specs.List.{prefix_len}
use Rattle.std.proofs.lemmas.Bool.{eqb-true}
use Rattle.ut_text.specs.Bytes.{Bytes}
use Rattle.kconf_lines.specs.Lines.{Line, numbered}
use Rattle.kconf_lines.specs.HelpTexts.{indentation, after_first}
use Rattle.kconf_lines.specs.LogicalLines.{is_continued, front, joined_first}
use Rattle.kconf_lines.specs.Reading.{is_backslash, ends_in_backslash, text_belongs, after_belonging, first_indentation}

-- the last byte decides whether a line is continued
pub continued_is : (text : Bytes) → is_continued text ≡ ends_in_backslash text
continued_is [] = refl
continued_is (b ∷ []) = refl
continued_is (b ∷ c ∷ s) =
    let e : suc (suc (length s)) - 1 ≡ suc (length s) = omega arith in
    let f : suc (length s) - 1 ≡ length s = omega arith in
    rw e (continued_is (c ∷ s) ∙ rw f refl)

-- the first physical line has the first number
pub taken : (n : ℕ) (lines rest : List Bytes) (t : Bytes) → lines ≡ t ∷ rest → numbered n lines ≡ record { number = n; text = t } ∷ numbered (n + 1) rest
taken n lines rest t e = ap (numbered n) e

-- ---- joining
module _ (l : Line) (ls : List Line) where
  -- a continued line goes on with the next one
  pub goes_on : is_continued l.text ≡ true → joined_first (l ∷ ls) ≡ (front l.text ++ (joined_first ls).0, (joined_first ls).1)
  goes_on h = rw h refl

  -- any other line is whole
  pub is_whole : is_continued l.text ≡ false → joined_first (l ∷ ls) ≡ (l.text, ls)
  is_whole h = rw h refl

  -- ---- help texts

  -- a line that belongs is passed
  pub passed_one : (least : Option ℕ) → text_belongs least l.text ≡ true → after_belonging least (l ∷ ls) ≡ after_belonging least ls
  passed_one least h =
      let n = prefix_len (λ (k : Line). text_belongs least k.text) ls in
      let next : 1 + n ≡ suc n = omega arith in
      rw (h, next) refl

  -- the first other line is the first that is left
  pub passed_none : (least : Option ℕ) → text_belongs least l.text ≡ false → after_belonging least (l ∷ ls) ≡ l ∷ ls
  passed_none least h = rw h refl

-- an indented line begins a help text
pub with_first : (ls : List Line) (n : ℕ) → n ≡ first_indentation ls → 0 < n → after_first ls ≡ after_belonging (Option.Some n) ls
with_first [] n e h = let z : ⊥ = omega (arith, e, h) in absurd z
with_first (l ∷ ls) n e h = by (indentation l == 0) refl
  where
    by : (b : Bool) → (indentation l == 0) ≡ b → after_first (l ∷ ls) ≡ after_belonging (Option.Some n) (l ∷ ls)
    by true q = let z = eqb-true (indentation l) 0 q in let w : ⊥ = omega (arith, z, e, h) in absurd w
    by false q = rw q (ap (λ k. after_belonging (Option.Some k) (l ∷ ls)) (sym e))

-- a line without indentation begins none
pub without_first : (ls : List Line) → first_indentation ls ≡ 0 → after_first ls ≡ ls
without_first [] h = refl
without_first (l ∷ ls) h = rw h refl
