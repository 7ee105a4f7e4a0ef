-- Texts of lines that are written one after another.
use Rattle.std.proofs.Common.{◌≡◌, ℕ, ◌+◌, ◌<◌, Bool, List, [], ◌∷◌, ◌++◌, length, get_or, drop, refl, sym, ap, ◌∙◌, append_assoc, add-one, add_assoc, codes}
use Rattle.std.proofs.lemmas.List.{at_drop_more}
use Rattle.std.proofs.lemmas.List.Concat.{flat_map-append}
use Rattle.ut_text.specs.Bytes.{Bytes, newline}
use Rattle.log_check.specs.DerivationText.{step_text}
use Rattle.log_check.specs.declared.derivations.DerivationLine.{DerivationLine}
use Rattle.ut_report.specs.Evidence.{step_lines}
use Rattle.ut_report.specs.Groups.{each_from, group_word, kind_lines}
use Rattle.ut_report.specs.Lines.{text_of}
use Rattle.report_lines.specs.Inside.{kind_text}

-- one text of lines after another
pub text_of-append : (xs ys : List Bytes) → text_of (xs ++ ys) ≡ text_of xs ++ text_of ys
text_of-append [] ys = refl
text_of-append (x ∷ xs) ys = ap (λ t. (x ++ newline ∷ []) ++ t) (text_of-append xs ys) ∙ sym (append_assoc (x ++ newline ∷ []) (text_of xs) (text_of ys))

pub kind_text-append : (on : Bool) (tag : Bytes) (xs ys : List Bytes) → kind_text on tag (xs ++ ys) ≡ kind_text on tag xs ++ kind_text on tag ys
kind_text-append on tag xs ys =
    ap text_of (flat_map-append (λ (line : Bytes). (group_word on ++ codes "-" ++ tag ++ codes ": " ++ line) ∷ []) xs ys)
    ∙ text_of-append (kind_lines on (record { tag = tag; lines = xs })) (kind_lines on (record { tag = tag; lines = ys }))

-- what a part gives is written in two pieces, here and later
joined : (old new rest all here : Bytes) → old ++ (here ++ rest) ≡ all → new ≡ old ++ here → new ++ rest ≡ all
joined old new rest all here e n = ap (λ t. t ++ rest) n ∙ append_assoc old here rest ∙ e

-- one step of a derivation more is written
pub steps_on : (old mid new all : Bytes) (n at : ℕ) (lines : List DerivationLine) (x : DerivationLine) → at < length lines → x ≡ get_or lines at x
    → mid ≡ old ++ step_text (n + at) x → new ≡ mid ++ newline ∷ [] → old ++ text_of (step_lines (n + at) (drop at lines)) ≡ all
    → new ++ text_of (step_lines (n + (at + 1)) (drop (at + 1) lines)) ≡ all
steps_on old mid new all n at lines x lt is m w e =
    let here : drop at lines ≡ x ∷ drop (at + 1) lines = at_drop_more (λ l. l) lines at x lt ∙ ap (λ d. d ∷ drop (at + 1) lines) (sym is) in
    let number : n + at + 1 ≡ n + (at + 1) = add_assoc n at 1 in
    let parts : text_of (step_lines (n + at) (drop at lines)) ≡ (step_text (n + at) x ++ newline ∷ []) ++ text_of (step_lines (n + (at + 1)) (drop (at + 1) lines)) =
    ap (λ l. text_of (step_lines (n + at) l)) here ∙ ap (λ k. (step_text (n + at) x ++ newline ∷ []) ++ text_of (step_lines k (drop (at + 1) lines))) number in
    joined old new (text_of (step_lines (n + (at + 1)) (drop (at + 1) lines))) all (step_text (n + at) x ++ newline ∷ [])
    (ap (λ t. old ++ t) (sym parts) ∙ e)
    (w ∙ ap (λ t. t ++ newline ∷ []) m ∙ append_assoc old (step_text (n + at) x) (newline ∷ []))

-- what one more element gives is written, where G makes texts of lists
module _ {A B : Type 0} (G : List B → Bytes) (parts : (xs ys : List B) → G (xs ++ ys) ≡ G xs ++ G ys) (f : ℕ → A → List B) where
  pub each_on : (old new all : Bytes) (n : ℕ) (xs : List A) (d : A) → n < length xs → old ++ G (each_from f n (drop n xs)) ≡ all → new ≡ old ++ G (f n (get_or xs n d))
      → new ++ G (each_from f (n + 1) (drop (n + 1) xs)) ≡ all
  each_on old new all n xs d lt e w =
      let here : each_from f n (drop n xs) ≡ f n (get_or xs n d) ++ each_from f (n + 1) (drop (n + 1) xs) =
      at_drop_more (each_from f n) xs n d lt ∙ ap (λ k. f n (get_or xs n d) ++ each_from f k (drop (n + 1) xs)) (sym (add-one n)) in
      joined old new (G (each_from f (n + 1) (drop (n + 1) xs))) all (G (f n (get_or xs n d)))
      (ap (λ t. old ++ t) (sym (ap G here ∙ parts (f n (get_or xs n d)) (each_from f (n + 1) (drop (n + 1) xs)))) ∙ e) w
