-- Lines that a sink took one by one.
use Rattle.std.proofs.Common.{◌≡◌, ◌∙◌, ◌<◌, ◌+◌, ◌++◌, ℕ, List, [], ◌∷◌, length, take, drop, get_or, ap, sym, refl, Option, Some, None, suc, arith, append_assoc, append-nil}
use Rattle.std.proofs.lemmas.List.{take-append-drop, drop_more}
use Rattle.std.proofs.lemmas.List.Folds.{concat-append}
use Rattle.std.proofs.Math.Seq.{take-suc}
use Rattle.ut_base.specs.Outside.{with_more, Puts}
use Rattle.ut_base.specs.declared.outside.PutEnd.TheVariants as put
use Rattle.std.specs.List.{concat}

more_more : (taken : Option (List ℕ)) (a b : List ℕ) → with_more (with_more taken a) b ≡ with_more taken (a ++ b)
more_more None a b = refl
more_more (Some t) a b = ap Some (append_assoc t a b)

-- the line at i stands between those before and those after it
joined_at : (xs : List (List ℕ)) (i : ℕ) (line : List ℕ) → i < length xs → line ≡ get_or xs i line → concat xs ≡ concat (take i xs) ++ (line ++ concat (drop (i + 1) xs))
joined_at xs i line lt is =
    ap concat (sym (take-append-drop i xs)) ∙ concat-append (take i xs) (drop i xs)
    ∙ ap (λ l. concat (take i xs) ++ concat l) (drop_more xs i line lt ∙ ap (λ l. l ∷ drop (i + 1) xs) (sym is))

joined_more : (xs : List (List ℕ)) (i : ℕ) (line : List ℕ) → i < length xs → line ≡ get_or xs i line → concat (take (i + 1) xs) ≡ concat (take i xs) ++ line
joined_more xs i line lt is =
    let next : i + 1 ≡ suc i = omega arith in
    ap (λ n. concat (take n xs)) next ∙ ap concat (take-suc xs i line lt) ∙ concat-append (take i xs) (get_or xs i line ∷ [])
    ∙ ap (λ l. concat (take i xs) ++ l) (append-nil (get_or xs i line) ∙ sym is)

module _ (first before now : Option (List ℕ)) (xs : List (List ℕ)) (i : ℕ) (line : List ℕ) (lt : i < length xs) (is : line ≡ get_or xs i line)
    (so_far : before ≡ with_more first (concat (take i xs))) where
  -- one more line was taken
  pub goes_on : now ≡ with_more before line → now ≡ with_more first (concat (take (i + 1) xs))
  goes_on e = e ∙ ap (λ t. with_more t line) so_far ∙ more_more first (concat (take i xs)) line ∙ ap (with_more first) (sym (joined_more xs i line lt is))

  -- a part of it was
  pub breaks_off : Puts before now line put.Failed → Puts first now (concat xs) put.Failed
  breaks_off f = (
    concat (take i xs) ++ f.0,
    f.1 ++ concat (drop (i + 1) xs),
    joined_at xs i line lt is ∙ ap (λ l. concat (take i xs) ++ (l ++ concat (drop (i + 1) xs))) f.2
        ∙ ap (λ l. concat (take i xs) ++ l) (append_assoc f.0 f.1 (concat (drop (i + 1) xs)))
        ∙ sym (append_assoc (concat (take i xs)) f.0 (f.1 ++ concat (drop (i + 1) xs))),
    f.3 ∙ ap (λ t. with_more t f.0) so_far ∙ more_more first (concat (take i xs)) f.0,
  )
