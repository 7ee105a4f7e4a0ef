-- Tests of the open wishes, whatever their order.
use Rattle.std.proofs.Common.{◌≡◌, ℕ, Bool, true, false, ◌&&◌, ◌||◌, List, [], ◌∷◌, ◌++◌, reverse, refl, ap, sym, ◌∙◌}
use Rattle.std.specs.List.{list_any, list_all}
use Rattle.std.proofs.lemmas.Grind.{reverse_onto}
use Rattle.std.proofs.lemmas.List.Folds.{list_any-append, list_all-append}
use Rattle.undertaker.specs.declared.wishes.Wish.{Wish}
use Rattle.undertaker.specs.declared.path.Level.{Level}
use Rattle.undertaker.specs.Wishes.{wanted_symbol, wanted_symbols}
use Rattle.undertaker.specs.Levels.{wishes_of}

or_turned : (a b : Bool) → (a || b) ≡ (b || a)
or_turned true true = refl
or_turned true false = refl
or_turned false true = refl
or_turned false false = refl

any_reversed : {A : Type 0} (p : A → Bool) (xs : List A) → list_any p (reverse xs) ≡ list_any p xs
any_reversed p [] = refl
any_reversed p (x ∷ xs) = ap (list_any p) (reverse_onto xs x []) ∙ (list_any-append p (reverse xs) (x ∷ []) ∙ (ap (λ b. b || (p x || false)) (any_reversed p xs) ∙ by (list_any p xs) (p x)))
  where
    by : (a b : Bool) → (a || (b || false)) ≡ (b || a)
    by true true = refl
    by true false = refl
    by false true = refl
    by false false = refl

any_wishes : (p : Wish → Bool) (ls : List Level) → list_any p (wishes_of ls) ≡ list_any (λ (l : Level). p l.wish) ls
any_wishes p [] = refl
any_wishes p (l ∷ ls) = ap (λ b. p l.wish || b) (any_wishes p ls)

-- a test of the levels is one of the wishes
pub any_levels : (p : Wish → Bool) (items : List Level) (now : List Wish) → wishes_of (reverse items) ≡ now → list_any (λ (l : Level). p l.wish) items ≡ list_any p now
any_levels p items now view = sym (any_reversed (λ (l : Level). p l.wish) items) ∙ (sym (any_wishes p (reverse items)) ∙ ap (list_any p) view)

all_wanted-append : (s : ℕ → Bool) (xs ys : List Wish) → list_all s (wanted_symbols (xs ++ ys)) ≡ (list_all s (wanted_symbols xs) && list_all s (wanted_symbols ys))
all_wanted-append s [] ys = refl
all_wanted-append s (w ∷ ws) ys = list_all-append s (wanted_symbol w) (wanted_symbols (ws ++ ys)) ∙ (ap (λ b. list_all s (wanted_symbol w) && b) (all_wanted-append s ws ys)
    ∙ (group (list_all s (wanted_symbol w)) (list_all s (wanted_symbols ws)) (list_all s (wanted_symbols ys)) ∙ ap (λ b. b && list_all s (wanted_symbols ys)) (sym (list_all-append s (wanted_symbol w) (wanted_symbols ws)))))
  where
    group : (a b c : Bool) → (a && (b && c)) ≡ ((a && b) && c)
    group true b c = refl
    group false b c = refl

wishes_reversed : (s : ℕ → Bool) (ls : List Level) → list_all s (wanted_symbols (wishes_of (reverse ls))) ≡ list_all s (wanted_symbols (wishes_of ls))
wishes_reversed s [] = refl
wishes_reversed s (l ∷ ls) = ap (λ (ms : List Level). list_all s (wanted_symbols (wishes_of ms))) (reverse_onto ls l []) ∙ (ap (λ (ws : List Wish). list_all s (wanted_symbols ws)) (wishes-append (reverse ls) (l ∷ []))
    ∙ (all_wanted-append s (wishes_of (reverse ls)) (l.wish ∷ []) ∙ (ap (λ b. b && list_all s (wanted_symbols (l.wish ∷ []))) (wishes_reversed s ls)
    ∙ (turned (list_all s (wanted_symbols (wishes_of ls))) (list_all s (wanted_symbols (l.wish ∷ []))) ∙ sym (all_wanted-append s (l.wish ∷ []) (wishes_of ls))))))
  where
    wishes-append : (xs ys : List Level) → wishes_of (xs ++ ys) ≡ wishes_of xs ++ wishes_of ys
    wishes-append [] ys = refl
    wishes-append (x ∷ xs) ys = ap (λ rest. x.wish ∷ rest) (wishes-append xs ys)

    turned : (a b : Bool) → (a && b) ≡ (b && a)
    turned true true = refl
    turned true false = refl
    turned false true = refl
    turned false false = refl

-- what the levels want is what the wishes want
pub wanted_levels : (s : ℕ → Bool) (items : List Level) (now : List Wish) → wishes_of (reverse items) ≡ now → list_all s (wanted_symbols (wishes_of items)) ≡ list_all s (wanted_symbols now)
wanted_levels s items now view = sym (wishes_reversed s items) ∙ ap (λ ws. list_all s (wanted_symbols ws)) view
