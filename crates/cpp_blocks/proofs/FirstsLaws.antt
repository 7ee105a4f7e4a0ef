-- New members are put after one list after another.
use Rattle.std.proofs.Common.{◌≡◌, ℕ, ◌+◌, ◌<◌, ◌≤◌, Bool, true, false, not, cond, None, Some, position, arith, append_assoc, List, [], ◌∷◌, ◌++◌, refl, sym, ap, ◌∙◌, length, drop, take, get_or, map}
use Rattle.std.specs.Prelude.{nat_lt}
use Rattle.std.specs.List.{flat_map, position_or_len}
use Rattle.std.proofs.lemmas.Bool.Decides.{nat_tests}
use Rattle.std.proofs.lemmas.List.Sums.{prefix_len-le-length}
use Rattle.std.proofs.lemmas.Option.{none-some}
use Rattle.std.proofs.lemmas.List.{at_drop_more, take_more, append-nil, map-append}
use Rattle.std.proofs.lemmas.List.Concat.{flat_map-append}
use Rattle.cpp_directives.specs.declared.directive.Directive.{Directive}
use Rattle.cpp_blocks.specs.declared.pieces.PieceOf.{PieceOf}
use Rattle.cpp_blocks.specs.Mentions.{with_new, firsts}
use Rattle.cpp_blocks.specs.PieceIdentity.{piece_eq}
use Rattle.cpp_blocks.specs.Run.{touches}
use Rattle.cpp_blocks.specs.Turns.{touched_at, touched_in, pieces_at, pieces_from}

pub firsts-append : {A : Type 0} (eq : A → A → Bool) (seen xs ys : List A) → firsts eq seen (xs ++ ys) ≡ firsts eq (firsts eq seen xs) ys
firsts-append eq seen [] ys = refl
firsts-append eq seen (x ∷ xs) ys = firsts-append eq (with_new eq seen x) xs ys

-- the members that the next of several gives, and then those of what is left
pub firsts_next : {A B : Type 0} (eq : A → A → Bool) (f : B → List A) (seen : List A) (xs : List B) (i : ℕ) (d : B) → i < length xs
    → firsts eq seen (flat_map f (drop i xs)) ≡ firsts eq (firsts eq seen (f (get_or xs i d))) (flat_map f (drop (i + 1) xs))
firsts_next eq f seen xs i d h = at_drop_more (λ ys. firsts eq seen (flat_map f ys)) xs i d h ∙ firsts-append eq seen (f (get_or xs i d)) (flat_map f (drop (i + 1) xs))

pub firsts_map_next : {A B : Type 0} (eq : A → A → Bool) (f : B → List A) (seen : List A) (xs : List B) (i : ℕ) (d : B) → i < length xs
    → firsts eq seen (flat_map (λ y. y) (map f (drop i xs))) ≡ firsts eq (firsts eq seen (f (get_or xs i d))) (flat_map (λ y. y) (map f (drop (i + 1) xs)))
firsts_map_next eq f seen xs i d h = at_drop_more (λ ys. firsts eq seen (flat_map (λ y. y) (map f ys))) xs i d h ∙ firsts-append eq seen (f (get_or xs i d)) (flat_map (λ y. y) (map f (drop (i + 1) xs)))

-- ---- directives passed one after another

-- the macro lines after one more directive
pub touched_next : (ds : List Directive) (i : ℕ) (d : Directive) → i < length ds → d ≡ get_or ds i d → touched_in (take (i + 1) ds) ≡ touched_in (take i ds) ++ touched_at d.what
touched_next ds i d h e = ap touched_in (take_more ds i d h) ∙ (flat_map-append (λ (x : Directive). touched_at x.what) (take i ds) (get_or ds i d ∷ [])
    ∙ ap (λ ts. touched_in (take i ds) ++ ts) (append-nil (touched_at (get_or ds i d).what) ∙ ap (λ (x : Directive). touched_at x.what) (sym e)))

-- the pieces that the next directive gives, and then those of what is left
pub pieces_next : (seen : List PieceOf) (touched : List (List ℕ)) (ds : List Directive) (i : ℕ) (d : Directive) → i < length ds → d ≡ get_or ds i d
    → firsts piece_eq seen (pieces_from touched (drop i ds)) ≡ firsts piece_eq (firsts piece_eq seen (pieces_at (touches touched) d.what)) (pieces_from (touched ++ touched_at d.what) (drop (i + 1) ds))
pieces_next seen touched ds i d h e = at_drop_more (λ ys. firsts piece_eq seen (pieces_from touched ys)) ds i d h
    ∙ (firsts-append piece_eq seen (pieces_at (touches touched) (get_or ds i d).what) (pieces_from (touched ++ touched_at (get_or ds i d).what) (drop (i + 1) ds))
    ∙ ap (λ (x : Directive). firsts piece_eq (firsts piece_eq seen (pieces_at (touches touched) x.what)) (pieces_from (touched ++ touched_at x.what) (drop (i + 1) ds))) (sym e))

-- ---- look-ups and lists of states

not_below : (m n : ℕ) → m ≤ n → nat_lt m n ≡ false → n ≡ m
not_below m n h e = grind (arith, nat_tests)

-- a place that no member has is the length
pub absent : {A : Type 0} (p : A → Bool) (xs : List A) → None ≡ position p xs → length xs ≡ position_or_len p xs
absent p xs h = by (nat_lt (position_or_len p xs) (length xs)) refl h
  where
    le : position_or_len p xs ≤ length xs
    le = prefix_len-le-length (λ x. not (p x)) xs

    by : (b : Bool) → nat_lt (position_or_len p xs) (length xs) ≡ b → None ≡ cond b (Some (position_or_len p xs)) None → length xs ≡ position_or_len p xs
    by true e h = absurd (none-some (position_or_len p xs) h)
    by false e h = not_below (position_or_len p xs) (length xs) le e

-- what the next of several gives, mapped, and then what is left gives
pub mapped_next : {A B C : Type 0} (f : A → List B) (g : B → C) (old : List C) (xs : List A) (i : ℕ) (d : A) → i < length xs
    → old ++ map g (flat_map (λ y. y) (map f (drop i xs))) ≡ (old ++ map g (f (get_or xs i d))) ++ map g (flat_map (λ y. y) (map f (drop (i + 1) xs)))
mapped_next f g old xs i d h = at_drop_more (λ ys. old ++ map g (flat_map (λ y. y) (map f ys))) xs i d h
    ∙ (ap (λ zs. old ++ zs) (map-append g (f (get_or xs i d)) (flat_map (λ y. y) (map f (drop (i + 1) xs)))) ∙ sym (append_assoc old (map g (f (get_or xs i d))) (map g (flat_map (λ y. y) (map f (drop (i + 1) xs))))))
