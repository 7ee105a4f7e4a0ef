-- Names at the front of some bytes.
use Rattle.std.proofs.Common.{◌≡◌, ℕ, suc, ◌+◌, ◌<◌, Bool, true, false, cond, [], ◌∷◌, ◌++◌, length, take, drop, refl, sym, ap, ◌∙◌, subst, arith}
use Rattle.std.specs.List.{prefix_len, AllPass}
use Rattle.std.proofs.lemmas.List.{take_at, drop_at, take-append-drop}
use Rattle.std.proofs.lemmas.List.Elements.{All-cons, All-nil, All-head, All-tail}
use Rattle.ut_text.specs.Bytes.{Bytes}
use Rattle.ut_text.specs.ByteClasses.{is_name_byte}
use Rattle.line_texts.specs.Cursor.{begins_with, IsNameThen}

add-one-left : (n : ℕ) → 1 + n ≡ suc n
add-one-left n = omega arith

-- bytes that pass, and after them one that doesn't
prefix_len-front : (test : ℕ → Bool) (front rest : Bytes) → AllPass test front → begins_with test rest ≡ false → prefix_len test (front ++ rest) ≡ length front
prefix_len-front test [] [] h e = refl
prefix_len-front test [] (b ∷ rest) h e = ap (λ t. cond t (1 + prefix_len test rest) 0) e
prefix_len-front test (b ∷ front) rest h e =
    ap (λ t. cond t (1 + prefix_len test (front ++ rest)) 0) (All-head (λ c. test c ≡ true) b front h)
    ∙ ap (λ n. 1 + n) (prefix_len-front test front rest (All-tail (λ c. test c ≡ true) b front h) e)
    ∙ add-one-left (length front)

-- the bytes that pass at the front all pass
front_passes : (test : ℕ → Bool) (bytes : Bytes) → AllPass test (take (prefix_len test bytes) bytes)
front_passes test [] = All-nil (λ c. test c ≡ true)
front_passes test (b ∷ bytes) = by (test b) refl (front_passes test bytes)
  where
    by : (t : Bool) → test b ≡ t → AllPass test (take (prefix_len test bytes) bytes) → AllPass test (take (cond t (1 + prefix_len test bytes) 0) (b ∷ bytes))
    by true e h = subst (λ n. AllPass test (take n (b ∷ bytes))) (sym (add-one-left (prefix_len test bytes))) (All-cons (λ c. test c ≡ true) b (take (prefix_len test bytes) bytes) e h)
    by false e h = All-nil (λ c. test c ≡ true)

-- and the byte after them doesn't
after_front : (test : ℕ → Bool) (bytes : Bytes) → begins_with test (drop (prefix_len test bytes) bytes) ≡ false
after_front test [] = refl
after_front test (b ∷ bytes) = by (test b) refl (after_front test bytes)
  where
    by : (t : Bool) → test b ≡ t → begins_with test (drop (prefix_len test bytes) bytes) ≡ false → begins_with test (drop (cond t (1 + prefix_len test bytes) 0) (b ∷ bytes)) ≡ false
    by true e h = subst (λ n. begins_with test (drop n (b ∷ bytes)) ≡ false) (sym (add-one-left (prefix_len test bytes))) h
    by false e h = e

-- the bytes of a name that stands here
pub name_front : (bytes name rest : Bytes) → IsNameThen bytes name rest → (take (prefix_len is_name_byte bytes) bytes ≡ name) × (drop (prefix_len is_name_byte bytes) bytes ≡ rest)
name_front bytes name rest h =
    let len : prefix_len is_name_byte bytes ≡ length name = ap (prefix_len is_name_byte) h.text ∙ prefix_len-front is_name_byte name rest h.of_names h.ends in (
      rw (len, h.text) (take_at name rest (length name) refl),
      rw (len, h.text) (drop_at name rest (length name) refl),
    )

-- one name stands here at most
pub name_once : (bytes name other rest more : Bytes) → IsNameThen bytes name rest → IsNameThen bytes other more → (name ≡ other) × (rest ≡ more)
name_once bytes name other rest more h k =
    let a = name_front bytes name rest h in
    let b = name_front bytes other more k in
    (sym a.0 ∙ b.0, sym a.1 ∙ b.1)

-- the bytes of names at the front are a name
pub name_found : (bytes name rest : Bytes) → name ≡ take (prefix_len is_name_byte bytes) bytes → rest ≡ drop (prefix_len is_name_byte bytes) bytes → 0 < length name → IsNameThen bytes name rest
name_found bytes name rest e f some = record {
  some = some;
  of_names = subst (AllPass is_name_byte) (sym e) (front_passes is_name_byte bytes);
  text = sym (take-append-drop (prefix_len is_name_byte bytes) bytes) ∙ ap (λ t. t ++ drop (prefix_len is_name_byte bytes) bytes) (sym e) ∙ ap (λ t. name ++ t) (sym f);
  ends = subst (λ t. begins_with is_name_byte t ≡ false) (sym f) (after_front is_name_byte bytes);
}
