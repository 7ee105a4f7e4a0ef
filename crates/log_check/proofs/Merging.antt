-- The merge of two clauses step by step, and that its end is the resolvent.
use Rattle.std.proofs.Common.{◌≡◌, ◌≢◌, ℕ, ◌+◌, ◌<◌, ◌≤◌, Bool, true, false, not, List, [], ◌∷◌, ◌++◌, length, get_or, take, ◌⊎◌, inl, inr, refl, sym, ap, ◌∙◌, subst, arith}
use Rattle.std.specs.Prelude.{Contains, MatchBool}
use Rattle.std.proofs.lemmas.List.{take_more, get_or_default, get_or-take, length-take-le, take_all}
use Rattle.std.proofs.lemmas.List.Elements.{Contains-append_left, Contains-push, Contains-push_cases, Contains-get_or}
use Rattle.std.proofs.lemmas.List.Quantifiers.{all_pairs_push}
use Rattle.std.proofs.lemmas.Bool.{cases_lt}
use Rattle.ut_logic.specs.declared.literals.Lit.{Lit}
use Rattle.ut_logic.specs.Clauses.{literal, IsOrdered}
use Rattle.log_check.specs.Resolution.{IsOppositeIn, IsResolvent, HasNoResolvent}
use Rattle.log_check.specs.Merging.{Merged, IsMet, IsNext}
use Rattle.log_check.specs.declared.resolving.Next.TheVariants.{Left, Right, Same, Opposite}

-- nothing is merged yet
pub merged_none : (a b : List Lit) (p : ℕ) → Merged a b p 0 0 []
merged_none a b p = record {
  left_in = omega arith;
  right_in = omega arith;
  ordered = λ i j d h k. absurd (omega arith);
  sound = λ l c. absurd (omega (arith, c.1));
  left = λ l n c. c;
  right = λ l n c. c;
  below_left = λ l d c h. absurd (omega (arith, c.1));
  below_right = λ l d c h. absurd (omega (arith, c.1));
}

-- the two lists may change places
pub merged_swap : (a b : List Lit) (p i j : ℕ) (out : List Lit) → Merged a b p i j out → Merged b a p j i out
merged_swap a b p i j out m = record {
  left_in = m.right_in;
  right_in = m.left_in;
  ordered = m.ordered;
  sound = λ l c. ((m.sound l c).0, elim (m.sound l c).1 [ inl q ↦ inr q | inr q ↦ inl q ]);
  left = m.right;
  right = m.left;
  below_left = m.below_right;
  below_right = m.below_left;
}

-- a literal of an ordered list is below the later ones
pub ordered_at : (a : List Lit) (i k : ℕ) (d e : Lit) → IsOrdered a → i < k → k < length a → (get_or a i d).var < (get_or a k e).var
ordered_at a i k d e o lt h = rw (get_or_default a k e d h) (o i k d lt h)

-- the first literals of an ordered list are below the next one
pub taken_below : (a : List Lit) (i : ℕ) (d l : Lit) → IsOrdered a → i < length a → Contains (take i a) l → l.var < (get_or a i d).var
taken_below a i d l o h (k, lt, at) =
    let len : length (take i a) ≡ i = length-take-le i a (omega arith) in
    let there : get_or a k l ≡ l = sym (get_or-take i a k l (omega arith)) ∙ at in
    subst (λ (x : Lit). x.var < (get_or a i d).var) there (ordered_at a k i l d o (omega arith) h)

-- each literal of the output is below the next one of the left list
below_out : (a b : List Lit) (p i j : ℕ) (out : List Lit) (d l : Lit) → IsOrdered a → Merged a b p i j out → i < length a → Contains out l → l.var < (get_or a i d).var
below_out a b p i j out d l oa m h c = elim (m.sound l c).1 [
  | inl u ↦ taken_below a i d l oa h u
  | inr u ↦ m.below_left l d u h
]

-- the output stays in order where the next literal of the left list goes to its end
ordered_more : (a b : List Lit) (p i j : ℕ) (out : List Lit) (d : Lit) → IsOrdered a → Merged a b p i j out → i < length a → IsOrdered (out ++ get_or a i d ∷ [])
ordered_more a b p i j out d oa m h =
    all_pairs_push (λ (s t : Lit). s.var < t.var) out (get_or a i d) m.ordered
    (λ k e hk. below_out a b p i j out d (get_or out k e) oa m h (Contains-get_or out k e hk))

-- the next literal of the left list alone goes to the end
pub grow_left : (a b : List Lit) (p i j : ℕ) (out : List Lit) (d : Lit) → IsOrdered a → Merged a b p i j out → IsNext a b i j Left → (get_or a i d).var ≢ p → Merged a b p (i + 1) j (out ++ get_or a i d ∷ [])
grow_left a b p i j out d oa m (h, lt) ne =
    let x : Lit = get_or a i d in
    let more : take (i + 1) a ≡ take i a ++ x ∷ [] = take_more a i d h in
    record {
      left_in = omega arith;
      right_in = m.right_in;
      ordered = ordered_more a b p i j out d oa m h;
      sound = λ l c. elim (Contains-push_cases out x l c) [
        | inl q ↦ ((m.sound l q).0, elim (m.sound l q).1 [ inl u ↦ inl (rw more (Contains-append_left _ _ l u)) | inr u ↦ inr u ])
        | inr q ↦ (subst (λ (y : Lit). y.var ≢ p) q ne, inl (rw more (subst (Contains (take i a ++ x ∷ [])) q (Contains-push (take i a) x))))
      ];
      left = λ l nl c. elim (Contains-push_cases (take i a) x l (rw more at c)) [
        | inl q ↦ Contains-append_left out _ l (m.left l nl q)
        | inr q ↦ subst (Contains (out ++ x ∷ [])) q (Contains-push out x)
      ];
      right = λ l nl c. Contains-append_left out _ l (m.right l nl c);
      below_left = λ l e c hi. omega (arith, m.below_left l d c h, ordered_at a i (i + 1) d e oa (omega arith) hi);
      below_right = λ l e c hj. elim (Contains-push_cases (take i a) x l (rw more at c)) [
        | inl q ↦ m.below_right l e q hj
        | inr q ↦ subst (λ (y : Lit). y.var < (get_or b j e).var) q (lt d e hj)
      ];
    }

pub grow_right : (a b : List Lit) (p i j : ℕ) (out : List Lit) (d : Lit) → IsOrdered b → Merged a b p i j out → IsNext a b i j Right → (get_or b j d).var ≢ p → Merged a b p i (j + 1) (out ++ get_or b j d ∷ [])
grow_right a b p i j out d ob m n ne = merged_swap b a p (j + 1) i _ (grow_left b a p j i out d ob (merged_swap a b p i j out m) n ne)

-- the next literal of both lists is one, and goes to the end once
pub grow_both : (a b : List Lit) (p i j : ℕ) (out : List Lit) (d : Lit) → IsOrdered a → IsOrdered b → Merged a b p i j out → IsNext a b i j Same → (get_or a i d).var ≢ p → Merged a b p (i + 1) (j + 1) (out ++ get_or a i d ∷ [])
grow_both a b p i j out d oa ob m (h, k, same) ne =
    let x : Lit = get_or a i d in
    let more : take (i + 1) a ≡ take i a ++ x ∷ [] = take_more a i d h in
    let more_right : take (j + 1) b ≡ take j b ++ x ∷ [] = rw (same d) (take_more b j d k) in
    record {
      left_in = omega arith;
      right_in = omega arith;
      ordered = ordered_more a b p i j out d oa m h;
      sound = λ l c. elim (Contains-push_cases out x l c) [
        | inl q ↦ ((m.sound l q).0, elim (m.sound l q).1 [ inl u ↦ inl (rw more (Contains-append_left _ _ l u)) | inr u ↦ inr (rw more_right (Contains-append_left _ _ l u)) ])
        | inr q ↦ (subst (λ (y : Lit). y.var ≢ p) q ne, inl (rw more (subst (Contains (take i a ++ x ∷ [])) q (Contains-push (take i a) x))))
      ];
      left = λ l nl c. elim (Contains-push_cases (take i a) x l (rw more at c)) [
        | inl q ↦ Contains-append_left out _ l (m.left l nl q)
        | inr q ↦ subst (Contains (out ++ x ∷ [])) q (Contains-push out x)
      ];
      right = λ l nl c. elim (Contains-push_cases (take j b) x l (rw more_right at c)) [
        | inl q ↦ Contains-append_left out _ l (m.right l nl q)
        | inr q ↦ subst (Contains (out ++ x ∷ [])) q (Contains-push out x)
      ];
      below_left = λ l e c hi. elim (Contains-push_cases (take j b) x l (rw more_right at c)) [
        | inl q ↦ omega (arith, m.below_left l d q h, ordered_at a i (i + 1) d e oa (omega arith) hi)
        | inr q ↦ subst (λ (y : Lit). y.var < (get_or a (i + 1) e).var) q (ordered_at a i (i + 1) d e oa (omega arith) hi)
      ];
      below_right = λ l e c hj. elim (Contains-push_cases (take i a) x l (rw more at c)) [
        | inl q ↦ omega (arith, m.below_right l d q k, ordered_at b j (j + 1) d e ob (omega arith) hj)
        | inr q ↦ subst (λ (y : Lit). y.var < (get_or b (j + 1) e).var) q (rw (same d) (ordered_at b j (j + 1) d e ob (omega arith) hj))
      ];
    }

-- the next literals of both lists are the pivot's with opposite signs, and are left out
pub skip_both : (a b : List Lit) (p i j : ℕ) (out : List Lit) (d : Lit) → IsOrdered a → IsOrdered b → Merged a b p i j out → IsNext a b i j Opposite → (get_or a i d).var ≡ p → Merged a b p (i + 1) (j + 1) out
skip_both a b p i j out d oa ob m (h, k, same, opposite) pivot =
    let x : Lit = get_or a i d in
    let y : Lit = get_or b j d in
    let more : take (i + 1) a ≡ take i a ++ x ∷ [] = take_more a i d h in
    let more_right : take (j + 1) b ≡ take j b ++ y ∷ [] = take_more b j d k in
    let pivot_right : y.var ≡ p = sym (same d) ∙ pivot in
    record {
      left_in = omega arith;
      right_in = omega arith;
      ordered = m.ordered;
      sound = λ l c. ((m.sound l c).0, elim (m.sound l c).1 [ inl u ↦ inl (rw more (Contains-append_left _ _ l u)) | inr u ↦ inr (rw more_right (Contains-append_left _ _ l u)) ]);
      left = λ l nl c. elim (Contains-push_cases (take i a) x l (rw more at c)) [
        | inl q ↦ m.left l nl q
        | inr q ↦ absurd (nl (subst (λ (z : Lit). z.var ≡ p) q pivot))
      ];
      right = λ l nl c. elim (Contains-push_cases (take j b) y l (rw more_right at c)) [
        | inl q ↦ m.right l nl q
        | inr q ↦ absurd (nl (subst (λ (z : Lit). z.var ≡ p) q pivot_right))
      ];
      below_left = λ l e c hi. elim (Contains-push_cases (take j b) y l (rw more_right at c)) [
        | inl q ↦ omega (arith, m.below_left l d q h, ordered_at a i (i + 1) d e oa (omega arith) hi)
        | inr q ↦ subst (λ (z : Lit). z.var < (get_or a (i + 1) e).var) q (rw (← same d) (ordered_at a i (i + 1) d e oa (omega arith) hi))
      ];
      below_right = λ l e c hj. elim (Contains-push_cases (take i a) x l (rw more at c)) [
        | inl q ↦ omega (arith, m.below_right l d q k, ordered_at b j (j + 1) d e ob (omega arith) hj)
        | inr q ↦ subst (λ (z : Lit). z.var < (get_or b (j + 1) e).var) q (rw (same d) (ordered_at b j (j + 1) d e ob (omega arith) hj))
      ];
    }

pub not_itself : (s : Bool) → s ≡ not s → ⊥
not_itself true e = cc
not_itself false e = cc

-- literals of one variable and one sign are one
pub literal_same : (x y : ℕ) (s t : Bool) → x ≡ y → s ≡ t → literal x s ≡ literal y t
literal_same x y s t e f = rw (e, f)

-- an ordered list has one literal of a variable
pub one_literal : (a : List Lit) (l m : Lit) → IsOrdered a → Contains a l → Contains a m → l.var ≡ m.var → l ≡ m
one_literal a l m o h g same =
    let right : get_or a g.0 l ≡ m = get_or_default a g.0 l m g.1 ∙ g.2 in
    let left_var : (get_or a h.0 l).var ≡ l.var = ap (λ (x : Lit). x.var) h.2 in
    let right_var : (get_or a g.0 l).var ≡ m.var = ap (λ (x : Lit). x.var) right in
    elim (cases_lt h.0 g.0) [
      | inl before ↦ absurd (omega (arith, o h.0 g.0 l before g.1))
      | inr after ↦ elim (cases_lt g.0 h.0) [
        | inl before ↦ absurd (omega (arith, o g.0 h.0 l before h.1))
        | inr after2 ↦ let at : h.0 ≡ g.0 = omega arith in sym h.2 ∙ ap (λ k. get_or a k l) at ∙ right
      ]
    ]

-- a literal of one list whose variable is the other's next one, where that is below this list's next one, is none
not_between : (a b : List Lit) (p i j : ℕ) (out : List Lit) (d l : Lit) → IsOrdered b → Merged a b p i j out → IsNext a b i j Left → Contains b l → l.var ≢ (get_or a i d).var
not_between a b p i j out d l ob m (h, lt) (k, at, there) same = elim (cases_lt k j) [
  | inl taken ↦
      let place : get_or (take j b) k l ≡ l = get_or-take j b k l taken ∙ there in
      let len : length (take j b) ≡ j = length-take-le j b m.right_in in
      omega (arith, m.below_left l d (k, omega arith, place) h)
  | inr later ↦
      let here : (get_or b k l).var ≡ l.var = ap (λ (x : Lit). x.var) there in
      let not_next : (j < k) ⊎ (k ≡ j) = elim (cases_lt j k) [ inl u ↦ inl u | inr u ↦ inr (omega arith) ] in
      elim not_next [
        | inl u ↦ omega (arith, lt d l (omega arith), ordered_at b j k l l ob u at)
        | inr u ↦ let next : (get_or a i d).var < (get_or b k l).var = subst (λ t. (get_or a i d).var < (get_or b t l).var) (sym u) (lt d l (omega arith)) in omega arith
      ]
]

-- the pivot stands in the left list alone
pub lone_left : (a b : List Lit) (p i j : ℕ) (out : List Lit) (d : Lit) → IsOrdered b → Merged a b p i j out → IsNext a b i j Left → (get_or a i d).var ≡ p → HasNoResolvent a b p
lone_left a b p i j out d ob m n pivot =
    inl (λ (sign, at, bt). not_between a b p i j out d (literal p (not sign)) ob m n bt (sym pivot))

-- the pivot stands in the right list alone
pub lone_right : (a b : List Lit) (p i j : ℕ) (out : List Lit) (d : Lit) → IsOrdered a → Merged a b p i j out → IsNext a b i j Right → (get_or b j d).var ≡ p → HasNoResolvent a b p
lone_right a b p i j out d oa m n pivot =
    inl (λ (sign, at, bt). not_between b a p j i out d (literal p sign) oa (merged_swap a b p i j out m) n at (sym pivot))

-- the pivot has one sign in both lists
pub unlike : (a b : List Lit) (p i j : ℕ) (d : Lit) → IsOrdered a → IsOrdered b → IsNext a b i j Same → (get_or a i d).var ≡ p → HasNoResolvent a b p
unlike a b p i j d oa ob (h, k, same) pivot = inl (λ (sign, at, bt).
    let x : Lit = get_or a i d in
    let left : literal p sign ≡ x = one_literal a _ x oa at (Contains-get_or a i d h) (sym pivot) in
    let right : literal p (not sign) ≡ x = one_literal b _ x ob bt (rw (same d) (Contains-get_or b j d k)) (sym pivot) in
    not_itself sign (ap (λ (l : Lit). l.positive) (left ∙ sym right)))

opposite_at : (a b : List Lit) (i j : ℕ) (d : Lit) → IsNext a b i j Opposite → IsOppositeIn a b (get_or a i d).var
opposite_at a b i j d (h, k, same, opposite) =
    let x : Lit = get_or a i d in
    let y : Lit = get_or b j d in
    let as_literal : y ≡ literal x.var (not x.positive) = rw (same d, ← opposite d) refl in
    (x.positive, Contains-get_or a i d h, subst (Contains b) as_literal (Contains-get_or b j d k))

-- another variable than the pivot has opposite signs
pub clash : (a b : List Lit) (p i j : ℕ) (d : Lit) → IsNext a b i j Opposite → (get_or a i d).var ≢ p → HasNoResolvent a b p
clash a b p i j d n other = inr ((get_or a i d).var, other, opposite_at a b i j d n)

-- the pivot is met
pub met_now : (a b : List Lit) (p i j : ℕ) (d : Lit) → IsNext a b i j Opposite → (get_or a i d).var ≡ p → IsOppositeIn a b p
met_now a b p i j d n pivot = subst (IsOppositeIn a b) pivot (opposite_at a b i j d n)

-- the next literal isn't the pivot's, so what was met stays so
pub met_more : (a b : List Lit) (p i : ℕ) (d : Lit) (met : Bool) → i < length a → (get_or a i d).var ≢ p → IsMet a b p i met → IsMet a b p (i + 1) met
met_more a b p i d true h ne m = m
met_more a b p i d false h ne m = λ l c. elim (Contains-push_cases (take i a) (get_or a i d) l (rw (take_more a i d h) at c)) [
  | inl q ↦ m l q
  | inr q ↦ subst (λ (x : Lit). x.var ≢ p) q ne
]

-- the whole lists are merged, and the pivot was met
resolvent_from_merged : (a b : List Lit) (p : ℕ) (out : List Lit) → IsOrdered a → IsOrdered b → IsOppositeIn a b p → Merged a b p (length a) (length b) out → IsResolvent a b p out
resolvent_from_merged a b p out oa ob (sign, at, bt) m = record {
  sign = sign;
  in_left = at;
  in_right = bt;
  ordered = m.ordered;
  sound = λ l c.
      let where_from = rw (take_all (length a) a (omega arith), take_all (length b) b (omega arith)) at (m.sound l c) in
      elim where_from.1 [
        | inl q ↦ inl (q, λ e. where_from.0 (ap (λ (x : Lit). x.var) e))
        | inr q ↦ inr (q, λ e. where_from.0 (ap (λ (x : Lit). x.var) e))
      ];
  left = λ l c n. m.left l (λ same. n (one_literal a l (literal p sign) oa c at same)) (rw (take_all (length a) a (omega arith)) c);
  right = λ l c n. m.right l (λ same. n (one_literal b l (literal p (not sign)) ob c bt same)) (rw (take_all (length b) b (omega arith)) c);
}

-- the lists are merged to their ends
pub merged_all : (a b : List Lit) (p i j : ℕ) (out : List Lit) (met : Bool) → IsOrdered a → IsOrdered b → length a ≤ i → length b ≤ j → Merged a b p i j out → IsMet a b p i met → MatchBool met (IsResolvent a b p out) (HasNoResolvent a b p)
merged_all a b p i j out true oa ob h k m met =
    let at : i ≡ length a = omega (arith, m.left_in) in
    let bt : j ≡ length b = omega (arith, m.right_in) in
    resolvent_from_merged a b p out oa ob met (subst (λ t. Merged a b p t (length b) out) at (subst (λ t. Merged a b p i t out) bt m))
merged_all a b p i j out false oa ob h k m met =
    inl (λ (sign, at, bt). met (literal p sign) (subst (λ t. Contains t (literal p sign)) (sym (take_all i a h)) at) refl)
