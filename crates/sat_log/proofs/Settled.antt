-- Slack before each decided literal, from move to move.
use Rattle.std.proofs.Common.{◌≡◌, ◌≢◌, false, List, [], ◌∷◌, ◌++◌, ◌⊎◌, inl, inr, refl, sym, ap, ◌∙◌, subst}
use Rattle.std.specs.Prelude.{Contains}
use Rattle.std.proofs.lemmas.List.{append_assoc}
use Rattle.std.proofs.lemmas.List.Elements.{Contains-push_cases}
use Rattle.ut_logic.specs.declared.literals.Lit.{Lit}
use Rattle.ut_logic.specs.Clauses.{negated}
use Rattle.log_check.proofs.Resolvents.{contains_head, contains_tail, contains_cases, contains_nothing, cases_literal}
use Rattle.log_check.proofs.Merging.{not_itself}
use Rattle.sat_log.specs.declared.marks.Mark.{Mark}
use Rattle.sat_log.specs.Moves.{set_literals, IsSet, IsFalse, IsUnset, IsFalseClause, IsForcing, IsQuiet}
use Rattle.sat_log.specs.Inner.{HasSlack, IsSettled, IsFirstCut, AreApart}
use Rattle.sat_log.proofs.RunLemmas.{set_left, differ}

-- what is set can be decided

pub dec_set : (ls : List Lit) (l : Lit) → Contains ls l ⊎ ¬ Contains ls l
dec_set [] l = inr (contains_nothing l)
dec_set (x ∷ xs) l = elim (cases_literal x l) [
  | inl e ↦ inl (subst (Contains (x ∷ xs)) e (contains_head x xs))
  | inr n ↦ elim (dec_set xs l) [
    | inl q ↦ inl (contains_tail x xs l q)
    | inr m ↦ inr (λ i. elim (contains_cases x xs l i) [ inl e ↦ n e | inr q ↦ m q ])
  ]
]

-- a literal is true, false or unset
pub cases_set : (ms : List Mark) (l : Lit) → IsSet ms l ⊎ (IsFalse ms l ⊎ IsUnset ms l)
cases_set ms l = elim (dec_set (set_literals ms) l) [
  | inl q ↦ inl q
  | inr n ↦ elim (dec_set (set_literals ms) (negated l)) [
    | inl q ↦ inr (inl q)
    | inr m ↦ inr (inr (n, m))
  ]
]

-- a clause has a true literal, or an unset one, or each is false; P says which literals don't count
pub one_unset : (ms : List Mark) (c : List Lit) (l : Lit) → ((k : Lit) → Contains c k → ¬ IsSet ms k) → ((k : Lit) × Contains c k × (k ≢ l) × IsUnset ms k) ⊎ ((k : Lit) → Contains c k → k ≢ l → IsFalse ms k)
one_unset ms [] l n = inr (λ k i. absurd (contains_nothing k i))
one_unset ms (x ∷ xs) l n = elim (one_unset ms xs l (λ k i. n k (contains_tail x xs k i))) [
  | inl q ↦ inl (q.0, contains_tail x xs q.0 q.1, q.2, q.3)
  | inr rest ↦ elim (cases_literal x l) [
    | inl e ↦ inr (λ k i ne. elim (contains_cases x xs k i) [ inl f ↦ absurd (ne (sym f ∙ e)) | inr j ↦ rest k j ne ])
    | inr d ↦ elim (cases_set ms x) [
      | inl q ↦ absurd (n x (contains_head x xs) q)
      | inr q ↦ elim q [
        | inl f ↦ inr (λ k i ne. elim (contains_cases x xs k i) [ inl g ↦ subst (IsFalse ms) g f | inr j ↦ rest k j ne ])
        | inr u ↦ inl (x, contains_head x xs, d, u)
      ]
    ]
  ]
]

pub any_unset : (ms : List Mark) (c : List Lit) → ((k : Lit) → Contains c k → ¬ IsSet ms k) → ((k : Lit) × Contains c k × IsUnset ms k) ⊎ IsFalseClause ms c
any_unset ms [] n = inr (λ k i. absurd (contains_nothing k i))
any_unset ms (x ∷ xs) n = elim (cases_set ms x) [
  | inl q ↦ absurd (n x (contains_head x xs) q)
  | inr q ↦ elim q [
    | inr u ↦ inl (x, contains_head x xs, u)
    | inl f ↦ elim (any_unset ms xs (λ k i. n k (contains_tail x xs k i))) [
      | inl r ↦ inl (r.0, contains_tail x xs r.0 r.1, r.2)
      | inr all ↦ inr (λ k i. elim (contains_cases x xs k i) [ inl e ↦ subst (IsFalse ms) e f | inr j ↦ all k j ])
    ]
  ]
]

pub any_true : (ms : List Mark) (c : List Lit) → ((k : Lit) × Contains c k × IsSet ms k) ⊎ ((k : Lit) → Contains c k → ¬ IsSet ms k)
any_true ms [] = inr (λ k i s. contains_nothing k i)
any_true ms (x ∷ xs) = elim (dec_set (set_literals ms) x) [
  | inl q ↦ inl (x, contains_head x xs, q)
  | inr n ↦ elim (any_true ms xs) [
    | inl r ↦ inl (r.0, contains_tail x xs r.0 r.1, r.2)
    | inr all ↦ inr (λ k i s. elim (contains_cases x xs k i) [ inl e ↦ n (subst (IsSet ms) (sym e) s) | inr j ↦ all k j s ])
  ]
]

-- a clause that is neither false nor forcing has slack
pub slack_from_quiet : (ms : List Mark) (c : List Lit) → ¬ IsFalseClause ms c → ¬ IsForcing ms c → HasSlack ms c
slack_from_quiet ms c nf nu = elim (any_true ms c) [
  | inl q ↦ inl q
  | inr none ↦ elim (any_unset ms c none) [
    | inr all ↦ absurd (nf all)
    | inl l ↦ elim (one_unset ms c l.0 none) [
      | inl m ↦ inr (l.0, m.0, l.1, m.1, (λ e. m.2 (sym e)), l.2, m.3)
      | inr rest ↦ absurd (nu (l.0, record { inside = l.1; unset = l.2; others = rest }))
    ]
  ]
]

pub mark_of : (ms : List Mark) (l : Lit) → IsSet ms l → (m : Mark) × Contains ms m × (m.lit ≡ l)
mark_of [] l h = absurd (contains_nothing l h)
mark_of (x ∷ xs) l h = elim (contains_cases x.lit (set_literals xs) l h) [
  | inl e ↦ (x, contains_head x xs, e)
  | inr q ↦ let m = mark_of xs l q in (m.0, contains_tail x xs m.0 m.1, m.2)
]

-- a variable has one sign
pub both_set : (ms : List Mark) (l : Lit) → AreApart ms → IsSet ms l → IsFalse ms l → ⊥
both_set [] l a s f = contains_nothing l s
both_set (x ∷ xs) l a s f = elim (contains_cases x.lit (set_literals xs) l s) [
  | inl e ↦ elim (contains_cases x.lit (set_literals xs) (negated l) f) [
    | inl g ↦ not_itself l.positive (ap (λ (t : Lit). t.positive) (sym e ∙ g))
    | inr q ↦ let m = mark_of xs (negated l) q in a.0 m.0 m.1 (ap (λ (t : Lit). t.var) e ∙ sym (ap (λ (t : Lit). t.var) m.2))
  ]
  | inr p ↦ elim (contains_cases x.lit (set_literals xs) (negated l) f) [
    | inl g ↦ let m = mark_of xs l p in a.0 m.0 m.1 (ap (λ (t : Lit). t.var) g ∙ sym (ap (λ (t : Lit). t.var) m.2))
    | inr q ↦ both_set xs l a.1 p q
  ]
]

-- where a split of an extended list lies

pub split_push : (xs : List Mark) (m : Mark) (kept : List Mark) (cut : Mark) (gone : List Mark) → xs ++ m ∷ [] ≡ kept ++ cut ∷ gone → ((xs ≡ kept) × (m ≡ cut)) ⊎ ((rest : List Mark) × (xs ≡ kept ++ cut ∷ rest))
split_push [] m [] cut [] e = inl (refl, cc)
split_push [] m [] cut (g ∷ gs) e = absurd (cc)
split_push [] m (k ∷ []) cut gone e = absurd (cc)
split_push [] m (k ∷ j ∷ ks) cut gone e = absurd (cc)
split_push (x ∷ xs) m [] cut gone e = let f : x ≡ cut = cc in inr (xs, ap (λ t. t ∷ xs) f)
split_push (x ∷ xs) m (k ∷ ks) cut gone e =
    let head : x ≡ k = cc in
    let tail : xs ++ m ∷ [] ≡ ks ++ cut ∷ gone = cc in
    elim (split_push xs m ks cut gone tail) [
      | inl q ↦ inl ((let f : xs ≡ ks = q.0 in cc), q.1)
      | inr q ↦ inr (q.0, (let f : xs ≡ ks ++ cut ∷ q.0 = q.1 in cc))
    ]

pub settled_decided : (known : List (List Lit)) (ms : List Mark) (m : Mark) → IsSettled known ms → IsQuiet known ms → IsSettled known (ms ++ m ∷ [])
settled_decided known ms m s quiet kept cut gone e d c i = elim (split_push ms m kept cut gone e) [
  | inl q ↦ subst (λ t. HasSlack t c) q.0 (slack_from_quiet ms c (quiet.none_false c i) (quiet.none_forcing c i))
  | inr q ↦ s kept cut q.0 q.1 d c i
]

pub settled_forced : (known : List (List Lit)) (ms : List Mark) (m : Mark) → m.decided ≡ false → IsSettled known ms → IsSettled known (ms ++ m ∷ [])
settled_forced known ms m f s kept cut gone e d c i = elim (split_push ms m kept cut gone e) [
  | inl q ↦ absurd (differ (sym d ∙ ap (λ (t : Mark). t.decided) (sym q.1) ∙ f))
  | inr q ↦ s kept cut q.0 q.1 d c i
]

-- a literal that is unset under a trail is unset under a front of it
unset_front : (xs ys : List Mark) (l : Lit) → IsUnset (xs ++ ys) l → IsUnset xs l
unset_front xs ys l u = ((λ s. u.0 (set_left xs ys l s)), (λ s. u.1 (set_left xs ys (negated l) s)))

-- the line behind the first cut that it forces at has slack before each decided literal that stays
pub settled_jumped : (known : List (List Lit)) (kept : List Mark) (cut : Mark) (gone : List Mark) (r : List Lit) → AreApart kept → IsSettled known (kept ++ cut ∷ gone) → IsForcing kept r → IsFirstCut kept r → IsSettled (known ++ r ∷ []) kept
settled_jumped known kept cut gone r a s (l, f) first before d after e dd c i = elim (Contains-push_cases known r c i) [
  | inl q ↦
      let longer : kept ++ cut ∷ gone ≡ before ++ d ∷ (after ++ cut ∷ gone) = ap (λ t. t ++ cut ∷ gone) e ∙ append_assoc before (d ∷ after) (cut ∷ gone) in
      s before d (after ++ cut ∷ gone) longer dd c q
  | inr q ↦
      let here : IsUnset before l = unset_front before (d ∷ after) l (subst (λ t. IsUnset t l) e f.unset) in
      let none_true : (k : Lit) → Contains r k → ¬ IsSet before k = λ k j t.
      elim (cases_literal k l) [
        | inl g ↦ here.0 (subst (IsSet before) g t)
        | inr n ↦ both_set kept k a (subst (λ u. IsSet u k) (sym e) (set_left before (d ∷ after) k t)) (f.others k j n)
      ] in
      subst (HasSlack before) q (elim (one_unset before r l none_true) [
        | inl m ↦ inr (l, m.0, f.inside, m.1, (λ g. m.2 (sym g)), here, m.3)
        | inr rest ↦ absurd (first before d after e dd (l, record { inside = f.inside; unset = here; others = rest }))
      ])
]
