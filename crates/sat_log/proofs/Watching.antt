-- Clauses whose watches are fine, or which wait.
use Rattle.std.proofs.Common.{◌≡◌, ◌≢◌, ℕ, ◌<◌, ◌≤◌, Bool, true, false, List, [], ◌∷◌, ◌++◌, map, ◌⊎◌, inl, inr, refl, sym, ap, ◌∙◌, subst}
use Rattle.std.specs.Prelude.{Contains}
use Rattle.std.proofs.lemmas.List.{append_assoc}
use Rattle.ut_logic.specs.declared.literals.Lit.{Lit}
use Rattle.ut_logic.specs.Clauses.{negated}
use Rattle.log_check.proofs.Resolvents.{cases_literal}
use Rattle.sat_log.specs.declared.marks.Mark.{Mark}
use Rattle.sat_log.specs.Moves.{IsSet, IsFalse, IsUnset, IsFalseClause, Forces, IsForcing}
use Rattle.sat_log.specs.Inner.{AreApart}
use Rattle.sat_log.specs.Watches.{IsFine, IsFineBefore, HasOneLeft, IsGood}
use Rattle.sat_log.proofs.RunLemmas.{set_left, differ}
use Rattle.sat_log.proofs.Places.{set_push_cases, set_last}
use Rattle.sat_log.proofs.Back.{double, apart_split}
use Rattle.sat_log.proofs.Settled.{both_set, cases_set, split_push, mark_of}
use Rattle.log_check.proofs.Resolvents.{contains_head}

pub same_negated : (a b : Lit) → negated a ≡ negated b → a ≡ b
same_negated a b e = sym (double a) ∙ ap negated e ∙ double b

-- what fine watches exclude

pub fine_not_false : (ms : List Mark) (c : List Lit) (a b : Lit) → AreApart ms → IsFine ms c a b → ¬ IsFalseClause ms c
fine_not_false ms c a b apart (ia, ib, inl s) f = both_set ms a apart s (f a ia)
fine_not_false ms c a b apart (ia, ib, inr (inl s)) f = both_set ms b apart s (f b ib)
fine_not_false ms c a b apart (ia, ib, inr (inr n)) f = n.1 (f a ia)

true_not_forced : (ms : List Mark) (c : List Lit) (a l : Lit) → AreApart ms → Contains c a → IsSet ms a → Forces ms c l → ⊥
true_not_forced ms c a l apart i s f = elim (cases_literal a l) [
  | inl e ↦ f.unset.0 (subst (IsSet ms) e s)
  | inr n ↦ both_set ms a apart s (f.others a i n)
]

pub fine_not_forcing : (ms : List Mark) (c : List Lit) (a b : Lit) → AreApart ms → IsFine ms c a b → ¬ IsForcing ms c
fine_not_forcing ms c a b apart (ia, ib, inl s) (l, f) = true_not_forced ms c a l apart ia s f
fine_not_forcing ms c a b apart (ia, ib, inr (inl s)) (l, f) = true_not_forced ms c b l apart ib s f
fine_not_forcing ms c a b apart (ia, ib, inr (inr n)) (l, f) = elim (cases_literal a l) [
  | inl e ↦ n.2 (f.others b ib (λ g. n.0 (e ∙ sym g)))
  | inr k ↦ n.1 (f.others a ia k)
]

-- a clause that is good is not false

pub good_not_false : (ms : List Mark) (list : List ℕ) (k : ℕ) (c : List Lit) (a b : Lit) → AreApart ms → IsGood ms list k c a b → ¬ IsFalseClause ms c
good_not_false ms list k c a b apart g f = elim g.fine [
  | inl fine ↦ fine_not_false ms c a b apart fine f
  | inr w ↦ free (g.waits w)
]
  where
    free : HasOneLeft ms c a b → ⊥
    free (l, w, i, o, others) = o (f l i)

-- one that is good and forces nothing is fine
pub quiet_fine : (ms : List Mark) (list : List ℕ) (k : ℕ) (c : List Lit) (a b : Lit) → IsGood ms list k c a b → ¬ IsForcing ms c → IsFine ms c a b
quiet_fine ms list k c a b g quiet = elim g.fine [ inl fine ↦ fine | inr w ↦ by (g.waits w) ]
  where
    at : (l : Lit) → (l ≡ a) ⊎ (l ≡ b) → IsSet ms l → IsFine ms c a b
    at l (inl e) s = (g.first, g.second, inl (subst (IsSet ms) e s))
    at l (inr e) s = (g.first, g.second, inr (inl (subst (IsSet ms) e s)))

    by : HasOneLeft ms c a b → IsFine ms c a b
    by (l, w, i, o, others) = elim (cases_set ms l) [
      | inl s ↦ at l w s
      | inr q ↦ elim q [
        | inl f ↦ absurd (o f)
        | inr u ↦ absurd (quiet (l, record { inside = i; unset = u; others = others }))
      ]
    ]

-- one that waits and has no true watch forces a literal
pub left_forcing : (ms : List Mark) (c : List Lit) (a b : Lit) → HasOneLeft ms c a b → ¬ IsSet ms a → ¬ IsSet ms b → IsForcing ms c
left_forcing ms c a b (l, w, i, o, others) na nb = (l, record { inside = i; unset = (not_set w, o); others = others })
  where
    not_set : (l ≡ a) ⊎ (l ≡ b) → ¬ IsSet ms l
    not_set (inl e) s = na (subst (IsSet ms) e s)
    not_set (inr e) s = nb (subst (IsSet ms) e s)

-- a mark that isn't the negation of a watch

pub fine_push : (ms : List Mark) (m : Mark) (c : List Lit) (a b : Lit) → m.lit ≢ negated a → m.lit ≢ negated b → IsFine ms c a b → IsFine (ms ++ m ∷ []) c a b
fine_push ms m c a b na nb (ia, ib, inl s) = (ia, ib, inl (set_left ms (m ∷ []) a s))
fine_push ms m c a b na nb (ia, ib, inr (inl s)) = (ia, ib, inr (inl (set_left ms (m ∷ []) b s)))
fine_push ms m c a b na nb (ia, ib, inr (inr n)) = (
  ia,
  ib,
  inr (inr (
    n.0,
    (λ f. elim (set_push_cases ms m (negated a) f) [ inl q ↦ n.1 q | inr e ↦ na e ]),
    (λ f. elim (set_push_cases ms m (negated b) f) [ inl q ↦ n.2 q | inr e ↦ nb e ]),
  )),
)

left_push : (ms : List Mark) (m : Mark) (c : List Lit) (a b : Lit) → m.lit ≢ negated a → m.lit ≢ negated b → HasOneLeft ms c a b → HasOneLeft (ms ++ m ∷ []) c a b
left_push ms m c a b na nb (l, w, i, o, others) = (l, w, i, free, λ k j n. set_left ms (m ∷ []) (negated k) (others k j n))
  where
    free : ¬ IsFalse (ms ++ m ∷ []) l
    free f = elim (set_push_cases ms m (negated l) f) [
      | inl q ↦ o q
      | inr e ↦ elim w [
        | inl g ↦ na (e ∙ ap negated g)
        | inr g ↦ nb (e ∙ ap negated g)
      ]
    ]

pub good_push : (ms : List Mark) (m : Mark) (list : List ℕ) (k : ℕ) (c : List Lit) (a b : Lit) → m.lit ≢ negated a → m.lit ≢ negated b → IsGood ms list k c a b → IsGood (ms ++ m ∷ []) list k c a b
good_push ms m list k c a b na nb g = record {
  first = g.first;
  second = g.second;
  fine = elim g.fine [ inl f ↦ inl (fine_push ms m c a b na nb f) | inr w ↦ inr w ];
  waits = λ w. left_push ms m c a b na nb (g.waits w);
}

-- another list of those that wait
pub good_list : (ms : List Mark) (list list' : List ℕ) (k : ℕ) (c : List Lit) (a b : Lit) → (Contains list k → Contains list' k) → (Contains list' k → Contains list k) → IsGood ms list k c a b → IsGood ms list' k c a b
good_list ms list list' k c a b more less g = record {
  first = g.first;
  second = g.second;
  fine = elim g.fine [ inl f ↦ inl f | inr w ↦ inr (more w) ];
  waits = λ w. g.waits (less w);
}

-- the watches change places

fine_swap : (ms : List Mark) (c : List Lit) (a b : Lit) → IsFine ms c a b → IsFine ms c b a
fine_swap ms c a b (ia, ib, inl s) = (ib, ia, inr (inl s))
fine_swap ms c a b (ia, ib, inr (inl s)) = (ib, ia, inl s)
fine_swap ms c a b (ia, ib, inr (inr n)) = (ib, ia, inr (inr ((λ e. n.0 (sym e)), n.2, n.1)))

pub before_swap : (ms : List Mark) (c : List Lit) (a b : Lit) → IsFineBefore ms c a b → IsFineBefore ms c b a
before_swap ms c a b h kept cut gone e d = fine_swap kept c a b (h kept cut gone e d)

left_swap : (ms : List Mark) (c : List Lit) (a b : Lit) → HasOneLeft ms c a b → HasOneLeft ms c b a
left_swap ms c a b (l, inl e, i, o, others) = (l, inr e, i, o, others)
left_swap ms c a b (l, inr e, i, o, others) = (l, inl e, i, o, others)

pub good_swap : (ms : List Mark) (list : List ℕ) (k : ℕ) (c : List Lit) (a b : Lit) → IsGood ms list k c a b → IsGood ms list k c b a
good_swap ms list k c a b g = record {
  first = g.second;
  second = g.first;
  fine = elim g.fine [ inl f ↦ inl (fine_swap ms c a b f) | inr w ↦ inr w ];
  waits = λ w. left_swap ms c a b (g.waits w);
}

-- before each decided literal

pub before_push : (ms : List Mark) (m : Mark) (c : List Lit) (a b : Lit) → (m.decided ≡ true → IsFine ms c a b) → IsFineBefore ms c a b → IsFineBefore (ms ++ m ∷ []) c a b
before_push ms m c a b now h kept cut gone e d = elim (split_push ms m kept cut gone e) [
  | inl q ↦ subst (λ t. IsFine t c a b) q.0 (now (ap (λ (t : Mark). t.decided) q.1 ∙ d))
  | inr q ↦ h kept cut q.0 q.1 d
]

pub before_cut : (ms kept : List Mark) (cut : Mark) (gone : List Mark) (c : List Lit) (a b : Lit) → ms ≡ kept ++ cut ∷ gone → IsFineBefore ms c a b → IsFineBefore kept c a b
before_cut ms kept cut gone c a b e h k x g f d =
    h k x (g ++ cut ∷ gone) (e ∙ ap (λ t. t ++ cut ∷ gone) f ∙ append_assoc k (x ∷ g) (cut ∷ gone)) d

-- two literals that aren't false were not false before
pub before_open : (ms : List Mark) (c : List Lit) (a b : Lit) → Contains c a → Contains c b → a ≢ b → ¬ IsFalse ms a → ¬ IsFalse ms b → IsFineBefore ms c a b
before_open ms c a b ia ib n na nb kept cut gone e d = (
  ia,
  ib,
  inr (inr (
    n,
    (λ f. na (subst (λ t. IsFalse t a) (sym e) (set_left kept (cut ∷ gone) (negated a) f))),
    (λ f. nb (subst (λ t. IsFalse t b) (sym e) (set_left kept (cut ∷ gone) (negated b) f))),
  )),
)

-- a look at a clause one of whose watches, w, has just become false; q is the other

module _ (ms : List Mark) (m : Mark) (apart : AreApart (ms ++ m ∷ [])) (w : Lit) (hit : w ≡ negated m.lit) where
  abbrev now : List Mark
  now = ms ++ m ∷ []

  pub false_now : IsFalse now w
  false_now = subst (IsSet now) (sym (ap negated hit ∙ double m.lit)) (set_last ms m)

  fresh : ¬ IsSet ms w
  fresh s = both_set now m.lit apart (set_last ms m) (set_left ms (m ∷ []) (negated m.lit) (subst (IsSet ms) hit s))

  module _ (list : List ℕ) (k : ℕ) (c : List Lit) (q : Lit) (g : IsGood ms list k c w q) where
    -- the other watch is true
    pub seen_true : IsSet now q → IsGood now list k c w q
    seen_true s = record {
      first = g.first;
      second = g.second;
      fine = inl (g.first, g.second, inr (inl s));
      waits = λ i. left (g.waits i);
    }
      where
        left : HasOneLeft ms c w q → HasOneLeft now c w q
        left (l, inr e, i, o, others) = (l, inr e, i, (λ f. both_set now q apart s (subst (IsFalse now) e f)), λ x j n. set_left ms (m ∷ []) (negated x) (others x j n))
        left (l, inl e, i, o, others) = elim (cases_literal q l) [
          | inl f ↦ absurd (both_set now q apart s (subst (IsFalse now) (sym (f ∙ e)) false_now))
          | inr n ↦ absurd (both_set now q apart s (set_left ms (m ∷ []) (negated q) (others q g.second n)))
        ]

    -- the other literals are false, and the other watch isn't
    pub seen_forces : (list' : List ℕ) → Contains list' k → ¬ IsFalse now q → ((x : Lit) → Contains c x → x ≢ q → IsFalse now x) → IsGood now list' k c w q
    seen_forces list' i o others = record {
      first = g.first;
      second = g.second;
      fine = inr i;
      waits = λ _. (q, inr refl, g.second, o, others);
    }

    -- another literal isn't false
    module _ (x : Lit) (inside : Contains c x) (other : x ≢ q) (free : ¬ IsFalse now x) (not_true : ¬ IsSet now q) where
      no_wait : ¬ Contains list k
      no_wait i = by (g.waits i)
        where
          by : HasOneLeft ms c w q → ⊥
          by (l, inr e, j, o, others) = free (set_left ms (m ∷ []) (negated x) (others x inside (λ f. other (f ∙ e))))
          by (l, inl e, j, o, others) = free (set_left ms (m ∷ []) (negated x) (others x inside (λ f. free (subst (IsFalse now) (sym (f ∙ e)) false_now))))

      pub other_free : ¬ IsFalse now q
      other_free f = by g.fine
        where
          by : IsFine ms c w q ⊎ Contains list k → ⊥
          by (inr i) = no_wait i
          by (inl (iw, iq, inl s)) = fresh s
          by (inl (iw, iq, inr (inl s))) = not_true (set_left ms (m ∷ []) q s)
          by (inl (iw, iq, inr (inr n))) = elim (set_push_cases ms m (negated q) f) [
            | inl t ↦ n.2 t
            | inr e ↦ n.0 (hit ∙ ap negated e ∙ double q)
          ]

      pub seen_instead : IsGood now list k c x q
      seen_instead = record {
        first = inside;
        second = g.second;
        fine = inl (inside, g.second, inr (inr (other, free, other_free)));
        waits = λ i. absurd (no_wait i);
      }

      pub before_instead : IsFineBefore now c x q
      before_instead = before_open now c x q inside g.second other free other_free
