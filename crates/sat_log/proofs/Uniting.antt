-- Ordered clauses that clash on the pivot alone have a resolvent.
use Rattle.std.proofs.Common.{◌≡◌, ◌≢◌, ℕ, zero, suc, ◌<◌, not, List, [], ◌∷◌, get_or, ◌⊎◌, inl, inr, sym, ap, ◌∙◌, subst, arith}
use Rattle.std.specs.Prelude.{Contains}
use Rattle.std.proofs.lemmas.List.Elements.{Contains-get_or}
use Rattle.std.proofs.lemmas.Bool.{cases_eq, cases_order}
use Rattle.ut_logic.specs.declared.literals.Lit.{Lit}
use Rattle.ut_logic.specs.Clauses.{literal, IsOrdered}
use Rattle.log_check.specs.Resolution.{IsOppositeIn, IsResolvent}
use Rattle.log_check.proofs.Merging.{one_literal, literal_same}
use Rattle.log_check.proofs.Resolvents.{contains_head, contains_tail, contains_cases, contains_nothing}
use Rattle.sat_log.proofs.RunLemmas.{same_or_turned}

ordered_none : IsOrdered []
ordered_none i j d lt h = absurd (omega (arith, h))

ordered_cons : (x : Lit) (xs : List Lit) → ((m : Lit) → Contains xs m → x.var < m.var) → IsOrdered xs → IsOrdered (x ∷ xs)
ordered_cons x xs below o zero zero d lt h = absurd (omega (arith, lt))
ordered_cons x xs below o zero (suc j) d lt h = below (get_or xs j d) (Contains-get_or xs j d (omega (arith, h)))
ordered_cons x xs below o (suc i) zero d lt h = absurd (omega (arith, lt))
ordered_cons x xs below o (suc i) (suc j) d lt h = o i j d (omega (arith, lt)) (omega (arith, h))

ordered_head : (x : Lit) (xs : List Lit) (l : Lit) → IsOrdered (x ∷ xs) → Contains xs l → x.var < l.var
ordered_head x xs l o h = subst (λ (y : Lit). x.var < y.var) h.2 (o 0 (suc h.0) l (omega arith) (omega (arith, h.1)))

ordered_tail : (x : Lit) (xs : List Lit) → IsOrdered (x ∷ xs) → IsOrdered xs
ordered_tail x xs o i j d h k = o (suc i) (suc j) d (omega arith) (omega arith)

-- an ordered list that has a literal more
record With (l : Lit) (xs : List Lit) : Type 0 where
  list : List Lit
  ordered : IsOrdered list
  sound : (m : Lit) → Contains list m → (m ≡ l) ⊎ Contains xs m
  all : (m : Lit) → Contains xs m → Contains list m
  has : Contains list l

with_literal : (l : Lit) (xs : List Lit) → IsOrdered xs → ((m : Lit) → Contains xs m → m.var ≡ l.var → m ≡ l) → With l xs
with_literal l [] o same = record {
  list = l ∷ [];
  ordered = ordered_cons l [] (λ m i. absurd (contains_nothing m i)) ordered_none;
  sound = λ m i. elim (contains_cases l [] m i) [ inl e ↦ inl (sym e) | inr j ↦ inr j ];
  all = λ m i. absurd (contains_nothing m i);
  has = contains_head l [];
}
with_literal l (x ∷ xs) o same = elim (cases_order l.var x.var) [
  | inl e ↦ record {
    list = x ∷ xs;
    ordered = o;
    sound = λ m i. inr i;
    all = λ m i. i;
    has = subst (Contains (x ∷ xs)) (same x (contains_head x xs) (sym e)) (contains_head x xs);
  }
  | inr q ↦ elim q [
    | inl below ↦ record {
      list = l ∷ x ∷ xs;
      ordered = ordered_cons l (x ∷ xs) (λ m i. elim (contains_cases x xs m i) [
        | inl e ↦ subst (λ (t : Lit). l.var < t.var) e below
        | inr j ↦ omega (arith, ordered_head x xs m o j)
      ]) o;
      sound = λ m i. elim (contains_cases l (x ∷ xs) m i) [ inl e ↦ inl (sym e) | inr j ↦ inr j ];
      all = λ m i. contains_tail l (x ∷ xs) m i;
      has = contains_head l (x ∷ xs);
    }
    | inr above ↦
        let rest = with_literal l xs (ordered_tail x xs o) (λ m i. same m (contains_tail x xs m i)) in
        record {
          list = x ∷ rest.list;
          ordered = ordered_cons x rest.list (λ m i. elim (rest.sound m i) [
            | inl e ↦ subst (λ (t : Lit). x.var < t.var) (sym e) above
            | inr j ↦ ordered_head x xs m o j
          ]) rest.ordered;
          sound = λ m i. elim (contains_cases x rest.list m i) [
            | inl e ↦ inr (subst (Contains (x ∷ xs)) e (contains_head x xs))
            | inr j ↦ elim (rest.sound m j) [ inl e ↦ inl e | inr k ↦ inr (contains_tail x xs m k) ]
          ];
          all = λ m i. elim (contains_cases x xs m i) [
            | inl e ↦ subst (Contains (x ∷ rest.list)) e (contains_head x rest.list)
            | inr j ↦ contains_tail x rest.list m (rest.all m j)
          ];
          has = contains_tail x rest.list l rest.has;
        }
  ]
]

-- an ordered list without a variable
record Without (p : ℕ) (xs : List Lit) : Type 0 where
  list : List Lit
  ordered : IsOrdered list
  sound : (m : Lit) → Contains list m → Contains xs m × (m.var ≢ p)
  all : (m : Lit) → Contains xs m → m.var ≢ p → Contains list m

without : (p : ℕ) (xs : List Lit) → IsOrdered xs → Without p xs
without p [] o = record {
  list = [];
  ordered = ordered_none;
  sound = λ m i. absurd (contains_nothing m i);
  all = λ m i n. i;
}
without p (x ∷ xs) o =
    let rest = without p xs (ordered_tail x xs o) in
    elim (cases_eq x.var p) [
      | inl e ↦ record {
        list = rest.list;
        ordered = rest.ordered;
        sound = λ m i. let s = rest.sound m i in (contains_tail x xs m s.0, s.1);
        all = λ m i n. elim (contains_cases x xs m i) [
          | inl f ↦ absurd (n (ap (λ (t : Lit). t.var) (sym f) ∙ e))
          | inr j ↦ rest.all m j n
        ];
      }
      | inr other ↦ record {
        list = x ∷ rest.list;
        ordered = ordered_cons x rest.list (λ m i. ordered_head x xs m o (rest.sound m i).0) rest.ordered;
        sound = λ m i. elim (contains_cases x rest.list m i) [
          | inl f ↦ (subst (Contains (x ∷ xs)) f (contains_head x xs), subst (λ (t : Lit). t.var ≢ p) f other)
          | inr j ↦ let s = rest.sound m j in (contains_tail x xs m s.0, s.1)
        ];
        all = λ m i n. elim (contains_cases x xs m i) [
          | inl f ↦ subst (Contains (x ∷ rest.list)) f (contains_head x rest.list)
          | inr j ↦ contains_tail x rest.list m (rest.all m j n)
        ];
      }
    ]

-- an ordered list of the literals of both
record Union (xs ys : List Lit) : Type 0 where
  list : List Lit
  ordered : IsOrdered list
  sound : (m : Lit) → Contains list m → Contains xs m ⊎ Contains ys m
  left : (m : Lit) → Contains xs m → Contains list m
  right : (m : Lit) → Contains ys m → Contains list m

union : (xs ys : List Lit) → IsOrdered xs → IsOrdered ys → ((m k : Lit) → Contains xs m → Contains ys k → m.var ≡ k.var → m ≡ k) → Union xs ys
union xs [] o q agree = record {
  list = xs;
  ordered = o;
  sound = λ m i. inl i;
  left = λ m i. i;
  right = λ m i. absurd (contains_nothing m i);
}
union xs (y ∷ ys) o q agree =
    let rest = union xs ys o (ordered_tail y ys q) (λ m k i j. agree m k i (contains_tail y ys k j)) in
    let more = with_literal y rest.list rest.ordered (λ m i e. elim (rest.sound m i) [
      | inl j ↦ agree m y j (contains_head y ys) e
      | inr j ↦ absurd (omega (arith, ordered_head y ys m q j))
    ]) in
    record {
      list = more.list;
      ordered = more.ordered;
      sound = λ m i. elim (more.sound m i) [
        | inl e ↦ inr (subst (Contains (y ∷ ys)) (sym e) (contains_head y ys))
        | inr j ↦ elim (rest.sound m j) [ inl k ↦ inl k | inr k ↦ inr (contains_tail y ys m k) ]
      ];
      left = λ m i. more.all m (rest.left m i);
      right = λ m i. elim (contains_cases y ys m i) [
        | inl e ↦ subst (Contains more.list) e more.has
        | inr j ↦ more.all m (rest.right m j)
      ];
    }

pub resolvent_exists : (a b : List Lit) (p : ℕ) → IsOrdered a → IsOrdered b → IsOppositeIn a b p → ((x : ℕ) → x ≢ p → ¬ IsOppositeIn a b x) → (r : List Lit) × IsResolvent a b p r
resolvent_exists a b p oa ob (sign, at, bt) clear =
    let left = without p a oa in
    let right = without p b ob in
    let both = union left.list right.list left.ordered right.ordered (λ m k i j e.
    let from_a = left.sound m i in
    let from_b = right.sound k j in
    elim (same_or_turned k.positive m.positive) [
      | inl s ↦ literal_same m.var k.var m.positive k.positive e (sym s)
      | inr t ↦ absurd (clear m.var from_a.1 (m.positive, from_a.0, subst (Contains b) (literal_same k.var m.var k.positive (not m.positive) (sym e) t) from_b.0))
    ]) in (
      both.list,
      record {
        sign = sign;
        in_left = at;
        in_right = bt;
        ordered = both.ordered;
        sound = λ l i. elim (both.sound l i) [
          | inl j ↦ let s = left.sound l j in inl (s.0, λ e. s.1 (ap (λ (t : Lit). t.var) e))
          | inr j ↦ let s = right.sound l j in inr (s.0, λ e. s.1 (ap (λ (t : Lit). t.var) e))
        ];
        left = λ l i n. both.left l (left.all l i (λ e. n (one_literal a l (literal p sign) oa i at e)));
        right = λ l i n. both.right l (right.all l i (λ e. n (one_literal b l (literal p (not sign)) ob i bt e)));
      },
    )
