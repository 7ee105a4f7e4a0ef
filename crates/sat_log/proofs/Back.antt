-- Resolving forced literals away from a false clause.
use Rattle.std.proofs.Common.{◌≡◌, ◌≢◌, ℕ, ◌+◌, ◌-◌, ◌<◌, ◌≤◌, Bool, true, false, not, List, [], ◌∷◌, ◌++◌, length, get_or, take, drop, inl, inr, refl, sym, ap, ◌∙◌, subst, arith}
use Rattle.std.specs.Prelude.{Contains}
use Rattle.std.proofs.lemmas.List.{take-append-drop, take_more, drop_more, get_or_default, get_or-drop, length-drop}
use Rattle.std.proofs.lemmas.List.Elements.{Contains-append_right, Contains-get_or}
use Rattle.std.proofs.lemmas.Bool.{cases_lt}
use Rattle.ut_logic.specs.declared.literals.Lit.{Lit}
use Rattle.log_check.specs.declared.derivations.PivotOf.{PivotOf}
use Rattle.ut_logic.specs.Clauses.{literal, negated}
use Rattle.log_check.specs.Resolution.{IsResolvent, HasNoResolvent}
use Rattle.log_check.specs.Derivations.{IsNumbered, ResolvesTo}
use Rattle.log_check.proofs.Resolvents.{contains_head, contains_cases, contains_nothing, cases_literal}
use Rattle.log_check.proofs.Deriving.{numbered_once}
use Rattle.sat_log.specs.declared.marks.Mark.{Mark}
use Rattle.sat_log.specs.Moves.{IsSet, IsFalse, IsUnset, IsFalseClause}
use Rattle.sat_log.specs.Inner.{IsReason, AreReasons, AreApart, IsBackAt, IsStepBack}
use Rattle.sat_log.proofs.RunLemmas.{set_left, set_from_mark}
use Rattle.sat_log.proofs.Places.{set_push_cases}
use Rattle.sat_log.proofs.Settled.{both_set, mark_of}

pub not_not : (s : Bool) → not (not s) ≡ s
not_not true = refl
not_not false = refl

-- one more pair

pub gives_more : (known : List (List Lit)) (first acc c r : List Lit) (ps : List PivotOf) (p : PivotOf) → ResolvesTo known first ps acc → IsNumbered known p.clause c → IsResolvent acc c p.pivot r → ResolvesTo known first (ps ++ p ∷ []) r
gives_more known first acc c r [] p g n m = (c, r, n, subst (λ (t : List Lit). IsResolvent t c p.pivot r) (sym g) m, refl)
gives_more known first acc c r (q ∷ qs) p (e, mid, i, res, g) n m = (e, mid, i, res, gives_more known mid acc c r qs p g n m)

-- a false clause and a reason resolve

-- the reason of a literal set in the trail: its other literals are false in the whole trail
reason_false : (before : List Mark) (m : Mark) (after : List Mark) (c : List Lit) → IsReason before m.lit c → (k : Lit) → Contains c k → k ≢ m.lit → IsFalse (before ++ m ∷ after) k
reason_false before m after c r k i n = set_left before (m ∷ after) (negated k) (r.others k i n)

pub resolves : (before : List Mark) (m : Mark) (after : List Mark) (acc c : List Lit) → AreApart (before ++ m ∷ after) → IsFalseClause (before ++ m ∷ after) acc → IsReason before m.lit c → Contains acc (negated m.lit) → ¬ HasNoResolvent acc c m.lit.var
resolves before m after acc c a f r i (inl n) = n (not m.lit.positive, i, subst (λ s. Contains c (literal m.lit.var s)) (sym (not_not m.lit.positive)) r.inside)
resolves before m after acc c a f r i (inr (x, ne, (s, at, bt))) =
    both_set (before ++ m ∷ after) (literal x (not s)) a (f (literal x s) at)
    (reason_false before m after c r (literal x (not s)) bt (λ e. ne (ap (λ (l : Lit). l.var) e)))

neither : (p s : Bool) → (not s ≡ p → ⊥) → (s ≡ p → ⊥) → ⊥
neither true true f g = g refl
neither true false f g = f refl
neither false true f g = f refl
neither false false f g = g refl

-- the pivot's literals in a resolvent of a false clause and a reason
signs : (before : List Mark) (m : Mark) (after : List Mark) (acc c r : List Lit) → AreApart (before ++ m ∷ after) → IsFalseClause (before ++ m ∷ after) acc → (res : IsResolvent acc c m.lit.var r) → literal m.lit.var (not res.sign) ≡ m.lit
signs before m after acc c r a f res = elim (cases_literal (literal m.lit.var (not res.sign)) m.lit) [
  | inl e ↦ e
  | inr n ↦ elim (cases_literal (literal m.lit.var res.sign) m.lit) [
    | inl e ↦ absurd (both_set (before ++ m ∷ after) (literal m.lit.var res.sign) a (subst (IsSet (before ++ m ∷ after)) (sym e) (set_from_mark (before ++ m ∷ after) m (Contains-append_right before (m ∷ after) m (contains_head m after)))) (f _ res.in_left))
    | inr k ↦ absurd (neither m.lit.positive res.sign (λ e. n (ap (literal m.lit.var) e)) (λ e. k (ap (literal m.lit.var) e)))
  ]
]

-- the trail as what stands before a place, the mark there, and the rest

pub split_at : (ms : List Mark) (i : ℕ) (d : Mark) → i < length ms → take i ms ++ get_or ms i d ∷ drop (i + 1) ms ≡ ms
split_at ms i d h = ap (λ t. take i ms ++ t) (sym (drop_more ms i d h)) ∙ take-append-drop i ms

pub apart_split : (xs ys : List Mark) (m k : Mark) → AreApart (xs ++ ys) → Contains xs m → Contains ys k → m.lit.var ≢ k.lit.var
apart_split [] ys m k a i j = absurd (contains_nothing m i)
apart_split (x ∷ xs) ys m k a i j = elim (contains_cases x xs m i) [
  | inl e ↦ subst (λ (t : Mark). t.lit.var ≢ k.lit.var) e (a.0 k (Contains-append_right xs ys k j))
  | inr q ↦ apart_split xs ys m k a.1 q j
]

-- what is set before a place is set by no mark from there on
pub apart_later : (ms : List Mark) (i j : ℕ) (d : Mark) → AreApart ms → i ≤ j → j < length ms → IsSet (take i ms) (get_or ms j d).lit → ⊥
apart_later ms i j d a low high s =
    let m = mark_of (take i ms) (get_or ms j d).lit s in
    let whole : take i ms ++ drop i ms ≡ ms = take-append-drop i ms in
    let e : i + (j - i) ≡ j = omega arith in
    let at : get_or (drop i ms) (j - i) d ≡ get_or ms j d = get_or-drop i ms (j - i) d ∙ ap (λ t. get_or ms t d) e in
    let later : Contains (drop i ms) (get_or ms j d) = subst (Contains (drop i ms)) at (Contains-get_or (drop i ms) (j - i) d (omega (arith, length-drop i ms))) in
    apart_split (take i ms) (drop i ms) m.0 (get_or ms j d) (subst AreApart (sym whole) a) m.1 later (ap (λ (t : Lit). t.var) m.2)

-- one place back

pub double : (l : Lit) → negated (negated l) ≡ l
double l = ap (literal l.var) (not_not l.positive)

module _ (known : List (List Lit)) (ms : List Mark) (reasons : List ℕ) (first : List Lit) (i : ℕ) (d : Mark) (acc : List Lit) (pairs : List PivotOf) (h : i < length ms) (a : AreApart ms) (rs : AreReasons known ms reasons) (b : IsBackAt known ms first (i + 1) acc pairs) where
  stays : (acc' : List Lit) (pairs' : List PivotOf) → acc' ≡ acc → pairs' ≡ pairs → (Contains acc (negated (get_or ms i d).lit) → (get_or ms i d).decided ≡ true) → IsBackAt known ms first i acc' pairs'
  stays acc' pairs' e f only = rw (e, f) (record {
    derived = b.derived;
    is_false = b.is_false;
    decided_only = λ j k low high c. elim (cases_lt i j) [
      | inl later ↦ b.decided_only j k (omega arith) high c
      | inr here ↦
          let g : i ≡ j = omega arith in
          let same : get_or ms i d ≡ get_or ms j k = ap (λ t. get_or ms t d) g ∙ get_or_default ms j d k high in
          subst (λ (t : Mark). t.decided ≡ true) same (only (subst (λ (t : Mark). Contains acc (negated t.lit)) (sym same) c))
    ];
    unset = b.unset;
  })

  pub resolved : (acc' c : List Lit) (pairs' : List PivotOf) (reason : ℕ) → reason ≡ get_or reasons i 0 → (get_or ms i d).decided ≡ false → IsNumbered known reason c → IsResolvent acc c (get_or ms i d).lit.var acc' → pairs' ≡ pairs ++ (record { pivot = (get_or ms i d).lit.var; clause = reason }) ∷ [] → IsBackAt known ms first i acc' pairs'
  resolved acc' c pairs' reason at forced num res e =
      let m : Mark = get_or ms i d in
      let before : List Mark = take i ms in
      let after : List Mark = drop (i + 1) ms in
      let split : before ++ m ∷ after ≡ ms = split_at ms i d h in
      let given = rs.1 i d h forced in
      let same : given.0 ≡ c = numbered_once known reason given.0 c (rw at given.1) num in
      let r : IsReason before m.lit c = subst (IsReason before m.lit) same given.2 in
      let apart : AreApart (before ++ m ∷ after) = subst AreApart (sym split) a in
      let all_false : IsFalseClause (before ++ m ∷ after) acc = subst (λ t. IsFalseClause t acc) (sym split) b.is_false in
      let own : literal m.lit.var (not res.sign) ≡ m.lit = signs before m after acc c acc' apart all_false res in
      let other : literal m.lit.var res.sign ≡ negated m.lit = ap (literal m.lit.var) (sym (not_not res.sign)) ∙ ap negated own in
      let there : Contains known c = (reason - 1, omega arith, num.2) in
      let rest_false : (k : Lit) → Contains c k → k ≢ literal m.lit.var (not res.sign) → IsFalse ms k = λ k j n.
      subst (λ t. IsFalse t k) split (reason_false before m after c r k j (λ f. n (f ∙ sym own))) in
      record {
        derived = rw e (gives_more known first acc c acc' pairs (record { pivot = m.lit.var; clause = reason }) b.derived num res);
        is_false = λ k j. elim (res.sound k j) [
          | inl q ↦ b.is_false k q.0
          | inr q ↦ rest_false k q.0 q.1
        ];
        decided_only = λ j k low high j_in. elim (res.sound _ j_in) [
          | inl q ↦ elim (cases_lt i j) [
            | inl later ↦ b.decided_only j k (omega arith) high q.0
            | inr here ↦
                let g : i ≡ j = omega arith in
                let one : m ≡ get_or ms j k = ap (λ t. get_or ms t d) g ∙ get_or_default ms j d k high in
                absurd (q.1 (ap (λ (t : Mark). negated t.lit) (sym one) ∙ sym other))
          ]
          | inr q ↦
              let set_before : IsSet before (negated (negated (get_or ms j k).lit)) = r.others _ q.0 (λ f. q.1 (f ∙ sym own)) in
              absurd (apart_later ms i j k a low high (subst (IsSet before) (double (get_or ms j k).lit) set_before))
        ];
        unset = λ kept cut gone f dd slack.
            let u = b.unset kept cut gone f dd slack in
            elim (cases_literal u.0 (literal m.lit.var res.sign)) [
              | inr n ↦ (u.0, res.left u.0 u.1 n, u.2)
              | inl g ↦
                  let negative : IsUnset kept (negated m.lit) = subst (IsUnset kept) (g ∙ other) u.2 in
                  elim (slack c there) [
                    | inl t ↦ absurd (elim (cases_literal t.0 (literal m.lit.var (not res.sign))) [
                      | inl x ↦ negative.1 (subst (IsSet kept) (x ∙ own ∙ sym (double m.lit)) t.2)
                      | inr n ↦ both_set ms t.0 a (subst (λ z. IsSet z t.0) (sym f) (set_left kept (cut ∷ gone) t.0 t.2)) (rest_false t.0 t.1 n)
                    ])
                    | inr t ↦ elim (cases_literal t.0 (literal m.lit.var (not res.sign))) [
                      | inr n ↦ (t.0, res.right t.0 t.2 n, t.5)
                      | inl x ↦ (t.1, res.right t.1 t.3 (λ y. t.4 (x ∙ sym y)), t.6)
                    ]
                  ]
            ];
      }

  pub step_back : (acc' : List Lit) (pairs' : List PivotOf) (reason : ℕ) → reason ≡ get_or reasons i 0 → IsStepBack known (get_or ms i d) reason acc pairs acc' pairs' → IsBackAt known ms first i acc' pairs'
  step_back acc' pairs' reason at (inl q) = stays acc' pairs' q.0 q.1 q.2
  step_back acc' pairs' reason at (inr q) = resolved acc' q.1 pairs' reason at q.0 q.2 q.3 q.4

  -- the other literals were false before the mark
  pub false_before : (acc' c : List Lit) (reason : ℕ) → reason ≡ get_or reasons i 0 → (get_or ms i d).decided ≡ false → IsNumbered known reason c → IsResolvent acc c (get_or ms i d).lit.var acc' → IsFalseClause (take (i + 1) ms) acc → IsFalseClause (take i ms) acc'
  false_before acc' c reason at forced num res early =
      let m : Mark = get_or ms i d in
      let before : List Mark = take i ms in
      let after : List Mark = drop (i + 1) ms in
      let split : before ++ m ∷ after ≡ ms = split_at ms i d h in
      let given = rs.1 i d h forced in
      let same : given.0 ≡ c = numbered_once known reason given.0 c (rw at given.1) num in
      let r : IsReason before m.lit c = subst (IsReason before m.lit) same given.2 in
      let apart : AreApart (before ++ m ∷ after) = subst AreApart (sym split) a in
      let all_false : IsFalseClause (before ++ m ∷ after) acc = subst (λ t. IsFalseClause t acc) (sym split) b.is_false in
      let own : literal m.lit.var (not res.sign) ≡ m.lit = signs before m after acc c acc' apart all_false res in
      let other : literal m.lit.var res.sign ≡ negated m.lit = ap (literal m.lit.var) (sym (not_not res.sign)) ∙ ap negated own in
      λ k j. elim (res.sound k j) [
        | inl q ↦ elim (set_push_cases before m (negated k) (subst (λ t. IsFalse t k) (take_more ms i d h) (early k q.0))) [
          | inl s ↦ s
          | inr e ↦ absurd (q.1 (sym (double k) ∙ ap negated (sym e) ∙ sym other))
        ]
        | inr q ↦ r.others k q.0 (λ f. q.1 (f ∙ sym own))
      ]

  -- the reason, and that it resolves with the clause
  pub can_resolve : (reason : ℕ) → reason ≡ get_or reasons i 0 → (get_or ms i d).decided ≡ false → (c : List Lit) × IsNumbered known reason c × (Contains acc (negated (get_or ms i d).lit) → ¬ HasNoResolvent acc c (get_or ms i d).lit.var)
  can_resolve reason at forced =
      let split = split_at ms i d h in
      let given = rs.1 i d h forced in
      (given.0, rw at given.1, λ j. resolves (take i ms) (get_or ms i d) (drop (i + 1) ms) acc given.0 (subst AreApart (sym split) a) (subst (λ t. IsFalseClause t acc) (sym split) b.is_false) given.2 j)

-- the start

pub back_start : (known : List (List Lit)) (ms : List Mark) (c : List Lit) → AreApart ms → Contains known c → IsFalseClause ms c → IsBackAt known ms c (length ms) c []
back_start known ms c a i f = record {
  derived = refl;
  is_false = f;
  decided_only = λ j d low high k. absurd (omega arith);
  unset = λ kept cut gone e d slack. elim (slack c i) [
    | inl t ↦ absurd (both_set ms t.0 a (subst (λ z. IsSet z t.0) (sym e) (set_left kept (cut ∷ gone) t.0 t.2)) (f t.0 t.1))
    | inr t ↦ (t.0, t.2, t.5)
  ];
}
