-- What a step does to marks, reasons and values.
use Rattle.std.proofs.Common.{◌≡◌, ◌≢◌, ℕ, suc, ◌+◌, ◌-◌, ◌<◌, ◌≤◌, Bool, true, false, List, [], ◌∷◌, ◌++◌, length, get_or, set, take, ◌⊎◌, inl, inr, refl, sym, ap, ◌∙◌, subst, arith}
use Rattle.std.specs.Prelude.{All, Any}
use Rattle.std.proofs.lemmas.List.{get_or-set_same, get_or-set_other, length-set, take_more_set, length_push, get_or_append_left, take-append-le, get_or_at, take_at, take_all}
use Rattle.std.proofs.lemmas.List.Elements.{Contains-push, Contains-append_cases}
use Rattle.std.proofs.lemmas.Bool.{cases_eq, cases_lt}
use Rattle.ut_logic.specs.declared.literals.Lit.{Lit}
use Rattle.log_check.specs.declared.derivations.DerivationLine.{DerivationLine}
use Rattle.ut_logic.specs.Clauses.{literal, AreWithin}
use Rattle.log_check.proofs.Resolvents.{contains_cases, contains_nothing}
use Rattle.sat_log.specs.declared.marks.Mark.{Mark}
use Rattle.sat_log.specs.declared.values.Value.{Value}
use Rattle.sat_log.specs.declared.values.Value.TheVariants.{Unset, True, False}
use Rattle.sat_log.specs.Moves.{set_literals, IsSet, IsSetVar, IsFirstUnset, Steps, with_mark}
use Rattle.sat_log.specs.Inner.{IsSettled, Tells, AreValues, value_for, AreTrail, AreReasons, IsReason}
use Rattle.log_check.specs.Derivations.{IsNumbered, results}
use Rattle.sat_log.proofs.RunLemmas.{set_append, set_left, set_from_mark}

-- values

pub tells_set : (ms : List Mark) (x : ℕ) (v : Value) → Tells ms x v → v ≢ Unset → IsSetVar ms x
tells_set ms x Unset t n = absurd (n refl)
tells_set ms x True t n = (true, t)
tells_set ms x False t n = (false, t)

pub tells_unset : (ms : List Mark) (x : ℕ) (v : Value) → Tells ms x v → ¬ IsSetVar ms x → v ≡ Unset
tells_unset ms x Unset t n = refl
tells_unset ms x True t n = absurd (n (true, t))
tells_unset ms x False t n = absurd (n (false, t))

pub set_push_cases : (ms : List Mark) (m : Mark) (l : Lit) → IsSet (ms ++ m ∷ []) l → IsSet ms l ⊎ (m.lit ≡ l)
set_push_cases ms m l i = elim (Contains-append_cases (set_literals ms) (m.lit ∷ []) l (rw set_append at i)) [
  | inl q ↦ inl q
  | inr q ↦ elim (contains_cases m.lit [] l q) [ inl e ↦ inr e | inr j ↦ absurd (contains_nothing l j) ]
]

-- another variable's value stays
tells_push : (ms : List Mark) (m : Mark) (x : ℕ) (v : Value) → m.lit.var ≢ x → Tells ms x v → Tells (ms ++ m ∷ []) x v
tells_push ms m x Unset n t = λ s. elim (set_push_cases ms m (literal x s.0) s.1) [
  | inl q ↦ t (s.0, q)
  | inr e ↦ n (ap (λ (l : Lit). l.var) e)
]
tells_push ms m x True n t = set_left ms (m ∷ []) (literal x true) t
tells_push ms m x False n t = set_left ms (m ∷ []) (literal x false) t

tells_here : (ms : List Mark) (x : ℕ) (s : Bool) → IsSet ms (literal x s) → Tells ms x (value_for s)
tells_here ms x true i = i
tells_here ms x false i = i

pub set_last : (ms : List Mark) (m : Mark) → IsSet (ms ++ m ∷ []) m.lit
set_last ms m = set_from_mark (ms ++ m ∷ []) m (Contains-push ms m)

pub values_push : (n : ℕ) (ms : List Mark) (m : Mark) (values : List Value) → 0 < m.lit.var → m.lit.var ≤ n → AreValues n ms values → AreValues n (ms ++ m ∷ []) (set values (m.lit.var - 1) (value_for m.lit.positive))
values_push n ms m values low high (len, tell) =
    let k : ℕ = m.lit.var - 1 in
    let v : Value = value_for m.lit.positive in (
      length-set values k v ∙ len,
      λ j d h. elim (cases_eq j k) [
        | inl e ↦
            let var : m.lit.var ≡ j + 1 = omega arith in
            let in_range : k < length values = omega arith in
            let here : get_or (set values k v) j d ≡ v = ap (λ t. get_or (set values k v) t d) e ∙ get_or-set_same values k v d in_range in
            subst (Tells (ms ++ m ∷ []) (j + 1)) (sym here) (tells_here (ms ++ m ∷ []) (j + 1) m.lit.positive (subst (λ t. IsSet (ms ++ m ∷ []) (literal t m.lit.positive)) var (set_last ms m)))
        | inr n ↦
            let other : m.lit.var ≢ j + 1 = λ e. n (omega arith) in
            subst (Tells (ms ++ m ∷ []) (j + 1)) (sym (get_or-set_other values k j v d n)) (tells_push ms m (j + 1) (get_or values j d) other (tell j d h))
      ],
    )

-- reasons

pub reasons_push : (known : List (List Lit)) (ms : List Mark) (rs : List ℕ) (m : Mark) (reason : ℕ) → AreReasons known ms rs → (m.decided ≡ false → (c : List Lit) × IsNumbered known reason c × IsReason ms m.lit c) → AreReasons known (ms ++ m ∷ []) (rs ++ reason ∷ [])
reasons_push known ms rs m reason (len, each) new = (
  omega (arith, length_push rs reason, length_push ms m),
  λ j d h f. elim (cases_lt j (length ms)) [
    | inl low ↦
        let same : get_or (ms ++ m ∷ []) j d ≡ get_or ms j d = get_or_append_left ms (m ∷ []) d j low in
        let front : take j (ms ++ m ∷ []) ≡ take j ms = take-append-le j ms (m ∷ []) (omega arith) in
        let number : get_or (rs ++ reason ∷ []) j 0 ≡ get_or rs j 0 = get_or_append_left rs (reason ∷ []) 0 j (omega arith) in
        rw (number, front, same) (each j d low (rw same at f))
    | inr high ↦
        let at : j ≡ length ms = omega (arith, length_push ms m) in
        let here : get_or (ms ++ m ∷ []) j d ≡ m = get_or_at ms m [] d j (sym at) in
        let front : take j (ms ++ m ∷ []) ≡ ms = take_at ms (m ∷ []) j (sym at) in
        let number : get_or (rs ++ reason ∷ []) j 0 ≡ reason = get_or_at rs reason [] 0 j (len ∙ sym at) in
        rw (number, front, here) (new (rw here at f))
  ],
)

-- the value of a set literal is one
given : (s : Bool) → value_for s ≢ Unset
given true e = cc
given false e = cc

-- a step of the trail

pub trail_step : (n : ℕ) (clauses : List (List Lit)) (lines : List DerivationLine) (marks : List Mark) (reasons : List ℕ) (count low : ℕ) (values : List Value) (steps : ℕ) (l : Lit) (decided : Bool) (reason low' : ℕ) → AreTrail n clauses lines marks reasons count low values steps → count + 1 ≤ n → (0 < l.var) × (l.var ≤ n) → (decided ≡ false → (c : List Lit) × IsNumbered (clauses ++ results lines) reason c × IsReason (take count marks) l c) → Steps n clauses (record { lines = lines; marks = take count marks; steps = steps }) (with_mark (record { lines = lines; marks = take count marks; steps = steps }) l decided) → IsSettled (clauses ++ results lines) (take count marks ++ (record { lit = l; decided = decided }) ∷ []) → ((k : ℕ) → k < low' → k ≢ l.var - 1 → ¬ (get_or values k Unset ≡ Unset)) → AreTrail n clauses lines (set marks count (record { lit = l; decided = decided })) (set reasons count reason) (count + 1) low' (set values (l.var - 1) (value_for l.positive)) (steps + 1)
trail_step n clauses lines marks reasons count low values steps l decided reason low' a room w new step settled below =
    let m : Mark = record { lit = l; decided = decided } in
    let in_range : count < length marks = omega (arith, a.room) in
    let more : take (count + 1) (set marks count m) ≡ take count marks ++ m ∷ [] = take_more_set marks count m in_range in
    let more_reasons : take (count + 1) (set reasons count reason) ≡ take count reasons ++ reason ∷ [] = take_more_set reasons count reason (omega (arith, a.reason_room)) in
    record {
      within = a.within;
      reached = (suc a.reached.0, (record { lines = lines; marks = take count marks; steps = steps }, a.reached.1, inl (rw more step)));
      because = rw (more, more_reasons) (reasons_push (clauses ++ results lines) (take count marks) (take count reasons) m reason a.because new);
      settled = rw more settled;
      told = rw more (values_push n (take count marks) m values w.0 w.1 a.told);
      below = λ k h. elim (cases_eq k (l.var - 1)) [
        | inl e ↦ λ unset. given l.positive (sym (get_or-set_same values (l.var - 1) (value_for l.positive) Unset (omega (arith, w.0, w.1, a.told.0))) ∙ ap (λ t. get_or (set values (l.var - 1) (value_for l.positive)) t Unset) (sym e) ∙ unset)
        | inr n ↦ λ unset. below k h n (sym (get_or-set_other values (l.var - 1) k (value_for l.positive) Unset n) ∙ unset)
      ];
      room = length-set marks count m ∙ a.room;
      reason_room = length-set reasons count reason ∙ a.reason_room;
      count = room;
    }

-- the first unset variable

-- where a variable is unset, a place has no value
pub place_of_unset : (n : ℕ) (ms : List Mark) (values : List Value) (x : ℕ) → AreValues n ms values → 0 < x → x ≤ n → ¬ IsSetVar ms x → (k : ℕ) × (k < length values) × (get_or values k Unset ≡ Unset)
place_of_unset n ms values x (len, tell) low high u =
    let e : x - 1 + 1 ≡ x = omega arith in
    (x - 1, omega arith, tells_unset ms x (get_or values (x - 1) Unset) (subst (λ t. Tells ms t (get_or values (x - 1) Unset)) e (tell (x - 1) Unset (omega arith))) u)

pub first_unset_var : (n : ℕ) (ms : List Mark) (values : List Value) (p : ℕ) → AreValues n ms values → p < length values → get_or values p Unset ≡ Unset → ((k : ℕ) → k < p → ¬ (get_or values k Unset ≡ Unset)) → IsFirstUnset n ms (p + 1)
first_unset_var n ms values p (len, tell) h unset before = record {
  low = omega arith;
  high = omega arith;
  unset = subst (Tells ms (p + 1)) unset (tell p Unset (omega arith));
  first = λ y low high.
      let e : y - 1 + 1 ≡ y = omega arith in
      tells_set ms y (get_or values (y - 1) Unset) (subst (λ t. Tells ms t (get_or values (y - 1) Unset)) e (tell (y - 1) Unset (omega arith))) (before (y - 1) (omega arith));
}

-- an unset variable has no value at its place, and a place without a value is of an unset variable
pub unset_of_place : (n : ℕ) (ms : List Mark) (values : List Value) (x : ℕ) → AreValues n ms values → 0 < x → x ≤ n → get_or values (x - 1) Unset ≡ Unset → ¬ IsSetVar ms x
unset_of_place n ms values x (len, tell) low high e =
    let at : x - 1 + 1 ≡ x = omega arith in
    subst (λ t. ¬ IsSetVar ms t) at (subst (Tells ms (x - 1 + 1)) e (tell (x - 1) Unset (omega arith)))

pub none_any : {X : Type 0} (P : X → Type 0) (xs : List X) (i : ℕ) → length xs ≤ i → All (λ x. ¬ P x) (take i xs) → Any P xs → ⊥
none_any P xs i h all (k, x, low, at, p) =
    let whole : All (λ x. ¬ P x) xs = subst (All (λ x. ¬ P x)) (take_all i xs h) all in
    whole k x low (subst P (sym at) p)

pub no_split : (kept : List Mark) (cut : Mark) (gone : List Mark) → [] ≡ kept ++ cut ∷ gone → ⊥
no_split [] cut gone e = cc
no_split (k ∷ ks) cut gone e = cc

-- nothing is set at the start
pub trail_start : (n : ℕ) (clauses : List (List Lit)) (lines : List DerivationLine) (marks : List Mark) (reasons : List ℕ) (values : List Value) → AreWithin n clauses → lines ≡ [] → length marks ≡ n → length reasons ≡ n → length values ≡ n → All (λ (x : Value). x ≡ Unset) values → AreTrail n clauses lines marks reasons 0 0 values 0
trail_start n clauses lines marks reasons values w e m r v all = record {
  within = w;
  reached = (0, ap (λ (t : List DerivationLine). record { lines = t; marks = []; steps = 0 }) e);
  because = (refl, λ j d h f. absurd (omega arith));
  settled = λ kept cut gone e d c i. absurd (no_split kept cut gone e);
  below = λ k h. absurd (omega arith);
  told = (v, λ k d h. subst (Tells [] (k + 1)) (sym (all k d (omega arith))) (λ s. contains_nothing (literal (k + 1) s.0) s.1));
  room = m;
  reason_room = r;
  count = omega arith;
}
