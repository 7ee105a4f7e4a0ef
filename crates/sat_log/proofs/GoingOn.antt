-- A run that is at neither end goes on by a step or a backjump.
use Rattle.std.proofs.Common.{◌≡◌, ℕ, zero, suc, ◌+◌, ◌-◌, ◌<◌, ◌≤◌, true, false, not, List, [], ◌∷◌, ◌++◌, length, get_or, take, drop, ◌⊎◌, inl, inr, refl, sym, ap, ◌∙◌, subst, arith}
use Rattle.std.specs.Prelude.{All, Contains}
use Rattle.std.proofs.lemmas.List.{append-nil, append_assoc, length-append, take_at}
use Rattle.std.proofs.lemmas.List.Elements.{All-nil, All-cons, All-contains, Contains-push_cases}
use Rattle.std.proofs.lemmas.Bool.{cases_lt}
use Rattle.ut_logic.specs.declared.literals.Lit.{Lit}
use Rattle.ut_logic.specs.Clauses.{literal, negated, IsOrdered, AreWithin}
use Rattle.log_check.specs.declared.derivations.PivotOf.{PivotOf}
use Rattle.log_check.specs.declared.derivations.Chain.{Chain}
use Rattle.log_check.specs.declared.derivations.DerivationLine.{DerivationLine}
use Rattle.log_check.specs.Resolution.{IsOppositeIn}
use Rattle.log_check.specs.Derivations.{IsNumbered, ResolvesTo, ChainGives}
use Rattle.log_check.proofs.Deriving.{numbered_once}
use Rattle.log_check.proofs.Resolvents.{contains_head, contains_tail, contains_cases, contains_nothing, cases_literal}
use Rattle.sat_log.specs.declared.marks.Mark.{Mark}
use Rattle.sat_log.specs.Moves.{State, set_literals, IsSet, IsFalse, IsSetVar, IsFalseClause, IsForcing, IsFirstUnset, known, with_mark, Decides, Propagates, Jumps, Moves}
use Rattle.sat_log.specs.Runs.{start, RunsTo, IsReached, IsAtModel, IsAtRefutation}
use Rattle.sat_log.specs.Inner.{AreApart, AreReasons, IsBackAt}
use Rattle.sat_log.proofs.RunLemmas.{IsKept, kept_run, known_push, apart_front, set_left, differ, same_or_turned}
use Rattle.sat_log.proofs.Settled.{dec_set, any_true, any_unset, one_unset, both_set, slack_from_quiet, split_push}
use Rattle.sat_log.proofs.Back.{not_not, back_start, step_back, can_resolve, split_at}
use Rattle.sat_log.proofs.Places.{reasons_push, no_split}
use Rattle.sat_log.proofs.Jumping.{reasons_cut, no_mark}
use Rattle.sat_log.proofs.Explaining.{highest, highest_cut}
use Rattle.sat_log.proofs.Uniting.{resolvent_exists}

-- what is asked of a literal, a clause or a list can be decided
dec_false : (ms : List Mark) (c : List Lit) → IsFalseClause ms c ⊎ ¬ IsFalseClause ms c
dec_false ms [] = inl (λ l i. absurd (contains_nothing l i))
dec_false ms (x ∷ xs) = elim (dec_set (set_literals ms) (negated x)) [
  | inr n ↦ inr (λ f. n (f x (contains_head x xs)))
  | inl q ↦ elim (dec_false ms xs) [
    | inr n ↦ inr (λ f. n (λ l i. f l (contains_tail x xs l i)))
    | inl all ↦ inl (λ l i. elim (contains_cases x xs l i) [ inl e ↦ subst (IsFalse ms) e q | inr j ↦ all l j ])
  ]
]

dec_forcing : (ms : List Mark) → AreApart ms → (c : List Lit) → IsForcing ms c ⊎ ¬ IsForcing ms c
dec_forcing ms a c = elim (any_true ms c) [
  | inl t ↦ inr (λ (l, f). elim (cases_literal t.0 l) [
    | inl e ↦ f.unset.0 (subst (IsSet ms) e t.2)
    | inr n ↦ both_set ms t.0 a t.2 (f.others t.0 t.1 n)
  ])
  | inr none ↦ elim (any_unset ms c none) [
    | inr all ↦ inr (λ (l, f). f.unset.1 (all l f.inside))
    | inl u ↦ elim (one_unset ms c u.0 none) [
      | inr rest ↦ inl (u.0, record { inside = u.1; unset = u.2; others = rest })
      | inl m ↦ inr (λ (l, f). elim (cases_literal u.0 l) [
        | inl e ↦ m.3.1 (f.others m.0 m.1 (λ g. m.2 (g ∙ sym e)))
        | inr n ↦ u.2.1 (f.others u.0 u.1 n)
      ])
    ]
  ]
]

first_such : (P : List Lit → Type 0) → ((c : List Lit) → P c ⊎ ¬ P c) → (ks : List (List Lit)) → ((c : List Lit) × Contains ks c × P c) ⊎ ((c : List Lit) → Contains ks c → ¬ P c)
first_such P dec [] = inr (λ c i. absurd (contains_nothing c i))
first_such P dec (k ∷ ks) = elim (dec k) [
  | inl q ↦ inl (k, contains_head k ks, q)
  | inr n ↦ elim (first_such P dec ks) [
    | inl q ↦ inl (q.0, contains_tail k ks q.0 q.1, q.2)
    | inr all ↦ inr (λ c i. elim (contains_cases k ks c i) [ inl e ↦ subst (λ t. ¬ P t) e n | inr j ↦ all c j ])
  ]
]

-- the first decided literal
first_decided : (ms : List Mark) → All (λ (m : Mark). m.decided ≡ false) ms ⊎ ((kept : List Mark) × (cut : Mark) × (gone : List Mark) × (ms ≡ kept ++ cut ∷ gone) × (cut.decided ≡ true))
first_decided [] = inl (All-nil (λ (m : Mark). m.decided ≡ false))
first_decided (m ∷ ms) = elim (same_or_turned m.decided true) [
  | inl decided ↦ inr ([], m, ms, refl, decided)
  | inr forced ↦ elim (first_decided ms) [
    | inl all ↦ inl (All-cons (λ (x : Mark). x.decided ≡ false) m ms forced all)
    | inr q ↦ inr (m ∷ q.0, q.1, q.2, ap (λ t. m ∷ t) q.3, q.4)
  ]
]

dec_var : (ms : List Mark) (x : ℕ) → IsSetVar ms x ⊎ ¬ IsSetVar ms x
dec_var ms x = elim (dec_set (set_literals ms) (literal x true)) [
  | inl q ↦ inl (true, q)
  | inr n ↦ elim (dec_set (set_literals ms) (literal x false)) [
    | inl q ↦ inl (false, q)
    | inr m ↦ inr (λ (s, i). elim (same_or_turned s true) [
      | inl e ↦ n (subst (λ b. IsSet ms (literal x b)) e i)
      | inr e ↦ m (subst (λ b. IsSet ms (literal x b)) e i)
    ])
  ]
]

first_unset : (n : ℕ) (ms : List Mark) → ((x : ℕ) → 0 < x → x ≤ n → IsSetVar ms x) ⊎ ((x : ℕ) × IsFirstUnset n ms x)
first_unset zero ms = inl (λ x low high. absurd (omega arith))
first_unset (suc n) ms = elim (first_unset n ms) [
  | inr q ↦ inr (q.0, record { low = q.1.low; high = omega (arith, q.1.high); unset = q.1.unset; first = q.1.first })
  | inl all ↦ elim (dec_var ms (suc n)) [
    | inr u ↦ inr (suc n, record { low = omega arith; high = omega arith; unset = u; first = λ y low lt. all y low (omega arith) })
    | inl s ↦ inl (λ x low high. elim (cases_lt x (suc n)) [
      | inl before ↦ all x low (omega arith)
      | inr here ↦ let at : suc n ≡ x = omega arith in subst (IsSetVar ms) at s
    ])
  ]
]

number_of : (ks : List (List Lit)) (c : List Lit) → Contains ks c → (number : ℕ) × IsNumbered ks number c
number_of ks c (k, lt, at) =
    let place : k + 1 - 1 ≡ k = omega arith in
    (k + 1, (omega arith, omega arith, ap (λ t. get_or ks t c) place ∙ at))

-- what else a run over ordered clauses keeps: no known clause is false before a decided literal, each forced
-- literal has its reason, and known clauses are ordered
record IsOpenRun (clauses : List (List Lit)) (s : State) : Type 0 where
  not_false : (kept : List Mark) (cut : Mark) (gone : List Mark) → s.marks ≡ kept ++ cut ∷ gone → cut.decided ≡ true → (c : List Lit) → Contains (known clauses s) c → ¬ IsFalseClause kept c
  reasons : List ℕ
  because : AreReasons (known clauses s) s.marks reasons
  ordered : (c : List Lit) → Contains (known clauses s) c → IsOrdered c

open_start : (clauses : List (List Lit)) → ((c : List Lit) → Contains clauses c → IsOrdered c) → IsOpenRun clauses start
open_start clauses o = record {
  not_false = λ kept cut gone e d c i. absurd (no_split kept cut gone e);
  reasons = [];
  because = (refl, λ j d h f. absurd (omega arith));
  ordered = rw append-nil o;
}

open_decided : (n : ℕ) (clauses : List (List Lit)) (s t : State) → IsOpenRun clauses s → Decides n clauses s t → IsOpenRun clauses t
open_decided n clauses s t o d = subst (IsOpenRun clauses) (sym d.after) (record {
  not_false = λ kept cut gone e dd c i. elim (split_push s.marks _ kept cut gone e) [
    | inl q ↦ subst (λ t. ¬ IsFalseClause t c) q.0 (d.quiet.none_false c i)
    | inr q ↦ o.not_false kept cut q.0 q.1 dd c i
  ];
  reasons = o.reasons ++ 0 ∷ [];
  because = reasons_push (known clauses s) s.marks o.reasons _ 0 o.because (λ f. absurd (differ f));
  ordered = o.ordered;
})

open_propagated : (clauses : List (List Lit)) (s t : State) → IsOpenRun clauses s → Propagates clauses s t → IsOpenRun clauses t
open_propagated clauses s t o p =
    let number = number_of (known clauses s) p.clause p.among in
    subst (IsOpenRun clauses) (sym p.after) (record {
      not_false = λ kept cut gone e dd c i. elim (split_push s.marks _ kept cut gone e) [
        | inl q ↦ absurd (differ (sym dd ∙ ap (λ (m : Mark). m.decided) (sym q.1)))
        | inr q ↦ o.not_false kept cut q.0 q.1 dd c i
      ];
      reasons = o.reasons ++ number.0 ∷ [];
      because = reasons_push (known clauses s) s.marks o.reasons _ number.0 o.because (λ f. (p.clause, number.1, record { inside = p.forced.inside; others = p.forced.others }));
      ordered = o.ordered;
    })

from_ordered : (ks : List (List Lit)) (acc : List Lit) (ps : List PivotOf) (r : List Lit) → IsOrdered acc → ResolvesTo ks acc ps r → IsOrdered r
from_ordered ks acc [] r o g = subst IsOrdered g o
from_ordered ks acc (p ∷ ps) r o (c, mid, num, res, g) = from_ordered ks mid ps r res.ordered g

gives_ordered : (ks : List (List Lit)) (chain : Chain) (r : List Lit) → ((c : List Lit) → Contains ks c → IsOrdered c) → ChainGives ks chain r → IsOrdered r
gives_ordered ks chain r o (c, num, g) = from_ordered ks c chain.pairs r (o c (chain.first - 1, omega (arith, num.0, num.1), num.2)) g

open_jumped : (clauses : List (List Lit)) (s t : State) → IsOpenRun clauses s → Jumps clauses s t → IsOpenRun clauses t
open_jumped clauses s t o j =
    let q : ℕ = length j.kept in
    let whole : length s.marks ≡ length j.kept + suc (length j.gone) = ap length j.split ∙ length-append j.kept (j.cut ∷ j.gone) in
    let front : take q s.marks ≡ j.kept = ap (take q) j.split ∙ take_at j.kept (j.cut ∷ j.gone) q refl in
    subst (IsOpenRun clauses) (sym j.after) (record {
      not_false = rw (known_push clauses s.lines j.line) (λ before cut gone e dd c i. elim (Contains-push_cases (known clauses s) j.line.result c i) [
        | inl old ↦
            let longer : s.marks ≡ before ++ cut ∷ (gone ++ j.cut ∷ j.gone) = j.split ∙ ap (λ t. t ++ j.cut ∷ j.gone) e ∙ append_assoc before (cut ∷ gone) (j.cut ∷ j.gone) in
            o.not_false before cut (gone ++ j.cut ∷ j.gone) longer dd c old
        | inr same ↦ λ f.
            let l = j.forcing.0 in
            let false_before : IsFalse before l = f l (subst (λ t. Contains t l) same j.forcing.1.inside) in
            j.forcing.1.unset.1 (subst (λ t. IsFalse t l) (sym e) (set_left before (cut ∷ gone) (negated l) false_before))
      ]);
      reasons = take q o.reasons;
      because = rw (known_push clauses s.lines j.line) (subst (λ t. AreReasons (known clauses s ++ j.line.result ∷ []) t (take q o.reasons)) front (reasons_cut (known clauses s) j.line.result s.marks o.reasons q (omega arith) o.because));
      ordered = rw (known_push clauses s.lines j.line) (λ c i. elim (Contains-push_cases (known clauses s) j.line.result c i) [
        | inl old ↦ o.ordered c old
        | inr same ↦ subst IsOrdered same (gives_ordered (known clauses s) j.line.chain j.line.result o.ordered j.derived)
      ]);
    })

open_run : (n : ℕ) (clauses : List (List Lit)) (k : ℕ) (s : State) → ((c : List Lit) → Contains clauses c → IsOrdered c) → RunsTo n clauses k s → IsOpenRun clauses s
open_run n clauses zero s o run = subst (IsOpenRun clauses) (sym run) (open_start clauses o)
open_run n clauses (suc k) s o (before, run, inl (inl d)) = open_decided n clauses before s (open_run n clauses k before o run) d
open_run n clauses (suc k) s o (before, run, inl (inr p)) = open_propagated clauses before s (open_run n clauses k before o run) p
open_run n clauses (suc k) s o (before, run, inr j) = open_jumped clauses before s (open_run n clauses k before o run) j

-- what resolving the forced literals away from place i on comes to
record Resolved (ks : List (List Lit)) (ms : List Mark) (first : List Lit) (i : ℕ) : Type 0 where
  result : List Lit
  pairs : List PivotOf
  ordered : IsOrdered result
  back : IsBackAt ks ms first i result pairs

resolved_from : (ks : List (List Lit)) (ms : List Mark) (reasons : List ℕ) (first : List Lit) → AreApart ms → AreReasons ks ms reasons → ((c : List Lit) → Contains ks c → IsOrdered c) → Contains ks first → IsFalseClause ms first → (m i : ℕ) → i + m ≡ length ms → Resolved ks ms first i
resolved_from ks ms reasons first a rs o there f zero i e = record {
  result = first;
  pairs = [];
  ordered = o first there;
  back = let at : length ms ≡ i = omega arith in subst (λ t. IsBackAt ks ms first t first []) at (back_start ks ms first a there f);
}
resolved_from ks ms reasons first a rs o there f (suc m) i e =
    let later = resolved_from ks ms reasons first a rs o there f m (i + 1) (omega arith) in
    let h : i < length ms = omega arith in
    let mark : Mark = get_or ms i no_mark in
    let step = step_back ks ms reasons first i no_mark later.result later.pairs h a rs later.back in
    elim (same_or_turned mark.decided true) [
      | inl decided ↦ record {
        result = later.result;
        pairs = later.pairs;
        ordered = later.ordered;
        back = step later.result later.pairs (get_or reasons i 0) refl (inl (refl, refl, λ c. decided));
      }
      | inr forced ↦ elim (dec_set later.result (negated mark.lit)) [
        | inr n ↦ record {
          result = later.result;
          pairs = later.pairs;
          ordered = later.ordered;
          back = step later.result later.pairs (get_or reasons i 0) refl (inl (refl, refl, λ c. absurd (n c)));
        }
        | inl inside ↦
            let given = can_resolve ks ms reasons first i no_mark later.result later.pairs h a rs later.back (get_or reasons i 0) refl forced in
            let reason = rs.1 i no_mark h forced in
            let same : reason.0 ≡ given.0 = numbered_once ks (get_or reasons i 0) reason.0 given.0 reason.1 given.1 in
            let in_reason : Contains given.0 mark.lit = subst (λ c. Contains c mark.lit) same reason.2.inside in
            let opposite : IsOppositeIn later.result given.0 mark.lit.var = (
              not mark.lit.positive,
              inside,
              subst (λ b. Contains given.0 (literal mark.lit.var b)) (sym (not_not mark.lit.positive)) in_reason,
            ) in
            let among : Contains ks given.0 = (get_or reasons i 0 - 1, omega (arith, given.1.0, given.1.1), given.1.2) in
            let found = resolvent_exists later.result given.0 mark.lit.var later.ordered (o given.0 among) opposite (λ x other clash. given.2 inside (inr (x, other, clash))) in
            record {
              result = found.0;
              pairs = later.pairs ++ (record { pivot = mark.lit.var; clause = get_or reasons i 0 }) ∷ [];
              ordered = found.1.ordered;
              back = step found.0 (later.pairs ++ (record { pivot = mark.lit.var; clause = get_or reasons i 0 }) ∷ []) (get_or reasons i 0) refl (inr (forced, given.0, given.1, found.1, refl));
            }
      ]
    ]

-- where a known clause is false behind a decision, the trail can jump back
jumps_back : (n : ℕ) (clauses : List (List Lit)) (s : State) (c : List Lit) (kept : List Mark) (cut : Mark) (gone : List Mark) → IsKept n clauses s → IsOpenRun clauses s → Contains (known clauses s) c → IsFalseClause s.marks c → s.marks ≡ kept ++ cut ∷ gone → cut.decided ≡ true → (t : State) × Jumps clauses s t
jumps_back n clauses s c kept cut gone k o there f split decided =
    elim (first_such (IsForcing kept) (dec_forcing kept (apart_front kept (cut ∷ gone) (subst AreApart split k.apart))) (known clauses s)) [
      | inl e ↦
          let number = number_of (known clauses s) e.0 e.1 in
          let line : DerivationLine = record { result = e.0; chain = record { first = number.0; pairs = [] } } in (
            record { lines = s.lines ++ line ∷ []; marks = kept; steps = s.steps },
            record {
              line = line;
              derived = (e.0, number.1, refl);
              kept = kept;
              cut = cut;
              gone = gone;
              split = split;
              decided = decided;
              forcing = e.2;
              after = refl;
            },
          )
      | inr none ↦
          let made = resolved_from (known clauses s) s.marks o.reasons c k.apart o.because o.ordered there f (length s.marks) 0 (omega arith) in
          let number = number_of (known clauses s) c there in
          let line : DerivationLine = record { result = made.result; chain = record { first = number.0; pairs = made.pairs } } in
          elim (highest s.marks made.result made.back.is_false) [
            | inl empty ↦
                let u = made.back.unset kept cut gone split decided (λ e i. slack_from_quiet kept e (o.not_false kept cut gone split decided e i) (none e i)) in
                absurd (contains_nothing u.0 (subst (λ t. Contains t u.0) empty u.1))
            | inr h ↦
                let place = highest_cut (known clauses s) s.marks c made.result made.pairs k.apart made.back h in (
                  record { lines = s.lines ++ line ∷ []; marks = take h.place s.marks; steps = s.steps },
                  record {
                    line = line;
                    derived = (c, number.1, made.back.derived);
                    kept = take h.place s.marks;
                    cut = get_or s.marks h.place no_mark;
                    gone = drop (h.place + 1) s.marks;
                    split = sym (split_at s.marks h.place no_mark place.0);
                    decided = place.1 no_mark;
                    forcing = place.2;
                    after = refl;
                  },
                )
          ]
    ]

pub goes_on : (n : ℕ) (clauses : List (List Lit)) (s : State) → AreWithin n clauses → All IsOrdered clauses → IsReached n clauses s → ¬ IsAtModel n clauses s → ¬ IsAtRefutation clauses s → (t : State) × Moves n clauses s t
goes_on n clauses s w ordered (moves, run) no_model no_refutation =
    let k = kept_run n clauses moves s w run in
    let o = open_run n clauses moves s (λ c i. All-contains IsOrdered clauses c ordered i) run in
    elim (first_such (IsFalseClause s.marks) (dec_false s.marks) (known clauses s)) [
      | inl c ↦ elim (first_decided s.marks) [
        | inl none ↦ absurd (no_refutation (record { clause = c.0; among = c.1; is_false = c.2; none_decided = none }))
        | inr d ↦ let j = jumps_back n clauses s c.0 d.0 d.1 d.2 k o c.1 c.2 d.3 d.4 in (j.0, inr j.1)
      ]
      | inr none_false ↦ elim (first_unset n s.marks) [
        | inl all ↦ absurd (no_model (record { all_set = all; none_false = none_false }))
        | inr x ↦ elim (first_such (IsForcing s.marks) (dec_forcing s.marks k.apart) (known clauses s)) [
          | inl e ↦ (
            with_mark s e.2.0 false,
            inl (inr (record { clause = e.0; among = e.1; lit = e.2.0; forced = e.2.1; after = refl })),
          )
          | inr none_forcing ↦ (
            with_mark s (literal x.0 false) true,
            inl (inl (record { quiet = record { none_false = none_false; none_forcing = none_forcing }; var = x.0; first = x.1; after = refl })),
          )
        ]
      ]
    ]
