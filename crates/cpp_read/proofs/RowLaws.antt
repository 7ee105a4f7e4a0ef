-- Tokens that are one unit have no sign outside parentheses. So a row of `!` and an operand is read as the operand, negated
-- as often as there are `!`, and a group is read as its inside.
use Rattle.std.proofs.Common.{◌≡◌, ℕ, ◌+◌, ◌-◌, ◌<◌, ◌≤◌, zero, suc, ◌∷◌, ◌++◌, ◌==◌, ◌&&◌, ◌||◌, Bool, true, false, cond, List, [], length, take, drop, refl, ap, sym, subst, ◌∙◌, arith}
use Rattle.std.specs.Prelude.{Result, Ok, Err, codes, nat_lt, bytes_eq}
use Rattle.std.specs.List.{prefix_len}
use Rattle.std.proofs.lemmas.Bool.{false≢true}
use Rattle.std.proofs.lemmas.Bool.Decides.{nat_tests}
use Rattle.std.proofs.lemmas.Slice.Eq.{bytes_eq-Decides}
use Rattle.cpp_directives.specs.declared.condition.Cond.{Cond}
use Rattle.cpp_directives.specs.declared.bad.CppBad.{CppBad}
use Rattle.cpp_directives.specs.Refusals.{Fails}
use Rattle.cpp_directives.proofs.RefusalLaws.{fails_by}
use Rattle.cpp_read.specs.declared.token.Token.{Token}
use Rattle.cpp_read.specs.declared.token.Token.TheVariants.{Ident, Number, Quoted, Sign}
use Rattle.cpp_read.specs.declared.depth.Joint.{Joint}
use Rattle.cpp_read.specs.declared.depth.Joint.TheVariants as joint
use Rattle.cpp_read.specs.Conditions.{Reader, Reads, negated, single, ruled, by_rules, inside}
use Rattle.cpp_read.specs.Depth.{joins, deeper, before_at, has, closes_at_end, is_group}
use Rattle.cpp_read.specs.Operands.{is_one, is_defined, is_call, is_operand, is_unit, is_negation}
use Rattle.cpp_read.specs.Rows.{nots, negations}
use Rattle.cpp_read.specs.Signs.{is_sign, is_word, is_ident, is_atom, is_open, is_not}

-- ---- single tokens

pub sign_is : (text : List ℕ) (t : Token) → is_sign text t ≡ true → t ≡ Sign text
sign_is text (Sign x) h = ap (λ (y : List ℕ). Sign y) ((bytes_eq-Decides x text).0 h)
sign_is text (Ident x) h = absurd (false≢true h)
sign_is text (Number x) h = absurd (false≢true h)
sign_is text (Quoted x) h = absurd (false≢true h)

pub and_left : (a b : Bool) → (a && b) ≡ true → a ≡ true
and_left true b h = refl
and_left false b h = h

pub and_right : (a b : Bool) → (a && b) ≡ true → b ≡ true
and_right true b h = h
and_right false b h = absurd (false≢true h)

-- ---- no sign outside parentheses

-- no sign stands outside parentheses
abbrev pub Whole : List Token → Type 0
Whole ts = (j : Joint) → before_at j 0 ts ≡ length ts

not_less : (n : ℕ) → nat_lt n n ≡ false
not_less n = grind (arith, nat_tests)

pub has_none : (j : Joint) (ts : List Token) → Whole ts → has j ts ≡ false
has_none j ts w = ap (λ n. nat_lt n (length ts)) (w j) ∙ not_less (length ts)

-- inside an open parenthesis none does, up to its match
closed_before : (j : Joint) (e : ℕ) (ts : List Token) → (e == 0) ≡ false → closes_at_end e ts ≡ true → before_at j e ts ≡ length ts
closed_before j e [] z h = absurd (false≢true h)
closed_before j e (t ∷ []) z h = passed (joins j t) z
  where
    passed : (x : Bool) → (e == 0) ≡ false → ◌≡◌ {A = ℕ} (cond (x && (e == 0)) 0 1) 1
    passed true z = ap (λ y. cond {A = ℕ} y 0 1) z
    passed false z = refl
closed_before j e (t ∷ u ∷ ts) z h = by (deeper e t == 0) refl h (closed_before j (deeper e t) (u ∷ ts))
  where
    passed : (x : Bool) (n : ℕ) → (e == 0) ≡ false → cond (x && (e == 0)) 0 (suc n) ≡ suc n
    passed true n z = ap (λ y. cond y 0 (suc n)) z
    passed false n z = refl

    by : (b : Bool) → (deeper e t == 0) ≡ b → cond b false (closes_at_end (deeper e t) (u ∷ ts)) ≡ true
        → ((deeper e t == 0) ≡ false → closes_at_end (deeper e t) (u ∷ ts) ≡ true → before_at j (deeper e t) (u ∷ ts) ≡ length (u ∷ ts)) → before_at j e (t ∷ u ∷ ts) ≡ length (t ∷ u ∷ ts)
    by true k c f = absurd (false≢true c)
    by false k c f = passed (joins j t) (before_at j (deeper e t) (u ∷ ts)) z ∙ ap suc (f k c)

whole_group : (ts : List Token) → is_group ts ≡ true → Whole ts
whole_group [] h j = absurd (false≢true h)
whole_group (t ∷ ts) h j = subst (λ (x : Token). before_at j 0 (x ∷ ts) ≡ suc (length ts)) (sym (sign_is (codes "(") t (and_left (is_open t) (closes_at_end 1 ts) h)))
    (by j (closed_before j 1 ts refl (and_right (is_open t) (closes_at_end 1 ts) h)))
  where
    by : (j : Joint) → before_at j 1 ts ≡ length ts → before_at j 0 (Sign (codes "(") ∷ ts) ≡ suc (length ts)
    by joint.Pick e = ap suc e
    by joint.Any e = ap suc e
    by joint.All e = ap suc e

whole_not : (t : Token) (ts : List Token) → is_not t ≡ true → Whole ts → Whole (t ∷ ts)
whole_not t ts h w j = subst (λ (x : Token). before_at j 0 (x ∷ ts) ≡ suc (length ts)) (sym (sign_is (codes "!") t h)) (by j (w j))
  where
    by : (j : Joint) → before_at j 0 ts ≡ length ts → before_at j 0 (Sign (codes "!") ∷ ts) ≡ suc (length ts)
    by joint.Pick e = ap suc e
    by joint.Any e = ap suc e
    by joint.All e = ap suc e

-- a name in front
whole_name : (t : Token) (ts : List Token) → is_ident t ≡ true → Whole ts → Whole (t ∷ ts)
whole_name (Ident x) ts h w joint.Pick = ap suc (w joint.Pick)
whole_name (Ident x) ts h w joint.Any = ap suc (w joint.Any)
whole_name (Ident x) ts h w joint.All = ap suc (w joint.All)
whole_name (Number x) ts h w j = absurd (false≢true h)
whole_name (Quoted x) ts h w j = absurd (false≢true h)
whole_name (Sign x) ts h w j = absurd (false≢true h)

whole_none : Whole []
whole_none j = refl

whole_atom : (t : Token) → is_atom t ≡ true → Whole (t ∷ [])
whole_atom (Ident x) h joint.Pick = refl
whole_atom (Ident x) h joint.Any = refl
whole_atom (Ident x) h joint.All = refl
whole_atom (Number x) h joint.Pick = refl
whole_atom (Number x) h joint.Any = refl
whole_atom (Number x) h joint.All = refl
whole_atom (Quoted x) h joint.Pick = refl
whole_atom (Quoted x) h joint.Any = refl
whole_atom (Quoted x) h joint.All = refl
whole_atom (Sign x) h j = absurd (false≢true h)

whole_one : (ts : List Token) → is_one ts ≡ true → Whole ts
whole_one [] h = absurd (false≢true h)
whole_one (t ∷ []) h = whole_atom t h
whole_one (t ∷ u ∷ ts) h = absurd (false≢true h)

word_ident : (text : List ℕ) (t : Token) → is_word text t ≡ true → is_ident t ≡ true
word_ident text (Ident x) h = refl
word_ident text (Number x) h = absurd (false≢true h)
word_ident text (Quoted x) h = absurd (false≢true h)
word_ident text (Sign x) h = absurd (false≢true h)

whole_defined : (ts : List Token) → is_defined ts ≡ true → Whole ts
whole_defined [] h = absurd (false≢true h)
whole_defined (t ∷ []) h = absurd (false≢true h)
whole_defined (t ∷ u ∷ []) h = whole_name t (u ∷ []) (word_ident (codes "defined") t (and_left (is_word (codes "defined") t) (is_ident u) h))
    (whole_name u [] (and_right (is_word (codes "defined") t) (is_ident u) h) whole_none)
whole_defined (t ∷ u ∷ v ∷ ts) h = absurd (false≢true h)

whole_call : (ts : List Token) → is_call ts ≡ true → Whole ts
whole_call [] h = absurd (false≢true h)
whole_call (t ∷ ts) h = whole_name t ts (and_left (is_ident t) (is_group ts) h) (whole_group ts (and_right (is_ident t) (is_group ts) h))

whole_operand : (ts : List Token) → is_operand ts ≡ true → Whole ts
whole_operand ts h = by (is_one ts) (is_defined ts) (is_group ts) (is_call ts) h (whole_one ts) (whole_defined ts) (whole_group ts) (whole_call ts)
  where
    by : (a b c d : Bool) → (a || b || c || d) ≡ true → (a ≡ true → Whole ts) → (b ≡ true → Whole ts) → (c ≡ true → Whole ts) → (d ≡ true → Whole ts) → Whole ts
    by true b c d h f g k l = f refl
    by false true c d h f g k l = g refl
    by false false true d h f g k l = k refl
    by false false false true h f g k l = l refl
    by false false false false h f g k l = absurd (false≢true h)

-- ---- rows

one_and : (n : ℕ) → 1 + n ≡ suc n
one_and n = omega arith

row_more : (t : Token) (ts : List Token) → is_not t ≡ true → prefix_len is_not (t ∷ ts) ≡ suc (prefix_len is_not ts)
row_more t ts h = ap (λ b. cond b (1 + prefix_len is_not ts) 0) h ∙ one_and (prefix_len is_not ts)

row_none : (t : Token) (ts : List Token) → is_not t ≡ false → prefix_len is_not (t ∷ ts) ≡ 0
row_none t ts h = ap (λ b. cond b (1 + prefix_len is_not ts) 0) h

whole_unit : (ts : List Token) → is_unit ts ≡ true → Whole ts
whole_unit [] h = absurd (false≢true h)
whole_unit (t ∷ ts) h = by (is_not t) refl (whole_unit ts)
  where
    by : (b : Bool) → is_not t ≡ b → (is_unit ts ≡ true → Whole ts) → Whole (t ∷ ts)
    by true e f = whole_not t ts e (f (sym (ap (λ n. is_operand (drop n (t ∷ ts))) (row_more t ts e)) ∙ h))
    by false e f = whole_operand (t ∷ ts) (sym (ap (λ n. is_operand (drop n (t ∷ ts))) (row_none t ts e)) ∙ h)

-- what no sign cuts is read as one
pub whole_reads : (line : ℕ) (f : Reader) (t : Token) (ts : List Token) → Reads line f → Whole (t ∷ ts) → f (t ∷ ts) ≡ single f (t ∷ ts)
whole_reads line f t ts r w = r (t ∷ ts) ∙ rw (has_none joint.Pick (t ∷ ts) w, has_none joint.Any (t ∷ ts) w, has_none joint.All (t ∷ ts) w) refl

-- a row of `!` and an operand
pub row_reads : (line : ℕ) (f : Reader) (ts : List Token) → Reads line f → is_unit ts ≡ true → f ts ≡ negations (prefix_len is_not ts) (f (drop (prefix_len is_not ts) ts))
row_reads line f [] r h = absurd (false≢true h)
row_reads line f (t ∷ ts) r h = by (is_not t) refl (row_reads line f ts r)
  where
    by : (b : Bool) → is_not t ≡ b → (is_unit ts ≡ true → f ts ≡ negations (prefix_len is_not ts) (f (drop (prefix_len is_not ts) ts)))
        → f (t ∷ ts) ≡ negations (prefix_len is_not (t ∷ ts)) (f (drop (prefix_len is_not (t ∷ ts)) (t ∷ ts)))
    by true e g =
        let unit : is_unit ts ≡ true = sym (ap (λ n. is_operand (drop n (t ∷ ts))) (row_more t ts e)) ∙ h in
        let taken : is_negation (t ∷ ts) ≡ true = (λ i. e i && unit i) in
        whole_reads line f t ts r (whole_unit (t ∷ ts) h) ∙ (rw taken (ap negated (g unit)) ∙ sym (ap (λ n. negations n (f (drop n (t ∷ ts)))) (row_more t ts e)))
    by false e g = sym (ap (λ n. negations n (f (drop n (t ∷ ts)))) (row_none t ts e))

-- `!` and a unit
pub negation_reads : (line : ℕ) (f : Reader) (ts : List Token) → Reads line f → is_negation ts ≡ true → single f ts ≡ negations (prefix_len is_not ts) (f (drop (prefix_len is_not ts) ts))
negation_reads line f [] r h = absurd (false≢true h)
negation_reads line f (t ∷ ts) r h =
    let e : is_not t ≡ true = and_left (is_not t) (is_unit ts) h in
    rw h (ap negated (row_reads line f ts r (and_right (is_not t) (is_unit ts) h))) ∙ sym (ap (λ n. negations n (f (drop n (t ∷ ts)))) (row_more t ts e))

pub negations-Ok : (k : ℕ) (c : Cond) → negations k (Ok c) ≡ Ok (nots k c)
negations-Ok zero c = refl
negations-Ok (suc k) c = ap negated (negations-Ok k c)

pub negations-Err : (k : ℕ) (e : CppBad) → negations k (Err e) ≡ Err e
negations-Err zero e = refl
negations-Err (suc k) e = ap negated (negations-Err k e)

-- a group is read as its inside
pub group_reads : (line : ℕ) (f : Reader) (ts : List Token) → Reads line f → is_group ts ≡ true → f ts ≡ f (inside ts)
group_reads line f [] r h = absurd (false≢true h)
group_reads line f (t ∷ ts) r h = whole_reads line f t ts r (whole_group (t ∷ ts) h) ∙ rw (first, h) refl
  where
    first : is_negation (t ∷ ts) ≡ false
    first = subst (λ (x : Token). is_negation (x ∷ ts) ≡ false) (sym (sign_is (codes "(") t (and_left (is_open t) (closes_at_end 1 ts) h))) refl

drop_shorter : (n : ℕ) (us : List Token) → length (drop n us) ≤ length us
drop_shorter zero us = omega arith
drop_shorter (suc n) [] = omega arith
drop_shorter (suc n) (u ∷ us) = let h : length (drop n us) ≤ length us = drop_shorter n us in omega arith

-- what stands after the row is shorter
pub row_shorter : (ts : List Token) → is_negation ts ≡ true → length (drop (prefix_len is_not ts) ts) < length ts
row_shorter [] h = absurd (false≢true h)
row_shorter (t ∷ ts) h = subst (λ n. length (drop n (t ∷ ts)) < suc (length ts)) (sym (row_more t ts (and_left (is_not t) (is_unit ts) h))) (by (prefix_len is_not ts) ts)
  where
    by : (n : ℕ) (us : List Token) → length (drop n us) < suc (length us)
    by n us = omega (arith, drop_shorter n us)

-- an answer after a row
pub row_answers : (line : ℕ) (f : Reader) (ts us : List Token) (n : ℕ) (c whole : Cond) → Reads line f → is_negation ts ≡ true → us ≡ drop (prefix_len is_not ts) ts → n ≡ prefix_len is_not ts
    → f us ≡ Ok c → whole ≡ nots n c → single f ts ≡ Ok whole
row_answers line f ts us n c whole r h rest count is to = negation_reads line f ts r h
    ∙ (ap (negations (prefix_len is_not ts)) (ap f (sym rest) ∙ is) ∙ (negations-Ok (prefix_len is_not ts) c ∙ (ap (λ (k : ℕ). Ok (nots k c)) (sym count) ∙ ap (λ (x : Cond). Ok x) (sym to))))

pub row_fails : (line : ℕ) (f : Reader) (ts us : List Token) (e : CppBad) → Reads line f → is_negation ts ≡ true → us ≡ drop (prefix_len is_not ts) ts → Fails e (f us) → Fails e (single f ts)
row_fails line f ts us e r h rest fails = fails_by e (f us) (single f ts) (λ k is. negation_reads line f ts r h ∙ (ap (negations (prefix_len is_not ts)) (ap f (sym rest) ∙ is) ∙ negations-Err (prefix_len is_not ts) k)) fails
