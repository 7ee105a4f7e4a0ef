-- Parentheses round parentheses are read as what stands inside all of them.
use Rattle.std.proofs.Common.{◌≡◌, ℕ, ◌+◌, ◌-◌, ◌<◌, ◌≤◌, zero, suc, ◌∷◌, ◌++◌, ◌==◌, ◌&&◌, Bool, true, false, cond, List, [], length, length-append, take, drop, append_assoc, refl, ap, sym, subst, ◌∙◌, arith}
use Rattle.std.specs.Prelude.{codes}
use Rattle.std.specs.List.{list_all}
use Rattle.std.proofs.Math.Seq.{take-append_seam}
use Rattle.std.proofs.lemmas.Bool.{false≢true, eqb-true}
use Rattle.std.proofs.lemmas.Bool.Decides.{nat_tests}
use Rattle.std.proofs.lemmas.List.{append-nil, take-append-drop}
use Rattle.std.proofs.lemmas.List.Folds.{list_all-append}
use Rattle.cpp_read.specs.declared.token.Token.{Token}
use Rattle.cpp_read.specs.declared.token.Token.TheVariants.{Sign}
use Rattle.cpp_read.specs.Conditions.{Reader, Reads, inside}
use Rattle.cpp_read.specs.Depth.{deeper, closes_at_end, is_group, is_balanced}
use Rattle.cpp_read.specs.Rows.{is_nest}
use Rattle.cpp_read.specs.Signs.{is_open, is_close}
use Rattle.cpp_read.proofs.RowLaws.{sign_is, and_left, and_right, group_reads}

-- ---- one parenthesis more

not_zero : (d : ℕ) → (d == 0) ≡ false → suc d - 1 ≡ suc (d - 1)
not_zero zero h = absurd (false≢true (sym h))
not_zero (suc d) h = omega arith

suc_apart : (n : ℕ) → (suc n == 0) ≡ false
suc_apart n = grind (arith, nat_tests)

deeper_suc : (d : ℕ) (t : Token) → (is_close t && d == 0) ≡ false → deeper (suc d) t ≡ suc (deeper d t)
deeper_suc d t h = by (is_open t) (is_close t) h
  where
    by : (a b : Bool) → (b && (d == 0)) ≡ false → cond a (suc d + 1) (cond b (suc d - 1) (suc d)) ≡ suc (cond a (d + 1) (cond b (d - 1) d))
    by true b h = omega arith
    by false true h = not_zero d h
    by false false h = refl

closes_cons : (e : ℕ) (t : Token) (ts : List Token) (c : Token) → closes_at_end e (t ∷ (ts ++ c ∷ [])) ≡ cond (deeper e t == 0) false (closes_at_end (deeper e t) (ts ++ c ∷ []))
closes_cons e t [] c = refl
closes_cons e t (u ∷ us) c = refl

-- a parenthesis before balanced tokens is closed by the one after them
inner_closes : (d : ℕ) (ts : List Token) (c : Token) → is_close c ≡ true → is_balanced d ts ≡ true → closes_at_end (suc d) (ts ++ c ∷ []) ≡ true
inner_closes d [] c h b = let z : d ≡ 0 = eqb-true d 0 b in
    subst (λ n. closes_at_end (suc n) (c ∷ []) ≡ true) (sym z) (subst (λ (x : Token). closes_at_end 1 (x ∷ []) ≡ true) (sym (sign_is (codes ")") c h)) refl)
inner_closes d (t ∷ ts) c h b = by (is_close t && d == 0) refl b (inner_closes (deeper d t) ts c h)
  where
    by : (x : Bool) → (is_close t && d == 0) ≡ x → cond x false (is_balanced (deeper d t) ts) ≡ true
        → (is_balanced (deeper d t) ts ≡ true → closes_at_end (suc (deeper d t)) (ts ++ c ∷ []) ≡ true) → closes_at_end (suc d) (t ∷ (ts ++ c ∷ [])) ≡ true
    by true e k f = absurd (false≢true k)
    by false e k f = closes_cons (suc d) t ts c ∙ (ap (λ n. cond (n == 0) false (closes_at_end n (ts ++ c ∷ []))) (deeper_suc d t e)
        ∙ (ap (λ y. cond y false (closes_at_end (suc (deeper d t)) (ts ++ c ∷ []))) (suc_apart (deeper d t)) ∙ f k))

inner_balanced : (d : ℕ) (ts : List Token) (c : Token) → is_close c ≡ true → is_balanced d ts ≡ true → is_balanced (suc d) (ts ++ c ∷ []) ≡ true
inner_balanced d [] c h b = let z : d ≡ 0 = eqb-true d 0 b in
    subst (λ n. is_balanced (suc n) (c ∷ []) ≡ true) (sym z) (subst (λ (x : Token). is_balanced 1 (x ∷ []) ≡ true) (sym (sign_is (codes ")") c h)) refl)
inner_balanced d (t ∷ ts) c h b = by (is_close t && d == 0) refl b (inner_balanced (deeper d t) ts c h)
  where
    none : (x : Bool) → (x && (suc d == 0)) ≡ false
    none true = suc_apart d
    none false = refl

    by : (x : Bool) → (is_close t && d == 0) ≡ x → cond x false (is_balanced (deeper d t) ts) ≡ true
        → (is_balanced (deeper d t) ts ≡ true → is_balanced (suc (deeper d t)) (ts ++ c ∷ []) ≡ true) → is_balanced (suc d) (t ∷ (ts ++ c ∷ [])) ≡ true
    by true e k f = absurd (false≢true k)
    by false e k f = ap (λ y. cond y false (is_balanced (deeper (suc d) t) (ts ++ c ∷ []))) (none (is_close t)) ∙ (ap (λ n. is_balanced n (ts ++ c ∷ [])) (deeper_suc d t e) ∙ f k)

wrapped_group : (o c : Token) (core : List Token) → is_open o ≡ true → is_close c ≡ true → is_balanced 0 core ≡ true → is_group (o ∷ (core ++ c ∷ [])) ≡ true
wrapped_group o c core ho hc b = λ i. ho i && inner_closes 0 core c hc b i

wrapped_balanced : (o c : Token) (core : List Token) → is_open o ≡ true → is_close c ≡ true → is_balanced 0 core ≡ true → is_balanced 0 (o ∷ (core ++ c ∷ [])) ≡ true
wrapped_balanced o c core ho hc b = subst (λ (x : Token). is_balanced 0 (x ∷ (core ++ c ∷ [])) ≡ true) (sym (sign_is (codes "(") o ho)) (inner_balanced 0 core c hc b)

wrapped_inside : (o c : Token) (core : List Token) → inside (o ∷ (core ++ c ∷ [])) ≡ core
wrapped_inside o c core = ap (λ n. take n (core ++ c ∷ [])) same ∙ take-append_seam core (c ∷ [])
  where
    same : length (o ∷ (core ++ c ∷ [])) - 2 ≡ length core
    same = let l : length (core ++ c ∷ []) ≡ length core + length (c ∷ []) = length-append core (c ∷ []) in omega (arith, l)

-- ---- many

record Ends (ts : List Token) : Type 0 where
  front : List Token
  last : Token
  is : ts ≡ front ++ last ∷ []

ends : (t : Token) (ts : List Token) → Ends (t ∷ ts)
ends t [] = record { front = []; last = t; is = refl }
ends t (u ∷ us) = let e = ends u us in record { front = t ∷ e.front; last = e.last; is = ap (λ (xs : List Token). t ∷ xs) e.is }

nested_reads : (line : ℕ) (f : Reader) → Reads line f → (front core back : List Token) → list_all is_open front ≡ true → list_all is_close back ≡ true → length front ≡ length back → is_balanced 0 core ≡ true
    → f (front ++ (core ++ back)) ≡ f core
nested_reads line f r [] core [] ho hc l b = ap f (append-nil core)
nested_reads line f r (o ∷ os) core [] ho hc l b = absurd (omega (arith, l))
nested_reads line f r [] core (c ∷ cs) ho hc l b = absurd (omega (arith, l))
nested_reads line f r (o ∷ os) core (c ∷ cs) ho hc l b =
    let e = ends o os in
    let open_all : (list_all is_open e.front && list_all is_open (e.last ∷ [])) ≡ true = sym (list_all-append is_open e.front (e.last ∷ [])) ∙ (sym (ap (list_all is_open) e.is) ∙ ho) in
    let open_last : is_open e.last ≡ true = and_left (is_open e.last) true (and_right (list_all is_open e.front) (list_all is_open (e.last ∷ [])) open_all) in
    let close_first : is_close c ≡ true = and_left (is_close c) (list_all is_close cs) hc in
    let long : length (o ∷ os) ≡ length e.front + length (e.last ∷ []) = ap length e.is ∙ length-append e.front (e.last ∷ []) in
    let wrap : List Token = e.last ∷ (core ++ c ∷ []) in
    let moved : (o ∷ os) ++ (core ++ c ∷ cs) ≡ e.front ++ (wrap ++ cs) = ap (λ (xs : List Token). xs ++ (core ++ c ∷ cs)) e.is
    ∙ (append_assoc e.front (e.last ∷ []) (core ++ c ∷ cs) ∙ ap (λ (xs : List Token). e.front ++ (e.last ∷ xs)) (sym (append_assoc core (c ∷ []) cs))) in
    ap f moved
    ∙ (nested_reads line f r e.front wrap cs (and_left (list_all is_open e.front) (list_all is_open (e.last ∷ [])) open_all) (and_right (is_close c) (list_all is_close cs) hc) (omega (arith, l, long)) (wrapped_balanced e.last c core open_last close_first b)
    ∙ (group_reads line f wrap r (wrapped_group e.last c core open_last close_first b) ∙ ap f (wrapped_inside e.last c core)))

-- what stands inside the parentheses round a group is read as its inside
pub nest_reads : (line : ℕ) (f : Reader) (ts front rest core back : List Token) (n size : ℕ) → Reads line f → is_group ts ≡ true → front ≡ take n ts → rest ≡ drop n ts → core ≡ take size rest → back ≡ drop size rest
    → is_nest front core back ≡ true → f core ≡ f (inside ts)
nest_reads line f ts front rest core back n size r group front_is rest_is core_is back_is h =
    let same : length front ≡ length back = eqb-true (length front) (length back) (and_left (length front == length back) (list_all is_open front && (list_all is_close back && is_balanced 0 core)) h) in
    let others : (list_all is_open front && (list_all is_close back && is_balanced 0 core)) ≡ true = and_right (length front == length back) (list_all is_open front && (list_all is_close back && is_balanced 0 core)) h in
    let inner : (list_all is_close back && is_balanced 0 core) ≡ true = and_right (list_all is_open front) (list_all is_close back && is_balanced 0 core) others in
    let whole : front ++ (core ++ back) ≡ ts = (λ i. front_is i ++ (core_is i ++ back_is i)) ∙ (ap (λ (xs : List Token). take n ts ++ xs) (take-append-drop size rest ∙ rest_is) ∙ take-append-drop n ts) in
    sym (nested_reads line f r front core back (and_left (list_all is_open front) (list_all is_close back && is_balanced 0 core) others) (and_left (list_all is_close back) (is_balanced 0 core) inner) same (and_right (list_all is_close back) (is_balanced 0 core) inner))
    ∙ (ap f whole ∙ group_reads line f ts r group)
