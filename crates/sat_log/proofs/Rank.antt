-- The number of lists of marks to come: its closed form, and that it falls.
use Rattle.std.proofs.Common.{◌≡◌, ℕ, zero, suc, ◌+◌, ◌-◌, ◌*◌, ◌^◌, ◌<◌, ◌≤◌, Bool, true, false, cond, List, [], ◌∷◌, ◌++◌, length, refl, sym, ap, ◌∙◌, subst, arith, add-one}
use Rattle.std.specs.Prelude.{map, count_by}
use Rattle.std.proofs.lemmas.List.{length-map, length-append}
use Rattle.std.proofs.lemmas.List.Sums.{sum_by-append, sum_by-cons}
use Rattle.std.proofs.Math.Nat.{pow-suc}
use Rattle.std.proofs.lemmas.Nat.{pow_pos}
use Rattle.ut_logic.specs.Clauses.{literal}
use Rattle.sat_log.specs.declared.marks.Mark.{Mark}
use Rattle.sat_log.specs.ToCome.{kinds, beginning, kind_lists, comes_after, lists_to_come}

-- the number of lists to come in closed form
abbrev pub rank : ℕ → List Mark → ℕ
rank n [] = 2 ^ (n + 1) - 2
rank zero (m ∷ ms) = 0
rank (suc n) (m ∷ ms) = cond m.decided (2 ^ (n + 1) - 1) 0 + rank n ms

-- some forced mark; the rank sees no more of it
abbrev pub forced_mark : Mark
forced_mark = record { lit = literal 0 false; decided = false }

twice : (k : ℕ) → 2 ^ (suc k + 1) ≡ 2 * 2 ^ (k + 1)
twice k =
    let e : suc (k + 1) ≡ suc k + 1 = omega arith in
    let h : 2 ^ suc (k + 1) ≡ 2 * 2 ^ (k + 1) = omega (arith, pow-suc 2 (k + 1)) in
    subst (λ t. 2 ^ t ≡ 2 * 2 ^ (k + 1)) e h

at_least_two : (k : ℕ) → 2 ≤ 2 ^ (k + 1)
at_least_two k =
    let h : 2 ≤ 2 ^ suc k = omega (arith, pow-suc 2 k, pow_pos k) in
    subst (λ t. 2 ≤ 2 ^ t) (sym (add-one k)) h

-- a count over one list more
count_more : (p : List Bool → Bool) (l : List Bool) (ls : List (List Bool)) → count_by p (l ∷ ls) ≡ cond (p l) 1 0 + count_by p ls
count_more p l ls = sum_by-cons (λ (x : List Bool). cond (p x) 1 0) l ls

count_append : (p : List Bool → Bool) (xs ys : List (List Bool)) → count_by p (xs ++ ys) ≡ count_by p xs + count_by p ys
count_append p xs ys = sum_by-append (λ (x : List Bool). cond (p x) 1 0) xs ys

length_beginning : (b : Bool) (lists : List (List Bool)) → length (beginning b lists) ≡ length lists + 1
length_beginning b lists =
    let e : length (map (λ (l : List Bool). b ∷ l) lists) ≡ length lists = length-map lists _ in
    omega arith

-- how many lists of one to n kinds there are
length_kind_lists : (n : ℕ) → length (kind_lists n) ≡ 2 ^ (n + 1) - 2
length_kind_lists zero = refl
length_kind_lists (suc n) =
    omega (arith, length-append (beginning true (kind_lists n)) (beginning false (kind_lists n)), length_beginning true (kind_lists n), length_beginning false (kind_lists n), length_kind_lists n, twice n, at_least_two n)

-- lists that all come after
count_all : (p : List Bool → Bool) (b : Bool) (lists : List (List Bool)) → ((l : List Bool) → p (b ∷ l) ≡ true) → count_by p (beginning b lists) ≡ length lists + 1
count_all p b lists all =
    omega (arith, count_more p (b ∷ []) (map (λ (l : List Bool). b ∷ l) lists), ap {B = ℕ} (λ t. cond t 1 0) (all []), behind lists)
  where
    behind : (ls : List (List Bool)) → count_by p (map (λ (l : List Bool). b ∷ l) ls) ≡ length ls
    behind [] = refl
    behind (l ∷ ls) = omega (arith, count_more p (b ∷ l) (map (λ (k : List Bool). b ∷ k) ls), ap {B = ℕ} (λ t. cond t 1 0) (all l), behind ls)

-- lists of which none comes after
count_none : (p : List Bool → Bool) (b : Bool) (lists : List (List Bool)) → ((l : List Bool) → p (b ∷ l) ≡ false) → count_by p (beginning b lists) ≡ 0
count_none p b lists none =
    omega (arith, count_more p (b ∷ []) (map (λ (l : List Bool). b ∷ l) lists), ap {B = ℕ} (λ t. cond t 1 0) (none []), behind lists)
  where
    behind : (ls : List (List Bool)) → count_by p (map (λ (l : List Bool). b ∷ l) ls) ≡ 0
    behind [] = refl
    behind (l ∷ ls) = omega (arith, count_more p (b ∷ l) (map (λ (k : List Bool). b ∷ k) ls), ap {B = ℕ} (λ t. cond t 1 0) (none l), behind ls)

same_kind : (b : Bool) (xs ys : List Bool) → comes_after (b ∷ xs) (b ∷ ys) ≡ comes_after xs ys
same_kind true xs ys = refl
same_kind false xs ys = refl

-- behind the same kind the rests decide
count_same : (b : Bool) (xs : List Bool) (lists : List (List Bool)) → count_by (comes_after (b ∷ xs)) (beginning b lists) ≡ count_by (comes_after xs) lists
count_same b xs lists =
    omega (arith, count_more (comes_after (b ∷ xs)) (b ∷ []) (map (λ (l : List Bool). b ∷ l) lists), ap {B = ℕ} (λ t. cond t 1 0) (same_kind b xs [] ∙ after_none xs), behind lists)
  where
    after_none : (ys : List Bool) → comes_after ys [] ≡ false
    after_none ys = refl

    behind : (ls : List (List Bool)) → count_by (comes_after (b ∷ xs)) (map (λ (l : List Bool). b ∷ l) ls) ≡ count_by (comes_after xs) ls
    behind [] = refl
    behind (l ∷ ls) = omega (arith, count_more (comes_after (b ∷ xs)) (b ∷ l) (map (λ (k : List Bool). b ∷ k) ls), count_more (comes_after xs) l ls, ap {B = ℕ} (λ t. cond t 1 0) (same_kind b xs l), behind ls)

-- what a first mark leaves to come, and then its rest
count_behind : (d : Bool) (n : ℕ) (xs : List Bool) → count_by (comes_after (d ∷ xs)) (kind_lists (suc n)) ≡ cond d (2 ^ (n + 1) - 1) 0 + count_by (comes_after xs) (kind_lists n)
count_behind true n xs =
    omega (
      arith,
      count_append (comes_after (true ∷ xs)) (beginning true (kind_lists n)) (beginning false (kind_lists n)),
      count_same true xs (kind_lists n),
      count_all (comes_after (true ∷ xs)) false (kind_lists n) (λ l. refl),
      length_kind_lists n,
      at_least_two n,
    )
count_behind false n xs =
    omega (
      arith,
      count_append (comes_after (false ∷ xs)) (beginning true (kind_lists n)) (beginning false (kind_lists n)),
      count_same false xs (kind_lists n),
      count_none (comes_after (false ∷ xs)) true (kind_lists n) (λ l. refl),
    )

-- every list comes after the empty one
count_from_none : (n : ℕ) → count_by (comes_after []) (kind_lists n) ≡ length (kind_lists n)
count_from_none zero = refl
count_from_none (suc n) =
    omega (
      arith,
      count_append (comes_after []) (beginning true (kind_lists n)) (beginning false (kind_lists n)),
      length-append (beginning true (kind_lists n)) (beginning false (kind_lists n)),
      length_beginning true (kind_lists n),
      length_beginning false (kind_lists n),
      count_all (comes_after []) true (kind_lists n) (λ l. refl),
      count_all (comes_after []) false (kind_lists n) (λ l. refl),
    )

-- the number of lists to come is the rank
pub to_come_is_rank : (n : ℕ) (ms : List Mark) → lists_to_come n ms ≡ rank n ms
to_come_is_rank n [] = count_from_none n ∙ length_kind_lists n
to_come_is_rank zero (m ∷ ms) = refl
to_come_is_rank (suc n) (m ∷ ms) = count_behind m.decided n (kinds ms) ∙ ap (λ k. cond m.decided (2 ^ (n + 1) - 1) 0 + k) (to_come_is_rank n ms)

-- what a first mark adds is the lists that begin with a forced one, behind a decided one
share_below : (n : ℕ) (b : Bool) → cond b (2 ^ (n + 1) - 1) 0 ≤ 2 ^ (n + 1) - 1
share_below n true = omega arith
share_below n false = omega arith

-- an extension comes later
pub rank_push : (n : ℕ) (ms : List Mark) (m : Mark) → length ms < n → rank n (ms ++ m ∷ []) + 1 ≤ rank n ms
rank_push zero ms m h = absurd (omega arith)
rank_push (suc k) [] m h = omega (arith, twice k, at_least_two k, share_below k m.decided)
rank_push (suc k) (x ∷ xs) m h = omega (arith, rank_push k xs m (omega (arith, h)))

-- a forced mark in the place of a decided one comes later than all that begins with that
pub rank_cut : (n : ℕ) (kept : List Mark) (cut : Mark) (gone : List Mark) → cut.decided ≡ true → length (kept ++ cut ∷ gone) ≤ n → rank n (kept ++ forced_mark ∷ []) + 1 ≤ rank n (kept ++ cut ∷ gone)
rank_cut zero [] cut gone d h = absurd (omega (arith, h))
rank_cut zero (x ∷ xs) cut gone d h = absurd (omega (arith, h))
rank_cut (suc k) [] cut gone d h = rw d (omega (arith, at_least_two k))
rank_cut (suc k) (x ∷ xs) cut gone d h = omega (arith, rank_cut k xs cut gone d (omega (arith, h)))

-- the rank of an extension by a forced mark sees only that it is forced
pub rank_forced : (n : ℕ) (ms : List Mark) (m : Mark) → m.decided ≡ false → rank n (ms ++ m ∷ []) ≡ rank n (ms ++ forced_mark ∷ [])
rank_forced zero [] m d = refl
rank_forced zero (x ∷ xs) m d = refl
rank_forced (suc k) [] m d = rw d refl
rank_forced (suc k) (x ∷ xs) m d = ap (λ t. cond x.decided (2 ^ (k + 1) - 1) 0 + t) (rank_forced k xs m d)
