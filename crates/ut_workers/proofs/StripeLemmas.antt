use Rattle.std.proofs.Common.{◌≡◌, ℕ, suc, ◌+◌, ◌-◌, ◌<◌, ◌≤◌, List, [], ◌∷◌, ◌++◌, length, map, IfOk, refl, sym, ap, subst, ◌∙◌, drop, arith}
use Rattle.std.specs.List.{AllZip}
use Rattle.std.specs.declared.result.Result.{Result}
use Rattle.std.specs.declared.result.Result.TheVariants.{Ok}
use Rattle.std.proofs.lemmas.List.{get_or-map, append_assoc, append-nil, drop_all, at_drop_more, length-map}
use lib.ListN.{get_or}
use Rattle.ut_workers.specs.Stripes.{stripe, AreStripes}

-- once the first job is gone, the stripes after the first one begin one place earlier
without_first : {A B S : Type 0} (R : A → B → Type 0) (items : S → List B) (n s e : ℕ) (x : A) (xs : List A) (ps : List S)
    → AreStripes R n (suc s) (suc e) (x ∷ xs) ps items → AreStripes R n s e xs ps items
without_first R items n s e x xs [] h = omega arith
without_first R items n s e x xs (p ∷ ps) h = (h.0, without_first R items n (suc s) e x xs ps h.1)

-- one more stripe at the end
AreStripes-append : {A B S : Type 0} (R : A → B → Type 0) (items : S → List B) (n s e : ℕ) (xs : List A) (ps : List S) (p : S)
    → AreStripes R n s e xs ps items → AllZip R (stripe n e xs) (items p) → AreStripes R n s (suc e) xs (ps ++ p ∷ []) items
AreStripes-append R items n s e xs [] p h k = (subst (λ i. AllZip R (stripe n i xs) (items p)) (sym h) k, ap suc h)
AreStripes-append R items n s e xs (q ∷ ps) p h k = (h.0, AreStripes-append R items n (suc s) e xs ps p h.1 k)

-- the first stripe gives the answer to the first job, and is the last one for the jobs after it
pub turned : {A B S : Type 0} (R : A → B → Type 0) (items : S → List B) (n : ℕ) (x : A) (xs : List A) (p rest : S) (ps : List S) (y : B)
    → 0 < n → items p ≡ y ∷ items rest → AreStripes R n 0 n (x ∷ xs) (p ∷ ps) items
    → R x y × AreStripes R n 0 n xs (ps ++ rest ∷ []) items
turned R items n x xs p rest ps y some is h =
    let same : n ≡ suc (n - 1) = omega arith in
    let parts : AreStripes R n 1 (suc (n - 1)) (x ∷ xs) ps items = subst (λ e. AreStripes R n 1 e (x ∷ xs) ps items) same h.1 in
    let first : AllZip R (x ∷ stripe n (n - 1) xs) (y ∷ items rest) = subst (AllZip R (x ∷ stripe n (n - 1) xs)) is h.0 in
    let back : AreStripes R n 0 (suc (n - 1)) xs (ps ++ rest ∷ []) items = AreStripes-append R items n 0 (n - 1) xs ps rest (without_first R items n 0 (n - 1) x xs ps parts) first.1 in
    (first.0, subst (λ e. AreStripes R n 0 e xs (ps ++ rest ∷ []) items) (sym same) back)

-- stripes, each of which is right by itself
from_each : {A B S : Type 0} (R : A → B → Type 0) (items : S → List B) (n s : ℕ) (xs : List A) (ps : List S)
    → ((i : ℕ) (d : S) → i < length ps → AllZip R (stripe n (s + i) xs) (items (get_or ps i d)))
    → AreStripes R n s (s + length ps) xs ps items
from_each R items n s xs [] h = omega arith
from_each R items n s xs (p ∷ ps) h =
    let first : AllZip R (stripe n s xs) (items p) = subst (λ e. AllZip R (stripe n e xs) (items p)) (omega arith) (h 0 p (omega arith)) in
    let rest : AreStripes R n (suc s) (suc s + length ps) xs ps items =
    from_each R items n (suc s) xs ps (λ i d l. subst (λ e. AllZip R (stripe n e xs) (items (get_or ps i d))) (omega arith) (h (suc i) d (omega arith))) in
    (first, subst (λ e. AreStripes R n (suc s) e xs ps items) (omega arith) rest)

-- the stripes of workers that all judged theirs to the end
pub all_judged : {A B S E : Type 0} (R : A → B → Type 0) (items : S → List B) (n : ℕ) (xs : List A) (ps : List S) (rs : List (Result S E))
    → map Ok ps ≡ rs → length rs ≡ n
    → ((i : ℕ) (d : Result S E) → i < n → IfOk (get_or rs i d) (λ p. AllZip R (stripe n i xs) (items p)))
    → AreStripes R n 0 n xs ps items
all_judged {S} {E} R items n xs ps rs same long each =
    let len : length ps ≡ n = sym (length-map ps Ok) ∙ ap length same ∙ long in
    subst (λ e. AreStripes R n 0 e xs ps items) (omega arith)
    (from_each R items n 0 xs ps (λ i d l.
    subst (λ e. AllZip R (stripe n e xs) (items (get_or ps i d))) (omega arith) (subst (λ r. IfOk r (λ p. AllZip R (stripe n i xs) (items p)))
    (ap (λ l. get_or l i (Ok d)) (sym same) ∙ get_or-map Ok ps i d (Ok d) l)
    (each i (Ok d) (omega arith)))))

-- the items from place k on
drop_next : {A : Type 0} (k : ℕ) (xs : List A) → k < length xs → (x : A) × (drop k xs ≡ x ∷ drop (k + 1) xs)
drop_next k [] h = absurd (omega arith)
drop_next k (x ∷ xs) h = (get_or (x ∷ xs) k x, at_drop_more (λ l. l) (x ∷ xs) k x h)

-- one turn of `interleave`: what was so for the jobs from k on is so for those from k + 1 on
pub one_more_answer : {A B S : Type 0} (R : A → B → Type 0) (items : S → List B) (n : ℕ) (xs : List A) (k : ℕ) (old new : List B) (ps others qs : List S) (p rest : S) (y : B)
    → k < length xs → 0 < n → ps ≡ p ∷ others → items p ≡ y ∷ items rest → qs ≡ others ++ rest ∷ [] → new ≡ old ++ y ∷ []
    → AreStripes R n 0 n (drop k xs) ps items → ((more : List B) → AllZip R (drop k xs) more → AllZip R xs (old ++ more))
    → AreStripes R n 0 n (drop (k + 1) xs) qs items × ((more : List B) → AllZip R (drop (k + 1) xs) more → AllZip R xs (new ++ more))
one_more_answer R items n xs k old new ps others qs p rest y inside some first part back last parts so_far =
    let next = drop_next k xs inside in
    let parts' : AreStripes R n 0 n (next.0 ∷ drop (k + 1) xs) (p ∷ others) items =
    subst (λ zs. AreStripes R n 0 n zs (p ∷ others) items) next.1 (subst (λ l. AreStripes R n 0 n (drop k xs) l items) first parts) in
    let h = turned R items n next.0 (drop (k + 1) xs) p rest others y some part parts' in (
      subst (λ l. AreStripes R n 0 n (drop (k + 1) xs) l items) (sym back) h.1,
      λ more m.
          subst (AllZip R xs) (sym (append_assoc old (y ∷ []) more) ∙ ap (λ l. l ++ more) (sym last))
          (so_far (y ∷ more) (subst (λ zs. AllZip R zs (y ∷ more)) (sym next.1) (h.0, m))),
    )

-- a list without length has no items
nothing_left : {A : Type 0} (xs : List A) → length xs ≡ 0 → xs ≡ []
nothing_left [] h = refl
nothing_left (x ∷ xs) h = absurd (omega arith)

-- while a job is left, a stripe is
pub never_empty : {A B S : Type 0} (R : A → B → Type 0) (items : S → List B) (n : ℕ) (xs : List A) (k : ℕ) (ps : List S)
    → 0 < n → AreStripes R n 0 n (drop k xs) ps items → length ps ≡ 0 → ⊥
never_empty R items n xs k ps some parts empty =
    let h : 0 ≡ n = subst (λ l. AreStripes R n 0 n (drop k xs) l items) (nothing_left ps empty) parts in
    absurd (omega arith)

-- while a job is left, the first stripe has an answer
pub never_short : {A B S : Type 0} (R : A → B → Type 0) (items : S → List B) (n : ℕ) (xs : List A) (k : ℕ) (ps others : List S) (p : S)
    → k < length xs → AreStripes R n 0 n (drop k xs) ps items → ps ≡ p ∷ others → length (items p) ≡ 0 → ⊥
never_short R items n xs k ps others p inside parts first empty =
    let next = drop_next k xs inside in
    let parts' : AreStripes R n 0 n (next.0 ∷ drop (k + 1) xs) (p ∷ others) items =
    subst (λ zs. AreStripes R n 0 n zs (p ∷ others) items) next.1 (subst (λ l. AreStripes R n 0 n (drop k xs) l items) first parts) in
    subst (AllZip R (next.0 ∷ stripe n (n - 1) (drop (k + 1) xs))) (nothing_left (items p) empty) parts'.0

-- when no job is left, all answers have come
pub all_answered : {A B : Type 0} (R : A → B → Type 0) (xs : List A) (k : ℕ) (old : List B)
    → length xs ≤ k → ((more : List B) → AllZip R (drop k xs) more → AllZip R xs (old ++ more)) → AllZip R xs old
all_answered R xs k old end so_far =
    subst (AllZip R xs) (append-nil old) (so_far [] (subst (λ zs. AllZip R zs []) (sym (drop_all k xs end)) tt))
