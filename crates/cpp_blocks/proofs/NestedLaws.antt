-- What passing all directives gives is what the definitions of blocks say.
use Rattle.std.proofs.Common.{◌≡◌, ℕ, ◌+◌, ◌-◌, ◌<◌, ◌≤◌, zero, suc, Bool, true, false, ◌&&◌, cond, List, [], ◌∷◌, ◌++◌, length, filter, take, get_or, refl, sym, ap, ◌∙◌, arith, append_assoc}
use Rattle.std.specs.Prelude.{nat_le}
use Rattle.std.specs.Prelude.{nat_lt}
use Rattle.std.specs.List.{All, AllPairs, AllWithin}
use Rattle.std.proofs.lemmas.List.Kept.{AllPairs-cons}
use Rattle.cpp_directives.specs.WellFormed.{lines_rise, begins_block, block_count}
use Rattle.std.specs.List.Sorted.{IsPartitionedBy, IsPartitionPoint}
use Rattle.std.proofs.lemmas.List.{append-nil}
use Rattle.std.proofs.lemmas.List.Sums.{sum_by-cons}
use Rattle.std.proofs.lemmas.Bool.{false≢true}
use Rattle.std.proofs.lemmas.Bool.Decides.{nat_tests}
use Rattle.std.proofs.Common.{length-append}
use Rattle.cpp_directives.specs.declared.directive.Directive.{Directive}
use Rattle.cpp_directives.specs.declared.directive.What.{What}
use Rattle.cpp_directives.specs.declared.directive.What.TheVariants.{If, Elif, Else, Endif, Define, Undef}
use Rattle.cpp_blocks.specs.Blocks.{innermost, open_after, parent_at, next_after, parents_from}
use Rattle.cpp_blocks.specs.Kept.{inner_from}
use Rattle.cpp_blocks.specs.Nested.{Nested, passed, all_passed}
use Rattle.cpp_blocks.specs.Nesting.{inside_after, block_at, opener_at, openers_from}

-- one directive
pub record Passes (place : ℕ) (w : What) (n : Nested) : Type 0 where
  pub next_is : (passed place w n).next ≡ next_after n.next w
  pub inside_is : (passed place w n).inside ≡ open_after n.next n.inside w
  pub parents_are : (passed place w n).parents ≡ n.parents ++ parent_at n.inside w
  pub openers_are : (passed place w n).openers ≡ n.openers ++ opener_at place w
  pub inner_is : (passed place w n).inner ≡ n.inner ++ innermost (open_after n.next n.inside w) ∷ []

passes : (place : ℕ) (w : What) (n : Nested) → Passes place w n
passes place (If cond) n = record { next_is = refl; inside_is = refl; parents_are = refl; openers_are = refl; inner_is = refl }
passes place (Elif cond) n = record { next_is = refl; inside_is = refl; parents_are = refl; openers_are = refl; inner_is = refl }
passes place Else n = record { next_is = refl; inside_is = refl; parents_are = refl; openers_are = refl; inner_is = refl }
passes place Endif n = record { next_is = refl; inside_is = refl; parents_are = sym (append-nil n.parents); openers_are = sym (append-nil n.openers); inner_is = refl }
passes place (Define name gives) n = record { next_is = refl; inside_is = refl; parents_are = sym (append-nil n.parents); openers_are = sym (append-nil n.openers); inner_is = refl }
passes place (Undef name) n = record { next_is = refl; inside_is = refl; parents_are = sym (append-nil n.parents); openers_are = sym (append-nil n.openers); inner_is = refl }

pub all_parents : (ds : List Directive) (place : ℕ) (n : Nested) → (all_passed place ds n).parents ≡ n.parents ++ parents_from n.next n.inside ds
all_parents [] place n = sym (append-nil n.parents)
all_parents (d ∷ ds) place n = let p = passes place d.what n in all_parents ds (suc place) (passed place d.what n)
    ∙ ((λ i. p.parents_are i ++ parents_from (p.next_is i) (p.inside_is i) ds) ∙ append_assoc n.parents (parent_at n.inside d.what) (parents_from (next_after n.next d.what) (open_after n.next n.inside d.what) ds))

pub all_openers : (ds : List Directive) (place : ℕ) (n : Nested) → (all_passed place ds n).openers ≡ n.openers ++ openers_from place ds
all_openers [] place n = sym (append-nil n.openers)
all_openers (d ∷ ds) place n = let p = passes place d.what n in all_openers ds (suc place) (passed place d.what n)
    ∙ (ap (λ xs. xs ++ openers_from (suc place) ds) p.openers_are ∙ append_assoc n.openers (opener_at place d.what) (openers_from (suc place) ds))

pub all_inner : (ds : List Directive) (place : ℕ) (n : Nested) → (all_passed place ds n).inner ≡ n.inner ++ inner_from n.next n.inside ds
all_inner [] place n = sym (append-nil n.inner)
all_inner (d ∷ ds) place n = let p = passes place d.what n in all_inner ds (suc place) (passed place d.what n)
    ∙ ((λ i. p.inner_is i ++ inner_from (p.next_is i) (p.inside_is i) ds) ∙ append_assoc n.inner (innermost (open_after n.next n.inside d.what) ∷ []) (inner_from (next_after n.next d.what) (open_after n.next n.inside d.what) ds))

-- as many blocks as directives that begin one
pub as_many_blocks : (ds : List Directive) (next : ℕ) (inside : List ℕ) → length (parents_from next inside ds) ≡ block_count ds
as_many_blocks [] next inside = refl
as_many_blocks (d ∷ ds) next inside = length-append (parent_at inside d.what) (parents_from (next_after next d.what) (open_after next inside d.what) ds)
    ∙ ((λ i. one d.what i + as_many_blocks ds (next_after next d.what) (open_after next inside d.what) i) ∙ sym (sum_by-cons (λ (x : Directive). cond (begins_block x.what) 1 0) d ds))
  where
    one : (w : What) → length (parent_at inside w) ≡ cond (begins_block w) 1 0
    one (If c) = refl
    one (Elif c) = refl
    one Else = refl
    one Endif = refl
    one (Define name gives) = refl
    one (Undef name) = refl

-- as many opening places as parents
pub as_many : (ds : List Directive) (place next : ℕ) (inside : List ℕ) → length (openers_from place ds) ≡ length (parents_from next inside ds)
as_many [] place next inside = refl
as_many (d ∷ ds) place next inside = length-append (opener_at place d.what) (openers_from (suc place) ds)
    ∙ ((λ i. one d.what i + as_many ds (suc place) (next_after next d.what) (open_after next inside d.what) i) ∙ sym (length-append (parent_at inside d.what) (parents_from (next_after next d.what) (open_after next inside d.what) ds)))
  where
    one : (w : What) → length (opener_at place w) ≡ length (parent_at inside w)
    one (If c) = refl
    one (Elif c) = refl
    one Else = refl
    one Endif = refl
    one (Define name gives) = refl
    one (Undef name) = refl

pub inner_length : (ds : List Directive) (next : ℕ) (inside : List ℕ) → length (inner_from next inside ds) ≡ length ds
inner_length [] next inside = refl
inner_length (d ∷ ds) next inside = ap suc (inner_length ds (next_after next d.what) (open_after next inside d.what))

-- the innermost open block after the directives up to a place
pub inner_at : (ds : List Directive) (next : ℕ) (inside : List ℕ) (k : ℕ) → k < length ds → get_or (inner_from next inside ds) k 0 ≡ innermost (inside_after next inside (take (suc k) ds))
inner_at [] next inside k h = absurd (omega arith)
inner_at (d ∷ ds) next inside zero h = refl
inner_at (d ∷ ds) next inside (suc k) h = inner_at ds (next_after next d.what) (open_after next inside d.what) k (omega arith)

-- ---- lines

pub and_left : (a b : Bool) → (a && b) ≡ true → a ≡ true
and_left true b h = refl
and_left false b h = h

pub and_right : (a b : Bool) → (a && b) ≡ true → b ≡ true
and_right true b h = h
and_right false b h = absurd (false≢true h)

below_of : (m n : ℕ) → nat_lt m n ≡ true → m < n
below_of m n t = grind (arith, nat_tests)

after_all : (ds : List Directive) (line : ℕ) → lines_rise line ds ≡ true → All (λ (d : Directive). line < d.line) ds
after_all [] line h k d l = absurd (omega arith)
after_all (d ∷ ds) line h zero e l = below_of line d.line (and_left (nat_lt line d.line) (lines_rise d.line ds) h)
after_all (d ∷ ds) line h (suc k) e l = let b : line < d.line = below_of line d.line (and_left (nat_lt line d.line) (lines_rise d.line ds) h) in
    let r : d.line < (get_or ds k e).line = after_all ds d.line (and_right (nat_lt line d.line) (lines_rise d.line ds) h) k e (omega arith) in omega arith

none_within : (i j : ℕ) → i < j → j < 0 → ⊥
none_within i j l m = omega arith

all_pairs : (ds : List Directive) (line : ℕ) → lines_rise line ds ≡ true → AllPairs (λ (a b : Directive). a.line < b.line) ds
all_pairs [] line h = λ i j d l m. absurd (none_within i j l m)
all_pairs (d ∷ ds) line h = AllPairs-cons (λ (a b : Directive). a.line < b.line) d ds (after_all ds d.line (and_right (nat_lt line d.line) (lines_rise d.line ds) h)) (all_pairs ds d.line (and_right (nat_lt line d.line) (lines_rise d.line ds) h))

in_parts : (ds : List Directive) (line : ℕ) → AllPairs (λ (a b : Directive). a.line < b.line) ds → IsPartitionedBy (λ (d : Directive). nat_le d.line line) ds
in_parts ds line rising i j d below within passes = grind (arith, nat_tests, rising i j d)

pub partitioned : (ds : List Directive) (line : ℕ) → lines_rise 0 ds ≡ true → IsPartitionedBy (λ (d : Directive). nat_le d.line line) ds
partitioned ds line rising = in_parts ds line (all_pairs ds 0 rising)

pub passing_front : {A : Type 0} (p : A → Bool) (xs : List A) (i : ℕ) → AllWithin (λ x. p x ≡ true) xs 0 i → AllWithin (λ x. p x ≡ false) xs i (length xs) → filter p xs ≡ take i xs
passing_front p [] zero front back = refl
passing_front p [] (suc i) front back = refl
passing_front p (x ∷ xs) zero front back = ap (λ b. cond b (x ∷ filter p xs) (filter p xs)) (back 0 x (omega arith) (omega arith))
    ∙ (passing_front p xs zero (λ k d l h. absurd (omega arith)) (λ k d l h. back (suc k) d (omega arith) (omega arith)) ∙ refl)
passing_front p (x ∷ xs) (suc i) front back = ap (λ b. cond b (x ∷ filter p xs) (filter p xs)) (front 0 x (omega arith) (omega arith))
    ∙ ap (λ ys. x ∷ ys) (passing_front p xs i (λ k d l h. front (suc k) d (omega arith) (omega arith)) (λ k d l h. back (suc k) d (omega arith) (omega arith)))

-- where the directives up to a line are the first ones, its block is the innermost open one after them
line_block : (ds : List Directive) (line count : ℕ) → IsPartitionPoint (λ (d : Directive). nat_le d.line line ≡ true) (λ (d : Directive). nat_le d.line line ≡ false) ds count
    → block_at ds line ≡ innermost (inside_after 1 [] (take count ds))
line_block ds line count parts = ap (λ xs. innermost (inside_after 1 [] xs)) (passing_front (λ (d : Directive). nat_le d.line line) ds count parts.0 parts.1)

pub none_before : (ds es : List Directive) (line count : ℕ) → es ≡ ds
    → IsPartitionPoint (λ (d : Directive). nat_le d.line line ≡ true) (λ (d : Directive). nat_le d.line line ≡ false) es count → count ≡ 0 → 0 ≡ block_at ds line
none_before ds es line count e parts none = sym (ap (λ xs. block_at xs line) (sym e) ∙ (line_block es line count parts ∙ ap (λ k. innermost (inside_after 1 [] (take k es))) none))

last_at : (es : List Directive) (line count : ℕ) → IsPartitionPoint (λ (d : Directive). nat_le d.line line ≡ true) (λ (d : Directive). nat_le d.line line ≡ false) es count
    → count ≤ length es → (count ≡ 0 → ⊥) → get_or (inner_from 1 [] es) (count - 1) 0 ≡ block_at es line
last_at es line zero parts within some = absurd (some refl)
last_at es line (suc k) parts within some = let e : suc k - 1 ≡ k = omega arith in
    ap (λ i. get_or (inner_from 1 [] es) i 0) e ∙ (inner_at es 1 [] k (omega arith) ∙ sym (line_block es line (suc k) parts))

pub last_before : (ds es : List Directive) (line count : ℕ) → es ≡ ds
    → IsPartitionPoint (λ (d : Directive). nat_le d.line line ≡ true) (λ (d : Directive). nat_le d.line line ≡ false) es count
    → count ≤ length es → (count ≡ 0 → ⊥) → get_or (inner_from 1 [] es) (count - 1) 0 ≡ block_at ds line
last_before ds es line count e parts within some = last_at es line count parts within some ∙ ap (λ xs. block_at xs line) e
