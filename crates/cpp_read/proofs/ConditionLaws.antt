-- There is a reader by the rules: `ruled_condition`.
use Rattle.std.proofs.Common.{◌≡◌, ℕ, ◌-◌, ◌<◌, ◌≤◌, ◌∷◌, ◌==◌, ◌&&◌, Bool, true, false, cond, List, [], length, drop, suc, zero, refl, sym, arith}
use borrow.Author.Tests.{ltb-true}
use Rattle.std.proofs.lemmas.Bool.{false≢true}
use Rattle.std.proofs.lemmas.List.{length-take, length-drop}
use Rattle.cpp_read.specs.declared.token.Token.{Token}
use Rattle.cpp_read.specs.declared.depth.Joint.{Joint}
use Rattle.cpp_read.specs.declared.depth.Joint.TheVariants as joint
use Rattle.cpp_read.specs.Depth.{parts_at, parts, before_at, joins, deeper, onto_part, has, is_group}
use Rattle.cpp_read.specs.Operands.{is_negation}
use Rattle.cpp_read.specs.Conditions.{Reader, Reads, each, ruled, single, inside, is_none, by_rules}
use Rattle.cpp_read.specs.Condition.{within, ruled_condition}
use Rattle.cpp_read.proofs.DepthLemmas.{part_step}

AllShort : ℕ → List (List Token) → Type 0
AllShort n [] = Unit {0}
AllShort n (p ∷ ps) = (length p < n) × AllShort n ps

at_most : (n m : ℕ) (ps : List (List Token)) → n ≤ m → AllShort n ps → AllShort m ps
unfolding AllShort
at_most n m [] h a = tt
at_most n m (p ∷ ps) h a = (omega (arith, a.0), at_most n m ps h a.1)

one_longer : (n : ℕ) (t : Token) (ps : List (List Token)) → AllShort (suc n) ps → AllShort (suc (suc n)) (onto_part t ps)
unfolding AllShort
one_longer n t [] a = (omega arith, tt)
one_longer n t (p ∷ ps) a = (omega (arith, a.0), at_most (suc n) (suc (suc n)) ps (omega arith) a.1)

parts_within : (j : Joint) (d : ℕ) (ts : List Token) → AllShort (suc (length ts)) (parts_at j d ts)
unfolding AllShort
parts_within j d [] = (omega arith, tt)
parts_within j d (t ∷ ts) = by (joins j t && d == 0) (parts_within j d ts) (parts_within j (deeper d t) ts)
  where
    by : (b : Bool) → AllShort (suc (length ts)) (parts_at j d ts) → AllShort (suc (length ts)) (parts_at j (deeper d t) ts)
        → AllShort (suc (suc (length ts))) (cond b ([] ∷ parts_at j d ts) (onto_part t (parts_at j (deeper d t) ts)))
    by true a b = (omega arith, at_most (suc (length ts)) (suc (suc (length ts))) (parts_at j d ts) (omega arith) a)
    by false a b = one_longer (length ts) t (parts_at j (deeper d t) ts) b

parts_short : (j : Joint) (ts : List Token) → before_at j 0 ts < length ts → AllShort (length ts) (parts j ts)
unfolding AllShort
parts_short j ts h = rw (part_step j 0 ts h) (
  omega (arith, length-take (before_at j 0 ts) ts),
  at_most (suc (length (drop (suc (before_at j 0 ts)) ts))) (length ts) (parts_at j 0 (drop (suc (before_at j 0 ts)) ts)) (omega (arith, length-drop (suc (before_at j 0 ts)) ts)) (parts_within j 0 (drop (suc (before_at j 0 ts)) ts)),
)

Agree : Reader → Reader → ℕ → Type 0
Agree f g n = (us : List Token) → length us < n → f us ≡ g us

each_agree : (f g : Reader) (n : ℕ) → Agree f g n → (ps : List (List Token)) → AllShort n ps → each f ps ≡ each g ps
unfolding AllShort Agree
each_agree f g n h [] a = refl
each_agree f g n h (p ∷ ps) a = rw (h p a.0, each_agree f g n h ps a.1) refl

-- a list that begins with something loses it
pub tail_shorter : (ts : List Token) → is_none ts ≡ false → length (drop 1 ts) < length ts
tail_shorter [] h = absurd (false≢true (sym h))
tail_shorter (t ∷ ts) h = omega arith

negation_some : (ts : List Token) → is_negation ts ≡ true → is_none ts ≡ false
negation_some [] h = absurd (false≢true h)
negation_some (t ∷ ts) h = refl

pub group_some : (ts : List Token) → is_group ts ≡ true → 0 < length ts
group_some [] h = absurd (false≢true h)
group_some (t ∷ ts) h = omega arith

pub inside_shorter : (ts : List Token) → is_group ts ≡ true → length (inside ts) < length ts
inside_shorter ts h = omega (arith, length-take (length ts - 2) (drop 1 ts), length-drop 1 ts, group_some ts h)

single_agree : (f g : Reader) (ts : List Token) → Agree f g (length ts) → single f ts ≡ single g ts
unfolding Agree
single_agree f g ts h = by (is_negation ts) (is_group ts) refl refl
  where
    by : (a b : Bool) → is_negation ts ≡ a → is_group ts ≡ b → single f ts ≡ single g ts
    by true b p q = rw (p, h (drop 1 ts) (tail_shorter ts (negation_some ts p))) refl
    by false true p q = rw (p, q, h (inside ts) (inside_shorter ts q)) refl
    by false false p q = rw (p, q) refl

ruled_agree : (f g : Reader) (ts : List Token) → Agree f g (length ts) → ruled f ts ≡ ruled g ts
ruled_agree f g ts h = by (has joint.Pick ts) (has joint.Any ts) (has joint.All ts) refl refl refl
  where
    by : (a b c : Bool) → has joint.Pick ts ≡ a → has joint.Any ts ≡ b → has joint.All ts ≡ c → ruled f ts ≡ ruled g ts
    by true b c o p q = rw o refl
    by false true c o p q = rw (o, p, each_agree f g (length ts) h (parts joint.Any ts) (parts_short joint.Any ts (ltb-true (before_at joint.Any 0 ts) (length ts) p))) refl
    by false false true o p q = rw (o, p, q, each_agree f g (length ts) h (parts joint.All ts) (parts_short joint.All ts (ltb-true (before_at joint.All 0 ts) (length ts) q))) refl
    by false false false o p q = rw (o, p, q) (single_agree f g ts h)

rules_agree : (line : ℕ) (f g : Reader) (ts : List Token) → Agree f g (length ts) → by_rules line f ts ≡ by_rules line g ts
rules_agree line f g ts h = rw (ruled_agree f g ts h) refl

agree : (line n m : ℕ) (ts : List Token) → length ts < n → length ts < m → within line n ts ≡ within line m ts
unfolding within Agree
agree line zero m ts a b = absurd (omega arith)
agree line (suc n) zero ts a b = absurd (omega arith)
agree line (suc n) (suc m) ts a b = rules_agree line (within line n) (within line m) ts (λ us h. agree line n m us (omega arith) (omega arith))

pub condition_reads : (line : ℕ) → Reads line (ruled_condition line)
unfolding within ruled_condition Agree
condition_reads line ts = rules_agree line (within line (length ts)) (ruled_condition line) ts (λ us h. agree line (length ts) (suc (length us)) us h (omega arith))
