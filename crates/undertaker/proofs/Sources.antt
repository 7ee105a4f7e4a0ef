-- The directives that are read of a source of the first form are plain.
use Rattle.std.proofs.Common.{◌≡◌, ℕ, ◌+◌, Bool, true, false, cond, refl, ap, subst, List, [], ◌∷◌, ◌++◌, drop, bytes_eq, codes, Result, Ok, Err, inl, inr}
use Rattle.std.specs.Prelude.{if◌then◌else◌}
use Rattle.std.specs.List.{list_any}
use Rattle.cpp_directives.specs.declared.condition.Cond.TheVariants.{Defined, Neg}
use Rattle.cpp_directives.specs.declared.directive.Directive.{Directive}
use Rattle.cpp_directives.specs.declared.directive.What.TheVariants.{If}
use Rattle.undertaker.specs.declared.first_source.lines.FirstLine.{FirstLine}
use Rattle.undertaker.specs.declared.first_source.lines.FirstLine.TheVariants.{Opens, Closes, Plain, Other}
use Rattle.ut_text.specs.Lines.{lines_of}
use Rattle.ut_text.specs.Results.{◌>>=◌}
use Rattle.undertaker.specs.FirstSource.Form.{Chains, is_full, closed, step, at_end, read_lines, no_chains, first_line, other_line, asks, is_special, first_directives_of}
use Rattle.undertaker.specs.Plain.{cond_of, ArePlain}

-- what a line asks is a name that is defined, or that isn't
abbrev AsksPlainly : FirstLine → Type 0
AsksPlainly (Opens c) = (name : List ℕ) × (defined : Bool) × (c ≡ cond_of name defined)
AsksPlainly Closes = Unit {0}
AsksPlainly Plain = Unit {0}
AsksPlainly Other = Unit {0}

other_asks : (line : List ℕ) → AsksPlainly (other_line line)
other_asks line = by (bytes_eq line (codes "#endif")) (list_any is_special line)
  where
    by : (a b : Bool) → AsksPlainly (cond a Closes (cond b Other Plain))
    by true b = tt
    by false true = tt
    by false false = tt

line_asks : (line : List ℕ) → AsksPlainly (first_line line)
line_asks line = by (asks (codes "#ifdef ") line) (asks (codes "#ifndef ") line)
  where
    by : (a b : Bool) → AsksPlainly (cond a (Opens (Defined (drop 7 line))) (cond b (Opens (Neg (Defined (drop 8 line)))) (other_line line)))
    by true b = (drop 7 line, true, refl)
    by false true = (drop 8 line, false, refl)
    by false false = other_asks line

ok_is : {A : Type 0} (x y : A) → ◌≡◌ {A = Result A ℕ} (Ok x) (Ok y) → x ≡ y
ok_is x y h = cc

no_err : {A : Type 0} (e : ℕ) (y : A) → ◌≡◌ {A = Result A ℕ} (Err e) (Ok y) → ⊥
no_err e y h = absurd (cc)

plain_both : (xs ys : List Directive) → ArePlain xs → ArePlain ys → ArePlain (xs ++ ys)
plain_both [] ys p q = q
plain_both (x ∷ xs) ys p q = (p.0, plain_both xs ys p.1 q)

-- the directives of one line
step_plain : (n : ℕ) (line : FirstLine) (c : Chains) (x : Chains × List Directive) → AsksPlainly line → step n line c ≡ Ok x → ArePlain x.1
step_plain n (Opens cond) c x a h = by (is_full c) h
  where
    by : (b : Bool) → (if b then Err n else Ok (record { openers = n ∷ c.openers; blocks = c.blocks + 1 }, record { line = n; what = If cond } ∷ [])) ≡ Ok x → ArePlain x.1
    by true g = absurd (no_err n x g)
    by false g = subst (λ (y : Chains × List Directive). ArePlain y.1) (ok_is _ x g) (inr (a.0, a.1, ap If a.2), tt)
step_plain n Closes c x a h = by c.openers h
  where
    by : (os : List ℕ) → closed n c.blocks os ≡ Ok x → ArePlain x.1
    by [] g = absurd (no_err n x g)
    by (o ∷ os) g = subst (λ (y : Chains × List Directive). ArePlain y.1) (ok_is _ x g) (inl refl, tt)
step_plain n Plain c x a h = subst (λ (y : Chains × List Directive). ArePlain y.1) (ok_is (c, []) x h) tt
step_plain n Other c x a h = absurd (no_err n x h)

lines_plain : (ls : List (List ℕ)) (n : ℕ) (c : Chains) (ds : List Directive) → read_lines n c ls ≡ Ok ds → ArePlain ds
lines_plain [] n c ds h = by c.openers h
  where
    by : (os : List ℕ) → at_end os ≡ Ok ds → ArePlain ds
    by [] g = subst ArePlain (ok_is [] ds g) tt
    by (o ∷ os) g = absurd (no_err o ds g)
lines_plain (l ∷ ls) n c ds h = by (step n (first_line l) c) refl h (λ m k es g. lines_plain ls m k es g)
  where
    rest : (x : Chains × List Directive) (r : Result (List Directive) ℕ) → ArePlain x.1 → ((es : List Directive) → r ≡ Ok es → ArePlain es) → (r >>= λ es. Ok (x.1 ++ es)) ≡ Ok ds → ArePlain ds
    rest x (Ok es) p q g = subst ArePlain (ok_is (x.1 ++ es) ds g) (plain_both x.1 es p (q es refl))
    rest x (Err e) p q g = absurd (no_err e ds g)

    by : (r : Result (Chains × List Directive) ℕ) → step n (first_line l) c ≡ r → (r >>= λ x. read_lines (n + 1) x.0 ls >>= λ es. Ok (x.1 ++ es)) ≡ Ok ds
        → ((m : ℕ) (k : Chains) (es : List Directive) → read_lines m k ls ≡ Ok es → ArePlain es) → ArePlain ds
    by (Ok x) e g rec = rest x (read_lines (n + 1) x.0 ls) (step_plain n (first_line l) c x (line_asks l) e) (rec (n + 1) x.0) g
    by (Err bad) e g rec = absurd (no_err bad ds g)

pub source_is_plain : (bytes : List ℕ) (ds : List Directive) → first_directives_of bytes ≡ Ok ds → ArePlain ds
source_is_plain bytes ds h = lines_plain (lines_of bytes) 1 no_chains ds h
