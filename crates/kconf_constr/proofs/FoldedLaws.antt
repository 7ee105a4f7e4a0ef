-- What folding makes of folded formulas is folded.
use Rattle.std.proofs.Common.{◌≡◌, ◌≢◌, Bool, true, false, not, ◌&&◌, cond, List, [], ◌∷◌, map, filter, All, refl, ap, sym, subst, ◌∙◌, rules}
use Rattle.std.specs.List.{list_any, AllByRecursion}
use Rattle.std.proofs.lemmas.Bool.{false≢true}
use Rattle.ut_logic.specs.declared.item.Item.{Item}
use Rattle.ut_logic.specs.declared.formula.Formula.{Formula, out-Formula}
use Rattle.ut_logic.specs.declared.formula.Formula.TheOpen.{Formula-F}
use Rattle.ut_logic.specs.declared.formula.Formula.TheFolds.{fold_out-Formula, map-Formula}
use Rattle.ut_logic.specs.declared.formula.Formula.TheVariants.{Yes, No, Is, Neg, AllOf, AnyOf}
use Rattle.ut_logic.specs.declared.formula.Formula.TheViews.{the_lemmas}
use Rattle.ut_logic.specs.Fold.{is_yes, is_no, is_yes_at, is_no_at, not_of, not_of_at, all_of, any_of, joined_all, joined_any}
use Rattle.ut_logic.specs.declared.facts.Fact.{Fact}
use Rattle.kconf_entries.specs.declared.expr.Expr.{Expr}
use Rattle.kconf_tree.specs.declared.place.Place.{Place}
use Rattle.kconf_constr.specs.declared.level.Level.{Level}
use Rattle.kconf_constr.specs.Scope.{Scope}
use Rattle.kconf_constr.specs.Levels.{levels, at_level}
use Rattle.kconf_constr.specs.FactsOf.{facts_of}
use Rattle.kconf_tree.proofs.Small.{or_left_false, or_right_false}
use Rattle.kconf_constr.specs.Folded.{Look, Constant, Plain, Negated, Broken, is_part, are_parts, look_list, look_neg, look_step, look, IsFolded, HasFolded}
use Rattle.kconf_constr.proofs.MadeOf.{IsKept, made_at, expr_made, facts_made}

-- ---- one layer

abbrev look_at : Formula-F Formula → Look
look_at Formula-F.Yes = Constant
look_at Formula-F.No = Constant
look_at (Formula-F.Is item) = Plain
look_at (Formula-F.Neg f) = look_neg (look f)
look_at (Formula-F.AllOf fs) = look_list (map look fs)
look_at (Formula-F.AnyOf fs) = look_list (map look fs)

mapped : (x : Formula-F Formula) → look_step (map-Formula Formula Look look x) ≡ look_at x
mapped Formula-F.Yes = refl
mapped Formula-F.No = refl
mapped (Formula-F.Is item) = refl
mapped (Formula-F.Neg f) = refl
mapped (Formula-F.AllOf fs) = refl
mapped (Formula-F.AnyOf fs) = refl

look_out : (f : Formula) → look f ≡ look_at (out-Formula f)
look_out f = fold_out-Formula Look look_step f ∙ mapped (out-Formula f)

look-Yes : look Yes ≡ Constant
look-Yes = look_out Yes ∙ search (rules, the_lemmas)

look-No : look No ≡ Constant
look-No = look_out No ∙ search (rules, the_lemmas)

look-Is : (i : Item) → look (Is i) ≡ Plain
look-Is i = look_out (Is i) ∙ search (rules, the_lemmas)

look-Neg : (f : Formula) → look (Neg f) ≡ look_neg (look f)
look-Neg f = look_out (Neg f) ∙ search (rules, the_lemmas)

look-AllOf : (fs : List Formula) → look (AllOf fs) ≡ look_list (map look fs)
look-AllOf fs = look_out (AllOf fs) ∙ search (rules, the_lemmas)

look-AnyOf : (fs : List Formula) → look (AnyOf fs) ≡ look_list (map look fs)
look-AnyOf fs = look_out (AnyOf fs) ∙ search (rules, the_lemmas)

-- ---- looks

constant_folded : (l : Look) → l ≡ Constant → l ≢ Broken
constant_folded l e b = absurd (cc)

plain_folded : (l : Look) → l ≡ Plain → l ≢ Broken
plain_folded l e b = absurd (cc)

part_folded : (l : Look) → is_part l ≡ true → l ≢ Broken
part_folded l e b = absurd (false≢true (sym (ap is_part b) ∙ e))

-- a folded list is plain
list_plain : (ls : List Look) → look_list ls ≢ Broken → look_list ls ≡ Plain
list_plain [] n = absurd (n refl)
list_plain (l ∷ []) n = absurd (n refl)
list_plain (l ∷ m ∷ ls) n = by (are_parts (l ∷ m ∷ ls)) n
  where
    by : (b : Bool) → cond b Plain Broken ≢ Broken → cond b Plain Broken ≡ Plain
    by true n = refl
    by false n = absurd (n refl)

-- what is negated in a folded negation is plain
negated_plain : (l : Look) → look_neg l ≢ Broken → l ≡ Plain
negated_plain Constant n = absurd (n refl)
negated_plain Plain n = refl
negated_plain Negated n = absurd (n refl)
negated_plain Broken n = absurd (n refl)

-- a folded formula but Yes and No may stand in a list
part_from : (f : Formula) → IsFolded f → is_yes f ≡ false → is_no f ≡ false → is_part (look f) ≡ true
part_from f n y o = by (out-Formula f) (look_out f) y o
  where
    by : (x : Formula-F Formula) → look f ≡ look_at x → is_yes_at x ≡ false → is_no_at x ≡ false → is_part (look f) ≡ true
    by Formula-F.Yes e y o = absurd (false≢true (sym y))
    by Formula-F.No e y o = absurd (false≢true (sym o))
    by (Formula-F.Is i) e y o = ap is_part e
    by (Formula-F.Neg g) e y o = ap is_part (e ∙ ap look_neg (negated_plain (look g) (λ b. n (e ∙ b))))
    by (Formula-F.AllOf fs) e y o = ap is_part (e ∙ list_plain (map look fs) (λ b. n (e ∙ b)))
    by (Formula-F.AnyOf fs) e y o = ap is_part (e ∙ list_plain (map look fs) (λ b. n (e ∙ b)))

-- ---- lists

-- of folded formulas none of which is No, those that aren't Yes may stand in a list; likewise with both exchanged
all_parts : (fs : List Formula) → AllByRecursion IsFolded fs → list_any is_no fs ≡ false → are_parts (map look (filter (λ f. not (is_yes f)) fs)) ≡ true
all_parts [] a n = refl
all_parts (f ∷ fs) a n = by (is_yes f) refl (all_parts fs a.1 (or_right_false (is_no f) (list_any is_no fs) n))
  where
    by : (b : Bool) → is_yes f ≡ b → are_parts (map look (filter (λ f. not (is_yes f)) fs)) ≡ true → are_parts (map look (cond (not b) (f ∷ filter (λ f. not (is_yes f)) fs) (filter (λ f. not (is_yes f)) fs))) ≡ true
    by true e more = more
    by false e more = let one = part_from f a.0 e (or_left_false (is_no f) (list_any is_no fs) n) in λ i. one i && more i

any_parts : (fs : List Formula) → AllByRecursion IsFolded fs → list_any is_yes fs ≡ false → are_parts (map look (filter (λ f. not (is_no f)) fs)) ≡ true
any_parts [] a n = refl
any_parts (f ∷ fs) a n = by (is_no f) refl (any_parts fs a.1 (or_right_false (is_yes f) (list_any is_yes fs) n))
  where
    by : (b : Bool) → is_no f ≡ b → are_parts (map look (filter (λ f. not (is_no f)) fs)) ≡ true → are_parts (map look (cond (not b) (f ∷ filter (λ f. not (is_no f)) fs) (filter (λ f. not (is_no f)) fs))) ≡ true
    by true e more = more
    by false e more = let one = part_from f a.0 (or_left_false (is_yes f) (list_any is_yes fs) n) e in λ i. one i && more i

first_true : (a b : Bool) → (a && b) ≡ true → a ≡ true
first_true true b h = refl
first_true false b h = h

joined_all_folded : (fs : List Formula) → are_parts (map look fs) ≡ true → IsFolded (joined_all fs)
joined_all_folded [] p = constant_folded (look Yes) look-Yes
joined_all_folded (f ∷ []) p = part_folded (look f) (first_true (is_part (look f)) true p)
joined_all_folded (f ∷ g ∷ fs) p = plain_folded (look (AllOf (f ∷ g ∷ fs))) (look-AllOf (f ∷ g ∷ fs) ∙ ap (λ (b : Bool). cond b Plain Broken) p)

joined_any_folded : (fs : List Formula) → are_parts (map look fs) ≡ true → IsFolded (joined_any fs)
joined_any_folded [] p = constant_folded (look No) look-No
joined_any_folded (f ∷ []) p = part_folded (look f) (first_true (is_part (look f)) true p)
joined_any_folded (f ∷ g ∷ fs) p = plain_folded (look (AnyOf (f ∷ g ∷ fs))) (look-AnyOf (f ∷ g ∷ fs) ∙ ap (λ (b : Bool). cond b Plain Broken) p)

all_folded : (fs : List Formula) → AllByRecursion IsFolded fs → IsFolded (all_of fs)
all_folded fs a = by (list_any is_no fs) refl
  where
    by : (b : Bool) → list_any is_no fs ≡ b → IsFolded (cond b No (joined_all (filter (λ f. not (is_yes f)) fs)))
    by true e = constant_folded (look No) look-No
    by false e = joined_all_folded (filter (λ f. not (is_yes f)) fs) (all_parts fs a e)

any_folded : (fs : List Formula) → AllByRecursion IsFolded fs → IsFolded (any_of fs)
any_folded fs a = by (list_any is_yes fs) refl
  where
    by : (b : Bool) → list_any is_yes fs ≡ b → IsFolded (cond b Yes (joined_any (filter (λ f. not (is_no f)) fs)))
    by true e = constant_folded (look Yes) look-Yes
    by false e = joined_any_folded (filter (λ f. not (is_no f)) fs) (any_parts fs a e)

-- ---- negations

not_folded : (f : Formula) → IsFolded f → IsFolded (not_of f)
not_folded f n = by (out-Formula f) (look_out f)
  where
    of_plain : look f ≡ Plain → IsFolded (Neg f)
    of_plain e b = absurd (let h : Negated ≡ Broken = sym (look-Neg f ∙ ap look_neg e) ∙ b in cc)

    by : (x : Formula-F Formula) → look f ≡ look_at x → IsFolded (not_of_at f x)
    by Formula-F.Yes e = constant_folded (look No) look-No
    by Formula-F.No e = constant_folded (look Yes) look-Yes
    by (Formula-F.Is i) e = of_plain e
    by (Formula-F.Neg g) e = plain_folded (look g) (negated_plain (look g) (λ b. n (e ∙ b)))
    by (Formula-F.AllOf fs) e = of_plain (e ∙ list_plain (map look fs) (λ b. n (e ∙ b)))
    by (Formula-F.AnyOf fs) e = of_plain (e ∙ list_plain (map look fs) (λ b. n (e ∙ b)))

-- ---- all of these together

pub folded_kept : IsKept IsFolded
folded_kept = record {
  yes = constant_folded (look Yes) look-Yes;
  no = constant_folded (look No) look-No;
  item = λ i. plain_folded (look (Is i)) (look-Is i);
  all = all_folded;
  any = any_folded;
  neg = not_folded;
}

-- ---- formulas of conditions and facts

pub folded_of : (s : Scope) (p : Place) (h : Level) (e : Expr) (f : Formula) → f ≡ at_level h (levels s p e) → IsFolded f
folded_of s p h e f is = subst IsFolded (sym is) (made_at IsFolded folded_kept h (levels s p e) (expr_made IsFolded folded_kept s p e))

pub folded_facts : (s : Scope) (facts : List Fact) → facts ≡ facts_of s → All HasFolded facts
folded_facts s facts is = subst (All HasFolded) (sym is) (facts_made IsFolded folded_kept s)
