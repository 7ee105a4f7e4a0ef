-- The expressions of the grammar have flat lists.
use Rattle.std.proofs.Common.{ℕ, ◌≡◌, ◌∙◌, refl, sym, ap, ◌≤◌, ◌&&◌, ◌||◌, not, arith, Bool, true, false, List, [], ◌∷◌, ◌++◌, length, map, Option, None, Some, rules}
use Rattle.std.specs.Prelude.{nat_le, if◌then◌else◌}
use Rattle.std.specs.List.{list_all}
use Rattle.std.proofs.lemmas.Bool.{false≢true, le-leb}
use Rattle.kconf_entries.specs.declared.expr.Expr.{Expr, out-Expr}
use Rattle.kconf_entries.specs.declared.expr.Sign.{Sign}
use Rattle.kconf_entries.specs.declared.expr.Side.{Side}
use Rattle.ut_text.specs.Bytes.{Bytes}
use Rattle.ut_logic.specs.declared.trit.Trit.{Trit}
use Rattle.ut_logic.specs.declared.trit.Trit.TheVariants.{N}
use Rattle.kconf_words.specs.Kinds.{text_of, constant_of, is_name}
use Rattle.kconf_entries.specs.declared.expr.Expr.TheOpen.{Expr-F}
use Rattle.kconf_entries.specs.declared.expr.Expr.TheVariants as expr
use Rattle.kconf_entries.specs.declared.expr.Expr.TheFolds.{fold_out-Expr, map-Expr}
use Rattle.kconf_entries.specs.declared.expr.Expr.TheViews.{the_lemmas}
use Rattle.kconf_words.specs.declared.line_words.LineWord.{LineWord}
use Rattle.kconf_exprs.specs.Grammar.{plain_operand, operand, side_of, compared, any_members_at, all_members_at, any_members, all_members, disjunction, conjunction, Level}
use Rattle.kconf_formed.specs.Flat.{Joins, ByAnd, ByOr, Shaped, is_alike, is_member, flat_list, flat_layer, shape_of, is_flat}
use Rattle.kconf_formed.proofs.GrammarKeeps.{Keeps}

pub two : (x y : Bool) → (x && y) ≡ true → (x ≡ true) × (y ≡ true)
two true y h = (refl, h)
two false y h = absurd (false≢true h)

pub both : (x y : Bool) → x ≡ true → y ≡ true → (x && y) ≡ true
both true y h g = g
both false y h g = absurd (false≢true h)

pub all_both : {A : Type 0} (p : A → Bool) (xs ys : List A) → list_all p xs ≡ true → list_all p ys ≡ true → list_all p (xs ++ ys) ≡ true
all_both p [] ys h g = g
all_both p (x ∷ xs) ys h g = let v = two (p x) (list_all p xs) h in both (p x) (list_all p (xs ++ ys)) v.0 (all_both p xs ys v.1 g)

pub map_both : {A B : Type 0} (f : A → B) (xs ys : List A) → map f (xs ++ ys) ≡ map f xs ++ map f ys
map_both f [] ys = refl
map_both f (x ∷ xs) ys = ap (λ l. f x ∷ l) (map_both f xs ys)

-- ---- one layer
pub out_and : (es : List Expr) → out-Expr (expr.And es) ≡ Expr-F.And es
out_and es = search (rules, the_lemmas)

pub out_or : (es : List Expr) → out-Expr (expr.Or es) ≡ Expr-F.Or es
out_or es = search (rules, the_lemmas)

pub out_neg : (e : Expr) → out-Expr (expr.Neg e) ≡ Expr-F.Neg e
out_neg e = search (rules, the_lemmas)

pub out_const : (v : Trit) → out-Expr (expr.Const v) ≡ Expr-F.Const v
out_const v = search (rules, the_lemmas)

pub out_name : (n : Bytes) → out-Expr (expr.Name n) ≡ Expr-F.Name n
out_name n = search (rules, the_lemmas)

pub out_outer : (t : Bytes) → out-Expr (expr.Outer t) ≡ Expr-F.Outer t
out_outer t = search (rules, the_lemmas)

pub out_compare : (l : Side) (s : Sign) (r : Side) → out-Expr (expr.Compare l s r) ≡ Expr-F.Compare l s r
out_compare l s r = search (rules, the_lemmas)

abbrev pub layer : Expr-F Expr → Shaped
layer x = flat_layer (map-Expr Expr Shaped shape_of x)

pub shape_out : (e : Expr) → shape_of e ≡ layer (out-Expr e)
shape_out e = fold_out-Expr Shaped flat_layer e

pub shape_at : (e : Expr) (x : Expr-F Expr) → out-Expr e ≡ x → shape_of e ≡ layer x
shape_at e x is = shape_out e ∙ ap layer is

pub flat_at : (e : Expr) (x : Expr-F Expr) → out-Expr e ≡ x → (layer x).flat ≡ true → is_flat e ≡ true
flat_at e x is h = ap (λ (p : Shaped). p.flat) (shape_at e x is) ∙ h

-- ---- members: those of a list of the same sign, or the expression alone
pub record AreMembers (j : Joins) (es : List Expr) : Type 0 where
  pub some : 1 ≤ length es
  pub all : list_all (is_member j) (map shape_of es) ≡ true

pub alone : (j : Joins) (e : Expr) → is_flat e ≡ true → is_alike j (shape_of e).joins ≡ false → list_all (is_member j) (map shape_of (e ∷ [])) ≡ true
alone j e h k = both (is_member j (shape_of e)) true (both (is_flat e) (not (is_alike j (shape_of e).joins)) h (ap not k)) refl

-- those of a flat list
pub opened : (j : Joins) (e : Expr) (es : List Expr) → is_flat e ≡ true → shape_of e ≡ flat_list j (map shape_of es) → AreMembers j es
opened j e es h is =
    let v = two (nat_le 2 (length (map shape_of es))) (list_all (is_member j) (map shape_of es)) (sym (ap (λ (p : Shaped). p.flat) is) ∙ h) in
    record { some = long es v.0; all = v.1 }
  where
    long : (xs : List Expr) → nat_le 2 (length (map shape_of xs)) ≡ true → 1 ≤ length xs
    long [] g = absurd (false≢true g)
    long (x ∷ xs) g = omega arith

all_members_are : (e : Expr) → is_flat e ≡ true → AreMembers ByAnd (all_members e)
all_members_are e h = by (out-Expr e) (shape_out e)
  where
    kept : (x : Expr-F Expr) → shape_of e ≡ layer x → is_alike ByAnd (layer x).joins ≡ false → AreMembers ByAnd (e ∷ [])
    kept x is k = record { some = omega arith; all = alone ByAnd e h (ap (λ (p : Shaped). is_alike ByAnd p.joins) is ∙ k) }

    by : (x : Expr-F Expr) → shape_of e ≡ layer x → AreMembers ByAnd (all_members_at e x)
    by (Expr-F.And es) is = opened ByAnd e es h is
    by (Expr-F.Or es) is = kept (Expr-F.Or es) is refl
    by (Expr-F.Const v) is = kept (Expr-F.Const v) is refl
    by (Expr-F.Name n) is = kept (Expr-F.Name n) is refl
    by (Expr-F.Outer t) is = kept (Expr-F.Outer t) is refl
    by (Expr-F.Compare l s r) is = kept (Expr-F.Compare l s r) is refl
    by (Expr-F.Neg f) is = kept (Expr-F.Neg f) is refl

any_members_are : (e : Expr) → is_flat e ≡ true → AreMembers ByOr (any_members e)
any_members_are e h = by (out-Expr e) (shape_out e)
  where
    kept : (x : Expr-F Expr) → shape_of e ≡ layer x → is_alike ByOr (layer x).joins ≡ false → AreMembers ByOr (e ∷ [])
    kept x is k = record { some = omega arith; all = alone ByOr e h (ap (λ (p : Shaped). is_alike ByOr p.joins) is ∙ k) }

    by : (x : Expr-F Expr) → shape_of e ≡ layer x → AreMembers ByOr (any_members_at e x)
    by (Expr-F.Or es) is = opened ByOr e es h is
    by (Expr-F.And es) is = kept (Expr-F.And es) is refl
    by (Expr-F.Const v) is = kept (Expr-F.Const v) is refl
    by (Expr-F.Name n) is = kept (Expr-F.Name n) is refl
    by (Expr-F.Outer t) is = kept (Expr-F.Outer t) is refl
    by (Expr-F.Compare l s r) is = kept (Expr-F.Compare l s r) is refl
    by (Expr-F.Neg f) is = kept (Expr-F.Neg f) is refl

-- two lists of members make a flat list
joined_flat : (j : Joins) (xs ys : List Expr) → AreMembers j xs → AreMembers j ys → (flat_list j (map shape_of (xs ++ ys))).flat ≡ true
joined_flat j xs ys a b =
    both (nat_le 2 (length (map shape_of (xs ++ ys)))) (list_all (is_member j) (map shape_of (xs ++ ys))) (long xs ys a.some b.some)
    (ap (list_all (is_member j)) (map_both shape_of xs ys) ∙ all_both (is_member j) (map shape_of xs) (map shape_of ys) a.all b.all)
  where
    long : (us vs : List Expr) → 1 ≤ length us → 1 ≤ length vs → nat_le 2 (length (map shape_of (us ++ vs))) ≡ true
    long [] vs h g = absurd (omega (arith, h))
    long (u ∷ us) [] h g = absurd (omega (arith, g))
    long (u ∷ []) (v ∷ vs) h g = le-leb 2 (length (map shape_of ((u ∷ []) ++ v ∷ vs))) (omega arith)
    long (u ∷ w ∷ us) (v ∷ vs) h g = le-leb 2 (length (map shape_of ((u ∷ w ∷ us) ++ v ∷ vs))) (omega arith)

conjunction_flat : (a b : Expr) → is_flat a ≡ true → is_flat b ≡ true → is_flat (conjunction a b) ≡ true
conjunction_flat a b h g =
    let es = all_members a ++ all_members b in
    flat_at (expr.And es) (Expr-F.And es) (out_and es) (joined_flat ByAnd (all_members a) (all_members b) (all_members_are a h) (all_members_are b g))

disjunction_flat : (a b : Expr) → is_flat a ≡ true → is_flat b ≡ true → is_flat (disjunction a b) ≡ true
disjunction_flat a b h g =
    let es = any_members a ++ any_members b in
    flat_at (expr.Or es) (Expr-F.Or es) (out_or es) (joined_flat ByOr (any_members a) (any_members b) (any_members_are a h) (any_members_are b g))

neg_flat : (e : Expr) → is_flat e ≡ true → is_flat (expr.Neg e) ≡ true
neg_flat e h = flat_at (expr.Neg e) (Expr-F.Neg e) (out_neg e) h

-- ---- operands
plain_flat : (w : LineWord) (o : Option Trit) → is_flat (plain_operand w o) ≡ true
plain_flat w (Some v) = flat_at (expr.Const v) (Expr-F.Const v) (out_const v) refl
plain_flat w None = by (is_name w)
  where
    by : (b : Bool) → is_flat (if b then expr.Name (text_of w) else expr.Const N) ≡ true
    by true = flat_at (expr.Name (text_of w)) (Expr-F.Name (text_of w)) (out_name (text_of w)) refl
    by false = flat_at (expr.Const N) (Expr-F.Const N) (out_const N) refl

operand_flat : (w : LineWord) → is_flat (operand w) ≡ true
operand_flat w = by w.has_call
  where
    by : (b : Bool) → is_flat (if b then expr.Outer (text_of w) else plain_operand w (constant_of w)) ≡ true
    by true = flat_at (expr.Outer (text_of w)) (Expr-F.Outer (text_of w)) (out_outer (text_of w)) refl
    by false = plain_flat w (constant_of w)

compared_flat : (a s : LineWord) (sign : Sign) (b : LineWord) → is_flat (compared a s sign b) ≡ true
compared_flat a s sign b = by (a.has_call || b.has_call) _
  where
    by : (x : Bool) (t : Bytes) → is_flat (if x then expr.Outer t else expr.Compare (side_of a) sign (side_of b)) ≡ true
    by true t = flat_at (expr.Outer t) (Expr-F.Outer t) (out_outer t) refl
    by false t = flat_at (expr.Compare (side_of a) sign (side_of b)) (Expr-F.Compare (side_of a) sign (side_of b)) (out_compare (side_of a) sign (side_of b)) refl

-- however tightly it binds, and however many signs stand over its words
abbrev pub IsFlat : Level → ℕ → Expr → Type 0
IsFlat level signs e = is_flat e ≡ true

pub flat_kept : Keeps IsFlat
flat_kept = record {
  grows = λ l m n e lt h. h;
  operands = operand_flat;
  comparisons = compared_flat;
  negations = λ n e h. neg_flat e h;
  brackets = λ n e h. h;
  conjunct = λ n e h. h;
  alternative = λ n e h. h;
  conjunctions = λ n a b h g. conjunction_flat a b h g;
  disjunctions = λ n a b h g. disjunction_flat a b h g;
}
