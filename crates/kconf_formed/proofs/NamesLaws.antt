-- The names in expressions of the grammar are names.
use Rattle.std.proofs.Common.{ℕ, ◌≡◌, ◌∙◌, refl, sym, ap, ◌&&◌, ◌||◌, not, Bool, true, false, List, [], ◌∷◌, ◌++◌, map, Option, None, Some}
use Rattle.std.specs.Prelude.{if◌then◌else◌}
use Rattle.std.specs.List.{list_all}
use Rattle.std.specs.Option.{is_some}
use Rattle.ut_text.specs.Bytes.{Bytes}
use Rattle.ut_text.specs.ByteClasses.{is_name_byte}
use Rattle.ut_text.specs.Escapes.{escaped}
use Rattle.ut_text.proofs.NameTexts.{escaped-name}
use Rattle.ut_logic.specs.declared.trit.Trit.{Trit}
use Rattle.ut_logic.specs.declared.trit.Trit.TheVariants.{N}
use Rattle.kconf_entries.specs.declared.expr.Expr.{Expr, out-Expr}
use Rattle.kconf_entries.specs.declared.expr.Sign.{Sign}
use Rattle.kconf_entries.specs.declared.expr.Expr.TheOpen.{Expr-F}
use Rattle.kconf_entries.specs.declared.expr.Expr.TheVariants as expr
use Rattle.kconf_entries.specs.declared.expr.Expr.TheFolds.{fold_out-Expr, map-Expr}
use Rattle.kconf_words.specs.Kinds.{text_of, constant_of, is_name, is_name_text, is_bare_form, is_number, constant, all_and_some}
use Rattle.kconf_words.specs.declared.line_words.Form.{Form}
use Rattle.kconf_words.specs.declared.line_words.Form.TheVariants as form
use Rattle.kconf_words.specs.declared.line_words.LineWord.{LineWord}
use Rattle.kconf_exprs.specs.Grammar.{plain_operand, operand, word_side, side_by, side_of, compared, any_members_at, all_members_at, any_members, all_members, disjunction, conjunction, Level}
use Rattle.kconf_formed.specs.Names.{has_name, names_layer, has_names}
use Rattle.kconf_formed.proofs.GrammarKeeps.{Keeps}
use Rattle.kconf_formed.proofs.FlatLaws.{two, both, all_both, map_both, out_and, out_or, out_neg, out_const, out_name, out_outer, out_compare}

-- ---- a word that is a name is its own text
name_bytes : (t : Bytes) → is_name_text t ≡ true → list_all is_name_byte t ≡ true
name_bytes [] h = refl
name_bytes (b ∷ s) h = (two (is_name_byte b && list_all is_name_byte s) (not (is_number (b ∷ s))) (two (all_and_some is_name_byte (b ∷ s) && not (is_number (b ∷ s))) (not (is_some (constant (b ∷ s)))) h).0).0

own_text : (t : Bytes) → is_name_text t ≡ true → is_name_text (escaped t) ≡ true
own_text t h = ap is_name_text (escaped-name t (name_bytes t h)) ∙ h

pub name_text : (w : LineWord) → is_name w ≡ true → is_name_text (text_of w) ≡ true
name_text w h = own_text w.text (two (is_bare_form w.form) (is_name_text w.text) h).1

-- ---- one layer
abbrev layer : Expr-F Expr → Bool
layer x = names_layer (map-Expr Expr Bool has_names x)

pub names_at : (e : Expr) (x : Expr-F Expr) → out-Expr e ≡ x → has_names e ≡ layer x
names_at e x is = fold_out-Expr Bool names_layer e ∙ ap layer is

pub named_at : (e : Expr) (x : Expr-F Expr) → out-Expr e ≡ x → layer x ≡ true → has_names e ≡ true
named_at e x is h = names_at e x is ∙ h

-- each of these has
abbrev pub have_names : List Expr → Bool
have_names es = list_all (λ inner. inner) (map has_names es)

pub both_have : (xs ys : List Expr) → have_names xs ≡ true → have_names ys ≡ true → have_names (xs ++ ys) ≡ true
both_have xs ys h g = ap (list_all (λ inner. inner)) (map_both has_names xs ys) ∙ all_both (λ inner. inner) (map has_names xs) (map has_names ys) h g

pub alone_has : (e : Expr) → has_names e ≡ true → have_names (e ∷ []) ≡ true
alone_has e h = both (has_names e) true h refl

pub inner_have : (e : Expr) (es : List Expr) → has_names e ≡ have_names es → has_names e ≡ true → have_names es ≡ true
inner_have e es is h = sym is ∙ h

all_have : (e : Expr) → has_names e ≡ true → have_names (all_members e) ≡ true
all_have e h = by (out-Expr e) refl
  where
    by : (x : Expr-F Expr) → out-Expr e ≡ x → have_names (all_members_at e x) ≡ true
    by (Expr-F.And es) is = inner_have e es (names_at e (Expr-F.And es) is) h
    by (Expr-F.Or es) is = alone_has e h
    by (Expr-F.Const v) is = alone_has e h
    by (Expr-F.Name n) is = alone_has e h
    by (Expr-F.Outer t) is = alone_has e h
    by (Expr-F.Compare l s r) is = alone_has e h
    by (Expr-F.Neg f) is = alone_has e h

any_have : (e : Expr) → has_names e ≡ true → have_names (any_members e) ≡ true
any_have e h = by (out-Expr e) refl
  where
    by : (x : Expr-F Expr) → out-Expr e ≡ x → have_names (any_members_at e x) ≡ true
    by (Expr-F.Or es) is = inner_have e es (names_at e (Expr-F.Or es) is) h
    by (Expr-F.And es) is = alone_has e h
    by (Expr-F.Const v) is = alone_has e h
    by (Expr-F.Name n) is = alone_has e h
    by (Expr-F.Outer t) is = alone_has e h
    by (Expr-F.Compare l s r) is = alone_has e h
    by (Expr-F.Neg f) is = alone_has e h

conjunction_has : (a b : Expr) → has_names a ≡ true → has_names b ≡ true → has_names (conjunction a b) ≡ true
conjunction_has a b h g =
    let es = all_members a ++ all_members b in
    named_at (expr.And es) (Expr-F.And es) (out_and es) (both_have (all_members a) (all_members b) (all_have a h) (all_have b g))

disjunction_has : (a b : Expr) → has_names a ≡ true → has_names b ≡ true → has_names (disjunction a b) ≡ true
disjunction_has a b h g =
    let es = any_members a ++ any_members b in
    named_at (expr.Or es) (Expr-F.Or es) (out_or es) (both_have (any_members a) (any_members b) (any_have a h) (any_have b g))

neg_has : (e : Expr) → has_names e ≡ true → has_names (expr.Neg e) ≡ true
neg_has e h = named_at (expr.Neg e) (Expr-F.Neg e) (out_neg e) h

-- ---- operands
plain_has : (w : LineWord) (o : Option Trit) → has_names (plain_operand w o) ≡ true
plain_has w (Some v) = named_at (expr.Const v) (Expr-F.Const v) (out_const v) refl
plain_has w None = by (is_name w) (name_text w)
  where
    by : (b : Bool) → (b ≡ true → is_name_text (text_of w) ≡ true) → has_names (if b then expr.Name (text_of w) else expr.Const N) ≡ true
    by true h = named_at (expr.Name (text_of w)) (Expr-F.Name (text_of w)) (out_name (text_of w)) (h refl)
    by false h = named_at (expr.Const N) (Expr-F.Const N) (out_const N) refl

operand_has : (w : LineWord) → has_names (operand w) ≡ true
operand_has w = by w.has_call
  where
    by : (b : Bool) → has_names (if b then expr.Outer (text_of w) else plain_operand w (constant_of w)) ≡ true
    by true = named_at (expr.Outer (text_of w)) (Expr-F.Outer (text_of w)) (out_outer (text_of w)) refl
    by false = plain_has w (constant_of w)

word_has : (f : Form) (named : Bool) (t : Bytes) → (named ≡ true → is_name_text t ≡ true) → has_name (word_side f named t) ≡ true
word_has form.Quoted named t h = refl
word_has form.Bare true t h = h refl
word_has form.Bare false t h = refl
word_has form.Sign true t h = h refl
word_has form.Sign false t h = refl

side_has : (w : LineWord) (o : Option Trit) → has_name (side_by w o) ≡ true
side_has w (Some v) = refl
side_has w None = word_has w.form (is_name w) (text_of w) (name_text w)

compared_has : (a s : LineWord) (sign : Sign) (b : LineWord) → has_names (compared a s sign b) ≡ true
compared_has a s sign b = by (a.has_call || b.has_call) _
  where
    by : (x : Bool) (t : Bytes) → has_names (if x then expr.Outer t else expr.Compare (side_of a) sign (side_of b)) ≡ true
    by true t = named_at (expr.Outer t) (Expr-F.Outer t) (out_outer t) refl
    by false t = named_at (expr.Compare (side_of a) sign (side_of b)) (Expr-F.Compare (side_of a) sign (side_of b)) (out_compare (side_of a) sign (side_of b))
        (both (has_name (side_of a)) (has_name (side_of b)) (side_has a (constant_of a)) (side_has b (constant_of b)))

-- however tightly it binds, and however many signs stand over its words
abbrev pub IsNamed : Level → ℕ → Expr → Type 0
IsNamed level signs e = has_names e ≡ true

pub names_kept : Keeps IsNamed
names_kept = record {
  grows = λ l m n e lt h. h;
  operands = operand_has;
  comparisons = compared_has;
  negations = λ n e h. neg_has e h;
  brackets = λ n e h. h;
  conjunct = λ n e h. h;
  alternative = λ n e h. h;
  conjunctions = λ n a b h g. conjunction_has a b h g;
  disjunctions = λ n a b h g. disjunction_has a b h g;
}
