-- Items of values for macros, cut at their first `=`.
use Rattle.std.proofs.Common.{◌≡◌, ◌∙◌, ap, ap₂, sym, refl, ◌+◌, ◌<◌, List, [], ◌∷◌, length, map, Bor, Option, Some, None, MatchOption, Bool, true, false, ◌&&◌, ◌||◌, not, arith, cond}
use Rattle.std.proofs.lemmas.Str.Pattern.{split_once_first, IsSplitOnceResult}
use Rattle.std.specs.List.{after_first, before_first, list_all, list_any, position_or_len}
use Rattle.kconf_entries.specs.declared.entries.Var.{Var}
use Rattle.ut_text.specs.Bytes.{Bytes}
use Rattle.ut_words.specs.Reading.{some_if}
use Rattle.ut_words.specs.Spelled.{is_sign}
use Rattle.ut_words.specs.Values.{are_distinct, are_vars, is_item, is_macro_name, is_printable, items_of, var_of, vars_of}
use Rattle.ut_words.proofs.NumberLaws.{some_is}

-- a place is found exactly where there is one
none_there : (text : Bytes) → position_or_len is_sign text ≡ length text → list_any is_sign text ≡ false
none_there [] e = refl
none_there (byte ∷ text) e = by (is_sign byte) refl e (λ f. none_there text f)
  where
    by : (b : Bool) → is_sign byte ≡ b → cond (not b) (1 + position_or_len is_sign text) 0 ≡ length (byte ∷ text) → (position_or_len is_sign text ≡ length text → list_any is_sign text ≡ false)
        → (b || list_any is_sign text) ≡ false
    by true is f later = absurd (omega arith)
    by false is f later = later (omega arith)

one_there : (text : Bytes) → position_or_len is_sign text < length text → list_any is_sign text ≡ true
one_there [] h = absurd (omega arith)
one_there (byte ∷ text) h = by (is_sign byte) h (λ k. one_there text k)
  where
    by : (b : Bool) → cond (not b) (1 + position_or_len is_sign text) 0 < length (byte ∷ text) → (position_or_len is_sign text < length text → list_any is_sign text ≡ true) → (b || list_any is_sign text) ≡ true
    by true k later = refl
    by false k later = later (omega arith)

pub sign_parts : (item : Bytes) (r : Option (Bor Bytes × Bor Bytes)) → IsSplitOnceResult 61 item r
    → MatchOption r (list_any is_sign item ≡ false)
    (λ parts. (list_any is_sign item ≡ true) × (parts.0.now ≡ before_first is_sign item) × (parts.1.now ≡ after_first is_sign item))
sign_parts item r h = by r (split_once_first 61 item r h (omega arith))
  where
    by : (o : Option (Bor Bytes × Bor Bytes))
        → MatchOption o (position_or_len is_sign item ≡ length item) (λ x. (position_or_len is_sign item < length item) × (x.0.now ≡ before_first is_sign item) × (x.1.now ≡ after_first is_sign item))
        → MatchOption o (list_any is_sign item ≡ false) (λ parts. (list_any is_sign item ≡ true) × (parts.0.now ≡ before_first is_sign item) × (parts.1.now ≡ after_first is_sign item))
    by None e = none_there item e
    by (Some x) e = (one_there item e.0, e.1, e.2)

-- an item without the sign, without a name, or with another character
pub no_sign : (item : Bytes) → list_any is_sign item ≡ false → None ≡ some_if (is_item item) (var_of item)
no_sign item e = rw e refl

pub no_macro_name : (item name : Bytes) → list_any is_sign item ≡ true → name ≡ before_first is_sign item → is_macro_name name ≡ false → None ≡ some_if (is_item item) (var_of item)
no_macro_name item name e n m = ap₂ (λ a b. some_if (a && (b && list_all is_printable (after_first is_sign item))) (var_of item)) (sym e) (sym (ap is_macro_name (sym n) ∙ m))

pub not_printable : (item name value : Bytes) → list_any is_sign item ≡ true → name ≡ before_first is_sign item → value ≡ after_first is_sign item → is_macro_name name ≡ true → list_all is_printable value ≡ false
    → None ≡ some_if (is_item item) (var_of item)
not_printable item name value e n v m p =
    ap₂ (λ a b. some_if (a && (b && false)) (var_of item)) (sym e) (sym (ap is_macro_name (sym n) ∙ m))
    ∙ ap (λ b. some_if (list_any is_sign item && (is_macro_name (before_first is_sign item) && b)) (var_of item)) (sym (ap (list_all is_printable) (sym v) ∙ p))

pub right_item : (item name value : Bytes) → list_any is_sign item ≡ true → name ≡ before_first is_sign item → value ≡ after_first is_sign item → is_macro_name name ≡ true → list_all is_printable value ≡ true
    → Some (record { name = name; value = value }) ≡ some_if (is_item item) (var_of item)
right_item item name value e n v m p =
    let test : is_item item ≡ true = rw (e, ap is_macro_name (sym n) ∙ m, ap (list_all is_printable) (sym v) ∙ p) refl in
    let var : record { name = name; value = value } ≡ var_of item = ap₂ (λ x y. record { name = x; value = y }) n v in
    ap (λ (x : Var). Some x) var ∙ ap (λ b. some_if b (var_of item)) (sym test)

-- all items
pub repeated : (text : Bytes) (vars : List Var) (slice : List Bytes) → slice ≡ items_of text → are_distinct (map (before_first is_sign) slice) ≡ false
    → None ≡ some_if (are_vars text) (vars_of text)
repeated text vars slice is twice = by (list_all is_item (items_of text)) (ap (λ l. are_distinct (map (before_first is_sign) l)) (sym is) ∙ twice)
  where
    by : (b : Bool) → are_distinct (map (before_first is_sign) (items_of text)) ≡ false → None ≡ some_if (b && are_distinct (map (before_first is_sign) (items_of text))) (vars_of text)
    by true d = ap (λ c. some_if c (vars_of text)) (sym d)
    by false d = refl

pub all_vars : (text : Bytes) (vars : List Var) (slice : List Bytes) → slice ≡ items_of text → Some vars ≡ some_if (list_all is_item slice) (map var_of slice)
    → are_distinct (map (before_first is_sign) slice) ≡ true → Some vars ≡ some_if (are_vars text) (vars_of text)
all_vars text vars slice is made once =
    let h = some_is (list_all is_item slice) (map var_of slice) vars made in
    ap (λ (l : List Var). Some l) (sym h.1 ∙ ap (map var_of) is)
    ∙ ap₂ (λ a b. some_if (a && b) (vars_of text)) (sym (ap (list_all is_item) (sym is) ∙ h.0)) (sym (ap (λ l. are_distinct (map (before_first is_sign) l)) (sym is) ∙ once))
