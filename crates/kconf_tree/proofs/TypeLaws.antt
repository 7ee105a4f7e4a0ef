-- What the entries of each name declare, as one more entry comes; and a tree of types alone.
use Rattle.std.proofs.Common.{◌≡◌, Bool, true, false, ◌||◌, cond, None, Some, List, [], ◌∷◌, ◌++◌, map, refl, ap, sym, ◌∙◌}
use Rattle.std.proofs.lemmas.List.Folds.{list_any-append}
use Rattle.std.specs.List.{list_any}
use Rattle.std.specs.Map.{lookup}
use Rattle.indexmap.specs.IndexMap.{insert_entry}
use Rattle.ut_text.specs.Text.{text_eq, text_equiv}
use Rattle.kconf_entries.specs.declared.entries.Kind.{Kind}
use Rattle.kconf_entries.specs.declared.entries.Kind.TheVariants as kind
use Rattle.kconf_entries.specs.declared.entries.ConfigEntry.{ConfigEntry}
use Rattle.kconf_tree.specs.Gathered.{entries_named, first_kind, is_untyped}
use Rattle.kconf_tree.specs.Types.{declared_by, joined_with, names_of, types_of}
use Rattle.kconf_tree.proofs.Places.{distinct_has}
use Rattle.kconf_tree.proofs.Groups.{names_apart, names_push, none_named, each_named, insert_named, look_named}

pub untyped_kind : (k : Kind) → cond (is_untyped k) kind.Untyped k ≡ k
untyped_kind kind.Bool = refl
untyped_kind kind.Tristate = refl
untyped_kind kind.Str = refl
untyped_kind kind.Hex = refl
untyped_kind kind.Int = refl
untyped_kind kind.Untyped = refl

first_kind_push : (es : List ConfigEntry) (e : ConfigEntry) → first_kind (es ++ e ∷ []) ≡ cond (is_untyped (first_kind es)) e.kind (first_kind es)
first_kind_push [] e = untyped_kind e.kind
first_kind_push (x ∷ xs) e = by (is_untyped x.kind) refl (first_kind_push xs e)
  where
    by : (b : Bool) → is_untyped x.kind ≡ b → first_kind (xs ++ e ∷ []) ≡ cond (is_untyped (first_kind xs)) e.kind (first_kind xs) → cond b (first_kind (xs ++ e ∷ [])) x.kind ≡ cond (is_untyped (cond b (first_kind xs) x.kind)) e.kind (cond b (first_kind xs) x.kind)
    by true h r = r
    by false h r = sym (ap (λ b. cond b e.kind x.kind) h)

or_false : (b : Bool) → (b || false) ≡ b
or_false true = refl
or_false false = refl

declared_push : (es : List ConfigEntry) (e : ConfigEntry) → joined_with (Some (declared_by es)) e ≡ declared_by (es ++ e ∷ [])
declared_push es e = let k = sym (first_kind_push es e) in
    let m = ap (λ b. list_any (λ (x : ConfigEntry). x.modules) es || b) (sym (or_false e.modules)) ∙ sym (list_any-append (λ (x : ConfigEntry). x.modules) es (e ∷ [])) in
    λ i. record { kind = k i; modules = m i }

declared_first : (e : ConfigEntry) → joined_with None e ≡ declared_by (e ∷ [])
declared_first e = let k = sym (untyped_kind e.kind) in let m = sym (or_false e.modules) in λ i. record { kind = k i; modules = m i }

pub types_push : (es : List ConfigEntry) (e : ConfigEntry) → insert_entry text_eq (types_of es) e.name (joined_with (lookup (text_eq e.name) (types_of es)) e) ≡ types_of (es ++ e ∷ [])
types_push es e = ap (insert_entry text_eq (types_of es) e.name) (ap (λ o. joined_with o e) (look_named declared_by es e.name (names_of es)) ∙ by (list_any (text_eq e.name) (names_of es)) refl)
    ∙ (insert_named declared_by es e (names_of es) (names_apart es) ∙ ap (each_named declared_by (es ++ e ∷ [])) (sym (names_push es e)))
  where
    by : (b : Bool) → list_any (text_eq e.name) (names_of es) ≡ b → joined_with (cond b (Some (declared_by (entries_named es e.name))) None) e ≡ declared_by (entries_named es e.name ++ e ∷ [])
    by true h = declared_push (entries_named es e.name) e
    by false h = declared_first e ∙ ap (λ xs. declared_by (xs ++ e ∷ [])) (sym (none_named es e.name (sym (distinct_has text_eq text_equiv e.name (map (λ (x : ConfigEntry). x.name) es)) ∙ h)))
