-- The entries of each name, as one more entry comes.
use Rattle.std.proofs.Common.{◌≡◌, ℕ, Bool, true, false, ◌||◌, cond, None, Some, List, [], ◌∷◌, ◌++◌, map, refl, ap, sym, subst, ◌∙◌}
use Rattle.std.proofs.lemmas.Bool.{false≢true}
use Rattle.std.proofs.lemmas.List.{map-append}
use Rattle.std.specs.List.{list_any}
use Rattle.std.specs.Map.{lookup}
use Rattle.indexmap.specs.IndexMap.{insert_entry}
use Rattle.indexmap.specs.IndexSet.{insert_key}
use Rattle.ut_text.specs.Text.{text_eq, text_equiv, text_eq-exact}
use Rattle.kconf_entries.specs.declared.entries.ConfigEntry.{ConfigEntry}
use Rattle.kconf_tree.specs.Gathered.{entries_named, once}
use Rattle.kconf_tree.specs.Types.{names_of}
use Rattle.kconf_tree.specs.Apart.{AreApart}
use Rattle.kconf_tree.proofs.Places.{filter_push, distinct_apart, distinct_push}

-- names that are once are apart, and one more comes last
pub names_apart : (es : List ConfigEntry) → AreApart text_eq (names_of es)
names_apart es = distinct_apart text_eq (map (λ (e : ConfigEntry). e.name) es)

pub names_push : (es : List ConfigEntry) (e : ConfigEntry) → names_of (es ++ e ∷ []) ≡ insert_key text_eq (names_of es) e.name
names_push es e = ap once (map-append (λ (x : ConfigEntry). x.name) es (e ∷ [])) ∙ distinct_push text_eq text_equiv (map (λ (x : ConfigEntry). x.name) es) e.name

-- ---- one more entry

pub named_here : (es : List ConfigEntry) (e : ConfigEntry) (n : List ℕ) → text_eq e.name n ≡ true → entries_named (es ++ e ∷ []) n ≡ entries_named es n ++ e ∷ []
named_here es e n h = filter_push (λ (x : ConfigEntry). text_eq x.name n) es e ∙ ap (λ b. cond b (entries_named es n ++ e ∷ []) (entries_named es n)) h

pub named_elsewhere : (es : List ConfigEntry) (e : ConfigEntry) (n : List ℕ) → text_eq e.name n ≡ false → entries_named (es ++ e ∷ []) n ≡ entries_named es n
named_elsewhere es e n h = filter_push (λ (x : ConfigEntry). text_eq x.name n) es e ∙ ap (λ b. cond b (entries_named es n ++ e ∷ []) (entries_named es n)) h

pub none_named : (es : List ConfigEntry) (n : List ℕ) → list_any (text_eq n) (map (λ (e : ConfigEntry). e.name) es) ≡ false → entries_named es n ≡ []
none_named [] n h = refl
none_named (e ∷ es) n h = by (text_eq n e.name) refl h (none_named es n)
  where
    by : (b : Bool) → text_eq n e.name ≡ b → (b || list_any (text_eq n) (map (λ (x : ConfigEntry). x.name) es)) ≡ false → (list_any (text_eq n) (map (λ (x : ConfigEntry). x.name) es) ≡ false → entries_named es n ≡ []) → entries_named (e ∷ es) n ≡ []
    by true f g r = absurd (false≢true (sym g))
    by false f g r = ap (λ b. cond b (e ∷ entries_named es n) (entries_named es n)) (text_equiv.symm e.name n ∙ f) ∙ r g

module _ {A : Type 0} (F : List ConfigEntry → A) where
  -- what F makes of the entries of each name
  abbrev pub each_named : List ConfigEntry → List (List ℕ) → List (List ℕ × A)
  each_named es ns = map (λ (n : List ℕ). (n, F (entries_named es n))) ns

  -- names that aren't the entry's keep theirs
  others_same : (es : List ConfigEntry) (e : ConfigEntry) (ns : List (List ℕ)) → list_any (text_eq e.name) ns ≡ false → each_named (es ++ e ∷ []) ns ≡ each_named es ns
  others_same es e [] h = refl
  others_same es e (n ∷ ns) h = by (text_eq e.name n) refl h (others_same es e ns)
    where
      by : (b : Bool) → text_eq e.name n ≡ b → (b || list_any (text_eq e.name) ns) ≡ false → (list_any (text_eq e.name) ns ≡ false → each_named (es ++ e ∷ []) ns ≡ each_named es ns) → each_named (es ++ e ∷ []) (n ∷ ns) ≡ each_named es (n ∷ ns)
      by true f g r = absurd (false≢true (sym g))
      by false f g r = λ i. (n, F (named_elsewhere es e n f i)) ∷ r g i

  -- a map takes the entry in
  pub insert_named : (es : List ConfigEntry) (e : ConfigEntry) (ns : List (List ℕ)) → AreApart text_eq ns → insert_entry text_eq (each_named es ns) e.name (F (entries_named es e.name ++ e ∷ [])) ≡ each_named (es ++ e ∷ []) (insert_key text_eq ns e.name)
  insert_named es e [] a = ap (λ xs. (e.name, F xs) ∷ []) (sym (named_here es e e.name (text_equiv.refl e.name)))
  insert_named es e (n ∷ ns) a = by (text_eq e.name n) refl (insert_named es e ns a.1)
    where
      later : (c : Bool) → each_named (es ++ e ∷ []) (n ∷ cond c ns (ns ++ e.name ∷ [])) ≡ each_named (es ++ e ∷ []) (cond c (n ∷ ns) (n ∷ ns ++ e.name ∷ []))
      later true = refl
      later false = refl

      by : (b : Bool) → text_eq e.name n ≡ b → insert_entry text_eq (each_named es ns) e.name (F (entries_named es e.name ++ e ∷ [])) ≡ each_named (es ++ e ∷ []) (insert_key text_eq ns e.name)
          → cond b ((n, F (entries_named es e.name ++ e ∷ [])) ∷ each_named es ns) ((n, F (entries_named es n)) ∷ insert_entry text_eq (each_named es ns) e.name (F (entries_named es e.name ++ e ∷ [])))
          ≡ each_named (es ++ e ∷ []) (cond (b || list_any (text_eq e.name) ns) (n ∷ ns) (n ∷ ns ++ e.name ∷ []))
      by true f r = let same = text_eq-exact e.name n f in
          ap (λ (x : List ℕ). (n, F (entries_named es x ++ e ∷ [])) ∷ each_named es ns) same
          ∙ (ap (λ xs. (n, F xs) ∷ each_named es ns) (sym (named_here es e n f))
          ∙ ap (λ xs. (n, F (entries_named (es ++ e ∷ []) n)) ∷ xs) (sym (others_same es e ns (subst (λ (x : List ℕ). list_any (text_eq x) ns ≡ false) (sym same) a.0))))
      by false f r = ap (λ xs. (n, F xs) ∷ insert_entry text_eq (each_named es ns) e.name (F (entries_named es e.name ++ e ∷ []))) (sym (named_elsewhere es e n f))
          ∙ (ap (λ xs. (n, F (entries_named (es ++ e ∷ []) n)) ∷ xs) r ∙ later (list_any (text_eq e.name) ns))

  -- and has what is declared
  pub look_named : (es : List ConfigEntry) (name : List ℕ) (ns : List (List ℕ)) → lookup (text_eq name) (each_named es ns) ≡ cond (list_any (text_eq name) ns) (Some (F (entries_named es name))) None
  look_named es name [] = refl
  look_named es name (n ∷ ns) = by (text_eq name n) refl (look_named es name ns)
    where
      by : (b : Bool) → text_eq name n ≡ b → lookup (text_eq name) (each_named es ns) ≡ cond (list_any (text_eq name) ns) (Some (F (entries_named es name))) None → cond b (Some (F (entries_named es n))) (lookup (text_eq name) (each_named es ns)) ≡ cond (b || list_any (text_eq name) ns) (Some (F (entries_named es name))) None
      by true f r = ap (λ (x : List ℕ). Some (F (entries_named es x))) (sym (text_eq-exact name n f))
      by false f r = r
