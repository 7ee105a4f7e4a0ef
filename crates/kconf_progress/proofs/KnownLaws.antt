-- What is known of symbols: look-ups after one is noted.
use Rattle.std.proofs.Common.{ℕ, ◌≡◌, ◌∙◌, refl, sym, ap, Bool, true, false, cond, List, [], ◌∷◌, ◌++◌, Option, Some, None}
use Rattle.std.specs.Prelude.{unwrap_or, if◌then◌else◌}
use Rattle.std.specs.Map.{lookup}
use Rattle.indexmap.specs.IndexMap.{insert_entry}
use Rattle.ut_text.specs.Bytes.{Bytes}
use Rattle.ut_text.specs.Text.{text_eq, text_eq-exact}
use Rattle.kconf_entries.specs.declared.entries.Kind.{Kind}
use Rattle.kconf_entries.specs.declared.entries.Kind.TheVariants as kind
use Rattle.kconf_entries.specs.declared.entries.ConfigEntry.{ConfigEntry}
use Rattle.kconf_statements.specs.EntryLines.{first_type}
use Rattle.kconf_statements.specs.Entries.{TypeLine, type_line, type_of}
use Rattle.kconf_progress.specs.declared.kinds.Known.{Known}
use Rattle.kconf_progress.specs.Known.{choice_by, first_choice, known_of, unknown}
use Rattle.kconf_progress.specs.Kept.{with_known_type}
use Rattle.kconf_progress.proofs.TypeLaws.{first_of_none}
use Rattle.kconf_progress.proofs.GivenLaws.{kind_for, type_last}

-- ---- equal texts
turned : (x y : Bytes) → x ≡ y → text_eq x y ≡ text_eq y x
turned x y e = ap (λ p. text_eq p y) e ∙ sym (ap (λ p. text_eq y p) e)

pub text_sym : (x y : Bytes) → text_eq x y ≡ text_eq y x
text_sym x y = by (text_eq x y) refl (text_eq y x) refl
  where
    by : (a : Bool) → text_eq x y ≡ a → (b : Bool) → text_eq y x ≡ b → text_eq x y ≡ text_eq y x
    by true h b g = turned x y (text_eq-exact x y h)
    by false h true g = sym (turned y x (text_eq-exact y x g))
    by false h false g = h ∙ sym g

-- ---- look-ups
lookup_insert : (es : List (Bytes × Known)) (k x : Bytes) (v : Known) → lookup (text_eq x) (insert_entry text_eq es k v) ≡ (if text_eq x k then Some v else lookup (text_eq x) es)
lookup_insert [] k x v = refl
lookup_insert (e ∷ es) k x v = by (text_eq k e.0) refl (lookup_insert es k x v)
  where
    goal : Bool → Type 0
    goal a = lookup (text_eq x) (if a then (e.0, v) ∷ es else e ∷ insert_entry text_eq es k v) ≡ (if text_eq x k then Some v else lookup (text_eq x) (e ∷ es))

    found : (c : Bool) → text_eq x e.0 ≡ c → text_eq x k ≡ c → cond c (Some v) (lookup (text_eq x) es) ≡ (if c then Some v else cond c (Some e.1) (lookup (text_eq x) es))
    found true h g = refl
    found false h g = refl

    passed : (c : Bool) → text_eq x e.0 ≡ c → text_eq k e.0 ≡ false → lookup (text_eq x) (insert_entry text_eq es k v) ≡ (if text_eq x k then Some v else lookup (text_eq x) es)
        → cond c (Some e.1) (lookup (text_eq x) (insert_entry text_eq es k v)) ≡ (if text_eq x k then Some v else cond c (Some e.1) (lookup (text_eq x) es))
    passed true h g more =
        let same : text_eq x k ≡ false = ap (λ p. text_eq p k) (text_eq-exact x e.0 h) ∙ text_sym e.0 k ∙ g in
        sym (ap (λ b. if b then Some v else Some e.1) same)
    passed false h g more = more

    by : (a : Bool) → text_eq k e.0 ≡ a → lookup (text_eq x) (insert_entry text_eq es k v) ≡ (if text_eq x k then Some v else lookup (text_eq x) es)
        → lookup (text_eq x) (insert_entry text_eq (e ∷ es) k v) ≡ (if text_eq x k then Some v else lookup (text_eq x) (e ∷ es))
    by true h more =
        let same : text_eq x k ≡ text_eq x e.0 = ap (text_eq x) (text_eq-exact k e.0 h) in
        rw (h, same) (found (text_eq x e.0) refl same)
    by false h more = rw h (passed (text_eq x e.0) refl h more)

known_by_test : (b : Bool) (v : Known) (o : Option Known) → unwrap_or (if b then Some v else o) unknown ≡ (if b then v else unwrap_or o unknown)
known_by_test true v o = refl
known_by_test false v o = refl

pub known_insert : (es : List (Bytes × Known)) (k x : Bytes) (v : Known) → known_of (insert_entry text_eq es k v) x ≡ (if text_eq x k then v else known_of es x)
known_insert es k x v = ap (λ o. unwrap_or o unknown) (lookup_insert es k x v) ∙ known_by_test (text_eq x k) v (lookup (text_eq x) es)

-- ---- the choice of a symbol depends on names and choices of configs alone
pub choice_alike : (cs : List ConfigEntry) (c d : ConfigEntry) (x : Bytes) → c.name ≡ d.name → c.choice ≡ d.choice → choice_by (cs ++ c ∷ []) x ≡ choice_by (cs ++ d ∷ []) x
choice_alike [] c d x n o = ap (λ m. if text_eq m x then first_choice c.choice None else None) n ∙ ap (λ m. if text_eq d.name x then first_choice m None else None) o
choice_alike (b ∷ cs) c d x n o = ap (λ m. if text_eq b.name x then first_choice b.choice m else m) (choice_alike cs c d x n o)

-- ---- a type line more
typed_known : (w : Known) (k : Kind) (a : Bool) (t : Kind) (other : Known) → (a ≡ true → t ≡ k) → (a ≡ false → t ≡ kind.Untyped) → (a ≡ true → other ≡ w)
    → (if a then record w { kind = first_type w.kind k } else other) ≡ record other { kind = first_type other.kind t }
typed_known w k true t other h g same = rw (h refl, same refl) refl
typed_known w k false t other h g same = rw (g refl) (sym (ap (λ j. record other { kind = j }) (first_of_none other.kind)))

pub typed_symbols : (es : List (Bytes × Known)) (ts : List TypeLine) (name : Bytes) (number : Option ℕ) (k : Kind) (x : Bytes) (choice : Option ℕ)
    → known_of es x ≡ record { kind = type_of ts x; choice = choice }
    → known_of (with_known_type es name k) x ≡ record { kind = type_of (ts ++ type_line name number k ∷ []) x; choice = choice }
typed_symbols es ts name number k x choice h =
    let t = type_line name number k in
    let yes : text_eq x name ≡ true → kind_for t x ≡ k = λ e. rw (text_sym name x ∙ e) refl in
    let no : text_eq x name ≡ false → kind_for t x ≡ kind.Untyped = λ e. rw (text_sym name x ∙ e) refl in
    let same : text_eq x name ≡ true → known_of es x ≡ known_of es name = λ e. ap (known_of es) (text_eq-exact x name e) in
    known_insert es name x (record (known_of es name) { kind = first_type (known_of es name).kind k })
    ∙ typed_known (known_of es name) k (text_eq x name) (kind_for t x) (known_of es x) yes no same
    ∙ ap (λ (w : Known). record w { kind = first_type w.kind (kind_for t x) }) h
    ∙ sym (ap (λ j. record { kind = j; choice = choice }) (type_last ts t x))
