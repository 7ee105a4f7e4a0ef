-- The numbers in the rows of a graph are those of symbols.
use Rattle.std.proofs.Common.{◌≡◌, ℕ, ◌<◌, zero, suc, List, [], ◌∷◌, length, get_or, Option, None, Some, refl, sym, subst, arith}
use Rattle.std.proofs.lemmas.List.{length-map}
use Rattle.std.proofs.lemmas.List.Quantifiers.{position-Some}
use Rattle.std.specs.List.{All, cons_option}
use Rattle.ut_text.specs.Text.{text_eq}
use Rattle.kconf_entries.specs.declared.entries.ConfigEntry.{ConfigEntry}
use Rattle.undertaker.specs.Names.{number_among}
use Rattle.undertaker.specs.Dependencies.{names_in, numbers_of, declared_in, rows_of, AreRows}

numbers_below : (names ns : List (List ℕ)) → All (λ j. j < length names) (numbers_of names ns)
numbers_below names [] k d lt = absurd (omega arith)
numbers_below names (n ∷ ns) k d lt = by (number_among names n) refl (numbers_below names ns) k d lt
  where
    by : (o : Option ℕ) → number_among names n ≡ o → All (λ j. j < length names) (numbers_of names ns) → All (λ j. j < length names) (cons_option (number_among names n) (numbers_of names ns))
    by None e rest = rw e rest
    by (Some j) e rest = rw e first
      where
        first : All (λ i. i < length names) (j ∷ numbers_of names ns)
        first zero d lt = (position-Some (λ m. text_eq m n) names j [] e).0
        first (suc k) d lt = rest k d (omega arith)

row_below : (names : List (List ℕ)) (es : List ConfigEntry) (k : ℕ) → All (λ j. j < length names) (get_or (rows_of names es) k [])
row_below names [] k i d lt = absurd (omega arith)
row_below names (e ∷ es) zero i d lt = numbers_below names (names_in e.depends) i d lt
row_below names (e ∷ es) (suc k) i d lt = row_below names es k i d lt

pub rows_are_below : (es : List ConfigEntry) (names : List (List ℕ)) → names ≡ declared_in es → (needs : List (List ℕ)) → needs ≡ rows_of names es → AreRows (record { names = names; needs = needs })
rows_are_below es names same needs are k i d lt = subst (λ n. get_or (get_or needs k []) i d < n) size
    (subst (λ (rows : List (List ℕ)). All (λ j. j < length names) (get_or rows k [])) (sym are) (row_below names es k) i d lt)
  where
    size : length names ≡ length needs
    size = rw (same, are, length-map es (λ (e : ConfigEntry). e.name), length-map es (λ (e : ConfigEntry). numbers_of names (names_in e.depends))) refl
