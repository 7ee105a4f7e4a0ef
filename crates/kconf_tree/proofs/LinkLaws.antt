-- Each symbol's list has those that select or imply it.
use Rattle.std.proofs.Common.{◌≡◌, ℕ, zero, suc, ◌+◌, ◌<◌, ◌≤◌, ◌⊎◌, inl, inr, All, Bool, true, false, ◌||◌, cond, eqb, ltb, Option, None, Some, List, [], ◌∷◌, ◌++◌, length, map, get_or, replicate, refl, ap, sym, subst, ◌∙◌, arith, append_assoc, get_or-set_same, get_or-set_other}
use Rattle.std.proofs.lemmas.Bool.{false≢true, cases_lt, eqb-true, eqb-false, eq-eqb, lt-ltb}
use Rattle.std.proofs.lemmas.List.{append-nil, map-append, length-set, length-replicate, get_or-replicate, get_or_default, get_or_past}
use Rattle.std.proofs.lemmas.List.Elements.{All-set, All-push, All-get_or, All-nil}
use Rattle.std.proofs.lemmas.List.Quantifiers.{position-Some}
use Rattle.std.proofs.lemmas.List.Sums.{position_or_len_is}
use Rattle.std.specs.List.{list_any, position_or_len}
use Rattle.ut_text.specs.Text.{text_eq, text_eq-exact, text_equiv}
use Rattle.kconf_entries.specs.declared.entries.SelectOf.{SelectOf}
use Rattle.kconf_tree.specs.declared.shape.Symbol.{Symbol}
use Rattle.kconf_tree.specs.declared.shape.Selector.{Selector}
use Rattle.kconf_tree.specs.declared.links.Link.{Link}
use Rattle.kconf_tree.specs.declared.links.Link.TheVariants.{Selects, Implies}
use Rattle.kconf_tree.specs.Shape.{Shape, Selecting, no_symbol, no_select, symbol_at, number_of, is_the, selects_at, selects_from, implies_from}
use Rattle.kconf_tree.specs.Apart.{AreApart}
use Rattle.kconf_tree.specs.Apart.{names_in}
use Rattle.kconf_tree.specs.Links.{AreLinkers, AreRows}
use Rattle.kconf_tree.specs.Linking.{IsLinker, list_of, linker_of, linkers_of, with_one, linked_one, linked_each, linked_all}

-- ---- the number of a target

none_at : (name : List ℕ) (ss : List Symbol) (k : ℕ) → list_any (text_eq name) (names_in ss) ≡ false → k < length ss → text_eq name (get_or ss k no_symbol).name ≡ false
none_at name [] k h l = absurd (omega arith)
none_at name (s ∷ ss) zero h l = by (text_eq name s.name) h
  where
    by : (b : Bool) → (b || list_any (text_eq name) (names_in ss)) ≡ false → b ≡ false
    by true g = g
    by false g = refl
none_at name (s ∷ ss) (suc k) h l = none_at name ss k (by (text_eq name s.name) h) (omega arith)
  where
    by : (b : Bool) → (b || list_any (text_eq name) (names_in ss)) ≡ false → list_any (text_eq name) (names_in ss) ≡ false
    by true g = absurd (false≢true (sym g))
    by false g = g

apart_at : (ss : List Symbol) (j k : ℕ) → AreApart text_eq (names_in ss) → j < k → k < length ss → text_eq (get_or ss j no_symbol).name (get_or ss k no_symbol).name ≡ false
apart_at [] j k a h l = absurd (omega arith)
apart_at (s ∷ ss) zero zero a h l = absurd (omega arith)
apart_at (s ∷ ss) zero (suc k) a h l = none_at s.name ss k a.0 (omega arith)
apart_at (s ∷ ss) (suc j) zero a h l = absurd (omega arith)
apart_at (s ∷ ss) (suc j) (suc k) a h l = apart_at ss j k a.1 (omega arith) (omega arith)

-- the row of a symbol, with any default past the last one
pub row_at : (t : Shape) (link : Link) (rows : List (List Selector)) → AreRows t link rows → (k : ℕ) (d : List Selector) → k < length t.symbols → map (linker_of t link) (get_or rows k d) ≡ linkers_of link t k
row_at t link rows r k d l = ap (map (linker_of t link)) (get_or_default rows k d [] (subst (λ n. k < n) (sym r.count) l)) ∙ r.each k l

-- what a row has stays where it gets one more
pub linkers_with : (t : Shape) (link : Link) (rows : List (List Selector)) (o : Option ℕ) (s : Selector) → AreLinkers t link rows → IsLinker t link s → AreLinkers t link (with_one rows o s)
linkers_with t link rows None s h e = h
linkers_with t link rows (Some k) s h e = All-set (All (IsLinker t link)) rows k (get_or rows k [] ++ s ∷ []) (All-push (IsLinker t link) (get_or rows k []) s (at (cases_lt k (length rows))) e) h
  where
    at : (k < length rows) ⊎ (length rows ≤ k) → All (IsLinker t link) (get_or rows k [])
    at (inl l) = All-get_or (All (IsLinker t link)) rows k [] l h
    at (inr l) = subst (All (IsLinker t link)) (sym (get_or_past rows k [] l)) (All-nil (IsLinker t link))

pub length-one : (rows : List (List Selector)) (o : Option ℕ) (s : Selector) → length (with_one rows o s) ≡ length rows
length-one rows None s = refl
length-one rows (Some m) s = length-set rows m (get_or rows m [] ++ s ∷ [])

module _ (t : Shape) (apart : AreApart text_eq (names_in t.symbols)) where
  -- a target's number is k where it has the name of k
  target_is : (target : List ℕ) (k : ℕ) → k < length t.symbols → is_the (number_of t target) k ≡ text_eq target (symbol_at t k).name
  target_is target k l = by (text_eq target (symbol_at t k).name) refl
    where
      found : text_eq target (symbol_at t k).name ≡ true → position_or_len (λ (s : Symbol). text_eq s.name target) t.symbols ≡ k
      found e = let same = text_eq-exact target (symbol_at t k).name e in
          position_or_len_is (λ (s : Symbol). text_eq s.name target) t.symbols k no_symbol (omega (arith, l))
          (λ j h. ap (text_eq (symbol_at t j).name) same ∙ apart_at t.symbols j k apart h l)
          (λ h. text_equiv.symm (symbol_at t k).name target ∙ e)

      off : (o : Option ℕ) → number_of t target ≡ o → text_eq target (symbol_at t k).name ≡ false → is_the o k ≡ false
      off None h e = refl
      off (Some m) h e = at (eqb m k) refl
        where
          at : (b : Bool) → eqb m k ≡ b → b ≡ false
          at false g = refl
          at true g = let p = position-Some (λ (s : Symbol). text_eq s.name target) t.symbols m no_symbol h in
              absurd (false≢true (sym e ∙ (text_equiv.symm target (symbol_at t k).name ∙ (ap (λ j. text_eq (symbol_at t j).name target) (sym (eqb-true m k g)) ∙ p.1))))

      by : (b : Bool) → text_eq target (symbol_at t k).name ≡ b → is_the (number_of t target) k ≡ b
      by true e = ap (λ n. is_the (cond (ltb n (length t.symbols)) (Some n) None) k) (found e) ∙ (ap (λ b. is_the (cond b (Some k) None) k) (lt-ltb k (length t.symbols) l) ∙ eq-eqb k k refl)
      by false e = off (number_of t target) refl e

  -- ---- the lists

  one_at : (rows : List (List Selector)) (o : Option ℕ) (s : Selector) (k : ℕ) → k < length rows → get_or (with_one rows o s) k [] ≡ get_or rows k [] ++ cond (is_the o k) (s ∷ []) []
  one_at rows None s k l = sym (append-nil (get_or rows k []))
  one_at rows (Some m) s k l = by (eqb m k) refl
    where
      by : (b : Bool) → eqb m k ≡ b → get_or (with_one rows (Some m) s) k [] ≡ get_or rows k [] ++ cond b (s ∷ []) []
      by true e = ap (λ n. get_or (with_one rows (Some n) s) k []) (eqb-true m k e) ∙ get_or-set_same rows k (get_or rows k [] ++ s ∷ []) [] l
      by false e = get_or-set_other rows m k (get_or rows m [] ++ s ∷ []) [] (λ q. eqb-false m k e (sym q)) ∙ sym (append-nil (get_or rows k []))

  pub length-each : (j n : ℕ) (rows : List (List Selector)) (ss : List SelectOf) → length (linked_each t j n rows ss) ≡ length rows
  length-each j n rows [] = refl
  length-each j n rows (s ∷ ss) = length-each j (suc n) (linked_one t j n rows s) ss ∙ length-one rows (number_of t s.target) (record { by = j; nth = n })

  -- the numbers of the selects and implies of a name, from number n of symbol j on
  abbrev numbered_at : List ℕ → ℕ → ℕ → List SelectOf → List Selector
  numbered_at name j n [] = []
  numbered_at name j n (s ∷ ss) = cond (text_eq s.target name) (record { by = j; nth = n } ∷ numbered_at name j (suc n) ss) (numbered_at name j (suc n) ss)

  each_at : (j n : ℕ) (rows : List (List Selector)) (ss : List SelectOf) (k : ℕ) → k < length rows → k < length t.symbols
      → get_or (linked_each t j n rows ss) k [] ≡ get_or rows k [] ++ numbered_at (symbol_at t k).name j n ss
  each_at j n rows [] k l m = sym (append-nil (get_or rows k []))
  each_at j n rows (s ∷ ss) k l m = each_at j (suc n) (linked_one t j n rows s) ss k (subst (λ n. k < n) (sym (length-one rows (number_of t s.target) (record { by = j; nth = n }))) l) m
      ∙ (ap (λ xs. xs ++ numbered_at (symbol_at t k).name j (suc n) ss) (one_at rows (number_of t s.target) (record { by = j; nth = n }) k l ∙ ap (λ b. get_or rows k [] ++ cond b (record { by = j; nth = n } ∷ []) []) (target_is s.target k m))
      ∙ by (text_eq s.target (symbol_at t k).name))
    where
      by : (b : Bool) → get_or rows k [] ++ cond b (record { by = j; nth = n } ∷ []) [] ++ numbered_at (symbol_at t k).name j (suc n) ss
          ≡ get_or rows k [] ++ cond b (record { by = j; nth = n } ∷ numbered_at (symbol_at t k).name j (suc n) ss) (numbered_at (symbol_at t k).name j (suc n) ss)
      by true = append_assoc (get_or rows k []) (record { by = j; nth = n } ∷ []) (numbered_at (symbol_at t k).name j (suc n) ss)
      by false = ap (λ xs. xs ++ numbered_at (symbol_at t k).name j (suc n) ss) (append-nil (get_or rows k []))

  -- those of the symbols from number j on
  abbrev numbered_from : Link → List ℕ → ℕ → List Symbol → List Selector
  numbered_from link name j [] = []
  numbered_from link name j (s ∷ ss) = numbered_at name j 0 (list_of link s) ++ numbered_from link name (suc j) ss

  all_at : (link : Link) (j : ℕ) (rows : List (List Selector)) (ss : List Symbol) (k : ℕ) → k < length rows → k < length t.symbols
      → get_or (linked_all t link j rows ss) k [] ≡ get_or rows k [] ++ numbered_from link (symbol_at t k).name j ss
  all_at link j rows [] k l m = sym (append-nil (get_or rows k []))
  all_at link j rows (s ∷ ss) k l m = all_at link (suc j) (linked_each t j 0 rows (list_of link s)) ss k (subst (λ n. k < n) (sym (length-each j 0 rows (list_of link s))) l) m
      ∙ (ap (λ xs. xs ++ numbered_from link (symbol_at t k).name (suc j) ss) (each_at j 0 rows (list_of link s) k l m)
      ∙ append_assoc (get_or rows k []) (numbered_at (symbol_at t k).name j 0 (list_of link s)) (numbered_from link (symbol_at t k).name (suc j) ss))

  -- ---- what the numbers name

  -- who selects or implies a symbol, among those from number j on
  abbrev linkers_from : Link → List ℕ → ℕ → List Symbol → List Selecting
  linkers_from link name j [] = []
  linkers_from link name j (s ∷ ss) = selects_at name j (list_of link s) ++ linkers_from link name (suc j) ss

  named_at : (link : Link) (name : List ℕ) (j n : ℕ) (ss : List SelectOf) → ((i : ℕ) → get_or (list_of link (symbol_at t j)) (n + i) no_select ≡ get_or ss i no_select)
      → map (linker_of t link) (numbered_at name j n ss) ≡ selects_at name j ss
  named_at link name j n [] h = refl
  named_at link name j n (s ∷ ss) h = by (text_eq s.target name)
      (named_at link name j (suc n) ss (λ i. let e : suc n + i ≡ n + suc i = omega arith in ap (λ m. get_or (list_of link (symbol_at t j)) m no_select) e ∙ h (suc i)))
    where
      first : get_or (list_of link (symbol_at t j)) n no_select ≡ s
      first = let e : n ≡ n + 0 = omega arith in ap (λ m. get_or (list_of link (symbol_at t j)) m no_select) e ∙ h 0

      by : (b : Bool) → map (linker_of t link) (numbered_at name j (suc n) ss) ≡ selects_at name j ss
          → map (linker_of t link) (cond b (record { by = j; nth = n } ∷ numbered_at name j (suc n) ss) (numbered_at name j (suc n) ss))
          ≡ cond b (record { by = j; cond = s.cond } ∷ selects_at name j ss) (selects_at name j ss)
      by true rest = λ i. record { by = j; cond = (first i).cond } ∷ rest i
      by false rest = rest

  named_from : (link : Link) (name : List ℕ) (j : ℕ) (ss : List Symbol) → ((i : ℕ) → symbol_at t (j + i) ≡ get_or ss i no_symbol)
      → map (linker_of t link) (numbered_from link name j ss) ≡ linkers_from link name j ss
  named_from link name j [] h = refl
  named_from link name j (s ∷ ss) h = map-append (linker_of t link) (numbered_at name j 0 (list_of link s)) (numbered_from link name (suc j) ss)
      ∙ joined (named_from link name (suc j) ss (λ i. let e : suc j + i ≡ j + suc i = omega arith in ap (symbol_at t) e ∙ h (suc i)))
    where
      here : map (linker_of t link) (numbered_at name j 0 (list_of link s)) ≡ selects_at name j (list_of link s)
      here = let e : j ≡ j + 0 = omega arith in named_at link name j 0 (list_of link s)
          (λ i. let z : 0 + i ≡ i = omega arith in ap (λ m. get_or (list_of link (symbol_at t j)) m no_select) z ∙ ap (λ x. get_or (list_of link x) i no_select) (ap (symbol_at t) e ∙ h 0))

      joined : map (linker_of t link) (numbered_from link name (suc j) ss) ≡ linkers_from link name (suc j) ss
          → map (linker_of t link) (numbered_at name j 0 (list_of link s)) ++ map (linker_of t link) (numbered_from link name (suc j) ss) ≡ selects_at name j (list_of link s) ++ linkers_from link name (suc j) ss
      joined rest = λ i. here i ++ rest i

  by_selects : (name : List ℕ) (j : ℕ) (ss : List Symbol) → linkers_from Selects name j ss ≡ selects_from name j ss
  by_selects name j [] = refl
  by_selects name j (s ∷ ss) = ap (λ xs. selects_at name j s.selects ++ xs) (by_selects name (suc j) ss)

  by_implies : (name : List ℕ) (j : ℕ) (ss : List Symbol) → linkers_from Implies name j ss ≡ implies_from name j ss
  by_implies name j [] = refl
  by_implies name j (s ∷ ss) = ap (λ xs. selects_at name j s.implies ++ xs) (by_implies name (suc j) ss)

  linkers_are : (link : Link) (k : ℕ) → linkers_from link (symbol_at t k).name 0 t.symbols ≡ linkers_of link t k
  linkers_are Selects k = by_selects (symbol_at t k).name 0 t.symbols
  linkers_are Implies k = by_implies (symbol_at t k).name 0 t.symbols

  -- the row of a symbol names those that select or imply it
  pub links_at : (link : Link) (k : ℕ) → k < length t.symbols → map (linker_of t link) (get_or (linked_all t link 0 (replicate (length t.symbols) []) t.symbols) k []) ≡ linkers_of link t k
  links_at link k l = ap (map (linker_of t link)) (all_at link 0 (replicate (length t.symbols) []) t.symbols k (subst (λ n. k < n) (sym (length-replicate (length t.symbols) [])) l) l
      ∙ ap (λ xs. xs ++ numbered_from link (symbol_at t k).name 0 t.symbols) (get_or-replicate (length t.symbols) k [] [] l))
      ∙ (named_from link (symbol_at t k).name 0 t.symbols (λ i. let z : 0 + i ≡ i = omega arith in ap (symbol_at t) z) ∙ linkers_are link k)
