-- The table in two parts: first the attributes, then the entries and end words.
use Rattle.std.proofs.Common.{◌≡◌, ◌∙◌, refl, sym, ap, List, [], ◌∷◌, ◌++◌, Option, Some, None}
use Rattle.kconf_words.specs.declared.line_words.LineWord.{LineWord}
use Rattle.ut_text.specs.Bytes.{Bytes}
use Rattle.kconf_statements.specs.Statements.{Place, Row, or_in, words_after, row_of, attributes, entry_rows, statements}

abbrev Found : Type 0
Found = Option (Place × List LineWord)

abbrev pub or_else : Found → Found → Found
or_else None o = o
or_else (Some x) o = Some x

first : (p : Place) (ws : Option (List LineWord)) (a b : Found) → or_in p ws (or_else a b) ≡ or_else (or_in p ws a) b
first p None a b = refl
first p (Some ws) a b = refl

joined : (xs ys : List Row) (ws : List LineWord) → row_of (xs ++ ys) ws ≡ or_else (row_of xs ws) (row_of ys ws)
joined [] ys ws = refl
joined (r ∷ xs) ys ws = ap (or_in r.place (words_after r.words ws)) (joined xs ys ws) ∙ first r.place (words_after r.words ws) (row_of xs ws) (row_of ys ws)

pub attribute_found : (root : Bytes) (ws : List LineWord) (x : Place × List LineWord) → Some x ≡ row_of attributes ws → row_of (statements root) ws ≡ Some x
attribute_found root ws x h = joined attributes (entry_rows root) ws ∙ ap (λ o. or_else o (row_of (entry_rows root) ws)) (sym h)

pub entry_found : (root : Bytes) (ws : List LineWord) (o : Found) → None ≡ row_of attributes ws → o ≡ row_of (entry_rows root) ws → row_of (statements root) ws ≡ o
entry_found root ws o h g = joined attributes (entry_rows root) ws ∙ ap (λ q. or_else q (row_of (entry_rows root) ws)) (sym h) ∙ sym g
