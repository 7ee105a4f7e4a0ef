-- What a line says, by the row of the table that it begins with.
use Rattle.std.proofs.Common.{ℕ, ◌≡◌, ◌∙◌, refl, sym, ap, subst, List, Option, Some, None, Result, Ok, Err}
use Rattle.std.specs.Prelude.{IfOk}
use Rattle.ut_text.specs.Bytes.{Bytes}
use Rattle.ut_text.specs.Results.{◌>>=◌}
use Rattle.kconf_words.specs.declared.line_words.LineWord.{LineWord}
use Rattle.kconf_words.specs.declared.line_bad.SyntaxKind.TheVariants as fault
use Rattle.kconf_words.specs.declared.line_bad.LineBad.{LineBad}
use Rattle.kconf_words.specs.declared.line_bad.LineBad.TheVariants.{Syntax}
use Rattle.kconf_words.specs.Faults.{Fails}
use Rattle.kconf_rests.specs.Rests.{Rest, wanted}
use Rattle.kconf_rests.proofs.RestLemmas.{fails_first}
use Rattle.kconf_statements.specs.declared.keywords.Attribute.{Attribute}
use Rattle.kconf_statements.specs.declared.keywords.EntryWord.{EntryWord}
use Rattle.kconf_statements.specs.declared.lines.EntryLine.{EntryLine}
use Rattle.kconf_statements.specs.declared.lines.Owner.{Owner}
use Rattle.kconf_statements.specs.declared.lines.Says.{Says}
use Rattle.kconf_statements.specs.declared.lines.Says.TheVariants as says
use Rattle.kconf_statements.specs.EntryLines.{Entry, Before}
use Rattle.kconf_statements.specs.Standing.{begun}
use Rattle.kconf_statements.specs.Statements.{Place, row_of, attributes, entry_rows, statements, said}
use Rattle.kconf_statements.specs.Says.{entry_of, applied, IsOf, SaysOf}
use Rattle.kconf_statements.specs.Reading.{attribute_place, entry_rest, entry_place, attribute_said, BeginsEntry}
use Rattle.kconf_statements.proofs.TableLaws.{attribute_found, entry_found}

-- what is said by a row
abbrev by_row : ℕ → Before → Option (Place × List LineWord) → Result Before LineBad
by_row line before o = wanted fault.Word o >>= λ r. wanted fault.Attribute (r.0 line before) >>= λ rest. rest r.1

module _ (root : Bytes) (ws : List LineWord) (line : ℕ) (before : Before) where
  said_by : (o : Option (Place × List LineWord)) → row_of (statements root) ws ≡ o → said root line before ws ≡ by_row line before o
  said_by o h = ap (by_row line before) h

  pub said_attribute : (a : Attribute) (rest : List LineWord) → Some (attribute_place a, rest) ≡ row_of attributes ws → said root line before ws ≡ attribute_said a line before rest
  said_attribute a rest h = said_by (Some (attribute_place a, rest)) (attribute_found root ws (attribute_place a, rest) h)

  pub said_nothing : None ≡ row_of attributes ws → None ≡ row_of (entry_rows root) ws → said root line before ws ≡ Err (Syntax fault.Word)
  said_nothing h g = said_by None (entry_found root ws None h g)

  said_entry : (w : EntryWord) (rest : List LineWord) → None ≡ row_of attributes ws → Some (entry_place root w, rest) ≡ row_of (entry_rows root) ws
      → said root line before ws ≡ (entry_rest root w rest >>= begun line before)
  said_entry w rest h g = said_by (Some (entry_place root w, rest)) (entry_found root ws (Some (entry_place root w, rest)) h g)

  pub entry_said : (w : EntryWord) (rest : List LineWord) (e : EntryLine) → None ≡ row_of attributes ws → Some (entry_place root w, rest) ≡ row_of (entry_rows root) ws
      → entry_rest root w rest ≡ Ok (entry_of e) → said root line before ws ≡ begun line before (entry_of e)
  entry_said w rest e h g is = said_entry w rest h g ∙ ap (λ (r : Result Entry LineBad). r >>= begun line before) is

  pub entry_refused : (w : EntryWord) (rest : List LineWord) (e : LineBad) → None ≡ row_of attributes ws → Some (entry_place root w, rest) ≡ row_of (entry_rows root) ws
      → Fails e (entry_rest root w rest) → Fails e (said root line before ws)
  entry_refused w rest e h g f = subst (Fails e) (sym (said_entry w rest h g)) (fails_first e (entry_rest root w rest) (begun line before) f)

  -- what was read of an attribute adds what the table says
  pub attribute_adds : (a : Attribute) (rest : List LineWord) (r : Result Says LineBad) → Some (attribute_place a, rest) ≡ row_of attributes ws → SaysOf (attribute_said a line before rest) line before r
      → SaysOf (said root line before ws) line before r
  attribute_adds a rest r h g = subst (λ (read : Result Before LineBad). SaysOf read line before r) (sym (said_attribute a rest h)) g

  -- and so does an entry
  pub entry_adds : (w : EntryWord) (rest : List LineWord) (r : Result Says LineBad) → None ≡ row_of attributes ws → Some (entry_place root w, rest) ≡ row_of (entry_rows root) ws
      → BeginsEntry root w rest r → SaysOf (said root line before ws) line before r
  entry_adds w rest (Ok s) h g b =
      subst (λ (x : Says). said root line before ws ≡ applied line before x) (sym b.1) (entry_said w rest b.0 h g b.2)
  entry_adds w rest (Err e) h g b = entry_refused w rest e h g b

-- an entry belongs anywhere
pub entry_fits : (root : Bytes) (w : EntryWord) (rest : List LineWord) (o : Owner) (r : Result Says LineBad) → BeginsEntry root w rest r → IfOk r (IsOf o)
entry_fits root w rest o (Ok s) b = subst (IsOf o) (sym b.1) tt
entry_fits root w rest o (Err e) b = tt
