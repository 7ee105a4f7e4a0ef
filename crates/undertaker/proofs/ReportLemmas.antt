-- The lines of a run are the report on its source.
use Rattle.std.proofs.Common.{◌≡◌, ◌∙◌, ℕ, List, [], ◌∷◌, map, ap, sym, subst, refl, Option, Some, None, Result, Ok, Err}
use Rattle.std.specs.Prelude.{IfOk, IfSome, MatchResult, Vec}
use Rattle.std.specs.List.{concat}
use Rattle.std.specs.FinMap.{get}
use Rattle.std.specs.declared.alloc.Global.{Global}
use Rattle.std.specs.declared.alloc.AllocError.{AllocError}
use Rattle.ut_base.specs.Outside.{Held}
use Rattle.kconf_entries.specs.declared.entries.Entries.{Entries}
use Rattle.cpp_directives.specs.declared.directive.Directive.{Directive}
use Rattle.undertaker.specs.FirstSource.Form.{first_directives_of}
use Rattle.undertaker.specs.FirstSource.Reading.{Fails}
use Rattle.undertaker.specs.declared.first_bad.FirstBad.{FirstBad}
use Rattle.undertaker.specs.declared.first_bad.FirstBad.TheVariants.{NotYet}
use Rattle.kconf_tree.specs.Shape.{Shape}
use Rattle.kconf_tree.specs.Gathered.{gathered}
use Rattle.ut_case.specs.declared.word.Word.{Word}
use Rattle.undertaker.specs.Report.{Words, AreWords}
use Rattle.undertaker.specs.Words.{names_in}
use Rattle.undertaker.specs.Lines.{ended, lines_on}
use Rattle.ut_text.specs.Results.{◌>>=◌}
use Rattle.undertaker.specs.Outcome.{outcome_of, outcome_for, entries_of, taken}
use Rattle.undertaker.specs.Written.{AreLinesOn, IsText, IsTextOn, none_spent, refused_lines}
use Rattle.undertaker.specs.Gather.{Gathers, Refuses, ReadsEntries}
use Rattle.undertaker.specs.declared.bad.Bad.{Bad}
use Rattle.undertaker.specs.declared.bad.Bad.TheVariants as bad

-- lines made of right words are right
pub on_words : (tree : Shape) (name : List ℕ) (ds : List Directive) (ws : List Word) (r : Result (Vec (List ℕ) Global) AllocError)
    → AreWords tree ds (none_spent 0) ws → IfOk r (λ lines. lines.items ≡ lines_on name ws) → IfOk r (λ lines. AreLinesOn tree name (Ok ds) lines.items)
on_words tree name ds ws (Ok lines) right e = (ws, right, e)
on_words tree name ds ws (Err x) right e = tt

-- the text of right lines is right
text_on : (tree : Shape) (name : List ℕ) (read : Result (List Directive) ℕ) (lines : List (List ℕ)) → AreLinesOn tree name read lines → IsTextOn tree name read (concat lines)
text_on tree name (Ok ds) lines are = record { said = (name, Words are.0) ∷ []; right = (refl, are.1, tt); lines = ap concat are.2 }
text_on tree name (Err n) lines are = ap concat are

is_text : (entries : Entries) (name bytes : List ℕ) (lines : List (List ℕ)) → AreLinesOn (gathered entries) name (first_directives_of bytes) lines
    → IsText (record { entries = entries; source = record { name = name; read = first_directives_of bytes } }) (concat lines)
is_text entries name bytes lines are = text_on (gathered entries) name (first_directives_of bytes) lines are

-- a refused source's lines are right
pub on_refusal : (tree : Shape) (name : List ℕ) (found : FirstBad) (n : ℕ) (read : Result (List Directive) ℕ) (r : Result (Vec (List ℕ) Global) AllocError)
    → found ≡ NotYet n → Fails found read → IfOk r (λ lines. lines.items ≡ map ended (refused_lines name n)) → IfOk r (λ lines. AreLinesOn tree name read lines.items)
on_refusal tree name found n read (Ok lines) is fails e =
    let named : Fails (NotYet n) read = subst (λ (b : FirstBad). Fails b read) is fails in
    let at : Result (List Directive) ℕ → Type 0 = λ x. AreLinesOn tree name x lines.items in
    subst at (sym named) e
on_refusal tree name found n read (Err x) is fails e = tt

module _ (words : List (List ℕ)) (names : List ℕ × List ℕ) (named : names_in words ≡ Some names) (entries : Entries) (bytes : List ℕ) (held : Held)
    (e : entries_of names.0 (get held names.0) ≡ Ok entries) (t : taken names.1 (get held names.1) ≡ Ok bytes) where
  -- both texts were read
  outcome_is : outcome_of words held ≡ Ok (record { entries = entries; source = record { name = names.1; read = first_directives_of bytes } })
  outcome_is =
      ap (λ n. outcome_for n held) named ∙ ap (λ x. x >>= λ es. taken names.1 (get held names.1) >>= λ bs. Ok (record { entries = es; source = record { name = names.1; read = first_directives_of bs } })) e
      ∙ ap (λ x. x >>= λ bs. Ok (record { entries = entries; source = record { name = names.1; read = first_directives_of bs } })) t

  -- so the lines are their report
  gathers_at : (r : Result (Vec (List ℕ) Global) Bad)
      → MatchResult r (λ lines. AreLinesOn (gathered entries) names.1 (first_directives_of bytes) lines.items) (λ e. e ≡ bad.Oom) → Gathers (outcome_of words held) r
  gathers_at (Ok lines) are = (record { entries = entries; source = record { name = names.1; read = first_directives_of bytes } }, outcome_is, is_text entries names.1 bytes lines.items are)
  gathers_at (Err b) is = subst (λ (x : Bad). Refuses (outcome_of words held) x) (sym is) tt

module _ (words : List (List ℕ)) (names : List ℕ × List ℕ) (named : names_in words ≡ Some names) (entries : Entries) (bytes : List ℕ)
    (r : Result (Vec (List ℕ) Global) Bad)
    (are : MatchResult r (λ lines. AreLinesOn (gathered entries) names.1 (first_directives_of bytes) lines.items) (λ e. e ≡ bad.Oom)) where
  told : (held : Option Held) → IfSome held (λ m. ReadsEntries names.0 (get m names.0) (Ok entries)) → IfSome held (λ m. taken names.1 (get m names.1) ≡ Ok bytes)
      → IfSome held (λ m. Gathers (outcome_of words m) r)
  told None e t = tt
  told (Some m) e t = gathers_at words names named entries bytes m e t r are

  -- the same, where the files tell what they hold before the first read and between the two
  pub gathers : (before between : Option Held) → between ≡ before → IfSome before (λ m. ReadsEntries names.0 (get m names.0) (Ok entries))
      → IfSome between (λ m. taken names.1 (get m names.1) ≡ Ok bytes) → IfSome before (λ m. Gathers (outcome_of words m) r)
  gathers before between same e t =
      let at : Option Held → Type 0 = λ o. IfSome o (λ m. taken names.1 (get m names.1) ≡ Ok bytes) in
      told before e (subst at same t)
