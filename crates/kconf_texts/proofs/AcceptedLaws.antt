-- Lines that are not refused begin an accepted text: the end words of what they leave open end it.
use Rattle.std.proofs.Common.{◌≡◌, ◌∙◌, refl, ap, Bool, true, false, not, List, [], ◌∷◌, drop, None, Ok}
use Rattle.std.specs.Prelude.{codes}
use Rattle.ut_text.specs.Bytes.{Bytes}
use Rattle.ut_base.specs.Plans.{◌then◌}
use Rattle.kconf_entries.specs.declared.entries.Var.{Var}
use Rattle.kconf_lines.specs.Lines.{Line}
use Rattle.kconf_words.specs.declared.line_bad.SyntaxKind.TheVariants as fault
use Rattle.kconf_words.specs.declared.line_bad.LineBad.TheVariants.{Syntax}
use Rattle.kconf_cut.specs.Words.{words_of}
use Rattle.kconf_statements.specs.declared.lines.Opens.{Opens}
use Rattle.kconf_statements.specs.declared.lines.Opens.TheVariants as opens
use Rattle.kconf_statements.specs.EntryLines.{Entry, At, Before}
use Rattle.kconf_statements.specs.Enclosing.{Opener, enclosing, unclosed, unclosed_by, is_ended_by, ends_innermost}
use Rattle.kconf_statements.specs.Standing.{begun, unless, first_refusal}
use Rattle.kconf_texts.specs.Texts.{Sourcing, text_end, unless_refused, words_read, lines_read}
use Rattle.kconf_texts.specs.Laws.{IsAccepted, BeginsAccepted}
use Rattle.kconf_texts.proofs.Computing.{computing}
use Rattle.kconf_texts.proofs.OrderLaws.{in_order}

-- the end word of an enclosing line
abbrev end_word : Opens → Bytes
end_word opens.Menu = codes "endmenu"
end_word opens.Choice = codes "endchoice"
end_word opens.If = codes "endif"
end_word opens.Source = []

-- the lines that end what is open in the innermost text
abbrev end_lines_by : Opens → List Line → List Line
end_lines_by opens.Source ls = []
end_lines_by what ls = record { number = 1; text = end_word what } ∷ ls

abbrev end_lines : List Opener → List Line
end_lines [] = []
end_lines (o ∷ os) = end_lines_by o.opens (end_lines os)

-- an entry that stands there
stands : (ended : Bool) (b : Before) → ended ≡ true → unless {A = Before} (first_refusal ((not ended, Syntax fault.End) ∷ [])) b ≡ Ok b
stands true b h = refl
stands false b h = absurd (cc)

module _ (vars : List Var) (root : Bytes) (sourcing : Sourcing) (file : Bytes) where
  -- a line of an end word alone
  menu_read : (b : Before) → words_read vars root sourcing file 1 b (words_of vars (codes "endmenu")) ≡ unless_refused sourcing file 1 (begun 1 b (Entry.End opens.Menu))
  unfolding computing
  menu_read b = refl

  choice_read : (b : Before) → words_read vars root sourcing file 1 b (words_of vars (codes "endchoice")) ≡ unless_refused sourcing file 1 (begun 1 b (Entry.End opens.Choice))
  unfolding computing
  choice_read b = refl

  if_read : (b : Before) → words_read vars root sourcing file 1 b (words_of vars (codes "endif")) ≡ unless_refused sourcing file 1 (begun 1 b (Entry.End opens.If))
  unfolding computing
  if_read b = refl

  abbrev Accepts : List Line → Before → Type 0
  Accepts ls b = IsAccepted (lines_read vars root sourcing file ls b)

  -- at the end nothing is open in the text
  at_end : (os : List Opener) (b : Before) → enclosing b ≡ os → unclosed os ≡ None → Accepts [] b
  at_end os b e h = (b, ap (text_end file b) (ap unclosed e ∙ h))

  -- an end word, and what follows
  one : (what : Opens) (ls : List Line) (o : Opener) (os : List Opener) (b : Before) → enclosing b ≡ o ∷ os → is_ended_by what o.opens ≡ true
      → words_read vars root sourcing file 1 b (words_of vars (end_word what)) ≡ unless_refused sourcing file 1 (begun 1 b (Entry.End what))
      → Accepts ls (At 1 (Entry.End what) ∷ b) → Accepts (record { number = 1; text = end_word what } ∷ ls) b
  one what ls o os b e h read rest =
      let inner : ends_innermost what (enclosing b) ≡ true = ap (ends_innermost what) e ∙ h in
      let step = read ∙ ap (unless_refused sourcing file 1) (stands (ends_innermost what (enclosing b)) (At 1 (Entry.End what) ∷ b) inner) in
      (rest.0, ap (λ p. p then lines_read vars root sourcing file ls) step ∙ rest.1)

  closes : (os : List Opener) (b : Before) → enclosing b ≡ os → Accepts (end_lines os) b
  closes [] b e = at_end [] b e refl
  closes (o ∷ os) b e = by o.opens refl (λ c g. closes os c g)
    where
      by : (what : Opens) → o.opens ≡ what → ((c : Before) → enclosing c ≡ os → Accepts (end_lines os) c) → Accepts (end_lines_by what (end_lines os)) b
      by opens.Source k f = at_end (o ∷ os) b e (ap (λ w. unclosed_by w o.line (unclosed os)) k)
      by opens.Menu k f = one opens.Menu (end_lines os) o os b e (ap (is_ended_by opens.Menu) k) (menu_read b) (f (At 1 (Entry.End opens.Menu) ∷ b) (ap (drop 1) e))
      by opens.Choice k f = one opens.Choice (end_lines os) o os b e (ap (is_ended_by opens.Choice) k) (choice_read b) (f (At 1 (Entry.End opens.Choice) ∷ b) (ap (drop 1) e))
      by opens.If k f = one opens.If (end_lines os) o os b e (ap (is_ended_by opens.If) k) (if_read b) (f (At 1 (Entry.End opens.If) ∷ b) (ap (drop 1) e))

  pub begins_accepted : (front : List Line) (before : Before) → BeginsAccepted vars root sourcing file front before
  begins_accepted front before a =
      let last = closes (enclosing a.0) a.0 refl in
      let rest = end_lines (enclosing a.0) in (
        rest,
        (last.0, in_order vars root sourcing file front rest before ∙ ap (λ p. p then lines_read vars root sourcing file rest) a.1 ∙ last.1),
      )
