-- The lines of a Kbuild text that list goals, with the conditional parts round them; or the lowest conditional line without
-- a partner: an `else` or `endif` outside of every part, or the first line of a part without its end. Rules: Linux
-- kbuild/makefiles, and GNU make, "Syntax of Conditionals"; what is refused, and where, is this project's.
use Rattle.std.specs.Prelude.{◌≡◌, ◌⊎◌, ℕ, ◌++◌, Bool, List, [], ◌∷◌, Option, None, Some, Result, Ok, Err}
use Rattle.ut_text.specs.Bytes.{Bytes}
use Rattle.kbuild_paths.specs.declared.step.Step.{Step}
use Rattle.kbuild_text.specs.Lines.{Line, logical_lines, uncommented}
use Rattle.kbuild_text.specs.Marks.{marks_of}
use Rattle.kbuild_text.specs.Words as words
use Rattle.kbuild_text.specs.Statements.{Says, Assigns, Opens, Turns, Closes, Other, statement_of}
use Rattle.kbuild_text.specs.Variables as variables
use Rattle.kbuild_text.specs.Goals as goals
use Rattle.kbuild_text.specs.Chains.{closed, opened, steps_of, turned}
use Rattle.kbuild_text.specs.declared.bad.TextBad.{TextBad}
use Rattle.kbuild_text.specs.declared.bad.TextBad.TheVariants as bad
use Rattle.kbuild_text.specs.declared.chains.Chain.{Chain}
use Rattle.kbuild_text.specs.declared.goals.Goal.{Goal}
use Rattle.kbuild_text.specs.declared.listings.Listing.{Listing}
use Rattle.kbuild_text.specs.declared.listings.Reader.{Reader}
use Rattle.kbuild_text.specs.declared.marks.Mark.{Mark}
use Rattle.kbuild_text.specs.declared.variables.Meaning.{Meaning}
use Rattle.kbuild_text.specs.declared.variables.Role.{Role}

abbrev pub words_of : List Mark → List (List Mark)
words_of = words.words_of

abbrev pub takes_folders : Role → Bool
takes_folders = variables.takes_folders

abbrev pub onto_goals : Bool → Option Goal → List Goal → List Goal
onto_goals = goals.onto_goals

abbrev pub goals_of : Bool → List (List Mark) → List Goal
goals_of = goals.goals_of

-- the steps of the parts parts, and then that of the variable
abbrev pub with_step : List Step → Option Step → List Step
with_step steps None = steps
with_step steps (Some step) = steps ++ step ∷ []

-- what an assignment in these parts lists
abbrev pub listing_under : List Chain → Meaning → List (List Mark) → Listing
listing_under parts meaning ws = record {
  role = meaning.role;
  steps = with_step (steps_of parts) meaning.step;
  goals = goals_of (takes_folders meaning.role) ws;
}

-- the listing of an assignment, if it has an effect
abbrev pub listings_under : List Chain → Option Meaning → List (List Mark) → List Listing
listings_under parts None ws = []
listings_under parts (Some meaning) ws = listing_under parts meaning ws ∷ []

-- listings in front of the others, where there is no refusal
abbrev pub in_front : List Listing → Result (List Listing) ℕ → Result (List Listing) ℕ
in_front front (Ok listings) = Ok (front ++ listings)
in_front front (Err line) = Err line

-- after the last line: the outermost part without its end is refused
abbrev pub at_end : List Chain → Result (List Listing) ℕ
at_end [] = Ok []
at_end (c ∷ cs) = Err c.line

-- what is read in a part, or the line is refused where none is parts
abbrev pub in_part : List Chain → ℕ → Result (List Listing) ℕ → Result (List Listing) ℕ
in_part [] number read = Err number
in_part (c ∷ cs) number read = read

-- what a line in these parts gives, and what is read after it
abbrev pub at_line : List Chain → ℕ → List Mark → Says → (List Chain → Result (List Listing) ℕ) → Result (List Listing) ℕ
at_line parts number line (Assigns variable ws) after = in_front (listings_under parts (variables.meaning_of variable) ws) (after parts)
at_line parts number line Opens after = after (opened number (words_of line) parts)
at_line parts number line (Turns ws) after = in_part parts number (after (turned ws parts))
at_line parts number line Closes after = in_part parts number (after (closed parts))
at_line parts number line Other after = after parts

-- what lines in these parts list
abbrev pub listed : List Chain → List Line → Result (List Listing) ℕ
listed parts [] = at_end parts
listed parts (line ∷ lines) =
    let marks = marks_of (uncommented line.text) in
    at_line parts line.number marks (statement_of marks) (λ now. listed now lines)

-- what a text lists
abbrev pub listings_in : Bytes → Result (List Listing) ℕ
listings_in text = listed [] (logical_lines text)

-- ---- what the code promises

-- a line is read: what was read before it and what it leads to is what is read then and what follows, whatever that is
abbrev pub ReadsLine : Reader → ℕ → List Mark → Result (Unit {0}) TextBad → Reader → Type 0
ReadsLine old number line (Ok u) new = (after : List Chain → Result (List Listing) ℕ)
    → in_front old.listings (at_line old.chains number line (statement_of line) after) ≡ in_front new.listings (after new.chains)
ReadsLine old number line (Err (bad.Line at)) new = (after : List Chain → Result (List Listing) ℕ) → at_line old.chains number line (statement_of line) after ≡ Err at
ReadsLine old number line (Err bad.Oom) new = Unit {0}

-- the text is at its end
abbrev pub Ends : Reader → Result (List Listing) TextBad → Type 0
Ends reader (Ok listings) = (at_end reader.chains ≡ Ok []) × (listings ≡ reader.listings)
Ends reader (Err (bad.Line at)) = at_end reader.chains ≡ Err at
Ends reader (Err bad.Oom) = ⊥

-- the listings of a text, or its refusal; want of memory may come in its place
abbrev pub ReadsText : Bytes → Result (List Listing) TextBad → Type 0
ReadsText text (Ok listings) = listings_in text ≡ Ok listings
ReadsText text (Err (bad.Line line)) = listings_in text ≡ Err line
ReadsText text (Err bad.Oom) = Unit {0}
