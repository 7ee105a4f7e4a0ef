-- The lines of a right verdict are those of the report of a run.
use Rattle.std.proofs.Common.{◌≡◌, ℕ, ◌+◌, ◌<◌, ◌^◌, Bool, true, false, List, ◌∷◌, length, refl, sym, ap, subst, ◌∙◌}
use Rattle.std.specs.Prelude.{Option, None, Some}
use Rattle.ut_text.specs.Bytes.{Bytes}
use Rattle.log_check.specs.declared.derivations.DerivationLine.{DerivationLine}
use Rattle.ut_case.specs.declared.question.Ask.{Ask}
use Rattle.ut_case.specs.declared.question.Ask.TheVariants.{Selected, Dropped}
use Rattle.ut_case.specs.declared.question.BlockId.{BlockId}
use Rattle.ut_case.specs.declared.question.Family.TheVariants.{Whole}
use Rattle.ut_case.specs.declared.verdict.Verdict.{Verdict}
use Rattle.ut_case.specs.declared.verdict.Verdict.TheVariants.{Dead, Undead, Live, Undecided}
use Rattle.ut_case.specs.declared.whole.Whole as made
use Rattle.ut_case.specs.Least.{IsLeast}
use Rattle.ut_case.specs.Problem.{Problem, source_at}
use Rattle.ut_case.specs.Questions.{Question, question_on}
use Rattle.ut_case.specs.Wholes.{case_of}
use Rattle.ut_case.specs.Words.{word_of}
use Rattle.ut_report.specs.Evidence.{AreFurther, AreSteps, IsGroup, step_lines}
use Rattle.ut_report.specs.Groups.{group_lines}
use Rattle.ut_report.specs.Lines.{block_line}
use Rattle.ut_report.specs.Report.{IsBlockLines}
use Rattle.report_lines.specs.Reading.{HasClauses}
use Rattle.report_lines.specs.Shown.{AreLinesOf, AreNumbered, AreUnder, group_if, steps_of}
use Rattle.report_lines.specs.Verdicts.{HasSteps, IsLeastIf, IsRefuted, IsShown, Shows}

-- a derivation that refutes the clauses of a question, numbered after them
steps_are : (p : Problem) (q : Question) (n : ℕ) (ds : List DerivationLine) (lines : List Bytes) → IsRefuted p q ds → HasClauses p q n → AreNumbered n ds → lines ≡ step_lines (n + 1) ds
    → AreSteps p q lines
steps_are p q n ds lines r h a t = let same : length r.clauses ≡ n = h r.items r.vars r.clauses r.form in record {
  items = r.items;
  vars = r.vars;
  clauses = r.clauses;
  form = r.form;
  derivation = ds;
  refutes = r.refutes;
  printable = a.printable;
  numbers = subst (λ k. k + length ds < 2 ^ 64) (sym same) a.numbers;
  text = t ∙ ap (λ k. step_lines (k + 1) ds) (sym same);
}

-- the group of a least whole
group_is : (p : Problem) (b : BlockId) (ask : Ask) (on : Bool) (w : made.Whole) → IsLeast p (question_on p b Whole ask) (case_of p w) → IsGroup p b ask on (group_lines p on (case_of p w))
group_is p b ask on w h = record { shows = case_of p w; least = h; text = refl }

-- where dropping was not decided
left_dropped : (p : Problem) (b : BlockId) (on : Option made.Whole) (lines : List Bytes) → IsLeastIf p b on → lines ≡ group_if p on → IsGroup p b Selected true lines
left_dropped p b None lines h t = absurd h
left_dropped p b (Some w) lines h t = record { shows = case_of p w; least = h; text = t }

further_are : (p : Problem) (b : BlockId) (evidence : Bool) (v : Verdict) (lines : List Bytes) → Shows p b v → AreUnder p evidence b v lines → AreFurther evidence p b (word_of v) lines
further_are p b false (Dead class why) lines s u = u.text
further_are p b false (Undead class why on) lines s u = u.text
further_are p b false (Live on off) lines s u = u.text
further_are p b false (Undecided ask n on) lines s u = u.text
further_are p b true (Dead class why) lines s u = steps_are p (question_on p b Whole Selected) u.clauses why.lines lines s u.counted u.numbers u.text
further_are p b true (Undead class why on) lines s u =
    let steps = step_lines (u.clauses + 1) why.lines in (
      group_lines p true (case_of p on),
      steps,
      u.text,
      group_is p b Selected true on s.1,
      steps_are p (question_on p b Whole Dropped) u.clauses why.lines steps s.0 u.counted u.numbers refl,
    )
further_are p b true (Live on off) lines s u =
    (group_lines p true (case_of p on), group_lines p false (case_of p off), u.text, group_is p b Selected true on s.0, group_is p b Dropped false off s.1)
further_are p b true (Undecided Selected n on) lines s u = u.text ∙ ap (group_if p) s
further_are p b true (Undecided Dropped n on) lines s u = left_dropped p b on lines s u.text

-- the budget stands in lines of undecided blocks alone
line_is : (name : Bytes) (steps block : ℕ) (v : Verdict) → HasSteps steps v → block_line name (steps_of v) block (word_of v) ≡ block_line name steps block (word_of v)
line_is name steps block (Dead class why) h = refl
line_is name steps block (Undead class why on) h = refl
line_is name steps block (Live on off) h = refl
line_is name steps block (Undecided ask n on) h = ap (λ k. block_line name k block (word_of (Undecided ask n on))) h

pub lines_right : (p : Problem) (b : BlockId) (steps : ℕ) (evidence : Bool) (v : Verdict) (lines : List Bytes) → IsShown p b steps v → AreLinesOf p evidence b v lines
    → IsBlockLines p steps evidence (source_at p b.file).name b lines
lines_right p b steps evidence v lines s l = record {
  said = record { word = word_of v; under = l.under };
  right = record { right = s.word; under = further_are p b evidence v l.under s.shows l.are_under };
  text = l.text ∙ ap (λ line. line ∷ l.under) (line_is (source_at p b.file).name steps b.block v s.steps_named);
}
