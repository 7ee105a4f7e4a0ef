-- What is written one after another, as groups and as the lines of verdicts.
use Rattle.std.proofs.Common.{◌≡◌, ℕ, ◌+◌, ◌<◌, ◌≤◌, ◌^◌, Bool, true, false, cond, List, [], ◌∷◌, ◌++◌, length, drop, refl, sym, ap, subst, ◌∙◌, append_assoc, arith}
use Rattle.std.specs.Prelude.{All, Option, None, Some, Result, Ok, Err, OnOk, if◌then◌else◌}
use Rattle.std.specs.List.{dedup, dedup_from, flat_map}
use Rattle.std.proofs.lemmas.List.{append-nil, at_drop_all}
use Rattle.ut_text.specs.Bytes.{Bytes}
use Rattle.ut_logic.specs.Item.{item_eq}
use Rattle.ut_logic.specs.declared.item.Item.{Item}
use Rattle.log_check.specs.DerivationText.{IsPrintable}
use Rattle.log_check.specs.declared.derivations.Derivation.{Derivation}
use Rattle.ut_case.specs.declared.question.Ask.{Ask}
use Rattle.ut_case.specs.declared.question.Ask.TheVariants.{Dropped}
use Rattle.ut_case.specs.declared.question.BlockId.{BlockId}
use Rattle.ut_case.specs.declared.question.Class.{Class}
use Rattle.ut_case.specs.declared.question.Family.TheVariants as family
use Rattle.ut_case.specs.declared.verdict.Verdict.{Verdict}
use Rattle.ut_case.specs.declared.verdict.Verdict.TheVariants.{Live, Undead, Undecided}
use Rattle.ut_case.specs.declared.whole.Whole.{Whole}
use Rattle.ut_case.specs.declared.word.Word.{Word}
use Rattle.ut_case.specs.Problem.{Problem, source_at}
use Rattle.ut_case.specs.Questions.{question_on}
use Rattle.ut_case.specs.Wholes.{case_of}
use Rattle.ut_case.specs.Words.{word_of}
use Rattle.ut_report.specs.Evidence.{step_lines}
use Rattle.ut_report.specs.Groups.{group_lines}
use Rattle.ut_report.specs.Lines.{block_line, text_of}
use Rattle.report_lines.specs.Inside.{after_last}
use Rattle.report_lines.specs.Reading.{HasClauses}
use Rattle.report_lines.specs.Shown.{AreLinesOf, AreUnder, group_if, steps_of}
use Rattle.report_lines.proofs.TextLaws.{text_of-append}

pub on_ok : {T E : Type 0} {P Q : Type 0} (r : Result T E) → (P → Q) → OnOk r P → OnOk r Q
on_ok (Ok x) f h = f h
on_ok (Err e) f h = tt

-- an element of a list that has one
pub some_of : {A : Type 0} (xs : List A) (n : ℕ) → n < length xs → A
some_of [] n l = absurd (omega (arith, l))
some_of (x ∷ xs) n l = x

-- ---- items in order, each once

last_is : (k : Item) (is : List Item) → k ∷ after_last (Some k) is ≡ dedup_from item_eq k is
last_is k [] = refl
last_is k (i ∷ is) = by (item_eq i k) (last_is k is) (last_is i is)
  where
    by : (b : Bool) → k ∷ after_last (Some k) is ≡ dedup_from item_eq k is → i ∷ after_last (Some i) is ≡ dedup_from item_eq i is
        → k ∷ (if b then after_last (Some k) is else i ∷ after_last (Some i) is) ≡ cond b (dedup_from item_eq k is) (k ∷ dedup_from item_eq i is)
    by true e f = e
    by false e f = ap (λ l. k ∷ l) f

once : (is : List Item) → after_last None is ≡ dedup item_eq is
once [] = refl
once (i ∷ is) = last_is i is

pub all_written : (T : Item → Bytes) (new old : Bytes) (last : Option Item) (n : ℕ) (items env : List Item) → length items ≤ n → items ≡ env
    → new ++ flat_map T (after_last last (drop n items)) ≡ old ++ flat_map T (after_last None items) → new ≡ old ++ flat_map T (dedup item_eq env)
all_written T new old last n items env l s e =
    sym (append-nil new) ∙ sym (at_drop_all (λ rest. new ++ flat_map T (after_last last rest)) items n l) ∙ e ∙ ap (λ is. old ++ flat_map T is) (once items ∙ ap (dedup item_eq) s)

-- ---- groups

pub four_written : (a0 a1 a2 a3 a4 w1 w2 w3 w4 : Bytes) → a1 ≡ a0 ++ w1 → a2 ≡ a1 ++ w2 → a3 ≡ a2 ++ w3 → a4 ≡ a3 ++ w4 → a4 ≡ a0 ++ (w1 ++ (w2 ++ (w3 ++ w4)))
four_written a0 a1 a2 a3 a4 w1 w2 w3 w4 e f g h =
    h ∙ ap (λ t. t ++ w4) (g ∙ ap (λ t. t ++ w3) (f ∙ ap (λ t. t ++ w2) e))
    ∙ append_assoc ((a0 ++ w1) ++ w2) w3 w4 ∙ append_assoc (a0 ++ w1) w2 (w3 ++ w4) ∙ append_assoc a0 w1 (w2 ++ (w3 ++ w4))

pub group_parts : (first : Bytes) (a b c : List Bytes) → text_of (first ∷ (a ++ (b ++ c))) ≡ text_of (first ∷ []) ++ (text_of a ++ (text_of b ++ text_of c))
group_parts first a b c = text_of-append (first ∷ []) (a ++ (b ++ c)) ∙ ap (λ t. text_of (first ∷ []) ++ t) (text_of-append a (b ++ c) ∙ ap (λ t. text_of a ++ t) (text_of-append b c))

-- ---- what shows a verdict

-- two texts of lines one after another
two_written : (a0 a1 a2 : Bytes) (xs ys : List Bytes) → a1 ≡ a0 ++ text_of xs → a2 ≡ a1 ++ text_of ys → a2 ≡ a0 ++ text_of (xs ++ ys)
two_written a0 a1 a2 xs ys e f = f ∙ ap (λ t. t ++ text_of ys) e ∙ append_assoc a0 (text_of xs) (text_of ys) ∙ ap (λ t. a0 ++ t) (sym (text_of-append xs ys))

module _ {T E : Type 0} (r : Result T E) (p : Problem) (b : BlockId) (v : Verdict) (a0 a1 a2 : Bytes) where
  pub undead_written : (class : Class) (why : Derivation) (on : Whole) (n : ℕ) → v ≡ Undead class why on → a1 ≡ a0 ++ text_of (group_lines p true (case_of p on))
      → HasClauses p (question_on p b family.Whole Dropped) n → OnOk r (a2 ≡ a1 ++ text_of (step_lines (n + 1) why.lines)) → OnOk r (n + length why.lines < 2 ^ 64) → OnOk r (All IsPrintable why.lines)
      → OnOk r ((x : List Bytes) × AreUnder p true b v x × a2 ≡ a0 ++ text_of x)
  undead_written class why on n is e h = by r
    where
      by : (s : Result T E) → OnOk s (a2 ≡ a1 ++ text_of (step_lines (n + 1) why.lines)) → OnOk s (n + length why.lines < 2 ^ 64) → OnOk s (All IsPrintable why.lines)
          → OnOk s ((x : List Bytes) × AreUnder p true b v x × a2 ≡ a0 ++ text_of x)
      by (Ok u) f few all =
          let group = group_lines p true (case_of p on) in
          let steps = step_lines (n + 1) why.lines in
          let under : AreUnder p true b (Undead class why on) (group ++ steps) = record { clauses = n; counted = h; numbers = record { numbers = few; printable = all }; text = refl } in
          (group ++ steps, subst (λ w. AreUnder p true b w (group ++ steps)) (sym is) under, two_written a0 a1 a2 group steps e f)
      by (Err u) f few all = tt

  pub live_written : (on off : Whole) → v ≡ Live on off → a1 ≡ a0 ++ text_of (group_lines p true (case_of p on))
      → OnOk r (a2 ≡ a1 ++ text_of (group_lines p false (case_of p off))) → OnOk r ((x : List Bytes) × AreUnder p true b v x × a2 ≡ a0 ++ text_of x)
  live_written on off is e = on_ok r (λ f.
      let first = group_lines p true (case_of p on) in
      let second = group_lines p false (case_of p off) in
      let under : AreUnder p true b (Live on off) (first ++ second) = record { clauses = 0; counted = tt; numbers = tt; text = refl } in
      (first ++ second, subst (λ w. AreUnder p true b w (first ++ second)) (sym is) under, two_written a0 a1 a2 first second e f))

  pub undecided_written : (ask : Ask) (n : ℕ) (on : Option Whole) → v ≡ Undecided ask n on
      → OnOk r (a2 ≡ a0 ++ text_of (group_if p on)) → OnOk r ((x : List Bytes) × AreUnder p true b v x × a2 ≡ a0 ++ text_of x)
  undecided_written ask n on is = on_ok r (λ f.
      let under : AreUnder p true b (Undecided ask n on) (group_if p on) = record { clauses = 0; counted = tt; numbers = tt; text = refl } in
      (group_if p on, subst (λ u. AreUnder p true b u (group_if p on)) (sym is) under, f))

  -- the line of the block, and what stands under it
  pub lines_written : (evidence : Bool) (name : Bytes) (steps : ℕ) (word : Word) → name ≡ (source_at p b.file).name → steps ≡ steps_of v → word ≡ word_of v
      → a1 ≡ a0 ++ text_of (block_line name steps b.block word ∷ []) → OnOk r ((under : List Bytes) × AreUnder p evidence b v under × a2 ≡ a1 ++ text_of under)
      → OnOk r ((lines : List Bytes) × AreLinesOf p evidence b v lines × a2 ≡ a0 ++ text_of lines)
  lines_written evidence name steps word named stepped worded e = on_ok r (λ u.
      let line = block_line (source_at p b.file).name (steps_of v) b.block (word_of v) in
      let is : block_line name steps b.block word ≡ line = λ i. block_line (named i) (stepped i) b.block (worded i) in
      (line ∷ u.0, record { under = u.0; are_under = u.1; text = refl }, two_written a0 a1 a2 (line ∷ []) u.0 (e ∙ ap (λ l. a0 ++ text_of (l ∷ [])) is) u.2))

-- nothing stands under the line without evidence
pub nothing_under : (p : Problem) (evidence : Bool) (b : BlockId) (v : Verdict) (a : Bytes) → evidence ≡ false → (under : List Bytes) × AreUnder p evidence b v under × a ≡ a ++ text_of under
nothing_under p evidence b v a is =
    let none : AreUnder p false b v [] = record { clauses = 0; counted = tt; numbers = tt; text = refl } in
    ([], subst (λ e. AreUnder p e b v []) (sym is) none, sym (append-nil a))
