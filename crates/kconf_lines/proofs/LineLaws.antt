-- What a logical line takes, so that lines are cut off one after another.
use Rattle.std.proofs.Common.{ℕ, zero, suc, ◌≡◌, refl, ◌≤◌, arith, Bool, true, false, List, [], ◌∷◌, length, drop}
use Rattle.std.specs.List.{prefix_len}
use Rattle.std.specs.Prelude.{◌==◌, if◌then◌else◌}
use Rattle.ut_text.specs.Bytes.{Bytes}
use Rattle.kconf_lines.specs.Lines.{Line}
use Rattle.kconf_lines.specs.HelpTexts.{after_help, after_first, after_indented, indentation, is_empty_line}
use Rattle.kconf_lines.specs.LogicalLines.{is_continued, joined_by, joined_first, first_line}
use Rattle.kconf_lines.specs.Laws.{Shortens, CutsOneByOne, PassesHelp}
use Rattle.kconf_lines.proofs.CutLaws.{cut_is}

drop_le : {X : Type 0} (n : ℕ) (xs : List X) → length (drop n xs) ≤ length xs
drop_le zero xs = omega arith
drop_le (suc n) [] = omega arith
drop_le (suc n) (x ∷ xs) = let h = drop_le n xs in omega (arith, h)

joined_le : (ls : List Line) → length (joined_first ls).1 ≤ length ls
joined_le [] = omega arith
joined_le (l ∷ ls) = by (is_continued l.text) (joined_le ls)
  where
    by : (b : Bool) → length (joined_first ls).1 ≤ length ls → length (joined_by b l.text (joined_first ls) ls).1 ≤ suc (length ls)
    by true h = omega (arith, h)
    by false h = omega arith

joined_shorter : (l : Line) (ls : List Line) → length (joined_first (l ∷ ls)).1 ≤ length ls
joined_shorter l ls = by (is_continued l.text) (joined_le ls)
  where
    by : (b : Bool) → length (joined_first ls).1 ≤ length ls → length (joined_by b l.text (joined_first ls) ls).1 ≤ length ls
    by true h = h
    by false h = omega arith

if_le : {X : Type 0} (n : ℕ) (b : Bool) (xs ys : List X) → length xs ≤ n → length ys ≤ n → length (if b then xs else ys) ≤ n
if_le n true xs ys h g = h
if_le n false xs ys h g = g

first_le : (ls : List Line) → length (after_first ls) ≤ length ls
first_le [] = omega arith
first_le (l ∷ ls) = if_le (suc (length ls)) (indentation l == 0) (l ∷ ls) (after_indented (indentation l) (l ∷ ls)) (omega arith) (drop_le _ (l ∷ ls))

help_le : (ls : List Line) → length (after_help ls) ≤ length ls
help_le ls = let h = first_le (drop (prefix_len is_empty_line ls) ls) in let d = drop_le (prefix_len is_empty_line ls) ls in omega (arith, h, d)

-- a logical line takes a physical line at least
pub line_shortens : (begins_help : Bytes → Bool) → Shortens (first_line begins_help)
line_shortens begins_help [] = tt
line_shortens begins_help (l ∷ ls) =
    let p = joined_first (l ∷ ls) in
    let h = joined_shorter l ls in
    let g = help_le p.1 in
    let le = if_le (length ls) (begins_help p.0) (after_help p.1) p.1 (omega (arith, h, g)) h in
    omega (arith, le)

pub lines_cut : (begins_help : Bytes → Bool) → CutsOneByOne (first_line begins_help)
lines_cut begins_help = cut_is (first_line begins_help) (line_shortens begins_help)

-- help texts are passed after the line that begins them
pub passes_help : (begins_help : Bytes → Bool) (ls : List Line) → PassesHelp begins_help ls
passes_help begins_help [] = refl
passes_help begins_help (l ∷ ls) = refl
