-- What the words of a variable are, and under which step. Rule: Linux kbuild/makefiles, "Built-in object goals - obj-y",
-- "Loadable module goals - obj-m", "Library file goals - lib-y" and "Composite objects". That an ending with any other
-- macro call is a free step is this project's rule.
use Rattle.std.specs.Prelude.{ℕ, ◌+◌, ◌-◌, Bool, true, false, not, ◌==◌, ◌&&◌, ◌||◌, nat_eq, nat_le, nat_lt, codes, length, take, drop, List, [], ◌∷◌, Option, None, Some, if◌then◌else◌}
use Rattle.std.specs.List.{list_all, starts_with, ends_with}
use Rattle.ut_text.specs.Bytes.{Bytes}
use Rattle.ut_text.specs.ByteClasses.{is_name_byte}
use Rattle.ut_text.specs.Escapes.{escaped}
use Rattle.kbuild_paths.specs.declared.step.Step.{Step}
use Rattle.kbuild_paths.specs.declared.step.Step.TheVariants.{On, Free}
use Rattle.kbuild_text.specs.Marks.{after_front, are, bytes_of, has_call}
use Rattle.kbuild_text.specs.declared.marks.Mark.{Mark}
use Rattle.kbuild_text.specs.declared.variables.Role.{Role}
use Rattle.kbuild_text.specs.declared.variables.Role.TheVariants.{Goals, Parts}
use Rattle.kbuild_text.specs.declared.variables.Meaning.{Meaning}
use Rattle.kbuild_text.specs.declared.variables.Ending.{Ending}
use Rattle.kbuild_text.specs.declared.variables.Ending.TheVariants.{Always, When, Other}

-- what stands between `$(CONFIG_` and `)`, or between `${CONFIG_` and `}`
abbrev pub inside : Bytes → Bytes
inside text = take (length text - 10) (drop 9 text)

abbrev pub has_symbol_brackets : Bytes → Bool
has_symbol_brackets text = (starts_with nat_eq text (codes "$(CONFIG_") && ends_with nat_eq text (codes ")"))
    || (starts_with nat_eq text (codes "${CONFIG_") && ends_with nat_eq text (codes "}"))

-- the X of a text `$(CONFIG_X)` or `${CONFIG_X}`, where it is letters, digits and `_`
abbrev pub symbol_of : Bytes → Option Bytes
symbol_of text =
    if nat_le (length text) 10 || not (has_symbol_brackets text) then None
    else if list_all is_name_byte (inside text) then Some (inside text) else None

-- the step of a text with a macro call: that of a symbol, or a free one
abbrev pub step_or_free : Option Bytes → Bytes → Step
step_or_free None text = Free (escaped text)
step_or_free (Some name) text = On name

abbrev pub call_step : Bytes → Step
call_step text = step_or_free (symbol_of text) text

-- `y` and `m` give no step, and another ending without a macro call is none
abbrev pub ending_of : List Mark → Option (Option Step)
ending_of ending =
    if are ending (codes "y") || are ending (codes "m") then Some None
    else if not (has_call ending) then None
    else Some (Some (call_step (bytes_of ending)))

-- what words are, with the step of an ending
abbrev pub with_ending : Role → Option (Option Step) → Option Meaning
with_ending role None = None
with_ending role (Some step) = Some (record { role = role; step = step })

-- `-` outside of macro calls; 45 is its byte
abbrev pub is_dash : Mark → Bool
is_dash mark = not mark.in_call && mark.byte == 45

-- the number of bytes up to and with the last `-` outside of macro calls, or 0
abbrev pub dash_len : List Mark → ℕ
dash_len [] = 0
dash_len (m ∷ ms) = if nat_lt 0 (dash_len ms) then dash_len ms + 1 else if is_dash m then 1 else 0

-- the place after the last `-` after one more mark, at place i
abbrev pub dash_end : ℕ → ℕ → Mark → ℕ
dash_end end i mark = if is_dash mark then i + 1 else end

-- `x-objs` and `x-S` list parts of `x.o`
abbrev pub part_ending : Role → List Mark → Option Meaning
part_ending role tail = if are tail (codes "objs") then Some (record { role = role; step = None }) else with_ending role (ending_of tail)

abbrev pub parts_meaning : List Mark → Option Meaning
parts_meaning variable =
    let end = dash_len variable in
    if end == 0 then None else part_ending (Parts (bytes_of (take (end - 1) variable))) (drop end variable)

-- goals with this ending, where the front of the variable is theirs
abbrev pub goals_or : Option (List Mark) → Bool → Option Meaning → Option Meaning
goals_or None folders other = other
goals_or (Some tail) folders other = with_ending (Goals folders) (ending_of tail)

-- what a variable means: `obj-S` lists objects and folders, `lib-S` objects, and others may list parts
abbrev pub meaning_of : List Mark → Option Meaning
meaning_of variable = goals_or (after_front variable (codes "obj-")) true (goals_or (after_front variable (codes "lib-")) false (parts_meaning variable))

-- whether folders count among the words
abbrev pub takes_folders : Role → Bool
takes_folders (Goals folders) = folders
takes_folders (Parts of) = false

-- ---- what the reader's answer stands for

abbrev pub ended : Ending → Option (Option Step)
ended Always = Some None
ended (When step) = Some (Some step)
ended Other = None
