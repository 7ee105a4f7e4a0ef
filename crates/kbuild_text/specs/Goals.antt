-- What a word of a variable names. Rule: Linux kbuild/makefiles, "Goal definitions" and "Descending down in directories":
-- a word that ends with `.o` is an object, and one that ends with `/` a folder. That words with a macro call and paths that
-- lead out of the folder are without effect is this project's rule.
use Rattle.std.specs.Prelude.{ℕ, ◌-◌, Bool, true, false, not, ◌==◌, ◌&&◌, ◌||◌, nat_eq, nat_le, codes, length, take, List, [], ◌∷◌, Option, None, Some, if◌then◌else◌}
use Rattle.std.specs.List.{starts_with, ends_with}
use Rattle.ut_text.specs.Bytes.{Bytes}
use Rattle.ut_text.specs.Text.{text_eq}
use Rattle.kbuild_text.specs.Marks.{bytes_of, has_call}
use Rattle.kbuild_text.specs.declared.marks.Mark.{Mark}
use Rattle.kbuild_text.specs.declared.goals.Goal.{Goal}
use Rattle.kbuild_text.specs.declared.goals.Goal.TheVariants.{Object, Folder}

-- whether the first part of a path is `..`
abbrev pub begins_up : Bytes → Bool
begins_up path = text_eq path (codes "..") || starts_with nat_eq path (codes "../")

-- whether a part after a `/` is `..`; 47 is `/`
abbrev pub has_up_after : Bytes → Bool
has_up_after [] = false
has_up_after (b ∷ path) = (b == 47 && begins_up path) || has_up_after path

-- whether a path begins with `/` or has a part `..`
abbrev pub leads_out : Bytes → Bool
leads_out path = starts_with nat_eq path (codes "/") || begins_up path || has_up_after path

-- what a path names: a folder, or an object, which isn't `.o` alone
abbrev pub goal_at : Bytes → Option Goal
goal_at path =
    if leads_out path then None
    else if ends_with nat_eq path (codes "/") then Some (Folder path)
    else if nat_le (length path) 2 || not (ends_with nat_eq path (codes ".o")) then None
    else Some (Object (take (length path - 2) path))

-- what a word names
abbrev pub goal_of : List Mark → Option Goal
goal_of word = if has_call word then None else goal_at (bytes_of word)

-- a goal in front of others; a folder counts only where folders are taken
abbrev pub onto_goals : Bool → Option Goal → List Goal → List Goal
onto_goals folders None goals = goals
onto_goals folders (Some (Object name)) goals = Object name ∷ goals
onto_goals folders (Some (Folder name)) goals = if folders then Folder name ∷ goals else goals

-- what words name, in order
abbrev pub goals_of : Bool → List (List Mark) → List Goal
goals_of folders [] = []
goals_of folders (w ∷ ws) = onto_goals folders (goal_of w) (goals_of folders ws)
