-- What the readers of the first form promise each other.
use Rattle.std.specs.Prelude.{◌≡◌, ℕ, ◌++◌, Option, None, Some, option_to_list, Result, Ok, Err, List}
use Rattle.kconf_entries.specs.declared.entries.ConfigEntry.{ConfigEntry}
use Rattle.kconf_entries.specs.declared.entries.Entries.{Entries}
use Rattle.undertaker.specs.declared.first_bad.FirstBad.{FirstBad}
use Rattle.undertaker.specs.declared.first_bad.FirstBad.TheVariants.{NotYet, Oom}
use Rattle.ut_text.specs.Results.{◌>>=◌}
use Rattle.undertaker.specs.FirstKconfig.Form.{Reading}

-- the entry that ends at a place, or this line is named
abbrev pub Finishes : Result (Option ConfigEntry) FirstBad → ℕ → Option (List ConfigEntry) → Type 0
Finishes (Ok done) line ended = ended ≡ Some (option_to_list done)
Finishes (Err (NotYet n)) line ended = (n ≡ line) × (ended ≡ None)
Finishes (Err Oom) line ended = Unit {0}

-- what stands after a line and the entry that it ends, or the line is named
abbrev pub Steps : Result (Option ConfigEntry) FirstBad → ℕ → Reading → Option (Reading × List ConfigEntry) → Type 0
Steps (Ok done) line new step = step ≡ Some (new, option_to_list done)
Steps (Err (NotYet n)) line new step = (n ≡ line) × (step ≡ None)
Steps (Err Oom) line new step = Unit {0}

-- the entries of a text, or the line that is named
abbrev pub Gives : Result Entries FirstBad → Result Entries ℕ → Type 0
Gives (Ok entries) read = read ≡ Ok entries
Gives (Err (NotYet n)) read = read ≡ Err n
Gives (Err Oom) read = Unit {0}

-- the entries so far, and those of what is left
abbrev pub behind : List ConfigEntry → Result (List ConfigEntry) ℕ → Result (List ConfigEntry) ℕ
behind front read = read >>= λ es. Ok (front ++ es)
