-- What a run comes to, from the words and what the files hold: the first refusal in the order of work
-- (the words, the Kconfig text, the source), or both texts as they were read.
-- This project's rule.
use Rattle.std.specs.Prelude.{ℕ, nat_le, List, length, Option, Some, None, Result, Ok, Err, if◌then◌else◌, codes}
use Rattle.std.specs.FinMap.{get}
use Rattle.ut_base.specs.Outside.{Held}
use Rattle.ut_base.specs.declared.limits.Limit.{Limit}
use Rattle.ut_base.specs.declared.limits.Limit.TheVariants.{FileBytes}
use Rattle.ut_text.specs.Bytes.{Bytes}
use Rattle.ut_text.specs.Results.{◌>>=◌}
use Rattle.kconf_entries.specs.declared.entries.Entries.{Entries}
use Rattle.undertaker.specs.FirstKconfig.Form.{first_tree_of}
use Rattle.undertaker.specs.FirstSource.Form.{first_directives_of}
use Rattle.cpp_directives.specs.declared.directive.Directive.{Directive}
use Rattle.undertaker.specs.Words.{names_in}
use Rattle.undertaker.specs.ErrLines.{named_line, placed_line, limit_line}

-- the words aren't of the form; the Kconfig text isn't, at this line; no such file; a limit is passed
pub data Refusal : Type 0 where
  usage : Refusal
  refused : Bytes → ℕ → Refusal
  missing : Bytes → Refusal
  limit : Limit → ℕ → Refusal

-- a source as it was read: its name, and its directives or the line that is named
pub record Source : Type 0 where
  pub name : Bytes
  pub read : Result (List Directive) ℕ

-- the entries of the Kconfig text, and the source
pub record Texts : Type 0 where
  pub entries : Entries
  pub source : Source

-- the bytes of a file, which has at most 16,777,216 of them; two such files pass no other limit
abbrev pub taken : Bytes → Option Bytes → Result Bytes Refusal
taken name None = Err (missing name)
taken name (Some bytes) = if nat_le (length bytes) 16777216 then Ok bytes else Err (limit FileBytes 16777217)

-- the entries of a Kconfig text of this name, or its line that is refused
abbrev pub named : Bytes → Result Entries ℕ → Result Entries Refusal
named name (Ok entries) = Ok entries
named name (Err line) = Err (refused name line)

abbrev pub entries_of : Bytes → Option Bytes → Result Entries Refusal
entries_of name content = taken name content >>= λ text. named name (first_tree_of text)

-- both texts, the Kconfig text first
abbrev pub texts_of : Bytes → Bytes → Held → Result Texts Refusal
texts_of kconfig source held = entries_of kconfig (get held kconfig) >>= λ entries. taken source (get held source) >>= λ bytes.
    Ok (record { entries = entries; source = record { name = source; read = first_directives_of bytes } })

abbrev pub outcome_for : Option (Bytes × Bytes) → Held → Result Texts Refusal
outcome_for None held = Err usage
outcome_for (Some names) held = texts_of names.0 names.1 held

abbrev pub outcome_of : List Bytes → Held → Result Texts Refusal
outcome_of words held = outcome_for (names_in words) held

-- the line of a refusal, without its newline
abbrev pub refusal_line : Refusal → Bytes
refusal_line usage = codes "undertaker: usage: words"
refusal_line (refused name line) = placed_line name line (codes "not yet")
refusal_line (missing name) = named_line name (codes "missing")
refusal_line (limit what count) = limit_line what count
