-- What is told of words and of lines follows from what the words and the readers' forms are.
use Rattle.std.proofs.Common.{◌≡◌, ℕ, Bool, true, false, List, Option, None, Some, Result, Ok, Err, length, nat_le, refl, ◌&&◌, not, if◌then◌else◌}
use Rattle.std.specs.Prelude.{IfSome}
use Rattle.std.specs.FinMap.{get}
use Rattle.ut_base.specs.Outside.{Held}
use Rattle.ut_base.specs.declared.limits.Limit.TheVariants.{FileBytes}
use Rattle.kconf_entries.specs.declared.entries.Entries.{Entries}
use Rattle.undertaker.specs.FirstKconfig.Form.{first_tree_of}
use Rattle.undertaker.proofs.FirstKconfig.BadLineLemmas as first_kconfig
use Rattle.undertaker.specs.FirstSource.Form.{first_directives_of}
use Rattle.undertaker.proofs.FirstSource.BadLineLemmas as first_source
use Rattle.undertaker.specs.Verdicts.{IsDead, IsUndead}
use Rattle.ut_text.specs.Results.{◌>>=◌}
use Rattle.undertaker.specs.Outcome.{limit, taken, named, outcome_for, outcome_of}
use Rattle.undertaker.specs.Words.{names_in}
use Rattle.undertaker.specs.Told.{LiveIsNeither, NamesBadLine}

-- a block can't be left out where it is on with its parent
no_clash : (parent block : Bool) → (parent && not block) ≡ true → (parent ≡ true → block ≡ true) → ⊥
no_clash true true dropped on = absurd (cc)
no_clash true false dropped on = let both = on refl in absurd (cc)
no_clash false block dropped on = absurd (cc)

-- a case that selects it contradicts dead, and one that drops it contradicts undead
pub live_is_neither : LiveIsNeither
live_is_neither t ds block right = (not_dead, not_undead)
  where
    not_dead : ¬ IsDead t ds block
    not_dead dead = let off = dead right.2.selected.witness right.2.selected.belongs in let on = right.2.selected.met in absurd (cc)

    not_undead : ¬ IsUndead t ds block
    not_undead undead = no_clash _ _ right.2.dropped.met (undead.on right.2.dropped.witness right.2.dropped.belongs)

-- what a source that was taken is read as
source_taken : (held : Held) (entries : Entries) (name bytes : List ℕ) → get held name ≡ Some bytes → (fits : Bool) →
    NamesBadLine held ((if fits then Ok bytes else Err (limit FileBytes 16777217)) >>= λ text. Ok (record { entries = entries; source = record { name = name; read = first_directives_of text } }))
source_taken held entries name bytes has false = tt
source_taken held entries name bytes has true = λ n bad. (bytes, has, first_source.is_named bytes n bad)

-- the source after the entries
source_named : (held : Held) (entries : Entries) (name : List ℕ) (content : Option (List ℕ)) → get held name ≡ content →
    NamesBadLine held (taken name content >>= λ text. Ok (record { entries = entries; source = record { name = name; read = first_directives_of text } }))
source_named held entries name None has = tt
source_named held entries name (Some bytes) has = source_taken held entries name bytes has (nat_le (length bytes) 16777216)

-- the Kconfig text that was taken, and the source after it
kconfig_read : (held : Held) (kconfig source bytes : List ℕ) → get held kconfig ≡ Some bytes → (read : Result Entries ℕ) → first_tree_of bytes ≡ read →
    NamesBadLine held (named kconfig read >>= λ entries. taken source (get held source) >>= λ text. Ok (record { entries = entries; source = record { name = source; read = first_directives_of text } }))
kconfig_read held kconfig source bytes has (Ok entries) is = source_named held entries source (get held source) refl
kconfig_read held kconfig source bytes has (Err n) is = (bytes, has, first_kconfig.is_named bytes n is)

kconfig_taken : (held : Held) (kconfig source bytes : List ℕ) → get held kconfig ≡ Some bytes → (fits : Bool) →
    NamesBadLine held (((if fits then Ok bytes else Err (limit FileBytes 16777217)) >>= λ text. named kconfig (first_tree_of text))
    >>= λ entries. taken source (get held source) >>= λ text. Ok (record { entries = entries; source = record { name = source; read = first_directives_of text } }))
kconfig_taken held kconfig source bytes has false = tt
kconfig_taken held kconfig source bytes has true = kconfig_read held kconfig source bytes has (first_tree_of bytes) refl

kconfig_named : (held : Held) (kconfig source : List ℕ) (content : Option (List ℕ)) → get held kconfig ≡ content →
    NamesBadLine held ((taken kconfig content >>= λ text. named kconfig (first_tree_of text))
    >>= λ entries. taken source (get held source) >>= λ text. Ok (record { entries = entries; source = record { name = source; read = first_directives_of text } }))
kconfig_named held kconfig source None has = tt
kconfig_named held kconfig source (Some bytes) has = kconfig_taken held kconfig source bytes has (nat_le (length bytes) 16777216)

-- each line that is named is the first wrong one
pub bad_line_is_named : (held : Held) (names : Option (List ℕ × List ℕ)) → NamesBadLine held (outcome_for names held)
bad_line_is_named held None = tt
bad_line_is_named held (Some names) = kconfig_named held names.0 names.1 (get held names.0) refl

-- and so where the files tell what they hold
pub told_line : (words : List (List ℕ)) (o : Option Held) → IfSome o (λ held. NamesBadLine held (outcome_of words held))
told_line words None = tt
told_line words (Some held) = bad_line_is_named held (names_in words)
