-- What the limits and the search for an order say of entries.
use Rattle.std.proofs.Common.{◌≡◌, ℕ, Option, None, length, ap, sym, ◌∙◌}
use Rattle.std.specs.Option.{option_or}
use Rattle.ut_base.specs.declared.limits.Limit.TheVariants.{Symbols}
use Rattle.kconf_entries.specs.declared.entries.Entries.{Entries}
use Rattle.kconf_tree.specs.declared.limits.Passed.{Passed}
use Rattle.kconf_tree.specs.declared.bad.TreeBad.{TreeBad}
use Rattle.kconf_tree.specs.declared.bad.TreeBad.TheVariants.{TooMany, Recursive, Oom}
use Rattle.kconf_tree.specs.Gathered.{gathered}
use Rattle.kconf_tree.specs.Types.{types_of}
use Rattle.kconf_tree.specs.Limits.{max_symbols, past, each_past, first_passed}
use Rattle.kconf_tree.specs.Orders.{IsRecursive}
use Rattle.kconf_tree.specs.Built.{IsRefused}
use Rattle.kconf_tree.proofs.TreeLaws.{length-symbols}

-- within the limit on symbols
pub passed_later : (e : Entries) (o : Option Passed) (n : ℕ) → o ≡ past Symbols max_symbols n → o ≡ None → n ≡ length (types_of e.configs) → first_passed (gathered e) ≡ each_past (gathered e).choices (gathered e).symbols
passed_later e o n h none count = ap (λ x. option_or x (each_past (gathered e).choices (gathered e).symbols)) (sym (ap (past Symbols max_symbols) (count ∙ sym (length-symbols e.configs))) ∙ (sym h ∙ none))

-- a search without an order, within the limits
pub refused_by : (e : Entries) (bad : TreeBad) → first_passed (gathered e) ≡ None → IsRecursive (gathered e) bad → IsRefused e bad
refused_by e (TooMany what count) p r = absurd r
refused_by e (Recursive cycle) p r = (p, r)
refused_by e Oom p r = tt
