-- What a line says, added to what is kept, agrees with the definition.
use Rattle.std.proofs.Common.{ℕ, ◌≡◌, ◌∙◌, refl, sym, ap, subst, [], ◌∷◌, None, Result}
use Rattle.kconf_entries.specs.declared.entries.Entries.{Entries}
use Rattle.kconf_words.specs.declared.line_bad.LineBad.{LineBad}
use Rattle.kconf_statements.specs.declared.lines.EntryLine.{EntryLine}
use Rattle.kconf_statements.specs.declared.lines.EntryLine.TheVariants as line
use Rattle.kconf_statements.specs.declared.lines.Says.{Says}
use Rattle.kconf_statements.specs.declared.lines.Says.TheVariants as says
use Rattle.kconf_statements.specs.EntryLines.{Entry, At, Before}
use Rattle.kconf_statements.specs.Enclosing as enclosing
use Rattle.kconf_statements.specs.Entries.{entries_of}
use Rattle.kconf_statements.specs.Standing.{begun}
use Rattle.kconf_statements.specs.Says.{owner_of, entry_of, applied, IsOf}
use Rattle.kconf_progress.specs.OpenEntries as entries
use Rattle.kconf_progress.specs.Openers.{unclosed}
use Rattle.kconf_progress.specs.Kept.{Kept, at_start, ending, sourced, entry_line, step, Leads}
use Rattle.kconf_progress.specs.Progress.{Holds, Stands, Steps}
use Rattle.kconf_progress.proofs.OpenerLaws.{unclosed_is}
use Rattle.kconf_progress.proofs.AgreeLaws.{Agree, agreed}
use Rattle.kconf_progress.proofs.StandLaws.{ended}
use Rattle.kconf_progress.proofs.StepLaws.{comment_agrees, main_menu_agrees, menu_agrees, if_agrees, source_agrees, end_agrees, sourced_stands}
use Rattle.kconf_progress.proofs.BeginLaws.{config_agrees, choice_agrees}
use Rattle.kconf_progress.proofs.ConfigLaws.{config_stands}
use Rattle.kconf_progress.proofs.ChoiceLaws.{choice_stands, menu_stands}

entry_agrees : (before : Before) (p : Kept) (n : ℕ) (e : EntryLine) → Stands before p → Agree (entry_line p n e) (begun n before (entry_of e))
entry_agrees before p n line.MainMenu s = main_menu_agrees before p n s
entry_agrees before p n line.Comment s = comment_agrees before p n s
entry_agrees before p n line.Menu s = menu_agrees before p n s
entry_agrees before p n (line.Config name) s = config_agrees before p n name s
entry_agrees before p n (line.Choice name) s = choice_agrees before p n name s
entry_agrees before p n (line.If x) s = if_agrees before p n s x
entry_agrees before p n (line.End what) s = end_agrees before p n s what
entry_agrees before p n (line.Source file) s = source_agrees before p n s file

step_agrees : (before : Before) (p : Kept) (n : ℕ) (a : Says) → Stands before p → IsOf (owner_of before) a → Agree (step p n a) (applied n before a)
step_agrees before p n (says.Entry e) s f = entry_agrees before p n e s
step_agrees [] p n (says.OfConfig a) s f = cc
step_agrees (At own (Entry.Config l) ∷ before) p n (says.OfConfig a) s f = config_stands own l before p a s
step_agrees (At own e ∷ before) p n (says.OfConfig a) s f = cc
step_agrees [] p n (says.OfChoice a) s f = cc
step_agrees (At own (Entry.Choice l) ∷ before) p n (says.OfChoice a) s f = choice_stands own l before p s a
step_agrees (At own e ∷ before) p n (says.OfChoice a) s f = cc
step_agrees [] p n (says.OfMenu a) s f = cc
step_agrees (At own (Entry.Menu m) ∷ before) p n (says.OfMenu a) s f = menu_stands own m before p a s
step_agrees (At own e ∷ before) p n (says.OfMenu a) s f = cc
step_agrees before p n says.OfComment s f = s

-- so a line leads to what the definition says, or has its fault
pub added : {A : Type 0} (before : Before) (p new : Kept) (n : ℕ) (a : Says) (r : Result A LineBad) → Stands before p → IsOf (owner_of before) a → Leads r new (step p n a)
    → Steps (applied n before a) r new
added before p new n a r s f h = agreed (step p n a) (applied n before a) r new (step_agrees before p n a s f) h

-- ---- what is asked of it
pub holds : (before : Before) (p : Kept) → Stands before p → Holds before p
holds [] p s = s.holds
holds (At own e ∷ before) p s = s.holds

pub owner_is : (before : Before) (p : Kept) → Stands before p → entries.owner_of p.entry ≡ owner_of before
owner_is [] p s = ap entries.owner_of s.entry
owner_is (At own Entry.MainMenu ∷ before) p s = ap entries.owner_of s.entry
owner_is (At own Entry.Comment ∷ before) p s = ap entries.owner_of s.entry
owner_is (At own (Entry.Menu m) ∷ before) p s = ap entries.owner_of s.entry
owner_is (At own (Entry.Config c) ∷ before) p s = ap entries.owner_of s.entry.1
owner_is (At own (Entry.Choice c) ∷ before) p s = ap entries.owner_of s.entry.1
owner_is (At own (Entry.If x) ∷ before) p s = ap entries.owner_of s.entry
owner_is (At own (Entry.End what) ∷ before) p s = ap entries.owner_of s.entry
owner_is (At own (Entry.Source file) ∷ before) p s = ap entries.owner_of s.entry
owner_is (At own Entry.Sourced ∷ before) p s = ap entries.owner_of s.entry

pub unclosed_stands : (before : Before) (p : Kept) → Stands before p → unclosed p.openers ≡ enclosing.unclosed (enclosing.enclosing before)
unclosed_stands before p s = unclosed_is p.openers ∙ sym (ap enclosing.unclosed (holds before p s).openers)

-- at the start no line has been read
pub starts : Stands [] at_start
starts = record {
  holds = record { openers = refl; alone = tt; counted = refl; choice = refl; symbols = λ name. refl; names = λ name. refl };
  configs = refl;
  choices = refl;
  entry = refl;
}

-- at the end the entries are those of all lines
pub finished : (before : Before) (p last : Kept) (e : Entries) → Stands before p → last ≡ ending p → e.configs ≡ last.configs → e.choices ≡ last.choices → e ≡ entries_of before
finished before p last e s same c d =
    let x = ended before p s in
    let configs = c ∙ ap (λ k. k.configs) same ∙ x.configs in
    let choices = d ∙ ap (λ k. k.choices) same ∙ x.choices in
    rw (sym configs, sym choices) refl

-- the lines of a sourced text end
pub sourced_ended : (before : Before) (p new : Kept) (n : ℕ) → Stands before p → enclosing.unclosed (enclosing.enclosing before) ≡ None → new ≡ sourced p
    → Stands (At n Entry.Sourced ∷ before) new
sourced_ended before p new n s h same = subst (λ k. Stands (At n Entry.Sourced ∷ before) k) (sym same) (sourced_stands before p n s h)
