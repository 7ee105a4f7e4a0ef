-- What is kept stands for the lines so far: the entry that is being read ends.
use Rattle.std.proofs.Common.{◌≡◌, ◌∙◌, refl, sym, ap, List, [], ◌∷◌, ◌++◌, arith}
use Rattle.std.proofs.lemmas.List.{append-nil}
use Rattle.kconf_entries.specs.declared.entries.ConfigEntry.{ConfigEntry}
use Rattle.kconf_entries.specs.declared.entries.ChoiceEntry.{ChoiceEntry}
use Rattle.kconf_statements.specs.EntryLines as lines
use Rattle.kconf_statements.specs.EntryLines.{first_type, Entry, At, Before}
use Rattle.kconf_statements.specs.Enclosing.{enclosing}
use Rattle.kconf_statements.specs.Entries as entries
use Rattle.kconf_statements.specs.Entries.{TypeLine, types_of, configs_of, choices_of, choice_count, given_type, number_of_choice}
use Rattle.kconf_progress.specs.declared.open_entries.OpenEntry.{OpenEntry}
use Rattle.kconf_progress.specs.declared.open_entries.OpenEntry.TheVariants as open_entry
use Rattle.kconf_progress.specs.Kept.{Kept, ending, ended_configs, ended_choices}
use Rattle.kconf_progress.specs.Progress.{Holds, Ended, Stands}
use Rattle.kconf_progress.proofs.EntryLaws.{config_same, choice_same}
use Rattle.kconf_progress.proofs.TypeLaws.{types_below, given_none, first_of_none}

-- what does not depend on the entry that is being read stays
holds_ended : (before : Before) (p : Kept) → Holds before p → Holds before (ending p)
holds_ended before p h = record { openers = h.openers; alone = h.alone; counted = h.counted; choice = h.choice; symbols = h.symbols; names = h.names }

-- an entry that is neither a config nor a choice adds nothing
module _ (p : Kept) (configs : List ConfigEntry) (choices : List ChoiceEntry) (c : p.configs ≡ configs) (d : p.choices ≡ choices) where
  nothing_ends : (o : OpenEntry) → p.entry ≡ o → ended_configs p.openers p.choice o ≡ [] → ended_choices p.openers o ≡ []
      → ((ending p).configs ≡ configs ++ []) × ((ending p).choices ≡ choices ++ [])
  nothing_ends o e f g = (
    ap (λ x. x ++ ended_configs p.openers p.choice p.entry) c ∙ ap (λ x. configs ++ ended_configs p.openers p.choice x) e ∙ ap (λ x. configs ++ x) f,
    ap (λ x. x ++ ended_choices p.openers p.entry) d ∙ ap (λ x. choices ++ ended_choices p.openers x) e ∙ ap (λ x. choices ++ x) g,
  )

-- the type of a choice that has just been read is its own
own_type : (before : Before) (l : lines.ChoiceLines) → first_type l.kind (given_type (choice_count before) [] (types_of before ++ [])) ≡ l.kind
own_type before l =
    ap (λ ts. first_type l.kind (given_type (choice_count before) [] ts)) (append-nil (types_of before))
    ∙ ap (first_type l.kind) (given_none (choice_count before) [] (types_of before) (types_below before (choice_count before) (omega arith)))
    ∙ first_of_none l.kind

pub ended : (before : Before) (p : Kept) → Stands before p → Ended before (ending p)
ended [] p h =
    let n = nothing_ends p [] [] h.configs h.choices open_entry.Nothing h.entry refl refl in
    record { holds = holds_ended [] p h.holds; configs = n.0; choices = n.1; entry = refl }
ended (At own Entry.MainMenu ∷ before) p h =
    let n = nothing_ends p _ _ h.configs h.choices open_entry.Nothing h.entry refl refl in
    record { holds = holds_ended _ p h.holds; configs = n.0; choices = n.1; entry = refl }
ended (At own Entry.Comment ∷ before) p h =
    let n = nothing_ends p _ _ h.configs h.choices open_entry.Comment h.entry refl refl in
    record { holds = holds_ended _ p h.holds; configs = n.0; choices = n.1; entry = refl }
ended (At own (Entry.Menu m) ∷ before) p h =
    let n = nothing_ends p _ _ h.configs h.choices open_entry.Menu h.entry refl refl in
    record { holds = holds_ended _ p h.holds; configs = n.0; choices = n.1; entry = refl }
ended (At own (Entry.If e) ∷ before) p h =
    let n = nothing_ends p _ _ h.configs h.choices open_entry.Nothing h.entry refl refl in
    record { holds = holds_ended _ p h.holds; configs = n.0; choices = n.1; entry = refl }
ended (At own (Entry.End what) ∷ before) p h =
    let n = nothing_ends p _ _ h.configs h.choices open_entry.Nothing h.entry refl refl in
    record { holds = holds_ended _ p h.holds; configs = n.0; choices = n.1; entry = refl }
ended (At own (Entry.Source file) ∷ before) p h =
    let n = nothing_ends p _ _ h.configs h.choices open_entry.Nothing h.entry refl refl in
    record { holds = holds_ended _ p h.holds; configs = n.0; choices = n.1; entry = refl }
ended (At own Entry.Sourced ∷ before) p h =
    let n = nothing_ends p _ _ h.configs h.choices open_entry.Nothing h.entry refl refl in
    record { holds = holds_ended _ p h.holds; configs = n.0; choices = n.1; entry = refl }
ended (At own (Entry.Config l) ∷ before) p h =
    let w = h.entry in
    let made =
    config_same p.openers p.choice w.0 l w.2
    ∙ ap (λ os. entries.config_entry os p.choice l) (sym h.holds.openers)
    ∙ ap (λ n. entries.config_entry (enclosing before) n l) h.holds.choice in
    record {
      holds = holds_ended _ p h.holds;
      configs = ap (λ x. x ++ ended_configs p.openers p.choice p.entry) h.configs
          ∙ ap (λ x. configs_of before ++ ended_configs p.openers p.choice x) w.1
          ∙ ap (λ x. configs_of before ++ x ∷ []) made;
      choices = ap (λ x. x ++ ended_choices p.openers p.entry) h.choices
          ∙ ap (λ x. choices_of (types_of (At own (Entry.Config l) ∷ before)) before ++ ended_choices p.openers x) w.1;
      entry = refl;
    }
ended (At own (Entry.Choice l) ∷ before) p h =
    let w = h.entry in
    let ts = types_of before ++ [] in
    let made =
    choice_same p.openers (enclosing before) own w.0 l h.holds.openers w.2
    ∙ ap (λ k. entries.choice_entry (enclosing before) k l) (sym (own_type before l)) in
    record {
      holds = holds_ended _ p h.holds;
      configs = ap (λ x. x ++ ended_configs p.openers p.choice p.entry) h.configs
          ∙ ap (λ x. configs_of before ++ ended_configs p.openers p.choice x) w.1;
      choices = ap (λ x. x ++ ended_choices p.openers p.entry) h.choices
          ∙ ap (λ x. choices_of ts before ++ ended_choices p.openers x) w.1
          ∙ ap (λ x. choices_of ts before ++ x ∷ []) made;
      entry = refl;
    }
