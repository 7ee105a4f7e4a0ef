-- The root text and the texts that it sources make the tree.
use Rattle.std.proofs.Common.{ℕ, ◌≡◌, ◌∙◌, refl, sym, ap, subst, [], List, Result, Ok, Err}
use Rattle.std.specs.Prelude.{◌<◌, ◌^◌, length, All, IfSome}
use Rattle.kconf_entries.specs.declared.entries.ConfigEntry.{ConfigEntry}
use Rattle.ut_text.specs.Bytes.{Bytes}
use Rattle.ut_base.specs.Plans.{Plan, Gives, Takes, plan}
use Rattle.ut_base.specs.Reading.{Stand, Reads}
use Rattle.ut_base.proofs.PlanLaws.{lacks_plan, reads_joined}
use Rattle.ut_base.proofs.ReadingLaws.{reads_then, reads_err, reads_ok, reads_memory}
use Rattle.kconf_entries.specs.declared.entries.Entries.{Entries}
use Rattle.kconf_entries.specs.declared.entries.Var.{Var}
use Rattle.kconf_statements.specs.EntryLines.{Before}
use Rattle.kconf_statements.specs.Entries.{entries_of}
use Rattle.kconf_statements.proofs.FormedLaws.{choices_there}
use Rattle.kconf_progress.specs.Kept.{Kept}
use Rattle.kconf_progress.specs.Progress.{Stands}
use Rattle.kconf_texts.specs.declared.bad.KconfBad.{KconfBad}
use Rattle.kconf_texts.specs.declared.bad.KconfBad.TheVariants as refusal
use Rattle.kconf_texts.specs.Errors.{kconf_errors}
use Rattle.kconf_texts.specs.Formed.{AreFormed}
use Rattle.kconf_texts.specs.Texts.{most_sourced, text_read, sourced, tree_plan}
use Rattle.kconf_parse.specs.Reading.{Ends, ReadsText}

module _ (vars : List Var) (root : Bytes) where
  abbrev root_text : Plan Before KconfBad
  root_text = Takes root (text_read vars root (sourced vars root most_sourced) root [])

  abbrev given : Before → Plan Entries KconfBad
  given before = Gives (entries_of before)

  abbrev Tree : Stand → Stand → ℕ → ℕ → Result Entries KconfBad → Type 0
  Tree start there used m r = Reads (plan kconf_errors (tree_plan vars root)) start there used m r

  -- there is no memory before the first read
  pub no_start : {start : Stand} {used : ℕ} (r : Result Entries KconfBad) → r ≡ Err refusal.Oom → Tree start start used used r
  no_start {start = start} {used = used} r is = subst (Tree start start used used) (sym is) (reads_memory {errors = kconf_errors} (lacks_plan {errors = kconf_errors} (tree_plan vars root)))

  -- the texts were read, and what is kept stands for them
  pub record Came (start there : Stand) (used m : ℕ) (p : Kept) : Type 0 where
    pub before : Before
    pub stands : Stands before p
    pub reads : Reads (plan kconf_errors root_text) start there used m (Ok before)

  module _ {A : Type 0} {start there : Stand} {used m : ℕ} {p : Kept} where
    -- a text is refused
    pub tree_refused : (e : KconfBad) (r : Result Entries KconfBad) → ReadsText {A = A} vars root most_sourced root [] start there used m (Err e) p → r ≡ Err e → Tree start there used m r
    tree_refused e r g is = by g.0 g.1 g.2
      where
        by : (x : Result Before KconfBad) → Reads (plan kconf_errors root_text) start there used m x → Ends {A = A} x (Err e) p → Tree start there used m r
        by (Ok b) k z = absurd z
        by (Err d) k z = subst (Tree start there used m) (ap Err z ∙ sym is) (reads_joined kconf_errors given root_text (reads_err k))

    -- or they were read
    pub tree_came : (x : A) → ReadsText {A = A} vars root most_sourced root [] start there used m (Ok x) p → Came start there used m p
    tree_came x g = by g.0 g.1 g.2
      where
        by : (y : Result Before KconfBad) → Reads (plan kconf_errors root_text) start there used m y → Ends {A = A} y (Ok x) p → Came start there used m p
        by (Ok b) k z = record { before = b; stands = z.0; reads = k }
        by (Err d) k z = absurd z

  module _ {start there : Stand} {used m : ℕ} {p : Kept} where
    -- there is no memory for their entries
    pub no_entries : (r : Result Entries KconfBad) → Came start there used m p → r ≡ Err refusal.Oom → Tree start there used m r
    no_entries r c is = subst (Tree start there used m) (sym is)
        (reads_joined kconf_errors given root_text (reads_then c.reads (reads_memory {errors = kconf_errors} (lacks_plan {errors = kconf_errors} (given c.before)))))

    -- these are their entries
    pub tree_read : (e : Entries) → Came start there used m p → ((before : Before) → Stands before p → e ≡ entries_of before) → Tree start there used m (Ok e)
    tree_read e c is = subst (λ k. Tree start there used m (Ok k)) (sym (is c.before c.stands))
        (reads_joined kconf_errors given root_text (reads_then c.reads (reads_ok {errors = kconf_errors} refl)))

    pub tree_formed : (e : Entries) → Came start there used m p → ((before : Before) → Stands before p → e ≡ entries_of before) → length e.choices < 2 ^ 32 → AreFormed e
    tree_formed e c is few = record {
      named = subst (λ k. All (λ (f : ConfigEntry). IfSome f.choice (λ n. n < length k.choices)) k.configs) (sym (is c.before c.stands)) (choices_there c.before);
      numbered = few;
    }
