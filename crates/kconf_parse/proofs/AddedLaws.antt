-- What a line adds to the lines before it, and what follows it.
use Rattle.std.proofs.Common.{ℕ, ◌≡◌, ◌∙◌, refl, sym, ap, subst, ◌<◌, arith, length, Bool, false, List, [], ◌∷◌, Option, Some, None, Result, Ok, Err}
use Rattle.ut_text.specs.Bytes.{Bytes}
use Rattle.kconf_words.specs.declared.line_words.LineWord.{LineWord}
use Rattle.kconf_words.specs.declared.line_bad.LineBad.{LineBad}
use Rattle.kconf_words.specs.declared.line_bad.LineBad.TheVariants as bad
use Rattle.kconf_words.specs.Faults.{Fails}
use Rattle.kconf_statements.specs.declared.lines.EntryLine.{EntryLine}
use Rattle.kconf_statements.specs.declared.lines.EntryLine.TheVariants as line
use Rattle.kconf_statements.specs.declared.lines.ConfigLine.{ConfigLine}
use Rattle.kconf_statements.specs.declared.lines.ChoiceLine.{ChoiceLine}
use Rattle.kconf_statements.specs.declared.lines.MenuLine.{MenuLine}
use Rattle.kconf_statements.specs.declared.lines.Says.{Says}
use Rattle.kconf_statements.specs.declared.lines.Says.TheVariants as says
use Rattle.kconf_statements.specs.EntryLines.{config_with, choice_with, menu_with, Entry, At, Before}
use Rattle.kconf_statements.specs.Statements.{said}
use Rattle.kconf_statements.specs.Standing.{begun, unless, first_refusal, refusals}
use Rattle.kconf_statements.specs.Says.{owner_of, entry_of, with_config, with_choice, with_menu, applied, IsOf}
use Rattle.kconf_progress.specs.Kept.{Kept, file_of, file_in}
use Rattle.kconf_progress.specs.Progress.{Stands, Steps}
use Rattle.ut_base.specs.Plans.{Gives}
use Rattle.kconf_entries.specs.declared.entries.Var.{Var}
use Rattle.kconf_cut.specs.Words.{words_of}
use Rattle.kconf_texts.specs.Texts.{is_help, Reading, Sourcing, with_text, unless_refused, words_read}
use Rattle.kconf_parse.specs.declared.line.Follows.{Follows}
use Rattle.kconf_parse.specs.Reading.{followed, begins_help, Adds, AddsWords, ReadsLine}

-- what is not refused is the value
unless_ok : (o : Option LineBad) (x b : Before) → unless o x ≡ Ok b → x ≡ b
unless_ok None x b h = cc
unless_ok (Some e) x b h = absurd cc

begun_ok : (n : ℕ) (before b : Before) (e : Entry) → begun n before e ≡ Ok b → At n e ∷ before ≡ b
begun_ok n before b e h = unless_ok (first_refusal (refusals before e)) (At n e ∷ before) b h

ok_same : (x b : Before) → ◌≡◌ {A = Result Before LineBad} (Ok x) (Ok b) → x ≡ b
ok_same x b h = cc

module _ (sourcing : Sourcing) (file : Bytes) (n : ℕ) where
  -- what comes of a line, by what is known of it
  passes : (x b : Before) → ◌≡◌ {A = Result Before LineBad} (Ok x) (Ok b) → with_text sourcing file n x ≡ Gives x → with_text sourcing file n b ≡ Gives b
  passes x b h g = subst (λ k. with_text sourcing file n k ≡ Gives k) (ok_same x b h) g

  -- only after a `source` line the lines of a text follow
  entry_text : (before : Before) (e : EntryLine) → with_text sourcing file n (At n (entry_of e) ∷ before) ≡ followed sourcing file n (At n (entry_of e) ∷ before) (file_of e)
  entry_text before line.MainMenu = refl
  entry_text before line.Comment = refl
  entry_text before line.Menu = refl
  entry_text before (line.Config name) = refl
  entry_text before (line.Choice name) = refl
  entry_text before (line.If x) = refl
  entry_text before (line.End what) = refl
  entry_text before (line.Source target) = refl

  config_text : (before b : Before) (a : ConfigLine) → with_config a before ≡ Ok b → with_text sourcing file n b ≡ Gives b
  config_text [] b a h = absurd cc
  config_text (At own (Entry.Config c) ∷ before) b a h = passes (At own (Entry.Config (config_with c a)) ∷ before) b h refl
  config_text (At own e ∷ before) b a h = absurd cc

  choice_text : (before b : Before) (a : ChoiceLine) → with_choice a before ≡ Ok b → with_text sourcing file n b ≡ Gives b
  choice_text [] b a h = absurd cc
  choice_text (At own (Entry.Choice c) ∷ before) b a h = passes (At own (Entry.Choice (choice_with c a)) ∷ before) b h refl
  choice_text (At own e ∷ before) b a h = absurd cc

  menu_text : (before b : Before) (a : MenuLine) → with_menu a before ≡ Ok b → with_text sourcing file n b ≡ Gives b
  menu_text [] b a h = absurd cc
  menu_text (At own (Entry.Menu m) ∷ before) b a h = passes (At own (Entry.Menu (menu_with m a)) ∷ before) b h refl
  menu_text (At own e ∷ before) b a h = absurd cc

  comment_text : (before b : Before) → IsOf (owner_of before) says.OfComment → ◌≡◌ {A = Result Before LineBad} (Ok before) (Ok b) → with_text sourcing file n b ≡ Gives b
  comment_text [] b f h = absurd cc
  comment_text (At own Entry.Comment ∷ before) b f h = passes (At own Entry.Comment ∷ before) b h refl
  comment_text (At own e ∷ before) b f h = absurd cc

  text_after : (before b : Before) (s : Says) → IsOf (owner_of before) s → applied n before s ≡ Ok b → with_text sourcing file n b ≡ followed sourcing file n b (file_in s)
  text_after before b (says.Entry e) f h =
      subst (λ k. with_text sourcing file n k ≡ followed sourcing file n k (file_of e)) (begun_ok n before b (entry_of e) h) (entry_text before e)
  text_after before b (says.OfConfig a) f h = config_text before b a h
  text_after before b (says.OfChoice a) f h = choice_text before b a h
  text_after before b (says.OfMenu a) f h = menu_text before b a h
  text_after before b says.OfComment f h = comment_text before b f h

module _ (root : Bytes) (n : ℕ) (before : Before) where
  -- a line without words adds nothing
  pub nothing_added : (ws : List LineWord) (p : Kept) (f : Follows) → length ws ≡ 0 → Stands before p → f.text ≡ None → f.is_help ≡ false → AddsWords root n before ws (Ok f) p
  nothing_added [] p f e s t h = (before, λ sourcing file. ap (followed sourcing file n before) (sym t), s, h)
  nothing_added (w ∷ ws) p f e s t h = absurd (let z : length (w ∷ ws) ≡ 0 = e in omega (arith, z))

  module _ (ws : List LineWord) (some : 0 < length ws) where
    -- what words say is read where there are words
    read_as : (sourcing : Sourcing) (file : Bytes) → words_read [] root sourcing file n before (Ok ws) ≡ unless_refused sourcing file n (said root n before ws)
    read_as sourcing file = by ws some
      where
        by : (vs : List LineWord) → 0 < length vs → words_read [] root sourcing file n before (Ok vs) ≡ unless_refused sourcing file n (said root n before vs)
        by [] h = absurd (omega (arith, h))
        by (v ∷ vs) h = refl

    -- what a line says is added
    pub words_added : (s : Says) (f : Follows) (p : Kept) → said root n before ws ≡ applied n before s → IsOf (owner_of before) s → Steps (applied n before s) (Ok f.text) p
        → f.text ≡ file_in s → f.is_help ≡ begins_help ws → AddsWords root n before ws (Ok f) p
    words_added s f p is fits st t h = (
      st.0,
      λ sourcing file. read_as sourcing file ∙ ap (unless_refused sourcing file n) (is ∙ st.1) ∙ text_after sourcing file n before st.0 s fits st.1 ∙ ap (followed sourcing file n st.0) (sym t),
      st.2,
      h,
    )

    -- or it is refused
    pub words_refused : (e : LineBad) (p : Kept) → Fails e (said root n before ws) → AddsWords root n before ws (Err e) p
    words_refused (bad.Syntax k) p h = λ sourcing file. read_as sourcing file ∙ ap (unless_refused sourcing file n) h
    words_refused bad.Macro p h = λ sourcing file. read_as sourcing file ∙ ap (unless_refused sourcing file n) h
    words_refused (bad.Depth w) p h = λ sourcing file. read_as sourcing file ∙ ap (unless_refused sourcing file n) h
    words_refused bad.Oom p h = tt

-- ---- a line of a text
module _ (root : Bytes) (n : ℕ) (before : Before) where
  -- the values of macros are put in already
  words_same : (vars : List Var) (ws : List LineWord) (sourcing : Sourcing) (file : Bytes)
      → words_read vars root sourcing file n before (Ok ws) ≡ words_read [] root sourcing file n before (Ok ws)
  words_same vars [] sourcing file = refl
  words_same vars (w ∷ ws) sourcing file = refl

  help_same : (ws : List LineWord) → begins_help ws ≡ is_help (Ok ws)
  help_same [] = refl
  help_same (w ∷ ws) = refl

  adds_as : (old new : Sourcing → Bytes → Reading) (h k : Bool) (r : Result Follows LineBad) (p : Kept) → ((sourcing : Sourcing) (file : Bytes) → new sourcing file ≡ old sourcing file) → h ≡ k
      → Adds old n h r p → Adds new n k r p
  adds_as old new h k (Ok f) p same is a = (a.0, λ sourcing file. same sourcing file ∙ a.1 sourcing file, a.2, a.3 ∙ is)
  adds_as old new h k (Err (bad.Syntax e)) p same is a = λ sourcing file. same sourcing file ∙ a sourcing file
  adds_as old new h k (Err bad.Macro) p same is a = λ sourcing file. same sourcing file ∙ a sourcing file
  adds_as old new h k (Err (bad.Depth w)) p same is a = λ sourcing file. same sourcing file ∙ a sourcing file
  adds_as old new h k (Err bad.Oom) p same is a = tt

  module _ (vars : List Var) (text : Bytes) where
    -- its words were cut off
    pub line_read : (ws : List LineWord) (r : Result Follows LineBad) (p : Kept) → words_of vars text ≡ Ok ws → AddsWords root n before ws r p → ReadsLine vars root n before text r p
    line_read ws r p is a =
        adds_as (λ sourcing file. words_read [] root sourcing file n before (Ok ws)) (λ sourcing file. words_read vars root sourcing file n before (words_of vars text)) (begins_help ws)
        (is_help (words_of vars text)) r p (λ sourcing file. ap (words_read vars root sourcing file n before) is ∙ words_same vars ws sourcing file) (help_same ws ∙ ap is_help (sym is)) a

    -- or they were not
    pub line_bad : (e : LineBad) (p : Kept) → Fails e (words_of vars text) → ReadsLine vars root n before text (Err e) p
    line_bad (bad.Syntax k) p h = λ sourcing file. ap (words_read vars root sourcing file n before) h
    line_bad bad.Macro p h = λ sourcing file. ap (words_read vars root sourcing file n before) h
    line_bad (bad.Depth w) p h = λ sourcing file. ap (words_read vars root sourcing file n before) h
    line_bad bad.Oom p h = tt
