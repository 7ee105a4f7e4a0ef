-- The entries of kept lines are formed, and so are those of every tree that is read.
use Rattle.std.proofs.Common.{ℕ, ◌≡◌, refl, Bool, true, false, ◌&&◌, List, [], ◌∷◌, ◌++◌, drop, map, Option, Result, Ok, Err, IfOk}
use Rattle.std.specs.Prelude.{if◌then◌else◌}
use Rattle.std.specs.List.{AllByRecursion}
use Rattle.std.proofs.lemmas.List.Elements.{All-from_recursion}
use Rattle.ut_text.specs.Bytes.{Bytes}
use Rattle.ut_base.specs.Plans.{plan}
use Rattle.ut_base.specs.Reading.{Reads, Stand}
use Rattle.kconf_entries.specs.declared.entries.Var.{Var}
use Rattle.kconf_entries.specs.declared.entries.Kind.{Kind}
use Rattle.kconf_entries.specs.declared.entries.Kind.TheVariants as kind
use Rattle.kconf_entries.specs.declared.entries.Entries.{Entries}
use Rattle.kconf_entries.specs.declared.entries.DefaultOf.{DefaultOf}
use Rattle.kconf_entries.specs.declared.entries.SelectOf.{SelectOf}
use Rattle.kconf_entries.specs.declared.expr.Expr.{Expr}
use Rattle.kconf_statements.specs.EntryLines.{ConfigLines, ChoiceLines, first_type, Entry, At, Before}
use Rattle.kconf_statements.specs.Enclosing.{Opener, following, enclosing, conditions, visible_conditions}
use Rattle.kconf_statements.specs.Entries.{full, full_default, full_select, config_entry, choice_entry, number_of_choice, choice_count, config_of, configs_of, TypeLine, types_of, type_of, may_be_member, is_logical, is_number, gives_type, given_type, choice_of, choices_of, entries_of}
use Rattle.kconf_texts.specs.declared.bad.KconfBad.{KconfBad}
use Rattle.kconf_texts.specs.Errors.{kconf_errors}
use Rattle.kconf_texts.specs.Texts.{most_sourced, sourced, text_read, tree_plan}
use Rattle.kconf_formed.specs.ReadEntries.{IsFormed, IsFormedDefault, IsFormedSelect, IsFormedConfig, IsFormedChoice, AreFormedEntries}
use Rattle.kconf_formed.proofs.JoinedLaws.{IsOwn, AreOwn, joined_is_formed, own_is_formed}
use Rattle.kconf_formed.proofs.RestKeeps.{IsOwnSelect, IsOwnDefault}
use Rattle.kconf_formed.proofs.SaidKeeps.{KeptConfig, KeptChoice, KeptEntry, AreKept, first_kept}
use Rattle.kconf_formed.proofs.PlansKeep.{EachValue, each_then, value_has, text_keeps, sourced_keeps}

onto : {A : Type 0} (P : A → Type 0) (xs ys : List A) → AllByRecursion P xs → AllByRecursion P ys → AllByRecursion P (xs ++ ys)
onto P [] ys h g = g
onto P (x ∷ xs) ys h g = (h.0, onto P xs ys h.1 g)

-- ---- the conditions of the lines that enclose a line
record KeptOpener (o : Opener) : Type 0 where
  depends : AreOwn o.depends
  visible : AreOwn o.visible

abbrev KeptOpeners : List Opener → Type 0
KeptOpeners os = AllByRecursion KeptOpener os

without_first : (os : List Opener) → KeptOpeners os → KeptOpeners (drop 1 os)
without_first [] h = tt
without_first (o ∷ os) h = h.1

following_kept : (n : ℕ) (e : Entry) (os : List Opener) → KeptEntry e → KeptOpeners os → KeptOpeners (following n e os)
following_kept n Entry.MainMenu os h g = g
following_kept n Entry.Comment os h g = g
following_kept n (Entry.Menu m) os h g = (record { depends = h.depends; visible = h.visible }, g)
following_kept n (Entry.Config c) os h g = g
following_kept n (Entry.Choice c) os h g = (record { depends = h.depends; visible = tt }, g)
following_kept n (Entry.If e) os h g = (record { depends = (h, tt); visible = tt }, g)
following_kept n (Entry.End what) os h g = without_first os g
following_kept n (Entry.Source file) os h g = (record { depends = tt; visible = tt }, g)
following_kept n Entry.Sourced os h g = without_first os g

enclosing_kept : (before : Before) → AreKept before → KeptOpeners (enclosing before)
enclosing_kept [] h = tt
enclosing_kept (At n e ∷ before) h = following_kept n e (enclosing before) h.0 (enclosing_kept before h.1)

conditions_own : (os : List Opener) → KeptOpeners os → AreOwn (conditions os)
conditions_own [] h = tt
conditions_own (o ∷ os) h = let top = h.0 in onto IsOwn (conditions os) o.depends (conditions_own os h.1) top.depends

visible_own : (os : List Opener) → KeptOpeners os → AreOwn (visible_conditions os)
visible_own [] h = tt
visible_own (o ∷ os) h = let top = h.0 in onto IsOwn (visible_conditions os) o.visible (visible_own os h.1) top.visible

-- ---- full conditions
full_formed : (place : List Expr) (own : Expr) → AreOwn place → IsOwn own → IsFormed (full place own)
full_formed place own h g = joined_is_formed (own ∷ place) (g, h)

prompts_formed : (place : List Expr) (es : List Expr) → AreOwn place → AreOwn es → AllByRecursion IsFormed (map (full place) es)
prompts_formed place [] h g = tt
prompts_formed place (e ∷ es) h g = (full_formed place e h g.0, prompts_formed place es h g.1)

defaults_formed : (place : List Expr) (ds : List DefaultOf) → AreOwn place → AllByRecursion IsOwnDefault ds → AllByRecursion IsFormedDefault (map (full_default place) ds)
defaults_formed place [] h g = tt
defaults_formed place (d ∷ ds) h g =
    let top = g.0 in (record { value = own_is_formed d.value top.value; cond = full_formed place d.cond h top.cond }, defaults_formed place ds h g.1)

selects_formed : (place : List Expr) (ss : List SelectOf) → AreOwn place → AllByRecursion IsOwnSelect ss → AllByRecursion IsFormedSelect (map (full_select place) ss)
selects_formed place [] h g = tt
selects_formed place (s ∷ ss) h g = let top = g.0 in (record { target = top.target; cond = full_formed place s.cond h top.cond }, selects_formed place ss h g.1)

config_formed : (os : List Opener) (number : Option ℕ) (c : ConfigLines) → KeptOpeners os → KeptConfig c → IsFormedConfig (config_entry os number c)
config_formed os number c h g = record {
  name = g.name;
  depends = joined_is_formed place own;
  prompts = All-from_recursion IsFormed (map (full (place ++ visible_conditions os)) c.prompts)
      (prompts_formed (place ++ visible_conditions os) c.prompts (onto IsOwn place (visible_conditions os) own (visible_own os h)) g.prompts);
  defaults = All-from_recursion IsFormedDefault (map (full_default place) c.defaults) (defaults_formed place c.defaults own g.defaults);
  selects = All-from_recursion IsFormedSelect (map (full_select place) c.selects) (selects_formed place c.selects own g.selects);
  implies = All-from_recursion IsFormedSelect (map (full_select place) c.implies) (selects_formed place c.implies own g.implies);
}
  where
    place : List Expr
    place = conditions os ++ c.depends

    own : AreOwn (conditions os ++ c.depends)
    own = onto IsOwn (conditions os) c.depends (conditions_own os h) g.depends

choice_formed : (os : List Opener) (k : Kind) (c : ChoiceLines) → KeptOpeners os → KeptChoice c → may_be_member k ≡ true → IsFormedChoice (choice_entry os k c)
choice_formed os k c h g may =
    let own : AreOwn (conditions os ++ c.depends) = onto IsOwn (conditions os) c.depends (conditions_own os h) g.depends in
    record {
      kind = may;
      prompts = All-from_recursion IsFormed (map (full ((conditions os ++ c.depends) ++ visible_conditions os)) c.prompts)
          (prompts_formed ((conditions os ++ c.depends) ++ visible_conditions os) c.prompts (onto IsOwn (conditions os ++ c.depends) (visible_conditions os) own (visible_own os h)) g.prompts);
      defaults = All-from_recursion IsFormedSelect (map (full_select (conditions os ++ c.depends)) c.defaults) (selects_formed (conditions os ++ c.depends) c.defaults own g.defaults);
    }

-- ---- the type that a choice gets
logical_may : (k : Kind) (b c : Bool) → (b && (is_logical k && c)) ≡ true → may_be_member k ≡ true
logical_may kind.Bool b c h = refl
logical_may kind.Tristate b c h = refl
logical_may kind.Untyped b c h = refl
logical_may kind.Str true c h = h
logical_may kind.Str false c h = h
logical_may kind.Hex true c h = h
logical_may kind.Hex false c h = h
logical_may kind.Int true c h = h
logical_may kind.Int false c h = h

given_may : (n : ℕ) (earlier ts : List TypeLine) → may_be_member (given_type n earlier ts) ≡ true
given_may n earlier [] = refl
given_may n earlier (t ∷ ts) = by (gives_type n earlier t) (λ h. logical_may t.kind (is_number n t.choice) (may_be_member (type_of earlier t.name)) h) (given_may n (earlier ++ t ∷ []) ts)
  where
    by : (b : Bool) → (b ≡ true → may_be_member t.kind ≡ true) → may_be_member (given_type n (earlier ++ t ∷ []) ts) ≡ true → may_be_member (if b then t.kind else given_type n (earlier ++ t ∷ []) ts) ≡ true
    by true h g = h refl
    by false h g = g

-- ---- all entries
config_of_formed : (before : Before) (e : Entry) → AreKept before → KeptEntry e → AllByRecursion IsFormedConfig (config_of before e)
config_of_formed before Entry.MainMenu h g = tt
config_of_formed before Entry.Comment h g = tt
config_of_formed before (Entry.Menu m) h g = tt
config_of_formed before (Entry.Config c) h g = (config_formed (enclosing before) (number_of_choice before) c (enclosing_kept before h) g, tt)
config_of_formed before (Entry.Choice c) h g = tt
config_of_formed before (Entry.If e) h g = tt
config_of_formed before (Entry.End what) h g = tt
config_of_formed before (Entry.Source file) h g = tt
config_of_formed before Entry.Sourced h g = tt

configs_formed : (before : Before) → AreKept before → AllByRecursion IsFormedConfig (configs_of before)
configs_formed [] h = tt
configs_formed (At n e ∷ before) h = onto IsFormedConfig (configs_of before) (config_of before e) (configs_formed before h.1) (config_of_formed before e h.1 h.0)

choice_of_formed : (types : List TypeLine) (before : Before) (e : Entry) → AreKept before → KeptEntry e → AllByRecursion IsFormedChoice (choice_of types before e)
choice_of_formed types before Entry.MainMenu h g = tt
choice_of_formed types before Entry.Comment h g = tt
choice_of_formed types before (Entry.Menu m) h g = tt
choice_of_formed types before (Entry.Config c) h g = tt
choice_of_formed types before (Entry.Choice c) h g = (
  choice_formed (enclosing before) (first_type c.kind (given_type (choice_count before) [] types)) c (enclosing_kept before h) g
      (first_kept c.kind (given_type (choice_count before) [] types) g.kind (given_may (choice_count before) [] types)),
  tt,
)
choice_of_formed types before (Entry.If e) h g = tt
choice_of_formed types before (Entry.End what) h g = tt
choice_of_formed types before (Entry.Source file) h g = tt
choice_of_formed types before Entry.Sourced h g = tt

choices_formed : (types : List TypeLine) (before : Before) → AreKept before → AllByRecursion IsFormedChoice (choices_of types before)
choices_formed types [] h = tt
choices_formed types (At n e ∷ before) h = onto IsFormedChoice (choices_of types before) (choice_of types before e) (choices_formed types before h.1) (choice_of_formed types before e h.1 h.0)

entries_formed : (before : Before) → AreKept before → AreFormedEntries (entries_of before)
entries_formed before h = record {
  configs = All-from_recursion IsFormedConfig (configs_of before) (configs_formed before h);
  choices = All-from_recursion IsFormedChoice (choices_of (types_of before) before) (choices_formed (types_of before) before h);
}

-- ---- reading a tree
tree_has : (vars : List Var) (root : Bytes) → EachValue AreFormedEntries (tree_plan vars root)
tree_has vars root = λ bytes. each_then AreKept AreFormedEntries (text_read vars root (sourced vars root most_sourced) root [] bytes) _
    (text_keeps vars root (sourced vars root most_sourced) (sourced_keeps vars root most_sourced) root [] bytes tt) (λ before h. entries_formed before h)

pub read_entries_formed : (vars : List Var) (root : Bytes) (old new : Stand) (used now : ℕ) (read : Result Entries KconfBad)
    → Reads (plan kconf_errors (tree_plan vars root)) old new used now read → IfOk read AreFormedEntries
read_entries_formed vars root old new used now (Err e) h = tt
read_entries_formed vars root old new used now (Ok entries) h = value_has kconf_errors AreFormedEntries (tree_plan vars root) (Ok entries) used now h.came h.follows (tree_has vars root)
