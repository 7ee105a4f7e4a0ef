-- What each line says keeps the conditions of lines as the grammar has them, and the types of choices as choices may have.
use Rattle.std.proofs.Common.{ℕ, ◌≡◌, refl, true, List, [], ◌∷◌, ◌++◌, Option, None, Some, Ok}
use Rattle.std.specs.Prelude.{option_to_list}
use Rattle.std.specs.List.{AllByRecursion}
use Rattle.ut_text.specs.Bytes.{Bytes}
use Rattle.kconf_entries.specs.declared.entries.Kind.{Kind}
use Rattle.kconf_entries.specs.declared.entries.Kind.TheVariants as kind
use Rattle.kconf_entries.specs.declared.expr.Expr.{Expr}
use Rattle.kconf_words.specs.declared.line_words.LineWord.{LineWord}
use Rattle.kconf_words.specs.declared.line_bad.SyntaxKind.TheVariants as fault
use Rattle.kconf_words.specs.declared.line_bad.LineBad.{LineBad}
use Rattle.kconf_rests.specs.Rests.{Rest, wanted, nothing, a_text, a_name, a_name_or_nothing, a_path, an_expression, a_prompt, a_prompt_or_none, a_target, a_value, two_words, anything}
use Rattle.kconf_statements.specs.declared.lines.ConfigLine.{ConfigLine}
use Rattle.kconf_statements.specs.declared.lines.ConfigLine.TheVariants as config
use Rattle.kconf_statements.specs.declared.lines.ChoiceLine.{ChoiceLine}
use Rattle.kconf_statements.specs.declared.lines.ChoiceLine.TheVariants as choice
use Rattle.kconf_statements.specs.declared.lines.MenuLine.{MenuLine}
use Rattle.kconf_statements.specs.declared.lines.MenuLine.TheVariants as menu
use Rattle.kconf_statements.specs.EntryLines.{ConfigLines, ChoiceLines, MenuLines, new_config, new_choice, new_menu, first_type, config_with, choice_with, menu_with, Entry, At, Before}
use Rattle.kconf_statements.specs.Entries.{may_be_member}
use Rattle.kconf_statements.specs.Standing.{begun, refusals, first_refusal, unless}
use Rattle.kconf_statements.specs.Statements.{Place, ◌gives◌, an_entry, of_config, of_choice, of_menu, of_comment, first_of, ◌or◌, Row, attributes, entry_rows, statements, words_after, or_in, row_of, said}
use Rattle.kconf_formed.proofs.JoinedLaws.{IsOwn, AreOwn}
use Rattle.kconf_formed.proofs.RestKeeps.{OkHas, SomeHas, then_has, any_then, wanted_has, IsOwnSelect, IsOwnDefault, IsNameText, a_name_is, expression_own, prompt_own, prompt_or_none_own, target_own, value_own}

-- ---- entries
pub record KeptConfig (c : ConfigLines) : Type 0 where
  pub name : IsNameText c.name
  pub depends : AreOwn c.depends
  pub prompts : AreOwn c.prompts
  pub defaults : AllByRecursion IsOwnDefault c.defaults
  pub selects : AllByRecursion IsOwnSelect c.selects
  pub implies : AllByRecursion IsOwnSelect c.implies

pub record KeptChoice (c : ChoiceLines) : Type 0 where
  pub kind : may_be_member c.kind ≡ true
  pub depends : AreOwn c.depends
  pub prompts : AreOwn c.prompts
  pub defaults : AllByRecursion IsOwnSelect c.defaults

pub record KeptMenu (m : MenuLines) : Type 0 where
  pub depends : AreOwn m.depends
  pub visible : AreOwn m.visible

abbrev pub KeptEntry : Entry → Type 0
KeptEntry Entry.MainMenu = Unit {0}
KeptEntry Entry.Comment = Unit {0}
KeptEntry (Entry.Menu m) = KeptMenu m
KeptEntry (Entry.Config c) = KeptConfig c
KeptEntry (Entry.Choice c) = KeptChoice c
KeptEntry (Entry.If e) = IsOwn e
KeptEntry (Entry.End what) = Unit {0}
KeptEntry (Entry.Source file) = Unit {0}
KeptEntry Entry.Sourced = Unit {0}

abbrev pub AreKept : Before → Type 0
AreKept [] = Unit {0}
AreKept (At n e ∷ before) = KeptEntry e × AreKept before

-- ---- attributes
onto : {A : Type 0} (P : A → Type 0) (xs ys : List A) → AllByRecursion P xs → AllByRecursion P ys → AllByRecursion P (xs ++ ys)
onto P [] ys h g = g
onto P (x ∷ xs) ys h g = (h.0, onto P xs ys h.1 g)

one_more : {A : Type 0} (P : A → Type 0) (xs : List A) (x : A) → AllByRecursion P xs → P x → AllByRecursion P (xs ++ x ∷ [])
one_more P xs x h g = onto P xs (x ∷ []) h (g, tt)

some_more : {A : Type 0} (P : A → Type 0) (xs : List A) (o : Option A) → AllByRecursion P xs → SomeHas P o → AllByRecursion P (xs ++ option_to_list o)
some_more P xs None h g = onto P xs [] h tt
some_more P xs (Some x) h g = one_more P xs x h g

abbrev KeptConfigLine : ConfigLine → Type 0
KeptConfigLine (config.Typed k prompt) = SomeHas IsOwn prompt
KeptConfigLine (config.TypedDefault k d) = IsOwnDefault d
KeptConfigLine (config.Prompt e) = IsOwn e
KeptConfigLine (config.Default d) = IsOwnDefault d
KeptConfigLine (config.DependsOn e) = IsOwn e
KeptConfigLine (config.Select s) = IsOwnSelect s
KeptConfigLine (config.Imply s) = IsOwnSelect s
KeptConfigLine config.Range = Unit {0}
KeptConfigLine config.Modules = Unit {0}
KeptConfigLine (config.AnyOption b) = Unit {0}
KeptConfigLine config.Help = Unit {0}

abbrev KeptChoiceLine : ChoiceLine → Type 0
KeptChoiceLine (choice.Typed k prompt) = (may_be_member k ≡ true) × SomeHas IsOwn prompt
KeptChoiceLine (choice.Prompt e) = IsOwn e
KeptChoiceLine (choice.Default s) = IsOwnSelect s
KeptChoiceLine (choice.DependsOn e) = IsOwn e
KeptChoiceLine choice.Optional = Unit {0}
KeptChoiceLine choice.Help = Unit {0}

abbrev KeptMenuLine : MenuLine → Type 0
KeptMenuLine (menu.DependsOn e) = IsOwn e
KeptMenuLine (menu.VisibleIf e) = IsOwn e

config_kept : (c : ConfigLines) (a : ConfigLine) → KeptConfig c → KeptConfigLine a → KeptConfig (config_with c a)
config_kept c (config.Typed k prompt) h g = record { name = h.name; depends = h.depends; prompts = some_more IsOwn c.prompts prompt h.prompts g; defaults = h.defaults; selects = h.selects; implies = h.implies }
config_kept c (config.TypedDefault k d) h g = record { name = h.name; depends = h.depends; prompts = h.prompts; defaults = one_more IsOwnDefault c.defaults d h.defaults g; selects = h.selects; implies = h.implies }
config_kept c (config.Prompt e) h g = record { name = h.name; depends = h.depends; prompts = one_more IsOwn c.prompts e h.prompts g; defaults = h.defaults; selects = h.selects; implies = h.implies }
config_kept c (config.Default d) h g = record { name = h.name; depends = h.depends; prompts = h.prompts; defaults = one_more IsOwnDefault c.defaults d h.defaults g; selects = h.selects; implies = h.implies }
config_kept c (config.DependsOn e) h g = record { name = h.name; depends = one_more IsOwn c.depends e h.depends g; prompts = h.prompts; defaults = h.defaults; selects = h.selects; implies = h.implies }
config_kept c (config.Select s) h g = record { name = h.name; depends = h.depends; prompts = h.prompts; defaults = h.defaults; selects = one_more IsOwnSelect c.selects s h.selects g; implies = h.implies }
config_kept c (config.Imply s) h g = record { name = h.name; depends = h.depends; prompts = h.prompts; defaults = h.defaults; selects = h.selects; implies = one_more IsOwnSelect c.implies s h.implies g }
config_kept c config.Range h g = h
config_kept c config.Modules h g = record { name = h.name; depends = h.depends; prompts = h.prompts; defaults = h.defaults; selects = h.selects; implies = h.implies }
config_kept c (config.AnyOption b) h g = record { name = h.name; depends = h.depends; prompts = h.prompts; defaults = h.defaults; selects = h.selects; implies = h.implies }
config_kept c config.Help h g = h

pub first_kept : (k l : Kind) → may_be_member k ≡ true → may_be_member l ≡ true → may_be_member (first_type k l) ≡ true
first_kept kind.Untyped l h g = g
first_kept kind.Bool l h g = h
first_kept kind.Tristate l h g = h
first_kept kind.Str l h g = h
first_kept kind.Hex l h g = h
first_kept kind.Int l h g = h

choice_kept : (c : ChoiceLines) (a : ChoiceLine) → KeptChoice c → KeptChoiceLine a → KeptChoice (choice_with c a)
choice_kept c (choice.Typed k prompt) h g = record { kind = first_kept c.kind k h.kind g.0; depends = h.depends; prompts = some_more IsOwn c.prompts prompt h.prompts g.1; defaults = h.defaults }
choice_kept c (choice.Prompt e) h g = record { kind = h.kind; depends = h.depends; prompts = one_more IsOwn c.prompts e h.prompts g; defaults = h.defaults }
choice_kept c (choice.Default s) h g = record { kind = h.kind; depends = h.depends; prompts = h.prompts; defaults = one_more IsOwnSelect c.defaults s h.defaults g }
choice_kept c (choice.DependsOn e) h g = record { kind = h.kind; depends = one_more IsOwn c.depends e h.depends g; prompts = h.prompts; defaults = h.defaults }
choice_kept c choice.Optional h g = record { kind = h.kind; depends = h.depends; prompts = h.prompts; defaults = h.defaults }
choice_kept c choice.Help h g = h

menu_kept : (m : MenuLines) (a : MenuLine) → KeptMenu m → KeptMenuLine a → KeptMenu (menu_with m a)
menu_kept m (menu.DependsOn e) h g = record { depends = one_more IsOwn m.depends e h.depends g; visible = h.visible }
menu_kept m (menu.VisibleIf e) h g = record { depends = h.depends; visible = one_more IsOwn m.visible e h.visible g }

-- ---- places
abbrev RestKeeps : {A : Type 0} → (A → Type 0) → Rest A → Type 0
RestKeeps P rest = (ws : List LineWord) → OkHas P (rest ws)

abbrev PlaceKeeps : Place → Type 0
PlaceKeeps p = (n : ℕ) (before : Before) → AreKept before → SomeHas (RestKeeps AreKept) (p n before)

gives_keeps : {A B : Type 0} (P : A → Type 0) (Q : B → Type 0) (rest : Rest A) (f : A → B) → RestKeeps P rest → ((x : A) → P x → Q (f x)) → RestKeeps Q (rest gives f)
gives_keeps P Q rest f h g ws = then_has P Q (rest ws) (λ x. Ok (f x)) (h ws) g

any_gives : {A B : Type 0} (Q : B → Type 0) (rest : Rest A) (f : A → B) → ((x : A) → Q (f x)) → RestKeeps Q (rest gives f)
any_gives Q rest f g ws = any_then Q (rest ws) (λ x. Ok (f x)) g

begun_keeps : (n : ℕ) (before : Before) (e : Entry) → AreKept before → KeptEntry e → OkHas AreKept (begun n before e)
begun_keeps n before e h g = by (first_refusal (refusals before e))
  where
    by : (o : Option LineBad) → OkHas AreKept (unless o (At n e ∷ before))
    by None = (g, h)
    by (Some x) = tt

entry_keeps : (rest : Rest Entry) → RestKeeps KeptEntry rest → PlaceKeeps (an_entry rest)
entry_keeps rest k n before h ws = then_has KeptEntry AreKept (rest ws) (begun n before) (k ws) (λ e g. begun_keeps n before e h g)

of_config_keeps : (rest : Rest ConfigLine) → RestKeeps KeptConfigLine rest → PlaceKeeps (of_config rest)
of_config_keeps rest k n [] h = tt
of_config_keeps rest k n (At own (Entry.Config c) ∷ before) h = gives_keeps KeptConfigLine AreKept rest (λ a. At own (Entry.Config (config_with c a)) ∷ before) k (λ a g. (config_kept c a h.0 g, h.1))
of_config_keeps rest k n (At own Entry.MainMenu ∷ before) h = tt
of_config_keeps rest k n (At own Entry.Comment ∷ before) h = tt
of_config_keeps rest k n (At own (Entry.Menu m) ∷ before) h = tt
of_config_keeps rest k n (At own (Entry.Choice c) ∷ before) h = tt
of_config_keeps rest k n (At own (Entry.If e) ∷ before) h = tt
of_config_keeps rest k n (At own (Entry.End what) ∷ before) h = tt
of_config_keeps rest k n (At own (Entry.Source file) ∷ before) h = tt
of_config_keeps rest k n (At own Entry.Sourced ∷ before) h = tt

of_choice_keeps : (rest : Rest ChoiceLine) → RestKeeps KeptChoiceLine rest → PlaceKeeps (of_choice rest)
of_choice_keeps rest k n [] h = tt
of_choice_keeps rest k n (At own (Entry.Choice c) ∷ before) h = gives_keeps KeptChoiceLine AreKept rest (λ a. At own (Entry.Choice (choice_with c a)) ∷ before) k (λ a g. (choice_kept c a h.0 g, h.1))
of_choice_keeps rest k n (At own Entry.MainMenu ∷ before) h = tt
of_choice_keeps rest k n (At own Entry.Comment ∷ before) h = tt
of_choice_keeps rest k n (At own (Entry.Menu m) ∷ before) h = tt
of_choice_keeps rest k n (At own (Entry.Config c) ∷ before) h = tt
of_choice_keeps rest k n (At own (Entry.If e) ∷ before) h = tt
of_choice_keeps rest k n (At own (Entry.End what) ∷ before) h = tt
of_choice_keeps rest k n (At own (Entry.Source file) ∷ before) h = tt
of_choice_keeps rest k n (At own Entry.Sourced ∷ before) h = tt

of_menu_keeps : (rest : Rest MenuLine) → RestKeeps KeptMenuLine rest → PlaceKeeps (of_menu rest)
of_menu_keeps rest k n [] h = tt
of_menu_keeps rest k n (At own (Entry.Menu m) ∷ before) h = gives_keeps KeptMenuLine AreKept rest (λ a. At own (Entry.Menu (menu_with m a)) ∷ before) k (λ a g. (menu_kept m a h.0 g, h.1))
of_menu_keeps rest k n (At own Entry.MainMenu ∷ before) h = tt
of_menu_keeps rest k n (At own Entry.Comment ∷ before) h = tt
of_menu_keeps rest k n (At own (Entry.Config c) ∷ before) h = tt
of_menu_keeps rest k n (At own (Entry.Choice c) ∷ before) h = tt
of_menu_keeps rest k n (At own (Entry.If e) ∷ before) h = tt
of_menu_keeps rest k n (At own (Entry.End what) ∷ before) h = tt
of_menu_keeps rest k n (At own (Entry.Source file) ∷ before) h = tt
of_menu_keeps rest k n (At own Entry.Sourced ∷ before) h = tt

of_comment_keeps : (rest : Rest Expr) → PlaceKeeps (of_comment rest)
of_comment_keeps rest n [] h = tt
of_comment_keeps rest n (At own Entry.Comment ∷ before) h = any_gives AreKept rest (λ e. At own Entry.Comment ∷ before) (λ e. h)
of_comment_keeps rest n (At own Entry.MainMenu ∷ before) h = tt
of_comment_keeps rest n (At own (Entry.Menu m) ∷ before) h = tt
of_comment_keeps rest n (At own (Entry.Config c) ∷ before) h = tt
of_comment_keeps rest n (At own (Entry.Choice c) ∷ before) h = tt
of_comment_keeps rest n (At own (Entry.If e) ∷ before) h = tt
of_comment_keeps rest n (At own (Entry.End what) ∷ before) h = tt
of_comment_keeps rest n (At own (Entry.Source file) ∷ before) h = tt
of_comment_keeps rest n (At own Entry.Sourced ∷ before) h = tt

or_keeps : (p q : Place) → PlaceKeeps p → PlaceKeeps q → PlaceKeeps (p or q)
or_keeps p q a b n before h = by (p n before) (q n before) (a n before h) (b n before h)
  where
    by : (o other : Option (Rest Before)) → SomeHas (RestKeeps AreKept) o → SomeHas (RestKeeps AreKept) other → SomeHas (RestKeeps AreKept) (first_of o other)
    by None other x y = y
    by (Some rest) other x y = x

-- ---- the table
abbrev RowKeeps : Row → Type 0
RowKeeps r = PlaceKeeps r.place

typed_config : (k : Kind) → PlaceKeeps (of_config (a_prompt_or_none gives config.Typed k))
typed_config k = of_config_keeps (a_prompt_or_none gives config.Typed k) (gives_keeps (SomeHas IsOwn) KeptConfigLine a_prompt_or_none (config.Typed k) prompt_or_none_own (λ o h. h))

typed_choice : (k : Kind) → may_be_member k ≡ true → PlaceKeeps (of_choice (a_prompt_or_none gives choice.Typed k))
typed_choice k m = of_choice_keeps (a_prompt_or_none gives choice.Typed k) (gives_keeps (SomeHas IsOwn) KeptChoiceLine a_prompt_or_none (choice.Typed k) prompt_or_none_own (λ o h. (m, h)))

typed_default : (k : Kind) → PlaceKeeps (of_config (a_value gives config.TypedDefault k))
typed_default k = of_config_keeps (a_value gives config.TypedDefault k) (gives_keeps IsOwnDefault KeptConfigLine a_value (config.TypedDefault k) value_own (λ d h. h))

-- an attribute with an expression, a target or nothing of the kind
of_config_by : {A : Type 0} (P : A → Type 0) (rest : Rest A) (f : A → ConfigLine) → RestKeeps P rest → ((x : A) → P x → KeptConfigLine (f x)) → PlaceKeeps (of_config (rest gives f))
of_config_by P rest f h g = of_config_keeps (rest gives f) (gives_keeps P KeptConfigLine rest f h g)

of_choice_by : {A : Type 0} (P : A → Type 0) (rest : Rest A) (f : A → ChoiceLine) → RestKeeps P rest → ((x : A) → P x → KeptChoiceLine (f x)) → PlaceKeeps (of_choice (rest gives f))
of_choice_by P rest f h g = of_choice_keeps (rest gives f) (gives_keeps P KeptChoiceLine rest f h g)

of_menu_by : {A : Type 0} (P : A → Type 0) (rest : Rest A) (f : A → MenuLine) → RestKeeps P rest → ((x : A) → P x → KeptMenuLine (f x)) → PlaceKeeps (of_menu (rest gives f))
of_menu_by P rest f h g = of_menu_keeps (rest gives f) (gives_keeps P KeptMenuLine rest f h g)

of_config_any : {A : Type 0} (rest : Rest A) (f : A → ConfigLine) → ((x : A) → KeptConfigLine (f x)) → PlaceKeeps (of_config (rest gives f))
of_config_any rest f g = of_config_keeps (rest gives f) (any_gives KeptConfigLine rest f g)

of_choice_any : {A : Type 0} (rest : Rest A) (f : A → ChoiceLine) → ((x : A) → KeptChoiceLine (f x)) → PlaceKeeps (of_choice (rest gives f))
of_choice_any rest f g = of_choice_keeps (rest gives f) (any_gives KeptChoiceLine rest f g)

entry_any : {A : Type 0} (rest : Rest A) (f : A → Entry) → ((x : A) → KeptEntry (f x)) → PlaceKeeps (an_entry (rest gives f))
entry_any rest f g = entry_keeps (rest gives f) (any_gives KeptEntry rest f g)

help_keeps : PlaceKeeps (of_config (nothing gives λ t. config.Help) or of_choice (nothing gives λ t. choice.Help))
help_keeps = or_keeps (of_config (nothing gives λ t. config.Help)) (of_choice (nothing gives λ t. choice.Help))
    (of_config_any nothing (λ t. config.Help) (λ t. tt)) (of_choice_any nothing (λ t. choice.Help) (λ t. tt))

depends_keeps : PlaceKeeps (of_config (an_expression gives config.DependsOn)
    or of_choice (an_expression gives choice.DependsOn) or of_menu (an_expression gives menu.DependsOn) or of_comment an_expression)
depends_keeps =
    or_keeps (of_config (an_expression gives config.DependsOn) or of_choice (an_expression gives choice.DependsOn) or of_menu (an_expression gives menu.DependsOn)) (of_comment an_expression)
    (or_keeps (of_config (an_expression gives config.DependsOn) or of_choice (an_expression gives choice.DependsOn)) (of_menu (an_expression gives menu.DependsOn))
    (or_keeps (of_config (an_expression gives config.DependsOn)) (of_choice (an_expression gives choice.DependsOn))
    (of_config_by IsOwn an_expression config.DependsOn expression_own (λ e h. h)) (of_choice_by IsOwn an_expression choice.DependsOn expression_own (λ e h. h)))
    (of_menu_by IsOwn an_expression menu.DependsOn expression_own (λ e h. h)))
    (of_comment_keeps an_expression)

attributes_keep : AllByRecursion RowKeeps attributes
attributes_keep = (
  or_keeps (of_config (a_prompt_or_none gives config.Typed kind.Bool)) (of_choice (a_prompt_or_none gives choice.Typed kind.Bool)) (typed_config kind.Bool) (typed_choice kind.Bool refl),
  (
    or_keeps (of_config (a_prompt_or_none gives config.Typed kind.Tristate)) (of_choice (a_prompt_or_none gives choice.Typed kind.Tristate)) (typed_config kind.Tristate) (typed_choice kind.Tristate refl),
    (
      typed_config kind.Str,
      (
        typed_config kind.Hex,
        (
          typed_config kind.Int,
          (
            or_keeps (of_config (a_prompt gives config.Prompt)) (of_choice (a_prompt gives choice.Prompt)) (of_config_by IsOwn a_prompt config.Prompt prompt_own (λ e h. h)) (of_choice_by IsOwn a_prompt choice.Prompt prompt_own (λ e h. h)),
            (
              or_keeps (of_config (a_value gives config.Default)) (of_choice (a_target gives choice.Default)) (of_config_by IsOwnDefault a_value config.Default value_own (λ d h. h)) (of_choice_by IsOwnSelect a_target choice.Default target_own (λ s h. h)),
              (
                typed_default kind.Bool,
                (
                  typed_default kind.Tristate,
                  (
                    depends_keeps,
                    (
                      of_config_by IsOwnSelect a_target config.Select target_own (λ s h. h),
                      (
                        of_config_by IsOwnSelect a_target config.Imply target_own (λ s h. h),
                        (
                          of_menu_by IsOwn an_expression menu.VisibleIf expression_own (λ e h. h),
                          (
                            of_config_any two_words (λ t. config.Range) (λ t. tt),
                            (
                              help_keeps,
                              (
                                help_keeps,
                                (
                                  of_config_any anything config.AnyOption (λ b. tt),
                                  (
                                    of_config_any nothing (λ t. config.Modules) (λ t. tt),
                                    (
                                      of_choice_any nothing (λ t. choice.Optional) (λ t. tt),
                                      tt,
                                    ),
                                  ),
                                ),
                              ),
                            ),
                          ),
                        ),
                      ),
                    ),
                  ),
                ),
              ),
            ),
          ),
        ),
      ),
    ),
  ),
)

new_config_kept : (name : Bytes) → IsNameText name → KeptConfig (new_config name)
new_config_kept name is = record { name = is; depends = tt; prompts = tt; defaults = tt; selects = tt; implies = tt }

new_choice_kept : (name : Option Bytes) → KeptChoice (new_choice name)
new_choice_kept name = record { kind = refl; depends = tt; prompts = tt; defaults = tt }

entries_keep : (root : Bytes) → AllByRecursion RowKeeps (entry_rows root)
entries_keep root = (
  entry_keeps (a_name gives λ name. Entry.Config (new_config name)) (gives_keeps IsNameText KeptEntry a_name (λ name. Entry.Config (new_config name)) a_name_is new_config_kept),
  (
    entry_keeps (a_name gives λ name. Entry.Config (new_config name)) (gives_keeps IsNameText KeptEntry a_name (λ name. Entry.Config (new_config name)) a_name_is new_config_kept),
    (
      entry_any a_name_or_nothing (λ name. Entry.Choice (new_choice name)) new_choice_kept,
      (
        entry_any nothing (λ t. Entry.End _) (λ t. tt),
        (
          entry_any a_text (λ t. Entry.Comment) (λ t. tt),
          (
            entry_any a_text (λ t. Entry.Menu new_menu) (λ t. record { depends = tt; visible = tt }),
            (
              entry_any nothing (λ t. Entry.End _) (λ t. tt),
              (
                entry_keeps (an_expression gives Entry.If) (gives_keeps IsOwn KeptEntry an_expression Entry.If expression_own (λ e h. h)),
                (
                  entry_any nothing (λ t. Entry.End _) (λ t. tt),
                  (
                    entry_any (a_path root) Entry.Source (λ file. tt),
                    (
                      entry_any a_text (λ t. Entry.MainMenu) (λ t. tt),
                      tt,
                    ),
                  ),
                ),
              ),
            ),
          ),
        ),
      ),
    ),
  ),
)

-- the row that a line begins with
abbrev ReadRow : Place × List LineWord → Type 0
ReadRow r = PlaceKeeps r.0

row_keeps : (rows : List Row) (ws : List LineWord) → AllByRecursion RowKeeps rows → SomeHas ReadRow (row_of rows ws)
row_keeps [] ws h = tt
row_keeps (r ∷ rs) ws h = by (words_after r.words ws) (row_of rs ws) (row_keeps rs ws h.1)
  where
    by : (o : Option (List LineWord)) (others : Option (Place × List LineWord)) → SomeHas ReadRow others → SomeHas ReadRow (or_in r.place o others)
    by None others k = k
    by (Some after) others k = h.0

-- what a line of words says
pub said_keeps : (root : Bytes) (n : ℕ) (before : Before) (ws : List LineWord) → AreKept before → OkHas AreKept (said root n before ws)
said_keeps root n before ws h =
    then_has ReadRow AreKept (wanted fault.Word (row_of (statements root) ws)) _
    (wanted_has ReadRow fault.Word (row_of (statements root) ws) (row_keeps (statements root) ws (onto RowKeeps attributes (entry_rows root) attributes_keep (entries_keep root))))
    (λ r k. then_has (RestKeeps AreKept) AreKept (wanted fault.Attribute (r.0 n before)) (λ rest. rest r.1)
    (wanted_has (RestKeeps AreKept) fault.Attribute (r.0 n before) (k n before h)) (λ rest g. g r.1))
