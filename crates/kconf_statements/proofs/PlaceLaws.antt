-- What an attribute says after each kind of entry.
use Rattle.std.proofs.Common.{ℕ, ◌≡◌, ◌∙◌, refl, sym, ap, subst, List, [], ◌∷◌, Option, Some, None, Result, Ok, Err}
use Rattle.std.specs.Option.{option_map}
use Rattle.ut_text.specs.Bytes.{Bytes}
use Rattle.ut_text.specs.Results.{◌>>=◌}
use Rattle.kconf_entries.specs.declared.expr.Expr.{Expr}
use Rattle.kconf_words.specs.declared.line_words.LineWord.{LineWord}
use Rattle.kconf_words.specs.declared.line_bad.SyntaxKind.TheVariants as fault
use Rattle.kconf_words.specs.declared.line_bad.LineBad.{LineBad}
use Rattle.kconf_words.specs.declared.line_bad.LineBad.TheVariants.{Syntax}
use Rattle.kconf_words.specs.Faults.{Fails}
use Rattle.kconf_rests.specs.Rests.{Rest, wanted}
use Rattle.kconf_rests.proofs.RestLemmas.{fails_first}
use Rattle.kconf_statements.specs.declared.keywords.Attribute.{Attribute}
use Rattle.kconf_statements.specs.declared.keywords.Attribute.TheVariants as key
use Rattle.kconf_statements.specs.declared.lines.ConfigLine.{ConfigLine}
use Rattle.kconf_statements.specs.declared.lines.ChoiceLine.{ChoiceLine}
use Rattle.kconf_statements.specs.declared.lines.MenuLine.{MenuLine}
use Rattle.kconf_statements.specs.declared.lines.Opens.{Opens}
use Rattle.kconf_statements.specs.declared.lines.Owner.{Owner}
use Rattle.kconf_statements.specs.declared.lines.Owner.TheVariants as owner
use Rattle.kconf_statements.specs.declared.lines.Says.TheVariants as says
use Rattle.kconf_statements.specs.EntryLines.{ConfigLines, ChoiceLines, MenuLines, config_with, choice_with, menu_with, Entry, At, Before}
use Rattle.kconf_statements.specs.Statements.{◌gives◌}
use Rattle.kconf_statements.specs.Says.{owner_of, with_config, with_choice, with_menu}
use Rattle.kconf_statements.specs.Reading.{config_rest, choice_rest, menu_rest, comment_rest, attribute_place, SaysIf, SaysAfter, attribute_said}

-- the refusal of an attribute that may not stand there
abbrev no_attribute : Result Before LineBad
no_attribute = Err (Syntax fault.Attribute)

-- what is read at a place, if anything is
abbrev said_by : Option (Rest Before) → List LineWord → Result Before LineBad
said_by o ws = wanted fault.Attribute o >>= λ rest. rest ws

module _ {A : Type 0} (f : A → Before) (ws : List LineWord) where
  -- what was read adds what reading gives
  adds : (o : Option (Rest A)) (x : A) → SaysIf o ws (Ok x) → said_by (option_map (λ rest. rest gives f) o) ws ≡ Ok (f x)
  adds None x h = cc
  adds (Some rest) x h = ap (λ (r : Result A LineBad). r >>= λ y. Ok (f y)) h

  -- and a fault is that of reading
  refuses : (o : Option (Rest A)) (e : LineBad) → SaysIf o ws (Err e) → Fails e (said_by (option_map (λ rest. rest gives f) o) ws)
  refuses None e h = let same : Syntax fault.Attribute ≡ e = cc in subst (λ k. Fails k no_attribute) same refl
  refuses (Some rest) e h = fails_first e (rest ws) (λ y. Ok (f y)) h

-- ---- the place of each attribute, by the entry before it
at_config : (a : Attribute) (line own : ℕ) (c : ConfigLines) (before : Before)
    → attribute_place a line (At own (Entry.Config c) ∷ before) ≡ option_map (λ rest. rest gives λ x. At own (Entry.Config (config_with c x)) ∷ before) (config_rest a)
at_config key.Bool line own c before = refl
at_config a line own c before = refl

at_choice : (a : Attribute) (line own : ℕ) (c : ChoiceLines) (before : Before)
    → attribute_place a line (At own (Entry.Choice c) ∷ before) ≡ option_map (λ rest. rest gives λ x. At own (Entry.Choice (choice_with c x)) ∷ before) (choice_rest a)
at_choice key.Bool line own c before = refl
at_choice a line own c before = refl

at_menu : (a : Attribute) (line own : ℕ) (m : MenuLines) (before : Before)
    → attribute_place a line (At own (Entry.Menu m) ∷ before) ≡ option_map (λ rest. rest gives λ x. At own (Entry.Menu (menu_with m x)) ∷ before) (menu_rest a)
at_menu key.Bool line own m before = refl
at_menu a line own m before = refl

at_comment : (a : Attribute) (line own : ℕ) (before : Before)
    → attribute_place a line (At own Entry.Comment ∷ before) ≡ option_map (λ rest. rest gives λ x. At own Entry.Comment ∷ before) (comment_rest a)
at_comment key.Bool line own before = refl
at_comment a line own before = refl

at_start : (a : Attribute) (line : ℕ) → attribute_place a line [] ≡ None
at_start key.Bool line = refl
at_start a line = refl

at_main_menu : (a : Attribute) (line own : ℕ) (before : Before) → attribute_place a line (At own Entry.MainMenu ∷ before) ≡ None
at_main_menu key.Bool line own before = refl
at_main_menu a line own before = refl

at_if : (a : Attribute) (line own : ℕ) (e : Expr) (before : Before) → attribute_place a line (At own (Entry.If e) ∷ before) ≡ None
at_if key.Bool line own e before = refl
at_if a line own e before = refl

at_end : (a : Attribute) (line own : ℕ) (what : Opens) (before : Before) → attribute_place a line (At own (Entry.End what) ∷ before) ≡ None
at_end key.Bool line own what before = refl
at_end a line own what before = refl

at_source : (a : Attribute) (line own : ℕ) (file : Bytes) (before : Before) → attribute_place a line (At own (Entry.Source file) ∷ before) ≡ None
at_source key.Bool line own file before = refl
at_source a line own file before = refl

at_sourced : (a : Attribute) (line own : ℕ) (before : Before) → attribute_place a line (At own Entry.Sourced ∷ before) ≡ None
at_sourced key.Bool line own before = refl
at_sourced a line own before = refl

-- ---- what is said there
module _ (a : Attribute) (ws : List LineWord) (line : ℕ) where
  said_at : (before : Before) (o : Option (Rest Before)) → attribute_place a line before ≡ o → attribute_said a line before ws ≡ said_by o ws
  said_at before o h = ap (λ (p : Option (Rest Before)). said_by p ws) h

  pub nothing_said : (before : Before) → owner_of before ≡ owner.Nothing → attribute_said a line before ws ≡ Err (Syntax fault.Attribute)
  nothing_said [] h = said_at [] None (at_start a line)
  nothing_said (At own Entry.MainMenu ∷ before) h = said_at _ None (at_main_menu a line own before)
  nothing_said (At own Entry.Comment ∷ before) h = cc
  nothing_said (At own (Entry.Menu m) ∷ before) h = cc
  nothing_said (At own (Entry.Config c) ∷ before) h = cc
  nothing_said (At own (Entry.Choice c) ∷ before) h = cc
  nothing_said (At own (Entry.If e) ∷ before) h = said_at _ None (at_if a line own e before)
  nothing_said (At own (Entry.End what) ∷ before) h = said_at _ None (at_end a line own what before)
  nothing_said (At own (Entry.Source file) ∷ before) h = said_at _ None (at_source a line own file before)
  nothing_said (At own Entry.Sourced ∷ before) h = said_at _ None (at_sourced a line own before)

  pub config_said : (before : Before) (x : ConfigLine) → owner_of before ≡ owner.Config → SaysIf (config_rest a) ws (Ok x) → attribute_said a line before ws ≡ with_config x before
  config_said [] x h g = cc
  config_said (At own (Entry.Config c) ∷ before) x h g = said_at _ _ (at_config a line own c before) ∙ adds (λ y. At own (Entry.Config (config_with c y)) ∷ before) ws (config_rest a) x g
  config_said (At own e ∷ before) x h g = cc

  pub config_refused : (before : Before) (e : LineBad) → owner_of before ≡ owner.Config → SaysIf (config_rest a) ws (Err e) → Fails e (attribute_said a line before ws)
  config_refused [] e h g = cc
  config_refused (At own (Entry.Config c) ∷ before) e h g =
      subst (Fails e) (sym (said_at _ _ (at_config a line own c before))) (refuses (λ y. At own (Entry.Config (config_with c y)) ∷ before) ws (config_rest a) e g)
  config_refused (At own k ∷ before) e h g = cc

  pub choice_said : (before : Before) (x : ChoiceLine) → owner_of before ≡ owner.Choice → SaysIf (choice_rest a) ws (Ok x) → attribute_said a line before ws ≡ with_choice x before
  choice_said [] x h g = cc
  choice_said (At own (Entry.Choice c) ∷ before) x h g = said_at _ _ (at_choice a line own c before) ∙ adds (λ y. At own (Entry.Choice (choice_with c y)) ∷ before) ws (choice_rest a) x g
  choice_said (At own e ∷ before) x h g = cc

  pub choice_refused : (before : Before) (e : LineBad) → owner_of before ≡ owner.Choice → SaysIf (choice_rest a) ws (Err e) → Fails e (attribute_said a line before ws)
  choice_refused [] e h g = cc
  choice_refused (At own (Entry.Choice c) ∷ before) e h g =
      subst (Fails e) (sym (said_at _ _ (at_choice a line own c before))) (refuses (λ y. At own (Entry.Choice (choice_with c y)) ∷ before) ws (choice_rest a) e g)
  choice_refused (At own k ∷ before) e h g = cc

  pub menu_said : (before : Before) (x : MenuLine) → owner_of before ≡ owner.Menu → SaysIf (menu_rest a) ws (Ok x) → attribute_said a line before ws ≡ with_menu x before
  menu_said [] x h g = cc
  menu_said (At own (Entry.Menu m) ∷ before) x h g = said_at _ _ (at_menu a line own m before) ∙ adds (λ y. At own (Entry.Menu (menu_with m y)) ∷ before) ws (menu_rest a) x g
  menu_said (At own e ∷ before) x h g = cc

  pub menu_refused : (before : Before) (e : LineBad) → owner_of before ≡ owner.Menu → SaysIf (menu_rest a) ws (Err e) → Fails e (attribute_said a line before ws)
  menu_refused [] e h g = cc
  menu_refused (At own (Entry.Menu m) ∷ before) e h g =
      subst (Fails e) (sym (said_at _ _ (at_menu a line own m before))) (refuses (λ y. At own (Entry.Menu (menu_with m y)) ∷ before) ws (menu_rest a) e g)
  menu_refused (At own k ∷ before) e h g = cc

  pub comment_said : (before : Before) (x : Expr) → owner_of before ≡ owner.Comment → SaysIf (comment_rest a) ws (Ok x) → attribute_said a line before ws ≡ Ok before
  comment_said [] x h g = cc
  comment_said (At own Entry.Comment ∷ before) x h g = said_at _ _ (at_comment a line own before) ∙ adds (λ y. At own Entry.Comment ∷ before) ws (comment_rest a) x g
  comment_said (At own e ∷ before) x h g = cc

  pub comment_refused : (before : Before) (e : LineBad) → owner_of before ≡ owner.Comment → SaysIf (comment_rest a) ws (Err e) → Fails e (attribute_said a line before ws)
  comment_refused [] e h g = cc
  comment_refused (At own Entry.Comment ∷ before) e h g =
      subst (Fails e) (sym (said_at _ _ (at_comment a line own before))) (refuses (λ y. At own Entry.Comment ∷ before) ws (comment_rest a) e g)
  comment_refused (At own k ∷ before) e h g = cc

-- ---- what the readers of attributes promise
module _ (a : Attribute) (ws : List LineWord) where
  pub after_nothing : SaysAfter owner.Nothing a ws (Err (Syntax fault.Attribute))
  after_nothing = (λ line before h. nothing_said a ws line before h, tt)

  pub after_config : (x : ConfigLine) → SaysIf (config_rest a) ws (Ok x) → SaysAfter owner.Config a ws (Ok (says.OfConfig x))
  after_config x g = (λ line before h. config_said a ws line before x h g, refl)

  pub after_config_bad : (e : LineBad) → SaysIf (config_rest a) ws (Err e) → SaysAfter owner.Config a ws (Err e)
  after_config_bad e g = (λ line before h. config_refused a ws line before e h g, tt)

  pub after_choice : (x : ChoiceLine) → SaysIf (choice_rest a) ws (Ok x) → SaysAfter owner.Choice a ws (Ok (says.OfChoice x))
  after_choice x g = (λ line before h. choice_said a ws line before x h g, refl)

  pub after_choice_bad : (e : LineBad) → SaysIf (choice_rest a) ws (Err e) → SaysAfter owner.Choice a ws (Err e)
  after_choice_bad e g = (λ line before h. choice_refused a ws line before e h g, tt)

  pub after_menu : (x : MenuLine) → SaysIf (menu_rest a) ws (Ok x) → SaysAfter owner.Menu a ws (Ok (says.OfMenu x))
  after_menu x g = (λ line before h. menu_said a ws line before x h g, refl)

  pub after_menu_bad : (e : LineBad) → SaysIf (menu_rest a) ws (Err e) → SaysAfter owner.Menu a ws (Err e)
  after_menu_bad e g = (λ line before h. menu_refused a ws line before e h g, tt)

  pub after_comment : (x : Expr) → SaysIf (comment_rest a) ws (Ok x) → SaysAfter owner.Comment a ws (Ok says.OfComment)
  after_comment x g = (λ line before h. comment_said a ws line before x h g, refl)

  pub after_comment_bad : (e : LineBad) → SaysIf (comment_rest a) ws (Err e) → SaysAfter owner.Comment a ws (Err e)
  after_comment_bad e g = (λ line before h. comment_refused a ws line before e h g, tt)
