-- What the readers of statements promise each other. Want of memory may come in place of every answer.
use Rattle.std.specs.Prelude.{◌≡◌, ℕ, codes, IfOk, Option, None, Some, Result, Ok, Err, List, [], ◌∷◌}
use Rattle.ut_text.specs.Bytes.{Bytes}
use Rattle.ut_text.specs.Results.{◌>>=◌}
use Rattle.kconf_entries.specs.declared.entries.Kind.{Kind}
use Rattle.kconf_entries.specs.declared.entries.Kind.TheVariants as kind
use Rattle.kconf_entries.specs.declared.expr.Expr.{Expr}
use Rattle.kconf_words.specs.declared.line_words.LineWord.{LineWord}
use Rattle.kconf_words.specs.declared.line_bad.SyntaxKind.TheVariants as fault
use Rattle.kconf_words.specs.declared.line_bad.LineBad.{LineBad}
use Rattle.kconf_words.specs.declared.line_bad.LineBad.TheVariants as bad
use Rattle.kconf_words.specs.Faults.{Fails}
use Rattle.kconf_rests.specs.Rests.{Rest, wanted, nothing, a_text, a_name, a_name_or_nothing, a_path, an_expression, a_prompt, a_prompt_or_none, a_target, a_value, two_words, anything}
use Rattle.kconf_statements.specs.declared.keywords.Attribute.{Attribute}
use Rattle.kconf_statements.specs.declared.keywords.Attribute.TheVariants as key
use Rattle.kconf_statements.specs.declared.keywords.EntryWord.{EntryWord}
use Rattle.kconf_statements.specs.declared.keywords.EntryWord.TheVariants as word
use Rattle.kconf_statements.specs.declared.lines.Opens.{Opens}
use Rattle.kconf_statements.specs.declared.lines.Opens.TheVariants as opens
use Rattle.kconf_statements.specs.declared.lines.ConfigLine.{ConfigLine}
use Rattle.kconf_statements.specs.declared.lines.ConfigLine.TheVariants as config
use Rattle.kconf_statements.specs.declared.lines.ChoiceLine.{ChoiceLine}
use Rattle.kconf_statements.specs.declared.lines.ChoiceLine.TheVariants as choice
use Rattle.kconf_statements.specs.declared.lines.MenuLine.{MenuLine}
use Rattle.kconf_statements.specs.declared.lines.MenuLine.TheVariants as menu
use Rattle.kconf_statements.specs.declared.lines.EntryLine.{EntryLine}
use Rattle.kconf_statements.specs.declared.lines.Owner.{Owner}
use Rattle.kconf_statements.specs.declared.lines.Says.{Says}
use Rattle.kconf_statements.specs.declared.lines.Says.TheVariants as says
use Rattle.kconf_statements.specs.EntryLines.{new_config, new_choice, new_menu, Entry, Before}
use Rattle.kconf_statements.specs.Statements.{Place, ◌gives◌, an_entry, of_config, of_choice, of_menu, of_comment, ◌or◌, words_after, attributes, entry_rows, row_of}
use Rattle.kconf_statements.specs.Says.{SaysOf, IsOf, owner_of, entry_of}

-- the words after one first word, and after two
abbrev pub one_after : Bytes → List LineWord → Option (List LineWord)
one_after text ws = words_after (text ∷ []) ws

abbrev pub two_after : Bytes → Bytes → List LineWord → Option (List LineWord)
two_after text next ws = words_after (text ∷ next ∷ []) ws

-- the row of the table that a line begins with
abbrev pub attribute_row : List LineWord → Option (Place × List LineWord)
attribute_row ws = row_of attributes ws

abbrev pub entry_row : Bytes → List LineWord → Option (Place × List LineWord)
entry_row root ws = row_of (entry_rows root) ws

-- ---- what each word wants

-- type lines
abbrev pub typed : Kind → Rest ConfigLine
typed k = a_prompt_or_none gives λ prompt. config.Typed k prompt

abbrev pub typed_default : Kind → Rest ConfigLine
typed_default k = a_value gives λ d. config.TypedDefault k d

abbrev pub typed_choice : Kind → Rest ChoiceLine
typed_choice k = a_prompt_or_none gives λ prompt. choice.Typed k prompt

-- what is read of a config's attribute
abbrev pub config_rest : Attribute → Option (Rest ConfigLine)
config_rest key.Bool = Some (typed kind.Bool)
config_rest key.Tristate = Some (typed kind.Tristate)
config_rest key.Str = Some (typed kind.Str)
config_rest key.Hex = Some (typed kind.Hex)
config_rest key.Int = Some (typed kind.Int)
config_rest key.Prompt = Some (a_prompt gives λ e. config.Prompt e)
config_rest key.Default = Some (a_value gives λ d. config.Default d)
config_rest key.DefBool = Some (typed_default kind.Bool)
config_rest key.DefTristate = Some (typed_default kind.Tristate)
config_rest key.DependsOn = Some (an_expression gives λ e. config.DependsOn e)
config_rest key.Select = Some (a_target gives λ s. config.Select s)
config_rest key.Imply = Some (a_target gives λ s. config.Imply s)
config_rest key.VisibleIf = None
config_rest key.Range = Some (two_words gives λ t. config.Range)
config_rest key.Help = Some (nothing gives λ t. config.Help)
config_rest key.AnyOption = Some (anything gives λ b. config.AnyOption b)
config_rest key.Modules = Some (nothing gives λ t. config.Modules)
config_rest key.Optional = None

-- of a choice's
abbrev pub choice_rest : Attribute → Option (Rest ChoiceLine)
choice_rest key.Bool = Some (typed_choice kind.Bool)
choice_rest key.Tristate = Some (typed_choice kind.Tristate)
choice_rest key.Str = None
choice_rest key.Hex = None
choice_rest key.Int = None
choice_rest key.Prompt = Some (a_prompt gives λ e. choice.Prompt e)
choice_rest key.Default = Some (a_target gives λ s. choice.Default s)
choice_rest key.DefBool = None
choice_rest key.DefTristate = None
choice_rest key.DependsOn = Some (an_expression gives λ e. choice.DependsOn e)
choice_rest key.Select = None
choice_rest key.Imply = None
choice_rest key.VisibleIf = None
choice_rest key.Range = None
choice_rest key.Help = Some (nothing gives λ t. choice.Help)
choice_rest key.AnyOption = None
choice_rest key.Modules = None
choice_rest key.Optional = Some (nothing gives λ t. choice.Optional)

-- of a menu's
abbrev pub menu_rest : Attribute → Option (Rest MenuLine)
menu_rest key.Bool = None
menu_rest key.Tristate = None
menu_rest key.Str = None
menu_rest key.Hex = None
menu_rest key.Int = None
menu_rest key.Prompt = None
menu_rest key.Default = None
menu_rest key.DefBool = None
menu_rest key.DefTristate = None
menu_rest key.DependsOn = Some (an_expression gives λ e. menu.DependsOn e)
menu_rest key.Select = None
menu_rest key.Imply = None
menu_rest key.VisibleIf = Some (an_expression gives λ e. menu.VisibleIf e)
menu_rest key.Range = None
menu_rest key.Help = None
menu_rest key.AnyOption = None
menu_rest key.Modules = None
menu_rest key.Optional = None

-- of a comment's
abbrev pub comment_rest : Attribute → Option (Rest Expr)
comment_rest key.Bool = None
comment_rest key.Tristate = None
comment_rest key.Str = None
comment_rest key.Hex = None
comment_rest key.Int = None
comment_rest key.Prompt = None
comment_rest key.Default = None
comment_rest key.DefBool = None
comment_rest key.DefTristate = None
comment_rest key.DependsOn = Some an_expression
comment_rest key.Select = None
comment_rest key.Imply = None
comment_rest key.VisibleIf = None
comment_rest key.Range = None
comment_rest key.Help = None
comment_rest key.AnyOption = None
comment_rest key.Modules = None
comment_rest key.Optional = None

-- the place of an attribute, as its row has it
abbrev pub attribute_place : Attribute → Place
attribute_place key.Bool = of_config (a_prompt_or_none gives config.Typed kind.Bool) or of_choice (a_prompt_or_none gives choice.Typed kind.Bool)
attribute_place key.Tristate = of_config (a_prompt_or_none gives config.Typed kind.Tristate) or of_choice (a_prompt_or_none gives choice.Typed kind.Tristate)
attribute_place key.Str = of_config (a_prompt_or_none gives config.Typed kind.Str)
attribute_place key.Hex = of_config (a_prompt_or_none gives config.Typed kind.Hex)
attribute_place key.Int = of_config (a_prompt_or_none gives config.Typed kind.Int)
attribute_place key.Prompt = of_config (a_prompt gives config.Prompt) or of_choice (a_prompt gives choice.Prompt)
attribute_place key.Default = of_config (a_value gives config.Default) or of_choice (a_target gives choice.Default)
attribute_place key.DefBool = of_config (a_value gives config.TypedDefault kind.Bool)
attribute_place key.DefTristate = of_config (a_value gives config.TypedDefault kind.Tristate)
attribute_place key.DependsOn = of_config (an_expression gives config.DependsOn)
    or of_choice (an_expression gives choice.DependsOn) or of_menu (an_expression gives menu.DependsOn) or of_comment an_expression
attribute_place key.Select = of_config (a_target gives config.Select)
attribute_place key.Imply = of_config (a_target gives config.Imply)
attribute_place key.VisibleIf = of_menu (an_expression gives menu.VisibleIf)
attribute_place key.Range = of_config (two_words gives λ t. config.Range)
attribute_place key.Help = of_config (nothing gives λ t. config.Help) or of_choice (nothing gives λ t. choice.Help)
attribute_place key.AnyOption = of_config (anything gives config.AnyOption)
attribute_place key.Modules = of_config (nothing gives λ t. config.Modules)
attribute_place key.Optional = of_choice (nothing gives λ t. choice.Optional)

-- an end word
abbrev pub end_rest : Opens → Rest Entry
end_rest what = nothing gives λ t. Entry.End what

-- what is read after an entry's first word, and after an end word
abbrev pub entry_rest : Bytes → EntryWord → Rest Entry
entry_rest root word.Config = a_name gives λ name. Entry.Config (new_config name)
entry_rest root word.Choice = a_name_or_nothing gives λ name. Entry.Choice (new_choice name)
entry_rest root word.EndChoice = end_rest opens.Choice
entry_rest root word.Comment = a_text gives λ t. Entry.Comment
entry_rest root word.Menu = a_text gives λ t. Entry.Menu new_menu
entry_rest root word.EndMenu = end_rest opens.Menu
entry_rest root word.If = an_expression gives λ e. Entry.If e
entry_rest root word.EndIf = end_rest opens.If
entry_rest root word.Source = a_path root gives λ file. Entry.Source file
entry_rest root word.MainMenu = a_text gives λ t. Entry.MainMenu

abbrev pub entry_place : Bytes → EntryWord → Place
entry_place root w = an_entry (entry_rest root w)

-- ---- answers

-- an answer is what reading gives
abbrev pub SaysBy : {A : Type 0} → Rest A → List LineWord → Result A LineBad → Type 0
SaysBy rest ws (Ok a) = rest ws ≡ Ok a
SaysBy rest ws (Err e) = Fails e (rest ws)

-- an answer is what reading gives, where something is read
abbrev pub SaysIf : {A : Type 0} → Option (Rest A) → List LineWord → Result A LineBad → Type 0
SaysIf (Some rest) ws r = SaysBy rest ws r
SaysIf None ws r = r ≡ Err (bad.Syntax fault.Attribute)

-- an entry that was read is what reading gives
abbrev pub GivesEntry : Result EntryLine LineBad → Result Entry LineBad → Type 0
GivesEntry (Ok e) read = read ≡ Ok (entry_of e)
GivesEntry (Err e) read = Fails e read

-- what an attribute says there
abbrev pub attribute_said : Attribute → ℕ → Before → List LineWord → Result Before LineBad
attribute_said a line before ws = wanted fault.Attribute (attribute_place a line before) >>= λ rest. rest ws

-- what an attribute says after each entry of this kind, and that it belongs to one
abbrev pub SaysAfter : Owner → Attribute → List LineWord → Result Says LineBad → Type 0
SaysAfter o a ws r = ((line : ℕ) (before : Before) → owner_of before ≡ o → SaysOf (attribute_said a line before ws) line before r) × IfOk r (IsOf o)

-- the entry that a word begins
abbrev pub BeginsEntry : Bytes → EntryWord → List LineWord → Result Says LineBad → Type 0
BeginsEntry root w ws (Ok s) = (e : EntryLine) × (s ≡ says.Entry e) × (entry_rest root w ws ≡ Ok (entry_of e))
BeginsEntry root w ws (Err e) = Fails e (entry_rest root w ws)
