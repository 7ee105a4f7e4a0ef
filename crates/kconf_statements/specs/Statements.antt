-- The statements of Kconfig texts in one table, in the order of the document: the first words, where the line may
-- stand, and what its other words are wanted to be and say. Rule: Linux kconfig-language, "Menu entries", "Menu
-- attributes" and "Kconfig syntax".
use Rattle.std.specs.Prelude.{ℕ, ◌++◌, codes, Option, None, Some, Result, Ok, List, [], ◌∷◌, if◌then◌else◌}
use Rattle.kconf_words.specs.declared.line_bad.SyntaxKind.TheVariants as fault
use Rattle.kconf_entries.specs.declared.entries.Kind.TheVariants as kind
use Rattle.kconf_entries.specs.declared.expr.Expr.{Expr}
use Rattle.kconf_words.specs.declared.line_words.LineWord.{LineWord}
use Rattle.ut_text.specs.Bytes.{Bytes}
use Rattle.ut_text.specs.Results.{◌>>=◌}
use Rattle.kconf_words.specs.declared.line_bad.LineBad.{LineBad}
use Rattle.kconf_statements.specs.declared.lines.Opens.TheVariants as opens
use Rattle.kconf_statements.specs.declared.lines.ConfigLine.{ConfigLine}
use Rattle.kconf_statements.specs.declared.lines.ConfigLine.TheVariants as config
use Rattle.kconf_statements.specs.declared.lines.ChoiceLine.{ChoiceLine}
use Rattle.kconf_statements.specs.declared.lines.ChoiceLine.TheVariants as choice
use Rattle.kconf_statements.specs.declared.lines.MenuLine.{MenuLine}
use Rattle.kconf_statements.specs.declared.lines.MenuLine.TheVariants as menu
use Rattle.kconf_words.specs.Kinds.{is_word}
use Rattle.kconf_rests.specs.Rests.{Rest, wanted, nothing, a_text, a_name, a_name_or_nothing, a_path, an_expression, a_prompt, a_prompt_or_none, a_target, a_value, two_words, anything}
use Rattle.kconf_statements.specs.EntryLines.{new_config, new_choice, new_menu, config_with, choice_with, menu_with, Entry, At, Before}
use Rattle.kconf_statements.specs.Standing.{begun}

-- a place: for a line and the entries before it, what reads the words after the first ones and gives the entries with
-- what they say; none where the statement may not stand there
abbrev pub Place : Type 0
Place = ℕ → Before → Option (Rest Before)

-- what the words say, as an entry or an attribute
infixl 20 ◌gives◌
abbrev pub ◌gives◌ : {A B : Type 0} → Rest A → (A → B) → Rest B
(rest gives f) ws = rest ws >>= λ x. Ok (f x)

-- an entry of its own, after every other
abbrev pub an_entry : Rest Entry → Place
an_entry rest line before = Some (λ ws. rest ws >>= begun line before)

-- an attribute of the config before it; where another entry stands there, it is refused
abbrev pub of_config : Rest ConfigLine → Place
of_config rest line (At own (Entry.Config c) ∷ before) = Some (rest gives λ a. At own (Entry.Config (config_with c a)) ∷ before)
of_config rest line before = None

-- an attribute of the choice before it
abbrev pub of_choice : Rest ChoiceLine → Place
of_choice rest line (At own (Entry.Choice c) ∷ before) = Some (rest gives λ a. At own (Entry.Choice (choice_with c a)) ∷ before)
of_choice rest line before = None

-- an attribute of the menu before it
abbrev pub of_menu : Rest MenuLine → Place
of_menu rest line (At own (Entry.Menu m) ∷ before) = Some (rest gives λ a. At own (Entry.Menu (menu_with m a)) ∷ before)
of_menu rest line before = None

-- the condition of a comment is without effect
abbrev pub of_comment : Rest Expr → Place
of_comment rest line (At own Entry.Comment ∷ before) = Some (rest gives λ e. At own Entry.Comment ∷ before)
of_comment rest line before = None

-- one place or another
abbrev pub first_of : Option (Rest Before) → Option (Rest Before) → Option (Rest Before)
first_of None other = other
first_of (Some rest) other = Some rest

-- where it may not stand in the one place, it may in the other
infixl 15 ◌or◌
abbrev pub ◌or◌ : Place → Place → Place
(p or q) line before = first_of (p line before) (q line before)

-- a row of the table
pub record Row : Type 0 where
  pub words : List Bytes
  pub place : Place

-- a row with one first word
abbrev pub row : Bytes → Place → Row
row word place = record { words = word ∷ []; place = place }

-- a row with two first words
abbrev pub row_of_two : Bytes → Bytes → Place → Row
row_of_two word next place = record { words = word ∷ next ∷ []; place = place }

-- the attributes, as in "Menu attributes"
abbrev pub attributes : List Row
attributes =
    row (codes "bool") (of_config (a_prompt_or_none gives config.Typed kind.Bool)
    or of_choice (a_prompt_or_none gives choice.Typed kind.Bool))
    ∷ row (codes "tristate") (of_config (a_prompt_or_none gives config.Typed kind.Tristate)
    or of_choice (a_prompt_or_none gives choice.Typed kind.Tristate))
    ∷ row (codes "string") (of_config (a_prompt_or_none gives config.Typed kind.Str))
    ∷ row (codes "hex") (of_config (a_prompt_or_none gives config.Typed kind.Hex))
    ∷ row (codes "int") (of_config (a_prompt_or_none gives config.Typed kind.Int))
    ∷ row (codes "prompt") (of_config (a_prompt gives config.Prompt) or of_choice (a_prompt gives choice.Prompt))
    ∷ row (codes "default") (of_config (a_value gives config.Default) or of_choice (a_target gives choice.Default))
    ∷ row (codes "def_bool") (of_config (a_value gives config.TypedDefault kind.Bool))
    ∷ row (codes "def_tristate") (of_config (a_value gives config.TypedDefault kind.Tristate))
    ∷ row_of_two (codes "depends") (codes "on") (of_config (an_expression gives config.DependsOn)
    or of_choice (an_expression gives choice.DependsOn) or of_menu (an_expression gives menu.DependsOn) or of_comment an_expression)
    ∷ row (codes "select") (of_config (a_target gives config.Select))
    ∷ row (codes "imply") (of_config (a_target gives config.Imply))
    ∷ row_of_two (codes "visible") (codes "if") (of_menu (an_expression gives menu.VisibleIf))
    ∷ row (codes "range") (of_config (two_words gives λ t. config.Range))
    ∷ row (codes "help") (of_config (nothing gives λ t. config.Help) or of_choice (nothing gives λ t. choice.Help))
    ∷ row (codes "---help---") (of_config (nothing gives λ t. config.Help) or of_choice (nothing gives λ t. choice.Help))
    ∷ row (codes "option") (of_config (anything gives config.AnyOption))
    ∷ row (codes "modules") (of_config (nothing gives λ t. config.Modules))
    ∷ row (codes "optional") (of_choice (nothing gives λ t. choice.Optional))
    ∷ []

-- the entries and end words, as in "Kconfig syntax", for texts that are read beside this root text
abbrev pub entry_rows : Bytes → List Row
entry_rows root =
    row (codes "config") (an_entry (a_name gives λ name. Entry.Config (new_config name)))
    ∷ row (codes "menuconfig") (an_entry (a_name gives λ name. Entry.Config (new_config name)))
    ∷ row (codes "choice") (an_entry (a_name_or_nothing gives λ name. Entry.Choice (new_choice name)))
    ∷ row (codes "endchoice") (an_entry (nothing gives λ t. Entry.End opens.Choice))
    ∷ row (codes "comment") (an_entry (a_text gives λ t. Entry.Comment))
    ∷ row (codes "menu") (an_entry (a_text gives λ t. Entry.Menu new_menu))
    ∷ row (codes "endmenu") (an_entry (nothing gives λ t. Entry.End opens.Menu))
    ∷ row (codes "if") (an_entry (an_expression gives Entry.If))
    ∷ row (codes "endif") (an_entry (nothing gives λ t. Entry.End opens.If))
    ∷ row (codes "source") (an_entry (a_path root gives Entry.Source))
    ∷ row (codes "mainmenu") (an_entry (a_text gives λ t. Entry.MainMenu))
    ∷ []

-- the table
abbrev pub statements : Bytes → List Row
statements root = attributes ++ entry_rows root

-- the words after these words
abbrev pub words_after : List Bytes → List LineWord → Option (List LineWord)
words_after [] ws = Some ws
words_after (text ∷ texts) [] = None
words_after (text ∷ texts) (w ∷ ws) = if is_word text w then words_after texts ws else None

-- the place of the first row whose words a line begins with, and the words after them
abbrev pub or_in : Place → Option (List LineWord) → Option (Place × List LineWord) → Option (Place × List LineWord)
or_in place (Some ws) others = Some (place, ws)
or_in place None others = others

-- the row that a line of words begins with
abbrev pub row_of : List Row → List LineWord → Option (Place × List LineWord)
row_of [] ws = None
row_of (r ∷ rs) ws = or_in r.place (words_after r.words ws) (row_of rs ws)

-- the entries with what a line of words says
abbrev pub said : Bytes → ℕ → Before → List LineWord → Result Before LineBad
said root line before ws =
    wanted fault.Word (row_of (statements root) ws) >>= λ r. wanted fault.Attribute (r.0 line before) >>= λ rest. rest r.1
