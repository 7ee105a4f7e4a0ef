-- What the words say: which options are given with which values, and which words are FILEs. This project's rule.
use Rattle.std.specs.Prelude.{Bool, map, find, codes, bytes_eq, Option, None, Some, option_map, option_and_then, List, [], ◌∷◌, if◌then◌else◌}
use Rattle.std.specs.Option.{is_some}
use Rattle.ut_text.specs.Bytes.{Bytes}
use Rattle.ut_words.specs.Spelled.{Spelled, is_plain, spelled}
use Rattle.ut_words.specs.Values.{are_distinct}
use Rattle.ut_words.specs.Options.{OptionRow, Form, option_named}

-- the options in order, each with its value (a flag with `true`), and the FILE words in order
pub record Said : Type 0 where
  pub options : List (Bytes × Bytes)
  pub files : List Bytes

-- an option before what the other words say
abbrev pub with_option : Bytes → Bytes → Said → Said
with_option name value said = record said { options = (name, value) ∷ said.options }

-- a FILE before what the other words say
abbrev pub with_file : Bytes → Said → Said
with_file word said = record said { files = word ∷ said.files }

-- after `--` all words are FILEs
abbrev pub all_files : List Bytes → Option Said
all_files words = Some (record { options = []; files = words })

-- what the other words say where an option waits for its value, or none does; nothing where they are refused
abbrev pub Others : Type 0
Others = Option Bytes → Option Said

-- an option with the form of its value (none for a flag), and with the value in its word, before other words
abbrev pub option_said : Bytes → Option Form → Option Bytes → Others → Option Said
option_said name None None others = option_map (with_option name (codes "true")) (others None)
option_said name None (Some value) others = None
option_said name (Some form) (Some value) others = option_map (with_option name value) (others None)
option_said name (Some form) None others = others (Some name)

-- an option of the table before other words; an unknown one is refused
abbrev pub named_said : Bytes → Option OptionRow → Option Bytes → Others → Option Said
named_said name None value others = None
named_said name (Some row) value others = option_said name row.form value others

-- a word before other words, where no option waits for its value
abbrev pub word_said : List OptionRow → Bytes → Spelled → List Bytes → Others → Option Said
word_said table word Spelled.Plain words others = option_map (with_file word) (others None)
word_said table word Spelled.Dashes words others = all_files words
word_said table word (Spelled.Named name value) words others = named_said name (option_named table name) value others

-- a word that an option waits for is its value
abbrev pub value_said : Bytes → Bytes → Option Said → Option Said
value_said name word others = if is_plain word then option_map (with_option name word) others else None

-- what words say, word by word
abbrev pub words_said : List OptionRow → Option Bytes → List Bytes → Option Said
words_said table None [] = all_files []
words_said table (Some name) [] = None
words_said table None (word ∷ words) = word_said table word (spelled word) words (λ waits. words_said table waits words)
words_said table (Some name) (word ∷ words) = value_said name word (words_said table None words)

-- no option stands twice
abbrev pub is_once : Said → Bool
is_once said = are_distinct (map (λ given. given.0) said.options)

-- what words say by a table of options; nothing where they are refused
abbrev pub said_by : List OptionRow → List Bytes → Option Said
said_by table words = option_and_then (λ said. if is_once said then Some said else None) (words_said table None words)

-- the value of an option that is given
abbrev pub given : Bytes → Said → Option Bytes
given name said = option_map (λ given. given.1) (find (λ given. bytes_eq given.0 name) said.options)

-- an option is given
abbrev pub is_given : Said → Bytes → Bool
is_given said name = is_some (given name said)
