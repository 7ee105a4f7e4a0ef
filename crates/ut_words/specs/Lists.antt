-- Lists of wishes as texts of lines: white and black lists of symbols, and traces of lines of sources. This project's rule.
use Rattle.std.specs.Prelude.{◌≡◌, ℕ, ◌<◌, ◌≤◌, Bool, true, false, ◌&&◌, ◌||◌, ◌==◌, length, codes, decimal, List, [], ◌∷◌, ◌++◌, if◌then◌else◌}
use Rattle.std.specs.Str.{is_utf8}
use Rattle.line_texts.specs.Grammar as grammar
use Rattle.line_texts.specs.Lines.{lines_of}
use Rattle.ut_base.specs.Names.{is_name}
use Rattle.ut_text.specs.Bytes.{Bytes}
use Rattle.ut_text.specs.ByteClasses.{is_name_byte}
use Rattle.ut_words.specs.declared.wishes.ListKind.{ListKind}
use Rattle.ut_words.specs.declared.wishes.ListKind.TheVariants.{White, Black, Trace}
use Rattle.ut_words.specs.declared.wishes.ListWish.{ListWish}
use Rattle.ut_words.specs.declared.wishes.ListWish.TheVariants.{On, Off, Traced}
use Rattle.ut_words.specs.Spelled.{begins_with}
use Rattle.ut_words.specs.Values.{all_and_some, is_one_of}

-- the greatest number of a traced line
abbrev pub last_line : ℕ
last_line = 999999999

-- the most wishes of a run
abbrev pub most_wishes : ℕ
most_wishes = 65536

-- `CONFIG_X`, where X is letters, digits and `_`
pub record IsSymbolLine (line name : Bytes) : Type 0 where
  pub named : all_and_some is_name_byte name ≡ true
  pub text : line ≡ codes "CONFIG_" ++ name

-- `FILE:LINE`, where LINE is a number from 1 to 999999999
pub record IsPlace (line file : Bytes) (number : ℕ) : Type 0 where
  pub low : 0 < number
  pub high : number ≤ last_line
  pub text : line ≡ file ++ codes ":" ++ decimal number

-- the name of a file
abbrev pub is_file : Bytes → Bool
is_file file = is_utf8 file && is_name file

-- `FILE:LINE`, where FILE is the name of a file
pub record IsTraceLine (line file : Bytes) (number : ℕ) : Type 0 where
  pub place : IsPlace line file number
  pub named : is_file file ≡ true

-- a line of a list of this kind has this wish
abbrev pub IsLineOf : ListKind → Bytes → ListWish → Type 0
IsLineOf White line (On name) = IsSymbolLine line name
IsLineOf White line (Off name) = ⊥
IsLineOf White line (Traced file number) = ⊥
IsLineOf Black line (On name) = ⊥
IsLineOf Black line (Off name) = IsSymbolLine line name
IsLineOf Black line (Traced file number) = ⊥
IsLineOf Trace line (On name) = ⊥
IsLineOf Trace line (Off name) = ⊥
IsLineOf Trace line (Traced file number) = IsTraceLine line file number

-- an empty line, or one that begins with `#`
abbrev pub is_skipped : Bytes → Bool
is_skipped line = length line == 0 || begins_with (codes "#") line

-- the lines that count so far, and their wishes
pub record Kept : Type 0 where
  pub lines : List Bytes
  pub wishes : List ListWish

abbrev pub nothing_kept : Kept
nothing_kept = record { lines = []; wishes = [] }

-- with one line more, unless it repeats an earlier one
abbrev pub with_line : Bytes → ListWish → Kept → Kept
with_line line wish kept =
    if is_one_of kept.lines line then kept else record { lines = kept.lines ++ line ∷ []; wishes = kept.wishes ++ wish ∷ [] }

-- a line of the list, which is skipped or has a wish
abbrev pub TakesLine : ListKind → Bool → Kept → Bytes → Kept → Type 0
TakesLine kind true kept line next = next ≡ kept
TakesLine kind false kept line next = (wish : ListWish) × IsLineOf kind line wish × (next ≡ with_line line wish kept)

abbrev pub Takes : ListKind → Kept → Bytes → List Bytes → Kept → Type 0
Takes kind kept line after next = TakesLine kind (is_skipped line) kept line next

-- the list has the wishes of its lines
abbrev pub Ends : Kept → List ListWish → Type 0
Ends kept wishes = wishes ≡ kept.wishes

-- a text is a list of this kind with these wishes
abbrev pub IsList : ListKind → Bytes → List ListWish → Type 0
IsList kind bytes wishes = grammar.Says (Takes kind) Ends nothing_kept (lines_of bytes) wishes

-- the line with this number, counted from 1, is the first one that isn't of the list
abbrev pub IsFirstOutside : ListKind → Bytes → ℕ → Type 0
IsFirstOutside kind bytes number = grammar.IsOutsideLine (Takes kind) Ends nothing_kept (lines_of bytes) number

-- the wishes of a run: the white names, the black names, the traced lines
abbrev pub wishes_of : List ListWish → List ListWish → List ListWish → List ListWish
wishes_of white black trace = white ++ black ++ trace
