-- The rules of the command are the rows of the table of options.
use Rattle.std.proofs.Common.{◌≡◌, ◌∙◌, ap₂, sym, refl, codes, ℕ, List, [], ◌∷◌, ◌++◌, Some, None, Option, Bool, true, false, cond, ◌&&◌, ◌==◌, map, not, is_some, option_map, find, filter}
use Rattle.std.specs.Str.{bytes_eq}
use Rattle.clap.specs.Words.{Rule, new_rule}
use Rattle.clap.specs.declared.builder.action.ArgAction.TheVariants.{Set, SetTrue}
use Rattle.clap.specs.Walk.{arg_by_id, arg_by_long, arg_by_short, has_long, has_short}
use Rattle.clap.specs.Simple.{built, filled, with_index}
use Rattle.ut_words.specs.Command.{the_app, file_rule}
use Rattle.clap.specs.Words.{Text}
use Rattle.ut_words.proofs.BoolLaws.{or_false, and_true, and_false}
use Rattle.ut_words.specs.Options.{OptionRow, Form, option_named, options}

-- the letter of a name, or the long name
unfoldable pub letter_of : Text → Option ℕ
letter_of (hyphen ∷ letter ∷ []) = Some letter
letter_of name = None

unfoldable pub long_name : Text → Option Text
long_name (hyphen ∷ hyphen_too ∷ byte ∷ rest) = Some (byte ∷ rest)
long_name name = None

-- the rule of a name with this form
unfoldable pub ruled : Text → Option Form → Rule
ruled name None = filled (record (new_rule name) { short = letter_of name; long = long_name name; action = Some SetTrue })
ruled name (Some form) = filled (record (new_rule name) { short = letter_of name; long = long_name name; action = Some Set })

unfoldable pub rule_for : OptionRow → Rule
rule_for row = ruled row.name row.form

-- the rule of FILE
unfoldable pub file : Rule
file = with_index 1 (filled file_rule)

-- the options that are built
abbrev pub known : List OptionRow
known = filter (λ row. row.built) options

pub rules-table : (built the_app).top.rules ≡ map rule_for known ++ file ∷ []
unfolding rule_for ruled letter_of long_name file
rules-table = refl

chosen : (b : Bool) (row : OptionRow) (others : Option OptionRow) → cond b (Some (rule_for row)) (option_map rule_for others) ≡ option_map rule_for (cond b (Some row) others)
chosen true row others = refl
chosen false row others = refl

-- the two tests agree on each row
pub Agree : (Rule → Bool) → (OptionRow → Bool) → List OptionRow → Type 0
Agree p q [] = Unit {0}
Agree p q (row ∷ rows) = (p (rule_for row) ≡ q row) × Agree p q rows

-- where two tests agree, the first row that passes has the first rule that does
pub found : (p : Rule → Bool) (q : OptionRow → Bool) (rows : List OptionRow) (tail : List Rule) → Agree p q rows → find p tail ≡ None
    → find p (map rule_for rows ++ tail) ≡ option_map rule_for (find q rows)
unfolding Agree
found p q [] tail agree none = none
found p q (row ∷ rows) tail agree none =
    ap₂ (λ b rest. cond b (Some (rule_for row)) rest) agree.0 (found p q rows tail agree.1 none) ∙ chosen (q row) row (find q rows)

by_long : Text → Rule → Bool
by_long name a = not (is_some a.index) && has_long a name

by_short : ℕ → Rule → Bool
by_short letter a = not (is_some a.index) && has_short a letter

by_name : Text → OptionRow → Bool
by_name name row = row.built && bytes_eq row.name name

pub long-table : (name : Text) → arg_by_long (built the_app).top.rules name ≡ option_map rule_for (option_named options (45 ∷ 45 ∷ name))
unfolding by_long by_name Agree rule_for ruled letter_of long_name file
long-table name =
    let e = λ (t : Text). or_false (bytes_eq t name) in
    found (by_long name) (by_name (45 ∷ 45 ∷ name)) known (file ∷ []) (refl, (refl, (e (codes "kconfig"), (e (codes "kbuild"), (e (codes "var"), (e (codes "steps"), (e (codes "evidence"), (e (codes "report"), (e (codes "trace"), (e (codes "white"), (e (codes "black"), (e (codes "style"), (e (codes "size"), tt))))))))))))) refl

-- the first character of a text is this ASCII one exactly where its first byte is: here for the letters of the table
pub short-table : (letter : ℕ) → arg_by_short (built the_app).top.rules letter ≡ option_map rule_for (option_named options (45 ∷ letter ∷ []))
unfolding by_short by_name Agree rule_for ruled letter_of long_name file
short-table letter =
    let e = λ (n : ℕ). or_false (n == letter) ∙ sym (and_true (n == letter)) in
    let f = sym (and_false (45 == letter)) in
    found (by_short letter) (by_name (45 ∷ letter ∷ [])) known (file ∷ [])
    (e 106, (e 116, (f, (f, (f, (f, (f, (f, (f, (f, (f, (f, (f, tt))))))))))))) refl

by_id : Text → Rule → Bool
by_id name a = bytes_eq a.id name

-- an option is found again by its name
pub id-table : (name : Text) → arg_by_id (built the_app).top.rules (45 ∷ name) ≡ option_map rule_for (option_named options (45 ∷ name))
unfolding by_id by_name Agree rule_for ruled letter_of long_name file
id-table name =
    found (by_id (45 ∷ name)) (by_name (45 ∷ name)) known (file ∷ [])
    (refl, (refl, (refl, (refl, (refl, (refl, (refl, (refl, (refl, (refl, (refl, (refl, (refl, tt))))))))))))) refl
