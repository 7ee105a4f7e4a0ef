-- What a word that begins with a hyphen comes to, by clap and by the definition.
use Rattle.std.proofs.Common.{◌≡◌, ◌∙◌, ap, ap₂, sym, subst, refl, codes, ℕ, List, [], ◌∷◌, Some, None, Option, Bool, true, false, ◌&&◌, ◌==◌, option_map, is_some}
use Rattle.std.proofs.lemmas.Bool.{eqb-true, eq-eqb, false≢true}
use Rattle.std.specs.Str.{bytes_eq, IsUtf8}
use Rattle.clap.specs.Words.{Row, Text}
use Rattle.clap.specs.Lexer.{name_and_value}
use Rattle.clap.specs.Walk.{Waiting, Walk, idle, option, walked, settled_rows, arg_by_id, with_values, without}
use Rattle.clap.specs.Faults.{turn_fault, repeat_fault}
use Rattle.clap.specs.Kinds.{Kinds, or_else}
use Rattle.clap.specs.declared.error.kind.ErrorKind.TheVariants as kind
use Rattle.clap.specs.declared.builder.value_parser.Reading.{Reading}
use Rattle.clap.specs.declared.parser.matches.ValueSource.TheVariants.{CommandLine}
use Rattle.ut_words.specs.Spelled.{spelled, joined}
use Rattle.ut_words.specs.Options.{OptionRow, Form, a_job, a_number, option_named, options}
use Rattle.ut_words.specs.Said.{Others, with_option, named_said, option_said, word_said}
use Rattle.ut_words.proofs.BoolLaws.{find_passes, same_text_of, right_of}
use Rattle.ut_words.proofs.Nil.{is_nil}
use Rattle.ut_words.proofs.FirstCharacter.{first_character, no_letter}
use Rattle.ut_words.proofs.Looks.{short-spelled}
use Rattle.ut_words.proofs.Rules.{ruled, rule_for, id-table}
use Rattle.ut_words.proofs.Turns.{shape, rules, at, option_at, met, long_option_turn}
use Rattle.ut_words.proofs.ShortTurns.{IsLetter, letter-j, letter-t, short_option_turn}
use Rattle.ut_words.proofs.TurnFaults.{option_refused, unknown_refused, option_turn_refused}
use Rattle.ut_words.proofs.ShortFaults.{short_refused, short_unknown}
use Rattle.ut_words.proofs.PlainFaults.{settling}
use Rattle.ut_words.proofs.Shown.{IsFlag, evidence}

-- the word uses an option with a value, lets an option wait for its value, or is refused
pub data Turn (rows : List Row) (pending : Option (Text × List Text)) (waiting : Waiting) (word : Text) : Type 0 where
  Uses : (rest value : Text) (how : Reading)
      → walked rules [] (at rows pending waiting) word ≡ at (with_values (45 ∷ rest) how CommandLine (value ∷ []) (without (45 ∷ rest) (settled_rows rules pending rows))) None idle
      → turn_fault shape [] (at rows pending waiting) word ≡ or_else (settling rows pending) (repeat_fault false (45 ∷ rest) (settled_rows rules pending rows))
      → IsFlag (45 ∷ rest) value
      → ((words : List Text) (others : Others) → word_said options word (spelled word) words others ≡ option_map (with_option (45 ∷ rest) value) (others None))
      → Turn rows pending waiting word
  Waits : (rest : Text) (form : Form) → bytes_eq (45 ∷ rest) evidence ≡ false → arg_by_id rules (45 ∷ rest) ≡ Some (ruled (45 ∷ rest) (Some form))
      → walked rules [] (at rows pending waiting) word ≡ at (settled_rows rules pending rows) (Some (45 ∷ rest, [])) (option (45 ∷ rest))
      → turn_fault shape [] (at rows pending waiting) word ≡ settling rows pending
      → ((words : List Text) (others : Others) → word_said options word (spelled word) words others ≡ others (Some (45 ∷ rest)))
      → Turn rows pending waiting word
  Refused : is_nil (turn_fault shape [] (at rows pending waiting) word) ≡ false
      → ((words : List Text) (others : Others) → word_said options word (spelled word) words others ≡ None)
      → Turn rows pending waiting word

-- the flag is no option with a value
has_form : Option OptionRow → Bool
has_form None = false
has_form (Some row) = is_some row.form

valued_is_no_flag : (rest : Text) (form : Form) → option_named options (45 ∷ rest) ≡ Some (record { name = 45 ∷ rest; form = Some form; built = true })
    → bytes_eq (45 ∷ rest) evidence ≡ false
unfolding has_form
valued_is_no_flag rest form named = by (bytes_eq (45 ∷ rest) evidence) refl
  where
    by : (b : Bool) → bytes_eq (45 ∷ rest) evidence ≡ b → b ≡ false
    by false other = refl
    by true same = absurd (false≢true (ap (λ n. has_form (option_named options n)) (sym (same_text_of (45 ∷ rest) evidence same)) ∙ ap has_form named))

-- an option's word, by the option's form and the value in the word
option_word_turn : (rows : List Row) (pending : Option (Text × List Text)) (waiting : Waiting) (word rest : Text) (form : Option Form) (v : Option Text) (other : Walk)
    → option_named options (45 ∷ rest) ≡ Some (record { name = 45 ∷ rest; form = form; built = true })
    → walked rules [] (at rows pending waiting) word ≡ option_at (settled_rows rules pending rows) (45 ∷ rest) form v other
    → turn_fault shape [] (at rows pending waiting) word ≡ option_refused rows pending (45 ∷ rest) form v
    → ((words : List Text) (others : Others) → word_said options word (spelled word) words others ≡ option_said (45 ∷ rest) form v others)
    → Turn rows pending waiting word
unfolding option_at option_refused ruled is_nil rule_for
option_word_turn rows pending waiting word rest None None other named turn fault says = Turn.Uses rest (codes "true") _ turn fault (λ e. refl) says
option_word_turn rows pending waiting word rest None (Some v) other named turn fault says = Turn.Refused (ap is_nil fault) says
option_word_turn rows pending waiting word rest (Some form) (Some v) other named turn fault says = Turn.Uses rest v _ turn fault (λ e. absurd (false≢true (sym (valued_is_no_flag rest form named) ∙ e))) says
option_word_turn rows pending waiting word rest (Some form) None other named turn fault says =
    Turn.Waits rest form (valued_is_no_flag rest form named) (id-table rest ∙ ap (option_map rule_for) named) turn fault says

-- a row that is found has the name that is looked for, and is built
found_row : (name : Text) (row : OptionRow) → option_named options name ≡ Some row → row ≡ record { name = name; form = row.form; built = true }
found_row name row named =
    let passes : (row.built && bytes_eq row.name name) ≡ true = find_passes (λ (r : OptionRow). r.built && bytes_eq r.name name) options row named in
    let name_is : row.name ≡ name = same_text_of row.name name (right_of row.built (bytes_eq row.name name) passes) in
    by row.built refl passes name_is
  where
    by : (b : Bool) → row.built ≡ b → (b && bytes_eq row.name name) ≡ true → row.name ≡ name → row ≡ record { name = name; form = row.form; built = true }
    by true is p name_is = ap₂ (λ n b. record { name = n; form = row.form; built = b }) name_is is
    by false is p name_is = absurd (false≢true p)

not_nil : (kinds : Kinds) → kinds ≡ kind.UnknownArgument ∷ [] → is_nil kinds ≡ false
unfolding is_nil
not_nil kinds e = ap is_nil e

-- a word of two hyphens and more
pub long_word_turn : (rows : List Row) (pending : Option (Text × List Text)) (waiting : Waiting) (byte : ℕ) (rest : Text) → Turn rows pending waiting (45 ∷ 45 ∷ byte ∷ rest)
long_word_turn rows pending waiting byte rest = by (option_named options (45 ∷ 45 ∷ (name_and_value (byte ∷ rest)).0)) refl
  where
    by : (found : Option OptionRow) → option_named options (45 ∷ 45 ∷ (name_and_value (byte ∷ rest)).0) ≡ found → Turn rows pending waiting (45 ∷ 45 ∷ byte ∷ rest)
    by None unknown =
        let name = 45 ∷ 45 ∷ (name_and_value (byte ∷ rest)).0 in
        Turn.Refused (not_nil (turn_fault shape [] (at rows pending waiting) (45 ∷ 45 ∷ byte ∷ rest)) (unknown_refused rows pending waiting byte rest unknown))
        (λ words others. ap (λ f. named_said name f (name_and_value (byte ∷ rest)).1 others) unknown)
    by (Some row) named =
        let name = 45 ∷ 45 ∷ (name_and_value (byte ∷ rest)).0 in
        let v = (name_and_value (byte ∷ rest)).1 in
        let word = 45 ∷ 45 ∷ byte ∷ rest in
        let found : OptionRow = record { name = name; form = row.form; built = true } in
        let named' : option_named options name ≡ Some found = named ∙ ap (λ (r : OptionRow). Some r) (found_row name row named) in
        option_word_turn rows pending waiting word (45 ∷ (name_and_value (byte ∷ rest)).0) row.form v
        (met rows pending waiting word (Some (rule_for found)) v) named'
        (long_option_turn rows pending waiting byte rest found named')
        (option_turn_refused rows pending waiting byte rest found named')
        (λ words others. ap (λ f. named_said name f v others) named')

-- a word of one hyphen and a letter of an option
letter_turn : (rows : List Row) (pending : Option (Text × List Text)) (waiting : Waiting) (letter : ℕ) (rest : Text) (form : Form) → IsLetter letter
    → option_named options (45 ∷ letter ∷ []) ≡ Some (record { name = 45 ∷ letter ∷ []; form = Some form; built = true }) → Turn rows pending waiting (45 ∷ letter ∷ rest)
letter_turn rows pending waiting letter rest form is named =
    let row : OptionRow = record { name = 45 ∷ letter ∷ []; form = Some form; built = true } in
    let word = 45 ∷ letter ∷ rest in
    option_word_turn rows pending waiting word (letter ∷ []) (Some form) (joined rest) (at rows None idle) named
    (short_option_turn rows pending waiting letter rest row form (at rows None idle) is named refl)
    (short_refused rows pending waiting letter rest row form is named refl)
    (λ words others. ap (λ s. word_said options word s words others) (short-spelled letter rest is.other)
    ∙ ap (λ f. named_said (45 ∷ letter ∷ []) f (joined rest) others) named)

-- a test that doesn't hold, since what it would show doesn't
not_so : (b c : Bool) → (b ≡ true → c ≡ true) → c ≡ false → b ≡ false
not_so true c shows h = absurd (false≢true (sym h ∙ shows refl))
not_so false c shows h = refl

-- a word of one hyphen and more
pub short_word_turn : (rows : List Row) (pending : Option (Text × List Text)) (waiting : Waiting) (letter : ℕ) (rest : Text)
    → (letter == 45) ≡ false → IsUtf8 (45 ∷ letter ∷ rest) → Turn rows pending waiting (45 ∷ letter ∷ rest)
short_word_turn rows pending waiting letter rest other utf8 = by (106 == letter) refl (116 == letter) refl
  where
    by : (j : Bool) → (106 == letter) ≡ j → (t : Bool) → (116 == letter) ≡ t → Turn rows pending waiting (45 ∷ letter ∷ rest)
    by true is t is_t = subst (λ n. Turn rows pending waiting (45 ∷ n ∷ rest)) (eqb-true 106 letter is) (letter_turn rows pending waiting 106 rest a_job letter-j refl)
    by false not_j true is = subst (λ n. Turn rows pending waiting (45 ∷ n ∷ rest)) (eqb-true 116 letter is) (letter_turn rows pending waiting 116 rest (a_number 1 64) letter-t refl)
    by false not_j false not_t =
        let first = first_character letter rest utf8 in
        let j : (106 == first.character) ≡ false = not_so (106 == first.character) (106 == letter) (λ e. eq-eqb 106 letter (sym (first.is_j e))) not_j in
        let t : (116 == first.character) ≡ false = not_so (116 == first.character) (116 == letter) (λ e. eq-eqb 116 letter (sym (first.is_t e))) not_t in
        Turn.Refused (short_unknown rows pending waiting letter rest first.character other first.first (no_letter first.character j t))
        (λ words others. ap (λ s. word_said options (45 ∷ letter ∷ rest) s words others) (short-spelled letter rest other)
        ∙ ap (λ f. named_said (45 ∷ letter ∷ []) f (joined rest) others) (no_letter letter not_j not_t))
