-- What clap refuses at a word of one hyphen and a letter, wherever the walk stands.
use Rattle.std.proofs.Common.{◌≡◌, ◌∙◌, ap, ap₂, refl, ℕ, List, [], ◌∷◌, Some, None, Option, Bool, false, if◌then◌else◌, ◌&&◌, ◌==◌, option_map, length, drop, slice_get}
use Rattle.std.specs.Option.{option_map_or}
use Rattle.std.specs.Str.{bytes_eq, chars}
use Rattle.std.specs.Char.{encode_utf8}
use Rattle.clap.specs.Words.{Row, Text}
use Rattle.clap.specs.Lexer.{long_of, short_of}
use Rattle.clap.specs.Walk.{Held, Outcome, Waiting, idle, option, positional, trailing, long_or_other, short_or_plain, short_met, option_met, bundle, bundle_met, attached_value, after_flag, settled_rows, arg_by_short}
use Rattle.clap.specs.Faults.{turn_fault, flag_word_fault, bundle_fault, bundle_step_fault, flags_fault, short_fault, option_fault, settle_fault, repeat_fault, step_fault}
use Rattle.clap.specs.Kinds.{Kinds, or_else}
use Rattle.ut_words.specs.Spelled.{joined}
use Rattle.ut_words.specs.Options.{OptionRow, Form, option_named, options}
use Rattle.ut_words.proofs.Rules.{ruled, rule_for, short-table}
use Rattle.ut_words.proofs.Looks.{short-looks, short-long_of}
use Rattle.ut_words.proofs.Turns.{shape, rules, at}
use Rattle.ut_words.proofs.ShortTurns.{IsLetter, attached-joined, one_letter}
use Rattle.ut_words.proofs.TurnFaults.{option_refused, or_nothing}
use Rattle.ut_words.proofs.Nil.{is_nil}

-- what is refused at a word of letters, and at what it comes to
bundle_refused : List Row → Option (Text × List Text) → Waiting → Text → Kinds → Held × Outcome → Kinds
bundle_refused rows pending waiting word faults met =
    or_else faults (step_fault shape 1 (after_flag rules waiting word met.0 met.1).0 (after_flag rules waiting word met.0 met.1).1)

-- the two halves of a turn's faults, by whether the letter is a hyphen, and by how the word looks
halves : Waiting → Text → Text → Held → Bool → Kinds
halves waiting word rest h t =
    or_else (if t && bytes_eq rest [] then [] else flag_word_fault rules false (long_of word) word h)
    (step_fault shape 1 (if t && bytes_eq rest [] then (h, trailing 1) else long_or_other rules waiting word (long_of word) h).0
    (if t && bytes_eq rest [] then (h, trailing 1) else long_or_other rules waiting word (long_of word) h).1)

looked : Waiting → Text → Held → Option (Text × Option Text) → Option Text → Kinds
looked waiting word h None s = or_else (option_map_or (λ flags. bundle_fault rules false flags h) s [])
    (step_fault shape 1 (short_or_plain rules waiting word s h).0 (short_or_plain rules waiting word s h).1)
looked waiting word h (Some p) s = []

by_looks : (waiting : Waiting) (word : Text) (h : Held) → long_of word ≡ None
    → or_else (flag_word_fault rules false (long_of word) word h) (step_fault shape 1 (long_or_other rules waiting word (long_of word) h).0 (long_or_other rules waiting word (long_of word) h).1)
    ≡ looked waiting word h None (short_of word)
unfolding looked
by_looks waiting word h none =
    ap (λ l. or_else (flag_word_fault rules false l word h) (step_fault shape 1 (long_or_other rules waiting word l h).0 (long_or_other rules waiting word l h).1)) none

letters_refused : (rows : List Row) (pending : Option (Text × List Text)) (waiting : Waiting) (letter : ℕ) (rest : Text) → (letter == 45) ≡ false
    → turn_fault shape [] (at rows pending waiting) (45 ∷ letter ∷ rest)
    ≡ bundle_refused rows pending waiting (45 ∷ letter ∷ rest) (bundle_fault rules false (letter ∷ rest) (at rows pending waiting).held) (bundle rules (letter ∷ rest) (at rows pending waiting).held)
unfolding bundle_refused halves looked
letters_refused rows pending waiting letter rest h = start waiting ∙ ap (halves waiting word rest held) h
    ∙ by_looks waiting word held (short-long_of letter rest h) ∙ ap (looked waiting word held None) (short-looks letter rest h)
  where
    word : Text
    word = 45 ∷ letter ∷ rest

    held : Held
    held = (at rows pending idle).held

    start : (w : Waiting) → turn_fault shape [] (at rows pending w) (45 ∷ letter ∷ rest) ≡ halves w (45 ∷ letter ∷ rest) rest (at rows pending idle).held (letter == 45)
    start idle = refl
    start (option id) = refl
    start positional = refl

-- what is refused at the first letter
one_letter_refused : (rows : List Row) (pending : Option (Text × List Text)) (waiting : Waiting) (letter : ℕ) (rest : Text) → IsLetter letter
    → bundle_fault rules false (letter ∷ rest) (at rows pending waiting).held
    ≡ short_fault rules false (arg_by_short rules letter) rest (at rows pending waiting).held (flags_fault rules false (length rest) rest 0)
unfolding flags_fault
one_letter_refused rows pending waiting letter rest is =
    let h = (at rows pending waiting).held in
    ap (λ x. bundle_step_fault rules false x (letter ∷ rest) 0 h (flags_fault rules false (length rest))) (is.first rest)
    ∙ ap (λ r. short_fault rules false (arg_by_short rules letter) r h (flags_fault rules false (length rest) r 0)) (is.rest_is rest)

by_value : (rows : List Row) (pending : Option (Text × List Text)) (waiting : Waiting) (word name rest : Text) (form : Form) (v : Option Text) → attached_value rest ≡ v
    → bundle_refused rows pending waiting word
    (short_fault rules false (Some (ruled name (Some form))) rest (at rows pending waiting).held (flags_fault rules false (length rest) rest 0))
    (short_met rules (Some (ruled name (Some form))) rest (at rows pending waiting).held (bundle_met rules (length rest) rest 0 Outcome.done))
    ≡ option_refused rows pending name (Some form) v
unfolding bundle_refused ruled option_refused
by_value rows pending waiting word name rest form (Some v) is =
    let h = (at rows pending idle).held in
    ap (λ a. bundle_refused rows pending waiting word (option_fault rules false (ruled name (Some form)) a h) (option_met rules (ruled name (Some form)) a h)) is
    ∙ or_nothing _ ∙ ap (or_else (settle_fault rules false h)) (or_nothing (repeat_fault false name (settled_rows rules pending rows)))
by_value rows pending waiting word name rest form None is =
    let h = (at rows pending idle).held in
    ap (λ a. bundle_refused rows pending waiting word (option_fault rules false (ruled name (Some form)) a h) (option_met rules (ruled name (Some form)) a h)) is
    ∙ or_nothing _

-- an option of one letter is refused exactly as its occurrence is
pub short_refused : (rows : List Row) (pending : Option (Text × List Text)) (waiting : Waiting) (letter : ℕ) (rest : Text) (row : OptionRow) (form : Form)
    → IsLetter letter → option_named options (45 ∷ letter ∷ []) ≡ Some row → row.form ≡ Some form
    → turn_fault shape [] (at rows pending waiting) (45 ∷ letter ∷ rest) ≡ option_refused rows pending row.name (Some form) (joined rest)
unfolding rule_for
short_refused rows pending waiting letter rest row form is named formed =
    let h = (at rows pending waiting).held in
    let word = 45 ∷ letter ∷ rest in
    let rule_is : arg_by_short rules letter ≡ Some (ruled row.name (Some form)) =
    short-table letter ∙ ap (option_map rule_for) named ∙ ap (λ f. Some (ruled row.name f)) formed in
    letters_refused rows pending waiting letter rest is.other
    ∙ ap₂ (bundle_refused rows pending waiting word) (one_letter_refused rows pending waiting letter rest is) (one_letter rows pending waiting letter rest is)
    ∙ ap (λ rule. bundle_refused rows pending waiting word (short_fault rules false rule rest h (flags_fault rules false (length rest) rest 0)) (short_met rules rule rest h (bundle_met rules (length rest) rest 0 Outcome.done))) rule_is
    ∙ by_value rows pending waiting word row.name rest form (joined rest) (attached-joined rest)

-- a word whose first character is the letter of no option is refused
pub short_unknown : (rows : List Row) (pending : Option (Text × List Text)) (waiting : Waiting) (letter : ℕ) (rest : Text) (character : ℕ)
    → (letter == 45) ≡ false → slice_get (chars (letter ∷ rest)) 0 ≡ Some character → option_named options (45 ∷ character ∷ []) ≡ None
    → is_nil (turn_fault shape [] (at rows pending waiting) (45 ∷ letter ∷ rest)) ≡ false
unfolding flags_fault bundle_refused is_nil
short_unknown rows pending waiting letter rest character other first unknown =
    let h = (at rows pending waiting).held in
    let after = drop (length (encode_utf8 character)) (letter ∷ rest) in
    ap is_nil (letters_refused rows pending waiting letter rest other
    ∙ ap (λ k. bundle_refused rows pending waiting (45 ∷ letter ∷ rest) k (bundle rules (letter ∷ rest) h))
    (ap (λ x. bundle_step_fault rules false x (letter ∷ rest) 0 h (flags_fault rules false (length rest))) first
    ∙ ap (λ rule. short_fault rules false rule after h (flags_fault rules false (length rest) after 0)) (short-table character ∙ ap (option_map rule_for) unknown)))
