-- One turn of clap's walk at an option of one letter that takes a value.
use Rattle.std.proofs.Common.{◌≡◌, ◌∙◌, ap, refl, ℕ, List, [], ◌∷◌, Some, None, Option, Bool, true, false, if◌then◌else◌, ◌&&◌, ◌==◌, option_map, length, drop, slice_get}
use Rattle.std.specs.Option.{option_map_or}
use Rattle.std.specs.Str.{bytes_eq, chars}
use Rattle.std.specs.Char.{encode_utf8}
use Rattle.clap.specs.Words.{Row}
use Rattle.clap.specs.Lexer.{long_of}
use Rattle.clap.specs.Walk.{Held, Step, Outcome, Waiting, Walk, idle, option, positional, trailing, walked, long_or_other, short_or_plain, short_met, option_met, bundle, bundle_met, bundle_step, attached_value, after_flag, settled_rows, after_step, arg_by_short}
use Rattle.clap.specs.Words.{Text}
use Rattle.ut_words.specs.Spelled.{joined}
use Rattle.ut_words.specs.Options.{OptionRow, Form, option_named, options}
use Rattle.ut_words.proofs.Rules.{ruled, rule_for, short-table}
use Rattle.ut_words.proofs.Looks.{short-looks, short-long_of}
use Rattle.ut_words.proofs.Turns.{rules, at, option_at}

-- a byte that is a character of its own
pub record IsLetter (letter : ℕ) : Type 0 where
  pub first : (rest : Text) → slice_get (chars (letter ∷ rest)) 0 ≡ Some letter
  pub rest_is : (rest : Text) → drop (length (encode_utf8 letter)) (letter ∷ rest) ≡ rest
  pub other : (letter == 45) ≡ false

pub letter-j : IsLetter 106
unfolding chars encode_utf8
letter-j = record { first = first; rest_is = λ rest. refl; other = refl }
  where
    first : (rest : Text) → slice_get (chars (106 ∷ rest)) 0 ≡ Some 106
    first [] = refl
    first (b ∷ rest) = refl

pub letter-t : IsLetter 116
unfolding chars encode_utf8
letter-t = record { first = first; rest_is = λ rest. refl; other = refl }
  where
    first : (rest : Text) → slice_get (chars (116 ∷ rest)) 0 ≡ Some 116
    first [] = refl
    first (b ∷ rest) = refl

-- a joined value is the same to both
either : (t : Bool) (byte : ℕ) (text : Text) → option_map_or (λ v. Some v) (if t then Some text else None) (Some (byte ∷ text)) ≡ Some (if t then text else byte ∷ text)
either true byte text = refl
either false byte text = refl

pub attached-joined : (text : Text) → attached_value text ≡ joined text
attached-joined [] = refl
attached-joined (byte ∷ text) = either (byte == 61) byte text

-- the step of a walk at what a word without `--` comes to
step_at : List Row → Option (Text × List Text) → Waiting → Text → Held × Outcome → Walk
step_at rows pending waiting word met =
    let m = after_flag rules waiting word met.0 met.1 in
    after_step rules word (at rows pending waiting) m.0 m.1

pub one_letter : (rows : List Row) (pending : Option (Text × List Text)) (waiting : Waiting) (letter : ℕ) (rest : Text) → IsLetter letter
    → bundle rules (letter ∷ rest) (at rows pending waiting).held
    ≡ short_met rules (arg_by_short rules letter) rest (at rows pending waiting).held (bundle_met rules (length rest) rest 0 Outcome.done)
unfolding bundle_met
one_letter rows pending waiting letter rest is =
    let h = (at rows pending waiting).held in
    ap (λ x. bundle_step rules x (letter ∷ rest) 0 Outcome.plain h (bundle_met rules (length rest))) (is.first rest)
    ∙ ap (λ r. short_met rules (arg_by_short rules letter) r h (bundle_met rules (length rest) r 0 Outcome.done)) (is.rest_is rest)

-- the walk's turn at a word of letters
bundle_turn : (rows : List Row) (pending : Option (Text × List Text)) (waiting : Waiting) (letter : ℕ) (rest : Text) → (letter == 45) ≡ false
    → walked rules [] (at rows pending waiting) (45 ∷ letter ∷ rest) ≡ step_at rows pending waiting (45 ∷ letter ∷ rest) (bundle rules (letter ∷ rest) (at rows pending waiting).held)
unfolding walked step_at
bundle_turn rows pending idle letter rest h =
    let w = at rows pending idle in
    let word = 45 ∷ letter ∷ rest in
    ap (λ (m : Held × Step). after_step rules word w m.0 m.1)
    (ap (λ t. if t && bytes_eq rest [] then (w.held, trailing 1) else long_or_other rules idle word (long_of word) w.held) h
    ∙ ap (λ l. long_or_other rules idle word l w.held) (short-long_of letter rest h) ∙ ap (λ s. short_or_plain rules idle word s w.held) (short-looks letter rest h))
bundle_turn rows pending (option id) letter rest h =
    let w = at rows pending (option id) in
    let word = 45 ∷ letter ∷ rest in
    ap (λ (m : Held × Step). after_step rules word w m.0 m.1)
    (ap (λ t. if t && bytes_eq rest [] then (w.held, trailing 1) else long_or_other rules (option id) word (long_of word) w.held) h
    ∙ ap (λ l. long_or_other rules (option id) word l w.held) (short-long_of letter rest h) ∙ ap (λ s. short_or_plain rules (option id) word s w.held) (short-looks letter rest h))
bundle_turn rows pending positional letter rest h =
    let w = at rows pending positional in
    let word = 45 ∷ letter ∷ rest in
    ap (λ (m : Held × Step). after_step rules word w m.0 m.1)
    (ap (λ t. if t && bytes_eq rest [] then (w.held, trailing 1) else long_or_other rules positional word (long_of word) w.held) h
    ∙ ap (λ l. long_or_other rules positional word l w.held) (short-long_of letter rest h) ∙ ap (λ s. short_or_plain rules positional word s w.held) (short-looks letter rest h))

-- the option with the value in its word, or waiting for it
valued_at : (rows : List Row) (pending : Option (Text × List Text)) (waiting : Waiting) (word name rest : Text) (form : Form) (v : Option Text) → attached_value rest ≡ v → (other : Walk)
    → step_at rows pending waiting word (short_met rules (Some (ruled name (Some form))) rest (at rows pending waiting).held (bundle_met rules (length rest) rest 0 Outcome.done))
    ≡ option_at (settled_rows rules pending rows) name (Some form) v other
unfolding step_at ruled option_at
valued_at rows pending waiting word name rest form (Some v) is other = ap (λ a. step_at rows pending waiting word (option_met rules (ruled name (Some form)) a (at rows pending waiting).held)) is
valued_at rows pending waiting word name rest form None is other = ap (λ a. step_at rows pending waiting word (option_met rules (ruled name (Some form)) a (at rows pending waiting).held)) is

-- the turn of an option of one letter
pub short_option_turn : (rows : List Row) (pending : Option (Text × List Text)) (waiting : Waiting) (letter : ℕ) (rest : Text) (row : OptionRow) (form : Form) (other : Walk)
    → IsLetter letter → option_named options (45 ∷ letter ∷ []) ≡ Some row → row.form ≡ Some form
    → walked rules [] (at rows pending waiting) (45 ∷ letter ∷ rest) ≡ option_at (settled_rows rules pending rows) row.name (Some form) (joined rest) other
unfolding rule_for
short_option_turn rows pending waiting letter rest row form other is named formed =
    let h = (at rows pending waiting).held in
    let word = 45 ∷ letter ∷ rest in
    bundle_turn rows pending waiting letter rest is.other
    ∙ ap (step_at rows pending waiting word) (one_letter rows pending waiting letter rest is)
    ∙ ap (λ rule. step_at rows pending waiting word (short_met rules rule rest h (bundle_met rules (length rest) rest 0 Outcome.done)))
    (short-table letter ∙ ap (option_map rule_for) named ∙ ap (λ f. Some (ruled row.name f)) formed)
    ∙ valued_at rows pending waiting word row.name rest form (joined rest) (attached-joined rest) other
