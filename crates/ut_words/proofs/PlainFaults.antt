-- What clap refuses at a plain word, at `--`, and at the words after it.
use Rattle.std.proofs.Common.{◌≡◌, ◌∙◌, ap, refl, codes, List, [], ◌∷◌, Some, Option, Bool, true, false, if◌then◌else◌, ◌&&◌}
use Rattle.std.specs.Option.{option_map_or}
use Rattle.std.specs.Str.{bytes_eq}
use Rattle.clap.specs.Words.{Row, Rule, Text}
use Rattle.clap.specs.Lexer.{long_of}
use Rattle.clap.specs.Walk.{Held, Waiting, Walk, idle, option, positional, trailing, long_or_other, short_or_plain, plain_word, is_pending, arg_by_id}
use Rattle.clap.specs.Faults.{turn_fault, flag_word_fault, bundle_fault, settle_fault, repeat_fault, step_fault, use_fault}
use Rattle.clap.specs.Kinds.{Kinds, or_else}
use Rattle.clap.specs.declared.error.kind.ErrorKind.TheVariants as kind
use Rattle.ut_words.specs.Options.{Form}
use Rattle.ut_words.proofs.Rules.{ruled, file}
use Rattle.ut_words.proofs.Turns.{shape, rules, at}
use Rattle.ut_words.proofs.PlainTurns.{IsPlain}
use Rattle.ut_words.proofs.TurnFaults.{or_nothing}

-- the walk after `--`
abbrev pub after_dashes : List Row → Option (Text × List Text) → Waiting → Walk
after_dashes rows pending waiting = record (at rows pending waiting) { is_trailing = true }

-- what is refused where what is pending is settled
abbrev pub settling : List Row → Option (Text × List Text) → Kinds
settling rows pending = settle_fault rules false (at rows pending idle).held

-- a FILE settles what is pending
settles : (b : Bool) (kinds : Kinds) → (if b && false then [] else kinds) ≡ kinds
settles true kinds = refl
settles false kinds = refl

by_dashes : Waiting → Text → Held → Bool → Kinds
by_dashes waiting word h t =
    or_else (if t then [] else flag_word_fault rules false (long_of word) word h)
    (step_fault shape 1 (if t then (h, trailing 1) else long_or_other rules waiting word (long_of word) h).0
    (if t then (h, trailing 1) else long_or_other rules waiting word (long_of word) h).1)

by_long : Waiting → Text → Held → Option (Text × Option Text) → Kinds
by_long waiting word h l = or_else (flag_word_fault rules false l word h) (step_fault shape 1 (long_or_other rules waiting word l h).0 (long_or_other rules waiting word l h).1)

by_short : Waiting → Text → Held → Option Text → Kinds
by_short waiting word h s = or_else (option_map_or (λ flags. bundle_fault rules false flags h) s [])
    (step_fault shape 1 (short_or_plain rules waiting word s h).0 (short_or_plain rules waiting word s h).1)

plain_refused : (rows : List Row) (pending : Option (Text × List Text)) (waiting : Waiting) (word : Text) → IsPlain word
    → by_dashes waiting word (at rows pending idle).held (bytes_eq word (45 ∷ 45 ∷ []))
    ≡ step_fault shape 1 (plain_word rules waiting word (at rows pending idle).held).0 (plain_word rules waiting word (at rows pending idle).held).1
unfolding by_dashes by_long by_short
plain_refused rows pending waiting word p =
    let h = (at rows pending idle).held in
    ap (by_dashes waiting word h) p.dashes ∙ ap (by_long waiting word h) p.long ∙ ap (by_short waiting word h) p.short

-- a FILE is refused exactly as what is pending
pub file_refused_idle : (rows : List Row) (pending : Option (Text × List Text)) (word : Text) → IsPlain word → turn_fault shape [] (at rows pending idle) word ≡ settling rows pending
unfolding by_dashes file
file_refused_idle rows pending word p = plain_refused rows pending idle word p ∙ settles (is_pending file pending) (settling rows pending)

pub file_refused : (rows : List Row) (pending : Option (Text × List Text)) (word : Text) → IsPlain word → turn_fault shape [] (at rows pending positional) word ≡ settling rows pending
unfolding by_dashes file
file_refused rows pending word p = plain_refused rows pending positional word p ∙ settles (is_pending file pending) (settling rows pending)

-- the value that an option waits for is not refused
pub value_refused : (rows : List Row) (pending : Option (Text × List Text)) (name word : Text) → IsPlain word → turn_fault shape [] (at rows pending (option name)) word ≡ []
unfolding by_dashes
value_refused rows pending name word p = plain_refused rows pending (option name) word p

-- `--` is not refused
pub dashes_refused : (rows : List Row) (pending : Option (Text × List Text)) (waiting : Waiting) → turn_fault shape [] (at rows pending waiting) (45 ∷ 45 ∷ []) ≡ []
dashes_refused rows pending idle = refl
dashes_refused rows pending (option id) = refl
dashes_refused rows pending positional = refl

-- each word after `--` is a FILE
pub trailing_refused : (rows : List Row) (pending : Option (Text × List Text)) (waiting : Waiting) (word : Text)
    → turn_fault shape [] (after_dashes rows pending waiting) word ≡ settling rows pending
unfolding file
trailing_refused rows pending waiting word = settles (is_pending file pending) (settling rows pending)

-- a FILE by itself is never refused, and a value exactly where its option has a value already
pub file_settles : (rows : List Row) (word : Text) → settling rows (Some (codes "FILE", word ∷ [])) ≡ []
unfolding file
file_settles rows word = refl

pub value_settles : (rows : List Row) (name word : Text) (form : Form) → arg_by_id rules name ≡ Some (ruled name (Some form))
    → settling rows (Some (name, word ∷ [])) ≡ repeat_fault false name rows
unfolding ruled
value_settles rows name word form named =
    ap (λ (rule : Option Rule). option_map_or (λ a. use_fault false a (word ∷ []) rows) rule []) named ∙ or_nothing (repeat_fault false name rows)

-- an option that still waits for its value is refused
pub waiting_settles : (rows : List Row) (name : Text) (form : Form) → arg_by_id rules name ≡ Some (ruled name (Some form))
    → settling rows (Some (name, [])) ≡ kind.InvalidValue ∷ []
unfolding ruled
waiting_settles rows name form named = ap (λ (rule : Option Rule). option_map_or (λ a. use_fault false a [] rows) rule []) named
