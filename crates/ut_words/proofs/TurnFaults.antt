-- What clap refuses at one word of each spelling, where no option waits for its value.
use Rattle.std.proofs.Common.{◌≡◌, ◌∙◌, ap, refl, ℕ, List, [], ◌∷◌, Some, None, Option, false, option_map}
use Rattle.clap.specs.Words.{Row, Rule}
use Rattle.clap.specs.Lexer.{name_and_value}
use Rattle.clap.specs.Walk.{Waiting, idle, option, positional, settled_rows, arg_by_long, long_met, after_flag}
use Rattle.clap.specs.Faults.{turn_fault, long_fault, settle_fault, repeat_fault, step_fault}
use Rattle.clap.specs.Kinds.{Kinds, or_else}
use Rattle.clap.specs.declared.error.kind.ErrorKind.TheVariants as kind
use Rattle.clap.specs.Words.{Text}
use Rattle.ut_words.specs.Options.{OptionRow, Form, option_named, options}
use Rattle.ut_words.proofs.Rules.{rule_for, ruled, long-table}
use Rattle.ut_words.proofs.Turns.{shape, rules, at}

-- what is refused at an option with this form, which has its value in its word or not: an option twice, or a flag with a value
unfoldable pub option_refused : List Row → Option (Text × List Text) → Text → Option Form → Option Text → Kinds
option_refused rows pending name None None = or_else (settle_fault rules false (at rows pending idle).held) (repeat_fault false name (settled_rows rules pending rows))
option_refused rows pending name None (Some v) = kind.TooManyValues ∷ []
option_refused rows pending name (Some form) None = settle_fault rules false (at rows pending idle).held
option_refused rows pending name (Some form) (Some v) = or_else (settle_fault rules false (at rows pending idle).held) (repeat_fault false name (settled_rows rules pending rows))

pub or_nothing : (kinds : Kinds) → or_else kinds [] ≡ kinds
or_nothing [] = refl
or_nothing (k ∷ ks) = refl

by_form : (rows : List Row) (pending : Option (Text × List Text)) (name : Text) (form : Option Form) (v : Option Text)
    → long_fault rules false (Some (ruled name form)) v (at rows pending idle).held ≡ option_refused rows pending name form v
unfolding option_refused ruled
by_form rows pending name None None = ap (or_else (settle_fault rules false (at rows pending idle).held)) (or_nothing (repeat_fault false name (settled_rows rules pending rows)))
by_form rows pending name None (Some v) = refl
by_form rows pending name (Some form) None = refl
by_form rows pending name (Some form) (Some v) = ap (or_else (settle_fault rules false (at rows pending idle).held)) (or_nothing (repeat_fault false name (settled_rows rules pending rows)))

-- a long word is refused as its option is
at_rule : List Row → Option (Text × List Text) → Waiting → Text → Option Rule → Option Text → Kinds
at_rule rows pending waiting word rule v =
    let h = (at rows pending waiting).held in
    or_else (long_fault rules false rule v h)
    (step_fault shape 1 (after_flag rules waiting word (long_met rules rule v h).0 (long_met rules rule v h).1).0 (after_flag rules waiting word (long_met rules rule v h).0 (long_met rules rule v h).1).1)

long_turn : (rows : List Row) (pending : Option (Text × List Text)) (waiting : Waiting) (byte : ℕ) (rest : Text)
    → turn_fault shape [] (at rows pending waiting) (45 ∷ 45 ∷ byte ∷ rest)
    ≡ at_rule rows pending waiting (45 ∷ 45 ∷ byte ∷ rest) (arg_by_long rules (name_and_value (byte ∷ rest)).0) (name_and_value (byte ∷ rest)).1
unfolding at_rule
long_turn rows pending idle byte rest = refl
long_turn rows pending (option id) byte rest = refl
long_turn rows pending positional byte rest = refl

-- an unknown long option is refused, wherever the walk stands
pub unknown_refused : (rows : List Row) (pending : Option (Text × List Text)) (waiting : Waiting) (byte : ℕ) (rest : Text)
    → option_named options (45 ∷ 45 ∷ (name_and_value (byte ∷ rest)).0) ≡ None
    → turn_fault shape [] (at rows pending waiting) (45 ∷ 45 ∷ byte ∷ rest) ≡ kind.UnknownArgument ∷ []
unfolding at_rule
unknown_refused rows pending waiting byte rest unknown =
    let v = (name_and_value (byte ∷ rest)).1 in
    long_turn rows pending waiting byte rest
    ∙ ap (λ rule. at_rule rows pending waiting (45 ∷ 45 ∷ byte ∷ rest) rule v) (long-table (name_and_value (byte ∷ rest)).0 ∙ ap (option_map rule_for) unknown)

no_step : (rows : List Row) (pending : Option (Text × List Text)) (waiting : Waiting) (word name : Text) (form : Option Form) (v : Option Text)
    → at_rule rows pending waiting word (Some (ruled name form)) v ≡ long_fault rules false (Some (ruled name form)) v (at rows pending idle).held
unfolding at_rule ruled
no_step rows pending waiting word name None None = or_nothing _
no_step rows pending waiting word name None (Some v) = refl
no_step rows pending waiting word name (Some form) None = or_nothing _
no_step rows pending waiting word name (Some form) (Some v) = or_nothing _

-- a long option of the table is refused exactly as its occurrence is
pub option_turn_refused : (rows : List Row) (pending : Option (Text × List Text)) (waiting : Waiting) (byte : ℕ) (rest : Text) (row : OptionRow)
    → option_named options (45 ∷ 45 ∷ (name_and_value (byte ∷ rest)).0) ≡ Some row
    → turn_fault shape [] (at rows pending waiting) (45 ∷ 45 ∷ byte ∷ rest) ≡ option_refused rows pending row.name row.form (name_and_value (byte ∷ rest)).1
unfolding rule_for
option_turn_refused rows pending waiting byte rest row named =
    let v = (name_and_value (byte ∷ rest)).1 in
    let word = 45 ∷ 45 ∷ byte ∷ rest in
    long_turn rows pending waiting byte rest
    ∙ ap (λ rule. at_rule rows pending waiting word rule v) (long-table (name_and_value (byte ∷ rest)).0 ∙ ap (option_map rule_for) named)
    ∙ no_step rows pending waiting word row.name row.form v
    ∙ by_form rows pending row.name row.form v
