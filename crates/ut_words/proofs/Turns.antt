-- One turn of clap's walk at a word of each spelling, where no option waits for its value.
use Rattle.std.proofs.Common.{◌≡◌, ◌∙◌, ap, refl, ℕ, List, [], ◌∷◌, Some, None, Option, false, option_map}
use Rattle.clap.specs.Words.{Row, Rule}
use Rattle.clap.specs.Lexer.{name_and_value}
use Rattle.clap.specs.Walk.{Waiting, Walk, idle, option, positional, walked, long_met, after_flag, settled_rows, after_step, used, arg_by_long}
use Rattle.clap.specs.Simple.{Shape, built}
use Rattle.ut_words.specs.Command.{the_app}
use Rattle.clap.specs.Words.{Text}
use Rattle.ut_words.specs.Options.{OptionRow, Form, option_named, options}
use Rattle.ut_words.proofs.Rules.{rule_for, ruled, long-table}

abbrev pub shape : Shape
shape = (built the_app).top

abbrev pub rules : List Rule
rules = shape.rules

-- where the walk stands between two words: these rows, and what isn't yet used
abbrev pub at : List Row → Option (Text × List Text) → Waiting → Walk
at rows pending waiting = record {
  held = record { rows = rows; pending = pending; skip = 0 };
  waiting = waiting;
  position = 1;
  is_trailing = false;
  stopped = None;
}

-- where it stands after an option with this form, which has its value in its word or not
unfoldable pub option_at : List Row → Text → Option Form → Option Text → Walk → Walk
option_at rows name None None other = at (used (ruled name None) [] rows) None idle
option_at rows name None (Some v) other = other
option_at rows name (Some form) (Some v) other = at (used (ruled name (Some form)) (v ∷ []) rows) None idle
option_at rows name (Some form) None other = at rows (Some (name, [])) (option name)

pub named_at : List Row → Option OptionRow → Option Text → Walk → Walk
named_at rows None v other = other
named_at rows (Some row) v other = option_at rows row.name row.form v other

-- after_step at what a long option is met as
pub met : List Row → Option (Text × List Text) → Waiting → Text → Option Rule → Option Text → Walk
met rows pending waiting word rule v =
    let h = (at rows pending waiting).held in
    let m = after_flag rules waiting word (long_met rules rule v h).0 (long_met rules rule v h).1 in
    after_step rules word (at rows pending waiting) m.0 m.1

-- the turn of a long option
long_turn : (rows : List Row) (pending : Option (Text × List Text)) (waiting : Waiting) (byte : ℕ) (rest : Text)
    → walked rules [] (at rows pending waiting) (45 ∷ 45 ∷ byte ∷ rest)
    ≡ met rows pending waiting (45 ∷ 45 ∷ byte ∷ rest) (arg_by_long rules (name_and_value (byte ∷ rest)).0) (name_and_value (byte ∷ rest)).1
unfolding walked met
long_turn rows pending idle byte rest = refl
long_turn rows pending (option id) byte rest = refl
long_turn rows pending positional byte rest = refl

by_form : (rows : List Row) (pending : Option (Text × List Text)) (waiting : Waiting) (word name : Text) (form : Option Form) (v : Option Text)
    → met rows pending waiting word (Some (ruled name form)) v ≡ option_at (settled_rows rules pending rows) name form v (met rows pending waiting word (Some (ruled name form)) v)
unfolding met option_at ruled
by_form rows pending waiting word name None None = refl
by_form rows pending waiting word name None (Some v) = refl
by_form rows pending waiting word name (Some form) None = refl
by_form rows pending waiting word name (Some form) (Some v) = refl

-- the turn of a long option of the table
pub long_option_turn : (rows : List Row) (pending : Option (Text × List Text)) (waiting : Waiting) (byte : ℕ) (rest : Text) (row : OptionRow)
    → option_named options (45 ∷ 45 ∷ (name_and_value (byte ∷ rest)).0) ≡ Some row
    → walked rules [] (at rows pending waiting) (45 ∷ 45 ∷ byte ∷ rest)
    ≡ option_at (settled_rows rules pending rows) row.name row.form (name_and_value (byte ∷ rest)).1 (met rows pending waiting (45 ∷ 45 ∷ byte ∷ rest) (Some (rule_for row)) (name_and_value (byte ∷ rest)).1)
unfolding rule_for
long_option_turn rows pending waiting byte rest row named =
    let v = (name_and_value (byte ∷ rest)).1 in
    let word = 45 ∷ 45 ∷ byte ∷ rest in
    long_turn rows pending waiting byte rest
    ∙ ap (λ rule. met rows pending waiting word rule v) (long-table (name_and_value (byte ∷ rest)).0 ∙ ap (option_map rule_for) named)
    ∙ by_form rows pending waiting word row.name row.form v
