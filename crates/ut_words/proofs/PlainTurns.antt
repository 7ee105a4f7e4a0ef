-- One turn of clap's walk at a plain word and at `--`.
use Rattle.std.proofs.Common.{◌≡◌, ◌∙◌, ap, refl, codes, List, [], ◌∷◌, Some, None, Option, Bool, true, false, if◌then◌else◌, ◌&&◌, nat_lt}
use Rattle.std.specs.Str.{bytes_eq}
use Rattle.ut_words.proofs.BoolLaws.{same_text}
use Rattle.clap.specs.Words.{Row}
use Rattle.clap.specs.Lexer.{long_of, short_of}
use Rattle.clap.specs.Walk.{Held, Step, Waiting, Walk, idle, option, positional, trailing, next, walked, long_or_other, short_or_plain, plain_word, option_word, settled_rows, settled, after_step, arg_by_id, is_pending, pushed}
use Rattle.clap.specs.Words.{Text}
use Rattle.ut_words.specs.Options.{Form}
use Rattle.ut_words.proofs.Rules.{ruled, file}
use Rattle.ut_words.proofs.Turns.{rules, at}

-- the word is no option and not `--`
pub record IsPlain (word : Text) : Type 0 where
  pub dashes : bytes_eq word (45 ∷ 45 ∷ []) ≡ false
  pub long : long_of word ≡ None
  pub short : short_of word ≡ None

long_or_trailing : List Row → Option (Text × List Text) → Waiting → Text → Held × Step
long_or_trailing rows pending waiting word =
    if bytes_eq word (45 ∷ 45 ∷ []) then ((at rows pending waiting).held, trailing 1)
    else long_or_other rules waiting word (long_of word) (at rows pending waiting).held

plain_met : (rows : List Row) (pending : Option (Text × List Text)) (waiting : Waiting) (word : Text) → IsPlain word
    → long_or_trailing rows pending waiting word ≡ plain_word rules waiting word (at rows pending waiting).held
unfolding long_or_trailing
plain_met rows pending waiting word p =
    let h = (at rows pending waiting).held in
    ap (λ t. if t then (h, trailing 1) else long_or_other rules waiting word (long_of word) h) p.dashes
    ∙ ap (λ l. long_or_other rules waiting word l h) p.long ∙ ap (λ s. short_or_plain rules waiting word s h) p.short

-- a FILE settles what is pending, since one use takes one value
settles : (b : Bool) (h : Held) → (if b && false then h else settled rules h) ≡ settled rules h
settles true h = refl
settles false h = refl

files_at : Held → Text → Walk
files_at h word = record { held = pushed (codes "FILE") word h; waiting = positional; position = 1; is_trailing = false; stopped = None }

pub file_turn_idle : (rows : List Row) (pending : Option (Text × List Text)) (word : Text) → IsPlain word
    → walked rules [] (at rows pending idle) word ≡ at (settled_rows rules pending rows) (Some (codes "FILE", word ∷ [])) positional
unfolding walked files_at long_or_trailing file
file_turn_idle rows pending word p =
    let w = at rows pending idle in
    ap (λ (m : Held × Step). after_step rules word w m.0 m.1) (plain_met rows pending idle word p)
    ∙ ap (λ h. files_at h word) (settles (is_pending file pending) w.held)

pub file_turn : (rows : List Row) (pending : Option (Text × List Text)) (word : Text) → IsPlain word
    → walked rules [] (at rows pending positional) word ≡ at (settled_rows rules pending rows) (Some (codes "FILE", word ∷ [])) positional
unfolding walked files_at long_or_trailing file
file_turn rows pending word p =
    let w = at rows pending positional in
    ap (λ (m : Held × Step). after_step rules word w m.0 m.1) (plain_met rows pending positional word p)
    ∙ ap (λ h. files_at h word) (settles (is_pending file pending) w.held)

-- `--`
pub dashes_turn : (rows : List Row) (pending : Option (Text × List Text)) (waiting : Waiting)
    → walked rules [] (at rows pending waiting) (45 ∷ 45 ∷ []) ≡ record (at rows pending waiting) { is_trailing = true }
unfolding walked
dashes_turn rows pending idle = refl
dashes_turn rows pending (option id) = refl
dashes_turn rows pending positional = refl

-- the option that waits takes one value
taken : (name word : Text) (rows : List Row) (form : Form) → option_word (Some (ruled name (Some form))) name word (at rows (Some (name, [])) (option name)).held ≡ ((at rows (Some (name, word ∷ [])) idle).held, idle)
unfolding ruled
taken name word rows form =
    ap (λ t. ((at rows (Some (name, word ∷ [])) idle).held, if nat_lt (if t then 1 else 0) 1 then option name else idle)) (same_text name)

-- the value of the option that waits
pub value_turn : (rows : List Row) (name word : Text) (form : Form) → IsPlain word → arg_by_id rules name ≡ Some (ruled name (Some form))
    → walked rules [] (at rows (Some (name, [])) (option name)) word ≡ at rows (Some (name, word ∷ [])) idle
unfolding walked long_or_trailing
value_turn rows name word form p named =
    let w = at rows (Some (name, [])) (option name) in
    ap (λ (m : Held × Step). after_step rules word w m.0 m.1)
    (plain_met rows (Some (name, [])) (option name) word p
    ∙ ap (λ rule. ((option_word rule name word w.held).0, next (option_word rule name word w.held).1)) named
    ∙ ap (λ (m : Held × Waiting). (m.0, next m.1)) (taken name word rows form))

-- a word after `--` is a FILE
pub trailing_turn : (rows : List Row) (pending : Option (Text × List Text)) (waiting : Waiting) (word : Text)
    → walked rules [] (record (at rows pending waiting) { is_trailing = true }) word
    ≡ record (at (settled_rows rules pending rows) (Some (codes "FILE", word ∷ [])) positional) { is_trailing = true }
unfolding walked file
trailing_turn rows pending waiting word =
    ap (λ h. record { held = pushed (codes "FILE") word h; waiting = positional; position = 1; is_trailing = true; stopped = None })
    (settles (is_pending file pending) (at rows pending waiting).held)
