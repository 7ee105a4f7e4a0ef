-- The walk over all words, beside what they say: clap refuses them exactly where the definition does, and else its rows
-- show what they say.
use Rattle.std.proofs.Common.{◌≡◌, ◌∙◌, ap, ap₂, sym, subst, refl, codes, ℕ, List, [], ◌∷◌, ◌++◌, Some, None, Option, IfSome, Bool, true, false, if◌then◌else◌, ◌&&◌, ◌==◌, not, option_map, is_some, fold, append-nil, append_assoc}
use Rattle.std.proofs.lemmas.Bool.{false≢true}
use Rattle.std.specs.Str.{IsUtf8, bytes_eq}
use Rattle.clap.specs.Words.{Row, Text}
use Rattle.clap.specs.Walk.{Waiting, Walk, idle, option, positional, walked, settled_rows, used_by_id, arg_by_id, has_row, with_values, without}
use Rattle.clap.specs.Faults.{turn_fault, walk_fault, settle_fault, repeat_fault}
use Rattle.clap.specs.Kinds.{Kinds, or_else}
use Rattle.clap.specs.declared.error.kind.ErrorKind.TheVariants as kind
use Rattle.clap.specs.declared.parser.matches.ValueSource.TheVariants.{CommandLine}
use Rattle.ut_words.specs.Spelled.{Spelled, is_plain, spelled}
use Rattle.ut_words.specs.Options.{Form, options}
use Rattle.ut_words.specs.Reading.{AreUtf8}
use Rattle.ut_words.specs.Said.{Said, with_option, with_file, word_said, words_said, all_files}
use Rattle.ut_words.proofs.BoolLaws.{and_false, and_assoc}
use Rattle.ut_words.proofs.Nil.{is_nil, is_nil-or, nil_of}
use Rattle.ut_words.proofs.Looks.{Looks, looks}
use Rattle.ut_words.proofs.Rules.{ruled, file}
use Rattle.ut_words.proofs.Turns.{shape, rules, at}
use Rattle.ut_words.proofs.PlainTurns.{IsPlain, file_turn, file_turn_idle, dashes_turn, value_turn, trailing_turn}
use Rattle.ut_words.proofs.PlainFaults.{after_dashes, settling, file_refused, file_refused_idle, value_refused, dashes_refused, trailing_refused, file_settles, value_settles, waiting_settles}
use Rattle.ut_words.proofs.Shown.{Options, Shows, evidence, nothing_shown, value_in, option_shown, file_shown, has_row-shown}
use Rattle.ut_words.proofs.WordTurns.{Turn, long_word_turn, short_word_turn}

-- a word with a hyphen and more than another hyphen after it
data Hyphened (word : Text) : Type 0 where
  Long : (byte : ℕ) (rest : Text) → word ≡ 45 ∷ 45 ∷ byte ∷ rest → Hyphened word
  Short : (letter : ℕ) (rest : Text) → (letter == 45) ≡ false → word ≡ 45 ∷ letter ∷ rest → Hyphened word

-- a word by its first bytes
data View (word : Text) : Type 0 where
  Plain : is_plain word ≡ true → IsPlain word → View word
  Dashes : word ≡ 45 ∷ 45 ∷ [] → View word
  Other : Hyphened word → View word

views : (word : Text) → View word
views word = by (looks word)
  where
    by : Looks word → View word
    by (Looks.Plain plain dashes long short) = View.Plain plain (record { dashes = dashes; long = long; short = short })
    by (Looks.Dashes e) = View.Dashes e
    by (Looks.Long byte rest e) = View.Other (Hyphened.Long byte rest e)
    by (Looks.Short letter rest other e) = View.Other (Hyphened.Short letter rest other e)

nil_is : {kinds : Kinds} → kinds ≡ [] → is_nil kinds ≡ true
unfolding is_nil
nil_is e = ap is_nil e

-- nothing is refused at the words from here on, nor at their end
unfoldable pub accepts : Walk → List Text → Bool
accepts w words = is_nil (or_else (walk_fault shape [] w words) (settle_fault rules false (fold (walked rules []) w words).held))

-- the rows at the end of the words
abbrev pub rows_at_end : Walk → List Text → List Row
rows_at_end w words =
    let end = (fold (walked rules []) w words).held in
    settled_rows rules end.pending end.rows

-- a turn, and what follows
turn_and_rest : (w : Walk) (word : Text) (words : List Text)
    → accepts w (word ∷ words) ≡ (is_nil (turn_fault shape [] w word) && accepts (walked rules [] w word) words)
unfolding accepts walk_fault
turn_and_rest w word words =
    let turn = turn_fault shape [] w word in
    let after = walked rules [] w word in
    let later = walk_fault shape [] after words in
    let end = settle_fault rules false (fold (walked rules []) after words).held in
    is_nil-or (or_else turn later) end ∙ ap (λ b. b && is_nil end) (is_nil-or turn later)
    ∙ and_assoc (is_nil turn) (is_nil later) (is_nil end) ∙ ap (λ b. is_nil turn && b) (sym (is_nil-or later end))

-- no option that is said here was said before, or is said twice
unfoldable pub fresh : Options → Options → Bool
fresh done [] = true
fresh done (given ∷ options) = not (is_some (value_in given.0 done)) && fresh (done ++ given ∷ []) options

unfoldable pub is_fresh : Options → Option Said → Bool
is_fresh done None = false
is_fresh done (Some said) = fresh done said.options

none_fresh : (done : Options) → is_fresh done None ≡ false
unfolding is_fresh
none_fresh done = refl

-- clap accepts exactly what the definition does, and its rows then show what was said before and what is said
pub record Agrees (accepted : Bool) (rows : List Row) (done : Options) (files : List Text) (said : Option Said) : Type 0 where
  pub same : accepted ≡ is_fresh done said
  pub shown : accepted ≡ true → IfSome said (λ s. Shows rows (done ++ s.options) (files ++ s.files))

-- both refuse
both_refuse : (accepted : Bool) (rows : List Row) (done : Options) (files : List Text) (said : Option Said) → accepted ≡ false → is_fresh done said ≡ false → Agrees accepted rows done files said
both_refuse accepted rows done files said refused fresh_not = record {
  same = refused ∙ sym fresh_not;
  shown = λ e. absurd (false≢true (sym refused ∙ e));
}

-- the same words after a turn that refuses nothing
after_turn : (w next : Walk) (word : Text) (words : List Text) (done : Options) (files : List Text) (said : Option Said)
    → walked rules [] w word ≡ next → is_nil (turn_fault shape [] w word) ≡ true
    → Agrees (accepts next words) (rows_at_end next words) done files said → Agrees (accepts w (word ∷ words)) (rows_at_end w (word ∷ words)) done files said
after_turn w next word words done files said turn free h =
    let same = turn_and_rest w word words ∙ ap₂ (λ b n. b && accepts n words) free turn in
    let ends : rows_at_end next words ≡ rows_at_end w (word ∷ words) = ap (λ n. rows_at_end n words) (sym turn) in
    subst (λ rs. Agrees (accepts w (word ∷ words)) rs done files said) ends
    (subst (λ b. Agrees b (rows_at_end next words) done files said) (sym same) h)

refused_turn : (w : Walk) (word : Text) (words : List Text) → is_nil (turn_fault shape [] w word) ≡ false → accepts w (word ∷ words) ≡ false
refused_turn w word words refused = turn_and_rest w word words ∙ ap (λ b. b && accepts (walked rules [] w word) words) refused

-- a FILE said before the others
with_file_fresh : (done : Options) (word : Text) (said : Option Said) → is_fresh done (option_map (with_file word) said) ≡ is_fresh done said
unfolding is_fresh
with_file_fresh done word (Some s) = refl
with_file_fresh done word None = refl

file_agrees : (accepted : Bool) (rows : List Row) (done : Options) (files : List Text) (word : Text) (said : Option Said)
    → Agrees accepted rows done (files ++ word ∷ []) said → Agrees accepted rows done files (option_map (with_file word) said)
file_agrees accepted rows done files word said h = record {
  same = h.same ∙ sym (with_file_fresh done word said);
  shown = λ e. by said (h.shown e);
}
  where
    by : (o : Option Said) → IfSome o (λ s. Shows rows (done ++ s.options) ((files ++ word ∷ []) ++ s.files)) → IfSome (option_map (with_file word) o) (λ s. Shows rows (done ++ s.options) (files ++ s.files))
    by (Some s) shows = subst (λ fs. Shows rows (done ++ s.options) fs) (append_assoc files (word ∷ []) s.files) shows
    by None shows = shows

-- an option said before the others, where it was not said before
option_fresh : (done : Options) (name value : Text) (said : Option Said) → is_some (value_in name done) ≡ false
    → is_fresh done (option_map (with_option name value) said) ≡ is_fresh (done ++ (name, value) ∷ []) said
unfolding is_fresh fresh
option_fresh done name value (Some s) new = ap (λ b. not b && fresh (done ++ (name, value) ∷ []) s.options) new
option_fresh done name value None new = refl

option_agrees : (accepted : Bool) (rows : List Row) (done : Options) (files : List Text) (name value : Text) (said : Option Said) → is_some (value_in name done) ≡ false
    → Agrees accepted rows (done ++ (name, value) ∷ []) files said → Agrees accepted rows done files (option_map (with_option name value) said)
option_agrees accepted rows done files name value said new h = record {
  same = h.same ∙ sym (option_fresh done name value said new);
  shown = λ e. by said (h.shown e);
}
  where
    by : (o : Option Said) → IfSome o (λ s. Shows rows ((done ++ (name, value) ∷ []) ++ s.options) (files ++ s.files))
        → IfSome (option_map (with_option name value) o) (λ s. Shows rows (done ++ s.options) (files ++ s.files))
    by (Some s) shows = subst (λ os. Shows rows os (files ++ s.files)) (append_assoc done ((name, value) ∷ []) s.options) shows
    by None shows = shows

-- an option said before the others, where it was said before
option_stale : (done : Options) (name value : Text) (said : Option Said) → is_some (value_in name done) ≡ true → is_fresh done (option_map (with_option name value) said) ≡ false
unfolding is_fresh fresh
option_stale done name value (Some s) old = ap (λ b. not b && fresh (done ++ (name, value) ∷ []) s.options) old
option_stale done name value None old = refl

-- where no word is left
at_end : (w : Walk) → accepts w [] ≡ is_nil (settle_fault rules false w.held)
unfolding accepts walk_fault
at_end w = refl

end_agrees : (w : Walk) (done : Options) (files : List Text) → settle_fault rules false w.held ≡ [] → Shows (settled_rows rules w.held.pending w.held.rows) done files
    → Agrees (accepts w []) (rows_at_end w []) done files (all_files [])
unfolding is_nil is_fresh fresh
end_agrees w done files free shows = record {
  same = at_end w ∙ ap is_nil free;
  shown = λ e. subst (λ os. Shows (rows_at_end w []) os (files ++ [])) (sym (append-nil done)) (subst (Shows (rows_at_end w []) done) (sym (append-nil files)) shows);
}

-- a FILE that is pending is shown once it is settled
file_settled : (rows : List Row) (done : Options) (files : List Text) (word : Text) → Shows rows done files
    → Shows (settled_rows rules (Some (codes "FILE", word ∷ [])) rows) done (files ++ word ∷ [])
unfolding file
file_settled rows done files word shows = file_shown rows done files word _ shows

-- all words after `--`
trailing_agrees : (words : List Text) (rows : List Row) (pending : Option (Text × List Text)) (waiting : Waiting) (done : Options) (files : List Text)
    → settling rows pending ≡ [] → Shows (settled_rows rules pending rows) done files
    → Agrees (accepts (after_dashes rows pending waiting) words) (rows_at_end (after_dashes rows pending waiting) words) done files (all_files words)
trailing_agrees [] rows pending waiting done files free shows = end_agrees (after_dashes rows pending waiting) done files free shows
trailing_agrees (word ∷ words) rows pending waiting done files free shows =
    let R = settled_rows rules pending rows in
    after_turn (after_dashes rows pending waiting) (after_dashes R (Some (codes "FILE", word ∷ [])) positional) word words done files (all_files (word ∷ words))
    (trailing_turn rows pending waiting word) (nil_is (trailing_refused rows pending waiting word ∙ free))
    (file_agrees _ _ done files word (all_files words)
    (trailing_agrees words R (Some (codes "FILE", word ∷ [])) positional done (files ++ word ∷ []) (file_settles R word) (file_settled R done files word shows)))

trailing_refuses : (words : List Text) (rows : List Row) (pending : Option (Text × List Text)) (waiting : Waiting)
    → is_nil (settling rows pending) ≡ false → accepts (after_dashes rows pending waiting) words ≡ false
trailing_refuses [] rows pending waiting refused = at_end (after_dashes rows pending waiting) ∙ refused
trailing_refuses (word ∷ words) rows pending waiting refused =
    refused_turn (after_dashes rows pending waiting) word words (ap is_nil (trailing_refused rows pending waiting word) ∙ refused)

-- an option twice is refused
repeat_nil : (again : Bool) (name : Text) (rows : List Row) → has_row name rows ≡ again → is_nil (repeat_fault false name rows) ≡ not again
unfolding is_nil
repeat_nil true name rows has = ap (λ b. is_nil (if b && true then kind.ArgumentConflict ∷ [] else [])) has
repeat_nil false name rows has = ap (λ b. is_nil (if b && true then kind.ArgumentConflict ∷ [] else [])) has

-- an option that waits for its value is refused where it is settled
waiting_nil : (rows : List Row) (rest : Text) (form : Form) → arg_by_id rules (45 ∷ rest) ≡ Some (ruled (45 ∷ rest) (Some form)) → is_nil (settling rows (Some (45 ∷ rest, []))) ≡ false
unfolding is_nil
waiting_nil rows rest form named = ap is_nil (waiting_settles rows (45 ∷ rest) form named)

-- where no option waits for its value
abbrev pub calm : Bool → Waiting
calm true = positional
calm false = idle

calm_turn : (after_file : Bool) (rows : List Row) (pending : Option (Text × List Text)) (word : Text) → IsPlain word
    → walked rules [] (at rows pending (calm after_file)) word ≡ at (settled_rows rules pending rows) (Some (codes "FILE", word ∷ [])) positional
calm_turn true rows pending word p = file_turn rows pending word p
calm_turn false rows pending word p = file_turn_idle rows pending word p

calm_refused : (after_file : Bool) (rows : List Row) (pending : Option (Text × List Text)) (word : Text) → IsPlain word
    → turn_fault shape [] (at rows pending (calm after_file)) word ≡ settling rows pending
calm_refused true rows pending word p = file_refused rows pending word p
calm_refused false rows pending word p = file_refused_idle rows pending word p

-- a word that begins with a hyphen and more, by clap and by the definition
word_turn : (rows : List Row) (pending : Option (Text × List Text)) (waiting : Waiting) (word : Text) → IsUtf8 word → Hyphened word → Turn rows pending waiting word
word_turn rows pending waiting word utf8 (Hyphened.Long byte rest e) = subst (Turn rows pending waiting) (sym e) (long_word_turn rows pending waiting byte rest)
word_turn rows pending waiting word utf8 (Hyphened.Short letter rest other e) =
    subst (Turn rows pending waiting) (sym e) (short_word_turn rows pending waiting letter rest other (subst IsUtf8 e utf8))

-- what is pending is refused at the next word or at the end
turn_refuses : (rows : List Row) (pending : Option (Text × List Text)) (waiting : Waiting) (word : Text) → is_nil (settling rows pending) ≡ false
    → Turn rows pending waiting word → is_nil (turn_fault shape [] (at rows pending waiting) word) ≡ false
turn_refuses rows pending waiting word refused (Turn.Uses rest value how turn fault flag says) =
    ap is_nil fault ∙ is_nil-or (settling rows pending) _ ∙ ap (λ b. b && is_nil (repeat_fault false (45 ∷ rest) (settled_rows rules pending rows))) refused
turn_refuses rows pending waiting word refused (Turn.Waits rest form no_flag named turn fault says) = ap is_nil fault ∙ refused
turn_refuses rows pending waiting word refused (Turn.Refused fault says) = fault

stale : (words : List Text) (after_file : Bool) (rows : List Row) (pending : Option (Text × List Text)) → AreUtf8 words → is_nil (settling rows pending) ≡ false
    → accepts (at rows pending (calm after_file)) words ≡ false
stale [] after_file rows pending utf8 refused = at_end (at rows pending (calm after_file)) ∙ refused
stale (word ∷ words) after_file rows pending utf8 refused = by (views word)
  where
    w : Walk
    w = at rows pending (calm after_file)

    by : View word → accepts (at rows pending (calm after_file)) (word ∷ words) ≡ false
    by (View.Plain plain p) = refused_turn (at rows pending (calm after_file)) word words (ap is_nil (calm_refused after_file rows pending word p) ∙ refused)
    by (View.Dashes e) =
        turn_and_rest (at rows pending (calm after_file)) word words
        ∙ ap (λ b. is_nil (turn_fault shape [] (at rows pending (calm after_file)) word) && b)
        (ap (λ n. accepts n words) (ap (walked rules [] (at rows pending (calm after_file))) e ∙ dashes_turn rows pending (calm after_file))
        ∙ trailing_refuses words rows pending (calm after_file) refused)
        ∙ and_false _
    by (View.Other h) = refused_turn (at rows pending (calm after_file)) word words (turn_refuses rows pending (calm after_file) word refused (word_turn rows pending (calm after_file) word utf8.0 h))

-- what is to be shown of words, where no option waits for its value and where one does
pub record Both (words : List Text) : Type 0 where
  pub where_calm : (after_file : Bool) (rows : List Row) (pending : Option (Text × List Text)) (done : Options) (files : List Text)
      → settling rows pending ≡ [] → Shows (settled_rows rules pending rows) done files
      → Agrees (accepts (at rows pending (calm after_file)) words) (rows_at_end (at rows pending (calm after_file)) words) done files (words_said options None words)
  pub where_waits : (rows : List Row) (rest : Text) (form : Form) (done : Options) (files : List Text)
      → bytes_eq (45 ∷ rest) evidence ≡ false → arg_by_id rules (45 ∷ rest) ≡ Some (ruled (45 ∷ rest) (Some form)) → Shows rows done files
      → Agrees (accepts (at rows (Some (45 ∷ rest, [])) (option (45 ∷ rest))) words) (rows_at_end (at rows (Some (45 ∷ rest, [])) (option (45 ∷ rest))) words) done files
      (words_said options (Some (45 ∷ rest)) words)

-- after a turn that uses an option
use_agrees : (words : List Text) (w : Walk) (word : Text) (next : Walk) (done : Options) (files : List Text) (rest value : Text) (known : Bool)
    → is_some (value_in (45 ∷ rest) done) ≡ known
    → walked rules [] w word ≡ next → is_nil (turn_fault shape [] w word) ≡ not known
    → (known ≡ false → Agrees (accepts next words) (rows_at_end next words) (done ++ (45 ∷ rest, value) ∷ []) files (words_said options None words))
    → Agrees (accepts w (word ∷ words)) (rows_at_end w (word ∷ words)) done files (option_map (with_option (45 ∷ rest) value) (words_said options None words))
use_agrees words w word next done files rest value true is turn fault ih =
    both_refuse _ _ done files _ (refused_turn w word words fault) (option_stale done (45 ∷ rest) value (words_said options None words) is)
use_agrees words w word next done files rest value false is turn fault ih =
    after_turn w next word words done files _ turn fault (option_agrees _ _ done files (45 ∷ rest) value (words_said options None words) is (ih refl))

-- a word that begins with a hyphen and more, where no option waits
turn_agrees : (words : List Text) (rows : List Row) (pending : Option (Text × List Text)) (waiting : Waiting) (word : Text) (done : Options) (files : List Text)
    → Both words → settling rows pending ≡ [] → Shows (settled_rows rules pending rows) done files → Turn rows pending waiting word
    → Agrees (accepts (at rows pending waiting) (word ∷ words)) (rows_at_end (at rows pending waiting) (word ∷ words)) done files
    (word_said options word (spelled word) words (λ waits. words_said options waits words))
turn_agrees words rows pending waiting word done files ih free shows (Turn.Uses rest value how turn fault flag says) =
    let w = at rows pending waiting in
    let R = settled_rows rules pending rows in
    let new = with_values (45 ∷ rest) how CommandLine (value ∷ []) (without (45 ∷ rest) R) in
    let known = is_some (value_in (45 ∷ rest) done) in
    let has : has_row (45 ∷ rest) R ≡ known = has_row-shown R done files rest shows in
    let refused : is_nil (turn_fault shape [] w word) ≡ not known =
    ap is_nil (fault ∙ ap (λ k. or_else k (repeat_fault false (45 ∷ rest) R)) free) ∙ repeat_nil known (45 ∷ rest) R has in
    subst (Agrees (accepts w (word ∷ words)) (rows_at_end w (word ∷ words)) done files) (sym (says words (λ waits. words_said options waits words)))
    (use_agrees words w word (at new None idle) done files rest value known refl turn refused
    (λ unknown. ih.where_calm false new None (done ++ (45 ∷ rest, value) ∷ []) files refl (option_shown R done files rest value how shows (has ∙ unknown) flag)))
turn_agrees words rows pending waiting word done files ih free shows (Turn.Waits rest form no_flag named turn fault says) =
    let w = at rows pending waiting in
    let R = settled_rows rules pending rows in
    subst (Agrees (accepts w (word ∷ words)) (rows_at_end w (word ∷ words)) done files) (sym (says words (λ waits. words_said options waits words)))
    (after_turn w (at R (Some (45 ∷ rest, [])) (option (45 ∷ rest))) word words done files _ turn (nil_is (fault ∙ free)) (ih.where_waits R rest form done files no_flag named shows))
turn_agrees words rows pending waiting word done files ih free shows (Turn.Refused fault says) =
    let w = at rows pending waiting in
    subst (Agrees (accepts w (word ∷ words)) (rows_at_end w (word ∷ words)) done files) (sym (says words (λ waits. words_said options waits words)))
    (both_refuse _ _ done files None (refused_turn w word words fault) (none_fresh done))

plain_spelled : (word : Text) → is_plain word ≡ true → spelled word ≡ Spelled.Plain
plain_spelled word plain = rw plain refl

-- the next word, where no option waits
calm_step : (word : Text) (words : List Text) → IsUtf8 word → Both words
    → (after_file : Bool) (rows : List Row) (pending : Option (Text × List Text)) (done : Options) (files : List Text)
    → settling rows pending ≡ [] → Shows (settled_rows rules pending rows) done files
    → Agrees (accepts (at rows pending (calm after_file)) (word ∷ words)) (rows_at_end (at rows pending (calm after_file)) (word ∷ words)) done files (words_said options None (word ∷ words))
calm_step word words utf8 ih after_file rows pending done files free shows = by (views word)
  where
    by : View word
        → Agrees (accepts (at rows pending (calm after_file)) (word ∷ words)) (rows_at_end (at rows pending (calm after_file)) (word ∷ words)) done files (words_said options None (word ∷ words))
    by (View.Plain plain p) =
        let w = at rows pending (calm after_file) in
        let R = settled_rows rules pending rows in
        subst (Agrees (accepts w (word ∷ words)) (rows_at_end w (word ∷ words)) done files)
        (sym (ap (λ s. word_said options word s words (λ waits. words_said options waits words)) (plain_spelled word plain)))
        (after_turn w (at R (Some (codes "FILE", word ∷ [])) positional) word words done files _ (calm_turn after_file rows pending word p)
        (nil_is (calm_refused after_file rows pending word p ∙ free))
        (file_agrees _ _ done files word (words_said options None words)
        (ih.where_calm true R (Some (codes "FILE", word ∷ [])) done (files ++ word ∷ []) (file_settles R word) (file_settled R done files word shows))))
    by (View.Dashes e) =
        let w = at rows pending (calm after_file) in
        subst (λ t. Agrees (accepts w (t ∷ words)) (rows_at_end w (t ∷ words)) done files (words_said options None (t ∷ words))) (sym e)
        (after_turn w (after_dashes rows pending (calm after_file)) (45 ∷ 45 ∷ []) words done files (all_files words) (dashes_turn rows pending (calm after_file))
        (nil_is (dashes_refused rows pending (calm after_file))) (trailing_agrees words rows pending (calm after_file) done files free shows))
    by (View.Other h) = turn_agrees words rows pending (calm after_file) word done files ih free shows (word_turn rows pending (calm after_file) word utf8 h)

hyphened_is_not_plain : (word : Text) → Hyphened word → is_plain word ≡ false
hyphened_is_not_plain word (Hyphened.Long byte rest e) = ap is_plain e
hyphened_is_not_plain word (Hyphened.Short letter rest other e) = ap is_plain e

-- an option that got its value is shown once it is settled
value_settled : (rows : List Row) (rest word : Text) (form : Form) (done : Options) (files : List Text) → bytes_eq (45 ∷ rest) evidence ≡ false
    → arg_by_id rules (45 ∷ rest) ≡ Some (ruled (45 ∷ rest) (Some form)) → Shows rows done files → has_row (45 ∷ rest) rows ≡ false
    → Shows (settled_rows rules (Some (45 ∷ rest, word ∷ [])) rows) (done ++ (45 ∷ rest, word) ∷ []) files
unfolding ruled
value_settled rows rest word form done files no_flag named shows none =
    subst (λ rule. Shows (used_by_id rule (word ∷ []) rows) (done ++ (45 ∷ rest, word) ∷ []) files) (sym named)
    (option_shown rows done files rest word _ shows none (λ e. absurd (false≢true (sym no_flag ∙ e))))

-- the value of the option that waits
value_agrees : (words : List Text) (word : Text) (rows : List Row) (rest : Text) (form : Form) (done : Options) (files : List Text) → AreUtf8 words → Both words → IsPlain word
    → bytes_eq (45 ∷ rest) evidence ≡ false → arg_by_id rules (45 ∷ rest) ≡ Some (ruled (45 ∷ rest) (Some form)) → Shows rows done files
    → (known : Bool) → is_some (value_in (45 ∷ rest) done) ≡ known
    → Agrees (accepts (at rows (Some (45 ∷ rest, [])) (option (45 ∷ rest))) (word ∷ words)) (rows_at_end (at rows (Some (45 ∷ rest, [])) (option (45 ∷ rest))) (word ∷ words)) done files
    (option_map (with_option (45 ∷ rest) word) (words_said options None words))
value_agrees words word rows rest form done files utf8 ih p no_flag named shows true is =
    let next = at rows (Some (45 ∷ rest, word ∷ [])) idle in
    let has = has_row-shown rows done files rest shows ∙ is in
    after_turn (at rows (Some (45 ∷ rest, [])) (option (45 ∷ rest))) next word words done files _ (value_turn rows (45 ∷ rest) word form p named)
    (nil_is (value_refused rows (Some (45 ∷ rest, [])) (45 ∷ rest) word p))
    (both_refuse _ _ done files _
    (stale words false rows (Some (45 ∷ rest, word ∷ [])) utf8 (ap is_nil (value_settles rows (45 ∷ rest) word form named) ∙ repeat_nil true (45 ∷ rest) rows has))
    (option_stale done (45 ∷ rest) word (words_said options None words) is))
value_agrees words word rows rest form done files utf8 ih p no_flag named shows false is =
    let next = at rows (Some (45 ∷ rest, word ∷ [])) idle in
    let has = has_row-shown rows done files rest shows ∙ is in
    after_turn (at rows (Some (45 ∷ rest, [])) (option (45 ∷ rest))) next word words done files _ (value_turn rows (45 ∷ rest) word form p named)
    (nil_is (value_refused rows (Some (45 ∷ rest, [])) (45 ∷ rest) word p))
    (option_agrees _ _ done files (45 ∷ rest) word (words_said options None words) is
    (ih.where_calm false rows (Some (45 ∷ rest, word ∷ [])) (done ++ (45 ∷ rest, word) ∷ []) files
    (value_settles rows (45 ∷ rest) word form named ∙ nil_of _ (repeat_nil false (45 ∷ rest) rows has))
    (value_settled rows rest word form done files no_flag named shows has)))

-- the next word, where an option waits for its value
waits_step : (word : Text) (words : List Text) → IsUtf8 word → AreUtf8 words → Both words
    → (rows : List Row) (rest : Text) (form : Form) (done : Options) (files : List Text)
    → bytes_eq (45 ∷ rest) evidence ≡ false → arg_by_id rules (45 ∷ rest) ≡ Some (ruled (45 ∷ rest) (Some form)) → Shows rows done files
    → Agrees (accepts (at rows (Some (45 ∷ rest, [])) (option (45 ∷ rest))) (word ∷ words)) (rows_at_end (at rows (Some (45 ∷ rest, [])) (option (45 ∷ rest))) (word ∷ words)) done files
    (words_said options (Some (45 ∷ rest)) (word ∷ words))
waits_step word words utf8 more_utf8 ih rows rest form done files no_flag named shows = by (views word)
  where
    by : View word
        → Agrees (accepts (at rows (Some (45 ∷ rest, [])) (option (45 ∷ rest))) (word ∷ words)) (rows_at_end (at rows (Some (45 ∷ rest, [])) (option (45 ∷ rest))) (word ∷ words)) done files
        (words_said options (Some (45 ∷ rest)) (word ∷ words))
    by (View.Plain plain p) =
        let w = at rows (Some (45 ∷ rest, [])) (option (45 ∷ rest)) in
        subst (Agrees (accepts w (word ∷ words)) (rows_at_end w (word ∷ words)) done files)
        (sym (ap (λ t. if t then option_map (with_option (45 ∷ rest) word) (words_said options None words) else None) plain))
        (value_agrees words word rows rest form done files more_utf8 ih p no_flag named shows (is_some (value_in (45 ∷ rest) done)) refl)
    by (View.Dashes e) =
        let w = at rows (Some (45 ∷ rest, [])) (option (45 ∷ rest)) in
        let turn = turn_and_rest w (45 ∷ 45 ∷ []) words in
        let refused : accepts w ((45 ∷ 45 ∷ []) ∷ words) ≡ false =
        turn ∙ ap (λ n. is_nil (turn_fault shape [] w (45 ∷ 45 ∷ [])) && accepts n words) (dashes_turn rows (Some (45 ∷ rest, [])) (option (45 ∷ rest)))
        ∙ ap (λ b. is_nil (turn_fault shape [] w (45 ∷ 45 ∷ [])) && b) (trailing_refuses words rows (Some (45 ∷ rest, [])) (option (45 ∷ rest)) (waiting_nil rows rest form named))
        ∙ and_false _ in
        subst (λ t. Agrees (accepts w (t ∷ words)) (rows_at_end w (t ∷ words)) done files (words_said options (Some (45 ∷ rest)) (t ∷ words))) (sym e)
        (both_refuse _ _ done files None refused (none_fresh done))
    by (View.Other h) =
        let w = at rows (Some (45 ∷ rest, [])) (option (45 ∷ rest)) in
        subst (Agrees (accepts w (word ∷ words)) (rows_at_end w (word ∷ words)) done files)
        (sym (ap (λ t. if t then option_map (with_option (45 ∷ rest) word) (words_said options None words) else None) (hyphened_is_not_plain word h)))
        (both_refuse _ _ done files None
        (refused_turn w word words
        (turn_refuses rows (Some (45 ∷ rest, [])) (option (45 ∷ rest)) word (waiting_nil rows rest form named) (word_turn rows (Some (45 ∷ rest, [])) (option (45 ∷ rest)) word utf8 h)))
        (none_fresh done))

-- all words
pub both : (words : List Text) → AreUtf8 words → Both words
both [] utf8 = record {
  where_calm = λ after_file rows pending done files free shows. end_agrees (at rows pending (calm after_file)) done files free shows;
  where_waits = λ rows rest form done files no_flag named shows.
      both_refuse _ _ done files None (at_end (at rows (Some (45 ∷ rest, [])) (option (45 ∷ rest))) ∙ waiting_nil rows rest form named) (none_fresh done);
}
both (word ∷ words) utf8 =
    let ih = both words utf8.1 in
    record { where_calm = calm_step word words utf8.0 ih; where_waits = waits_step word words utf8.0 utf8.1 ih }

-- all words from the start
pub walk_agrees : (words : List Text) → AreUtf8 words → Agrees (accepts (at [] None idle) words) (rows_at_end (at [] None idle) words) [] [] (words_said options None words)
walk_agrees words utf8 = (both words utf8).where_calm false [] None [] [] refl nothing_shown
