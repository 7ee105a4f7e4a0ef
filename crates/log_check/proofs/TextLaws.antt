-- Whole texts: what their lines say, and what their bytes are.
use Rattle.std.proofs.Common.{◌≡◌, ℕ, ◌+◌, ◌-◌, ◌^◌, ◌<◌, ◌≤◌, List, [], ◌∷◌, ◌++◌, length, get_or, take, cond, true, false, Bool, inl, inr, refl, sym, ap, ◌∙◌, subst, arith, append_assoc}
use Rattle.std.specs.Prelude.{All, codes, decimal}
use Rattle.std.specs.List.{flat_map, concat}
use Rattle.std.proofs.lemmas.List.{append-nil, append_cancel_right, take_more, length-take-le}
use Rattle.std.proofs.lemmas.List.Elements.{All-nil, All-cons, All-head, All-tail}
use Rattle.ut_text.specs.Bytes.{Bytes}
use Rattle.line_texts.specs.Grammar.{Says}
use Rattle.line_texts.specs.Lines.{whole_lines, HasNoNewline}
use Rattle.line_texts.proofs.GrammarLaws.{IsExact, says_once, never_both}
use Rattle.line_texts.proofs.LineLaws.{whole_line_and_rest, concat-whole_lines, newline_at_end}
use Rattle.line_texts.proofs.ListTexts.{element_written}
use Rattle.line_texts.proofs.PlainLaws.{plain_word, plain-append, plain-flat_map, plain_decimal}
use Rattle.ut_logic.specs.declared.literals.Lit.{Lit}
use Rattle.log_check.specs.declared.derivations.PivotOf.{PivotOf}
use Rattle.log_check.specs.declared.derivations.DerivationLine.{DerivationLine}
use Rattle.log_check.specs.declared.texts.TextLineBad.{TextLineBad}
use Rattle.log_check.specs.declared.texts.TextLineBad.TheVariants.{Line, Oom}
use Rattle.log_check.specs.DerivationText.{literal_text, pair_text, chain_text, step_text, text_of, IsVariable, IsPair, IsPrintable, IsStep, IsTextOf, IsFirstOutside, Progress, at_start, MayFollow, Takes, Ends}
use Rattle.log_check.proofs.StepLaws.{step_once}

-- a step has no newline
plain_literal : (l : Lit) → IsVariable l.var → HasNoNewline (literal_text l)
plain_literal l v = plain-append _ (codes " ") (plain-append _ (decimal l.var) (by l.positive) (plain_decimal l.var v.1)) (plain_word (codes " ") refl)
  where
    by : (b : Bool) → HasNoNewline (cond b [] (codes "-"))
    by true = plain_word [] refl
    by false = plain_word (codes "-") refl

plain_pair : (p : PivotOf) → IsPair p → HasNoNewline (pair_text p)
plain_pair p (v, w) =
    let pivot = plain-append (codes " ") (decimal p.pivot) (plain_word (codes " ") refl) (plain_decimal p.pivot v) in
    let blank = plain-append (codes " " ++ decimal p.pivot) (codes " ") pivot (plain_word (codes " ") refl) in
    plain-append (codes " " ++ decimal p.pivot ++ codes " ") (decimal p.clause) blank (plain_decimal p.clause w)

pub plain_step : (n : ℕ) (line : DerivationLine) → n < 2 ^ 64 → IsPrintable line → HasNoNewline (step_text n line)
plain_step n line small p =
    let number : Bytes = codes " step " ++ decimal n in
    let head : Bytes = number ++ codes ": " in
    let result : Bytes = head ++ flat_map literal_text line.result in
    let via : Bytes = result ++ codes "0 via " in
    let plain_number : HasNoNewline number = plain-append (codes " step ") (decimal n) (plain_word (codes " step ") refl) (plain_decimal n small) in
    let plain_head : HasNoNewline head = plain-append number (codes ": ") plain_number (plain_word (codes ": ") refl) in
    let plain_result : HasNoNewline result = plain-append head (flat_map literal_text line.result) plain_head (plain-flat_map literal_text (λ l. IsVariable l.var) plain_literal line.result p.variables) in
    let plain_via : HasNoNewline via = plain-append result (codes "0 via ") plain_result (plain_word (codes "0 via ") refl) in
    let pairs : Bytes = flat_map pair_text line.chain.pairs in
    plain-append via (chain_text line.chain) plain_via
    (plain-append (decimal line.chain.first) pairs (plain_decimal line.chain.first p.first) (plain-flat_map pair_text IsPair plain_pair line.chain.pairs p.pairs))

-- a line leads to one state, and a state says one list of lines
takes_once : (s : Progress) (whole : Bytes) (after : List Bytes) (m k : Progress) → Takes s whole after m → Takes s whole after k → m ≡ k
takes_once s whole after m k t u =
    let steps : t.step ≡ u.step = append_cancel_right t.step u.step (codes "\n") (sym t.newline ∙ u.newline) in
    let same = step_once u.step t.number u.number t.line u.line (subst (IsStep t.number t.line) steps t.is_step) u.is_step in
    t.leads ∙ rw (same.0, same.1) (sym u.leads)

pub text_exact : IsExact Takes Ends
text_exact = record {
  leads = takes_once;
  says = λ s a b h k. h ∙ sym k;
}

-- a text of lines says them
text_says : (n : ℕ) (lines : List DerivationLine) (s : Progress) → MayFollow s.last n → n + length lines ≤ 2 ^ 64 → All IsPrintable lines → Says Takes Ends s (whole_lines (text_of n lines)) (s.lines ++ lines)
text_says n [] s follows fits p = append-nil s.lines
text_says n (line ∷ lines) s follows fits p =
    let first : IsPrintable line = All-head IsPrintable line lines p in
    let small : n < 2 ^ 64 = omega arith in
    let next : Progress = record { lines = s.lines ++ line ∷ []; last = n } in
    let cut : whole_lines (text_of n (line ∷ lines)) ≡ (step_text n line ++ codes "\n") ∷ whole_lines (text_of (n + 1) lines) = whole_line_and_rest (step_text n line) (text_of (n + 1) lines) (plain_step n line small first) in
    let taken : Takes s (step_text n line ++ codes "\n") (whole_lines (text_of (n + 1) lines)) next = record {
      number = n;
      line = line;
      step = step_text n line;
      is_step = record { fits = small; printable = first; text = refl };
      newline = refl;
      follows = follows;
      leads = refl;
    } in
    let later = text_says (n + 1) lines next (omega arith, inr refl) (omega arith) (All-tail IsPrintable line lines p) in
    subst (λ ls. Says Takes Ends s ls (s.lines ++ line ∷ lines)) (sym cut)
    (next, taken, subst (Says Takes Ends next (whole_lines (text_of (n + 1) lines))) (append_assoc s.lines (line ∷ []) lines) later)

-- what lines say from this state on, with their bytes
record IsSaid (s : Progress) (all : List DerivationLine) (bytes : Bytes) : Type 0 where
  pub n : ℕ
  pub lines : List DerivationLine
  pub follows : MayFollow s.last n
  pub whole : all ≡ s.lines ++ lines
  pub last : n + length lines ≤ 2 ^ 64
  pub printable : All IsPrintable lines
  pub text : bytes ≡ text_of n lines

says_text : (s : Progress) (wholes : List Bytes) (all : List DerivationLine) → s.last < 2 ^ 64 → Says Takes Ends s wholes all → IsSaid s all (concat wholes)
says_text s [] all small h = record {
  n = s.last + 1;
  lines = [];
  follows = (omega arith, inr refl);
  whole = h ∙ sym (append-nil s.lines);
  last = omega arith;
  printable = All-nil IsPrintable;
  text = refl;
}
says_text s (whole ∷ wholes) all small (next, t, h) = from (says_text next wholes all (subst (λ k. k < 2 ^ 64) (sym last_is) t.is_step.fits) h)
  where
    last_is : next.last ≡ t.number
    last_is = ap (λ (p : Progress). p.last) t.leads

    lines_are : next.lines ≡ s.lines ++ t.line ∷ []
    lines_are = ap (λ (p : Progress). p.lines) t.leads

    whole_is : whole ≡ step_text t.number t.line ++ codes "\n"
    whole_is = t.newline ∙ ap (λ u. u ++ codes "\n") t.is_step.text

    from : IsSaid next all (concat wholes) → IsSaid s all (whole ++ concat wholes)
    from later =
        let number : later.n ≡ t.number + 1 = elim later.follows.1 [ inl none ↦ omega (arith, t.follows.0, last_is) | inr same ↦ omega (arith, last_is) ] in
        record {
          n = t.number;
          lines = t.line ∷ later.lines;
          follows = t.follows;
          whole = later.whole ∙ ap (λ k. k ++ later.lines) lines_are ∙ append_assoc s.lines (t.line ∷ []) later.lines;
          last = omega (arith, later.last);
          printable = All-cons IsPrintable t.line later.lines t.is_step.printable later.printable;
          text = ap (λ u. u ++ concat wholes) whole_is
              ∙ ap (λ u. (step_text t.number t.line ++ codes "\n") ++ u) (later.text ∙ ap (λ k. text_of k later.lines) number);
        }

-- the text of these lines, numbered from some number on
abbrev pub IsText : Bytes → List DerivationLine → Type 0
IsText bytes lines = Says Takes Ends at_start (whole_lines bytes) lines

pub text_is_said : (bytes : Bytes) (n : ℕ) (lines : List DerivationLine) → IsTextOf n lines bytes → IsText bytes lines
text_is_said bytes n lines h = subst (λ t. IsText t lines) (sym h.text) (text_says n lines at_start (h.first, inl refl) h.last h.printable)

pub said_is_text : (bytes : Bytes) (lines : List DerivationLine) → IsText bytes lines → (n : ℕ) × IsTextOf n lines bytes
said_is_text bytes lines h = from (says_text at_start (whole_lines bytes) lines (omega arith) h)
  where
    from : IsSaid at_start lines (concat (whole_lines bytes)) → (n : ℕ) × IsTextOf n lines bytes
    from said = (
      said.n,
      record {
        first = said.follows.0;
        last = subst (λ (k : List DerivationLine). said.n + length k ≤ 2 ^ 64) (sym said.whole) said.last;
        printable = subst (All IsPrintable) (sym said.whole) said.printable;
        text = sym (concat-whole_lines bytes) ∙ said.text ∙ ap (text_of said.n) (sym said.whole);
      },
    )

-- a text of the grammar has no first line outside
pub bad_is_oom : (bytes : Bytes) (bad : TextLineBad) → ((number : ℕ) → bad ≡ Line number → IsFirstOutside bytes number) → (n : ℕ) (lines : List DerivationLine) → IsTextOf n lines bytes → bad ≡ Oom
bad_is_oom bytes Oom outside n lines h = refl
bad_is_oom bytes (Line number) outside n lines h =
    absurd (never_both Takes Ends text_exact at_start (whole_lines bytes) lines (number - 1) (text_is_said bytes n lines h) (outside number refl).1)

-- and says one list of lines
pub text_once : (bytes : Bytes) (n : ℕ) (xs ys : List DerivationLine) → IsText bytes xs → IsTextOf n ys bytes → xs ≡ ys
text_once bytes n xs ys h k = says_once Takes Ends text_exact at_start (whole_lines bytes) xs ys h (text_is_said bytes n ys k)

-- a line that lacks its newline, or is no step, may not stand anywhere
pub no_newline_no_step : (s : Progress) (whole : Bytes) (after : List Bytes) (next : Progress) → HasNoNewline whole → ¬ Takes s whole after next
no_newline_no_step s whole after next plain t = newline_at_end whole t.step plain t.newline

pub no_step_here : (s : Progress) (step : Bytes) (after : List Bytes) (next : Progress) → ((n : ℕ) (line : DerivationLine) → ¬ IsStep n line step) → ¬ Takes s (step ++ codes "\n") after next
no_step_here s step after next none t =
    none t.number t.line (subst (IsStep t.number t.line) (append_cancel_right t.step step (codes "\n") (sym t.newline)) t.is_step)

-- the step that stands here has another number than it should
pub wrong_number : (s : Progress) (step : Bytes) (after : List Bytes) (next : Progress) (n : ℕ) (line : DerivationLine) → IsStep n line step → ¬ MayFollow s.last n → ¬ Takes s (step ++ codes "\n") after next
wrong_number s step after next n line found wrong t =
    let steps : t.step ≡ step = append_cancel_right t.step step (codes "\n") (sym t.newline) in
    let same = step_once step t.number n t.line line (subst (IsStep t.number t.line) steps t.is_step) found in
    wrong (subst (MayFollow s.last) same.0 t.follows)

-- a step goes on with those before it
pub step_taken : (lines : List DerivationLine) (last : ℕ) (step : Bytes) (after : List Bytes) (n : ℕ) (line : DerivationLine) → IsStep n line step → MayFollow last n → Takes (record { lines = lines; last = last }) (step ++ codes "\n") after (record { lines = lines ++ line ∷ []; last = n })
step_taken lines last step after n line found follows = record {
  number = n;
  line = line;
  step = step;
  is_step = found;
  newline = refl;
  follows = follows;
  leads = refl;
}

-- a step more at the end has the next number
text_of-push : (n : ℕ) (lines : List DerivationLine) (line : DerivationLine) → text_of n (lines ++ line ∷ []) ≡ text_of n lines ++ (step_text (n + length lines) line ++ codes "\n")
text_of-push n [] line = append-nil (step_text n line ++ codes "\n") ∙ ap (λ k. step_text k line ++ codes "\n") (omega arith)
text_of-push n (x ∷ xs) line =
    let number : n + 1 + length xs ≡ n + length (x ∷ xs) = omega arith in
    ap (λ t. step_text n x ++ codes "\n" ++ t) (text_of-push (n + 1) xs line)
    ∙ sym (append_assoc (step_text n x ++ codes "\n") (text_of (n + 1) xs) (step_text (n + 1 + length xs) line ++ codes "\n"))
    ∙ ap (λ k. step_text n x ++ codes "\n" ++ text_of (n + 1) xs ++ (step_text k line ++ codes "\n")) number

-- one step more is written
pub text_step : (n number : ℕ) (lines : List DerivationLine) (at : ℕ) (line : DerivationLine) → at < length lines → line ≡ get_or lines at line → number ≡ n + at → text_of n (take at lines) ++ step_text number line ++ codes "\n" ≡ text_of n (take (at + 1) lines)
text_step n number lines at line h here same =
    let len : length (take at lines) ≡ at = length-take-le at lines (omega arith) in
    let more : take (at + 1) lines ≡ take at lines ++ line ∷ [] = take_more lines at line h ∙ ap (λ x. take at lines ++ x ∷ []) (sym here) in
    let at_end : n + length (take at lines) ≡ number = omega arith in
    append_assoc (text_of n (take at lines)) (step_text number line) (codes "\n")
    ∙ sym (ap (text_of n) more ∙ text_of-push n (take at lines) line ∙ ap (λ k. text_of n (take at lines) ++ (step_text k line ++ codes "\n")) at_end)

-- one pair more of a chain is written
pub chain_written : (start old new : Bytes) (chain : ℕ) (pairs : List PivotOf) (i : ℕ) (d : PivotOf) → i < length pairs → old ≡ start ++ (decimal chain ++ flat_map pair_text (take i pairs)) → new ≡ old ++ pair_text (get_or pairs i d) → new ≡ start ++ (decimal chain ++ flat_map pair_text (take (i + 1) pairs))
chain_written start old new chain pairs i d h e g =
    element_written pair_text (start ++ decimal chain) old new pairs i d h (e ∙ sym (append_assoc start (decimal chain) (flat_map pair_text (take i pairs)))) g
    ∙ append_assoc start (decimal chain) (flat_map pair_text (take (i + 1) pairs))
