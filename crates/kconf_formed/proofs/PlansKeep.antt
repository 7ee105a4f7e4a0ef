-- What each line keeps holds of all lines of a tree.
use Rattle.std.proofs.Common.{ℕ, zero, suc, ◌≡◌, ◌⊎◌, inl, inr, subst, sym, List, [], ◌∷◌, Option, Some, None, Result, Ok, Err}
use Rattle.ut_text.specs.Bytes.{Bytes}
use Rattle.ut_base.specs.Plans.{Plan, Gives, Refuses, Takes, Asks, ◌then◌, plan}
use Rattle.ut_base.specs.Reading.{Came, Errors, Led, Ended}
use Rattle.kconf_entries.specs.declared.entries.Var.{Var}
use Rattle.kconf_lines.specs.Lines.{Line}
use Rattle.kconf_lines.specs.LogicalLines.{logical_lines_of}
use Rattle.kconf_words.specs.declared.line_words.LineWord.{LineWord}
use Rattle.kconf_words.specs.declared.line_bad.LineBad.{LineBad}
use Rattle.kconf_cut.specs.Words.{words_of}
use Rattle.kconf_statements.specs.EntryLines.{Entry, At, Before}
use Rattle.kconf_statements.specs.Enclosing.{enclosing, unclosed}
use Rattle.kconf_statements.specs.Statements.{said}
use Rattle.kconf_texts.specs.Texts.{is_help, Sourcing, with_text, unless_refused, words_read, lines_read, text_read, text_end, sourced, after_text}
use Rattle.kconf_formed.proofs.RestKeeps.{OkHas}
use Rattle.kconf_formed.proofs.SaidKeeps.{AreKept, said_keeps}

-- each value that a plan can come to
abbrev pub EachValue : {A E : Type 0} → (A → Type 0) → Plan A E → Type 0
EachValue P (Gives x) = P x
EachValue P (Refuses e) = Unit {0}
EachValue P (Takes name next) = (bytes : Bytes) → EachValue P (next bytes)
EachValue P (Asks name next) = (got : Option Bytes) → EachValue P (next got)

-- one plan after another
pub each_then : {A B E : Type 0} (P : A → Type 0) (Q : B → Type 0) (p : Plan A E) (f : A → Plan B E) → EachValue P p → ((x : A) → P x → EachValue Q (f x)) → EachValue Q (p then f)
each_then P Q (Gives x) f h g = g x h
each_then P Q (Refuses e) f h g = tt
each_then P Q (Takes name next) f h g = λ bytes. each_then P Q (next bytes) f (h bytes) g
each_then P Q (Asks name next) f h g = λ got. each_then P Q (next got) f (h got) g

-- so of what reading comes to
pub value_has : {A E : Type 0} (errors : Errors E) (P : A → Type 0) (p : Plan A E) (r : Result A E) (u m : ℕ) (cs : List Came) → plan errors p u cs m r → EachValue P p → OkHas P r
value_has errors P p (Err e) u m cs h g = tt
value_has {A} {E} errors P (Gives y) (Ok x) u m cs h g = by h.answer
  where
    by : ((◌≡◌ {A = Result A E} (Ok x) (Ok y)) × Unit {0}) ⊎ (◌≡◌ {A = Result A E} (Ok x) (Err errors.memory)) → P x
    by (inl is) = let w = is.0 in let same : x ≡ y = cc in subst P (sym same) g
    by (inr is) = absurd (cc)
value_has {A} {E} errors P (Refuses d) (Ok x) u m cs h g = absurd (by h.answer)
  where
    by : ((◌≡◌ {A = Result A E} (Ok x) (Err d)) × Unit {0}) ⊎ (◌≡◌ {A = Result A E} (Ok x) (Err errors.memory)) → ⊥
    by (inl is) = let w = is.0 in cc
    by (inr is) = cc
value_has errors P (Takes name next) (Ok x) u m cs (Led bytes mid front rest is h k) g = value_has errors P (next bytes) (Ok x) mid m rest k (g bytes)
value_has errors P (Takes name next) (Ok x) u m cs (Ended d h is) g = absurd (cc)
value_has errors P (Asks name next) (Ok x) u m cs (Led got mid front rest is h k) g = value_has errors P (next got) (Ok x) mid m rest k (g got)
value_has errors P (Asks name next) (Ok x) u m cs (Ended d h is) g = absurd (cc)

-- ---- over the lines of texts
abbrev Keeps : Sourcing → Type 0
Keeps s = (file : Bytes) (n : ℕ) (target : Bytes) (before : Before) → AreKept before → EachValue AreKept (s file n target before)

with_text_keeps : (s : Sourcing) → Keeps s → (file : Bytes) (n : ℕ) (before : Before) → AreKept before → EachValue AreKept (with_text s file n before)
with_text_keeps s k file n [] h = h
with_text_keeps s k file n (At own (Entry.Source target) ∷ before) h =
    each_then AreKept AreKept (s file n target (At own (Entry.Source target) ∷ before)) (after_text n) (k file n target (At own (Entry.Source target) ∷ before) h) (λ b g. (tt, g))
with_text_keeps s k file n (At own Entry.MainMenu ∷ before) h = h
with_text_keeps s k file n (At own Entry.Comment ∷ before) h = h
with_text_keeps s k file n (At own (Entry.Menu m) ∷ before) h = h
with_text_keeps s k file n (At own (Entry.Config c) ∷ before) h = h
with_text_keeps s k file n (At own (Entry.Choice c) ∷ before) h = h
with_text_keeps s k file n (At own (Entry.If e) ∷ before) h = h
with_text_keeps s k file n (At own (Entry.End what) ∷ before) h = h
with_text_keeps s k file n (At own Entry.Sourced ∷ before) h = h

said_text_keeps : (s : Sourcing) → Keeps s → (file : Bytes) (n : ℕ) (r : Result Before LineBad) → OkHas AreKept r → EachValue AreKept (unless_refused s file n r)
said_text_keeps s k file n (Ok after) h = with_text_keeps s k file n after h
said_text_keeps s k file n (Err e) h = tt

words_keep : (vars : List Var) (root : Bytes) (s : Sourcing) → Keeps s → (file : Bytes) (n : ℕ) (before : Before) (r : Result (List LineWord) LineBad)
    → AreKept before → EachValue AreKept (words_read vars root s file n before r)
words_keep vars root s k file n before (Ok []) h = h
words_keep vars root s k file n before (Ok (w ∷ ws)) h = said_text_keeps s k file n (said root n before (w ∷ ws)) (said_keeps root n before (w ∷ ws) h)
words_keep vars root s k file n before (Err e) h = tt

end_keeps : (file : Bytes) (before : Before) (o : Option ℕ) → AreKept before → EachValue AreKept (text_end file before o)
end_keeps file before None h = h
end_keeps file before (Some line) h = tt

lines_keep : (vars : List Var) (root : Bytes) (s : Sourcing) → Keeps s → (file : Bytes) (ls : List Line) (before : Before)
    → AreKept before → EachValue AreKept (lines_read vars root s file ls before)
lines_keep vars root s k file [] before h = end_keeps file before (unclosed (enclosing before)) h
lines_keep vars root s k file (l ∷ ls) before h =
    each_then AreKept AreKept (words_read vars root s file l.number before (words_of vars l.text)) (lines_read vars root s file ls)
    (words_keep vars root s k file l.number before (words_of vars l.text) h) (λ b g. lines_keep vars root s k file ls b g)

pub text_keeps : (vars : List Var) (root : Bytes) (s : Sourcing) → Keeps s → (file : Bytes) (before : Before) (bytes : Bytes)
    → AreKept before → EachValue AreKept (text_read vars root s file before bytes)
text_keeps vars root s k file before bytes h = lines_keep vars root s k file (logical_lines_of (λ text. is_help (words_of vars text)) bytes) before h

pub sourced_keeps : (vars : List Var) (root : Bytes) (room : ℕ) → Keeps (sourced vars root room)
sourced_keeps vars root zero file n target before h = tt
sourced_keeps vars root (suc room) file n target before h = λ bytes. text_keeps vars root (sourced vars root room) (sourced_keeps vars root room) target before bytes h
