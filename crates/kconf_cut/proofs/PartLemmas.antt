-- The parts of words, cut off one after another.
use Rattle.std.proofs.Common.{ℕ, zero, suc, min, ◌≡◌, ◌∙◌, refl, sym, ap, subst, ◌+◌, ◌<◌, ◌==◌, ◌&&◌, ◌||◌, arith, not, append_assoc, Bool, true, false, List, [], ◌∷◌, ◌++◌, length, take, drop}
use Rattle.std.specs.Prelude.{IfSome, nat_eq, if◌then◌else◌, Option, Some, None}
use Rattle.std.specs.List.{prefix_len}
use Rattle.std.proofs.lemmas.Bool.{eqb-true, false≢true}
use Rattle.ut_text.specs.Bytes.{Bytes, backslash}
use Rattle.kconf_entries.specs.declared.entries.Var.{Var}
use Rattle.kconf_lines.specs.Cut.{onto, go_on, cut}
use Rattle.kconf_lines.specs.Laws.{Shortens}
use Rattle.kconf_lines.proofs.CutLaws.{cut_is}
use Rattle.kconf_cut.specs.declared.parts.Run.{Run}
use Rattle.kconf_cut.specs.declared.parts.Run.TheVariants.{Unquoted, QuotedBy}
use Rattle.kconf_cut.specs.Words.{Part, begins_call, begins_assigning, unblanked, first_call, unquoted, as_it_is, quoted, is_word_byte, part_text, is_left, is_assigned}
use Rattle.kconf_cut.specs.Reading.{parts_of, is_plain, HeldParts, parts_held, held_of, held_after, after_unquoted, is_assigned_at, quoted_by, unquoted_by, quoted_of, unquoted_of}
use Rattle.kconf_cut.proofs.CallLemmas.{Leaves, if_both, call_shorter}

-- ---- each part takes something
pub unquoted_shorter : Shortens unquoted
unquoted_shorter [] = tt
unquoted_shorter (b ∷ s) = if_both (suc (length s)) (begins_call (b ∷ s)) (first_call (b ∷ s)) (if is_word_byte b then Some (Part.Byte b, s) else None)
    (call_shorter (b ∷ s)) (if_both (suc (length s)) (is_word_byte b) (Some (Part.Byte b, s)) None (omega arith) tt)

as_it_is_shorter : (s : Bytes) → Leaves (suc (length s)) (as_it_is s)
as_it_is_shorter [] = tt
as_it_is_shorter (b ∷ s) = omega arith

pub quoted_shorter : (mark : ℕ) → Shortens (quoted mark)
quoted_shorter mark [] = tt
quoted_shorter mark (b ∷ s) =
    let n = suc (length s) in
    let byte = if_both n (b == backslash) (as_it_is s) (Some (Part.Byte b, s)) (as_it_is_shorter s) (omega arith) in
    let part = if_both n (begins_call (b ∷ s)) (first_call (b ∷ s)) _ (call_shorter (b ∷ s)) byte in
    if_both n (b == mark) None _ tt part

parts_shorten : (run : Run) → Shortens (parts_of run)
parts_shorten Unquoted = unquoted_shorter
parts_shorten (QuotedBy mark) = quoted_shorter mark

pub part_shorter : (run : Run) (s : Bytes) (p : Part × Bytes) → parts_of run s ≡ Some p → length p.1 < length s
part_shorter run s p e = let h : IfSome (parts_of run s) (λ q. length q.1 < length s) = parts_shorten run s in rw e at h

-- the first part, and then those of what it leaves
pub cut_parts : (run : Run) (s : Bytes) → cut (parts_of run) s ≡ go_on (cut (parts_of run)) s (parts_of run s)
cut_parts run s = cut_is (parts_of run) (parts_shorten run) s

-- ---- what parts hold
held_step : (vars : List Var) (run : Run) (s : Bytes) (p : Part × Bytes) → parts_of run s ≡ Some p
    → held_of vars run s ≡ held_after (part_text vars p.0) (is_left vars p.0) (held_of vars run p.1)
held_step vars run s p e = ap (parts_held vars) (cut_parts run s ∙ ap (go_on (cut (parts_of run)) s) e)

pub held_end : (vars : List Var) (run : Run) (s : Bytes) → parts_of run s ≡ None → held_of vars run s ≡ record { text = []; has_call = false; rest = s }
held_end vars run s e = ap (parts_held vars) (cut_parts run s ∙ ap (go_on (cut (parts_of run)) s) e)

or_assoc : (x y z : Bool) → ((x || y) || z) ≡ (x || (y || z))
or_assoc true y z = refl
or_assoc false y z = refl

held_assoc : (text part : Bytes) (x y : Bool) (h : HeldParts) → held_after (text ++ part) (x || y) h ≡ held_after text x (held_after part y h)
held_assoc text part x y h = rw (append_assoc text part h.text, or_assoc x y h.has_call) refl

-- one more part is held
pub held_more : (vars : List Var) (run : Run) (text new : Bytes) (has is has_new : Bool) (rest : Bytes) (p : Part × Bytes) (whole : HeldParts)
    → parts_of run rest ≡ Some p → new ≡ text ++ part_text vars p.0 → is ≡ is_left vars p.0 → has_new ≡ (has || is)
    → held_after text has (held_of vars run rest) ≡ whole → held_after new has_new (held_of vars run p.1) ≡ whole
held_more vars run text new has is has_new rest p whole e n i o w =
    let made : has_new ≡ (has || is_left vars p.0) = o ∙ ap (λ b. has || b) i in
    ap (λ t. held_after t has_new (held_of vars run p.1)) n
    ∙ ap (λ b. held_after (text ++ part_text vars p.0) b (held_of vars run p.1)) made
    ∙ held_assoc text (part_text vars p.0) has (is_left vars p.0) (held_of vars run p.1)
    ∙ sym (ap (held_after text has) (held_step vars run rest p e)) ∙ w

or_none : (x : Bool) → (x || false) ≡ x
or_none true = refl
or_none false = refl

nothing_after : (s : Bytes) → s ++ [] ≡ s
nothing_after [] = refl
nothing_after (b ∷ s) = ap (λ t. b ∷ t) (nothing_after s)

-- no part is left
pub held_whole : (vars : List Var) (run : Run) (text : Bytes) (has : Bool) (rest : Bytes) (whole : HeldParts) → parts_of run rest ≡ None
    → held_after text has (held_of vars run rest) ≡ whole → record { text = text; has_call = has; rest = rest } ≡ whole
held_whole vars run text has rest whole e w =
    sym (ap (held_after text has) (held_end vars run rest e) ∙ rw (nothing_after text, or_none has) refl) ∙ w

-- ---- bytes that are parts by themselves
both : (x y : Bool) → (x && y) ≡ true → (x ≡ true) × (y ≡ true)
both true y h = (refl, h)
both false y h = absurd (false≢true h)

not_true : (x : Bool) → not x ≡ true → x ≡ false
not_true true h = absurd (false≢true h)
not_true false h = refl

pub no_call : (b : ℕ) (s : Bytes) → (b == 36) ≡ false → begins_call (b ∷ s) ≡ false
no_call b s h = by (nat_eq 36 b) refl
  where
    by : (x : Bool) → nat_eq 36 b ≡ x → begins_call (b ∷ s) ≡ false
    by true e =
        let same : b ≡ 36 = sym (eqb-true 36 b e) in
        let h' : true ≡ false = subst (λ k. (k == 36) ≡ false) same h in
        absurd (false≢true (sym h'))
    by false e = rw e refl

pub no_dollar : (b : ℕ) → is_word_byte b ≡ true → (b == 36) ≡ false
no_dollar b h = by (b == 36) refl
  where
    by : (x : Bool) → (b == 36) ≡ x → (b == 36) ≡ false
    by true e = absurd (false≢true (rw (eqb-true b 36 e) at h))
    by false e = e

plain_part : (run : Run) (b : ℕ) (s : Bytes) → is_plain run b ≡ true → parts_of run (b ∷ s) ≡ Some (Part.Byte b, s)
plain_part Unquoted b s h = rw (no_call b s (no_dollar b h), h) refl
plain_part (QuotedBy mark) b s h =
    let v = both (not (b == mark) && not (b == 36)) (not (b == backslash)) h in
    let w = both (not (b == mark)) (not (b == 36)) v.0 in
    rw (not_true (b == mark) w.0, no_call b s (not_true (b == 36) w.1), not_true (b == backslash) v.1) refl

-- they are read as they are
pub plain_held : (vars : List Var) (run : Run) (s : Bytes)
    → held_of vars run s ≡ held_after (take (prefix_len (is_plain run) s) s) false (held_of vars run (drop (prefix_len (is_plain run) s) s))
plain_held vars run [] = refl
plain_held vars run (b ∷ s) = by (is_plain run b) refl (plain_held vars run s)
  where
    next : 1 + prefix_len (is_plain run) s ≡ suc (prefix_len (is_plain run) s)
    next = omega arith

    by : (x : Bool) → is_plain run b ≡ x
        → held_of vars run s ≡ held_after (take (prefix_len (is_plain run) s) s) false (held_of vars run (drop (prefix_len (is_plain run) s) s))
        → held_of vars run (b ∷ s) ≡ held_after (take (prefix_len (is_plain run) (b ∷ s)) (b ∷ s)) false (held_of vars run (drop (prefix_len (is_plain run) (b ∷ s)) (b ∷ s)))
    by true e f = rw (e, next) (held_step vars run (b ∷ s) (Part.Byte b, s) (plain_part run b s e) ∙ ap (held_after (b ∷ []) false) f)
    by false e f = rw e refl

-- so the parts before the first call are read at once
pub plain_first : (vars : List Var) (run : Run) (text items plain others : Bytes) (n : ℕ) → n ≡ prefix_len (is_plain run) text → plain ≡ take n text → others ≡ drop n text
    → items ≡ plain → held_after items false (held_of vars run others) ≡ held_of vars run text
plain_first vars run text items plain others n e p o i =
    ap (λ x. held_after x false (held_of vars run others)) (i ∙ p)
    ∙ ap (λ x. held_after (take n text) false (held_of vars run x)) o
    ∙ ap (λ k. held_after (take k text) false (held_of vars run (drop k text))) e
    ∙ sym (plain_held vars run text)

-- ---- what stands after an unquoted word
pub after_step : (s : Bytes) (p : Part × Bytes) → unquoted s ≡ Some p → after_unquoted s ≡ after_unquoted p.1
after_step s p e = ap (λ (h : HeldParts). h.rest) (held_step [] Unquoted s p e)

pub after_none : (s : Bytes) → unquoted s ≡ None → after_unquoted s ≡ s
after_none s e = ap (λ (h : HeldParts). h.rest) (held_end [] Unquoted s e)

pub after_plain : (s others : Bytes) (n : ℕ) → n ≡ prefix_len (is_plain Unquoted) s → others ≡ drop n s → after_unquoted others ≡ after_unquoted s
after_plain s others n e o = ap after_unquoted (o ∙ ap (λ k. drop k s) e) ∙ sym (ap (λ (h : HeldParts). h.rest) (plain_held [] Unquoted s))

pub assigned_some : (s : Bytes) (p : Part × Bytes) → unquoted s ≡ Some p → is_assigned_at s ≡ begins_assigning (unblanked (after_unquoted p.1))
assigned_some s p e = ap is_assigned (cut_parts Unquoted s ∙ ap (go_on (cut unquoted) s) e)

pub assigned_none : (s : Bytes) → unquoted s ≡ None → is_assigned_at s ≡ false
assigned_none s e = ap is_assigned (cut_parts Unquoted s ∙ ap (go_on (cut unquoted) s) e)

-- ---- words of what was read
pub quoted_read : (vars : List Var) (mark : ℕ) (s : Bytes) (h : HeldParts) → h ≡ held_of vars (QuotedBy mark) s → quoted_by mark h ≡ quoted_of vars mark s
quoted_read vars mark s h e = ap (quoted_by mark) e

pub unquoted_read : (vars : List Var) (s : Bytes) (h : HeldParts) → h ≡ held_of vars Unquoted s → unquoted_by h ≡ unquoted_of vars s
unquoted_read vars s h e = ap unquoted_by e

-- ---- as many bytes as there are
pub take_min : (n : ℕ) (s : Bytes) → take (min n (length s)) s ≡ take n s
take_min zero s = let e : min 0 (length s) ≡ 0 = omega arith in rw e refl
take_min (suc n) [] = let e : min (suc n) (length {A = ℕ} []) ≡ 0 = omega arith in rw e refl
take_min (suc n) (b ∷ s) = let e : min (suc n) (length (b ∷ s)) ≡ suc (min n (length s)) = omega arith in rw e (ap (λ t. b ∷ t) (take_min n s))

pub drop_min : (n : ℕ) (s : Bytes) → drop (min n (length s)) s ≡ drop n s
drop_min zero s = let e : min 0 (length s) ≡ 0 = omega arith in rw e refl
drop_min (suc n) [] = let e : min (suc n) (length {A = ℕ} []) ≡ 0 = omega arith in rw e refl
drop_min (suc n) (b ∷ s) = let e : min (suc n) (length (b ∷ s)) ≡ suc (min n (length s)) = omega arith in rw e (drop_min n s)
