-- Words and blanks give a line back: a part, a word read alone is the same part, the same word.
use Rattle.std.proofs.Common.{ℕ, zero, suc, ◌≡◌, ◌∙◌, ◌⊎◌, inl, inr, refl, sym, ap, subst, ◌+◌, ◌<◌, ◌≤◌, ◌==◌, ◌&&◌, ◌||◌, arith, Bool, true, false, List, [], ◌∷◌, ◌++◌, append_assoc, length, take, drop, Option, Some, None, Result, Ok, Err}
use Rattle.std.specs.Prelude.{nat_eq, if◌then◌else◌}
use Rattle.std.specs.Option.{option_map}
use Rattle.std.specs.List.{list_all, prefix_len}
use Rattle.std.proofs.lemmas.Bool.{eqb-true, eq-eqb, false≢true}
use Rattle.std.proofs.lemmas.List.{append-nil, take-append-drop}
use Rattle.ut_text.specs.Bytes.{Bytes, backslash}
use Rattle.ut_text.specs.ByteClasses.{is_blank}
use Rattle.kconf_entries.specs.declared.entries.Var.{Var}
use Rattle.kconf_words.specs.declared.line_words.Form.TheVariants.{Bare, Quoted}
use Rattle.kconf_words.specs.declared.line_words.Form.TheVariants as form
use Rattle.kconf_words.specs.declared.line_words.LineWord.{LineWord}
use Rattle.kconf_words.specs.declared.line_bad.LineBad.{LineBad}
use Rattle.kconf_words.specs.declared.line_bad.LineBad.TheVariants.{Syntax}
use Rattle.kconf_words.specs.declared.line_bad.SyntaxKind.TheVariants.{Quote, Bracket}
use Rattle.kconf_lines.specs.Cut.{onto, go_on, cut}
use Rattle.kconf_cut.specs.declared.parts.Run.{Run}
use Rattle.kconf_cut.specs.declared.parts.Run.TheVariants.{Unquoted, QuotedBy}
use Rattle.kconf_cut.specs.Words.{Part, close_bracket, depth_after, closed, begins_call, first_call, unquoted, as_it_is, quoted, is_word_byte, is_mark, is_at, is_pair, sign_of, begins_comment, word_of, quoted_word, unquoted_word, word_at, first_word, unblanked, has_no_effect, all_words, words_of}
use Rattle.kconf_cut.specs.Reading.{parts_of}
use Rattle.kconf_cut.specs.Laws.{GivesBack}
use Rattle.kconf_cut.proofs.PartLemmas.{part_shorter, cut_parts, no_call, no_dollar}
use Rattle.kconf_cut.proofs.WordLemmas.{words_cut, next_shorter}

same_some : {A : Type 0} (x y : A) → ◌≡◌ {A = Option A} (Some x) (Some y) → x ≡ y
same_some x y h = cc

none_some : {A X : Type 0} (y : A) → ◌≡◌ {A = Option A} None (Some y) → X
none_some y h = absurd cc

two : (x y : Bool) → (x && y) ≡ true → (x ≡ true) × (y ≡ true)
two true y h = (refl, h)
two false y h = absurd (false≢true h)

and_true : (x y : Bool) → x ≡ true → y ≡ true → (x && y) ≡ true
and_true true y h g = g
and_true false y h g = absurd (false≢true h)

and_false : (x : Bool) → (x && false) ≡ false
and_false true = refl
and_false false = refl

-- ---- calls
record IsClosed (depth : ℕ) (s : Bytes) (p : Bytes × Bytes) : Type 0 where
  pub text : s ≡ p.0 ++ close_bracket ∷ p.1
  pub again : (t : Bytes) → closed depth (p.0 ++ close_bracket ∷ t) ≡ Some (p.0, t)

closed_local : (depth : ℕ) (s : Bytes) (p : Bytes × Bytes) → closed depth s ≡ Some p → IsClosed depth s p
closed_local depth [] p h = none_some p h
closed_local depth (b ∷ s) p h = by (b == close_bracket && depth == 0) refl h (closed (depth_after depth b) s) refl (closed_local (depth_after depth b) s)
  where
    by : (x : Bool) → (b == close_bracket && depth == 0) ≡ x → (if x then Some ([], s) else option_map (onto b) (closed (depth_after depth b) s)) ≡ Some p
        → (o : Option (Bytes × Bytes)) → closed (depth_after depth b) s ≡ o → ((q : Bytes × Bytes) → closed (depth_after depth b) s ≡ Some q → IsClosed (depth_after depth b) s q)
        → IsClosed depth (b ∷ s) p
    by true e g o w f =
        let v = two (b == close_bracket) (depth == 0) e in
        let here : b ≡ close_bracket = eqb-true b close_bracket v.0 in
        subst (IsClosed depth (b ∷ s)) (same_some ([], s) p g) (record { text = ap (λ c. c ∷ s) here; again = λ t. rw v.1 refl })
    by false e g None w f = none_some p (sym (ap (option_map (onto b)) w) ∙ g)
    by false e g (Some q) w f =
        let i = f q w in
        let is : (b ∷ q.0, q.1) ≡ p = same_some (b ∷ q.0, q.1) p (sym (ap (option_map (onto b)) w) ∙ g) in
        subst (IsClosed depth (b ∷ s)) is (record { text = ap (λ t. b ∷ t) i.text; again = λ t. rw e (ap (option_map (onto b)) (i.again t)) })

call_front : (s : Bytes) → begins_call s ≡ true → s ≡ 36 ∷ 40 ∷ drop 2 s
call_front [] h = absurd (false≢true h)
call_front (b ∷ []) h = absurd (false≢true (sym (and_false (nat_eq 36 b)) ∙ h))
call_front (b ∷ c ∷ s) h =
    let v = two (nat_eq 36 b) (nat_eq 40 c && true) h in
    let w = two (nat_eq 40 c) true v.1 in
    ap (λ x. x ∷ c ∷ s) (sym (eqb-true 36 b v.0)) ∙ ap (λ x. 36 ∷ x ∷ s) (sym (eqb-true 40 c w.0))

record IsCall (s : Bytes) (p : Part × Bytes) : Type 0 where
  pub inner : Bytes
  pub text : s ≡ 36 ∷ 40 ∷ inner ++ close_bracket ∷ p.1
  pub again : (t : Bytes) → first_call (36 ∷ 40 ∷ inner ++ close_bracket ∷ t) ≡ Some (p.0, t)

abbrev called : Bytes × Bytes → Part × Bytes
called c = (Part.Call c.0, c.1)

call_local : (s : Bytes) (p : Part × Bytes) → begins_call s ≡ true → first_call s ≡ Some p → IsCall s p
call_local s p c h = by (closed 0 (drop 2 s)) refl
  where
    by : (o : Option (Bytes × Bytes)) → closed 0 (drop 2 s) ≡ o → IsCall s p
    by None w = none_some p (sym (ap (option_map called) w) ∙ h)
    by (Some q) w =
        let i = closed_local 0 (drop 2 s) q w in
        subst (IsCall s) (same_some (called q) p (sym (ap (option_map called) w) ∙ h)) (record {
          inner = q.0;
          text = call_front s c ∙ ap (λ t. 36 ∷ 40 ∷ t) i.text;
          again = λ t. ap (option_map called) (i.again t);
        })

-- ---- parts
abbrev head : Bytes → Option ℕ
head [] = None
head (b ∷ s) = Some b

-- what may stand after the parts of a word: of a quoted one the first byte counts
abbrev Next : Run → Bytes → Bytes → Type 0
Next Unquoted t rest = Unit {0}
Next (QuotedBy mark) t rest = head t ≡ head rest

record IsPart (run : Run) (s : Bytes) (p : Part × Bytes) : Type 0 where
  pub front : Bytes
  pub text : s ≡ front ++ p.1
  pub again : (t : Bytes) → Next run t p.1 → parts_of run (front ++ t) ≡ Some (p.0, t)

same_call : (b : ℕ) (t s : Bytes) → head t ≡ head s → begins_call (b ∷ t) ≡ begins_call (b ∷ s)
same_call b [] [] h = refl
same_call b [] (c ∷ s) h = absurd cc
same_call b (c ∷ t) [] h = absurd cc
same_call b (c ∷ t) (d ∷ s) h = let e : c ≡ d = cc in ap (λ x. nat_eq 36 b && (nat_eq 40 x && true)) e

call_part : (run : Run) (s : Bytes) (p : Part × Bytes) → IsCall s p → ((t : Bytes) → parts_of run (36 ∷ 40 ∷ t) ≡ first_call (36 ∷ 40 ∷ t)) → IsPart run s p
call_part run s p i f = record {
  front = 36 ∷ 40 ∷ i.inner ++ close_bracket ∷ [];
  text = i.text ∙ ap (λ t. 36 ∷ 40 ∷ t) (sym (append_assoc i.inner (close_bracket ∷ []) p.1));
  again = λ t next. ap (λ x. parts_of run (36 ∷ 40 ∷ x)) (append_assoc i.inner (close_bracket ∷ []) t) ∙ f (i.inner ++ close_bracket ∷ t) ∙ i.again t;
}

unquoted_local : (b : ℕ) (s : Bytes) (p : Part × Bytes) → unquoted (b ∷ s) ≡ Some p → IsPart Unquoted (b ∷ s) p
unquoted_local b s p h = by (begins_call (b ∷ s)) (is_word_byte b) refl refl h
  where
    by : (x y : Bool) → begins_call (b ∷ s) ≡ x → is_word_byte b ≡ y → (if x then first_call (b ∷ s) else if y then Some (Part.Byte b, s) else None) ≡ Some p → IsPart Unquoted (b ∷ s) p
    by true y c w g = call_part Unquoted (b ∷ s) p (call_local (b ∷ s) p c g) (λ t. refl)
    by false true c w g = subst (IsPart Unquoted (b ∷ s)) (same_some (Part.Byte b, s) p g) (record {
      front = b ∷ [];
      text = refl;
      again = λ t next. rw (no_call b t (no_dollar b w), w) refl;
    })
    by false false c w g = none_some p g

abbrev first_or : Bytes → ℕ
first_or [] = 0
first_or (k ∷ t) = k

backslashed : (mark b : ℕ) (s : Bytes) (p : Part × Bytes) → (b == mark) ≡ false → begins_call (b ∷ s) ≡ false → (b == backslash) ≡ true → as_it_is s ≡ Some p → IsPart (QuotedBy mark) (b ∷ s) p
backslashed mark b [] p m c e h = none_some p h
backslashed mark b (d ∷ s) p m c e h = subst (IsPart (QuotedBy mark) (b ∷ d ∷ s)) (same_some (Part.Byte d, s) p h) (record {
  front = b ∷ d ∷ [];
  text = refl;
  again = λ t next. let k : begins_call (b ∷ d ∷ t) ≡ false = c in rw (m, k, e) refl;
})

quoted_local : (mark b : ℕ) (s : Bytes) (p : Part × Bytes) → quoted mark (b ∷ s) ≡ Some p → IsPart (QuotedBy mark) (b ∷ s) p
quoted_local mark b s p h = by (b == mark) (begins_call (b ∷ s)) (b == backslash) refl refl refl h
  where
    by : (x y z : Bool) → (b == mark) ≡ x → begins_call (b ∷ s) ≡ y → (b == backslash) ≡ z
        → (if x then None else if y then first_call (b ∷ s) else if z then as_it_is s else Some (Part.Byte b, s)) ≡ Some p → IsPart (QuotedBy mark) (b ∷ s) p
    by true y z m c e g = none_some p g
    by false true z m c e g =
        let dollar : b ≡ 36 = ap first_or (call_front (b ∷ s) c) in
        let other : (36 == mark) ≡ false = subst (λ k. (k == mark) ≡ false) dollar m in
        call_part (QuotedBy mark) (b ∷ s) p (call_local (b ∷ s) p c g) (λ t. rw other refl)
    by false false true m c e g = backslashed mark b s p m c e g
    by false false false m c e g = subst (IsPart (QuotedBy mark) (b ∷ s)) (same_some (Part.Byte b, s) p g) (record {
      front = b ∷ [];
      text = refl;
      again = λ t next. rw (m, same_call b t s next ∙ c, e) refl;
    })

part_local : (run : Run) (s : Bytes) (p : Part × Bytes) → parts_of run s ≡ Some p → IsPart run s p
part_local Unquoted [] p h = none_some p h
part_local Unquoted (b ∷ s) p h = unquoted_local b s p h
part_local (QuotedBy mark) [] p h = none_some p h
part_local (QuotedBy mark) (b ∷ s) p h = quoted_local mark b s p h

-- ---- the parts of a word
record IsCut (run : Run) (s : Bytes) (q : List Part × Bytes) : Type 0 where
  pub front : Bytes
  pub text : s ≡ front ++ q.1
  pub again : (t : Bytes) → Next run t q.1 → parts_of run t ≡ None → cut (parts_of run) (front ++ t) ≡ (q.0, t)

same_head : (front t rest : Bytes) → head t ≡ head rest → head (front ++ t) ≡ head (front ++ rest)
same_head [] t rest h = h
same_head (b ∷ front) t rest h = refl

next_on : (run : Run) (front t rest : Bytes) → Next run t rest → Next run (front ++ t) (front ++ rest)
next_on Unquoted front t rest h = tt
next_on (QuotedBy mark) front t rest h = same_head front t rest h

cut_step : (run : Run) (s : Bytes) → ((p : Part × Bytes) → length p.1 < length s → IsCut run p.1 (cut (parts_of run) p.1)) → IsCut run s (cut (parts_of run) s)
cut_step run s rest = by (parts_of run s) refl
  where
    none : parts_of run s ≡ None → IsCut run s (cut (parts_of run) s)
    none e = subst (IsCut run s) (sym (cut_parts run s ∙ ap (go_on (cut (parts_of run)) s) e)) (record {
      front = [];
      text = refl;
      again = λ t next ends. cut_parts run t ∙ ap (go_on (cut (parts_of run)) t) ends;
    })

    some : (p : Part × Bytes) → parts_of run s ≡ Some p → IsPart run s p → IsCut run p.1 (cut (parts_of run) p.1) → IsCut run s (cut (parts_of run) s)
    some p e i j = subst (IsCut run s) (sym (cut_parts run s ∙ ap (go_on (cut (parts_of run)) s) e)) (record {
      front = i.front ++ j.front;
      text = i.text ∙ ap (λ t. i.front ++ t) j.text ∙ sym (append_assoc i.front j.front (cut (parts_of run) p.1).1);
      again = λ t next ends.
          let on : Next run (j.front ++ t) p.1 = subst (Next run (j.front ++ t)) (sym j.text) (next_on run j.front t (cut (parts_of run) p.1).1 next) in
          ap (cut (parts_of run)) (append_assoc i.front j.front t)
          ∙ cut_parts run (i.front ++ (j.front ++ t))
          ∙ ap (go_on (cut (parts_of run)) (i.front ++ (j.front ++ t))) (i.again (j.front ++ t) on)
          ∙ ap (onto p.0) (j.again t next ends);
    })

    by : (o : Option (Part × Bytes)) → parts_of run s ≡ o → IsCut run s (cut (parts_of run) s)
    by None e = none e
    by (Some p) e = some p e (part_local run s p e) (rest p (part_shorter run s p e))

cut_local : (n : ℕ) (run : Run) (s : Bytes) → length s ≤ n → IsCut run s (cut (parts_of run) s)
cut_local zero run s le = cut_step run s (λ p z. absurd (omega (arith, z, le)))
cut_local (suc k) run s le = cut_step run s (λ p z. cut_local k run p.1 (omega (arith, z, le)))

-- ---- words
record IsWord (vars : List Var) (s : Bytes) (w : LineWord × Bytes) : Type 0 where
  pub word : Bytes
  pub text : s ≡ word ++ w.1
  pub alone : word_at vars word ≡ Some (w.0, [])

neither : (x y : Bool) → (x || y) ≡ false → (x ≡ false) × (y ≡ false)
neither true y h = absurd (false≢true (sym h))
neither false y h = (refl, h)

or_left : (x y : Bool) → (x || y) ≡ true → y ≡ false → x ≡ true
or_left true y g k = refl
or_left false y g k = absurd (false≢true (sym k ∙ g))

-- no parts of the empty text
no_parts : (ps : List Part) → cut unquoted [] ≡ (ps, []) → ps ≡ []
no_parts ps h = sym (ap (λ p. p.0) h)

-- where an unquoted word begins it has a part
some_part : (b : ℕ) (s : Bytes) → (is_word_byte b || begins_call (b ∷ s)) ≡ true → begins_call (cut unquoted (b ∷ s)).1 ≡ false → (cut unquoted (b ∷ s)).0 ≡ [] → {X : Type 0} → X
some_part b s begun c e {X} = by (unquoted (b ∷ s)) refl
  where
    by : (o : Option (Part × Bytes)) → unquoted (b ∷ s) ≡ o → X
    by None z =
        let left : (cut unquoted (b ∷ s)).1 ≡ b ∷ s = ap (λ p. p.1) (cut_parts Unquoted (b ∷ s) ∙ ap (go_on (cut unquoted) (b ∷ s)) z) in
        let no : begins_call (b ∷ s) ≡ false = subst (λ t. begins_call t ≡ false) left c in
        let byte : is_word_byte b ≡ true = or_left (is_word_byte b) (begins_call (b ∷ s)) begun no in
        none_some (Part.Byte b, s) (sym z ∙ rw (no, byte) refl)
    by (Some p) z =
        let parts : (cut unquoted (b ∷ s)).0 ≡ p.0 ∷ (cut unquoted p.1).0 = ap (λ p. p.0) (cut_parts Unquoted (b ∷ s) ∙ ap (go_on (cut unquoted) (b ∷ s)) z) in
        let none : [] ≡ p.0 ∷ (cut unquoted p.1).0 = sym e ∙ parts in
        absurd cc

-- an unquoted word alone
bare_alone : (vars : List Var) (b : ℕ) (s : Bytes) (ps : List Part) (rest front : Bytes) → is_mark b ≡ false → (is_word_byte b || begins_call (b ∷ s)) ≡ true
    → begins_call rest ≡ false → (ps, rest) ≡ cut unquoted (b ∷ s) → b ∷ s ≡ front ++ rest → cut unquoted front ≡ (ps, []) → word_at vars front ≡ Some (word_of vars Bare ps, [])
bare_alone vars b s ps rest [] m begun c is text alone =
    let none : (cut unquoted (b ∷ s)).0 ≡ [] = sym (ap (λ p. p.0) is) ∙ no_parts ps alone in
    let shut : begins_call (cut unquoted (b ∷ s)).1 ≡ false = ap (λ p. begins_call p.1) (sym is) ∙ c in
    some_part b s begun shut none
bare_alone vars b s ps rest (d ∷ f) m begun c is text alone = by (is_word_byte b || begins_call (b ∷ f)) refl
  where
    same : b ≡ d
    same = ap first_or text

    here : cut unquoted (b ∷ f) ≡ (ps, [])
    here = subst (λ k. cut unquoted (k ∷ f) ≡ (ps, [])) (sym same) alone

    by : (x : Bool) → (is_word_byte b || begins_call (b ∷ f)) ≡ x → word_at vars (d ∷ f) ≡ Some (word_of vars Bare ps, [])
    by true e = subst (λ k. word_at vars (k ∷ f) ≡ Some (word_of vars Bare ps, [])) same (rw (m, e) (ap (unquoted_word vars) here))
    by false e =
        let v = neither (is_word_byte b) (begins_call (b ∷ f)) e in
        let none : unquoted (b ∷ f) ≡ None = rw (v.1, v.0) refl in
        let left : cut unquoted (b ∷ f) ≡ ([], b ∷ f) = cut_parts Unquoted (b ∷ f) ∙ ap (go_on (cut unquoted) (b ∷ f)) none in
        let no : b ∷ f ≡ [] = ap (λ p. p.1) (sym left ∙ here) in
        absurd cc

-- a sign alone
sign_alone : (vars : List Var) (b : ℕ) (s : Bytes) → is_mark b ≡ false → (is_word_byte b || begins_call (b ∷ s)) ≡ false → begins_comment (b ∷ s) ≡ false
    → (w : LineWord × Bytes) → (if is_pair (b ∷ s) then Some (sign_of 2 (b ∷ s)) else Some (sign_of 1 (b ∷ s))) ≡ Some w → IsWord vars (b ∷ s) w
sign_alone vars b s m o n w h = by s (is_pair (b ∷ s)) o n refl h
  where
    one : (t : Bytes) → (is_word_byte b || begins_call (b ∷ t)) ≡ false → begins_comment (b ∷ t) ≡ false → word_at vars (b ∷ []) ≡ Some (record { form = form.Sign; text = b ∷ []; has_call = false }, [])
    one t o n =
        let v = neither (is_word_byte b) (begins_call (b ∷ t)) o in
        let call : begins_call (b ∷ []) ≡ false = and_false (nat_eq 36 b) in
        let comment : begins_comment (b ∷ []) ≡ false = n in
        rw (m, v.0, call, comment) (pick (is_pair (b ∷ [])))
      where
        pick : (x : Bool) → (if x then Some (sign_of 2 (b ∷ [])) else Some (sign_of 1 (b ∷ []))) ≡ Some (record { form = form.Sign; text = b ∷ []; has_call = false }, [])
        pick true = refl
        pick false = refl

    by : (t : Bytes) (x : Bool) → (is_word_byte b || begins_call (b ∷ t)) ≡ false → begins_comment (b ∷ t) ≡ false → is_pair (b ∷ t) ≡ x
        → (if x then Some (sign_of 2 (b ∷ t)) else Some (sign_of 1 (b ∷ t))) ≡ Some w → IsWord vars (b ∷ t) w
    by t false o n e g = subst (IsWord vars (b ∷ t)) (same_some (sign_of 1 (b ∷ t)) w g) (record { word = b ∷ []; text = refl; alone = one t o n })
    by [] true o n e g = subst (IsWord vars (b ∷ [])) (same_some (sign_of 2 (b ∷ [])) w g) (record { word = b ∷ []; text = refl; alone = one [] o n })
    by (d ∷ t) true o n e g =
        let is : (is_word_byte b || begins_call (b ∷ d ∷ [])) ≡ false = o in
        let comment : begins_comment (b ∷ d ∷ []) ≡ false = n in
        let pair : is_pair (b ∷ d ∷ []) ≡ true = e in
        subst (IsWord vars (b ∷ d ∷ t)) (same_some (sign_of 2 (b ∷ d ∷ t)) w g) (record { word = b ∷ d ∷ []; text = refl; alone = rw (m, is, comment, pair) refl })

at_front : (b : ℕ) (s : Bytes) → is_at b s ≡ true → s ≡ b ∷ drop 1 s
at_front b [] h = absurd (false≢true h)
at_front b (c ∷ s) h = ap (λ x. x ∷ s) (eqb-true c b h)

module _ (vars : List Var) (b : ℕ) (s : Bytes) where
  quoted_alone : (w : LineWord × Bytes) → is_mark b ≡ true → IsCut (QuotedBy b) s (cut (quoted b) s) → quoted_word vars b (cut (quoted b) s) ≡ Some w → IsWord vars (b ∷ s) w
  quoted_alone w m i h = by (is_at b (cut (quoted b) s).1) refl h
    where
      same : (b == b) ≡ true
      same = eq-eqb b b refl

      by : (x : Bool) → is_at b (cut (quoted b) s).1 ≡ x → (if x then Some (word_of vars Quoted (cut (quoted b) s).0, drop 1 (cut (quoted b) s).1) else None) ≡ Some w → IsWord vars (b ∷ s) w
      by false e g = none_some w g
      by true e g =
          let mark : (cut (quoted b) s).1 ≡ b ∷ drop 1 (cut (quoted b) s).1 = at_front b (cut (quoted b) s).1 e in
          let closed_by : cut (quoted b) (i.front ++ b ∷ []) ≡ ((cut (quoted b) s).0, b ∷ []) = i.again (b ∷ []) (sym (ap head mark)) (rw same refl) in
          subst (IsWord vars (b ∷ s)) (same_some (word_of vars Quoted (cut (quoted b) s).0, drop 1 (cut (quoted b) s).1) w g) (record {
            word = b ∷ i.front ++ b ∷ [];
            text = ap (λ t. b ∷ t) (i.text ∙ ap (λ t. i.front ++ t) mark ∙ sym (append_assoc i.front (b ∷ []) (drop 1 (cut (quoted b) s).1)));
            alone = rw m (ap (quoted_word vars b) closed_by ∙ rw same refl);
          })

  unquoted_alone : (w : LineWord × Bytes) → is_mark b ≡ false → IsCut Unquoted (b ∷ s) (cut unquoted (b ∷ s)) → (is_word_byte b || begins_call (b ∷ s)) ≡ true
      → unquoted_word vars (cut unquoted (b ∷ s)) ≡ Some w → IsWord vars (b ∷ s) w
  unquoted_alone w m i some h = by (begins_call (cut unquoted (b ∷ s)).1) refl h
    where
      alone_cut : cut unquoted i.front ≡ ((cut unquoted (b ∷ s)).0, [])
      alone_cut = ap (cut unquoted) (sym (append-nil i.front)) ∙ i.again [] tt refl

      by : (x : Bool) → begins_call (cut unquoted (b ∷ s)).1 ≡ x → (if x then None else Some (word_of vars Bare (cut unquoted (b ∷ s)).0, (cut unquoted (b ∷ s)).1)) ≡ Some w → IsWord vars (b ∷ s) w
      by true c g = none_some w g
      by false c g = subst (IsWord vars (b ∷ s)) (same_some (word_of vars Bare (cut unquoted (b ∷ s)).0, (cut unquoted (b ∷ s)).1) w g) (record {
        word = i.front;
        text = i.text;
        alone = bare_alone vars b s (cut unquoted (b ∷ s)).0 (cut unquoted (b ∷ s)).1 i.front m some c refl i.text alone_cut;
      })

  word_alone : (w : LineWord × Bytes) → word_at vars (b ∷ s) ≡ Some w → IsWord vars (b ∷ s) w
  word_alone w h = by (is_mark b) (is_word_byte b || begins_call (b ∷ s)) (begins_comment (b ∷ s)) refl refl refl h
    where
      by : (x y z : Bool) → is_mark b ≡ x → (is_word_byte b || begins_call (b ∷ s)) ≡ y → begins_comment (b ∷ s) ≡ z
          → (if x then quoted_word vars b (cut (quoted b) s) else if y then unquoted_word vars (cut unquoted (b ∷ s)) else if z then None
          else if is_pair (b ∷ s) then Some (sign_of 2 (b ∷ s)) else Some (sign_of 1 (b ∷ s))) ≡ Some w
          → IsWord vars (b ∷ s) w
      by true y z m o n g = quoted_alone w m (cut_local (length s) (QuotedBy b) s (omega arith)) g
      by false true z m o n g = unquoted_alone w m (cut_local (length (b ∷ s)) Unquoted (b ∷ s) (omega arith)) o g
      by false false true m o n g = none_some w g
      by false false false m o n g = sign_alone vars b s m o n w g

word_local : (vars : List Var) (s : Bytes) (w : LineWord × Bytes) → word_at vars s ≡ Some w → IsWord vars s w
word_local vars [] w h = none_some w h
word_local vars (b ∷ s) w h = word_alone vars b s w h

-- ---- lines
all_taken : (p : ℕ → Bool) (s : Bytes) → list_all p (take (prefix_len p s) s) ≡ true
all_taken p [] = refl
all_taken p (b ∷ s) = by (p b) refl (all_taken p s)
  where
    next : 1 + prefix_len p s ≡ suc (prefix_len p s)
    next = omega arith

    by : (x : Bool) → p b ≡ x → list_all p (take (prefix_len p s) s) ≡ true → list_all p (take (prefix_len p (b ∷ s)) (b ∷ s)) ≡ true
    by true e h = rw (e, next) (and_true (p b) (list_all p (take (prefix_len p s) s)) e h)
    by false e h = rw e refl

abbrev blanks_of : Bytes → Bytes
blanks_of line = take (prefix_len is_blank line) line

after_blanks : (line : Bytes) → line ≡ blanks_of line ++ unblanked line
after_blanks line = sym (take-append-drop (prefix_len is_blank line) line)

at_end : (ws vs : List LineWord) (s : Bytes) → all_words ws s ≡ Ok vs → (ws ≡ vs) × ((s ≡ []) ⊎ (begins_comment s ≡ true))
at_end ws vs [] h = (let e : ws ≡ vs = cc in e, inl refl)
at_end ws vs (b ∷ s) h = by (begins_comment (b ∷ s)) (is_mark b) refl h
  where
    by : (x y : Bool) → begins_comment (b ∷ s) ≡ x → (if x then Ok ws else if y then Err (Syntax Quote) else Err (Syntax Bracket)) ≡ Ok vs
        → (ws ≡ vs) × ((b ∷ s ≡ []) ⊎ (begins_comment (b ∷ s) ≡ true))
    by true y e g = (let same : ws ≡ vs = cc in same, inr e)
    by false true e g = absurd cc
    by false false e g = absurd cc

module _ (vars : List Var) where
  -- where the words of a line end, it is at its end or at `#`
  abbrev Ended : List LineWord × Bytes → Type 0
  Ended q = (unblanked q.1 ≡ []) ⊎ (begins_comment (unblanked q.1) ≡ true)

  -- so its words give it back
  abbrev Back : Bytes → List LineWord × Bytes → Type 0
  Back line q = Ended q → GivesBack vars q.0 line

  one_back : (line : Bytes) (w : LineWord × Bytes) → IsWord vars (unblanked line) w → (ws : List LineWord) → GivesBack vars ws w.1 → GivesBack vars (w.0 ∷ ws) line
  one_back line w i ws rest = (
    blanks_of line,
    i.word,
    w.1,
    after_blanks line ∙ ap (λ t. blanks_of line ++ t) i.text ∙ sym (append_assoc (blanks_of line) i.word w.1),
    all_taken is_blank line,
    i.alone,
    rest,
  )

  line_step : (line : Bytes) → ((w : LineWord × Bytes) → length w.1 < length line → Back w.1 (cut (first_word vars) w.1)) → Back line (cut (first_word vars) line)
  line_step line rest = by (first_word vars line) refl
    where
      cut_is : (o : Option (LineWord × Bytes)) → first_word vars line ≡ o → cut (first_word vars) line ≡ go_on (cut (first_word vars)) line o
      cut_is o e = words_cut vars line ∙ ap (go_on (cut (first_word vars)) line) e

      by : (o : Option (LineWord × Bytes)) → first_word vars line ≡ o → Back line (cut (first_word vars) line)
      by None e = subst (Back line) (sym (cut_is None e)) (λ z. (blanks_of line, unblanked line, after_blanks line, all_taken is_blank line, z))
      by (Some w) e =
          subst (Back line) (sym (cut_is (Some w) e))
          (λ z. one_back line w (word_local vars (unblanked line) w e) (cut (first_word vars) w.1).0 (rest w (next_shorter vars line w e) z))

  line_back : (n : ℕ) (line : Bytes) → length line ≤ n → Back line (cut (first_word vars) line)
  line_back zero line le = line_step line (λ w z. absurd (omega (arith, z, le)))
  line_back (suc k) line le = line_step line (λ w z. line_back k w.1 (omega (arith, z, le)))

  pub gives_back : (line : Bytes) (ws : List LineWord) → has_no_effect line ≡ false → words_of vars line ≡ Ok ws → GivesBack vars ws line
  gives_back line ws e h =
      let p = cut (first_word vars) line in
      let read : all_words p.0 (unblanked p.1) ≡ Ok ws = sym (rw e refl) ∙ h in
      let end = at_end p.0 ws (unblanked p.1) read in
      subst (λ l. GivesBack vars l line) end.0 (line_back (length line) line (omega arith) end.1)
