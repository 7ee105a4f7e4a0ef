-- The text of a file, read line by line: what is left to read makes, with what was read, the whole.
use Rattle.std.proofs.Common.{ℕ, zero, suc, ◌≡◌, ◌∙◌, refl, sym, ap, subst, ◌<◌, ◌-◌, arith, length, Bool, List, [], ◌∷◌, Option, Some, None, Result, Ok, Err}
use Rattle.std.specs.Prelude.{IfSome, false}
use Rattle.std.specs.Option.{option_map}
use Rattle.ut_text.specs.Bytes.{Bytes}
use Rattle.ut_text.specs.Lines.{lines_of}
use Rattle.ut_base.specs.declared.limits.Limit.TheVariants.{SourceDepth}
use Rattle.ut_base.specs.Plans.{Refuses, Takes, ◌then◌, plan}
use Rattle.ut_base.specs.Reading.{Stand, Step, Reads, LeadsTo, wanted}
use Rattle.ut_base.proofs.PlanLaws.{lacks_plan, reads_joined, plan_on, plan_out}
use Rattle.ut_base.proofs.ReadingLaws.{reads_then, reads_err, reads_ok, reads_own, reads_memory, leads_start, leads_on, leads_end}
use Rattle.kconf_entries.specs.declared.entries.Var.{Var}
use Rattle.kconf_lines.specs.Cut.{go_on, cut}
use Rattle.kconf_lines.specs.Lines.{Line, numbered}
use Rattle.kconf_lines.specs.LogicalLines.{first_line, logical_lines}
use Rattle.kconf_lines.specs.Laws.{after_line}
use Rattle.kconf_lines.proofs.LineLaws.{line_shortens, lines_cut, passes_help}
use Rattle.kconf_words.specs.declared.line_bad.SyntaxKind.TheVariants.{Unclosed}
use Rattle.kconf_words.specs.declared.line_bad.LineBad.{LineBad}
use Rattle.kconf_words.specs.declared.line_bad.LineBad.TheVariants as bad
use Rattle.kconf_cut.specs.Words.{words_of}
use Rattle.kconf_statements.specs.EntryLines.{Entry, At, Before}
use Rattle.kconf_statements.specs.Enclosing.{enclosing, unclosed}
use Rattle.kconf_progress.specs.Kept.{Kept}
use Rattle.kconf_progress.specs.Progress.{Stands}
use Rattle.kconf_texts.specs.declared.bad.KconfBad.{KconfBad}
use Rattle.kconf_texts.specs.declared.bad.KconfBad.TheVariants as refusal
use Rattle.kconf_texts.specs.Errors.{kconf_errors}
use Rattle.kconf_texts.specs.Texts.{at_line, is_help, Reading, Sourcing, after_text, text_end, words_read, lines_read, text_read, sourced}
use Rattle.kconf_parse.specs.declared.line.Follows.{Follows}
use Rattle.kconf_parse.specs.Reading.{after_help_if, followed, IsRefusal, Adds, ReadsLine, EndsText, Ends, ReadsText}

-- the first logical line is read, and then those after it and its help text
pub one_line : (helps : Bytes → Bool) (ls mid : List Line) (l : Line) → first_line (λ text. false) ls ≡ Some (l, mid)
    → logical_lines helps ls ≡ l ∷ logical_lines helps (after_help_if (helps l.text) mid)
one_line helps ls mid l is = ap (λ p. p.0) (lines_cut helps ls ∙ ap (go_on (cut (first_line helps)) ls) (passes_help helps ls ∙ ap (option_map (after_line helps)) is))

pub line_cut : (helps : Bytes → Bool) (ls mid next : List Line) (l : Line) (b : Bool) → first_line (λ text. false) ls ≡ Some (l, mid) → b ≡ helps l.text → next ≡ after_help_if b mid
    → logical_lines helps ls ≡ l ∷ logical_lines helps next
line_cut helps ls mid next l b is h e =
    one_line helps ls mid l is ∙ ap (λ k. l ∷ logical_lines helps (after_help_if k mid)) (sym h) ∙ ap (λ k. l ∷ logical_lines helps k) (sym e)

-- and these are fewer
pub fewer : (helps : Bytes → Bool) (ls mid next : List Line) (l : Line) (b : Bool) → first_line (λ text. false) ls ≡ Some (l, mid) → b ≡ helps l.text → next ≡ after_help_if b mid
    → length next < length ls
fewer helps ls mid next l b is h e =
    let less : IfSome (first_line helps ls) (λ p. length p.1 < length ls) = line_shortens helps ls in
    let first : first_line helps ls ≡ Some (l, after_help_if (helps l.text) mid) = passes_help helps ls ∙ ap (option_map (after_line helps)) is in
    let left : length (after_help_if (helps l.text) mid) < length ls = rw first at less in
    rw (e, h) left

module _ (file : Bytes) (n : ℕ) (reading : Sourcing → Bytes → Reading) (helps : Bool) (p : Kept) (s : Sourcing) (here : Stand) (u : ℕ) where
  no_read : (e : KconfBad) → e ≡ refusal.Oom → Reads (plan kconf_errors (reading s file)) here here u u (Err e)
  no_read e is = subst (λ k. Reads (plan kconf_errors (reading s file)) here here u u (Err k)) (sym is) (reads_memory {errors = kconf_errors} (lacks_plan {errors = kconf_errors} (reading s file)))

  own : (d e : KconfBad) → kconf_errors.IsOwn d → reading s file ≡ Refuses d → e ≡ d → Reads (plan kconf_errors (reading s file)) here here u u (Err e)
  own d e o a is =
      subst (λ k. Reads (plan kconf_errors (reading s file)) here here u u (Err k)) (sym is)
      (subst (λ q. Reads (plan kconf_errors q) here here u u (Err d)) (sym a) (reads_own {errors = kconf_errors} refl o))

  -- a refused line ends reading by its refusal, or want of memory
  pub refused : (b : LineBad) (e : KconfBad) → Adds reading n helps (Err b) p → IsRefusal file n b e → Reads (plan kconf_errors (reading s file)) here here u u (Err e)
  refused bad.Oom e a is = no_read e is
  refused b refusal.Oom a is = no_read refusal.Oom refl
  refused (bad.Syntax k) e a is = own (refusal.Syntax file n k) e tt (a s file) is
  refused bad.Macro e a is = own (refusal.Macro file n) e tt (a s file) is
  refused (bad.Depth w) e a is = own (refusal.Depth file n w) e tt (a s file) is

module _ (vars : List Var) (root : Bytes) (room : ℕ) (file : Bytes) (before : Before) (start : Stand) (used : ℕ) where
  abbrev helps : Bytes → Bool
  helps text = is_help (words_of vars text)

  abbrev s : Sourcing
  s = sourced vars root room

  abbrev more : List Line → Before → Reading
  more ls = lines_read vars root s file (logical_lines helps ls)

  abbrev whole : Step Before KconfBad
  whole = plan kconf_errors (Takes file (text_read vars root s file before))

  abbrev Left : Reading → Stand → ℕ → Type 0
  Left q here u = LeadsTo whole start used (plan kconf_errors q) here u

  -- within the text: what is kept stands for the lines so far, and these are left
  pub record Within (ls : List Line) (here : Stand) (u : ℕ) (p : Kept) : Type 0 where
    pub now : Before
    pub stands : Stands now p
    pub left : Left (more ls now) here u

  -- out by a refusal
  out : {A : Type 0} {here : Stand} {u : ℕ} {p : Kept} (e : KconfBad) (r : Result A KconfBad) → r ≡ Err e → Reads whole start here used u (Err e) → ReadsText vars root room file before start here used u r p
  out {p = p} e r is h = (Err e, h, subst (λ k. Ends (Err e) k p) (sym is) refl)

  -- the text is not there
  pub not_taken : {A : Type 0} {here : Stand} {u : ℕ} {p : Kept} (e : KconfBad) (r : Result A KconfBad) → r ≡ Err e → Reads (wanted kconf_errors file) start here used u (Err e)
      → ReadsText vars root room file before start here used u r p
  not_taken e r is h = out e r is (reads_err h)

  -- the text is there
  pub taken : {here : Stand} {u : ℕ} (p : Kept) (bytes : Bytes) (ls : List Line) → Stands before p → ls ≡ numbered 1 (lines_of bytes)
      → Reads (wanted kconf_errors file) start here used u (Ok bytes) → Within ls here u p
  taken {here = here} {u = u} p bytes ls stands is h = record {
    now = before;
    stands = stands;
    left = subst (λ k. Left (more k before) here u) (sym is) (leads_on leads_start h);
  }

  -- there is no memory
  pub no_memory : {A : Type 0} {here : Stand} {u : ℕ} {p : Kept} (q : Reading) (r : Result A KconfBad) → r ≡ Err refusal.Oom → Left q here u → ReadsText vars root room file before start here used u r p
  no_memory q r is left = out refusal.Oom r is (leads_end left (reads_memory {errors = kconf_errors} (lacks_plan {errors = kconf_errors} q)))

  module _ {here : Stand} {u : ℕ} {p : Kept} (ls : List Line) (w : Within ls here u p) where
    -- after the last line
    at_end : ls ≡ [] → Left (text_end file w.now (unclosed (enclosing w.now))) here u
    at_end none = subst (λ k. Left (more k w.now) here u) none w.left

    pub ends : {A : Type 0} (r : Result A KconfBad) → ls ≡ [] → EndsText file w.now r → ReadsText vars root room file before start here used u r p
    ends (Ok x) none h = (
      Ok w.now,
      leads_end (subst (λ k. Left (text_end file w.now k) here u) h (at_end none)) (reads_ok {errors = kconf_errors} refl),
      (w.stands, h),
    )
    ends (Err e) none h =
        let reading : Sourcing → Bytes → Reading = λ other name. Refuses (at_line name h.0 (bad.Syntax Unclosed)) in
        let q : Left (Refuses (at_line file h.0 (bad.Syntax Unclosed))) here u = subst (λ k. Left (text_end file w.now k) here u) h.1 (at_end none) in
        out e (Err e) refl (leads_end q (refused file h.0 reading false p s here u (bad.Syntax Unclosed) e (λ other name. refl) h.2))

    module _ (l : Line) (next : List Line) (is : logical_lines helps ls ≡ l ∷ logical_lines helps next) where
      abbrev reading : Sourcing → Bytes → Reading
      reading other name = words_read vars root other name l.number w.now (words_of vars l.text)

      -- a line is at hand
      at_hand : Left (reading s file then more next) here u
      at_hand = subst (λ k. Left (lines_read vars root s file k w.now) here u) is w.left

      -- it is refused
      pub line_refused : {A : Type 0} {q : Kept} (b : LineBad) (e : KconfBad) (r : Result A KconfBad) → ReadsLine vars root l.number w.now l.text (Err b) q → IsRefusal file l.number b e → r ≡ Err e
          → ReadsText vars root room file before start here used u r q
      line_refused {q = q} b e r a i same =
          out e r same (plan_out kconf_errors (more next) (reading s file) refl at_hand (refused file l.number reading (helps l.text) q s here u b e a i))

      module _ {q : Kept} (f : Follows) (a : ReadsLine vars root l.number w.now l.text (Ok f) q) where
        follows : (o : Option Bytes) → f.text ≡ o → Left (followed s file l.number a.0 o then more next) here u
        follows o t = subst (λ k. Left (k then more next) here u) (a.1 s file ∙ ap (followed s file l.number a.0) t) at_hand

        -- the next line follows
        pub line_passed : f.text ≡ None → Within next here u q
        line_passed t = record { now = a.0; stands = a.2; left = follows None t }

        module _ (target : Bytes) (t : f.text ≡ Some target) where
          -- no text may follow
          no_room : room ≡ 0 → Left (Refuses (at_line file l.number (bad.Depth SourceDepth))) here u
          no_room none = subst (λ k. Left ((sourced vars root k file l.number target a.0 then after_text l.number) then more next) here u) none (follows (Some target) t)

          pub too_deep : {A : Type 0} {new : Kept} (e : KconfBad) (r : Result A KconfBad) → room ≡ 0 → IsRefusal file l.number (bad.Depth SourceDepth) e → r ≡ Err e
              → ReadsText vars root room file before start here used u r new
          too_deep e r none i same =
              let far : Sourcing → Bytes → Reading = λ other name. Refuses (at_line name l.number (bad.Depth SourceDepth)) in
              out e r same (leads_end (no_room none) (refused file l.number far false q s here u (bad.Depth SourceDepth) e (λ other name. refl) i))

          -- a text follows
          abbrev text : Reading
          text = Takes target (text_read vars root (sourced vars root (room - 1)) target a.0)

          has_room : (k : ℕ) → 0 < k → sourced vars root k file l.number target a.0 ≡ Takes target (text_read vars root (sourced vars root (k - 1)) target a.0)
          has_room zero h = absurd (omega (arith, h))
          has_room (suc k) h =
              let one_less : k ≡ suc k - 1 = omega arith in
              ap (λ j. Takes target (text_read vars root (sourced vars root j) target a.0)) one_less

          at_text : 0 < room → Left ((text then after_text l.number) then more next) here u
          at_text h = subst (λ k. Left ((k then after_text l.number) then more next) here u) (has_room room h) (follows (Some target) t)

          -- a text that was read, with which what is kept stands
          pub record Came (there : Stand) (m : ℕ) (new : Kept) : Type 0 where
            pub after : Before
            pub stands : Stands after new
            pub closed : unclosed (enclosing after) ≡ None
            pub left : Left (more next (At l.number Entry.Sourced ∷ after)) there m

          module _ {there : Stand} {m : ℕ} {new : Kept} (h : 0 < room) where
            -- it is refused
            pub text_refused : {A B : Type 0} {last : Kept} (e : KconfBad) (r : Result A KconfBad) → ReadsText {A = B} vars root (room - 1) target a.0 here there u m (Err e) new → r ≡ Err e
                → ReadsText vars root room file before start there used m r last
            text_refused {A = A} {B = B} {last = last} e r g same = by g.0 g.1 g.2
              where
                by : (x : Result Before KconfBad) → Reads (plan kconf_errors text) here there u m x → Ends {A = B} x (Err e) new → ReadsText vars root room file before start there used m r last
                by (Ok b) k z = absurd z
                by (Err d) k z =
                    out d r (same ∙ ap Err (sym z)) (plan_out kconf_errors (more next) (text then after_text l.number) refl (at_text h) (reads_joined kconf_errors (after_text l.number) text (reads_err k)))

            -- it was read
            pub text_came : {B : Type 0} (x : B) → ReadsText {A = B} vars root (room - 1) target a.0 here there u m (Ok x) new → Came there m new
            text_came {B = B} x g = by g.0 g.1 g.2
              where
                by : (y : Result Before KconfBad) → Reads (plan kconf_errors text) here there u m y → Ends {A = B} y (Ok x) new → Came there m new
                by (Err d) k z = absurd z
                by (Ok b) k z = record {
                  after = b;
                  stands = z.0;
                  closed = z.1;
                  left = plan_on kconf_errors (more next) (text then after_text l.number) (at_text h)
                      (reads_joined kconf_errors (after_text l.number) text (reads_then k (reads_ok {errors = kconf_errors} refl)));
                }

            -- the next line follows it
            pub text_passed : {last : Kept} → (c : Came there m new) → Stands (At l.number Entry.Sourced ∷ c.after) last → Within next there m last
            text_passed c stands = record { now = At l.number Entry.Sourced ∷ c.after; stands = stands; left = c.left }
