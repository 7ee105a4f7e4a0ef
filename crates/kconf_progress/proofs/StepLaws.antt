-- The steps of menus, ifs, comments, end words and sourced texts agree with their lines.
use Rattle.std.proofs.Common.{ℕ, suc, ◌≡◌, ◌∙◌, refl, sym, ap, ◌+◌, ◌-◌, arith, ◌||◌, Bool, true, false, not, List, [], ◌∷◌, ◌++◌, drop, Option, Some, None, Result, Ok, Err}
use Rattle.std.specs.Prelude.{if◌then◌else◌}
use Rattle.std.proofs.lemmas.Bool.{false≢true}
use Rattle.std.proofs.lemmas.List.{append-nil}
use Rattle.ut_text.specs.Bytes.{Bytes}
use Rattle.ut_base.specs.declared.limits.Limit.TheVariants.{Nesting}
use Rattle.kconf_entries.specs.declared.expr.Expr.{Expr}
use Rattle.kconf_words.specs.declared.line_bad.SyntaxKind.TheVariants as fault
use Rattle.kconf_words.specs.declared.line_bad.LineBad.{LineBad}
use Rattle.kconf_words.specs.declared.line_bad.LineBad.TheVariants.{Syntax, Depth}
use Rattle.kconf_statements.specs.declared.lines.Opens.{Opens}
use Rattle.kconf_statements.specs.declared.lines.Opens.TheVariants as opens
use Rattle.kconf_statements.specs.EntryLines.{new_menu, Entry, At, Before}
use Rattle.kconf_statements.specs.Enclosing.{Opener, is_choice, counted, unclosed_by, enclosing, in_choice, open_count, is_ended_by, ends_innermost, unclosed}
use Rattle.kconf_statements.specs.Entries.{types_of, type_of, configs_of, choices_of, choice_count}
use Rattle.kconf_statements.specs.Standing.{first_refusal, unless, begun}
use Rattle.kconf_progress.specs.declared.open_entries.OpenEntry.TheVariants as entry
use Rattle.kconf_progress.specs.Known.{known_by, choice_by}
use Rattle.kconf_progress.specs.Openers.{opening, opener_of}
use Rattle.kconf_progress.specs.Kept.{Kept, ending, beginning, outside_choice, menu, condition, without_last, choice_after, end, source, sourced}
use Rattle.kconf_progress.specs.Progress.{AreOutside, HaveOneChoice, Ended, Stands}
use Rattle.kconf_progress.proofs.OpenerLaws.{pushed, popped, ends_is}
use Rattle.kconf_progress.proofs.StandLaws.{ended}
use Rattle.kconf_progress.proofs.AgreeLaws.{Agree, refused_by, refused_full, in_choice_is}

-- ---- the innermost line ends
-- where an end word ends it, it is one of those that are counted
counts_down : (what : Opens) (os : List Opener) → ends_innermost what os ≡ true → open_count os - 1 ≡ open_count (drop 1 os)
counts_down what [] h = absurd (false≢true h)
counts_down what (o ∷ os) h = by what o.opens h
  where
    less : suc (open_count os) - 1 ≡ open_count os
    less = omega arith

    by : (w k : Opens) → is_ended_by w k ≡ true → counted k (open_count os) - 1 ≡ open_count os
    by opens.Menu opens.Menu g = less
    by opens.Choice opens.Choice g = less
    by opens.If opens.If g = less
    by w k g = absurd (false≢true g)

-- and what is left is outside of a choice, if that ended
choice_ends : (what : Opens) (os : List Opener) (n : ℕ) → HaveOneChoice os → ends_innermost what os ≡ true
    → choice_after what (if in_choice os then Some n else None) ≡ (if in_choice (drop 1 os) then Some n else None)
choice_ends what [] n alone h = absurd (false≢true h)
choice_ends what (o ∷ os) n alone h = by what o.opens alone.0 h
  where
    by : (w k : Opens) → AreOutside (is_choice k) os → is_ended_by w k ≡ true
        → choice_after w (if (is_choice k || in_choice os) then Some n else None) ≡ (if in_choice os then Some n else None)
    by opens.Menu opens.Menu a g = refl
    by opens.Choice opens.Choice a g = rw a refl
    by opens.If opens.If a g = refl
    by w k a g = absurd (false≢true g)

one_less : (os : List Opener) → HaveOneChoice os → HaveOneChoice (drop 1 os)
one_less [] h = tt
one_less (o ∷ os) h = h.1

-- an end word is refused where it ends nothing
refused_end : (a b : Bool) (e : LineBad) (x : Result Kept LineBad) (before : Before) → a ≡ b → (b ≡ true → Agree x (Ok before))
    → Agree (if a then x else Err e) (unless (first_refusal ((not b, e) ∷ [])) before)
refused_end true true e x before same h = h refl
refused_end false false e x before same h = refl
refused_end true false e x before same h = absurd (false≢true (sym same))
refused_end false true e x before same h = absurd (false≢true same)

-- ---- what is known stays
known_stays : (before : Before) (name : Bytes) → record { kind = type_of (types_of before ++ []) name; choice = choice_by (configs_of before ++ []) name } ≡ known_by before name
known_stays before name = rw (append-nil (types_of before), append-nil (configs_of before)) refl

module _ (before : Before) (p : Kept) (n : ℕ) (s : Stands before p) where
  e : Ended before (ending p)
  e = ended before p s

  choices_stay : choices_of (types_of before ++ []) before ≡ choices_of (types_of before) before
  choices_stay = ap (λ ts. choices_of ts before) (append-nil (types_of before))

  pub comment_agrees : Agree (Ok (beginning p entry.Comment)) (begun n before Entry.Comment)
  comment_agrees = record {
    holds = record { openers = e.holds.openers; alone = e.holds.alone; counted = e.holds.counted; choice = e.holds.choice; symbols = λ name. e.holds.symbols name ∙ sym (known_stays before name); names = e.holds.names };
    configs = e.configs;
    choices = e.choices ∙ sym choices_stay;
    entry = refl;
  }

  main_menu_stands : Stands (At n Entry.MainMenu ∷ before) (ending p)
  main_menu_stands = record {
    holds = record { openers = e.holds.openers; alone = e.holds.alone; counted = e.holds.counted; choice = e.holds.choice; symbols = λ name. e.holds.symbols name ∙ sym (known_stays before name); names = e.holds.names };
    configs = e.configs;
    choices = e.choices ∙ sym choices_stay;
    entry = refl;
  }

  pub main_menu_agrees : Agree (outside_choice p (Ok (ending p))) (begun n before Entry.MainMenu)
  main_menu_agrees = refused_by _ _ (Syntax fault.Choice) (Ok (ending p)) [] (At n Entry.MainMenu ∷ before) (in_choice_is before (ending p) e.holds) (λ h. main_menu_stands)

  menu_stands : Stands (At n (Entry.Menu new_menu) ∷ before) (record (beginning p entry.Menu) { openers = p.openers ++ opening opens.Menu n ∷ []; open_count = p.open_count + 1 })
  menu_stands = record {
    holds = record {
      openers = ap (λ os. opener_of (opening opens.Menu n) ∷ os) e.holds.openers ∙ sym (pushed p.openers (opening opens.Menu n));
      alone = (tt, e.holds.alone);
      counted = let c = e.holds.counted in omega (arith, c);
      choice = e.holds.choice;
      symbols = λ name. e.holds.symbols name ∙ sym (known_stays before name);
      names = e.holds.names;
    };
    configs = e.configs;
    choices = e.choices ∙ sym choices_stay;
    entry = refl;
  }

  pub menu_agrees : Agree (menu p n) (begun n before (Entry.Menu new_menu))
  menu_agrees = refused_by _ _ (Syntax fault.Choice) _ _ (At n (Entry.Menu new_menu) ∷ before) (in_choice_is before (ending p) e.holds)
      (λ h. refused_full p.open_count _ (Depth Nesting) _ (At n (Entry.Menu new_menu) ∷ before) e.holds.counted menu_stands)

  if_stands : (x : Expr) → Stands (At n (Entry.If x) ∷ before)
      (record (beginning p entry.Nothing) { openers = p.openers ++ record (opening opens.If n) { depends = x ∷ [] } ∷ []; open_count = p.open_count + 1 })
  if_stands x = record {
    holds = record {
      openers = ap (λ os. opener_of (record (opening opens.If n) { depends = x ∷ [] }) ∷ os) e.holds.openers ∙ sym (pushed p.openers (record (opening opens.If n) { depends = x ∷ [] }));
      alone = (tt, e.holds.alone);
      counted = let c = e.holds.counted in omega (arith, c);
      choice = e.holds.choice;
      symbols = λ name. e.holds.symbols name ∙ sym (known_stays before name);
      names = e.holds.names;
    };
    configs = e.configs;
    choices = e.choices ∙ sym choices_stay;
    entry = refl;
  }

  pub if_agrees : (x : Expr) → Agree (condition p n x) (begun n before (Entry.If x))
  if_agrees x = refused_full p.open_count _ (Depth Nesting) _ (At n (Entry.If x) ∷ before) e.holds.counted (if_stands x)

  pub source_agrees : (file : Bytes) → Agree (Ok (source p n)) (begun n before (Entry.Source file))
  source_agrees file = record {
    holds = record {
      openers = ap (λ os. opener_of (opening opens.Source n) ∷ os) e.holds.openers ∙ sym (pushed p.openers (opening opens.Source n));
      alone = (tt, e.holds.alone);
      counted = e.holds.counted;
      choice = e.holds.choice;
      symbols = λ name. e.holds.symbols name ∙ sym (known_stays before name);
      names = e.holds.names;
    };
    configs = e.configs;
    choices = e.choices ∙ sym choices_stay;
    entry = refl;
  }

  end_stands : (what : Opens) → ends_innermost what (enclosing before) ≡ true
      → Stands (At n (Entry.End what) ∷ before) (record (ending p) { openers = without_last p.openers; open_count = p.open_count - 1; choice = choice_after what p.choice })
  end_stands what h = record {
    holds = record {
      openers = ap (drop 1) e.holds.openers ∙ popped p.openers;
      alone = one_less (enclosing before) e.holds.alone;
      counted = ap (λ k. k - 1) e.holds.counted ∙ counts_down what (enclosing before) h;
      choice = ap (choice_after what) e.holds.choice ∙ choice_ends what (enclosing before) (choice_count before - 1) e.holds.alone h;
      symbols = λ name. e.holds.symbols name ∙ sym (known_stays before name);
      names = e.holds.names;
    };
    configs = e.configs;
    choices = e.choices ∙ sym choices_stay;
    entry = refl;
  }

  pub end_agrees : (what : Opens) → Agree (end p what) (begun n before (Entry.End what))
  end_agrees what = refused_end _ _ (Syntax fault.End) _ (At n (Entry.End what) ∷ before)
      (ends_is what p.openers ∙ sym (ap (ends_innermost what) e.holds.openers)) (end_stands what)

  -- the lines of a sourced text end, where none of its entries is open
  sourced_counts : (os : List Opener) → unclosed os ≡ None → open_count os ≡ open_count (drop 1 os)
  sourced_counts [] h = refl
  sourced_counts (o ∷ os) h = by o.opens (unclosed os) h
    where
      by : (k : Opens) (outer : Option ℕ) → unclosed_by k o.line outer ≡ None → counted k (open_count os) ≡ open_count os
      by opens.Source outer g = refl
      by opens.Menu None g = cc
      by opens.Menu (Some l) g = cc
      by opens.Choice None g = cc
      by opens.Choice (Some l) g = cc
      by opens.If None g = cc
      by opens.If (Some l) g = cc

  sourced_choice : (os : List Opener) → unclosed os ≡ None → in_choice os ≡ in_choice (drop 1 os)
  sourced_choice [] h = refl
  sourced_choice (o ∷ os) h = by o.opens (unclosed os) h
    where
      by : (k : Opens) (outer : Option ℕ) → unclosed_by k o.line outer ≡ None → (is_choice k || in_choice os) ≡ in_choice os
      by opens.Source outer g = refl
      by opens.Menu None g = cc
      by opens.Menu (Some l) g = cc
      by opens.Choice None g = cc
      by opens.Choice (Some l) g = cc
      by opens.If None g = cc
      by opens.If (Some l) g = cc

  pub sourced_stands : unclosed (enclosing before) ≡ None → Stands (At n Entry.Sourced ∷ before) (sourced p)
  sourced_stands h = record {
    holds = record {
      openers = ap (drop 1) e.holds.openers ∙ popped p.openers;
      alone = one_less (enclosing before) e.holds.alone;
      counted = e.holds.counted ∙ sourced_counts (enclosing before) h;
      choice = e.holds.choice ∙ ap (λ b. if b then Some (choice_count before - 1) else None) (sourced_choice (enclosing before) h);
      symbols = λ name. e.holds.symbols name ∙ sym (known_stays before name);
      names = e.holds.names;
    };
    configs = e.configs;
    choices = e.choices ∙ sym choices_stay;
    entry = refl;
  }
