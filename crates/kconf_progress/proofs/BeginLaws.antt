-- A config or a choice that begins agrees with its line.
use Rattle.std.proofs.Common.{ℕ, suc, ◌≡◌, ◌∙◌, refl, sym, ap, subst, ◌-◌, ◌+◌, ◌≤◌, arith, ◌&&◌, ◌||◌, Bool, true, false, List, [], ◌∷◌, ◌++◌, length, Option, Some, None, Result, Ok, Err}
use Rattle.std.specs.Prelude.{All, nat_le, nat_lt, option_to_list, if◌then◌else◌}
use Rattle.ut_text.specs.Results.{◌>>=◌}
use Rattle.std.specs.List.{list_any}
use Rattle.std.proofs.lemmas.List.{append-nil}
use Rattle.indexmap.specs.IndexMap.{insert_entry}
use Rattle.ut_text.specs.Bytes.{Bytes}
use Rattle.ut_text.specs.Text.{text_eq, text_eq-exact}
use Rattle.ut_base.specs.declared.limits.Limit.TheVariants.{Nesting}
use Rattle.kconf_entries.specs.declared.entries.ConfigEntry.{ConfigEntry}
use Rattle.kconf_words.specs.declared.line_bad.SyntaxKind.TheVariants as fault
use Rattle.kconf_words.specs.declared.line_bad.LineBad.{LineBad}
use Rattle.kconf_words.specs.declared.line_bad.LineBad.TheVariants.{Syntax, Depth}
use Rattle.kconf_statements.specs.declared.lines.Opens.TheVariants as opens
use Rattle.kconf_statements.specs.EntryLines as lines
use Rattle.kconf_statements.specs.EntryLines.{Entry, At, Before}
use Rattle.kconf_statements.specs.Enclosing.{enclosing, in_choice, open_count}
use Rattle.kconf_statements.specs.Entries.{types_of, type_of, configs_of, choices_of, choice_count, number_of_choice, config_entry, may_be_member}
use Rattle.kconf_statements.specs.Standing.{is_elsewhere, is_member_of_two_by, is_named, is_used, first_refusal, unless, begun}
use Rattle.kconf_statements.proofs.FormedLaws.{Below, choices_counted, configs_below}
use Rattle.kconf_progress.specs.declared.kinds.Known.{Known}
use Rattle.kconf_progress.specs.declared.open_entries.OpenEntry.TheVariants as entry
use Rattle.kconf_progress.specs.Known.{first_choice, choice_by, known_by, known_of}
use Rattle.kconf_progress.specs.Openers.{opening, opener_of}
use Rattle.kconf_progress.specs.OpenEntries.{new_config, new_choice}
use Rattle.kconf_progress.specs.Kept as kept
use Rattle.kconf_progress.specs.Kept.{Kept, ending, beginning, opened, config_by, in_choice as config_in_choice, with_choice}
use Rattle.kconf_progress.specs.Progress.{Holds, Ended, Stands}
use Rattle.kconf_progress.proofs.OpenerLaws.{pushed}
use Rattle.kconf_progress.proofs.StandLaws.{ended}
use Rattle.kconf_progress.proofs.KnownLaws.{text_sym, known_insert}
use Rattle.kconf_progress.proofs.AgreeLaws.{Agree, refused_by, refused_full, in_choice_is}
use Rattle.kconf_progress.proofs.MemberOfTwoLaws.{rising, elsewhere_is}

-- ---- the choice of a symbol, with a config more
choice_last : (cs : List ConfigEntry) (c : ConfigEntry) (x : Bytes) → choice_by (cs ++ c ∷ []) x ≡ (if text_eq c.name x then first_choice (choice_by cs x) c.choice else choice_by cs x)
choice_last [] c x = by (text_eq c.name x) c.choice
  where
    by : (b : Bool) (o : Option ℕ) → (if b then first_choice o None else None) ≡ (if b then first_choice None o else None)
    by true None = refl
    by true (Some n) = refl
    by false o = refl
choice_last (d ∷ cs) c x = by (text_eq d.name x) d.choice (choice_last cs c x)
  where
    by : (b : Bool) (o : Option ℕ) → choice_by (cs ++ c ∷ []) x ≡ (if text_eq c.name x then first_choice (choice_by cs x) c.choice else choice_by cs x)
        → (if b then first_choice o (choice_by (cs ++ c ∷ []) x) else choice_by (cs ++ c ∷ []) x)
        ≡ (if text_eq c.name x then first_choice (if b then first_choice o (choice_by cs x) else choice_by cs x) c.choice else (if b then first_choice o (choice_by cs x) else choice_by cs x))
    by true None h = h
    by true (Some n) h = both (text_eq c.name x)
      where
        both : (e : Bool) → Some n ≡ (if e then Some n else Some n)
        both true = refl
        both false = refl
    by false o h = h

-- a config outside of choices changes nothing that is known
none_more : (b : Bool) (o : Option ℕ) → (if b then first_choice o None else o) ≡ o
none_more true None = refl
none_more true (Some n) = refl
none_more false o = refl

module _ (before : Before) (p : Kept) (n : ℕ) (name : Bytes) (s : Stands before p) where
  e : Ended before (ending p)
  e = ended before p s

  types_stay : choices_of (types_of before ++ []) before ≡ choices_of (types_of before) before
  types_stay = ap (λ ts. choices_of ts before) (append-nil (types_of before))

  abbrev entry_here : Option ℕ → ConfigEntry
  entry_here number = config_entry (enclosing before) number (lines.new_config name)

  -- what is known with the config
  known_with : (x : Bytes) (number : Option ℕ) → number_of_choice before ≡ number
      → known_by (At n (Entry.Config (lines.new_config name)) ∷ before) x
      ≡ record { kind = type_of (types_of before) x; choice = (if text_eq name x then first_choice (choice_by (configs_of before) x) number else choice_by (configs_of before) x) }
  known_with x number h =
      ap (λ ts. record { kind = type_of ts x; choice = choice_by (configs_of before ++ entry_here (number_of_choice before) ∷ []) x }) (append-nil (types_of before))
      ∙ ap (λ o. record { kind = type_of (types_of before) x; choice = o }) (choice_last (configs_of before) (entry_here (number_of_choice before)) x)
      ∙ ap (λ o. record { kind = type_of (types_of before) x; choice = (if text_eq name x then first_choice (choice_by (configs_of before) x) o else choice_by (configs_of before) x) }) h

  begins : (q : Kept) → Holds (At n (Entry.Config (lines.new_config name)) ∷ before) q → q.configs ≡ (ending p).configs → q.choices ≡ (ending p).choices
      → q.entry ≡ entry.Config (new_config name) → Stands (At n (Entry.Config (lines.new_config name)) ∷ before) q
  begins q h c d f = record {
    holds = h;
    configs = c ∙ e.configs;
    choices = d ∙ e.choices ∙ sym types_stay;
    entry = (new_config name, f, record { name = refl; kind = refl; depends = refl; prompts = refl; defaults = refl; selects = refl; implies = refl; modules = refl });
  }

  -- outside of choices
  outside_stands : number_of_choice before ≡ None → Stands (At n (Entry.Config (lines.new_config name)) ∷ before) (beginning p (entry.Config (new_config name)))
  outside_stands h = begins _ (record {
    openers = e.holds.openers;
    alone = e.holds.alone;
    counted = e.holds.counted;
    choice = e.holds.choice;
    symbols = λ x. e.holds.symbols x ∙ sym (known_with x None h
        ∙ ap (λ o. record { kind = type_of (types_of before) x; choice = o }) (none_more (text_eq name x) (choice_by (configs_of before) x)));
    names = e.holds.names;
  }) refl refl refl

  -- in a choice
  noted_is : (k : ℕ) (x : Bytes) (b : Bool) (w v : Known) → (b ≡ true → w ≡ v)
      → (if b then record w { choice = first_choice w.choice (Some k) } else v) ≡ record { kind = v.kind; choice = (if b then first_choice v.choice (Some k) else v.choice) }
  noted_is k x true w v h = ap (λ (u : Known). record u { choice = first_choice u.choice (Some k) }) (h refl)
  noted_is k x false w v h = refl

  inside_stands : (k : ℕ) → number_of_choice before ≡ Some k → Stands (At n (Entry.Config (lines.new_config name)) ∷ before)
      (record (beginning p (entry.Config (new_config name))) {
        symbols = insert_entry text_eq p.symbols name (record (known_of p.symbols name) { choice = first_choice (known_of p.symbols name).choice (Some k) });
      })
  inside_stands k h = begins _ (record {
    openers = e.holds.openers;
    alone = e.holds.alone;
    counted = e.holds.counted;
    choice = e.holds.choice;
    symbols = λ x.
        known_insert p.symbols name x (record (known_of p.symbols name) { choice = first_choice (known_of p.symbols name).choice (Some k) })
        ∙ noted_is k x (text_eq x name) (known_of p.symbols name) (known_of p.symbols x) (λ q. ap (known_of p.symbols) (sym (text_eq-exact x name q)))
        ∙ ap (λ (v : Known). record { kind = v.kind; choice = (if text_eq x name then first_choice v.choice (Some k) else v.choice) }) (e.holds.symbols x)
        ∙ ap (λ b. record { kind = type_of (types_of before) x; choice = (if b then first_choice (choice_by (configs_of before) x) (Some k) else choice_by (configs_of before) x) }) (text_sym x name)
        ∙ sym (known_with x (Some k) h);
    names = e.holds.names;
  }) refl refl refl

  -- the number of the choice that encloses
  number_is : (o : Option ℕ) → p.choice ≡ o → number_of_choice before ≡ o
  number_is o h = sym e.holds.choice ∙ h

  config_with : (o : Option ℕ) → p.choice ≡ o → Agree (config_by p name o) (unless (first_refusal ((is_member_of_two_by o (types_of before) (configs_of before) name, Syntax fault.Choice) ∷ []))
      (At n (Entry.Config (lines.new_config name)) ∷ before))
  config_with None h = outside_stands (number_is None h)
  config_with (Some k) h =
      let low : All (Below (k + 1)) (configs_of before) = configs_below before (k + 1) (top (in_choice (enclosing before)) (number_is (Some k) h)) in
      let same : (may_be_member (known_of p.symbols name).kind && is_elsewhere k (known_of p.symbols name).choice) ≡ is_member_of_two_by (Some k) (types_of before) (configs_of before) name =
      ap (λ (w : Known). may_be_member w.kind && is_elsewhere k w.choice) (e.holds.symbols name)
      ∙ sym (ap (λ b. may_be_member (type_of (types_of before) name) && b) (elsewhere_is k name (configs_of before) low (rising before))) in
      refused_by _ _ (Syntax fault.Choice) _ [] (At n (Entry.Config (lines.new_config name)) ∷ before) same (λ g. inside_stands k (number_is (Some k) h))
    where
      top : (b : Bool) → (if b then Some (choice_count before - 1) else None) ≡ Some k → choice_count before ≤ k + 1
      top true g = let q : choice_count before - 1 ≡ k = cc in omega (arith, q)
      top false g = cc

  pub config_agrees : Agree (kept.config p name) (begun n before (Entry.Config (lines.new_config name)))
  config_agrees =
      subst (λ o. Agree (config_by p name p.choice) (unless (first_refusal ((is_member_of_two_by o (types_of before) (configs_of before) name, Syntax fault.Choice) ∷ []))
      (At n (Entry.Config (lines.new_config name)) ∷ before))) e.holds.choice (config_with p.choice refl)

-- ---- choices
module _ (before : Before) (p : Kept) (n : ℕ) (name : Option Bytes) (s : Stands before p) where
  last : Ended before (ending p)
  last = ended before p s

  used_is : (o : Option Bytes) → kept.is_used p.choice_names o ≡ is_used before o
  used_is None = refl
  used_is (Some x) = last.holds.names x

  used_after : (x : Bytes) (o : Option Bytes) (names : List Bytes) → list_any (text_eq x) (names ++ option_to_list o) ≡ (is_named x o || list_any (text_eq x) names)
  used_after x None names = ap (list_any (text_eq x)) (append-nil names)
  used_after x (Some y) [] = ap (λ b. b || false) (text_sym x y)
  used_after x (Some y) (z ∷ names) = ap (λ b. text_eq x z || b) (used_after x (Some y) names) ∙ swapped (text_eq x z) (text_eq y x) (list_any (text_eq x) names)
    where
      swapped : (a b c : Bool) → (a || (b || c)) ≡ (b || (a || c))
      swapped true true c = refl
      swapped true false c = refl
      swapped false true c = refl
      swapped false false c = refl

  counted_is : length (ending p).choices ≡ choice_count before
  counted_is = ap length last.choices ∙ choices_counted (types_of before) before

  choice_stands : in_choice (enclosing before) ≡ false → Stands (At n (Entry.Choice (lines.new_choice name)) ∷ before)
      (with_choice name (record (beginning p (entry.Choice new_choice)) { openers = p.openers ++ opening opens.Choice n ∷ []; open_count = p.open_count + 1 }))
  choice_stands h = record {
    holds = record {
      openers = ap (λ os. opener_of (opening opens.Choice n) ∷ os) last.holds.openers ∙ sym (pushed p.openers (opening opens.Choice n));
      alone = (h, last.holds.alone);
      counted = let c = last.holds.counted in omega (arith, c);
      choice = ap (λ k. Some k) (let c = counted_is in let same : length (ending p).choices ≡ suc (choice_count before) - 1 = omega (arith, c) in same);
      symbols = λ x. last.holds.symbols x ∙ sym (ap (λ ts. record { kind = type_of ts x; choice = choice_by (configs_of before ++ []) x }) (append-nil (types_of before))
          ∙ ap (λ cs. record { kind = type_of (types_of before) x; choice = choice_by cs x }) (append-nil (configs_of before)));
      names = λ x. used_after x name p.choice_names ∙ ap (λ b. is_named x name || b) (last.holds.names x);
    };
    configs = last.configs;
    choices = last.choices ∙ sym (ap (λ ts. choices_of ts before) (append-nil (types_of before)));
    entry = (new_choice, refl, record { kind = refl; optional = refl; prompts = refl; defaults = refl });
  }

  -- a test before what follows
  after_test : (b : Bool) (z : Kept) (d : LineBad) (f : Kept → Result Kept LineBad) → (if b then f z else Err d) ≡ ((if b then Ok z else Err d) >>= f)
  after_test true z d f = refl
  after_test false z d f = refl

  pub choice_agrees : Agree (kept.choice p n name) (begun n before (Entry.Choice (lines.new_choice name)))
  choice_agrees =
      refused_by _ _ (Syntax fault.Choice) _ _ (At n (Entry.Choice (lines.new_choice name)) ∷ before) (in_choice_is before (ending p) last.holds)
      (λ h. refused_by _ _ (Syntax fault.Choice) _ _ (At n (Entry.Choice (lines.new_choice name)) ∷ before) (used_is name)
      (λ g. subst (λ x. Agree x (unless (first_refusal ((nat_le 64 (open_count (enclosing before)), Depth Nesting) ∷ [])) (At n (Entry.Choice (lines.new_choice name)) ∷ before)))
      (after_test (nat_lt p.open_count 64) _ (Depth Nesting) (λ q. Ok (with_choice name q)))
      (refused_full p.open_count _ (Depth Nesting) _ (At n (Entry.Choice (lines.new_choice name)) ∷ before) last.holds.counted (choice_stands h))))
