-- An attribute of a config agrees with its line.
use Rattle.std.proofs.Common.{ℕ, suc, ◌≡◌, ◌∙◌, refl, sym, ap, subst, eq-eqb, ◌-◌, arith, ◌&&◌, ◌||◌, Bool, true, false, List, [], ◌∷◌, ◌++◌, append_assoc, Some, None}
use Rattle.std.specs.Prelude.{map, option_to_list, if◌then◌else◌}
use Rattle.std.specs.Option.{is_some}
use Rattle.std.proofs.lemmas.Bool.{false≢true}
use Rattle.std.proofs.lemmas.List.{map-append}
use Rattle.ut_text.specs.Bytes.{Bytes}
use Rattle.kconf_entries.specs.declared.entries.Kind.{Kind}
use Rattle.kconf_entries.specs.declared.entries.Kind.TheVariants as kind
use Rattle.kconf_entries.specs.declared.entries.DefaultOf.{DefaultOf}
use Rattle.kconf_entries.specs.declared.entries.SelectOf.{SelectOf}
use Rattle.kconf_entries.specs.declared.expr.Expr.{Expr}
use Rattle.kconf_statements.specs.declared.lines.ConfigLine.{ConfigLine}
use Rattle.kconf_statements.specs.declared.lines.ConfigLine.TheVariants as config
use Rattle.kconf_statements.specs.EntryLines as lines
use Rattle.kconf_statements.specs.EntryLines.{first_type, Entry, At, Before}
use Rattle.kconf_statements.specs.Enclosing.{enclosing, in_choice}
use Rattle.kconf_statements.proofs.FormedLaws.{enclosed}
use Rattle.kconf_statements.specs.Entries.{TypeLine, type_line, types_of, type_of, configs_of, choices_of, choice_count, number_of_choice, config_entry, gives_type, is_logical, may_be_member}
use Rattle.kconf_progress.specs.declared.open_entries.ConfigLines.{ConfigLines}
use Rattle.kconf_progress.specs.declared.open_entries.OpenEntry.TheVariants as open_entry
use Rattle.kconf_progress.specs.declared.kinds.Known.{Known}
use Rattle.kconf_progress.specs.Known.{known_of, choice_by}
use Rattle.kconf_progress.specs.OpenEntries.{config_with}
use Rattle.kconf_progress.specs.Kept.{Kept, on_last, with_known_type, with_given, typed, config_line, of_config}
use Rattle.kconf_progress.specs.Progress.{ShowsConfig, Reads, Stands}
use Rattle.kconf_progress.proofs.GivenLaws.{with_kind, lines_last, choices_stay, last_given, last_same}
use Rattle.kconf_progress.proofs.KnownLaws.{choice_alike, typed_symbols}

module _ (own : ℕ) (l : lines.ConfigLines) (before : Before) (p : Kept) (h : Reads own (Entry.Config l) before p) where
  -- a line that is no type line
  plain : (m : lines.ConfigLines) (d : ConfigLines) → m.name ≡ l.name → m.types ≡ l.types → ShowsConfig d m
      → Stands (At own (Entry.Config m) ∷ before) (record p { entry = open_entry.Config d })
  plain m d n t s = record {
    holds = record {
      openers = h.holds.openers;
      alone = h.holds.alone;
      counted = h.holds.counted;
      choice = h.holds.choice;
      symbols = λ x. h.holds.symbols x
          ∙ ap (λ ks. record { kind = type_of (types_of before ++ map (type_line l.name (number_of_choice before)) ks) x; choice = choice_by (configs_of (At own (Entry.Config l) ∷ before)) x }) (sym t)
          ∙ ap (λ k. record { kind = type_of (types_of before ++ map (type_line k (number_of_choice before)) m.types) x; choice = choice_by (configs_of (At own (Entry.Config l) ∷ before)) x }) (sym n)
          ∙ ap (λ o. record { kind = type_of (types_of before ++ map (type_line m.name (number_of_choice before)) m.types) x; choice = o })
          (choice_alike (configs_of before) (config_entry (enclosing before) (number_of_choice before) l) (config_entry (enclosing before) (number_of_choice before) m) x (sym n) refl);
      names = h.holds.names;
    };
    configs = h.configs;
    choices = h.choices
        ∙ ap (λ ks. choices_of (types_of before ++ map (type_line l.name (number_of_choice before)) ks) before) (sym t)
        ∙ ap (λ k. choices_of (types_of before ++ map (type_line k (number_of_choice before)) m.types) before) (sym n);
    entry = (d, refl, s);
  }

  -- each attribute but those with a type
  module _ (c : ConfigLines) (s : ShowsConfig c l) where
    prompt_shows : (e : Expr) → ShowsConfig (config_with c (config.Prompt e)) (lines.config_with l (config.Prompt e))
    prompt_shows e = record {
      name = s.name;
      kind = s.kind;
      depends = s.depends;
      prompts = ap (λ x. x ++ e ∷ []) s.prompts;
      defaults = s.defaults;
      selects = s.selects;
      implies = s.implies;
      modules = s.modules;
    }

    default_shows : (e : DefaultOf) → ShowsConfig (config_with c (config.Default e)) (lines.config_with l (config.Default e))
    default_shows e = record {
      name = s.name;
      kind = s.kind;
      depends = s.depends;
      prompts = s.prompts;
      defaults = ap (λ x. x ++ e ∷ []) s.defaults;
      selects = s.selects;
      implies = s.implies;
      modules = s.modules;
    }

    depends_shows : (e : Expr) → ShowsConfig (config_with c (config.DependsOn e)) (lines.config_with l (config.DependsOn e))
    depends_shows e = record {
      name = s.name;
      kind = s.kind;
      depends = ap (λ x. x ++ e ∷ []) s.depends;
      prompts = s.prompts;
      defaults = s.defaults;
      selects = s.selects;
      implies = s.implies;
      modules = s.modules;
    }

    select_shows : (e : SelectOf) → ShowsConfig (config_with c (config.Select e)) (lines.config_with l (config.Select e))
    select_shows e = record {
      name = s.name;
      kind = s.kind;
      depends = s.depends;
      prompts = s.prompts;
      defaults = s.defaults;
      selects = ap (λ x. x ++ e ∷ []) s.selects;
      implies = s.implies;
      modules = s.modules;
    }

    imply_shows : (e : SelectOf) → ShowsConfig (config_with c (config.Imply e)) (lines.config_with l (config.Imply e))
    imply_shows e = record {
      name = s.name;
      kind = s.kind;
      depends = s.depends;
      prompts = s.prompts;
      defaults = s.defaults;
      selects = s.selects;
      implies = ap (λ x. x ++ e ∷ []) s.implies;
      modules = s.modules;
    }

    modules_shows : ShowsConfig (config_with c config.Modules) (lines.config_with l config.Modules)
    modules_shows = record {
      name = s.name;
      kind = s.kind;
      depends = s.depends;
      prompts = s.prompts;
      defaults = s.defaults;
      selects = s.selects;
      implies = s.implies;
      modules = refl;
    }

    option_shows : (b : Bool) → ShowsConfig (config_with c (config.AnyOption b)) (lines.config_with l (config.AnyOption b))
    option_shows b = record {
      name = s.name;
      kind = s.kind;
      depends = s.depends;
      prompts = s.prompts;
      defaults = s.defaults;
      selects = s.selects;
      implies = s.implies;
      modules = ap (λ x. x || b) s.modules;
    }

-- ---- type lines
abbrev so_far : lines.ConfigLines → Before → List TypeLine
so_far l before = types_of before ++ map (type_line l.name (number_of_choice before)) l.types

grown : (l : lines.ConfigLines) (before : Before) (k : Kind)
    → so_far l before ++ type_line l.name (number_of_choice before) k ∷ [] ≡ types_of before ++ map (type_line l.name (number_of_choice before)) (l.types ++ k ∷ [])
grown l before k =
    append_assoc (types_of before) (map (type_line l.name (number_of_choice before)) l.types) (type_line l.name (number_of_choice before) k ∷ [])
    ∙ ap (λ x. types_of before ++ x) (sym (map-append (type_line l.name (number_of_choice before)) l.types (k ∷ [])))

-- the last choice has the type that is given, if any
choices_with : (inside : Bool) (known : Bool) (name : Bytes) (k : Kind) (ts : List TypeLine) (before : Before)
    → (inside ≡ true → choice_count before ≡ suc (choice_count before - 1)) → known ≡ (is_logical k && may_be_member (type_of ts name))
    → (if (is_some (if inside then Some (choice_count before - 1) else None) && known) then with_given k (choices_of ts before) else choices_of ts before)
    ≡ choices_of (ts ++ type_line name (if inside then Some (choice_count before - 1) else None) k ∷ []) before
choices_with false known name k ts before h e = sym (choices_stay ts (type_line name None k) refl before)
choices_with true known name k ts before h e =
    let n = choice_count before - 1 in
    let t = type_line name (Some n) k in
    let same : gives_type n ts t ≡ known = rw (eq-eqb n n refl) (sym e) in
    by known (gives_type n ts t) same ∙ sym (last_given ts t n refl before (h refl))
  where
    by : (b c : Bool) → c ≡ b → (if b then with_given k (choices_of ts before) else choices_of ts before) ≡ on_last (with_kind (if c then k else kind.Untyped)) (choices_of ts before)
    by true true g = refl
    by false false g = sym (last_same (choices_of ts before))
    by true false g = absurd (false≢true g)
    by false true g = absurd (false≢true (sym g))

module _ (own : ℕ) (l : lines.ConfigLines) (before : Before) (p : Kept) (h : Reads own (Entry.Config l) before p) (k : Kind) where
  counted_choice : in_choice (enclosing before) ≡ true → choice_count before ≡ suc (choice_count before - 1)
  counted_choice e = let z = enclosed before e in omega (arith, z)

  typed_choices : (c : ConfigLines) → c.name ≡ l.name → (typed p c.name k).choices ≡ choices_of (types_of before ++ map (type_line l.name (number_of_choice before)) (l.types ++ k ∷ [])) before
  typed_choices c n =
      let known : (is_logical k && may_be_member (known_of p.symbols l.name).kind) ≡ (is_logical k && may_be_member (type_of (so_far l before) l.name)) =
      ap (λ (w : Known). is_logical k && may_be_member w.kind) (h.holds.symbols l.name) in
      ap (λ m. if (is_some p.choice && (is_logical k && may_be_member (known_of p.symbols m).kind)) then with_given k p.choices else p.choices) n
      ∙ ap (λ o. if (is_some o && (is_logical k && may_be_member (known_of p.symbols l.name).kind)) then with_given k p.choices else p.choices) h.holds.choice
      ∙ ap (λ cs. if (is_some (number_of_choice before) && (is_logical k && may_be_member (known_of p.symbols l.name).kind)) then with_given k cs else cs) h.choices
      ∙ choices_with (in_choice (enclosing before)) _ l.name k (so_far l before) before counted_choice known
      ∙ ap (λ ts. choices_of ts before) (grown l before k)

  typed_stands : (m : lines.ConfigLines) (c d : ConfigLines) → c.name ≡ l.name → m.name ≡ l.name → m.types ≡ l.types ++ k ∷ [] → ShowsConfig d m
      → Stands (At own (Entry.Config m) ∷ before) (record (typed p c.name k) { entry = open_entry.Config d })
  typed_stands m c d cn n t s = record {
    holds = record {
      openers = h.holds.openers;
      alone = h.holds.alone;
      counted = h.holds.counted;
      choice = h.holds.choice;
      symbols = λ x.
          ap (λ w. known_of (with_known_type p.symbols w k) x) cn
          ∙ typed_symbols p.symbols (so_far l before) l.name (number_of_choice before) k x (choice_by (configs_of (At own (Entry.Config l) ∷ before)) x) (h.holds.symbols x)
          ∙ ap (λ ts. record { kind = type_of ts x; choice = choice_by (configs_of (At own (Entry.Config l) ∷ before)) x }) (grown l before k)
          ∙ ap (λ ks. record { kind = type_of (types_of before ++ map (type_line l.name (number_of_choice before)) ks) x; choice = choice_by (configs_of (At own (Entry.Config l) ∷ before)) x }) (sym t)
          ∙ ap (λ w. record { kind = type_of (types_of before ++ map (type_line w (number_of_choice before)) m.types) x; choice = choice_by (configs_of (At own (Entry.Config l) ∷ before)) x }) (sym n)
          ∙ ap (λ o. record { kind = type_of (types_of before ++ map (type_line m.name (number_of_choice before)) m.types) x; choice = o })
          (choice_alike (configs_of before) (config_entry (enclosing before) (number_of_choice before) l) (config_entry (enclosing before) (number_of_choice before) m) x (sym n) refl);
      names = h.holds.names;
    };
    configs = h.configs;
    choices = typed_choices c cn
        ∙ ap (λ ks. choices_of (types_of before ++ map (type_line l.name (number_of_choice before)) ks) before) (sym t)
        ∙ ap (λ w. choices_of (types_of before ++ map (type_line w (number_of_choice before)) m.types) before) (sym n);
    entry = (d, refl, s);
  }

-- ---- each attribute
module _ (own : ℕ) (l : lines.ConfigLines) (before : Before) (p : Kept) (h : Reads own (Entry.Config l) before p) (c : ConfigLines) (s : ShowsConfig c l) where
  of_config_stands : (a : ConfigLine) → Stands (At own (Entry.Config (lines.config_with l a)) ∷ before) (of_config p c a)
  of_config_stands (config.Typed k prompt) =
      typed_stands own l before p h k (lines.config_with l (config.Typed k prompt)) c (config_with c (config.Typed k prompt)) s.name refl refl (record {
        name = s.name;
        kind = ap (λ x. first_type x k) s.kind ∙ sym (lines_last l.types k);
        depends = s.depends;
        prompts = ap (λ x. x ++ option_to_list prompt) s.prompts;
        defaults = s.defaults;
        selects = s.selects;
        implies = s.implies;
        modules = s.modules;
      })
  of_config_stands (config.TypedDefault k d) =
      typed_stands own l before p h k (lines.config_with l (config.TypedDefault k d)) c (config_with c (config.TypedDefault k d)) s.name refl refl (record {
        name = s.name;
        kind = ap (λ x. first_type x k) s.kind ∙ sym (lines_last l.types k);
        depends = s.depends;
        prompts = s.prompts;
        defaults = ap (λ x. x ++ d ∷ []) s.defaults;
        selects = s.selects;
        implies = s.implies;
        modules = s.modules;
      })
  of_config_stands (config.Prompt e) = plain own l before p h _ (config_with c (config.Prompt e)) refl refl (prompt_shows own l before p h c s e)
  of_config_stands (config.Default d) = plain own l before p h _ (config_with c (config.Default d)) refl refl (default_shows own l before p h c s d)
  of_config_stands (config.DependsOn e) = plain own l before p h _ (config_with c (config.DependsOn e)) refl refl (depends_shows own l before p h c s e)
  of_config_stands (config.Select e) = plain own l before p h _ (config_with c (config.Select e)) refl refl (select_shows own l before p h c s e)
  of_config_stands (config.Imply e) = plain own l before p h _ (config_with c (config.Imply e)) refl refl (imply_shows own l before p h c s e)
  of_config_stands config.Range = plain own l before p h l c refl refl s
  of_config_stands config.Modules = plain own l before p h _ (config_with c config.Modules) refl refl (modules_shows own l before p h c s)
  of_config_stands (config.AnyOption b) = plain own l before p h _ (config_with c (config.AnyOption b)) refl refl (option_shows own l before p h c s b)
  of_config_stands config.Help = plain own l before p h l c refl refl s

pub config_stands : (own : ℕ) (l : lines.ConfigLines) (before : Before) (p : Kept) (a : ConfigLine) → Reads own (Entry.Config l) before p
    → Stands (At own (Entry.Config (lines.config_with l a)) ∷ before) (config_line p a p.entry)
config_stands own l before p a h =
    let w = h.entry in
    let same : of_config p w.0 a ≡ config_line p a p.entry = sym (ap (config_line p a) w.1) in
    subst (Stands (At own (Entry.Config (lines.config_with l a)) ∷ before)) same (of_config_stands own l before p h w.0 w.2 a)
