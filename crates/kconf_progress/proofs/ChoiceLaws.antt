-- An attribute of a choice, or of a menu, agrees with its line.
use Rattle.std.proofs.Common.{ℕ, ◌≡◌, ◌∙◌, refl, sym, ap, subst, ◌||◌, List, [], ◌∷◌, ◌++◌}
use Rattle.std.specs.Prelude.{option_to_list}
use Rattle.std.specs.List.{list_any}
use Rattle.kconf_entries.specs.declared.expr.Expr.{Expr}
use Rattle.kconf_statements.specs.declared.lines.Opens.TheVariants as opens
use Rattle.kconf_statements.specs.declared.lines.ChoiceLine.{ChoiceLine}
use Rattle.kconf_statements.specs.declared.lines.ChoiceLine.TheVariants as choice
use Rattle.kconf_statements.specs.declared.lines.MenuLine.{MenuLine}
use Rattle.kconf_statements.specs.declared.lines.MenuLine.TheVariants as menu
use Rattle.kconf_statements.specs.EntryLines as lines
use Rattle.kconf_statements.specs.EntryLines.{first_type, Entry, At, Before}
use Rattle.kconf_statements.specs.Enclosing.{Opener, opener, enclosing}
use Rattle.kconf_statements.specs.Standing.{is_named, is_choice_named}
use Rattle.kconf_progress.specs.declared.open_entries.ChoiceLines.{ChoiceLines}
use Rattle.kconf_progress.specs.declared.open_entries.OpenEntry.TheVariants as open_entry
use Rattle.kconf_progress.specs.declared.openers.OpenLine.{OpenLine}
use Rattle.kconf_progress.specs.Openers.{opener_of, from_innermost}
use Rattle.kconf_progress.specs.Kept.{Kept, on_last, with_depends, choice_line, of_choice, of_menu}
use Rattle.kconf_progress.specs.Progress.{ShowsChoice, Reads, Stands}

-- ---- a condition more at the innermost line
-- the first of a list is changed
abbrev pub on_first : {A : Type 0} → (A → A) → List A → List A
on_first f [] = []
on_first f (x ∷ xs) = f x ∷ xs

first_before : {X : Type 0} (f : X → X) (zs : List X) (y x : X) → on_first f ((zs ++ y ∷ []) ++ x ∷ []) ≡ on_first f (zs ++ y ∷ []) ++ x ∷ []
first_before f [] y x = refl
first_before f (z ∷ zs) y x = refl

changed : (f : OpenLine → OpenLine) (g : Opener → Opener) → ((o : OpenLine) → opener_of (f o) ≡ g (opener_of o)) → (os : List OpenLine)
    → on_first g (from_innermost os) ≡ from_innermost (on_last f os)
changed f g same [] = refl
changed f g same (x ∷ []) = ap (λ o. o ∷ []) (sym (same x))
changed f g same (x ∷ y ∷ ys) =
    first_before g (from_innermost ys) (opener_of y) (opener_of x) ∙ ap (λ l. l ++ opener_of x ∷ []) (changed f g same (y ∷ ys))

-- ---- choices
module _ (own : ℕ) (l : lines.ChoiceLines) (before : Before) (p : Kept) (h : Reads own (Entry.Choice l) before p) where
  -- what its opener has stays
  kept_stands : (m : lines.ChoiceLines) (d : ChoiceLines) → m.name ≡ l.name → m.depends ≡ l.depends → ShowsChoice d m
      → Stands (At own (Entry.Choice m) ∷ before) (record p { entry = open_entry.Choice d })
  kept_stands m d n e s = record {
    holds = record {
      openers = ap (λ x. opener opens.Choice own x [] ∷ enclosing before) e ∙ h.holds.openers;
      alone = h.holds.alone;
      counted = h.holds.counted;
      choice = h.holds.choice;
      symbols = h.holds.symbols;
      names = λ x. h.holds.names x ∙ ap (λ w. is_named x w || list_any (is_choice_named x) before) (sym n);
    };
    configs = h.configs;
    choices = h.choices;
    entry = (d, refl, s);
  }

  -- its opener has a dependency more
  depends_stands : (c : ChoiceLines) (e : Expr) → ShowsChoice c l
      → Stands (At own (Entry.Choice (lines.choice_with l (choice.DependsOn e))) ∷ before) (with_depends (record p { entry = open_entry.Choice c }) e)
  depends_stands c e s = record {
    holds = record {
      openers = ap (on_first (λ (o : Opener). record o { depends = o.depends ++ e ∷ [] })) h.holds.openers
          ∙ changed (λ (o : OpenLine). record o { depends = o.depends ++ e ∷ [] }) (λ (o : Opener). record o { depends = o.depends ++ e ∷ [] }) (λ o. refl) p.openers;
      alone = h.holds.alone;
      counted = h.holds.counted;
      choice = h.holds.choice;
      symbols = h.holds.symbols;
      names = h.holds.names;
    };
    configs = h.configs;
    choices = h.choices;
    entry = (c, refl, record { kind = s.kind; optional = s.optional; prompts = s.prompts; defaults = s.defaults });
  }

  of_choice_stands : (c : ChoiceLines) (s : ShowsChoice c l) (a : ChoiceLine) → Stands (At own (Entry.Choice (lines.choice_with l a)) ∷ before) (of_choice p c a)
  of_choice_stands c s (choice.Typed k prompt) = kept_stands _ _ refl refl (record {
    kind = ap (λ x. first_type x k) s.kind;
    optional = s.optional;
    prompts = ap (λ x. x ++ option_to_list prompt) s.prompts;
    defaults = s.defaults;
  })
  of_choice_stands c s (choice.Prompt e) = kept_stands _ _ refl refl (record {
    kind = s.kind;
    optional = s.optional;
    prompts = ap (λ x. x ++ e ∷ []) s.prompts;
    defaults = s.defaults;
  })
  of_choice_stands c s (choice.Default d) = kept_stands _ _ refl refl (record {
    kind = s.kind;
    optional = s.optional;
    prompts = s.prompts;
    defaults = ap (λ x. x ++ d ∷ []) s.defaults;
  })
  of_choice_stands c s (choice.DependsOn e) = depends_stands c e s
  of_choice_stands c s choice.Optional = kept_stands _ _ refl refl (record { kind = s.kind; optional = refl; prompts = s.prompts; defaults = s.defaults })
  of_choice_stands c s choice.Help = kept_stands l c refl refl s

  pub choice_stands : (a : ChoiceLine) → Stands (At own (Entry.Choice (lines.choice_with l a)) ∷ before) (choice_line p a p.entry)
  choice_stands a =
      let w = h.entry in
      let same : of_choice p w.0 a ≡ choice_line p a p.entry = sym (ap (choice_line p a) w.1) in
      subst (Stands (At own (Entry.Choice (lines.choice_with l a)) ∷ before)) same (of_choice_stands w.0 w.2 a)

-- ---- menus
pub menu_stands : (own : ℕ) (m : lines.MenuLines) (before : Before) (p : Kept) (a : MenuLine) → Reads own (Entry.Menu m) before p
    → Stands (At own (Entry.Menu (lines.menu_with m a)) ∷ before) (of_menu p a)
menu_stands own m before p (menu.DependsOn e) h = record {
  holds = record {
    openers = ap (on_first (λ (o : Opener). record o { depends = o.depends ++ e ∷ [] })) h.holds.openers
        ∙ changed (λ (o : OpenLine). record o { depends = o.depends ++ e ∷ [] }) (λ (o : Opener). record o { depends = o.depends ++ e ∷ [] }) (λ o. refl) p.openers;
    alone = h.holds.alone;
    counted = h.holds.counted;
    choice = h.holds.choice;
    symbols = h.holds.symbols;
    names = h.holds.names;
  };
  configs = h.configs;
  choices = h.choices;
  entry = h.entry;
}
menu_stands own m before p (menu.VisibleIf e) h = record {
  holds = record {
    openers = ap (on_first (λ (o : Opener). record o { visible = o.visible ++ e ∷ [] })) h.holds.openers
        ∙ changed (λ (o : OpenLine). record o { visible = o.visible ++ e ∷ [] }) (λ (o : Opener). record o { visible = o.visible ++ e ∷ [] }) (λ o. refl) p.openers;
    alone = h.holds.alone;
    counted = h.holds.counted;
    choice = h.holds.choice;
    symbols = h.holds.symbols;
    names = h.holds.names;
  };
  configs = h.configs;
  choices = h.choices;
  entry = h.entry;
}
