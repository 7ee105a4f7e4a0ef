-- Which wishes some case of each family meets, in a tree of the first form.
use Rattle.std.proofs.Common.{◌≡◌, ℕ, ◌<◌, ◌==◌, Bool, true, false, not, ◌&&◌, ◌||◌, cond, refl, ap, sym, subst, ◌∙◌, arith, List, [], ◌∷◌, ◌++◌, length, drop, Option, None, Some, nat_eq, codes, inl, inr, ⊎_elim}
use Rattle.std.proofs.lemmas.Bool.Decides.{nat_tests}
use Rattle.std.specs.List.{list_any, list_all, starts_with}
use Rattle.cpp_blocks.specs.declared.state.MacroState.{MacroState}
use Rattle.cpp_blocks.specs.declared.state.MacroState.TheVariants.{Undefined, DefinedTrue}
use Rattle.cpp_blocks.specs.Run.{is_defined}
use Rattle.kconf_tree.specs.Shape.{Shape, number_of}
use Rattle.kconf_tree.specs.Value.{Configuration}
use Rattle.kconf_tree.specs.Valid.{KeepsRules}
use Rattle.ut_case.specs.declared.question.Family.{Family}
use Rattle.ut_case.specs.declared.question.Family.TheVariants as family
use Rattle.undertaker.specs.On.{Case, Environment, config_name, start_by, macro_start}
use Rattle.undertaker.specs.declared.wishes.Meaning.{Meaning}
use Rattle.undertaker.specs.declared.wishes.Meaning.TheVariants.{Free, Symbol, Module, Undeclared}
use Rattle.undertaker.specs.declared.wishes.Wish.{Wish}
use Rattle.undertaker.specs.Dependencies.{Graph, IsClosed, IsLeastClosed, is_among}
use Rattle.undertaker.specs.Wishes.{agrees, macro_of, meaning_of, meaning_by, meaning_in, is_met, are_met, clashes, wants_module, wants_undeclared, wanted_symbol, wanted_symbols, is_hit}
use Rattle.undertaker.specs.Judging.{AreNumbered, AreOf, CanMeet, CanNotMeet}
use Rattle.undertaker.specs.Wishes.{Among}
use Rattle.undertaker.proofs.Bools.{all_from_among, all_among, any_among, none_from_among, and_left, and_right, number_is}
use Rattle.undertaker.proofs.Texts.{config_behind}
use Rattle.undertaker.specs.FirstTrees.{Shows}
use Rattle.undertaker.proofs.Trees.{value_cases, values_are_closed, in_set, set_keeps_rules}
use Rattle.undertaker.proofs.Clashes.{wanted, wanted_is, agrees_self, clash_not_met}
use Rattle.undertaker.proofs.MeaningLaws.{defined_as, defined_by_meaning, number_within}

-- a clash can't be met in any family
pub clash_in_none : (f : Family) (t : Shape) (macros : List (List ℕ)) (ws : List Wish) → clashes ws ≡ true → CanNotMeet f t macros ws
clash_in_none f t macros ws h x belongs = clash_not_met (macro_start f t x) macros ws h

-- the macros' states that are wished
abbrev states_of : List (List ℕ) → List Wish → List ℕ → MacroState
states_of macros ws macro = cond (wanted macros ws macro) DefinedTrue Undefined

abbrev environment_of : List (List ℕ) → List Wish → Environment
environment_of macros ws = record { start = states_of macros ws; truth = λ name. false; piece = λ text k. false; line = λ n. false }

state_is : (b : Bool) → is_defined (cond b DefinedTrue Undefined) ≡ b
state_is true = refl
state_is false = refl

-- without a clash some states meet the wishes
pub no_clash_in_code : (t : Shape) (c : Configuration) (macros : List (List ℕ)) (ws : List Wish) → AreNumbered macros ws → clashes ws ≡ false → CanMeet family.Code t macros ws
no_clash_in_code t c macros ws numbered h = record {
  witness = record { configuration = c; environment = environment_of macros ws };
  belongs = tt;
  met = all_from_among (is_met (states_of macros ws) macros) ws (λ w m. rw (state_is (wanted macros ws (macro_of macros w)), wanted_is macros ws h numbered w m) (agrees_self w.defined));
}

-- ---- wanted symbols

wanted_among : (s : ℕ → Bool) (ws : List Wish) → list_all s (wanted_symbols ws) ≡ true → (w : Wish) → Among w ws → list_all s (wanted_symbol w) ≡ true
wanted_among s [] h w m = absurd m
wanted_among s (v ∷ ws) h w (inl e) = rw e (front (wanted_symbol v) (wanted_symbols ws) h)
  where
    front : (js ks : List ℕ) → list_all s (js ++ ks) ≡ true → list_all s js ≡ true
    front [] ks g = refl
    front (j ∷ js) ks g = rw (and_left (s j) (list_all s (js ++ ks)) g) (front js ks (and_right (s j) (list_all s (js ++ ks)) g))
wanted_among s (v ∷ ws) h w (inr m) = wanted_among s ws (back (wanted_symbol v) (wanted_symbols ws) h) w m
  where
    back : (js ks : List ℕ) → list_all s (js ++ ks) ≡ true → list_all s ks ≡ true
    back [] ks g = g
    back (j ∷ js) ks g = back js ks (and_right (s j) (list_all s (js ++ ks)) g)

all_wanted : (s : ℕ → Bool) (ws : List Wish) → ((w : Wish) → Among w ws → list_all s (wanted_symbol w) ≡ true) → list_all s (wanted_symbols ws) ≡ true
all_wanted s [] h = refl
all_wanted s (v ∷ ws) h = joined (wanted_symbol v) (wanted_symbols ws) (h v (inl refl)) (all_wanted s ws (λ w m. h w (inr m)))
  where
    joined : (js ks : List ℕ) → list_all s js ≡ true → list_all s ks ≡ true → list_all s (js ++ ks) ≡ true
    joined [] ks g i = i
    joined (j ∷ js) ks g i = rw (and_left (s j) (list_all s js) g) (joined js ks (and_right (s j) (list_all s js) g) i)

-- ---- families Kconfig and Whole: a wish asks its meaning

module _ (t : Shape) (g : Graph) (shows : Shows t g) (macros : List (List ℕ)) (ws : List Wish) (of : AreOf t macros ws) where
  -- in a case that keeps the rules a wish is met where its meaning agrees
  abbrev meets_by_meaning : Case → Wish → Bool
  meets_by_meaning x w = agrees w.defined (defined_as x (macro_of macros w) w.meaning)

  by_meaning : (x : Case) → KeepsRules t x.configuration → (w : Wish) → Among w ws
      → is_met (λ macro. start_by t x macro (config_name macro)) macros w ≡ meets_by_meaning x w
  by_meaning x r w m = ap (agrees w.defined) (defined_by_meaning t g shows x r (macro_of macros w) ∙ ap (defined_as x (macro_of macros w)) (of.meanings w m))

  -- ---- the tests pass: a case is made

  module _ (clear : clashes ws ≡ false) (s : ℕ → Bool) (closed : IsClosed g s) (rooted : list_all s (wanted_symbols ws) ≡ true)
      (no_module : list_any wants_module ws ≡ false) (no_hit : list_any (is_hit s) ws ≡ false) where
    abbrev made : (List ℕ → Bool) → Case
    made undeclared = record { configuration = in_set t g shows s undeclared; environment = environment_of macros ws }

    -- what is read of undeclared names agrees with the wishes
    abbrev Fits : (List ℕ → Bool) → Type 0
    Fits undeclared = (w : Wish) → Among w ws → w.meaning ≡ Undeclared → agrees w.defined (undeclared (drop 7 (macro_of macros w))) ≡ true

    symbol_agrees : (d b : Bool) (k : ℕ) → s k ≡ b → list_all s (cond d (k ∷ []) []) ≡ true → (not d && s k) ≡ false → agrees d (cond (s k) 2 0 == 2) ≡ true
    symbol_agrees true b k e all hit = rw (and_left (s k) true all) refl
    symbol_agrees false b k e all hit = rw hit refl

    made_agrees : (undeclared : List ℕ → Bool) → Fits undeclared → (w : Wish) → Among w ws → (m : Meaning) → w.meaning ≡ m → agrees w.defined (defined_as (made undeclared) (macro_of macros w) m) ≡ true
    made_agrees u fits w m Free e = rw (state_is (wanted macros ws (macro_of macros w)), wanted_is macros ws clear of.numbered w m) (agrees_self w.defined)
    made_agrees u fits w m (Symbol k) e = symbol_agrees w.defined (s k) k refl (all w.meaning e (wanted_among s ws rooted w m)) (hit w.meaning e (any_among (is_hit s) ws w no_hit m))
      where
        all : (n : Meaning) → n ≡ Symbol k → list_all s (wanted_symbol (record w { meaning = n })) ≡ true → list_all s (cond w.defined (k ∷ []) []) ≡ true
        all n f h = subst (λ (n : Meaning). list_all s (wanted_symbol (record w { meaning = n })) ≡ true) f h

        hit : (n : Meaning) → n ≡ Symbol k → is_hit s (record w { meaning = n }) ≡ false → (not w.defined && s k) ≡ false
        hit n f h = subst (λ (n : Meaning). is_hit s (record w { meaning = n }) ≡ false) f h
    made_agrees u fits w m Module e = rw (off w.meaning e (any_among wants_module ws w no_module m)) refl
      where
        plain : (b : Bool) → (b && true) ≡ false → b ≡ false
        plain true h = h
        plain false h = refl

        off : (n : Meaning) → n ≡ Module → wants_module (record w { meaning = n }) ≡ false → w.defined ≡ false
        off n f h = plain w.defined (subst (λ (n : Meaning). wants_module (record w { meaning = n }) ≡ false) f h)
    made_agrees u fits w m Undeclared e = fits w m e

    made_meets : (undeclared : List ℕ → Bool) → Fits undeclared → are_met (λ macro. start_by t (made undeclared) macro (config_name macro)) macros ws ≡ true
    made_meets u fits = all_from_among _ ws (λ w m. by_meaning (made u) (set_keeps_rules t g shows s u closed) w m ∙ made_agrees u fits w m w.meaning refl)

    -- undeclared names are read as they are wanted
    abbrev read_as_wanted : List ℕ → Bool
    read_as_wanted name = wanted macros ws (codes "CONFIG_" ++ name)

    config_of : (macro : List ℕ) → meaning_of t macro ≡ Undeclared → config_name macro ≡ Some (drop 7 macro)
    config_of macro h = by (starts_with nat_eq macro (codes "CONFIG_")) refl h
      where
        by : (b : Bool) → starts_with nat_eq macro (codes "CONFIG_") ≡ b → meaning_of t macro ≡ Undeclared → cond (starts_with nat_eq macro (codes "CONFIG_")) (Some (drop 7 macro)) None ≡ Some (drop 7 macro)
        by true e i = rw e refl
        by false e i = absurd (other (subst (λ b. meaning_by t (cond b (Some (drop 7 macro)) None) ≡ Undeclared) e i))
          where
            other : Free ≡ Undeclared → ⊥
            other j = absurd (cc)

    wanted_fit : Fits read_as_wanted
    wanted_fit w m e = rw (ap (wanted macros ws) (config_behind (macro_of macros w) (drop 7 (macro_of macros w)) (config_of (macro_of macros w) (of.meanings w m ∙ e))), wanted_is macros ws clear of.numbered w m) (agrees_self w.defined)

    pub passes_in_kconfig : CanMeet family.Kconfig t macros ws
    passes_in_kconfig = record { witness = made read_as_wanted; belongs = set_keeps_rules t g shows s read_as_wanted closed; met = made_meets read_as_wanted wanted_fit }

    none_fit : list_any wants_undeclared ws ≡ false → Fits (λ name. false)
    none_fit h w m e = rw (off w.meaning e (any_among wants_undeclared ws w h m)) refl
      where
        plain : (b : Bool) → (b && true) ≡ false → b ≡ false
        plain true i = i
        plain false i = refl

        off : (n : Meaning) → n ≡ Undeclared → wants_undeclared (record w { meaning = n }) ≡ false → w.defined ≡ false
        off n f i = plain w.defined (subst (λ (n : Meaning). wants_undeclared (record w { meaning = n }) ≡ false) f i)

    pub passes_in_whole : list_any wants_undeclared ws ≡ false → CanMeet family.Whole t macros ws
    passes_in_whole h = record { witness = made (λ name. false); belongs = record { rules = set_keeps_rules t g shows s (λ name. false) closed; undeclared_are_n = λ name. refl }; met = made_meets (λ name. false) (none_fit h) }

  -- ---- a case meets the wishes: the tests pass

  module _ (x : Case) (r : KeepsRules t x.configuration) (met : are_met (λ macro. start_by t x macro (config_name macro)) macros ws ≡ true) where
    agreed : (w : Wish) → Among w ws → (m : Meaning) → w.meaning ≡ m → agrees w.defined (defined_as x (macro_of macros w) m) ≡ true
    agreed w a m e = subst (λ (n : Meaning). agrees w.defined (defined_as x (macro_of macros w) n) ≡ true) e
        (sym (by_meaning x r w a) ∙ all_among (is_met (λ macro. start_by t x macro (config_name macro)) macros) ws w met a)

    pub met_wants_no_module : list_any wants_module ws ≡ false
    met_wants_no_module = none_from_among wants_module ws (λ w a. by w a w.meaning refl)
      where
        off : (d : Bool) → agrees d false ≡ true → (d && true) ≡ false
        off true h = sym h
        off false h = refl

        plain : (d : Bool) → (d && false) ≡ false
        plain true = refl
        plain false = refl

        back : (w : Wish) (m : Meaning) → w.meaning ≡ m → (Wish) → wants_module (record w { meaning = m }) ≡ false → wants_module w ≡ false
        back w m e v h = subst (λ (n : Meaning). wants_module (record w { meaning = n }) ≡ false) (sym e) h

        by : (w : Wish) → Among w ws → (m : Meaning) → w.meaning ≡ m → wants_module w ≡ false
        by w a Free e = back w Free e w (plain w.defined)
        by w a (Symbol k) e = back w (Symbol k) e w (plain w.defined)
        by w a Module e = back w Module e w (off w.defined (agreed w a Module e))
        by w a Undeclared e = back w Undeclared e w (plain w.defined)

    pub met_wants_no_undeclared : ((name : List ℕ) → x.configuration.undeclared name ≡ false) → list_any wants_undeclared ws ≡ false
    met_wants_no_undeclared none = none_from_among wants_undeclared ws (λ w a. by w a w.meaning refl)
      where
        off : (d b : Bool) → b ≡ false → agrees d b ≡ true → (d && true) ≡ false
        off true b e h = sym h ∙ e
        off false b e h = refl

        plain : (d : Bool) → (d && false) ≡ false
        plain true = refl
        plain false = refl

        back : (w : Wish) (m : Meaning) → w.meaning ≡ m → wants_undeclared (record w { meaning = m }) ≡ false → wants_undeclared w ≡ false
        back w m e h = subst (λ (n : Meaning). wants_undeclared (record w { meaning = n }) ≡ false) (sym e) h

        by : (w : Wish) → Among w ws → (m : Meaning) → w.meaning ≡ m → wants_undeclared w ≡ false
        by w a Free e = back w Free e (plain w.defined)
        by w a (Symbol k) e = back w (Symbol k) e (plain w.defined)
        by w a Module e = back w Module e (plain w.defined)
        by w a Undeclared e = back w Undeclared e (off w.defined (x.configuration.undeclared (drop 7 (macro_of macros w))) (none (drop 7 (macro_of macros w))) (agreed w a Undeclared e))

    -- the symbols that aren't n, among them all that are wanted
    abbrev present : ℕ → Bool
    present k = not (x.configuration.value k == 0)

    present_wanted : list_all present (wanted_symbols ws) ≡ true
    present_wanted = all_wanted present ws (λ w a. by w a w.meaning refl)
      where
        one : (d : Bool) (k : ℕ) → agrees d (x.configuration.value k == 2) ≡ true → list_all present (cond d (k ∷ []) []) ≡ true
        one true k h = rw (number_is (x.configuration.value k) 2 h) refl
        one false k h = refl

        none : (d : Bool) → list_all present (cond d [] []) ≡ true
        none true = refl
        none false = refl

        back : (w : Wish) (m : Meaning) → w.meaning ≡ m → list_all present (wanted_symbol (record w { meaning = m })) ≡ true → list_all present (wanted_symbol w) ≡ true
        back w m e h = subst (λ (n : Meaning). list_all present (wanted_symbol (record w { meaning = n })) ≡ true) (sym e) h

        by : (w : Wish) → Among w ws → (m : Meaning) → w.meaning ≡ m → list_all present (wanted_symbol w) ≡ true
        by w a Free e = back w Free e (none w.defined)
        by w a (Symbol k) e = back w (Symbol k) e (one w.defined k (agreed w a (Symbol k) e))
        by w a Module e = back w Module e (none w.defined)
        by w a Undeclared e = back w Undeclared e (none w.defined)

    pub met_hits_none : (found : List ℕ) → IsLeastClosed g (wanted_symbols ws) found → list_any (is_hit (is_among found)) ws ≡ false
    met_hits_none found least = none_from_among (is_hit (is_among found)) ws (λ w a. by w a w.meaning refl)
      where
        all_present : list_all present found ≡ true
        all_present = least.least present present_wanted (values_are_closed t g shows x.configuration r)

        present_if : (fs : List ℕ) (k : ℕ) → list_all present fs ≡ true → is_among fs k ≡ true → present k ≡ true
        present_if [] k h e = absurd (cc)
        present_if (j ∷ fs) k h e = at (j == k) refl e (present_if fs k (and_right (present j) (list_all present fs) h))
          where
            at : (b : Bool) → (j == k) ≡ b → (b || is_among fs k) ≡ true → (is_among fs k ≡ true → present k ≡ true) → present k ≡ true
            at true f i rest = subst (λ n. present n ≡ true) (number_is j k f) (and_left (present j) (list_all present fs) h)
            at false f i rest = rest i

        absent : (k : ℕ) → k < length g.names → (x.configuration.value k == 2) ≡ false → present k ≡ false
        absent k lt h = ⊎_elim (λ e. rw e refl) (λ p. absurd (two (x.configuration.value k) p.0 h)) (value_cases t g shows x.configuration r k lt)
          where
            two : (v : ℕ) → v ≡ 2 → (v == 2) ≡ false → ⊥
            two v e i = absurd (grind (arith, nat_tests))

        off : (k : ℕ) (b : Bool) → is_among found k ≡ b → (b ≡ true → ⊥) → b ≡ false
        off k true e h = absurd (h refl)
        off k false e h = refl

        hit : (d : Bool) (k : ℕ) → k < length g.names → agrees d (x.configuration.value k == 2) ≡ true → (not d && is_among found k) ≡ false
        hit true k lt h = refl
        hit false k lt h = off k (is_among found k) refl (λ e. clear (x.configuration.value k == 2) refl h e)
          where
            clear : (b : Bool) → (x.configuration.value k == 2) ≡ b → not b ≡ true → is_among found k ≡ true → ⊥
            clear true f i e = absurd (cc)
            clear false f i e = let yes = present_if found k all_present e in let no = absent k lt f in absurd (cc)

        plain : (d : Bool) → (not d && false) ≡ false
        plain true = refl
        plain false = refl

        back : (w : Wish) (m : Meaning) → w.meaning ≡ m → is_hit (is_among found) (record w { meaning = m }) ≡ false → is_hit (is_among found) w ≡ false
        back w m e h = subst (λ (n : Meaning). is_hit (is_among found) (record w { meaning = n }) ≡ false) (sym e) h

        by : (w : Wish) → Among w ws → (m : Meaning) → w.meaning ≡ m → is_hit (is_among found) w ≡ false
        by w a Free e = back w Free e (plain w.defined)
        by w a (Symbol k) e = back w (Symbol k) e (hit w.defined k (declared (macro_of macros w) k (of.meanings w a ∙ e)) (agreed w a (Symbol k) e))
          where
            in_names : (name : List ℕ) (o : Option ℕ) (k : ℕ) → number_of t name ≡ o → meaning_in t name o ≡ Symbol k → k < length g.names
            in_names name None k f i = absurd (module_or (Rattle.std.specs.Option.is_some (Rattle.undertaker.specs.On.module_of t name)) i)
              where
                module_or : (b : Bool) → cond b Module Undeclared ≡ Symbol k → ⊥
                module_or true j = absurd (cc)
                module_or false j = absurd (cc)
            in_names name (Some j) k f i = let same : j ≡ k = symbol_is i in number_within t g shows name k (f ∙ ap Some same)
              where
                symbol_is : Symbol j ≡ Symbol k → j ≡ k
                symbol_is p = cc

            declared : (macro : List ℕ) (k : ℕ) → meaning_of t macro ≡ Symbol k → k < length g.names
            declared macro k h = at (config_name macro) h
              where
                at : (o : Option (List ℕ)) → meaning_by t o ≡ Symbol k → k < length g.names
                at None i = absurd (cc)
                at (Some name) i = in_names name (number_of t name) k refl i
        by w a Module e = back w Module e (plain w.defined)
        by w a Undeclared e = back w Undeclared e (plain w.defined)
