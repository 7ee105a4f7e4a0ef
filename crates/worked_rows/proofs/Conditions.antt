-- The truth of `defined X`, of X and of negations in a run, and the names that they have.
use Rattle.std.proofs.Common.{◌≡◌, ℕ, Bool, not, refl, ap, ◌∙◌, rules, List, [], ◌∷◌}
use Rattle.cpp_directives.specs.declared.condition.Cond.{Cond, out-Cond}
use Rattle.cpp_directives.specs.declared.condition.Cond.TheVariants.{Defined, Plain, Neg}
use Rattle.cpp_directives.specs.declared.condition.Cond.TheOpen.{Cond-F}
use Rattle.cpp_directives.specs.declared.condition.Cond.TheFolds.{fold-roll-Cond, fold_out-Cond, map-Cond}
use Rattle.cpp_directives.specs.declared.condition.Cond.TheViews.{roll-Cond, the_lemmas}
use Rattle.cpp_blocks.specs.Mentions.{names_in, names_step}
use Rattle.cpp_blocks.specs.Run.{Start, Running, is_defined, is_true, holds, cond_step}

-- where a run begins
abbrev pub begun : Start → Running
begun start = record { on = start.built; chains = []; macros = start.macros; touched = []; blocks = start.built ∷ [] }

-- one layer
abbrev holds_at : Start → Running → Cond-F Cond → Bool
holds_at start r (Cond-F.Defined name) = is_defined (r.macros name)
holds_at start r (Cond-F.Plain name) = is_true (r.macros name)
holds_at start r (Cond-F.Neg c) = not (holds start r c)
holds_at start r x = holds start r (roll-Cond x)

-- of a condition that is built from its layer
holds_roll : (start : Start) (r : Running) (x : Cond-F Cond) → holds start r (roll-Cond x) ≡ holds_at start r x
holds_roll start r (Cond-F.Defined name) = fold-roll-Cond Bool (cond_step start r) (Cond-F.Defined name)
holds_roll start r (Cond-F.Plain name) = fold-roll-Cond Bool (cond_step start r) (Cond-F.Plain name)
holds_roll start r (Cond-F.Neg c) = fold-roll-Cond Bool (cond_step start r) (Cond-F.Neg c)
holds_roll start r x = refl

-- of any condition, by its outermost layer
holds_out : (start : Start) (r : Running) (c : Cond) → holds start r c ≡ holds_at start r (out-Cond c)
holds_out start r c = search (rules, the_lemmas, holds_roll)

-- `defined X` holds where the macro is defined
pub holds_defined : (start : Start) (r : Running) (name : List ℕ) → holds start r (Defined name) ≡ is_defined (r.macros name)
holds_defined start r name = holds_out start r (Defined name) ∙ search (rules, the_lemmas)

-- X holds where the macro is defined and true
pub holds_plain : (start : Start) (r : Running) (name : List ℕ) → holds start r (Plain name) ≡ is_true (r.macros name)
holds_plain start r name = holds_out start r (Plain name) ∙ search (rules, the_lemmas)

-- a negation holds where its condition doesn't
pub holds_neg : (start : Start) (r : Running) (c : Cond) → holds start r (Neg c) ≡ not (holds start r c)
holds_neg start r c = holds_out start r (Neg c) ∙ search (rules, the_lemmas)

-- `!defined X` holds where the macro isn't defined
pub holds_undefined : (start : Start) (r : Running) (name : List ℕ) → holds start r (Neg (Defined name)) ≡ not (is_defined (r.macros name))
holds_undefined start r name = holds_neg start r (Defined name) ∙ ap not (holds_defined start r name)

-- ---- names

-- those of one layer
abbrev names_at_layer : Cond-F Cond → List (List ℕ)
names_at_layer (Cond-F.Defined name) = name ∷ []
names_at_layer (Cond-F.Plain name) = name ∷ []
names_at_layer (Cond-F.Neg c) = names_in c
names_at_layer x = names_step (map-Cond Cond (List (List ℕ)) names_in x)

-- of a layer whose inner conditions have these names
names_mapped : (x : Cond-F Cond) → names_step (map-Cond Cond (List (List ℕ)) names_in x) ≡ names_at_layer x
names_mapped (Cond-F.Defined name) = refl
names_mapped (Cond-F.Plain name) = refl
names_mapped (Cond-F.Neg c) = refl
names_mapped x = refl

-- of any condition, by its outermost layer
names_out : (c : Cond) → names_in c ≡ names_at_layer (out-Cond c)
names_out c = fold_out-Cond (List (List ℕ)) names_step c ∙ names_mapped (out-Cond c)

-- of `defined X`
pub names_defined : (name : List ℕ) → names_in (Defined name) ≡ name ∷ []
names_defined name = names_out (Defined name) ∙ search (rules, the_lemmas)

-- of X
pub names_plain : (name : List ℕ) → names_in (Plain name) ≡ name ∷ []
names_plain name = names_out (Plain name) ∙ search (rules, the_lemmas)

-- of a negation
pub names_neg : (c : Cond) → names_in (Neg c) ≡ names_in c
names_neg c = names_out (Neg c) ∙ search (rules, the_lemmas)

-- of `!defined X`
pub names_undefined : (name : List ℕ) → names_in (Neg (Defined name)) ≡ name ∷ []
names_undefined name = names_neg (Defined name) ∙ names_defined name
