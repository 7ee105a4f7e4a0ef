-- What a block asks of the macros at the start, in a source without macro lines: some are to be defined, others not.
use Rattle.std.specs.Prelude.{◌≡◌, ◌⊎◌, ℕ, ◌==◌, Bool, true, false, not, ◌&&◌, ◌||◌, List, [], ◌∷◌, ◌++◌, Option, None, Some, if◌then◌else◌, get_or, is_some, nat_lt}
use Rattle.std.specs.List.{list_any, list_all}
use Rattle.kconf_tree.specs.Shape.{Shape, number_of}
use Rattle.cpp_blocks.specs.declared.state.MacroState.{MacroState}
use Rattle.cpp_blocks.specs.Run.{is_defined}
use Rattle.undertaker.specs.On.{config_name, module_of}
use Rattle.undertaker.specs.declared.wishes.Meaning.{Meaning}
use Rattle.undertaker.specs.declared.wishes.Meaning.TheVariants.{Free, Symbol, Module, Undeclared}
use Rattle.undertaker.specs.declared.wishes.Wish.{Wish}

-- an element of a list
abbrev pub Among : {A : Type 0} → A → List A → Type 0
Among x [] = ⊥
Among x (y ∷ ys) = (x ≡ y) ⊎ Among x ys

-- ---- what a macro's name means

abbrev pub meaning_in : Shape → List ℕ → Option ℕ → Meaning
meaning_in t name (Some k) = Symbol k
meaning_in t name None = if is_some (module_of t name) then Module else Undeclared

abbrev pub meaning_by : Shape → Option (List ℕ) → Meaning
meaning_by t None = Free
meaning_by t (Some name) = meaning_in t name (number_of t name)

abbrev pub meaning_of : Shape → List ℕ → Meaning
meaning_of t macro = meaning_by t (config_name macro)

-- the macro of a wish, where `macros` are the names by number
abbrev pub macro_of : List (List ℕ) → Wish → List ℕ
macro_of macros w = get_or macros w.name []

-- ---- wishes

abbrev pub agrees : Bool → Bool → Bool
agrees true b = b
agrees false b = not b

-- the wish holds in these states
abbrev pub is_met : (List ℕ → MacroState) → List (List ℕ) → Wish → Bool
is_met states macros w = agrees w.defined (is_defined (states (macro_of macros w)))

abbrev pub are_met : (List ℕ → MacroState) → List (List ℕ) → List Wish → Bool
are_met states macros ws = list_all (is_met states macros) ws

-- the contrary wish
abbrev pub turned : Wish → Wish
turned w = record w { defined = not w.defined }

-- two wishes ask the contrary of one macro
abbrev pub clash : Wish → Wish → Bool
clash w v = (v.name == w.name) && not (agrees w.defined v.defined)

abbrev pub clashes_with : Wish → List Wish → Bool
clashes_with w ws = list_any (clash w) ws

-- some two of the wishes do
abbrev pub clashes : List Wish → Bool
clashes [] = false
clashes (w ∷ ws) = clashes_with w ws || clashes ws

-- wishes that no configuration can meet
abbrev pub wants_module : Wish → Bool
wants_module w = w.defined && is_module w.meaning
  where
    is_module : Meaning → Bool
    is_module Module = true
    is_module m = false

abbrev pub wants_undeclared : Wish → Bool
wants_undeclared w = w.defined && is_undeclared w.meaning
  where
    is_undeclared : Meaning → Bool
    is_undeclared Undeclared = true
    is_undeclared m = false

-- the symbol that is wanted
abbrev pub wanted_symbol : Wish → List ℕ
wanted_symbol w = if w.defined then symbol_in w.meaning else []
  where
    symbol_in : Meaning → List ℕ
    symbol_in (Symbol k) = k ∷ []
    symbol_in m = []

abbrev pub wanted_symbols : List Wish → List ℕ
wanted_symbols [] = []
wanted_symbols (w ∷ ws) = wanted_symbol w ++ wanted_symbols ws

-- a wish that the symbol isn't there, where the set holds it
abbrev pub is_hit : (ℕ → Bool) → Wish → Bool
is_hit s w = not w.defined && holds_symbol w.meaning
  where
    holds_symbol : Meaning → Bool
    holds_symbol (Symbol k) = s k
    holds_symbol m = false

-- the number of a symbol that is meant is below this one
abbrev pub is_below : ℕ → Wish → Bool
is_below n w = meaning_below w.meaning
  where
    meaning_below : Meaning → Bool
    meaning_below (Symbol k) = nat_lt k n
    meaning_below m = true
