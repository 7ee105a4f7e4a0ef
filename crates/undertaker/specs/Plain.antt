-- The conditions of sources of the first form: a name that is defined, or that isn't.
use Rattle.std.specs.Prelude.{◌≡◌, ◌⊎◌, Bool, true, false, List, [], ◌∷◌, Option, None, Some, Ok, if◌then◌else◌}
use Rattle.ut_text.specs.Bytes.{Bytes}
use Rattle.undertaker.specs.FirstSource.Form.{first_directives_of}
use Rattle.cpp_directives.specs.declared.directive.Directive.{Directive}
use Rattle.cpp_directives.specs.declared.directive.What.{What}
use Rattle.cpp_directives.specs.declared.directive.What.TheVariants.{If, Endif}
use Rattle.cpp_directives.specs.declared.condition.Cond.{Cond, out-Cond}
use Rattle.cpp_directives.specs.declared.condition.Cond.TheVariants.{Defined, Neg}
use Rattle.undertaker.specs.Names.{with_name}
use Rattle.cpp_directives.specs.declared.condition.Cond.TheOpen.{Cond-F}

-- `defined X`, or its negation
abbrev pub cond_of : Bytes → Bool → Cond
cond_of name defined = if defined then Defined name else Neg (Defined name)

-- `#ifdef`, `#ifndef` or `#endif`
abbrev pub IsPlain : Directive → Type 0
IsPlain d = (d.what ≡ Endif) ⊎ ((name : Bytes) × (defined : Bool) × (d.what ≡ If (cond_of name defined)))

abbrev pub ArePlain : List Directive → Type 0
ArePlain [] = Unit {0}
ArePlain (d ∷ ds) = IsPlain d × ArePlain ds

-- a name, and whether it is to be defined
abbrev pub negated_at : Cond-F Cond → Option (Bytes × Bool)
negated_at (Cond-F.Defined name) = Some (name, false)
negated_at x = None

abbrev pub asked_at : Cond-F Cond → Option (Bytes × Bool)
asked_at (Cond-F.Defined name) = Some (name, true)
asked_at (Cond-F.Neg c) = negated_at (out-Cond c)
asked_at x = None

abbrev pub asked_of : Cond → Option (Bytes × Bool)
asked_of c = asked_at (out-Cond c)

abbrev pub asked_in : What → Option (Bytes × Bool)
asked_in (If cond) = asked_of cond
asked_in what = None

-- the macros of a source so far, with that of one more directive
abbrev pub with_asked : List Bytes → Option (Bytes × Bool) → List Bytes
with_asked macros None = macros
with_asked macros (Some asked) = with_name macros asked.0

abbrev pub macros_behind : List Bytes → What → List Bytes
macros_behind macros what = with_asked macros (asked_in what)

-- what some source of the form gives
abbrev pub IsFirstSource : List Directive → Type 0
IsFirstSource ds = (bytes : Bytes) × (first_directives_of bytes ≡ Ok ds)
