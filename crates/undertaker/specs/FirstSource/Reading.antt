-- What the readers of the first form promise each other.
-- This project's own; no contract of a public call rests on it.
use Rattle.std.specs.Prelude.{◌≡◌, ℕ, ◌++◌, Option, option_to_list, Result, Ok, Err, List, [], Vec}
use Rattle.std.specs.declared.alloc.Global.{Global}
use Rattle.ut_text.specs.Results.{◌>>=◌}
use Rattle.cpp_directives.specs.declared.directive.Directive.{Directive}
use Rattle.undertaker.specs.declared.first_bad.FirstBad.{FirstBad}
use Rattle.undertaker.specs.declared.first_bad.FirstBad.TheVariants.{NotYet, Oom}
use Rattle.undertaker.specs.FirstSource.Form.{Chains, at_end}

-- the line that is named is the one that reading names, unless memory ran out
abbrev pub Fails : {Y : Type 0} → FirstBad → Result Y ℕ → Type 0
Fails (NotYet n) read = read ≡ Err n
Fails Oom read = Unit {0}

-- the directive of a line, if it has one, and the chains after it
abbrev pub Reads : Result (Option Directive) FirstBad → Chains → Result (Chains × List Directive) ℕ → Type 0
Reads (Ok d) new read = read ≡ Ok (new, option_to_list d)
Reads (Err e) new read = Fails e read

-- no chain is open at the end
abbrev pub Ends : Result (Unit {0}) FirstBad → List ℕ → Type 0
Ends (Ok u) openers = openers ≡ []
Ends (Err e) openers = Fails e (at_end openers)

-- the directives so far, and those of what is left
abbrev pub behind : List Directive → Result (List Directive) ℕ → Result (List Directive) ℕ
behind front read = read >>= λ ds. Ok (front ++ ds)

-- the directives of a source, or the line that is named
abbrev pub Gives : Result (Vec Directive Global) FirstBad → Result (List Directive) ℕ → Type 0
Gives (Ok ds) read = read ≡ Ok ds.items
Gives (Err e) read = Fails e read
