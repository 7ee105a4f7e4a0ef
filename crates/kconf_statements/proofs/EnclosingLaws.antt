-- What encloses a place encloses what follows, until an end word ends it.
use Rattle.std.proofs.Common.{ℕ, zero, suc, ◌≡◌, refl, List, [], ◌∷◌, ◌++◌, drop, Option, Some, None}
use Rattle.std.specs.Prelude.{IfSome}
use Rattle.kconf_statements.specs.EntryLines.{Entry, At, Before}
use Rattle.kconf_statements.specs.Enclosing.{Opener, following, enclosing}
use Rattle.kconf_statements.specs.Laws.{left_open, still_open, StaysEnclosed}

dropped : (n : ℕ) (os base : List Opener) → drop (suc n) os ≡ base → drop n (drop 1 os) ≡ base
dropped zero [] base h = h
dropped (suc n) [] base h = h
dropped n (o ∷ os) base h = h

encloses : (line : ℕ) (e : Entry) (o : Option ℕ) (os base : List Opener) → IfSome o (λ n. drop n os ≡ base)
    → IfSome (left_open e o) (λ n. drop n (following line e os) ≡ base)
encloses line Entry.MainMenu o os base h = h
encloses line Entry.Comment o os base h = h
encloses line (Entry.Config c) o os base h = h
encloses line (Entry.Menu m) None os base h = tt
encloses line (Entry.Menu m) (Some n) os base h = h
encloses line (Entry.Choice c) None os base h = tt
encloses line (Entry.Choice c) (Some n) os base h = h
encloses line (Entry.If e) None os base h = tt
encloses line (Entry.If e) (Some n) os base h = h
encloses line (Entry.Source f) None os base h = tt
encloses line (Entry.Source f) (Some n) os base h = h
encloses line (Entry.End what) None os base h = tt
encloses line (Entry.End what) (Some zero) os base h = tt
encloses line (Entry.End what) (Some (suc n)) os base h = dropped n os base h
encloses line Entry.Sourced None os base h = tt
encloses line Entry.Sourced (Some zero) os base h = tt
encloses line Entry.Sourced (Some (suc n)) os base h = dropped n os base h

pub stays_enclosed : (later before : Before) → StaysEnclosed later before
stays_enclosed [] before = refl
stays_enclosed (At line e ∷ later) before = encloses line e (still_open later) (enclosing (later ++ before)) (enclosing before) (stays_enclosed later before)
