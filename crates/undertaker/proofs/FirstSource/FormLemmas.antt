-- Laws of the first form: one more line is read.
use Rattle.std.proofs.Common.{◌≡◌, ℕ, ◌+◌, ◌∷◌, ◌++◌, List, append_assoc, refl, ap, sym, ◌∙◌}
use Rattle.std.specs.Prelude.{Result, Ok, Err}
use Rattle.cpp_directives.specs.declared.directive.Directive.{Directive}
use Rattle.undertaker.specs.FirstSource.Form.{Chains, first_line, step, read_lines}
use Rattle.undertaker.specs.FirstSource.Reading.{behind}

-- directives that are read one part after another
pub joined : (front more : List Directive) (read : Result (List Directive) ℕ) → behind front (behind more read) ≡ behind (front ++ more) read
joined front more (Ok ds) = ap (λ (xs : List Directive). Ok xs) (sym (append_assoc front more ds))
joined front more (Err e) = refl

-- a line that is read, with its directive, leaves the rest to be read after it
pub line_read : (front new more : List Directive) (n : ℕ) (c d : Chains) (ls rest : List (List ℕ)) (l : List ℕ) (whole : Result (List Directive) ℕ)
    → ls ≡ l ∷ rest → step n (first_line l) c ≡ Ok (d, more) → new ≡ front ++ more
    → behind front (read_lines n c ls) ≡ whole → behind new (read_lines (n + 1) d rest) ≡ whole
line_read front new more n c d ls rest l whole is read kept w =
    rw kept (sym (joined front more (read_lines (n + 1) d rest)) ∙ sym (ap (behind front) (rw (is, read) refl)) ∙ w)
