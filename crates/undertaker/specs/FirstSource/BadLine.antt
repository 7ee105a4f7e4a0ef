-- Which line is named where a source is not of the first form: the first with which no text of the form begins, or
-- the opener of the innermost chain that is open at the end. This project's rule.
use Rattle.std.specs.Prelude.{◌≡◌, ℕ, ◌+◌, ◌⊎◌, Result, Ok, List, [], ◌∷◌}
use Rattle.ut_text.specs.Bytes.{Bytes}
use Rattle.ut_text.specs.FirstWrong.{CanGoOn, IsFirstWrong}
use Rattle.ut_text.specs.Results.{◌>>=◌}
use Rattle.cpp_directives.specs.declared.directive.Directive.{Directive}
use Rattle.undertaker.specs.FirstSource.Form.{Chains, no_chains, first_line, step, read_lines}

-- the lines are those of a text of the form
abbrev pub IsOfForm : List Bytes → Type 0
IsOfForm lines = (directives : List Directive) × (read_lines 1 no_chains lines ≡ Ok directives)

-- the chains after the lines from number n on
abbrev pub chains_behind : ℕ → Chains → List Bytes → Result Chains ℕ
chains_behind n c [] = Ok c
chains_behind n c (l ∷ ls) = step n (first_line l) c >>= λ x. chains_behind (n + 1) x.0 ls

-- a text of the form begins with all the lines, but chains are open after them, the innermost one opened by line n
pub record EndsOpen (lines : List Bytes) (n : ℕ) : Type 0 where
  pub goes_on : CanGoOn IsOfForm lines
  pub chains : Chains
  pub open_ones : chains_behind 1 no_chains lines ≡ Ok chains
  pub others : List ℕ
  pub innermost : chains.openers ≡ n ∷ others

-- the line that is named
abbrev pub IsNamed : List Bytes → ℕ → Type 0
IsNamed lines n = IsFirstWrong IsOfForm lines n ⊎ EndsOpen lines n
