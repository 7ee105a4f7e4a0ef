-- What holds of the directives of each source that is read: each may stand where it does, no chain is left open, and
-- lines rise. Rule: ISO C, "Conditional inclusion"; the limits are this project's.
use Rattle.std.specs.Prelude.{◌≡◌, ℕ, Bool, true, false, ◌&&◌, nat_lt, Result, is_ok, List, [], ◌∷◌}
use Rattle.std.specs.List.{count_by}
use Rattle.ut_text.specs.Results.{◌>>=◌}
use Rattle.cpp_directives.specs.Chains.{Earlier, passing, at_end, part_of}
use Rattle.cpp_directives.specs.declared.bad.CppBad.{CppBad}
use Rattle.cpp_directives.specs.declared.directive.Directive.{Directive}
use Rattle.cpp_directives.specs.declared.directive.What.{What}
use Rattle.cpp_directives.specs.declared.directive.What.TheVariants.{If, Elif, Else, Endif, Define, Undef}

-- what stands before the end of directives that follow these earlier ones, or the first that may not stand where it does
abbrev pub all_passing : List Earlier → List Directive → Result (List Earlier) CppBad
all_passing before [] = at_end before
all_passing before (d ∷ ds) = passing (part_of d.what) d.line before >>= λ more. all_passing more ds

-- each directive stands on a later line than the one before it, and the first on a later one than this line
abbrev pub lines_rise : ℕ → List Directive → Bool
lines_rise line [] = true
lines_rise line (d ∷ ds) = nat_lt line d.line && lines_rise d.line ds

-- a directive that begins a block
abbrev pub begins_block : What → Bool
begins_block (If cond) = true
begins_block (Elif cond) = true
begins_block Else = true
begins_block Endif = false
begins_block (Define name gives) = false
begins_block (Undef name) = false

-- the number of blocks, without the one that is the file
abbrev pub block_count : List Directive → ℕ
block_count ds = count_by (λ d. begins_block d.what) ds

-- the directives of a source
pub record IsWellFormed (ds : List Directive) : Type 0 where
  pub chains : is_ok (all_passing [] ds) ≡ true
  pub lines : lines_rise 0 ds ≡ true
