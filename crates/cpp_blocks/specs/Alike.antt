-- What a run rests on: the states at the start of the macros that the source names, the truths of its opaque pieces, and
-- those of its `#define` lines whose body is no number; nothing looks at the lines of other directives. This project's rule.
use Rattle.std.specs.Prelude.{◌≡◌, ℕ, List, [], ◌∷◌, All}
use Rattle.std.specs.List.{flat_map}
use Rattle.cpp_directives.specs.declared.directive.Directive.{Directive}
use Rattle.cpp_directives.specs.declared.directive.Gives.{Gives}
use Rattle.cpp_directives.specs.declared.directive.Gives.TheVariants.{Zero, Nonzero, Free}
use Rattle.cpp_directives.specs.declared.directive.What.{What}
use Rattle.cpp_directives.specs.declared.directive.What.TheVariants.{If, Elif, Else, Endif, Define, Undef}
use Rattle.cpp_blocks.specs.declared.pieces.PieceOf.{PieceOf}
use Rattle.cpp_blocks.specs.declared.starts.StartOf.{StartOf}
use Rattle.cpp_blocks.specs.declared.starts.BuiltOf.{BuiltOf}
use Rattle.cpp_blocks.specs.Blocks.{parents_of}
use Rattle.cpp_blocks.specs.Facts.{facts_of}
use Rattle.cpp_blocks.specs.Mentions.{names_of}
use Rattle.cpp_blocks.specs.Run.{Start, run_of}
use Rattle.cpp_blocks.specs.Turns.{pieces_of}

-- the line of a `#define` whose body is no number
abbrev pub given_line : ℕ → Gives → List ℕ
given_line line Zero = []
given_line line Nonzero = []
given_line line Free = line ∷ []

-- the same of a directive
abbrev pub free_line : ℕ → What → List ℕ
free_line line (If cond) = []
free_line line (Elif cond) = []
free_line line Else = []
free_line line Endif = []
free_line line (Define name gives) = given_line line gives
free_line line (Undef name) = []

-- the lines of a source whose macros have a free truth, in order
abbrev pub free_lines : List Directive → List ℕ
free_lines ds = flat_map (λ d. free_line d.line d.what) ds

-- starts that differ in nothing that the source names
pub record AreAlike (ds : List Directive) (s t : Start) : Type 0 where
  pub built : s.built ≡ t.built
  pub macros : All (λ name. s.macros name ≡ t.macros name) (names_of ds)
  pub pieces : All (λ (p : PieceOf). s.piece p.text p.turn ≡ t.piece p.text p.turn) (pieces_of ds)
  pub lines : All (λ line. s.line line ≡ t.line line) (free_lines ds)

-- such starts have the same blocks on
abbrev pub RunsAlike : Type 0
RunsAlike = (ds : List Directive) (s t : Start) → AreAlike ds s t → (run_of s ds).blocks ≡ (run_of t ds).blocks

-- directives that differ in lines alone, and in none that has a free truth
abbrev pub DifferInLines : List Directive → List Directive → Type 0
DifferInLines [] [] = Unit {0}
DifferInLines [] (e ∷ es) = ⊥
DifferInLines (d ∷ ds) [] = ⊥
DifferInLines (d ∷ ds) (e ∷ es) = (d.what ≡ e.what) × (free_line d.line d.what ≡ free_line e.line e.what) × DifferInLines ds es

-- what such directives have in common
pub record AreSame (ds es : List Directive) : Type 0 where
  pub parents : parents_of ds ≡ parents_of es
  pub names : names_of ds ≡ names_of es
  pub pieces : pieces_of ds ≡ pieces_of es
  pub facts : (file : ℕ) (starts : List StartOf) (built : BuiltOf) → facts_of file ds starts built ≡ facts_of file es starts built
  pub runs : (start : Start) → run_of start ds ≡ run_of start es

-- they have the same blocks, names, pieces, facts and runs
abbrev pub LinesMatterNowhere : Type 0
LinesMatterNowhere = (ds es : List Directive) → DifferInLines ds es → AreSame ds es
