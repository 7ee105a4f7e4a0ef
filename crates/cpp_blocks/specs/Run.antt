-- The run of a source: its directives in order, with the state of each macro and the open chains.
-- Rule: ISO C, "Conditional inclusion" and "Macro replacement"; the three states of a macro and the
-- free truths of opaque pieces and of `#define` lines are this project's rule.
use Rattle.std.specs.Prelude.{ℕ, Bool, true, false, not, ◌&&◌, ◌||◌, List, [], ◌∷◌, ◌++◌, if◌then◌else◌, get_or, filter, length}
use Rattle.std.specs.List.{list_any, list_all}
use Rattle.ut_text.specs.Bytes.{Bytes}
use Rattle.ut_text.specs.Text.{text_eq}
use Rattle.cpp_directives.specs.declared.condition.Cond.{Cond}
use Rattle.cpp_directives.specs.declared.condition.Cond.TheOpen.{Cond-F}
use Rattle.cpp_directives.specs.declared.condition.Cond.TheFolds.{fold-Cond}
use Rattle.cpp_directives.specs.declared.directive.Directive.{Directive}
use Rattle.cpp_directives.specs.declared.directive.What.{What}
use Rattle.cpp_directives.specs.declared.directive.What.TheVariants.{If, Elif, Else, Endif, Define, Undef}
use Rattle.cpp_directives.specs.declared.directive.Gives.{Gives}
use Rattle.cpp_directives.specs.declared.directive.Gives.TheVariants.{Zero, Nonzero, Free}
use Rattle.cpp_blocks.specs.declared.state.MacroState.{MacroState}
use Rattle.cpp_blocks.specs.declared.state.MacroState.TheVariants.{Undefined, DefinedFalse, DefinedTrue}
use Rattle.cpp_directives.specs.PieceNames.{names_of_piece}

-- what a run finds: each macro's state at the start, the truth of each opaque piece by its text and the
-- number of earlier macro lines that touch it, and the truth of each free `#define` by its line
pub record Start : Type 0 where
  pub built : Bool
  pub macros : Bytes → MacroState
  pub piece : Bytes → ℕ → Bool
  pub line : ℕ → Bool

-- an open chain: whether the block round it is on, and whether a group of it was on
pub record OpenChain : Type 0 where
  pub around : Bool
  pub taken : Bool

-- where a run stands: whether the innermost open block is on, the open chains from the innermost, the
-- states, the names of the macro lines so far, and for each block so far whether it was on
pub record Running : Type 0 where
  pub on : Bool
  pub chains : List OpenChain
  pub macros : Bytes → MacroState
  pub touched : List Bytes
  pub blocks : List Bool

-- ---- conditions

-- `defined X`
abbrev pub is_defined : MacroState → Bool
is_defined Undefined = false
is_defined DefinedFalse = true
is_defined DefinedTrue = true

-- a macro stands for a number other than 0
abbrev pub is_true : MacroState → Bool
is_true Undefined = false
is_true DefinedFalse = false
is_true DefinedTrue = true

-- how many earlier macro lines name a name of the piece
abbrev pub touches : List Bytes → Bytes → ℕ
touches touched text = length (filter (λ name. list_any (text_eq name) (names_of_piece text)) touched)

-- one condition, with the truth of each inner one in its place
abbrev pub cond_step : Start → Running → Cond-F Bool → Bool
cond_step start r (Cond-F.Const b) = b
cond_step start r (Cond-F.Defined name) = is_defined (r.macros name)
cond_step start r (Cond-F.Plain name) = is_true (r.macros name)
cond_step start r (Cond-F.Piece text) = start.piece text (touches r.touched text)
cond_step start r (Cond-F.Neg b) = not b
cond_step start r (Cond-F.AllOf bs) = list_all (λ b. b) bs
cond_step start r (Cond-F.AnyOf bs) = list_any (λ b. b) bs

-- the truth of a condition in the state there
abbrev pub holds : Start → Running → Cond → Bool
holds start r = fold-Cond Bool (cond_step start r)

-- ---- directives

-- a new chain inside the innermost open block, whose first group is on or not
abbrev pub opened : Running → Bool → Running
opened r cond = record r {
  on = r.on && cond;
  chains = record { around = r.on; taken = r.on && cond } ∷ r.chains;
  blocks = r.blocks ++ (r.on && cond) ∷ [];
}

-- the next group of the innermost chain: on where the block round it is, no earlier group was, and the condition holds
abbrev pub turned : Running → List OpenChain → Bool → Running
turned r [] cond = r
turned r (c ∷ cs) cond = record r {
  on = c.around && (not c.taken && cond);
  chains = record { around = c.around; taken = c.taken || (c.around && cond) } ∷ cs;
  blocks = r.blocks ++ (c.around && (not c.taken && cond)) ∷ [];
}

-- the innermost chain ends
abbrev pub closed : Running → List OpenChain → Running
closed r [] = r
closed r (c ∷ cs) = record r { on = c.around; chains = cs }

-- a macro line counts in a block that is on
abbrev pub sets : Running → Bytes → MacroState → Running
sets r name state = record r {
  macros = λ other. if r.on && text_eq name other then state else r.macros other;
  touched = r.touched ++ name ∷ [];
}

-- the state that a `#define` gives
abbrev pub given : Start → ℕ → Gives → MacroState
given start line Zero = DefinedFalse
given start line Nonzero = DefinedTrue
given start line Free = if start.line line then DefinedTrue else DefinedFalse

-- one directive
abbrev pub step : Start → Running → Directive → Running
step start r d = by d.what
  where
    by : What → Running
    by (If cond) = opened r (holds start r cond)
    by (Elif cond) = turned r r.chains (holds start r cond)
    by Else = turned r r.chains true
    by Endif = closed r r.chains
    by (Define name gives) = sets r name (given start d.line gives)
    by (Undef name) = sets r name Undefined

-- ---- the run

-- the directives in order
abbrev pub run_from : Start → Running → List Directive → Running
run_from start r [] = r
run_from start r (d ∷ ds) = run_from start (step start r d) ds

-- a run begins in block 0, which is on where the source is built
abbrev pub beginning : Start → Running
beginning start = record { on = start.built; chains = []; macros = start.macros; touched = []; blocks = start.built ∷ [] }

-- the whole run
abbrev pub run_of : Start → List Directive → Running
run_of start ds = run_from start (beginning start) ds

-- whether a block is on in the run; block 0 is the source itself
abbrev pub is_on_in : Start → List Directive → ℕ → Bool
is_on_in start ds block = get_or (run_of start ds).blocks block false
