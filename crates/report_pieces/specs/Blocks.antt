-- The blocks of a problem in the order of its report, and what is written of one of them. This project's rule.
use Rattle.std.specs.Prelude.{◌≡◌, ℕ, zero, suc, Bool, List, [], ◌∷◌, ◌++◌, Result, Ok, Err}
use Rattle.cpp_directives.specs.declared.directive.Directive.{Directive}
use Rattle.cpp_directives.specs.declared.bad.CppBad.{CppBad}
use Rattle.cpp_blocks.specs.Blocks.{count_of}
use Rattle.ut_case.specs.declared.question.BlockId.{BlockId}
use Rattle.ut_case.specs.Problem.{Source, Problem, source_at}
use Rattle.ut_report.specs.Lines.{block_line, text_of}
use Rattle.ut_report.specs.Report.{BlockSaid, IsRunSaidOn}
use Rattle.report_pieces.specs.declared.block_text.BlockText.{BlockText}

-- so many blocks of a source, those after the block with this number
abbrev pub blocks_after : ℕ → ℕ → ℕ → List BlockId
blocks_after file block zero = []
blocks_after file block (suc count) = record { file = file; block = suc block } ∷ blocks_after file (suc block) count

-- those of a source, if it isn't refused
abbrev pub source_blocks : ℕ → Result (List Directive) CppBad → List BlockId
source_blocks file (Ok ds) = blocks_after file 0 (count_of ds)
source_blocks file (Err e) = []

-- those of sources, which are numbered from this number on
abbrev pub blocks_from : ℕ → List Source → List BlockId
blocks_from file [] = []
blocks_from file (s ∷ ss) = source_blocks file s.read ++ blocks_from (suc file) ss

-- those of all sources
abbrev pub blocks_of : Problem → List BlockId
blocks_of p = blocks_from 0 p.sources

-- the word and the lines are right for the block
pub record IsBlockText (p : Problem) (steps : ℕ) (evidence : Bool) (b : BlockId) (t : BlockText) : Type 0 where
  pub said : BlockSaid
  pub right : IsRunSaidOn p steps evidence b said
  pub word : t.word ≡ said.word
  pub text : t.lines ≡ text_of (block_line (source_at p b.file).name steps b.block said.word ∷ said.under)
