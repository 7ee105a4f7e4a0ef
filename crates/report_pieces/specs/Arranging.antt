-- How a report is put together, source by source. No public contract cites this module.
use Rattle.std.specs.Prelude.{ℕ, zero, suc, List, [], ◌∷◌, ◌++◌, Result, Ok, Err}
use Rattle.ut_text.specs.Bytes.{Bytes}
use Rattle.cpp_directives.specs.declared.directive.Directive.{Directive}
use Rattle.cpp_directives.specs.declared.bad.CppBad.{CppBad}
use Rattle.cpp_blocks.specs.Blocks.{count_of}
use Rattle.ut_case.specs.declared.word.Word.{Word}
use Rattle.ut_case.specs.Problem.{Source}
use Rattle.ut_report.specs.Lines.{refused_line, text_of}
use Rattle.report_pieces.specs.declared.block_text.BlockText.{BlockText}

-- the pieces so far, the words on the blocks in them, and what is written of the other blocks
pub record Arranged : Type 0 where
  pub pieces : List Bytes
  pub words : List Word
  pub rest : List BlockText

-- with a block, if one is left
abbrev pub with_next : Arranged → List BlockText → Arranged
with_next a [] = a
with_next a (t ∷ ts) = record { pieces = a.pieces ++ t.lines ∷ []; words = a.words ++ t.word ∷ []; rest = ts }

abbrev pub with_block : Arranged → Arranged
with_block a = with_next a a.rest

-- with so many blocks
abbrev pub with_blocks : ℕ → Arranged → Arranged
with_blocks zero a = a
with_blocks (suc count) a = with_blocks count (with_block a)

-- with a source: its blocks, or why it is refused
abbrev pub with_read : Bytes → Result (List Directive) CppBad → Arranged → Arranged
with_read name (Ok ds) a = with_blocks (count_of ds) a
with_read name (Err e) a = record a { pieces = a.pieces ++ text_of (refused_line name e ∷ []) ∷ [] }

abbrev pub with_source : Source → Arranged → Arranged
with_source s a = with_read s.name s.read a

-- with all sources
abbrev pub with_sources : List Source → Arranged → Arranged
with_sources [] a = a
with_sources (s ∷ ss) a = with_sources ss (with_source s a)
