-- Pieces that are put together from what is right of each block are the report.
use Rattle.std.proofs.Common.{◌≡◌, ◌∙◌, ℕ, ◌+◌, ◌<◌, zero, suc, Bool, List, [], ◌∷◌, ◌++◌, Result, Ok, Err, map, length, drop, get_or, refl, sym, ap, subst, arith, append_assoc, append-nil}
use Rattle.std.specs.List.{AllZip, concat, flat_map}
use Rattle.ut_text.specs.Bytes.{Bytes}
use Rattle.cpp_directives.specs.declared.directive.Directive.{Directive}
use Rattle.cpp_directives.specs.declared.bad.CppBad.{CppBad}
use Rattle.cpp_blocks.specs.Blocks.{count_of}
use Rattle.ut_case.specs.declared.question.BlockId.{BlockId}
use Rattle.ut_case.specs.declared.word.Word.{Word}
use Rattle.ut_case.specs.Problem.{Source, Problem, no_source, source_at}
use Rattle.ut_report.specs.Lines.{block_line, refused_line, text_of, total_line, totals_of}
use Rattle.ut_report.specs.Report.{AreSaid, Blocks, BlockSaid, IsRunReport, IsRunSaidOn, IsSaidOf, Refusal, Said, block_lines, nothing_said, source_lines, words_of}
use Rattle.report_lines.proofs.TextLaws.{text_of-append}
use Rattle.report_pieces.specs.Arranging.{Arranged, with_blocks, with_read, with_source, with_sources}
use Rattle.report_pieces.specs.Blocks.{IsBlockText, blocks_after, blocks_from, blocks_of, source_blocks}
use Rattle.report_pieces.specs.declared.block_text.BlockText.{BlockText}
use Rattle.report_pieces.proofs.InnerBlocks.{first_left}

-- pieces with one more at the end
concat-push : (ps : List Bytes) (q : Bytes) → concat (ps ++ q ∷ []) ≡ concat ps ++ q
concat-push [] q = append-nil q
concat-push (p ∷ ps) q = ap (λ t. p ++ t) (concat-push ps q) ∙ sym (append_assoc p (concat ps) q)

module _ (p : Problem) (steps : ℕ) (evidence : Bool) where
  abbrev Right : BlockId → BlockSaid → Type 0
  Right = IsRunSaidOn p steps evidence

  -- what putting blocks of a source comes to: these are said, their lines and words follow those before, and the rest is right too
  record Put (name : Bytes) (file block count : ℕ) (before after : Arranged) (others : List BlockId) : Type 0 where
    said : List BlockSaid
    count_is : length said ≡ count
    each : (k : ℕ) → k < length said → Right (record { file = file; block = suc (block + k) }) (get_or said k nothing_said)
    pieces : concat after.pieces ≡ concat before.pieces ++ text_of (block_lines name steps (suc block) said)
    words : after.words ≡ before.words ++ map (λ (b : BlockSaid). b.word) said
    rest : AllZip (IsBlockText p steps evidence) others after.rest

  one_more : (name : Bytes) (file block count : ℕ) (t : BlockText) (before after : Arranged) (others : List BlockId) (ts : List BlockText)
      → (source_at p file).name ≡ name → IsBlockText p steps evidence (record { file = file; block = suc block }) t
      → Put name file (suc block) count (record { pieces = before.pieces ++ t.lines ∷ []; words = before.words ++ t.word ∷ []; rest = ts }) after others
      → Put name file block (suc count) before after others
  one_more name file block count t before after others ts named right more = record {
    said = right.said ∷ more.said;
    count_is = ap suc more.count_is;
    each = each;
    pieces =
        more.pieces
        ∙ ap (λ l. l ++ text_of (block_lines name steps (suc (suc block)) more.said)) (concat-push before.pieces t.lines)
        ∙ append_assoc (concat before.pieces) t.lines (text_of (block_lines name steps (suc (suc block)) more.said))
        ∙ ap (λ l. concat before.pieces ++ l)
        (ap (λ l. l ++ text_of (block_lines name steps (suc (suc block)) more.said)) (right.text ∙ ap (λ n. text_of (block_line n steps (suc block) right.said.word ∷ right.said.under)) named)
        ∙ sym (text_of-append (block_line name steps (suc block) right.said.word ∷ right.said.under) (block_lines name steps (suc (suc block)) more.said)));
    words =
        more.words
        ∙ append_assoc before.words (t.word ∷ []) (map (λ (b : BlockSaid). b.word) more.said)
        ∙ ap (λ w. before.words ++ w ∷ map (λ (b : BlockSaid). b.word) more.said) right.word;
    rest = more.rest;
  }
    where
      each : (k : ℕ) → k < length (right.said ∷ more.said) → Right (record { file = file; block = suc (block + k) }) (get_or (right.said ∷ more.said) k nothing_said)
      each zero lt = let same : suc block ≡ suc (block + 0) = omega arith in subst (λ b. Right (record { file = file; block = b }) right.said) same right.right
      each (suc k) lt =
          let same : suc (suc block + k) ≡ suc (block + suc k) = omega arith in
          subst (λ b. Right (record { file = file; block = b }) (get_or more.said k nothing_said)) same (more.each k (omega (arith, lt)))

  put : (name : Bytes) (file block count : ℕ) (pieces : List Bytes) (words : List Word) (rest : List BlockText) (others : List BlockId) → (source_at p file).name ≡ name
      → AllZip (IsBlockText p steps evidence) (blocks_after file block count ++ others) rest
      → Put name file block count (record { pieces = pieces; words = words; rest = rest }) (with_blocks count (record { pieces = pieces; words = words; rest = rest })) others
  put name file block zero pieces words rest others named right = record {
    said = [];
    count_is = refl;
    each = λ k lt. absurd (omega (arith, lt));
    pieces = sym (append-nil (concat pieces));
    words = sym (append-nil words);
    rest = right;
  }
  put name file block (suc count) pieces words [] others named right = absurd right
  put name file block (suc count) pieces words (t ∷ ts) others named right =
      one_more name file block count t (record { pieces = pieces; words = words; rest = t ∷ ts }) (with_blocks count (record { pieces = pieces ++ t.lines ∷ []; words = words ++ t.word ∷ []; rest = ts })) others ts named right.0
      (put name file (suc block) count (pieces ++ t.lines ∷ []) (words ++ t.word ∷ []) ts others named right.1)

  -- what putting sources comes to
  record PutAll (file : ℕ) (ss : List Source) (before after : Arranged) : Type 0 where
    said : List (Bytes × Said)
    right : AreSaid Right file ss said
    pieces : concat after.pieces ≡ concat before.pieces ++ text_of (flat_map (source_lines steps) said)
    words : after.words ≡ before.words ++ flat_map words_of said

  -- what putting one source comes to
  record PutOne (name : Bytes) (file : ℕ) (read : Result (List Directive) CppBad) (before after : Arranged) (others : List BlockId) : Type 0 where
    says : Said
    right : IsSaidOf Right file read says
    pieces : concat after.pieces ≡ concat before.pieces ++ text_of (source_lines steps (name, says))
    words : after.words ≡ before.words ++ words_of (name, says)
    rest : AllZip (IsBlockText p steps evidence) others after.rest

  put_read : (name : Bytes) (file : ℕ) (read : Result (List Directive) CppBad) (before : Arranged) (others : List BlockId) → (source_at p file).name ≡ name
      → AllZip (IsBlockText p steps evidence) (source_blocks file read ++ others) before.rest
      → PutOne name file read before (with_read name read before) others
  put_read name file (Err e) before others named right = record {
    says = Refusal e;
    right = refl;
    pieces = concat-push before.pieces (text_of (refused_line name e ∷ []));
    words = sym (append-nil before.words);
    rest = right;
  }
  put_read name file (Ok ds) before others named right =
      let blocks : Put name file 0 (count_of ds) before (with_blocks (count_of ds) before) others = put name file 0 (count_of ds) before.pieces before.words before.rest others named right in
      record {
        says = Blocks blocks.said;
        right = record {
          count = blocks.count_is;
          each = λ k lt. let same : suc (0 + k) ≡ suc k = omega arith in
              subst (λ b. Right (record { file = file; block = b }) (get_or blocks.said k nothing_said)) same (blocks.each k lt);
        };
        pieces = blocks.pieces;
        words = blocks.words;
        rest = blocks.rest;
      }

  put_all : (file : ℕ) (ss : List Source) (before : Arranged) → drop file p.sources ≡ ss → AllZip (IsBlockText p steps evidence) (blocks_from file ss) before.rest
      → PutAll file ss before (with_sources ss before)
  put_all file [] before left right = record { said = []; right = tt; pieces = sym (append-nil (concat before.pieces)); words = sym (append-nil before.words) }
  put_all file (s ∷ ss) before left right =
      let here = first_left p.sources file s ss no_source left in
      let one : PutOne s.name file s.read before (with_source s before) (blocks_from (suc file) ss) =
      put_read s.name file s.read before (blocks_from (suc file) ss) (ap (λ (t : Source). t.name) here.1) right in
      let more : PutAll (suc file) ss (with_source s before) (with_sources ss (with_source s before)) = put_all (suc file) ss (with_source s before) here.2 one.rest in
      record {
        said = (s.name, one.says) ∷ more.said;
        right = (refl, one.right, more.right);
        pieces =
            more.pieces
            ∙ ap (λ l. l ++ text_of (flat_map (source_lines steps) more.said)) one.pieces
            ∙ append_assoc (concat before.pieces) (text_of (source_lines steps (s.name, one.says))) (text_of (flat_map (source_lines steps) more.said))
            ∙ ap (λ l. concat before.pieces ++ l) (sym (text_of-append (source_lines steps (s.name, one.says)) (flat_map (source_lines steps) more.said)));
        words =
            more.words
            ∙ ap (λ l. l ++ flat_map words_of more.said) one.words
            ∙ append_assoc before.words (words_of (s.name, one.says)) (flat_map words_of more.said);
      }

  -- all pieces and the total line are the report
  pub is_report : (blocks : List BlockText) (last : Bytes) (pieces : List Bytes) (done : Arranged)
      → with_sources p.sources (record { pieces = []; words = []; rest = blocks }) ≡ done
      → last ≡ text_of (total_line (totals_of done.words) ∷ []) → pieces ≡ done.pieces ++ last ∷ []
      → AllZip (IsBlockText p steps evidence) (blocks_of p) blocks → IsRunReport p steps evidence (concat pieces)
  is_report blocks last pieces done is total all right =
      let put : PutAll 0 p.sources (record { pieces = []; words = []; rest = blocks }) done =
      subst (PutAll 0 p.sources (record { pieces = []; words = []; rest = blocks })) is (put_all 0 p.sources (record { pieces = []; words = []; rest = blocks }) refl right) in
      record {
        said = put.said;
        right = put.right;
        lines =
            ap concat all
            ∙ concat-push done.pieces last
            ∙ ap (λ l. l ++ last) put.pieces
            ∙ ap (λ l. text_of (flat_map (source_lines steps) put.said) ++ l) (total ∙ ap (λ w. text_of (total_line (totals_of w) ∷ [])) put.words)
            ∙ sym (text_of-append (flat_map (source_lines steps) put.said) (total_line (totals_of (flat_map words_of put.said)) ∷ []));
      }
