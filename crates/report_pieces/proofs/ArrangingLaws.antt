-- The loops that put a report together.
use Rattle.std.proofs.Common.{◌≡◌, ◌∙◌, ℕ, ◌+◌, ◌-◌, ◌<◌, ◌≤◌, suc, length, drop, sym, ap, arith}
use Rattle.std.proofs.lemmas.List.{drop_all, at_drop_more}
use Rattle.ut_case.specs.Problem.{Problem, no_source, source_at}
use Rattle.report_pieces.specs.Arranging.{Arranged, with_block, with_blocks, with_source, with_sources}

-- one block more
pub blocks_on : (here next whole : Arranged) (k count : ℕ) → k < count → next ≡ with_block here → with_blocks (count - k) here ≡ whole
    → with_blocks (count - (k + 1)) next ≡ whole
blocks_on here next whole k count lt is left =
    let more : count - k ≡ suc (count - (k + 1)) = omega (arith, lt) in
    ap (with_blocks (count - (k + 1))) is ∙ sym (ap (λ n. with_blocks n here) more) ∙ left

-- one source more
pub sources_on : (p : Problem) (here next whole : Arranged) (file : ℕ) → file < length p.sources → next ≡ with_source (source_at p file) here
    → with_sources (drop file p.sources) here ≡ whole → with_sources (drop (file + 1) p.sources) next ≡ whole
sources_on p here next whole file lt is left =
    ap (with_sources (drop (file + 1) p.sources)) is ∙ sym (at_drop_more (λ ss. with_sources ss here) p.sources file no_source lt) ∙ left

-- none is left
pub sources_end : (p : Problem) (here whole : Arranged) (file : ℕ) → length p.sources ≤ file → with_sources (drop file p.sources) here ≡ whole → here ≡ whole
sources_end p here whole file end left = sym (ap (λ ss. with_sources ss here) (drop_all file p.sources end)) ∙ left
