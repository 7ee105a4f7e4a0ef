-- The blocks of a problem are blocks of its sources, from 1 on.
use Rattle.std.proofs.Common.{◌≡◌, ◌∙◌, ℕ, ◌+◌, ◌-◌, ◌<◌, ◌≤◌, zero, suc, add-one, List, [], ◌∷◌, ◌++◌, Result, Ok, Err, length, drop, get_or, refl, sym, ap, subst, arith, append_assoc, append-nil}
use Rattle.std.specs.List.{AllByRecursion}
use Rattle.std.specs.Prelude.{All}
use Rattle.std.proofs.lemmas.List.{drop_all, at_drop_more}
use Rattle.std.proofs.lemmas.List.Elements.{All-from_recursion}
use Rattle.cpp_directives.specs.declared.directive.Directive.{Directive}
use Rattle.cpp_directives.specs.declared.bad.CppBad.{CppBad}
use Rattle.cpp_blocks.specs.Blocks.{count_of}
use Rattle.ut_case.specs.declared.question.BlockId.{BlockId}
use Rattle.ut_case.specs.Posed.{HasBlock, IsInnerBlockOf}
use Rattle.ut_case.specs.Problem.{Source, Problem, no_source, source_at}
use Rattle.report_pieces.specs.Blocks.{blocks_after, blocks_from, blocks_of, source_blocks}

joined : {X : Type 0} (P : X → Type 0) (xs ys : List X) → AllByRecursion P xs → AllByRecursion P ys → AllByRecursion P (xs ++ ys)
joined P [] ys h k = k
joined P (x ∷ xs) ys h k = (h.0, joined P xs ys h.1 k)

-- the first of what is left stands at its place
pub first_left : {X : Type 0} (xs : List X) (k : ℕ) (x : X) (rest : List X) (d : X) → drop k xs ≡ x ∷ rest → (k < length xs) × (get_or xs k d ≡ x) × (drop (suc k) xs ≡ rest)
first_left [] zero x rest d h = absurd (cc)
first_left [] (suc k) x rest d h = absurd (cc)
first_left (y ∷ ys) zero x rest d h = (omega arith, cc, cc)
first_left (y ∷ ys) (suc k) x rest d h = let more = first_left ys k x rest d h in (omega (arith, more.0), more.1, more.2)

-- one block more of a source
pub blocks_on : (file : ℕ) (old new all : List BlockId) (k count : ℕ) → k < count → new ≡ old ++ record { file = file; block = k + 1 } ∷ []
    → old ++ blocks_after file k (count - k) ≡ all → new ++ blocks_after file (k + 1) (count - (k + 1)) ≡ all
blocks_on file old new all k count lt is left =
    let more : count - k ≡ suc (count - (k + 1)) = omega (arith, lt) in
    let parts : blocks_after file k (count - k) ≡ record { file = file; block = k + 1 } ∷ blocks_after file (k + 1) (count - (k + 1)) =
    ap (blocks_after file k) more ∙ ap (λ b. record { file = file; block = b } ∷ blocks_after file b (count - (k + 1))) (sym (add-one k)) in
    ap (λ l. l ++ blocks_after file (k + 1) (count - (k + 1))) is
    ∙ append_assoc old (record { file = file; block = k + 1 } ∷ []) (blocks_after file (k + 1) (count - (k + 1)))
    ∙ ap (λ l. old ++ l) (sym parts) ∙ left

module _ (p : Problem) where
  after : (file block count : ℕ) (ds : List Directive) → file < length p.sources → (source_at p file).read ≡ Ok ds → block + count ≤ count_of ds
      → AllByRecursion (IsInnerBlockOf p) (blocks_after file block count)
  after file block zero ds in' read few = tt
  after file block (suc count) ds in' read few = (
    (omega arith, record { file = in'; block = subst (λ r. HasBlock r (suc block)) (sym read) (omega (arith, few)) }),
    after file (suc block) count ds in' read (omega (arith, few)),
  )

  of_source : (file : ℕ) (read : Result (List Directive) CppBad) → file < length p.sources → (source_at p file).read ≡ read → AllByRecursion (IsInnerBlockOf p) (source_blocks file read)
  of_source file (Ok ds) in' is = after file 0 (count_of ds) ds in' is (omega arith)
  of_source file (Err e) in' is = tt

  from : (file : ℕ) (ss : List Source) → drop file p.sources ≡ ss → AllByRecursion (IsInnerBlockOf p) (blocks_from file ss)
  from file [] left = tt
  from file (s ∷ ss) left =
      let here = first_left p.sources file s ss no_source left in
      joined (IsInnerBlockOf p) (source_blocks file s.read) (blocks_from (suc file) ss) (of_source file s.read here.0 (ap (λ (t : Source). t.read) here.1)) (from (suc file) ss here.2)

  pub all_inner : All (IsInnerBlockOf p) (blocks_of p)
  all_inner = All-from_recursion (IsInnerBlockOf p) (blocks_of p) (from 0 p.sources refl)

  -- one source more
  pub sources_on : (old new all : List BlockId) (file : ℕ) → file < length p.sources → new ≡ old ++ source_blocks file (source_at p file).read
      → old ++ blocks_from file (drop file p.sources) ≡ all → new ++ blocks_from (file + 1) (drop (file + 1) p.sources) ≡ all
  sources_on old new all file lt is left =
      let parts : blocks_from file (drop file p.sources) ≡ source_blocks file (source_at p file).read ++ blocks_from (file + 1) (drop (file + 1) p.sources) =
      at_drop_more (blocks_from file) p.sources file no_source lt
      ∙ ap (λ k. source_blocks file (source_at p file).read ++ blocks_from k (drop (file + 1) p.sources)) (sym (add-one file)) in
      ap (λ l. l ++ blocks_from (file + 1) (drop (file + 1) p.sources)) is
      ∙ append_assoc old (source_blocks file (source_at p file).read) (blocks_from (file + 1) (drop (file + 1) p.sources))
      ∙ ap (λ l. old ++ l) (sym parts) ∙ left

  -- none is left
  pub sources_end : (all whole : List BlockId) (file : ℕ) → length p.sources ≤ file → all ++ blocks_from file (drop file p.sources) ≡ whole → all ≡ whole
  sources_end all whole file end left = sym (append-nil all) ∙ ap (λ l. all ++ blocks_from file l) (sym (drop_all file p.sources end)) ∙ left
