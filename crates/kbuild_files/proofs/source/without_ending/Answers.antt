use Rattle.std.proofs.Common.{inl, inr, ◌⊎◌, ◌≡◌, ◌++◌, codes}
use Rattle.std.specs.Prelude.{MatchOption, Option, None, Some}
use Rattle.std.specs.Borrow.{Bor}
use Rattle.ut_text.specs.Bytes.{Bytes}
use Rattle.kbuild_paths.specs.Paths.{IsSourceOf}
use Rattle.kbuild_files.proofs.source.without_ending.Goals as goal

-- neither ending, or the second
second : (s : Bytes) → ((front : Bytes) → ¬ (s ≡ front ++ codes ".c")) → (r : Option (Bor Bytes)) → MatchOption r ((front : Bytes) → ¬ (s ≡ front ++ codes ".S")) (λ x. s ≡ x.now ++ codes ".S")
    → MatchOption r ((file : Bytes) → ¬ IsSourceOf file s) (λ file. IsSourceOf file.now s)
second s no_c None no_s = λ file. by file
  where
    by : (file : Bytes) → ¬ IsSourceOf file s
    by file (inl p) = no_c file p
    by file (inr q) = no_s file q
second s no_c (Some x) is = inr is

pub returns-in-Some : goal.returns-in-Some
returns-in-Some c = inl c.in-Some.ensures

pub returns-in-None : goal.returns-in-None
returns-in-None c = second c.args.source.now c.in-None.ensures c.before_ending-in-None.result c.before_ending-in-None.ensures
