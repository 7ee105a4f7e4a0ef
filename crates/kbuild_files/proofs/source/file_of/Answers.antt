use Rattle.std.proofs.Common.{sym, subst, ◌++◌}
use Rattle.std.proofs.lemmas.Bool.Decides.{Decides-eqb}
use Rattle.std.proofs.lemmas.Slice.Eq.{strip_prefix_is}
use Rattle.std.specs.Prelude.{MatchOption, Option, None, Some, ◌≡◌}
use Rattle.std.specs.Borrow.{Bor}
use Rattle.ut_text.specs.Bytes.{Bytes}
use Rattle.kbuild_paths.specs.Paths.{IsSourceOf}
use Rattle.kbuild_files.proofs.SourceLaws.{in_folder, out_of_folder, not_in_folder}
use Rattle.kbuild_files.proofs.source.file_of.Goals as goal

-- a file of a path is one of the path in a folder
under : (folder path source : Bytes) → source ≡ folder ++ path → (r : Option (Bor Bytes)) → MatchOption r ((file : Bytes) → ¬ IsSourceOf file path) (λ file. IsSourceOf file.now path)
    → MatchOption r ((file : Bytes) → ¬ IsSourceOf (folder ++ file) source) (λ file. IsSourceOf (folder ++ file.now) source)
under folder path source is None none_is = λ file of. none_is file (out_of_folder folder path file (subst (IsSourceOf (folder ++ file)) is of))
under folder path source is (Some x) of = subst (IsSourceOf (folder ++ x.now)) (sym is) (in_folder folder path x.now of)

pub returns-in-Some : goal.returns-in-Some
returns-in-Some c = under c.args.folder.now c.in-Some.path.now c.args.source.now (rw c.in-Some.is at (strip_prefix_is Decides-eqb c.args.source.now c.args.folder.now c.strip_prefix.result c.strip_prefix.ensures.cases))
    c.without_ending.result c.without_ending.ensures

pub returns-in-None : goal.returns-in-None
returns-in-None c = λ file. not_in_folder c.args.folder.now file c.args.source.now (rw c.in-None.is at (strip_prefix_is Decides-eqb c.args.source.now c.args.folder.now c.strip_prefix.result c.strip_prefix.ensures.cases))
