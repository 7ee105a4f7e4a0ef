use Rattle.std.proofs.Common.{◌&&◌, not, codes}
use Rattle.ut_base.specs.Names.{is_name}
use Rattle.ut_words.specs.Spelled.{begins_with}
use Rattle.ut_words.proofs.OneByOne.{Made}
use Rattle.ut_words.proofs.sources.each_name.Given as goal

abbrev pub invariant-loop-file : goal.invariant-loop-file
invariant-loop-file l = Made (λ file. is_name file && not (begins_with (codes " ") file)) (λ file. file) l.files l.file-index l.names.items
