use Rattle.std.proofs.Common.{◌∙◌, ap, sym, arith, not, ◌&&◌, ◌++◌, ◌∷◌, [], codes}
use Rattle.std.proofs.Common.{map-id}
use Rattle.std.specs.List.{list_all}
use Rattle.ut_words.specs.Reading.{some_if}
use Rattle.ut_base.specs.Names.{is_name}
use Rattle.ut_words.specs.Spelled.{begins_with}
use Rattle.ut_words.proofs.NumberLaws.{none_is, some_is}
use Rattle.ut_words.proofs.OneByOne.{bytes_of, made_nothing, made_more, made_fails, made_all}
use Rattle.ut_words.proofs.sources.each_name.Goals as goal

pub loop-file-init : goal.loop-file-init
loop-file-init c = made_nothing (λ file. is_name file && not (begins_with (codes " ") file)) (λ file. file) c.args.files.now c.new-names.result.items c.new-names.ensures.items

pub returns-in_default : goal.returns-in_default
returns-in_default c =
    made_fails (λ file. is_name file && not (begins_with (codes " ") file)) (λ file. file) c.args.files.now c.loop-file.file-index c.loop-file.names.items _ _ (omega arith) (none_is _ _ (sym c.in_default.is ∙ c.in_ok-name.ensures)) c.loop-file.invariant

pub loop-file-preserved : goal.loop-file-preserved
loop-file-preserved c =
    let is = some_is _ _ _ (sym c.in-Some.is ∙ c.in_ok-name.ensures) in
    made_more (λ file. is_name file && not (begins_with (codes " ") file)) (λ file. file) c.args.files.now c.loop-file.file-index c.loop-file.names.items c.push.new.self.items _ (omega arith) is.0 (c.in_ok-push.ensures.items ∙ ap (λ x. c.loop-file.names.items ++ x ∷ []) (sym is.1)) c.loop-file.invariant

pub returns : goal.returns
returns c = made_all (λ file. is_name file && not (begins_with (codes " ") file)) (λ file. file) c.args.files.now c.loop-file.file-index c.loop-file.names.items (omega arith) c.loop-file.invariant
    ∙ ap (some_if (list_all (λ file. is_name file && not (begins_with (codes " ") file)) (bytes_of c.args.files.now))) (map-id (bytes_of c.args.files.now))
