use Rattle.std.proofs.Common.{◌∙◌, ◌&&◌, ap, sym, refl, Some, Ok}
use Rattle.ut_words.specs.declared.order.Order.{Order}
use Rattle.ut_words.specs.declared.order.UsageKind.TheVariants as usage
use Rattle.ut_words.specs.Jobs.{jobs, row_of}
use Rattle.ut_words.specs.Options.{options}
use Rattle.ut_words.specs.Reading.{numbers_of}
use Rattle.ut_words.specs.Words.{are_right, are_sources, order, order_said}
use Rattle.ut_words.proofs.Answering.{order_is, at_number, at_style, at_var, at_needs, at_names, at_files, at_order, fails_by, same_order}
use Rattle.ut_words.proofs.NumberLaws.{none_is, some_is}
use Rattle.ut_words.proofs.words.order_in.Goals as goal

pub returns-in_default-numbers_in : goal.returns-in_default-numbers_in
returns-in_default-numbers_in c = λ said reads.
    order_is said c.value.result _ c.unwrap_or.result c.in-Some.job c.unwrap_or.ensures (c.value.ensures said reads) refl c.in-Some.ensures
    ∙ at_number (are_right usage.Number options said) (are_right usage.Style options said) (are_right usage.Var options said) ((row_of c.in-Some.job).needs said) (are_right usage.File options said && are_sources said.files) (order (row_of c.in-Some.job).job said) (none_is (are_right usage.Number options said) (numbers_of said) (c.in_default-numbers_in.ensures said reads))

pub returns-in_err-style : goal.returns-in_err-style
returns-in_err-style c = λ said reads.
    fails_by usage.Style (are_right usage.Style options said) (order_said options jobs (Some said)) c.from_residual.result _ c.from_residual.ensures.1 (c.in_err-style.ensures said reads)
    (λ wrong. order_is said c.value.result _ c.unwrap_or.result c.in-Some.job c.unwrap_or.ensures (c.value.ensures said reads) refl c.in-Some.ensures ∙ at_style (are_right usage.Number options said) (are_right usage.Style options said) (are_right usage.Var options said) ((row_of c.in-Some.job).needs said) (are_right usage.File options said && are_sources said.files) (order (row_of c.in-Some.job).job said) (some_is (are_right usage.Number options said) (numbers_of said) c.in-Some-numbers_in.numbers (c.in-Some-numbers_in.ensures said reads)).0 wrong)

pub returns-in_err-vars : goal.returns-in_err-vars
returns-in_err-vars c = λ said reads.
    fails_by usage.Var (are_right usage.Var options said) (order_said options jobs (Some said)) c.from_residual-in_err-vars.result _ c.from_residual-in_err-vars.ensures.1 (c.in_err-vars.ensures said reads)
    (λ wrong. order_is said c.value.result _ c.unwrap_or.result c.in-Some.job c.unwrap_or.ensures (c.value.ensures said reads) refl c.in-Some.ensures ∙ at_var (are_right usage.Number options said) (are_right usage.Style options said) (are_right usage.Var options said) ((row_of c.in-Some.job).needs said) (are_right usage.File options said && are_sources said.files) (order (row_of c.in-Some.job).job said) (some_is (are_right usage.Number options said) (numbers_of said) c.in-Some-numbers_in.numbers (c.in-Some-numbers_in.ensures said reads)).0 (c.in_ok-style.ensures said reads).0 wrong)

pub returns-then-not-supplied : goal.returns-then-not-supplied
returns-then-not-supplied c = λ said reads.
    order_is said c.value.result _ c.unwrap_or.result c.in-Some.job c.unwrap_or.ensures (c.value.ensures said reads) refl c.in-Some.ensures ∙ at_needs (are_right usage.Number options said) (are_right usage.Style options said) (are_right usage.Var options said) ((row_of c.in-Some.job).needs said) (are_right usage.File options said && are_sources said.files) (order (row_of c.in-Some.job).job said) (some_is (are_right usage.Number options said) (numbers_of said) c.in-Some-numbers_in.numbers (c.in-Some-numbers_in.ensures said reads)).0 (c.in_ok-style.ensures said reads).0 (c.in_ok-vars.ensures said reads).0 (sym (c.has_needs-supplied.ensures said reads) ∙ c.if-not-supplied.true)

pub returns-in_err-names : goal.returns-in_err-names
returns-in_err-names c = λ said reads.
    fails_by usage.File (are_right usage.File options said) (order_said options jobs (Some said)) c.from_residual-in_err-names.result _ c.from_residual-in_err-names.ensures.1 (c.in_err-names.ensures said reads)
    (λ wrong. order_is said c.value.result _ c.unwrap_or.result c.in-Some.job c.unwrap_or.ensures (c.value.ensures said reads) refl c.in-Some.ensures ∙ at_names (are_right usage.Number options said) (are_right usage.Style options said) (are_right usage.Var options said) ((row_of c.in-Some.job).needs said) (are_right usage.File options said) (are_sources said.files) (order (row_of c.in-Some.job).job said) (some_is (are_right usage.Number options said) (numbers_of said) c.in-Some-numbers_in.numbers (c.in-Some-numbers_in.ensures said reads)).0 (c.in_ok-style.ensures said reads).0 (c.in_ok-vars.ensures said reads).0 (sym (c.has_needs-supplied.ensures said reads) ∙ c.if-not-supplied.false) wrong)

pub returns-in_err-files : goal.returns-in_err-files
returns-in_err-files c = λ said reads.
    fails_by usage.File (are_sources said.files) (order_said options jobs (Some said)) c.from_residual-in_err-files.result _ c.from_residual-in_err-files.ensures.1 (c.in_err-files.ensures said reads)
    (λ wrong. order_is said c.value.result _ c.unwrap_or.result c.in-Some.job c.unwrap_or.ensures (c.value.ensures said reads) refl c.in-Some.ensures ∙ at_files (are_right usage.Number options said) (are_right usage.Style options said) (are_right usage.Var options said) ((row_of c.in-Some.job).needs said) (are_right usage.File options said) (are_sources said.files) (order (row_of c.in-Some.job).job said) (some_is (are_right usage.Number options said) (numbers_of said) c.in-Some-numbers_in.numbers (c.in-Some-numbers_in.ensures said reads)).0 (c.in_ok-style.ensures said reads).0 (c.in_ok-vars.ensures said reads).0 (sym (c.has_needs-supplied.ensures said reads) ∙ c.if-not-supplied.false) (c.in_ok-names.ensures said reads).0 wrong)

pub returns : goal.returns
returns c = λ said reads.
    let numbers = some_is (are_right usage.Number options said) (numbers_of said) c.in-Some-numbers_in.numbers (c.in-Some-numbers_in.ensures said reads) in
    order_is said c.value.result _ c.unwrap_or.result c.in-Some.job c.unwrap_or.ensures (c.value.ensures said reads) refl c.in-Some.ensures
    ∙ at_order (are_right usage.Number options said) (are_right usage.Style options said) (are_right usage.Var options said) ((row_of c.in-Some.job).needs said) (are_right usage.File options said) (are_sources said.files) (order (row_of c.in-Some.job).job said) numbers.0 (c.in_ok-style.ensures said reads).0 (c.in_ok-vars.ensures said reads).0 (sym (c.has_needs-supplied.ensures said reads) ∙ c.if-not-supplied.false) (c.in_ok-names.ensures said reads).0 (c.in_ok-files.ensures said reads).0
    ∙ ap (λ (o : Order). Ok o)
    (same_order said c.in-Some.job c.in-Some-numbers_in.numbers c.in_ok-names.names c.in_ok-style.style c.in_ok-vars.vars c.in_ok-files.files c.evidence.result
    (sym numbers.1) (c.in_ok-names.ensures said reads).1 (c.in_ok-style.ensures said reads).1 (c.in_ok-vars.ensures said reads).1 (c.in_ok-files.ensures said reads).1 (c.evidence.ensures said reads))
