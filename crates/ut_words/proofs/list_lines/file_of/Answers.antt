use Rattle.std.proofs.Common.{◌≡◌, subst, IfOk}
use Rattle.ut_words.proofs.ListLines.{file_text, no_file_text}
use Rattle.ut_words.proofs.list_lines.file_of.Goals as goal

pub returns-in-Ok : goal.returns-in-Ok
returns-in-Ok c = subst (λ z. IfOk c.new.result (λ f. f ≡ z)) (file_text _ _ c.in-Ok.ensures.cases.0 c.in-Ok.ensures.cases.1) c.new.ensures

pub returns-in-Err : goal.returns-in-Err
returns-in-Err c = no_file_text _ c.in-Err.ensures.cases.0
