use Rattle.ut_text.proofs.DecimalLaws.{some_from_test}
use Rattle.line_texts.proofs.NameLaws.{name_found}
use Rattle.line_texts.proofs.cursor.Cursor.name.Goals as goal

pub returns-clause-found : goal.returns-clause-found
returns-clause-found c =
    rw (← c.self.view_is)
    (name_found _ _ _ (rw c.name_len.ensures.value at c.split_at.ensures.front) (rw c.name_len.ensures.value at c.split_at.ensures.back)
    (some_from_test _ _ c.is_empty.ensures c.if-is_empty.false))
