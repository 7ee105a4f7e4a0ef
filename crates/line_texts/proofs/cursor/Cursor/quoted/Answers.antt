use Rattle.line_texts.proofs.QuotedTexts.{no_quoted}
use Rattle.line_texts.proofs.cursor.Cursor.quoted.Goals as goal

pub returns-in_default-clause-found : goal.returns-in_default-clause-found
returns-in_default-clause-found c =
    no_quoted _ c.loop-ahead.text.items _ c.loop-ahead.invariant c.loop-ahead-test.ensures.other
    (rw c.loop-ahead-test.ensures.stays at c.in_default.ensures.none)
