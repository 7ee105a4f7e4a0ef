use Rattle.std.proofs.Common.{◌∙◌, ap, sym, ◌++◌}
use Rattle.std.specs.Prelude.{codes}
use Rattle.ut_words.proofs.ListLines.{is_symbol_line, name_bytes, no_symbol}
use Rattle.ut_words.proofs.list_lines.symbol_of.Goals as goal

pub returns-then-not-word : goal.returns-then-not-word
returns-then-not-word c = λ name h. c.if-not-word.ensures.other name (c.new-cursor.ensures ∙ h.text)

pub returns-then-not-is_symbol : goal.returns-then-not-is_symbol
returns-then-not-is_symbol c =
    no_symbol _ _ (sym c.new-cursor.ensures ∙ c.if-not-word.ensures.passed ∙ ap (λ r. codes "CONFIG_" ++ r) (sym c.rest-name.ensures)) (sym c.if-not-is_symbol.ensures)

pub of_name-requires : goal.of_name-requires
of_name-requires c = name_bytes c.rest-name.result.now (sym c.if-not-is_symbol.ensures)

pub returns : goal.returns
returns c =
    is_symbol_line _ _ _ (sym c.new-cursor.ensures ∙ c.if-not-word.ensures.passed ∙ ap (λ r. codes "CONFIG_" ++ r) (sym c.rest-name.ensures)) (sym c.if-not-is_symbol.ensures) c.in_ok-of_name.ensures
