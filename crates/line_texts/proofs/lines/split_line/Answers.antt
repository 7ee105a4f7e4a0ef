use Rattle.std.proofs.Common.{◌≡◌, ◌-◌, [], ◌∷◌, length, take, drop, ap, ◌∙◌, sym, arith}
use Rattle.std.proofs.lemmas.List.{drop_all, take_rest}
use Rattle.line_texts.specs.Lines.{lines_of}
use Rattle.line_texts.proofs.LineLaws.{line_and_rest, last_line, plain_before, plain_whole, cut_at_newline}
use Rattle.line_texts.proofs.lines.split_line.Goals as goal

pub returns-in-Some-clause-lines : goal.returns-in-Some-clause-lines
returns-in-Some-clause-lines c =
    ap lines_of (cut_at_newline c.args.text.now c.in-Some.newline c.in-Some.ensures)
    ∙ line_and_rest _ _ (plain_before c.args.text.now c.in-Some.newline c.in-Some.ensures)

pub returns-in-Some-clause-plain : goal.returns-in-Some-clause-plain
returns-in-Some-clause-plain c = plain_before c.args.text.now c.in-Some.newline c.in-Some.ensures

pub returns-in-None-clause-lines : goal.returns-in-None-clause-lines
returns-in-None-clause-lines c =
    let text = c.args.text.now in
    let none : take (length text - length text) (drop (length text) text) ≡ [] = take_rest text (length text) ∙ drop_all (length text) text (omega arith) in
    last_line text c.requires (plain_whole text c.in-None.ensures) ∙ ap (λ t. text ∷ lines_of t) (sym none)

pub returns-in-None-clause-plain : goal.returns-in-None-clause-plain
returns-in-None-clause-plain c = plain_whole c.args.text.now c.in-None.ensures
