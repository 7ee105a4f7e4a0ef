use Rattle.std.proofs.Common.{◌≡◌, List, subst}
use Rattle.std.specs.Prelude.{IfOk}
use Rattle.kconf_tree.specs.Gathered.{gathered}
use Rattle.ut_case.specs.declared.word.Word.{Word}
use Rattle.undertaker.specs.Lines.{lines_on}
use Rattle.undertaker.proofs.ReportLemmas.{on_words}
use Rattle.undertaker.proofs.gather.lines_of_blocks.Goals as goal

pub returns : goal.returns
returns c =
    let at : List Word → Type 0 = λ ws. IfOk c.verdict_lines.result (λ lines. lines.items ≡ lines_on c.args.name.now ws) in
    on_words (gathered c.args.entries.now) c.args.name.now c.args.list.now c.in_ok-words.words.items c.verdict_lines.result c.in_ok-words.ensures
    (subst at c.as_slice.ensures.value c.verdict_lines.ensures)
