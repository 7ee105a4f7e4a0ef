use Rattle.std.proofs.Common.{◌≡◌, ◌++◌, sym, subst}
use Rattle.std.specs.Prelude.{OnOk}
use Rattle.ut_case.specs.declared.word.Word.{Word}
use Rattle.ut_report.specs.Lines.{word_text}
use Rattle.report_lines.proofs.words.push_word.Goals as goal

pub returns-in-Dead : goal.returns-in-Dead
returns-in-Dead c =
    let at : Word → Type 0 = λ w. OnOk c.push_class.result (c.push_class.new.text.items ≡ c.args.text.now.items ++ word_text c.args.steps w) in
    subst at (sym c.in-Dead.is) c.push_class.ensures

pub returns-in-Undead : goal.returns-in-Undead
returns-in-Undead c =
    let at : Word → Type 0 = λ w. OnOk c.push_class-in-Undead.result (c.push_class-in-Undead.new.text.items ≡ c.args.text.now.items ++ word_text c.args.steps w) in
    subst at (sym c.in-Undead.is) c.push_class-in-Undead.ensures
