use Rattle.std.proofs.Common.{◌≡◌, ◌++◌, sym, subst}
use Rattle.std.specs.Prelude.{OnOk}
use Rattle.ut_case.specs.declared.word.Word.{Word}
use Rattle.ut_report.specs.Lines.{word_text}
use Rattle.undertaker.proofs.report.add_word.Goals as goal

pub returns-in-Dead : goal.returns-in-Dead
returns-in-Dead c =
    let at : Word → Type 0 = λ w. OnOk c.add_class.result (c.add_class.new.text.items ≡ c.args.text.now.items ++ word_text 0 w) in
    subst at (sym c.in-Dead.is) c.add_class.ensures

pub returns-in-Undead : goal.returns-in-Undead
returns-in-Undead c =
    let at : Word → Type 0 = λ w. OnOk c.add_class-in-Undead.result (c.add_class-in-Undead.new.text.items ≡ c.args.text.now.items ++ word_text 0 w) in
    subst at (sym c.in-Undead.is) c.add_class-in-Undead.ensures
