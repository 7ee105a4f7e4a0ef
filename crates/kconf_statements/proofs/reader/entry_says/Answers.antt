use Rattle.kconf_statements.proofs.SaidLaws.{entry_adds, entry_fits, said_nothing}
use Rattle.kconf_statements.proofs.reader.entry_says.Goals as goal

pub returns-in-Some-clause-adds : goal.returns-in-Some-clause-adds
returns-in-Some-clause-adds c = λ line before.
    entry_adds c.args.root.now c.args.words.now line before c.in-Some.word c.in-Some.rest.now c.entry_after.result c.requires (c.in-Some.ensures c.args.root.now) c.entry_after.ensures

pub returns-in-Some-clause-fits : goal.returns-in-Some-clause-fits
returns-in-Some-clause-fits c = λ owner. entry_fits c.args.root.now c.in-Some.word c.in-Some.rest.now owner c.entry_after.result c.entry_after.ensures

pub returns-in-None-clause-adds : goal.returns-in-None-clause-adds
returns-in-None-clause-adds c = λ line before. said_nothing c.args.root.now c.args.words.now line before c.requires (c.in-None.ensures c.args.root.now)
