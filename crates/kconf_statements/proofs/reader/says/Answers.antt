use Rattle.kconf_statements.proofs.SaidLaws.{attribute_adds}
use Rattle.kconf_statements.proofs.reader.says.Goals as goal

pub returns-in-Some-clause-adds : goal.returns-in-Some-clause-adds
returns-in-Some-clause-adds c = λ line before h.
    attribute_adds c.args.root.now c.args.words.now line before c.in-Some.attribute c.in-Some.rest.now c.attribute_says.result c.in-Some.ensures (c.attribute_says.ensures.0 line before h)

pub returns-in-Some-clause-fits : goal.returns-in-Some-clause-fits
returns-in-Some-clause-fits c = c.attribute_says.ensures.1

pub returns-in-None-clause-adds : goal.returns-in-None-clause-adds
returns-in-None-clause-adds c = λ line before h. c.entry_says.ensures.adds line before

pub returns-in-None-clause-fits : goal.returns-in-None-clause-fits
returns-in-None-clause-fits c = c.entry_says.ensures.fits c.args.owner
