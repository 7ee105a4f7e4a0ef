use Rattle.kbuild_cond.specs.Files.{namings, namings_of}
use Rattle.kbuild_cond.proofs.NamingLaws.{list_done, list_more}
use Rattle.kbuild_cond.proofs.ways.all_namings.Goals as goal

pub loop-text-preserved : goal.loop-text-preserved
loop-text-preserved c =
    list_more (namings_of c.args.base.now) c.args.texts.now c.loop-text.text-index c.text-item.result c.loop-text.namings.items c.push_text.new.namings.items (namings c.args.base.now c.args.texts.now)
    c.loop-text-test.true c.text-item.is c.in_ok-push_text.ensures c.loop-text.invariant

pub returns : goal.returns
returns c =
    list_done (namings_of c.args.base.now) c.args.texts.now c.loop-text.text-index c.loop-text.namings.items (namings c.args.base.now c.args.texts.now) c.loop-text-test.false c.loop-text.invariant
