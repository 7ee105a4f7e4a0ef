use Rattle.std.proofs.Common.{◌≡◌, ◌∙◌, ap, sym, subst, Some, get_or}
use Rattle.kbuild_files.proofs.SourceLaws.{named_absent, named_there}
use Rattle.kbuild_files.proofs.conds.FileConds.named.Goals as goal

pub returns-in-Some : goal.returns-in-Some
returns-in-Some c =
    rw (← c.self.view_is)
    (named_there c.args.name.now c.self.inside.names.keys c.self.inside.conds.items c.in-Some.place c.index.result.now c.self.invariant.0 c.in-Some.ensures c.index.ensures)

pub returns-in-None : goal.returns-in-None
returns-in-None c = rw (← c.self.view_is) (sym (named_absent c.args.name.now c.self.inside.names.keys c.self.inside.conds.items c.in-None.ensures))
