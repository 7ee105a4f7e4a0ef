use Rattle.std.proofs.Common.{◌∙◌}
use Rattle.clausify.proofs.InSet.{is_in-any}
use Rattle.clausify.proofs.listed.has.Goals as goal

pub returns : goal.returns
returns c = c.contains.ensures ∙ is_in-any c.args.known.now.keys c.args.item
