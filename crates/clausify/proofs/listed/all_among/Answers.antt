use Rattle.std.proofs.Common.{List, map, ◌++◌, ap, ◌∙◌}
use Rattle.ut_logic.specs.declared.item.Item.{Item}
use Rattle.ut_logic.specs.Truth.{mentioned, together}
use Rattle.clausify.proofs.KnownLaws.{told_among}
use Rattle.clausify.proofs.listed.all_among.Goals as goal

pub returns : goal.returns
returns c = told_among c.args.fs.now c.args.known.now.keys c.deref.result.now
    (c.deref.ensures.value ∙ (c.in_ok-mention_each.ensures ∙ ap (λ (items : List Item). items ++ together (map mentioned c.args.fs.now)) c.new-mentioned.ensures.items))
    c.each_known.result c.each_known.ensures
