use Rattle.std.proofs.Common.{sym, ap, ◌∙◌}
use Rattle.std.specs.List.{position_or_len}
use Rattle.ut_text.specs.Text.{text_eq}
use Rattle.cpp_blocks.specs.Mentions.{names_of}
use Rattle.cpp_blocks.proofs.FirstsLaws.{absent}
use Rattle.cpp_blocks.proofs.blocks.Blocks.number_of.Goals as goal

pub returns-in-None : goal.returns-in-None
returns-in-None c = c.len.ensures.len
    ∙ (absent (text_eq c.args.name.now) c.self.inside.names.keys (sym c.in-None.is ∙ c.get_index_of.ensures.index)
    ∙ ap (position_or_len (text_eq c.args.name.now)) (c.self.invariant.names_are ∙ ap names_of c.self.view_is))
