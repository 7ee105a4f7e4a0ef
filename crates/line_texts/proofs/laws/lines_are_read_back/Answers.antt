use Rattle.line_texts.proofs.LineLaws.{lines_of-text_of}
use Rattle.line_texts.proofs.laws.lines_are_read_back.Goals as goal

pub returns : goal.returns
returns c = lines_of-text_of
