use Rattle.ut_text.proofs.NameTexts.{front_name}
use Rattle.cpp_read.proofs.words.split_name.Goals as goal

pub returns-clause-bytes : goal.returns-clause-bytes
returns-clause-bytes c = rw (c.split_at.ensures.front, c.name_len.ensures.value) (front_name c.args.text.now)
