use Rattle.std.proofs.lemmas.Bool.Decides.{Decides-eqb}
use Rattle.std.proofs.lemmas.Slice.Eq.{strip_suffix_is}
use Rattle.line_texts.proofs.tail.Tail.word.Goals as goal

pub returns-in-Some-clause-passed : goal.returns-in-Some-clause-passed
returns-in-Some-clause-passed c = rw (← c.self.view_is) (rw c.in-Some.is at (strip_suffix_is Decides-eqb c.self.inside.rest.now c.args.word.now c.strip_suffix.result c.strip_suffix.ensures.cases))

pub returns-in-None-clause-other : goal.returns-in-None-clause-other
returns-in-None-clause-other c = rw (← c.self.view_is) (rw c.in-None.is at (strip_suffix_is Decides-eqb c.self.inside.rest.now c.args.word.now c.strip_suffix.result c.strip_suffix.ensures.cases))
