use Rattle.case_laws.proofs.standing.parts_complete.Goals as goal

pub returns : goal.returns
returns c = λ t part conf made values closed right. c.part_is_completed.ensures t made.order part conf made.ordered.made made.ordered.ordered values closed right
