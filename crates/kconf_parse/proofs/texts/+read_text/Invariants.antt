-- What is kept stands for the lines so far, and those that are left make the whole.
use Rattle.std.proofs.Common.{length}
use Rattle.ut_base.specs.Reading.{stand}
use Rattle.kconf_statements.specs.EntryLines.{Before}
use Rattle.kconf_progress.specs.Progress.{Stands}
use Rattle.kconf_parse.proofs.TextLaws.{Within}
use Rattle.kconf_parse.proofs.texts.+read_text.Given as goal

abbrev pub decreases-read_text : goal.decreases-read_text
decreases-read_text g l = l.room

abbrev pub invariant-lines : goal.invariant-lines
invariant-lines g l = (before : Before) → Stands before l.fn.progress
    → Within l.setting.values.now l.setting.root.now l.room l.file before (stand g.F.Files l.fn.files) l.fn.meter l.cursor (stand g.F.Files l.files) l.meter l.progress

abbrev pub decreases-lines : goal.decreases-lines
decreases-lines g l = length l.cursor
