use Rattle.kconf_progress.proofs.AddLaws.{finished}
use Rattle.kconf_progress.proofs.progress.Progress.finish.Goals as goal

pub returns-clause-entries : goal.returns-clause-entries
returns-clause-entries c = λ before s.
    finished before c.args.self c.end_entry.new.self c.into_entries.result s c.in_ok-end_entry.ensures c.into_entries.ensures.configs c.into_entries.ensures.choices
