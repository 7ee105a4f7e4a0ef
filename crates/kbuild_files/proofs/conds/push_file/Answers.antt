use Rattle.std.proofs.Common.{◌≡◌, ◌∙◌, ap, [], ◌∷◌}
use Rattle.kbuild_paths.specs.Steps.{with_path}
use Rattle.kbuild_files.proofs.SourceLaws.{inserted}
use Rattle.kbuild_files.proofs.conds.push_file.Goals as goal
use Rattle.kbuild_files.proofs.conds.push_file.Goals.{in-Ok, in-Err}

pub returns-clause-ok : goal.returns-clause-ok
returns-clause-ok c = elim c.match-insert.branch [
  | in-Ok w ↦ rw (w.result-is, w.conds-is) (record {
    cond = record { paths = c.add.new.self };
    is_named = inserted c.args.names.now.keys c.insert.new.self.keys c.args.name c.requires w.in-Ok.ensures.keys;
    has_cond = c.in_ok-push.ensures.items;
    one_path = c.in_ok-add.ensures ∙ ap (λ paths. with_path paths c.args.path) c.new-paths.ensures;
  })
  | in-Err w ↦ rw w.result-is tt
]
