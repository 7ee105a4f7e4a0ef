use Rattle.std.proofs.Common.{◌≡◌, ◌∙◌, ap, sym, subst, length, ◌≤◌}
use Rattle.kbuild_paths.specs.Paths.{Conds}
use Rattle.kbuild_files.specs.Tables.{PushesFile, count_of, files_of, place_in}
use Rattle.kbuild_files.proofs.SourceLaws.{count_pushed, count_there, way_pushed, way_there}
use Rattle.kbuild_files.proofs.conds.FileConds.add.Goals as goal

pub returns-in_ok-add-in-Some-clause-added : goal.returns-in_ok-add-in-Some-clause-added
returns-in_ok-add-in-Some-clause-added c =
    rw (← c.self.view_is)
    (ap (λ files. record { folder = c.self.inside.folder.items; files = files })
    (way_there c.args.name.now c.self.inside.names.keys c.self.inside.conds.items c.in-Some.place c.index_mut-cond.result.now c.self.invariant.0 c.in-Some.ensures c.index_mut-cond.ensures.value
    c.args.path (record { paths = c.add.new.self }) c.in_ok-add-in-Some.ensures))

pub returns-in_ok-add-in-Some-clause-count : goal.returns-in_ok-add-in-Some-clause-count
returns-in_ok-add-in-Some-clause-count c =
    c.len.ensures
    ∙ count_there c.args.name.now c.self.inside.names.keys c.self.inside.conds.items c.in-Some.place c.index_mut-cond.result.now c.self.invariant.0 c.in-Some.ensures c.index_mut-cond.ensures.value
    c.args.path (record { paths = c.add.new.self })

pub returns-in_ok-push_file-in-None-clause-added : goal.returns-in_ok-push_file-in-None-clause-added
returns-in_ok-push_file-in-None-clause-added c =
    let keys = c.self.inside.names.keys in
    let is = c.in_ok-name-in-None.ensures.items in
    rw (← c.self.view_is, ← is)
    (ap (λ files. record { folder = c.self.inside.folder.items; files = files })
    (way_pushed keys c.push_file.new.names.keys c.self.inside.conds.items c.push_file.new.conds.items c.in_ok-name-in-None.name c.args.path c.self.invariant.0
    (subst (λ name. length keys ≤ place_in keys name) (sym is) c.in-None.ensures) c.in_ok-push_file-in-None.ensures.ok))

pub returns-in_ok-push_file-in-None-clause-count : goal.returns-in_ok-push_file-in-None-clause-count
returns-in_ok-push_file-in-None-clause-count c =
    let keys = c.self.inside.names.keys in
    let is = c.in_ok-name-in-None.ensures.items in
    rw (← is)
    (count_pushed keys c.push_file.new.names.keys c.self.inside.conds.items c.push_file.new.conds.items c.in_ok-name-in-None.name c.args.path c.self.invariant.0
    (subst (λ name. length keys ≤ place_in keys name) (sym is) c.in-None.ensures) c.in_ok-push_file-in-None.ensures.ok)
