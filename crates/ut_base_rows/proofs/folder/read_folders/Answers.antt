use Rattle.std.proofs.Common.{◌∷◌, ◌++◌, ◌+◌, drop, refl, []}
use Rattle.ut_base.proofs.PlanLaws.{lacks_plan, plan_on, plan_out}
use Rattle.ut_base.proofs.ReadingLaws.{exit_is, first_left, leads_end, leads_start, reads_memory, reads_ok}
use Rattle.std.proofs.lemmas.List.{drop_all}
use Rattle.ut_base_rows.specs.Errors.{folder_errors}
use Rattle.ut_base_rows.specs.Folders.{folder_plan, folders_plan}
use Rattle.ut_base_rows.proofs.folder.read_folders.Goals as goal

pub loop-folder-init : goal.loop-folder-init
loop-folder-init g c = rw c.new-texts.ensures leads_start

pub returns-in_err-text : goal.returns-in_err-text
returns-in_err-text g c =
    let left = first_left c.args.folders.now c.loop-folder.folder-index _ c.loop-folder-test.true c.folder-item.is in
    plan_out folder_errors (λ text. folders_plan (c.loop-folder.texts ++ text ∷ []) (drop (c.loop-folder.folder-index + 1) c.args.folders.now))
    (folder_plan c.folder-item.result) (exit_is c.from_residual.ensures.1) (rw left at c.loop-folder.invariant) c.in_err-text.ensures

pub returns-in-Err : goal.returns-in-Err
returns-in-Err g c =
    let left = first_left c.args.folders.now c.loop-folder.folder-index _ c.loop-folder-test.true c.folder-item.is in
    leads_end
    (plan_on folder_errors (λ text. folders_plan (c.loop-folder.texts ++ text ∷ []) (drop (c.loop-folder.folder-index + 1) c.args.folders.now))
    (folder_plan c.folder-item.result) (rw left at c.loop-folder.invariant) c.in_ok-text.ensures)
    (reads_memory (lacks_plan _))

pub loop-folder-preserved : goal.loop-folder-preserved
loop-folder-preserved g c =
    let left = first_left c.args.folders.now c.loop-folder.folder-index _ c.loop-folder-test.true c.folder-item.is in
    rw c.in-Ok.ensures
    (plan_on folder_errors (λ text. folders_plan (c.loop-folder.texts ++ text ∷ []) (drop (c.loop-folder.folder-index + 1) c.args.folders.now))
    (folder_plan c.folder-item.result) (rw left at c.loop-folder.invariant) c.in_ok-text.ensures)

pub returns : goal.returns
returns g c =
    let none = drop_all c.loop-folder.folder-index c.args.folders.now c.loop-folder-test.false in
    leads_end (rw none at c.loop-folder.invariant) (reads_ok refl)
