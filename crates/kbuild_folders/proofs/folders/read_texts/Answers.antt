use Rattle.std.proofs.Common.{◌≡◌, ◌∙◌, ◌≤◌, ap, refl, [], ◌∷◌, ◌++◌, length, arith}
use Rattle.ut_base.specs.Plans.{◌then◌}
use Rattle.ut_base.proofs.PlanLaws.{plan_on, plan_out}
use Rattle.ut_base.proofs.ReadingLaws.{exit_is, leads_start}
use Rattle.kbuild_folders.specs.Errors.{kbuild_errors}
use Rattle.kbuild_folders.specs.Folders.{mentioned, most_folders, reads_of, rest_plan, with_names}
use Rattle.kbuild_folders.specs.Texts.{folder_plan, root_plan}
use Rattle.kbuild_folders.proofs.ReadLaws.{after_folder, all_read, as_plan, first_left, folders_more, lacks_out, left_after, more_left, most_is, next_left, none_left}
use Rattle.kbuild_folders.proofs.folders.read_texts.Goals as goal

pub returns-in_err-text-clause-reads : goal.returns-in_err-text-clause-reads
returns-in_err-text-clause-reads g c =
    plan_out kbuild_errors (λ text. rest_plan c.args.base.now most_folders (text ∷ [])) (root_plan c.args.root.now) (ap reads_of (exit_is c.from_residual.ensures.1)) leads_start c.in_err-text.ensures

pub returns-in_err-new-clause-reads : goal.returns-in_err-new-clause-reads
returns-in_err-new-clause-reads g c =
    lacks_out (rest_plan c.args.base.now most_folders (c.in_ok-text.text ∷ [])) (ap reads_of (exit_is c.from_residual-in_err-new.ensures.1))
    (plan_on kbuild_errors (λ text. rest_plan c.args.base.now most_folders (text ∷ [])) (root_plan c.args.root.now) leads_start c.in_ok-text.ensures)

pub returns-in_err-push-clause-reads : goal.returns-in_err-push-clause-reads
returns-in_err-push-clause-reads g c =
    lacks_out (rest_plan c.args.base.now most_folders (c.in_ok-text.text ∷ [])) (ap reads_of (exit_is c.from_residual-in_err-push.ensures.1))
    (plan_on kbuild_errors (λ text. rest_plan c.args.base.now most_folders (text ∷ [])) (root_plan c.args.root.now) leads_start c.in_ok-text.ensures)

pub loop-folder-init : goal.loop-folder-init
loop-folder-init g c =
    let text = c.in_ok-text.text in
    let reads = c.in_ok-push.ensures.reads ∙ ap (λ l. l ++ text ∷ []) c.new-2.ensures in
    record {
      leads = as_plan (rest_plan c.args.base.now most_folders (text ∷ [])) (left_after c.args.base.now c.push.new.self.reads) (first_left c.args.base.now c.push.new.self.reads text reads)
          (plan_on kbuild_errors (λ t. rest_plan c.args.base.now most_folders (t ∷ [])) (root_plan c.args.root.now) leads_start c.in_ok-text.ensures);
      folders = folders_more c.args.base.now [] c.push.new.self.reads text ([] ∷ []) c.push.new.self.folders refl reads
          (c.in_ok-push.ensures.folders ∙ ap (λ f. with_names f (mentioned c.args.base.now text)) c.in_ok-new.ensures);
    }

pub returns-in_err-text-2-clause-reads : goal.returns-in_err-text-2-clause-reads
returns-in_err-text-2-clause-reads g c =
    let base = c.args.base.now in
    let reads = c.loop-folder.texts.reads in
    let folder = c.in-Some.folder.now in
    plan_out kbuild_errors (after_folder base reads) (folder_plan base folder) (ap reads_of (exit_is c.from_residual-in_err-text-2.ensures.1))
    (as_plan (left_after base reads) (folder_plan base folder then after_folder base reads)
    (next_left base reads c.loop-folder.texts.folders folder c.loop-folder.invariant.folders (rw c.len.ensures at c.in-Some.ensures) (omega (arith, most_is, c.len.ensures, c.len.type_inv)))
    c.loop-folder.invariant.leads) c.in_err-text-2.ensures

pub returns-in_err-push-2-clause-reads : goal.returns-in_err-push-2-clause-reads
returns-in_err-push-2-clause-reads g c =
    let base = c.args.base.now in
    let reads = c.loop-folder.texts.reads in
    let folder = c.in-Some.folder.now in
    lacks_out (after_folder base reads c.in_ok-text-2.text) (ap reads_of (exit_is c.from_residual-in_err-push-2.ensures.1))
    (plan_on kbuild_errors (after_folder base reads) (folder_plan base folder)
    (as_plan (left_after base reads) (folder_plan base folder then after_folder base reads)
    (next_left base reads c.loop-folder.texts.folders folder c.loop-folder.invariant.folders (rw c.len.ensures at c.in-Some.ensures) (omega (arith, most_is, c.len.ensures, c.len.type_inv)))
    c.loop-folder.invariant.leads) c.in_ok-text-2.ensures)

pub loop-folder-preserved : goal.loop-folder-preserved
loop-folder-preserved g c =
    let base = c.args.base.now in
    let reads = c.loop-folder.texts.reads in
    let folder = c.in-Some.folder.now in
    let new = c.push-in-Some.new.self in
    record {
      leads = as_plan (after_folder base reads c.in_ok-text-2.text) (left_after base new.reads) (more_left base reads new.reads c.in_ok-text-2.text c.in_ok-push-2.ensures.reads)
          (plan_on kbuild_errors (after_folder base reads) (folder_plan base folder)
          (as_plan (left_after base reads) (folder_plan base folder then after_folder base reads)
          (next_left base reads c.loop-folder.texts.folders folder c.loop-folder.invariant.folders (rw c.len.ensures at c.in-Some.ensures) (omega (arith, most_is, c.len.ensures, c.len.type_inv)))
          c.loop-folder.invariant.leads) c.in_ok-text-2.ensures);
      folders = folders_more base reads new.reads c.in_ok-text-2.text c.loop-folder.texts.folders new.folders c.loop-folder.invariant.folders c.in_ok-push-2.ensures.reads c.in_ok-push-2.ensures.folders;
    }

pub returns-clause-reads : goal.returns-clause-reads
returns-clause-reads g c =
    let base = c.args.base.now in
    let reads = c.loop-folder.texts.reads in
    all_read reads
    (as_plan (left_after base reads) _
    (none_left base reads c.loop-folder.texts.folders c.loop-folder.invariant.folders (rw c.len.ensures at c.in_default.ensures) (omega (arith, most_is, c.len.ensures, c.len.type_inv)))
    c.loop-folder.invariant.leads)
