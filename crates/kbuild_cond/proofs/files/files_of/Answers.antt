use Rattle.kbuild_folders.specs.declared.texts.TextRead.{TextRead}
use Rattle.std.proofs.Common.{◌∙◌, ap, refl, []}
use Rattle.std.specs.List.{flat_map}
use Rattle.kbuild_cond.specs.Files.{files_by, paths_at, text_ways}
use Rattle.kbuild_cond.proofs.AddingLaws.{files_end, files_lack, item_files, item_on, items_end, left_from}
use Rattle.kbuild_cond.proofs.files.files_of.Goals as goal

pub returns-in_err-from_slice : goal.returns-in_err-from_slice
returns-in_err-from_slice c = files_lack c.args.base.now (files_by c.args.base.now c.args.folders.now.files c.args.texts.now) c.from_residual.result c.from_residual.ensures.1

pub returns-in_err-files : goal.returns-in_err-files
returns-in_err-files c =
    files_lack c.args.base.now (files_by c.args.base.now c.args.folders.now.files c.args.texts.now) c.from_residual-in_err-files.result c.from_residual-in_err-files.ensures.1

pub loop-text-init : goal.loop-text-init
loop-text-init c =
    left_from (flat_map (λ (text : TextRead). text_ways c.args.base.now (paths_at c.args.folders.now.files text.folder) text) c.args.texts.now) (record { folder = c.args.base.now; files = [] }) c.in_ok-files.files
    (c.in_ok-files.ensures ∙ ap (λ f. record { folder = f; files = [] }) c.in_ok-from_slice.ensures.items)

pub returns-in_err-add_text : goal.returns-in_err-add_text
returns-in_err-add_text c =
    let ways = (λ (text : TextRead). text_ways c.args.base.now (paths_at c.args.folders.now.files text.folder) text) in
    let texts = c.args.texts.now in
    item_files ways texts c.loop-text.text-index (flat_map ways texts) (record { folder = c.args.base.now; files = [] }) c.loop-text.files c.text-item.result c.loop-text-test.true c.text-item.is
    c.args.base.now c.add_text.new.files c.in_err-add_text.field-0.0 c.from_residual-in_err-add_text.result refl c.from_residual-in_err-add_text.ensures.1 c.loop-text.invariant c.in_err-add_text.ensures

pub loop-text-preserved : goal.loop-text-preserved
loop-text-preserved c =
    let ways = (λ (text : TextRead). text_ways c.args.base.now (paths_at c.args.folders.now.files text.folder) text) in
    let texts = c.args.texts.now in
    item_on ways texts c.loop-text.text-index (flat_map ways texts) (record { folder = c.args.base.now; files = [] }) c.loop-text.files c.text-item.result c.loop-text-test.true c.text-item.is
    c.add_text.new.files c.loop-text.invariant c.in_ok-add_text.ensures

pub returns : goal.returns
returns c =
    let ways = (λ (text : TextRead). text_ways c.args.base.now (paths_at c.args.folders.now.files text.folder) text) in
    let texts = c.args.texts.now in
    files_end c.args.base.now (flat_map ways texts) c.loop-text.files
    (items_end ways texts c.loop-text.text-index (flat_map ways texts) (record { folder = c.args.base.now; files = [] }) c.loop-text.files c.loop-text-test.false c.loop-text.invariant)
