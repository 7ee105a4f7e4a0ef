use Rattle.std.proofs.Common.{◌≡◌, ◌⊎◌, ◌∙◌, ap, subst, Err}
use Rattle.ut_base.specs.Names.{folder_of}
use Rattle.kbuild_folders.specs.declared.bad.KbuildBad.TheVariants as bad
use Rattle.kbuild_cond.specs.Reading.{conds_of}
use Rattle.kbuild_cond.proofs.CondLaws.{reads_kbuild, reads_refused}
use Rattle.kbuild_cond.proofs.reading.read_kbuild.Goals as goal

pub returns-in_err-texts : goal.returns-in_err-texts
returns-in_err-texts g c =
    reads_refused c.args.root.now c.folder_of-base.result.now (c.folder_of-base.ensures ∙ ap folder_of (c.as_bytes.ensures.value ∙ c.text.ensures.text)) c.from_residual.ensures.1 c.in_err-texts.ensures.reads

pub returns : goal.returns
returns g c =
    reads_kbuild c.args.root.now c.folder_of-base.result.now (c.folder_of-base.ensures ∙ ap folder_of (c.as_bytes.ensures.value ∙ c.text.ensures.text)) c.in_ok-texts.texts.reads c.in_ok-texts.ensures.reads
    (subst (λ texts. (c.conds_from.result ≡ conds_of c.folder_of-base.result.now texts) ⊎ (c.conds_from.result ≡ Err bad.Oom)) c.as_slice.ensures c.conds_from.ensures)
