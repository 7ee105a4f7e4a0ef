use Rattle.std.proofs.Common.{◌∙◌, ap, sym}
use Rattle.std.proofs.lemmas.Result.{on_ok_weaker}
use Rattle.kconf_progress.specs.Kept.{of_config}
use Rattle.kconf_progress.proofs.ApartLaws.{config_taken, no_config}
use Rattle.kconf_progress.proofs.progress.Progress.config_line.Goals as goal

pub returns-in-Some : goal.returns-in-Some
returns-in-Some c =
    let p = c.args.self.now in
    on_ok_weaker c.of_config.result
    (λ same. same ∙ ap (λ q. of_config q c.in-Some.config c.args.line) c.in-Some.ensures.left ∙ config_taken p c.args.line c.in-Some.config p.entry (sym c.in-Some.ensures.taken)) c.of_config.ensures

pub returns-in-None : goal.returns-in-None
returns-in-None c =
    let p = c.args.self.now in
    c.in-None.ensures.left ∙ no_config p c.args.line p.entry (sym c.in-None.ensures.taken)
