use Rattle.std.proofs.Common.{◌∙◌, ap, sym}
use Rattle.std.proofs.lemmas.Result.{on_ok_weaker}
use Rattle.kconf_progress.specs.Kept.{of_choice}
use Rattle.kconf_progress.proofs.ApartLaws.{choice_taken, no_choice}
use Rattle.kconf_progress.proofs.progress.Progress.choice_line.Goals as goal

pub returns-in-Some : goal.returns-in-Some
returns-in-Some c =
    let p = c.args.self.now in
    on_ok_weaker c.of_choice.result
    (λ same. same ∙ ap (λ q. of_choice q c.in-Some.choice c.args.line) c.in-Some.ensures.left ∙ choice_taken p c.args.line c.in-Some.choice p.entry (sym c.in-Some.ensures.taken)) c.of_choice.ensures

pub returns-in-None : goal.returns-in-None
returns-in-None c =
    let p = c.args.self.now in
    c.in-None.ensures.left ∙ no_choice p c.args.line p.entry (sym c.in-None.ensures.taken)
