use Rattle.std.proofs.Common.{◌≡◌, ◌∷◌, [], ◌++◌, List, ℕ, true, rules, ap, ◌∙◌}
use Rattle.undertaker.specs.FirstKconfig.Form.{is_name}
use Rattle.undertaker.proofs.FirstKconfig.LinesLemmas.{takes_name}
use Rattle.undertaker.proofs.first_kconfig.lines.takes_word.Goals as goal

pub returns : goal.returns
returns c = λ ws.
    let named : is_name c.args.word.now ≡ true = search rules in
    let kept : c.push.new.self ≡ c.args.names.now ++ c.args.word.now ∷ [] = c.in_ok-push.ensures.ok ∙ ap (λ (w : List ℕ). c.args.names.now ++ w ∷ []) c.in_ok-name_text.ensures in
    rw c.if-not-wants_name.false (takes_name c.args.word.now c.args.names.now c.push.new.self named kept ws)
