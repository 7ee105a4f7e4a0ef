use Rattle.std.proofs.Common.{◌≡◌, List, ℕ, [], ◌∷◌, ◌++◌, length, set, sym, ap, subst, ◌∙◌, arith}
use Rattle.ut_logic.specs.declared.node.Node.{Node}
use Rattle.model_slice.specs.Met.{AreNoted}
use Rattle.model_slice.proofs.MetLaws.{met_symbol, met_other}
use Rattle.model_slice.proofs.met.add_new.Goals as goal

pub returns-in-Some-clause-noted : goal.returns-in-Some-clause-noted
returns-in-Some-clause-noted c = let nodes = c.args.met.now.nodes.items in let room = c.args.room.now in let others = c.args.met.now.others.keys in
    let place : c.len-place.result ≡ length nodes = omega (arith, c.len-place.ensures) in
    subst (λ (ns : List Node). AreNoted ns c.note.new.self others) (sym c.in_ok-push.ensures.items)
    (subst (λ (r : List ℕ). AreNoted (nodes ++ c.args.node ∷ []) r others) (sym (c.note.ensures ∙ ap (λ k. set room c.in-Some.sym k) place))
    (met_symbol nodes room others c.args.node c.in-Some.sym c.requires.noted (sym c.number_in.ensures ∙ c.in-Some.is)))

pub returns-in_ok-insert-in-None-clause-noted : goal.returns-in_ok-insert-in-None-clause-noted
returns-in_ok-insert-in-None-clause-noted c = let nodes = c.args.met.now.nodes.items in let room = c.args.room.now in let others = c.args.met.now.others.keys in
    subst (λ (ns : List Node). AreNoted ns room c.insert.new.self.keys) (sym c.in_ok-push.ensures.items)
    (subst (λ (os : List Node). AreNoted (nodes ++ c.args.node ∷ []) room os) (sym c.in_ok-insert-in-None.ensures.keys)
    (met_other nodes room others c.args.node c.requires.noted (sym c.number_in.ensures ∙ c.in-None.is)))
