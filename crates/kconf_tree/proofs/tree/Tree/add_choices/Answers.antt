use Rattle.std.proofs.Common.{◌≡◌, ◌<◌, ◌+◌, ◌++◌, ◌∙◌, ℕ, List, [], ◌∷◌, length, take, sym, ap, subst, arith}
use Rattle.std.specs.List.{flat_map}
use Rattle.std.proofs.lemmas.List.{take_more, take_all, append-nil}
use Rattle.std.proofs.lemmas.List.Concat.{flat_map-append}
use Rattle.kconf_tree.specs.Shape.{choice_at, no_choice}
use Rattle.kconf_tree.specs.Undeclared.{undeclared_of_choice}
use Rattle.kconf_tree.specs.Naming.{AddsNames}
use Rattle.kconf_tree.proofs.SetLaws.{adds_nothing, adds_then}
use Rattle.kconf_tree.proofs.tree.Tree.add_choices.Goals as goal

pub loop-choice-init : goal.loop-choice-init
loop-choice-init c = adds_nothing c.args.set.now

pub loop-choice-preserved : goal.loop-choice-preserved
loop-choice-preserved c = let t = c.args.self.now.shape in let k = c.loop-choice.choice in let f = undeclared_of_choice t in
    let l : k < length t.choices = omega (arith, c.loop-choice-test.true) in
    let one : c.push_choice.new.names.items ≡ f (choice_at t k) = c.in_ok-push_choice.ensures ∙ (ap (λ (xs : List (List ℕ)). xs ++ f c.choice_at.result.now) c.new-names.ensures.items ∙ ap f c.choice_at.ensures.value) in
    let adds : AddsNames c.loop-choice.set c.add_names.new.set (f (choice_at t k)) = subst (AddsNames c.loop-choice.set c.add_names.new.set) one c.in_ok-add_names.ensures in
    let whole : flat_map f (take (k + 1) t.choices) ≡ flat_map f (take k t.choices) ++ f (choice_at t k) = ap (flat_map f) (take_more t.choices k no_choice l)
    ∙ (flat_map-append f (take k t.choices) (choice_at t k ∷ []) ∙ ap (λ (xs : List (List ℕ)). flat_map f (take k t.choices) ++ xs) (append-nil (f (choice_at t k)))) in
    subst (AddsNames c.args.set.now c.add_names.new.set) (sym whole) (adds_then c.args.set.now c.loop-choice.set c.add_names.new.set (flat_map f (take k t.choices)) (f (choice_at t k)) c.loop-choice.invariant adds)

pub returns : goal.returns
returns c = let t = c.args.self.now.shape in
    subst (λ xs. AddsNames c.args.set.now c.loop-choice.set (flat_map (undeclared_of_choice t) xs)) (take_all c.loop-choice.choice t.choices (omega (arith, c.loop-choice-test.false))) c.loop-choice.invariant
