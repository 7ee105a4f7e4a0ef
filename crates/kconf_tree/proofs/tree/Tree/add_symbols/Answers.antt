use Rattle.std.proofs.Common.{◌≡◌, ◌<◌, ◌+◌, ◌++◌, ◌∙◌, ℕ, List, [], ◌∷◌, length, take, sym, ap, subst, arith}
use Rattle.std.specs.List.{flat_map}
use Rattle.std.proofs.lemmas.List.{take_more, take_all, append-nil}
use Rattle.std.proofs.lemmas.List.Concat.{flat_map-append}
use Rattle.kconf_tree.specs.Shape.{symbol_at, no_symbol}
use Rattle.kconf_tree.specs.Undeclared.{undeclared_of_symbol}
use Rattle.kconf_tree.specs.Naming.{AddsNames}
use Rattle.kconf_tree.proofs.SetLaws.{adds_nothing, adds_then}
use Rattle.kconf_tree.proofs.tree.Tree.add_symbols.Goals as goal

pub loop-sym-init : goal.loop-sym-init
loop-sym-init c = adds_nothing c.args.set.now

pub loop-sym-preserved : goal.loop-sym-preserved
loop-sym-preserved c = let t = c.args.self.now.shape in let k = c.loop-sym.sym in let f = undeclared_of_symbol t in
    let l : k < length t.symbols = omega (arith, c.loop-sym-test.true) in
    let one : c.push_symbol.new.names.items ≡ f (symbol_at t k) = c.in_ok-push_symbol.ensures ∙ (ap (λ (xs : List (List ℕ)). xs ++ f c.symbol_at.result.now) c.new-names.ensures.items ∙ ap f c.symbol_at.ensures.value) in
    let adds : AddsNames c.loop-sym.set c.add_names.new.set (f (symbol_at t k)) = subst (AddsNames c.loop-sym.set c.add_names.new.set) one c.in_ok-add_names.ensures in
    let whole : flat_map f (take (k + 1) t.symbols) ≡ flat_map f (take k t.symbols) ++ f (symbol_at t k) = ap (flat_map f) (take_more t.symbols k no_symbol l)
    ∙ (flat_map-append f (take k t.symbols) (symbol_at t k ∷ []) ∙ ap (λ (xs : List (List ℕ)). flat_map f (take k t.symbols) ++ xs) (append-nil (f (symbol_at t k)))) in
    subst (AddsNames c.args.set.now c.add_names.new.set) (sym whole) (adds_then c.args.set.now c.loop-sym.set c.add_names.new.set (flat_map f (take k t.symbols)) (f (symbol_at t k)) c.loop-sym.invariant adds)

pub returns : goal.returns
returns c = let t = c.args.self.now.shape in
    subst (λ xs. AddsNames c.args.set.now c.loop-sym.set (flat_map (undeclared_of_symbol t) xs)) (take_all c.loop-sym.sym t.symbols (omega (arith, c.loop-sym-test.false))) c.loop-sym.invariant
