use Rattle.std.proofs.Common.{◌≡◌, ◌++◌, ◌∷◌, ◌∙◌, [], List, ℕ, ap, subst}
use Rattle.kconf_tree.specs.Feeding.{spelled_text}
use Rattle.kconf_tree.proofs.Words.{Missing, missing_front, missing_after, found_after, match_after, match_none}
use Rattle.kconf_tree.proofs.asked_comparison.AskedComparison.after.Goals as goal

pub returns-in_err-rest-2 : goal.returns-in_err-rest-2
returns-in_err-rest-2 c = let l : List ℕ = spelled_text c.args.self.now.left in let s : List ℕ = c.args.self.now.sign.now in let r : List ℕ = spelled_text c.args.self.now.right in let sp : List ℕ = 32 ∷ [] in
    let h1 : c.args.text.now ≡ l ++ c.in_ok-rest.rest.now = c.in_ok-rest.ensures in
    let m : Missing c.args.text.now (l ++ sp) = missing_after c.args.text.now l sp c.in_ok-rest.rest.now h1 c.in_err-rest-2.ensures in
    match_none c.args.text.now (l ++ sp ++ s ++ sp ++ r) c.from_residual-in_err-rest-2.result c.from_residual-in_err-rest-2.ensures (missing_front c.args.text.now (l ++ sp ++ s ++ sp) r (missing_front c.args.text.now (l ++ sp ++ s) sp (missing_front c.args.text.now (l ++ sp) s m)))

pub returns-in_err-rest-3 : goal.returns-in_err-rest-3
returns-in_err-rest-3 c = let l : List ℕ = spelled_text c.args.self.now.left in let s : List ℕ = c.args.self.now.sign.now in let r : List ℕ = spelled_text c.args.self.now.right in let sp : List ℕ = 32 ∷ [] in
    let h1 : c.args.text.now ≡ l ++ c.in_ok-rest.rest.now = c.in_ok-rest.ensures in
    let e2 : c.in_ok-rest.rest.now ≡ sp ++ c.in_ok-rest-2.rest.now = c.in_ok-rest-2.ensures in
    let h2 : c.args.text.now ≡ l ++ sp ++ c.in_ok-rest-2.rest.now = found_after c.args.text.now l sp c.in_ok-rest.rest.now c.in_ok-rest-2.rest.now h1 e2 in
    let gone : Missing c.in_ok-rest-2.rest.now s = subst (Missing c.in_ok-rest-2.rest.now) c.as_bytes.ensures.value c.in_err-rest-3.ensures in
    let m : Missing c.args.text.now (l ++ sp ++ s) = missing_after c.args.text.now (l ++ sp) s c.in_ok-rest-2.rest.now h2 gone in
    match_none c.args.text.now (l ++ sp ++ s ++ sp ++ r) c.from_residual-in_err-rest-3.result c.from_residual-in_err-rest-3.ensures (missing_front c.args.text.now (l ++ sp ++ s ++ sp) r (missing_front c.args.text.now (l ++ sp ++ s) sp m))

pub returns-in_err-rest-4 : goal.returns-in_err-rest-4
returns-in_err-rest-4 c = let l : List ℕ = spelled_text c.args.self.now.left in let s : List ℕ = c.args.self.now.sign.now in let r : List ℕ = spelled_text c.args.self.now.right in let sp : List ℕ = 32 ∷ [] in
    let h1 : c.args.text.now ≡ l ++ c.in_ok-rest.rest.now = c.in_ok-rest.ensures in
    let e2 : c.in_ok-rest.rest.now ≡ sp ++ c.in_ok-rest-2.rest.now = c.in_ok-rest-2.ensures in
    let h2 : c.args.text.now ≡ l ++ sp ++ c.in_ok-rest-2.rest.now = found_after c.args.text.now l sp c.in_ok-rest.rest.now c.in_ok-rest-2.rest.now h1 e2 in
    let e3 : c.in_ok-rest-2.rest.now ≡ s ++ c.in_ok-rest-3.rest.now = c.in_ok-rest-3.ensures ∙ ap (λ xs. xs ++ c.in_ok-rest-3.rest.now) c.as_bytes.ensures.value in
    let h3 : c.args.text.now ≡ l ++ sp ++ s ++ c.in_ok-rest-3.rest.now = found_after c.args.text.now (l ++ sp) s c.in_ok-rest-2.rest.now c.in_ok-rest-3.rest.now h2 e3 in
    let m : Missing c.args.text.now (l ++ sp ++ s ++ sp) = missing_after c.args.text.now (l ++ sp ++ s) sp c.in_ok-rest-3.rest.now h3 c.in_err-rest-4.ensures in
    match_none c.args.text.now (l ++ sp ++ s ++ sp ++ r) c.from_residual-in_err-rest-4.result c.from_residual-in_err-rest-4.ensures (missing_front c.args.text.now (l ++ sp ++ s ++ sp) r m)

pub returns : goal.returns
returns c = let l : List ℕ = spelled_text c.args.self.now.left in let s : List ℕ = c.args.self.now.sign.now in let r : List ℕ = spelled_text c.args.self.now.right in let sp : List ℕ = 32 ∷ [] in
    let h1 : c.args.text.now ≡ l ++ c.in_ok-rest.rest.now = c.in_ok-rest.ensures in
    let e2 : c.in_ok-rest.rest.now ≡ sp ++ c.in_ok-rest-2.rest.now = c.in_ok-rest-2.ensures in
    let h2 : c.args.text.now ≡ l ++ sp ++ c.in_ok-rest-2.rest.now = found_after c.args.text.now l sp c.in_ok-rest.rest.now c.in_ok-rest-2.rest.now h1 e2 in
    let e3 : c.in_ok-rest-2.rest.now ≡ s ++ c.in_ok-rest-3.rest.now = c.in_ok-rest-3.ensures ∙ ap (λ xs. xs ++ c.in_ok-rest-3.rest.now) c.as_bytes.ensures.value in
    let h3 : c.args.text.now ≡ l ++ sp ++ s ++ c.in_ok-rest-3.rest.now = found_after c.args.text.now (l ++ sp) s c.in_ok-rest-2.rest.now c.in_ok-rest-3.rest.now h2 e3 in
    let e4 : c.in_ok-rest-3.rest.now ≡ sp ++ c.in_ok-rest-4.rest.now = c.in_ok-rest-4.ensures in
    let h4 : c.args.text.now ≡ l ++ sp ++ s ++ sp ++ c.in_ok-rest-4.rest.now = found_after c.args.text.now (l ++ sp ++ s) sp c.in_ok-rest-3.rest.now c.in_ok-rest-4.rest.now h3 e4 in
    match_after c.args.text.now (l ++ sp ++ s ++ sp) r c.in_ok-rest-4.rest.now c.after-5.result h4 c.after-5.ensures
