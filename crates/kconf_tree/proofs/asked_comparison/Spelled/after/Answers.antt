use Rattle.std.proofs.Common.{◌≡◌, ◌++◌, List, ℕ, ap, subst, ◌∙◌, MatchOption}
use Rattle.kconf_tree.proofs.Words.{Missing, missing_front, missing_after, found_after, match_after, match_none}
use Rattle.kconf_tree.proofs.asked_comparison.Spelled.after.Goals as goal

pub returns-in_err-rest-2 : goal.returns-in_err-rest-2
returns-in_err-rest-2 c = let q : List ℕ = c.args.self.now.quote.now in let w : List ℕ = c.args.self.now.word.now in
    let h1 : c.args.text.now ≡ q ++ c.in_ok-rest.rest.now = c.in_ok-rest.ensures ∙ ap (λ xs. xs ++ c.in_ok-rest.rest.now) c.as_bytes.ensures.value in
    let gone : Missing c.in_ok-rest.rest.now w = subst (Missing c.in_ok-rest.rest.now) c.as_bytes-2.ensures.value c.in_err-rest-2.ensures in
    let m : Missing c.args.text.now (q ++ w) = missing_after c.args.text.now q w c.in_ok-rest.rest.now h1 gone in
    match_none c.args.text.now (q ++ w ++ q) c.from_residual-in_err-rest-2.result c.from_residual-in_err-rest-2.ensures (missing_front c.args.text.now (q ++ w) q m)

pub returns : goal.returns
returns c = let q : List ℕ = c.args.self.now.quote.now in let w : List ℕ = c.args.self.now.word.now in
    let h1 : c.args.text.now ≡ q ++ c.in_ok-rest.rest.now = c.in_ok-rest.ensures ∙ ap (λ xs. xs ++ c.in_ok-rest.rest.now) c.as_bytes.ensures.value in
    let e2 : c.in_ok-rest.rest.now ≡ w ++ c.in_ok-rest-2.rest.now = c.in_ok-rest-2.ensures ∙ ap (λ xs. xs ++ c.in_ok-rest-2.rest.now) c.as_bytes-2.ensures.value in
    let h2 : c.args.text.now ≡ q ++ w ++ c.in_ok-rest-2.rest.now = found_after c.args.text.now q w c.in_ok-rest.rest.now c.in_ok-rest-2.rest.now h1 e2 in
    match_after c.args.text.now (q ++ w) q c.in_ok-rest-2.rest.now c.after-3.result h2 (subst (λ (x : List ℕ). MatchOption c.after-3.result (Missing c.in_ok-rest-2.rest.now x) (λ y. c.in_ok-rest-2.rest.now ≡ x ++ y.now)) c.as_bytes-3.ensures.value c.after-3.ensures)
