use Rattle.std.proofs.Common.{◌++◌, ◌∷◌, [], List, ℕ, fold, ap, ◌∙◌}
use Rattle.kconf_tree.specs.Feeding.{byte_writes, spelled_text}
use Rattle.kconf_tree.proofs.FeedLaws.{fed_bytes}
use Rattle.kconf_tree.proofs.asked_comparison.AskedComparisonHash.hash.Goals as goal

pub returns : goal.returns
returns g c = let w = g.H.Hasher.write in let q = c.args.self.now in let sp : List ℕ = 32 ∷ [] in
    let l : List ℕ = spelled_text q.left in let s : List ℕ = q.sign.now in
    let s0 = c.args.state.now in let s2 = c.feed-2.new.state in let s3 = c.feed-3.new.state in let s4 = c.feed-4.new.state in
    let h2 = fed_bytes w s0 c.feed.new.state s2 l sp c.feed.ensures c.feed-2.ensures in
    let h3 = fed_bytes w s0 s2 s3 (l ++ sp) s h2 (c.feed-3.ensures ∙ ap (λ xs. fold w s2 (byte_writes xs)) c.as_bytes.ensures.value) in
    let h4 = fed_bytes w s0 s3 s4 (l ++ sp ++ s) sp h3 c.feed-4.ensures in
    fed_bytes w s0 s4 c.feed-5.new.state (l ++ sp ++ s ++ sp) (spelled_text q.right) h4 c.feed-5.ensures
