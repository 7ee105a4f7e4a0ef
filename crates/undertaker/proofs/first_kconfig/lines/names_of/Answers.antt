use Rattle.std.proofs.Common.{ℕ, suc, List, [], map, drop, drop-cons, Bor, ap, true, arith}
use Rattle.undertaker.specs.FirstKconfig.Form.{names_from}
use Rattle.undertaker.proofs.FirstKconfig.LinesLemmas.{word_refused}
use Rattle.undertaker.proofs.first_kconfig.lines.names_of.Goals as goal

pub returns-then-not-branch : goal.returns-then-not-branch
returns-then-not-branch c =
    let is = ap (λ (xs : List (Bor (List ℕ))). map (λ t. t.now) xs) (drop-cons c.args.words.now c.loop-word.word-index (record { ref_ptr = (0, 0); now = [] }) (omega arith)) in
    word_refused c.loop-word.names c.takes_word.new.names c.loop-word.wants_name c.in_ok-takes_word.field-0 _ (map (λ t. t.now) (drop (suc c.loop-word.word-index) c.args.words.now)) _
    (names_from true (map (λ t. t.now) c.args.words.now)) c.if-not-branch.true is c.in_ok-takes_word.ensures c.loop-word.invariant
