-- Lists in which all is n are the configuration in which all is n.
use Rattle.std.proofs.Common.{◌≡◌, ◌⊎◌, inl, inr, ℕ, ◌<◌, ◌≤◌, false, get_or, replicate, ap, ◌∙◌}
use Rattle.std.proofs.lemmas.Bool.{cases_lt}
use Rattle.std.proofs.lemmas.List.{length-replicate, get_or-replicate, get_or_past}
use Rattle.ut_logic.specs.declared.trit.Trit.{Trit}
use Rattle.ut_logic.specs.declared.trit.Trit.TheVariants.{N}
use Rattle.ut_logic.specs.Trit.{rank}
use Rattle.complete_conf.specs.declared.config.Config.{Config}
use Rattle.complete_conf.specs.Config.{all_n, by_lists}

same_at : {X : Type 0} (n k : ℕ) (x : X) → get_or (replicate n x) k x ≡ x
same_at n k x = by (cases_lt k n)
  where
    by : (k < n) ⊎ (n ≤ k) → get_or (replicate n x) k x ≡ x
    by (inl l) = get_or-replicate n k x x l
    by (inr l) = get_or_past (replicate n x) k x (rw (length-replicate n x) l)

pub none_is : (c : Config) (a b e : ℕ) → c.values ≡ replicate a N → c.modes ≡ replicate b N → c.outers ≡ replicate e false → by_lists c ≡ all_n
none_is c a b e v m o = let value : (k : ℕ) → rank (get_or c.values k N) ≡ 0 = λ k. ap (λ xs. rank (get_or xs k N)) v ∙ ap rank (same_at a k N) in
    let mode : (i : ℕ) → rank (get_or c.modes i N) ≡ 0 = λ i. ap (λ xs. rank (get_or xs i N)) m ∙ ap rank (same_at b i N) in
    let outer : (k : ℕ) → get_or c.outers k false ≡ false = λ k. ap (λ xs. get_or xs k false) o ∙ same_at e k false in
    λ z. record { value = λ k. value k z; mode = λ i. mode i z; outer = λ k. outer k z; undeclared = λ name. false }
