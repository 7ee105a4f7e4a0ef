-- A list that is shared out in turn, one item to each worker, and the answers that come back; this project's own rule.
use Rattle.std.specs.Prelude.{◌≡◌, ℕ, zero, suc, ◌-◌, List, [], ◌∷◌}
use Rattle.std.specs.List.{AllZip}

-- what falls to one of `workers` workers, where `before` items go to others first
abbrev pub stripe : {A : Type 0} → ℕ → ℕ → List A → List A
stripe workers before [] = []
stripe workers zero (x ∷ xs) = x ∷ stripe workers (workers - 1) xs
stripe workers (suc before) (x ∷ xs) = stripe workers before xs

-- each of the stripes has the answers for one worker, from worker `from` up to the one before `last`
abbrev pub AreStripes : {A B S : Type 0} → (A → B → Type 0) → ℕ → ℕ → ℕ → List A → List S → (S → List B) → Type 0
AreStripes meets workers from last jobs [] answers = from ≡ last
AreStripes meets workers from last jobs (s ∷ rest) answers =
    AllZip meets (stripe workers from jobs) (answers s) × AreStripes meets workers (suc from) last jobs rest answers
