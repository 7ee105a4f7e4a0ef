-- What is fed in pieces is fed as one.
use Rattle.std.proofs.Common.{◌≡◌, ℕ, List, ◌++◌, fold, ap, sym, ◌∙◌}
use Rattle.std.proofs.lemmas.List.Concat.{flat_map-append}
use Rattle.std.specs.Hash as fed
use Rattle.std.specs.Hash.{fed_then}
use Rattle.kconf_tree.specs.Feeding.{byte_writes}

pub fed_bytes : {S : Type 0} (write : S → List ℕ → S) (s t u : S) (xs ys : List ℕ) → t ≡ fold write s (byte_writes xs) → u ≡ fold write t (byte_writes ys) → u ≡ fold write s (byte_writes (xs ++ ys))
fed_bytes write s t u xs ys p q = fed_then write s t u (byte_writes xs) (byte_writes ys) p q ∙ ap (fold write s) (sym (flat_map-append fed.u8 xs ys))
