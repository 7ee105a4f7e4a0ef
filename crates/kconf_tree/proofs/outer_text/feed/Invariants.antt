-- The bytes so far are fed.
use Rattle.std.proofs.Common.{◌≡◌, fold, take}
use Rattle.kconf_tree.specs.Feeding.{byte_writes}
use Rattle.kconf_tree.proofs.outer_text.feed.Given as goal

abbrev pub invariant-loop-byte : goal.invariant-loop-byte
invariant-loop-byte g l = l.state ≡ fold g.H.Hasher.write l.initial.state (byte_writes (take l.byte-index l.bytes))
