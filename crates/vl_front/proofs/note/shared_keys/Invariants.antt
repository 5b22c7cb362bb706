use Rattle.std.proofs.Common.{◌≡◌, take}
use Rattle.vl_front.specs.Noting.{keys_of}
use Rattle.vl_front.proofs.note.shared_keys.Given as goal

abbrev pub invariant-loop-write : goal.invariant-loop-write
invariant-loop-write l = l.keys.items ≡ keys_of (take l.write-index l.write-items)
