use Rattle.std.proofs.Common.{◌≡◌, ◌≤◌, ◌+◌, length, vec_len}
use Rattle.vl_front.specs.Noting.{noted_keys}
use Rattle.vl_front.proofs.note.note_all.Given as goal

abbrev pub invariant-loop-key : goal.invariant-loop-key
invariant-loop-key l =
    (l.recent.named ≡ noted_keys l.number l.yielded l.initial.recent.named)
    × (vec_len l.fn.keys ≤ l.recent.room + length l.yielded)
