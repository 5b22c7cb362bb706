use Rattle.std.proofs.Common.{◌≡◌, ◌-◌, ◌<◌, ◌^◌, drop}
use Rattle.vl_memtable.specs.Heads.{AreBytes, number_with}
use Rattle.vl_memtable.proofs.heads.head_of.Given as goal

-- the bytes that are still to be taken stand behind what was taken
abbrev pub invariant-loop-i : goal.invariant-loop-i
invariant-loop-i l = record {
  number : number_with l.head (8 - l.i) (drop l.i l.key) ≡ number_with 0 8 l.key;
  bytes : AreBytes l.i l.key;
  fits : l.head < 256 ^ l.i;
}
