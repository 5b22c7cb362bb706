use Rattle.std.proofs.Common.{◌≡◌, ◌++◌, length, map, vec_capacity, vec_len}
use Rattle.vl_engine.proofs.engine.open.with_levels.Given as goal

abbrev pub invariant-loop-level : goal.invariant-loop-level
invariant-loop-level g l = record {
  levels : l.all.items ≡ l.initial.all.items ++ map (λ v. v.items) l.yielded;
  long : vec_len l.all ≡ length l.yielded;
  room : vec_capacity l.all ≡ vec_capacity l.initial.all;
}
