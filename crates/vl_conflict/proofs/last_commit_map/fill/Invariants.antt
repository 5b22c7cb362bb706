use Rattle.std.proofs.Common.{◌≡◌, ◌≤◌, ◌+◌, ◌^◌, vec_len}
use Rattle.vl_conflict.proofs.last_commit_map.fill.Given as goal

abbrev pub invariant-loop : goal.invariant-loop
invariant-loop l =
    (vec_len l.initial.spare ≤ vec_len l.spare) × (l.counter ≤ vec_len l.spare)
    × (l.made + vec_len l.initial.spare ≡ l.initial.made + vec_len l.spare) × (l.made ≤ 2 ^ 62)
