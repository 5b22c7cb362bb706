use Rattle.std.proofs.Common.{◌≡◌, ◌≢◌, ℕ, zero, suc, ◌+◌, ◌-◌, ◌++◌, refl, arith}
use Rattle.vl_script.specs.Generator.{lines_behind, next_number, round_lines}
use Rattle.vl_script.specs.Steps.{lines_at}
use Rattle.vl_script.proofs.generator.at.At.behind.Goals as goal

one_round_more : (left round x : ℕ) → left ≢ 0
    → round_lines (round + 1) (next_number x) ++ lines_behind (left - 1) (round + 1) (next_number x) ≡ lines_behind left round x
one_round_more zero round x some = absurd (some refl)
one_round_more (suc n) round x some = let e : suc n - 1 ≡ n = omega arith in rw e refl

pub returns : goal.returns
returns c = rw c.next_number.ensures (one_round_more c.args.left c.args.round c.args.number c.if-left-eq0.false)
