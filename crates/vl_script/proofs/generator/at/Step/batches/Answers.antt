use Rattle.std.proofs.Common.{◌≡◌, ◌≢◌, ℕ, zero, suc, ◌-◌, ◌++◌, List, refl, arith}
use Rattle.vl_script.specs.declared.line.Line.{Line}
use Rattle.vl_script.specs.Generator.{batch_lines}
use Rattle.vl_script.proofs.generator.at.Step.batches.Goals as goal

one_batch_more : (count : ℕ) (later : List Line) → count ≢ 0 → batch_lines (suc (count - 1)) ++ later ≡ batch_lines count ++ later
one_batch_more zero later some = absurd (some refl)
one_batch_more (suc n) later some = let e : suc n - 1 ≡ n = omega arith in rw e refl

pub returns-then-count-eq0 : goal.returns-then-count-eq0
returns-then-count-eq0 c round x later = rw c.if-count-eq0.true refl

pub returns : goal.returns
returns c round x later = one_batch_more c.args.count later c.if-count-eq0.false
