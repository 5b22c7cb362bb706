use Rattle.std.proofs.Common.{◌≡◌, ◌+◌, ◌≤◌, ◌++◌, ℕ, List, length, Some}
use Rattle.vl_script_model.specs.Input.{HasNoLineEnd}
use Rattle.vl_script_model.specs.Exchanges.{KeepsUp}
use Rattle.vl_replay.proofs.input.lines.read_line.Given as goal

-- the line so far, the buffer and what the source has left are what they had before; the line so far has no end;
-- where no answer was owed when the source was last asked, none is now
abbrev pub invariant-loop-line : goal.invariant-loop-line
invariant-loop-line g l =
    let left = g.S.Source.left in
    let asked = g.S.Source.asked in
    record {
      told : (had : List ℕ) → left l.fn.source ≡ Some had → (rest : List ℕ) × (left l.source ≡ Some rest)
          × (l.fn.buffer ++ had ≡ l.line.items ++ (l.buffer ++ rest));
      unended : HasNoLineEnd l.line.items;
      keeps_up : (had : List ℕ) → left l.fn.source ≡ Some had → KeepsUp (l.fn.buffer ++ had) (asked l.fn.source) 0
          → KeepsUp (l.fn.buffer ++ had) (asked l.source) 0;
      spent : length l.line.items + (length l.buffer + g.S.Source.budget l.source) ≤ length l.fn.buffer + g.S.Source.budget l.fn.source;
      steady : g.S.Source.faults l.source ≡ g.S.Source.faults l.fn.source;
    }

abbrev pub decreases-loop-line : goal.decreases-loop-line
decreases-loop-line g l = g.S.Source.budget l.source
