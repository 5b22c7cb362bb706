use Rattle.std.proofs.Common.{◌≡◌, ◌≤◌, ◌<◌, ◌^◌, length}
use Rattle.std.specs.FinMap.{entries}
use Rattle.vl_reads.specs.Sees.{SeesAlone}
use Rattle.vl_model.specs.History.{History, contents_at}
use Rattle.vl_script_model.specs.Contents.{AreRead}
use Rattle.vl_replay_laws.specs.laws.Lines.AllRows.{read_left}
use Rattle.vl_replay.proofs.contents.all_rows.Given as goal

-- what the view sees it still sees, and some first rows are read
abbrev pub invariant-loop-read : goal.invariant-loop-read
invariant-loop-read g l = record {
  still : (h : History) → SeesAlone g.H.HeldFile.bytes l.fn.view h → SeesAlone g.H.HeldFile.bytes l.view h;
  number : l.view.number ≡ l.fn.view.number;
  first : (h : History) → SeesAlone g.H.HeldFile.bytes l.fn.view h
      → AreRead (entries (contents_at h l.fn.view.number)) l.rows.items l.read;
  most : l.read ≤ length l.rows.items;
  fits : length l.rows.items < 2 ^ 64;
}

abbrev pub decreases-loop-read : goal.decreases-loop-read
decreases-loop-read g l = read_left l.read (length l.rows.items)
