use Rattle.std.proofs.Common.{◌≡◌, List, map, take}
use Rattle.vl_collect.proofs.still.still_moved.Given as goal
use Rattle.std.specs.List.{All, AllByRecursion, Contains}
use Rattle.vl_model.specs.Formats.{log_format}
use Rattle.vl_seglog.specs.Moves.{AreOnce, IsMoved}
use Rattle.vl_collect.specs.Passing.{HasEntries}
use Rattle.vl_engine_model.specs.Relocation.{Candidate, moved_of}
use Rattle.vl_model.specs.declared.entry.Entry.{Entry}
use Rattle.vl_model.specs.declared.log_frame.Moved.{Moved}

abbrev pub invariant-loop-found : goal.invariant-loop-found
invariant-loop-found g l = record {
  moved : (entries : List Entry) → g.V.Sources.fits l.sources l.initial.looks → HasEntries g.V.Sources.has l.sources entries
      → l.moved.items ≡ moved_of entries l.segment l.last (take l.found-index l.batch);
  lawful : AllByRecursion (IsMoved log_format) l.moved.items;
  once : AreOnce l.moved.items;
  among : All (λ (m : Moved). Contains (map (λ (c : Candidate). c.moved) l.batch) m) l.moved.items;
  fits : g.V.Sources.fits l.sources l.initial.looks → g.V.Sources.fits l.sources l.looks;
  steady : g.V.Sources.faults l.looks ≡ g.V.Sources.faults l.initial.looks;
}
