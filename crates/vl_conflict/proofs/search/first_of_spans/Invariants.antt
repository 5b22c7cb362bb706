use Rattle.std.proofs.Common.{◌≡◌, take}
use Rattle.std.specs.List.{filter}
use Rattle.vl_model.specs.Conflicts.{first_of}
use Rattle.vl_conflict.specs.Notes.{lent}
use Rattle.vl_conflict.specs.Recent.{is_late_within_any}
use Rattle.vl_conflict.proofs.search.first_of_spans.Given as goal

abbrev pub invariant-loop-span : goal.invariant-loop-span
invariant-loop-span l = lent l.first ≡ first_of (filter (is_late_within_any l.number (take l.span-index l.spans)) l.notes.named)
