use Rattle.std.proofs.Common.{◌≡◌, ◌++◌, drop}
use Rattle.std.specs.List.{AllByRecursion}
use Rattle.vl_manifest.specs.Edits as spelling
use Rattle.vl_model.specs.Formats.{manifest_format}
use Rattle.vl_manifest.proofs.writer.edits_body.Given as goal

-- the edits that are still to be written stand behind what was written, and only they may still not fit
abbrev pub invariant-loop-edit : goal.invariant-loop-edit
invariant-loop-edit l =
    (l.body.items ++ spelling.edits_bytes (drop l.edit-index l.edits) ≡ spelling.edits_body l.edits)
    × (AllByRecursion (spelling.IsEdit manifest_format) (drop l.edit-index l.edits)
    → AllByRecursion (spelling.IsEdit manifest_format) l.edits)
