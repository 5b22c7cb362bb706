use Rattle.std.proofs.Common.{◌≡◌, drop}
use Rattle.vl_manifest.specs.States as states
use Rattle.vl_manifest.proofs.version_builder.VersionBuilder.all_applied.Given as goal

-- the edits that are still to be applied make of the builder what all of them make of the first one
abbrev pub invariant-loop-edit : goal.invariant-loop-edit
invariant-loop-edit l = states.all_applied (drop l.edit-index l.edits) l.builder ≡ states.all_applied l.edits l.fn.self
