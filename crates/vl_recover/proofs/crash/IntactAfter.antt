-- What a crash leaves of an opened store is intact.
use Rattle.std.proofs.Common.{subst}
use Rattle.vl_disk.specs.Crash.{Image}
use Rattle.vl_disk.specs.DiskState.{DiskState}
use Rattle.vl_disk.specs.Moments.{HoldsThroughout, holds_weaker}
use Rattle.vl_disk.specs.declared.watched.Watched.{Ghosts}
use Rattle.vl_manifest.specs.declared.state.ManifestState.{ManifestState}
use Rattle.vl_recover.specs.crash.Alike.{OpensAsOf}
use Rattle.vl_recover.specs.crash.Held.{HoldsStore, view_of}
use Rattle.vl_recover.specs.declared.prepared.Prepared.{Prepared}
use Rattle.vl_recover.specs.laws.crash.IntactLaws.{leaves_intact, left_intact}
use Rattle.vl_recover.specs.opening.Answers.{logs_then}
use Rattle.vl_recover.specs.opening.Intact.{IsIntact, LeavesIntact}
use Rattle.vl_recover.specs.repairing.Deciding.{IsPrepared}

-- at each moment, where it was so before
pub intact_throughout : {D : Type 0} (g : Ghosts D) (old new : D) (state : DiskState) → LeavesIntact state
    → HoldsThroughout g old new (OpensAsOf state) → HoldsThroughout g old new LeavesIntact
intact_throughout g old new state all through =
    holds_weaker g (OpensAsOf state) LeavesIntact old new through (λ now as_of. leaves_intact state now all as_of)

-- and at the end, where what was read is so
pub intact_after : (read : Image) (prepared : Prepared) (is : IsPrepared read prepared) (now : DiskState)
    → HoldsStore prepared.state (view_of is.finds) (logs_then is.finds) now → IsIntact read → LeavesIntact now
intact_after read prepared is now holds intact =
    left_intact is.finds now
    (subst (λ (s : ManifestState). HoldsStore s (view_of is.finds) (logs_then is.finds) now) is.state holds) intact
