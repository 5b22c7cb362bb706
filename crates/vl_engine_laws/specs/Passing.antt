-- A log over which a pass goes, and a layout that may have gone on since.
use Rattle.std.specs.Prelude.{◌≡◌, ℕ, List, Option, Some}
use Rattle.std.specs.List.{AllByRecursion}
use Rattle.vl_engine_laws.specs.Files.{IsLogFile}
use Rattle.vl_engine_laws.specs.Laid.{IsLogOf}
use Rattle.vl_engine_laws.specs.Pointed.{segment_at}
use Rattle.vl_engine_model.specs.Tidy.{sealed}
use Rattle.vl_engine_model.specs.declared.layout.Layout.{Layout}
use Rattle.vl_engine_model.specs.declared.segment.Segment.{Segment}
use Rattle.vl_seglog.specs.declared.sealed.SealedLog.{SealedLog}

-- where the layout still has a log of this number among its sealed ones, it is the same log
abbrev pub IsStillIn : {H : Type 0} → (H → Option (List ℕ)) → SealedLog H → Layout → Type 0
IsStillIn bytes log l = (s : Segment) → segment_at (sealed l) log.number ≡ Some s → IsLogOf bytes log s

-- the logs over which a pass may go can be read frame by frame
abbrev pub AreReadable : Layout → Type 0
AreReadable l = AllByRecursion IsLogFile l.flushed
