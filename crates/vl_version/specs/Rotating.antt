-- What stands behind the rotation of a version.
use Rattle.std.specs.Prelude.{◌≡◌, ℕ, List, [], ◌∷◌, ◌++◌, Option}
use Rattle.vl_seglog.specs.declared.sealed.SealedLog.{SealedLog}
use Rattle.vl_version.specs.Shared.{AreSameLevels, AreSameLogs}
use Rattle.vl_version.specs.declared.version.Version.{Version}

-- What took commits is the memtable of the newest frozen log, which is this one, of so many bytes. An empty memtable takes
-- commits, and the log is the last of the sealed ones.
pub record IsRotated {H : Type 0} (bytes_of : H → Option (List ℕ)) (version : Version H) (length : ℕ) (log : SealedLog H)
    (next : Version H) : Type 0 where
  pub active : next.active ≡ record { entries = []; lengths = [] }
  pub frozen : next.behind.frozen.items
      ≡ record { number = log.number; length = length; memtable = version.active } ∷ version.behind.frozen.items
  pub levels : AreSameLevels bytes_of version.behind.levels next.behind.levels
  pub logs : AreSameLogs bytes_of (version.behind.logs.items ++ log ∷ []) next.behind.logs.items
