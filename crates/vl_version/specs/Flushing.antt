-- What stands behind the flush of a version's oldest frozen log.
use Rattle.std.specs.Prelude.{◌≡◌, ◌<◌, ℕ, List, Option, vec_capacity, vec_len}
use Rattle.vl_version.specs.Oldest.{but_oldest}
use Rattle.vl_version.specs.Shared.{AreSameLevels, AreSameLogs}
use Rattle.vl_version.specs.declared.flush.FlushedVersion.{FlushedVersion}
use Rattle.vl_version.specs.declared.version.Version.{Version}

-- All is as in the version but for the oldest frozen log, which is gone. The table of its entries isn't there yet.
pub record IsFlushed {H : Type 0} (bytes_of : H → Option (List ℕ)) (version : Version H) (next : FlushedVersion H) : Type 0 where
  pub active : next.active ≡ version.active
  pub frozen : next.frozen.items ≡ but_oldest version.behind.frozen.items
  pub levels : AreSameLevels bytes_of version.behind.levels next.levels
  pub logs : AreSameLogs bytes_of version.behind.logs.items next.logs.items
  -- there is room for that table
  pub room : vec_len next.levels.newest < vec_capacity next.levels.newest
