-- What stands behind an install, but for its levels.
use Rattle.std.specs.Prelude.{◌≡◌, ℕ, List, Option}
use Rattle.vl_version.specs.Shared.{AreSameLogs}
use Rattle.vl_version.specs.declared.replace.ReplacedVersion.{ReplacedVersion}
use Rattle.vl_version.specs.declared.version.Version.{Version}

-- all but the levels is as in the version
pub record IsReplaced {H : Type 0} (bytes_of : H → Option (List ℕ)) (version : Version H) (next : ReplacedVersion H) : Type 0 where
  pub active : next.active ≡ version.active
  pub frozen : next.frozen.items ≡ version.behind.frozen.items
  pub logs : AreSameLogs bytes_of version.behind.logs.items next.logs.items
