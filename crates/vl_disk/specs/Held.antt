-- Files that a disk shares.
use Rattle.std.specs.Prelude.{◌≡◌, ℕ, List, Option}
use Rattle.std.specs.Option.{ForSome}
use Rattle.vl_disk.specs.DiskState.{bytes_at}

-- two files, where both are told, have the same bytes in this range; behind its end a file has none
abbrev pub AgreeAt : ℕ → ℕ → Option (List ℕ) → Option (List ℕ) → Type 0
AgreeAt place len left right = ForSome left (λ l. ForSome right (λ r. bytes_at place len l ≡ bytes_at place len r))
