-- The entries of moved records, as they are put in order in front of the active memtable's.
use Rattle.std.specs.Prelude.{◌≡◌, ◌≤◌, ◌+◌, ◌++◌, true, List, length, None}
use Rattle.std.proofs.Common.{arith}
use Rattle.vl_engine_laws.specs.Known.{are_known}
use Rattle.vl_engine_laws.specs.MoveFacts.{move_entries}
use Rattle.vl_engine_laws.specs.declared.kept.Core.{Core}
use Rattle.vl_engine_laws.specs.laws.MovedLaws.{entries_count, entries_have, moved_known, sorted_new, sorted_some}
use Rattle.vl_steps.specs.Relocating.{MayMove}
use Rattle.vl_front.specs.declared.front.Front.{Front}
use Rattle.vl_memtable.specs.Contents.{IsNewTo}
use Rattle.vl_model.specs.Entries.{in_order}
use Rattle.vl_model.specs.Formats.{log_format}
use Rattle.vl_model.specs.Winners.{exact}
use Rattle.vl_model.specs.declared.entry.Entry.{Entry}
use Rattle.vl_model.specs.declared.log_frame.Moved.{Moved}
use Rattle.vl_model.specs.laws.OrderLaws.{in_order-front}

module _ {H : Type 0} (core : Core H) (moved : List Moved) (may : MayMove core moved) where
  -- In order they are new to the active memtable,
  pub staged_new : IsNewTo core.version.active.entries (in_order (move_entries core.front moved))
  staged_new = sorted_new core.version.active.entries (move_entries core.front moved)
      (entries_have (λ key version. exact core.version.active.entries key version ≡ None) log_format core.front.log.number
      (core.front.log.length + 9) moved may.new)

  -- there are some,
  pub staged_some : 1 ≤ length moved → 1 ≤ length (in_order (move_entries core.front moved))
  staged_some some =
      let count = entries_count log_format core.front.log.number core.front.log.length moved in
      sorted_some (move_entries core.front moved) (omega (arith, count, some))

  -- and with them no version is above the last commit's.
  pub staged_known : are_known core.front.oracle.last core.version.active.entries ≡ true
      → are_known core.front.oracle.last (in_order (move_entries core.front moved ++ core.version.active.entries)) ≡ true
  staged_known = moved_known log_format core.front.log.number core.front.log.length core.front.oracle.last moved
      core.version.active.entries may.known

-- what was put in order may be put in front of others as it was
pub staged_more : (front : Front) (moved : List Moved) (es : List Entry)
    → in_order (in_order (move_entries front moved) ++ es) ≡ in_order (move_entries front moved ++ es)
staged_more front moved es = in_order-front (move_entries front moved) es
