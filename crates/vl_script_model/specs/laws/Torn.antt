-- Where a rotation, a flush or a change of how many versions are kept failed, what isn't durable of the disk is torn by pieces.
use Rattle.std.proofs.Common.{◌≡◌, ⊎_elim, ℕ, List, sym, ◌∙◌, subst, arith}
use Rattle.std.specs.Prelude.{Option, None, Some}
use Rattle.vl_back.specs.declared.flush.StagedFlush.{StagedFlush}
use Rattle.vl_disk.specs.DiskState.{DiskState}
use Rattle.vl_disk.specs.MadeFile.{WhileMaking}
use Rattle.vl_disk.specs.Moments.{While}
use Rattle.vl_disk.specs.declared.watched.Watched.{Ghosts}
use Rattle.vl_disk.specs.declared.name.Name.TheVariants.{Manifest}
use Rattle.vl_engine_laws.specs.FlushFacts.{WhileFlushed, WritesFlush}
use Rattle.vl_engine_laws.specs.KeepFacts.{WhileKeeping, WritesKeep}
use Rattle.vl_engine_laws.specs.Represents.{IsHeld, Represents}
use Rattle.vl_engine_laws.specs.RotateFacts.{BeginsLog, next_header, next_name}
use Rattle.vl_engine_laws.specs.declared.kept.Core.{Core}
use Rattle.vl_engine_model.specs.declared.layout.Layout.{Layout}
use Rattle.vl_manifest.specs.declared.staged.StagedEdits.{StagedEdits}
use Rattle.vl_mem.specs.laws.CrashChance.{IsTornByPieces}
use Rattle.vl_model.specs.History.{History}
use Rattle.vl_script_model.specs.laws.DiskSteps.{IsWatched}
use Rattle.vl_script_model.specs.laws.TornSteps.{flushing_torn, making_torn, settled_torn, switching_torn}

module _ {D H : Type 0} (g : Ghosts D) (watched : IsWatched g) (bytes : H → Option (List ℕ)) (core : Core H) (h : History) (l : Layout)
    (old new : D) (is : Represents bytes core (g.told old) h l) (running : l.halted ≡ None) where
  held : IsHeld core.back (g.told old) h l
  held = is.held running

  -- nothing was changed yet
  unchanged_torn : (now : DiskState) → now ≡ held.state → IsTornByPieces now
  unchanged_torn now same = subst IsTornByPieces (sym same) (settled_torn held.state held.holds.durable)

  pub rotate_torn : BeginsLog g core old new → (now : DiskState) → g.told new ≡ Some now → IsTornByPieces now
  rotate_torn begins now told =
      let told_mid : g.told begins.mid ≡ Some held.state = begins.told ∙ held.told_is in
      ⊎_elim
      (λ (early : g.states_since begins.mid (g.moment begins.mid) now). unchanged_torn now
      (watched.only_now begins.mid held.state now told_mid early))
      (λ (during : While (g.told begins.mid) (WhileMaking (next_name core) (next_header core)) now).
      making_torn held.state now (next_name core) (next_header core) held.holds.durable (during held.state told_mid))
      (begins.time.nothing_else (g.moment begins.mid) now (omega arith)
      (watched.counts_now new now (g.moment begins.mid) told begins.time.later))

  pub flush_torn : (staged : StagedFlush) → WritesFlush g core staged old new → (now : DiskState)
      → g.told new ≡ Some now → IsTornByPieces now
  flush_torn staged writes now told =
      let told_mid : g.told writes.mid ≡ Some held.state = writes.before.told ∙ held.told_is in
      ⊎_elim
      (λ (early : g.states_since writes.mid (g.moment writes.mid) now). unchanged_torn now
      (watched.only_now writes.mid held.state now told_mid early))
      (λ (during : While (g.told writes.mid) (WhileFlushed core staged) now).
      flushing_torn held.state now core.back.state.next_table staged.table.bytes.items core.back.manifest.number staged.edits.frame.items
      held.holds.durable (during held.state told_mid))
      (writes.time.nothing_else (g.moment writes.mid) now (omega arith)
      (watched.counts_now new now (g.moment writes.mid) told writes.time.later))

  pub keep_torn : (staged : StagedEdits) → WritesKeep g core staged old new → (now : DiskState) → g.told new ≡ Some now → IsTornByPieces now
  keep_torn staged writes now told =
      let told_mid : g.told writes.mid ≡ Some held.state = writes.before.told ∙ held.told_is in
      ⊎_elim
      (λ (early : g.states_since writes.mid (g.moment writes.mid) now). unchanged_torn now
      (watched.only_now writes.mid held.state now told_mid early))
      (λ (during : While (g.told writes.mid) (WhileKeeping core staged) now).
      switching_torn held.state held.holds.durable (Manifest core.back.manifest.number) staged.frame.items now (during held.state told_mid))
      (writes.time.nothing_else (g.moment writes.mid) now (omega arith)
      (watched.counts_now new now (g.moment writes.mid) told writes.time.later))
