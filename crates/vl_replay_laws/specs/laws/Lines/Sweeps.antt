-- What a sweep leaves of merges and passes, and what lines of passes leave of the layout.
use Rattle.std.proofs.Common.{◌≡◌, ℕ, List, refl}
use Rattle.std.specs.Prelude.{Option, None, Some}
use Rattle.vl_engine_laws.specs.Lasts.{Lasts}
use Rattle.vl_engine_model.specs.Relocation.{Candidate, Pass}
use Rattle.vl_engine_model.specs.Rulings.Sweep.{sweep_ruling, sweep_unless}
use Rattle.vl_engine_model.specs.Store.Commits.{history_in}
use Rattle.vl_engine_model.specs.Store.Dispatch.{batch_by, found_by, sweep_by}
use Rattle.vl_engine_model.specs.Store.Lines.{Name}
use Rattle.vl_engine_model.specs.Store.Things as things
use Rattle.vl_engine_model.specs.Store.Things.{AJob, APass, ATransaction, AView, Thing}
use Rattle.vl_engine_model.specs.declared.file_name.FileName.{FileName}
use Rattle.vl_engine_model.specs.declared.layout.Layout.{Layout}
use Rattle.vl_model.specs.History.{History}
use Rattle.vl_seglog.specs.declared.sealed.SealedLog.{SealedLog}
use Rattle.vl_engine_model.specs.Relocation as relocation
use Rattle.vl_replay_laws.specs.laws.Merges.Keeping.{KeepsMerges, KeepsPasses, same_jobs, same_passes}

-- it leaves merges and passes alone
pub sweep_keeps_merges : (s : things.State) → KeepsMerges s (sweep_by s (sweep_ruling s.layout (history_in s.commits)))
sweep_keeps_merges s = record { job = of s.layout.halted; jobs = same_jobs s.things s.things refl }
  where
    of : (halted : Option FileName) → (sweep_unless halted None s.layout (history_in s.commits)).layout.job ≡ s.layout.job
    of (Some file) = refl
    of None = refl

pub sweep_keeps_passes : (s : things.State) → KeepsPasses s (sweep_by s (sweep_ruling s.layout (history_in s.commits)))
sweep_keeps_passes s = record { pass = of s.layout.halted; names = same_passes s.things s.things refl }
  where
    of : (halted : Option FileName) → (sweep_unless halted None s.layout (history_in s.commits)).layout.pass ≡ s.layout.pass
    of (Some file) = refl
    of None = refl

-- and a log over which a pass goes
pub sweep_lasts : {H : Type 0} (bytes : H → Option (List ℕ)) (log : SealedLog H) (l : Layout) (h : History) → Lasts bytes log l
    → Lasts bytes log (sweep_ruling l h).layout
sweep_lasts bytes log l h lasts = of l.halted
  where
    of : (halted : Option FileName) → Lasts bytes log (sweep_unless halted None l h).layout
    of (Some file) = lasts
    of None = record { still = lasts.still; below = lasts.below }

-- ---- batches

-- a batch leaves the layout
pub batch_layout : (s : things.State) (name : Name) (o : Option Thing) → (batch_by s name o).state.layout ≡ s.layout
batch_layout s name None = refl
batch_layout s name (Some (ATransaction t b)) = refl
batch_layout s name (Some (AView v b)) = refl
batch_layout s name (Some (AJob job made)) = refl
batch_layout s name (Some (APass pass (Some batch))) = refl
batch_layout s name (Some (APass pass None)) = of (relocation.next_batch pass).0
  where
    of : (found : Option (List Candidate)) → (found_by s name (relocation.next_batch pass) found).state.layout ≡ s.layout
    of None = refl
    of (Some batch) = refl
