-- What is so of a merge that waits for its install, so that it can be handed in to the engine.
use Rattle.std.specs.Prelude.{◌≡◌, ℕ, true, is_some, Option, IsSome, All}
use Rattle.std.specs.Option.{ForSome, option_map}
use Rattle.vl_compact.specs.declared.files.Lent.{Lent}
use Rattle.vl_compact.specs.declared.files.Synced.{Synced}
use Rattle.vl_compact.specs.declared.job.Job.{Job}
use Rattle.vl_disk.specs.declared.watched.Watched.{Ghosts}
use Rattle.vl_disk.specs.declared.writer.Writer.{Ghosts as Writers}
use Rattle.vl_steps.specs.Installing.{numbers_in}
use Rattle.vl_engine_laws.specs.declared.open.OpenMerge.{OpenMerge}
use Rattle.vl_model.specs.Numbers.{has}
use Rattle.vl_space.specs.Removing.{are_distinct}
use Rattle.vl_replay_laws.specs.declared.planned.Planned.{Planned}

-- It has all of its merge. Its files are ones that were lent to the open merge, each with a number of its own; and its writers tell
-- them where the disk tells its files.
pub record MayHandIn {D V H W : Type 0} (g : Ghosts D) (w : Writers W) (disk : D) (merging : Option OpenMerge) {s : _} (job : Job V H W s)
    : Type 0 where
  pub ended : job.ended ≡ true
  pub is_open : is_some merging ≡ true
  pub drawn : ForSome merging (λ (o : OpenMerge). All (λ (n : ℕ). has n o.lent.items ≡ true) (numbers_in job))
  pub distinct : are_distinct (numbers_in job) ≡ true
  pub tells : ForSome (g.told disk) (λ _. All (λ (t : Synced W s). IsSome (w.file t.writer)) job.made.items)
  pub leavings_tell : ForSome (g.told disk) (λ _. All (λ (f : Lent W s). IsSome (w.file f.writer)) job.leavings.items)

-- so it is of the one that waits
abbrev pub CanHandIn : {D V H W : Type 0} → Ghosts D → Writers W → D → Option OpenMerge → {s : _} → Option (Planned V H W s) → Type 0
CanHandIn g w disk merging {s} planned = ForSome planned (λ (p : Planned _ _ _ s). MayHandIn g w disk merging p.job)

-- The files that were lent to the open merge are the same, whatever was moved meanwhile.
abbrev pub KeepsLent : (old new : Option OpenMerge) → Type 0
KeepsLent old new = option_map (λ (o : OpenMerge). o.lent) new ≡ option_map (λ (o : OpenMerge). o.lent) old
