-- What an engine keeps of where space comes back from, and what the calls of a pass come to as the rulings on them have it.
use Rattle.std.specs.Prelude.{◌≡◌, ◌==◌, ℕ, true, List, map, Option, None, Some, IsSome, Result, Ok, Err}
use Rattle.std.specs.Arc.{arc_value}
use Rattle.std.specs.List.{AllByRecursion, filter}
use Rattle.std.specs.Option.{ForSome, option_map}
use Rattle.vl_model.specs.declared.point.Point.{Point}
use Rattle.vl_collect.specs.Passing.{Begins, IsPass, IsWholeFrom}
use Rattle.vl_collect.specs.declared.pass.Pass.{Pass}
use Rattle.vl_compact.specs.declared.files.Synced.{Synced}
use Rattle.vl_engine_laws.specs.Lasts.{Lasts}
use Rattle.vl_engine_laws.specs.Passing.{AreReadable}
use Rattle.vl_engine_laws.specs.Represents.{StandsFor}
use Rattle.vl_engine_laws.specs.declared.kept.Core.{Core}
use Rattle.vl_space.specs.declared.fails.PickFail.{PickFail}
use Rattle.vl_space.specs.declared.fails.PickFail.TheVariants as fails
use Rattle.vl_space.specs.declared.kept.Collecting.{Collecting}
use Rattle.vl_engine_model.specs.Decides.{Answered, NoMemory, Outcome}
use Rattle.vl_engine_model.specs.Relocation as layout
use Rattle.vl_engine_model.specs.Rulings.Pick.{PickAnswer, Picked}
use Rattle.vl_engine_model.specs.Rulings.Pick as pick
use Rattle.vl_engine_model.specs.Tidy.{log_numbers, sealed}
use Rattle.vl_engine_model.specs.declared.job.OpenPass.{OpenPass}
use Rattle.vl_engine_model.specs.declared.layout.Layout.{Layout}
use Rattle.vl_engine_model_laws.specs.Calls.{Call, EndPass, Flush, Install, Pick, Rotate}
use Rattle.vl_model.specs.History.{History}
use Rattle.vl_model.specs.Numbers.{has}
use Rattle.vl_seglog.specs.declared.sealed.SealedLog.{SealedLog}
use Rattle.vl_stats.specs.Live.{Switches, bytes_of}
use Rattle.vl_stats.specs.Tallies.{IsTally, Tallied}
use Rattle.vl_table.specs.Kept.{Files}
use Rattle.vl_table.specs.KeptBlocks.{AreKept}
use Rattle.vl_table.specs.Tables.{shape_of}
use Rattle.vl_table.specs.declared.block_reader.BlockReader.{BlockReader}
use Rattle.vl_table.specs.declared.table.Table.{Table}
use Rattle.vl_version.specs.Bases as bases
use Rattle.vl_version.specs.Bases.{HasSources}
use Rattle.vl_version.specs.Needed.{head_of}
use Rattle.vl_version.specs.Shared.{IsSameLog}
use Rattle.vl_version.specs.Sources.{AreRising, log_in}
use Rattle.vl_version.specs.declared.base.Base.{Base}

-- ---- what is kept

-- each of these logs is a sealed one of the layout, which isn't retired
abbrev pub AreSealed : {H : Type 0} → List (SealedLog H) → Layout → Type 0
AreSealed {H} logs l = AllByRecursion (λ (log : SealedLog H). has log.number (log_numbers (sealed l)) ≡ true) logs

-- What is kept of live bytes is the layout's. Until it is made for the first time no log is retired, so that the version, which has
-- each sealed log, has no other.
abbrev pub Tallies : {H : Type 0} → List (SealedLog H) → Option Tallied → Layout → Type 0
Tallies logs None l = AreSealed logs l
Tallies logs (Some tally) l = IsTally tally l

-- the log over which the layout's pass is open
abbrev pub passed_in : Layout → Option ℕ
passed_in l = option_map (λ (p : OpenPass). p.segment) l.pass

-- What the engine keeps of the pass that is open, and of how much of each sealed log is live, is what the layout has of them.
pub record Collects {H : Type 0} (core : Core H) (kept : Collecting) (l : Layout) : Type 0 where
  pub tally : Tallies core.version.behind.logs.items kept.tally l
  pub passing : kept.passing ≡ passed_in l
  -- a pass that begins finds each frame of its log
  pub readable : AreReadable l

-- It seals no log, switches no tables, and neither begins nor ends a pass: so it leaves what is kept of space.
abbrev pub LeavesSpace : Call → Type 0
LeavesSpace Rotate = ⊥
LeavesSpace Flush = ⊥
LeavesSpace (Install job made) = ⊥
LeavesSpace (Pick percent) = ⊥
LeavesSpace (EndPass pass) = ⊥
LeavesSpace call = Unit {0}

-- a store that was just opened: no pass is open, and how much is live isn't known yet
abbrev pub nothing_collected : Collecting
nothing_collected = record { passing = None; tally = None }

-- ---- how it is made

-- what the footers of these tables say of the segments into which they lead
abbrev pub points_in : {H : Type 0} → List (Table H) → List (List Point)
points_in {H} ts = map (λ (t : Table H). (shape_of t).footer.points.items) ts

abbrev pub points_made : {W : Type 0} {g : _} → List (Synced W g) → List (List Point)
points_made {W} {g} made = map (λ (t : Synced W g). (arc_value t.shape).footer.points.items) made

-- each log with its length in bytes
abbrev pub lengths_in : {H : Type 0} → (H → ℕ) → List (SealedLog H) → List (ℕ × ℕ)
lengths_in {H} size logs = map (λ (log : SealedLog H). (log.number, size log.held)) logs

-- the numbers of those of which nothing is live
abbrev pub idle_in : {H : Type 0} → List (ℕ × ℕ) → List (SealedLog H) → List ℕ
idle_in {H} live logs = map (λ (log : SealedLog H). log.number) (filter (λ (log : SealedLog H). bytes_of live log.number == 0) logs)

-- the least log whose memtable isn't flushed
abbrev pub head_in : {H : Type 0} → Core H → ℕ
head_in core = head_of core.front.log.number core.version.behind.frozen.items

-- it is made, and the layout's
abbrev pub IsTallied : Option Tallied → Layout → Type 0
IsTallied None l = ⊥
IsTallied (Some tally) l = IsTally tally l

-- a switch that adds and drops tables with these points leads from what is kept to these live bytes
abbrev pub LeadsFrom : Option Tallied → (live : List (ℕ × ℕ)) → (added dropped : List (List Point)) → Type 0
LeadsFrom kept live added dropped = ForSome kept (λ t. Switches t.live live added dropped)

module _ {H : Type 0} (bytes : H → Option (List ℕ)) (core : Core H) (old new : Collecting) where
  -- What is kept stays a layout's for which the engine stands.
  pub record Keeps : Type 0 where
    pub passing : new.passing ≡ old.passing
    pub tallies : (h : History) (l : Layout) → StandsFor bytes core h l → Tallies core.version.behind.logs.items old.tally l
        → Tallies core.version.behind.logs.items new.tally l

  -- So it does, and is made then.
  pub record IsReadied : Type 0 where
    pub passing : new.passing ≡ old.passing
    pub made : IsSome new.tally
    pub tallied : (h : History) (l : Layout) → StandsFor bytes core h l → Tallies core.version.behind.logs.items old.tally l
        → IsTallied new.tally l

-- ---- passes

-- It does what a layout's pass does, over the sources of a version.
abbrev pub GoesOver : {H R : Type 0} → (H → Option (List ℕ)) → Pass (Base H R) H → layout.Pass → Type 0
GoesOver {R = R} bytes pass p = IsPass bytes (λ (b : Base _ R) inputs ms. HasSources bytes b.version inputs ms) pass p

-- A pass goes over a log that was sealed by then, with the sources of this moment. It does what the answer's pass does, and its
-- log is the layout's, and lasts.
pub record IsPicked {H R : Type 0} (bytes : H → Option (List ℕ)) (pass : Pass (Base H R) H) (l : Layout) (answer : PickAnswer)
    : Type 0 where
  pub of : layout.Pass
  pub answer_is : answer ≡ Picked of
  pub goes : GoesOver bytes pass of
  pub lasts : Lasts bytes pass.log l
  -- its frames reach to its end
  pub whole : IsWholeFrom bytes pass.log pass.at.place

-- Whatever keeps no block that doesn't stand, as a reader that has kept none yet, fits its sources: look-ups by it are told.
abbrev pub FitsLooks : {H R : Type 0} → (H → Option (List ℕ)) → Pass (Base H R) H → Type 0
FitsLooks {R = R} bytes pass =
    (reader : BlockReader R) → ((files : Files) → AreKept files reader) → bases.Fits bytes pass.base.version reader

abbrev pub pick_outcome : {P : Type 0} → PickAnswer → Result P PickFail → Outcome PickAnswer
pick_outcome ruled (Ok pass) = Answered ruled
pick_outcome ruled (Err fails.InvalidRequest) = Answered pick.InvalidRequest
pick_outcome ruled (Err (fails.Rejected segment)) = Answered (pick.Rejected segment)
pick_outcome ruled (Err fails.NoRewrite) = Answered pick.NoRewrite
pick_outcome ruled (Err fails.NoMemory) = NoMemory

-- ---- how a pass begins

-- The pass is over the log with this number, of which it has given nothing yet, with the sources of the engine's version.
pub record BeginsOver {H R : Type 0} (bytes : H → Option (List ℕ)) (core : Core H) (number : ℕ) (pass : Pass (Base H R) H)
    : Type 0 where
  pub version : pass.base.version ≡ core.version
  pub number_is : pass.log.number ≡ number
  pub start : pass.at.place ≡ 16
  pub log : AreRising core.version.behind.logs.items
      → ForSome (log_in core.version.behind.logs.items number) (λ log. IsSameLog bytes log pass.log)
  pub goes : (p : layout.Pass)
      → Begins bytes (λ (b : Base H R) inputs ms. HasSources bytes b.version inputs ms) pass.base pass.log p
      → GoesOver bytes pass p

-- it has no such log, or memory was wanting
abbrev pub LacksLog : {H : Type 0} → Core H → ℕ → PickFail → Type 0
LacksLog core number fails.InvalidRequest = ⊥
LacksLog core number (fails.Rejected segment) = ⊥
LacksLog core number fails.NoRewrite =
    AreRising core.version.behind.logs.items → log_in core.version.behind.logs.items number ≡ None
LacksLog core number fails.NoMemory = Unit {0}

-- where it begins, it is the one that is open then
abbrev pub BeginsPass : {P : Type 0} → (old new : Collecting) → ℕ → Result P PickFail → Type 0
BeginsPass old new number (Ok pass) = new ≡ record old { passing = Some number }
BeginsPass old new number (Err why) = new ≡ old

-- Where a pass began, it is the one over this log that is open then. Else none begins, and the one that was open stays.
abbrev pub Passes : {H R : Type 0} → (old new : Option ℕ) → Result (Pass (Base H R) H) PickFail → Type 0
Passes old new (Ok pass) = new ≡ Some pass.log.number
Passes old new (Err why) = new ≡ old
