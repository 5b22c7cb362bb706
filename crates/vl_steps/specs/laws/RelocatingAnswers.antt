-- What is promised of some answers of a relocation, by what it came to.
use Rattle.std.specs.Prelude.{◌≡◌, ℕ, List, Option, Result, Ok, Err, IsTrue}
use Rattle.std.proofs.Common.{subst, sym}
use Rattle.vl_engine_laws.specs.Writing.{StopsWriting}
use Rattle.vl_disk.specs.declared.name.Name.TheVariants as names
use Rattle.vl_disk.specs.declared.name.Name.{Name}
use Rattle.vl_disk.specs.declared.watched.Watched.{Ghosts}
use Rattle.vl_steps.specs.laws.RelocatingReads.{named_by, undamaged_by}
use Rattle.vl_steps.specs.laws.RelocatingTotals.{failed_by, stopped_by}
use Rattle.vl_steps.specs.Relocating.{At, IsDamaged, IsMovable, IsOfPass, IsTableAmong, RelocatesAs}
use Rattle.vl_steps.specs.declared.fails.MoveFail.TheVariants as fails
use Rattle.vl_steps.specs.declared.fails.MoveFail.{MoveFail}
use Rattle.vl_engine_model.specs.Relocation as layout
use Rattle.vl_engine_model.specs.Relocation.{Candidate, moved_of}
use Rattle.vl_engine_model.specs.Sources.{sources}
use Rattle.vl_engine_model.specs.declared.layout.Layout.{Layout}
use Rattle.vl_model.specs.Formats.{log_format}
use Rattle.vl_model.specs.History.{History, last_number}
use Rattle.vl_model.specs.declared.log_frame.LogFrame.TheVariants.{Relocated}
use Rattle.vl_seglog.specs.Frames.{frame_at}
use Rattle.vl_seglog.specs.declared.sealed.SealedLog.{SealedLog}
use Rattle.vl_table.specs.declared.block_reader.BlockReader.{BlockReader}
use Rattle.vl_version.specs.Bases.{Fits}
use Rattle.vl_version.specs.Sources.{tables_in}
use Rattle.vl_version.specs.declared.behind.Behind.{Behind}
use Rattle.vl_version.specs.declared.version.Version.{Version}

-- so it is of a segment by whichever name
pub as_segment : {D H R : Type 0} (g : Ghosts D) (bytes : H → Option (List ℕ)) (faults_of : R → ℕ) (old new : At D H R)
    (segment number : ℕ) → segment ≡ number → (batch : List Candidate) (result : Result ℕ MoveFail)
    → RelocatesAs g bytes faults_of old new segment batch result → RelocatesAs g bytes faults_of old new number batch result
as_segment g bytes faults_of old new segment number is batch result did =
    subst (λ (n : ℕ). RelocatesAs g bytes faults_of old new n batch result) is did

-- what fits the tables of a version fits another's that has the same behind its active memtable
pub fits_behind : {H R : Type 0} (bytes : H → Option (List ℕ)) (version now : Version H) → now.behind ≡ version.behind
    → (looks : BlockReader R) → Fits bytes version looks → Fits bytes now looks
fits_behind {H} bytes version now same looks fits =
    subst (λ (b : Behind H). Fits bytes (record now { behind = b }) looks) (sym same) fits

-- a fault of a look-up is named by a table
pub read_so : {D H R : Type 0} (g : Ghosts D) (bytes : H → Option (List ℕ)) (faults_of : R → ℕ) (old new : At D H R) (segment : ℕ)
    (batch : List Candidate) (result : Result ℕ MoveFail) → RelocatesAs g bytes faults_of old new segment batch result
    → (name : Name) → Fits bytes old.core.version old.looks → result ≡ Err (fails.Read name)
    → IsTableAmong (tables_in old.core.version) name
read_so g bytes faults_of old new segment batch result did name fits is =
    named_by g bytes faults_of old new segment batch name (subst (RelocatesAs g bytes faults_of old new segment batch) is did) fits

module _ {D H R : Type 0} (g : Ghosts D) (bytes : H → Option (List ℕ)) (faults_of : R → ℕ) (old new : At D H R) (log : SealedLog H)
    (batch : List Candidate) (h : History) (l : Layout) (p : layout.Pass)
    (of : IsOfPass bytes old.core log batch old.looks h l p) where
  -- nothing is damaged
  pub undamaged_so : (result : Result ℕ MoveFail) → RelocatesAs g bytes faults_of old new log.number batch result
      → IsDamaged result → ⊥
  undamaged_so (Ok count) did bad = bad
  undamaged_so (Err (fails.Halted name)) did bad = bad
  undamaged_so (Err (fails.Exhausted back counter)) did bad = bad
  undamaged_so (Err (fails.Full back length frame)) did bad = bad
  undamaged_so (Err (fails.NoMemory back)) did bad = bad
  undamaged_so (Err (fails.Read name)) did bad = bad
  undamaged_so (Err (fails.Disk name)) did bad = bad
  undamaged_so (Err (fails.Damaged back name place)) did bad =
      undamaged_by g bytes faults_of old new log batch h l p of name place did.1

  module _ (result : Result ℕ MoveFail) (did : RelocatesAs g bytes faults_of old new log.number batch result) (name : Name)
      (is : result ≡ Err (fails.Disk name)) where
    failing : RelocatesAs g bytes faults_of old new log.number batch (Err (fails.Disk name))
    failing = subst (RelocatesAs g bytes faults_of old new log.number batch) is did

    -- the disk fails only where a relocation is accepted,
    pub failed_so : IsMovable h l p batch
    failed_so = failed_by g bytes faults_of old new log batch h l p of name failing

    -- and while its frame is written
    pub stopped_so : IsTrue g.fails_cleanly
        → StopsWriting g (names.Log l.active.number) (frame_at log_format l.active.number l.active.length
        (Relocated (moved_of (sources l) p.segment (last_number h) batch))) old.disk new.disk
    stopped_so = stopped_by g bytes faults_of old new log batch h l p of name failing
