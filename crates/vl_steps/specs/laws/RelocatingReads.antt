-- A relocation whose look-ups failed: which file is named, and that none is damaged that an engine's version reads.
use Rattle.std.specs.Prelude.{◌≡◌, ℕ, List, [], ◌∷◌, Option, Some, Contains}
use Rattle.std.specs.List.{AllByRecursion, slice_get}
use Rattle.std.proofs.Common.{sym, subst, ◌∙◌, ⊎_elim}
use Rattle.std.proofs.lemmas.List.Elements.{All-contains, All-from_recursion, Contains-get_or}
use Rattle.std.proofs.lemmas.Option.{get_or_from_slice_get, slice_get_within}
use Rattle.vl_collect.specs.Faults.{IsTheirs, LacksMemory, MayWhere}
use Rattle.vl_disk.specs.declared.read_fault.ReadFault.TheVariants as faults
use Rattle.vl_disk.specs.declared.read_fault.ReadFault.{ReadFault}
use Rattle.vl_table.specs.body.Bytes.{table_bytes}
use Rattle.vl_engine_laws.specs.laws.LaidLaws.{laid_entries}
use Rattle.vl_disk.specs.declared.name.Name.{Name}
use Rattle.vl_disk.specs.declared.watched.Watched.{Ghosts}
use Rattle.vl_steps.specs.Relocating.{At, HasFailedToRead, FailsAt, IsOfPass, IsTableAmong}
use Rattle.vl_engine_model.specs.Relocation as layout
use Rattle.vl_engine_model.specs.Relocation.{Candidate}
use Rattle.vl_engine_model.specs.declared.layout.Layout.{Layout}
use Rattle.vl_model.specs.History.{History}
use Rattle.vl_model.specs.declared.entry.Entry.{Entry}
use Rattle.vl_seglog.specs.declared.sealed.SealedLog.{SealedLog}
use Rattle.vl_table.specs.CursorParts.{MayFailOn, is_disk_fault}
use Rattle.vl_table.specs.OfTables.{AreOf}
use Rattle.vl_table.specs.Tables.{IsOf, number_of, shape_of}
use Rattle.vl_table.specs.declared.table.Table.{Table}
use Rattle.vl_table.specs.laws.TrueBlocks.{no_bad_block}
use Rattle.vl_version.specs.Bases.{Fits}
use Rattle.vl_version.specs.Sources.{tables_in}

-- ---- the fault is one that a look-up had

here : {X : Type 0} (xs : List X) (i : ℕ) (x : X) → slice_get xs i ≡ Some x → Contains xs x
here xs i x at = subst (Contains xs) (get_or_from_slice_get xs i x x at) (Contains-get_or xs i x (slice_get_within xs i x at))

module _ {H : Type 0} (bytes : H → Option (List ℕ)) (ts : List (Table H)) where
  -- a disk's fault names a table,
  named_so : (name : Name) (told : ReadFault) → faults.Disk name ≡ told → MayFailOn bytes ts told → IsTableAmong ts name
  named_so name faults.NoMemory is may = absurd cc
  named_so name (faults.Disk n) is (i, t, at, named) =
      let same : n ≡ name = cc in
      record { table = t; among = here ts i t at; is = sym same ∙ named }
  named_so name (faults.Damaged n place) is may = absurd cc

  each_is : (tabled : List (List Entry)) (held : List (Table H)) → AreOf bytes held tabled
      → AllByRecursion (λ (t : Table H). (es : List Entry) × IsOf bytes t es) held
  each_is [] [] are = tt
  each_is [] (t ∷ held) are = absurd are
  each_is (es ∷ tabled) [] are = absurd are
  each_is (es ∷ tabled) (t ∷ held) are = ((es, are.0), each_is tabled held are.1)

  -- and none is damaged where they are true.
  sound_so : (tabled : List (List Entry)) → AreOf bytes ts tabled → (name : Name) (place : ℕ) (told : ReadFault)
      → faults.Damaged name place ≡ told → MayFailOn bytes ts told → ⊥
  sound_so tabled are name place faults.NoMemory is may = absurd cc
  sound_so tabled are name place (faults.Disk n) is may = absurd cc
  sound_so tabled are name place (faults.Damaged n at) is (i, t, there, named, bad) =
      let (es, of) = All-contains (λ (u : Table H). (es : List Entry) × IsOf bytes u es) ts t
      (All-from_recursion (λ (u : Table H). (es : List Entry) × IsOf bytes u es) ts (each_is tabled ts are)) (here ts i t there) in
      no_bad_block bytes t es at of (bad (table_bytes (shape_of t).format (number_of t) es) of.told)

module _ {D H R : Type 0} (g : Ghosts D) (bytes : H → Option (List ℕ)) (faults_of : R → ℕ) (old new : At D H R) (segment : ℕ)
    (batch : List Candidate) where
  -- a fault that isn't want of memory is one that the sources may have, where what is read with fits them
  had : (fault : ReadFault) → (fault ≡ faults.NoMemory → ⊥) → FailsAt g bytes faults_of old new segment batch fault
      → Fits bytes old.core.version old.looks
      → (told : ReadFault) × (fault ≡ told) × MayFailOn bytes (tables_in old.core.version) told
  had fault some fails fits = ⊎_elim
      (λ (lacks : LacksMemory (faults_of old.looks.reader) (faults_of new.looks.reader) fault). absurd (some lacks.is))
      (λ (theirs : IsTheirs is_disk_fault
      (MayWhere (Fits bytes old.core.version old.looks) (MayFailOn bytes (tables_in old.core.version)))
      (faults_of old.looks.reader) (faults_of new.looks.reader) fault).
      (theirs.told, theirs.is, theirs.had fits))
      fails.cause

  -- A fault of a look-up is named by a table of the version.
  pub named_by : (name : Name) → HasFailedToRead g bytes faults_of old new segment batch name
      → Fits bytes old.core.version old.looks → IsTableAmong (tables_in old.core.version) name
  named_by name did fits =
      let (told, is, may) = had (faults.Disk name) (λ e. (let no : ⊥ = cc in no)) did.fails fits in
      named_so bytes (tables_in old.core.version) name told is may

-- No file of a version that the engine stands for is damaged.
pub undamaged_by : {D H R : Type 0} (g : Ghosts D) (bytes : H → Option (List ℕ)) (faults_of : R → ℕ) (old new : At D H R)
    (log : SealedLog H) (batch : List Candidate) (h : History) (l : Layout) (p : layout.Pass)
    → IsOfPass bytes old.core log batch old.looks h l p → (name : Name) (place : ℕ)
    → FailsAt g bytes faults_of old new log.number batch (faults.Damaged name place) → ⊥
undamaged_by g bytes faults_of old new log batch h l p of name place fails =
    let laid = laid_entries bytes old.core.version l of.stands.has h of.stands.tidy in
    let (told, is, may) =
    had g bytes faults_of old new log.number batch (faults.Damaged name place) (λ e. (let no : ⊥ = cc in no)) fails of.fits in
    sound_so bytes (tables_in old.core.version) laid.tabled laid.tables name place told is may
