-- What a disk holds stays where it changes under one name that isn't needed.
use Rattle.std.specs.Prelude.{◌≡◌, ◌≢◌, ◌≤◌, ◌<◌, ℕ, List, [], ◌∷◌, length, refl}
use Rattle.std.specs.List.{AllByRecursion}
use Rattle.std.proofs.Common.{◌⊎◌, sym, subst, ◌∙◌, arith, inl, inr, ⊎_elim}
use Rattle.std.proofs.lemmas.Bool.{cases_lt}
use Rattle.vl_disk.specs.Changes.{SameElsewhere, changed_elsewhere}
use Rattle.vl_disk.specs.Crash.{WhileAppending, WhileSyncing}
use Rattle.vl_disk.specs.DiskState.{DiskState, appended, lengthened, synced, synced_file}
use Rattle.vl_disk.specs.declared.name.Name.{Name}
use Rattle.vl_disk.specs.declared.name.Name.TheVariants.{Log, Manifest, Table}
use Rattle.vl_engine_laws.specs.Files.{HoldsLog, HoldsTable}
use Rattle.vl_engine_laws.specs.Held.{AreBegun, Base, HoldsBase, HoldsFiles, HoldsSources, logs_from}
use Rattle.vl_engine_model.specs.Sources.{tables}
use Rattle.vl_engine_model.specs.Tidy.{sealed}
use Rattle.vl_engine_model.specs.declared.layout.Layout.{Layout}
use Rattle.vl_engine_model.specs.declared.segment.Segment.{Segment}
use Rattle.vl_engine_model.specs.declared.table.Table as laid
use Rattle.vl_recover.specs.crash.Held.{IsNowhere}
use Rattle.vl_recover.specs.laws.crash.OneName.{elsewhere_then}
use Rattle.vl_recover.specs.laws.opening.LeadsLaws.{logs_kept, nowhere_kept}

-- ---- one name

abbrev pub AreOtherTables : Name → List laid.Table → Type 0
AreOtherTables name ts = AllByRecursion (λ (t : laid.Table). Table t.number ≢ name) ts

abbrev pub AreOtherLogs : Name → List Segment → Type 0
AreOtherLogs name ss = AllByRecursion (λ (s : Segment). Log s.number ≢ name) ss

module _ (name : Name) (old now : DiskState) (same : SameElsewhere name old now) where
  pub tables_kept : (ts : List laid.Table) → AreOtherTables name ts → AllByRecursion (HoldsTable old) ts
      → AllByRecursion (HoldsTable now) ts
  tables_kept [] other hold = tt
  tables_kept (t ∷ ts) other hold = (
    record { is = hold.0.is; stands = same.standing (Table t.number) other.0 ∙ hold.0.stands },
    tables_kept ts other.1 hold.1,
  )

  pub each_log_kept : (ss : List Segment) → AreOtherLogs name ss → AllByRecursion (HoldsLog old) ss
      → AllByRecursion (HoldsLog now) ss
  each_log_kept [] other hold = tt
  each_log_kept (s ∷ ss) other hold = (
    record { is = hold.0.is; stands = same.standing (Log s.number) other.0 ∙ hold.0.stands },
    each_log_kept ss other.1 hold.1,
  )

  -- The tables and the sealed logs stay,
  pub sources_kept : (l : Layout) → AreOtherTables name (tables l) → AreOtherLogs name (sealed l) → HoldsSources l old
      → HoldsSources l now
  sources_kept l tables_apart logs_apart holds = record {
    tables = tables_kept (tables l) tables_apart holds.tables;
    sealed = each_log_kept (sealed l) logs_apart holds.sealed;
  }

  -- the manifest does,
  pub base_kept : (b : Base) → ((m : ℕ) → b.manifest.number ≤ m → Manifest m ≢ name) → HoldsBase b old → HoldsBase b now
  base_kept b apart holds = record {
    has = record {
      length_is = holds.has.length_is;
      each = holds.has.each;
      durable = same.standing (Manifest b.manifest.number) (apart b.manifest.number (omega arith)) ∙ holds.has.durable;
    };
    above = λ m less. nowhere_kept name old now same (Manifest m) (apart m (omega (arith, less))) (holds.above m less);
  }

  -- and so do all files, where it is no log from head on either.
  pub files_kept : (b : Base) (l : Layout) → AreOtherTables name (tables l) → AreOtherLogs name l.flushed
      → ((m : ℕ) → b.state.head ≤ m → Log m ≢ name) → HoldsFiles b l old → HoldsFiles b l now
  files_kept b l tables_apart logs_apart from holds = record {
    logs = logs_kept name old now same b.state.head (logs_from b l) from holds.logs;
    tables = tables_kept (tables l) tables_apart holds.tables;
    flushed = each_log_kept l.flushed logs_apart holds.flushed;
  }

-- ---- numbers that were drawn

-- The tables that were begun were begun behind a change of another file,
pub begun_kept : (name : Name) (old now : DiskState) → SameElsewhere name old now → ((n : ℕ) → Table n ≢ name) → (from to : ℕ)
    → AreBegun from to old → AreBegun from to now
begun_kept name old now same apart from to begun n least less nowhere = begun n least less (record {
  free = sym (same.standing (Table n) (apart n)) ∙ nowhere.free;
  never = sym (same.removed (Table n) (apart n)) ∙ nowhere.never;
})

-- and none are asked for where no number was drawn.
pub none_drawn : (from to : ℕ) (disk : DiskState) → to ≤ from → AreBegun from to disk
none_drawn from to disk none n least less nowhere = omega (arith, none, least, less)

-- So where no table was begun under the first of these numbers none was drawn.
pub drawn_none : (from to : ℕ) (disk : DiskState) → from ≤ to → AreBegun from to disk → IsNowhere disk (Table from) → from ≡ to
drawn_none from to disk most begun nowhere = by (cases_lt from to)
  where
    by : (from < to) ⊎ (to ≤ from) → from ≡ to
    by (inl less) = absurd (begun from (omega arith) less nowhere)
    by (inr least) = omega (arith, most, least)

-- ---- calls

pub nothing_elsewhere : (name : Name) (disk : DiskState) → SameElsewhere name disk disk
nothing_elsewhere name disk = record { standing = λ other apart. refl; removed = λ other apart. refl }

module _ (name : Name) (piece : List ℕ) (disk : DiskState) where
  pub appended_elsewhere : (taken : ℕ) → SameElsewhere name disk (appended name piece taken disk)
  appended_elsewhere taken = changed_elsewhere name disk (lengthened piece taken)

  pub appending_elsewhere : (now : DiskState) → WhileAppending name piece disk now → SameElsewhere name disk now
  appending_elsewhere now during = ⊎_elim
      (λ (same : now ≡ disk). subst (SameElsewhere name disk) (sym same) (nothing_elsewhere name disk))
      (λ (part : (taken : ℕ) × (taken ≤ length piece) × (now ≡ appended name piece taken disk)).
      subst (SameElsewhere name disk) (sym part.2) (appended_elsewhere part.0))
      during

  pub written_elsewhere : SameElsewhere name disk (synced name (appended name piece (length piece) disk))
  written_elsewhere = elsewhere_then name disk (appended name piece (length piece) disk)
      (synced name (appended name piece (length piece) disk)) (appended_elsewhere (length piece))
      (changed_elsewhere name (appended name piece (length piece) disk) synced_file)

  pub syncing_elsewhere : (now : DiskState) → WhileSyncing name (appended name piece (length piece) disk) now
      → SameElsewhere name disk now
  syncing_elsewhere now during = ⊎_elim
      (λ (same : now ≡ appended name piece (length piece) disk).
      subst (SameElsewhere name disk) (sym same) (appended_elsewhere (length piece)))
      (λ (done : now ≡ synced name (appended name piece (length piece) disk)).
      subst (SameElsewhere name disk) (sym done) written_elsewhere)
      during

-- ---- names of other kinds

manifest_table : (m n : ℕ) → Manifest m ≡ Table n → ⊥
manifest_table m n e = cc

pub log_table : (m n : ℕ) → Log m ≡ Table n → ⊥
log_table m n e = cc

pub log_manifest : (m n : ℕ) → Log m ≡ Manifest n → ⊥
log_manifest m n e = cc

pub table_manifest : (m n : ℕ) → Table m ≡ Manifest n → ⊥
table_manifest m n e = cc

pub table_log : (m n : ℕ) → Table m ≡ Log n → ⊥
table_log m n e = cc

manifest_log : (m n : ℕ) → Manifest m ≡ Log n → ⊥
manifest_log m n e = cc

pub manifest_same : (m n : ℕ) → Manifest m ≡ Manifest n → m ≡ n
manifest_same m n e = cc

pub table_same : (m n : ℕ) → Table m ≡ Table n → m ≡ n
table_same m n e = cc

-- A manifest is neither a table nor a log,
pub tables_beside_manifest : (n : ℕ) (ts : List laid.Table) → AreOtherTables (Manifest n) ts
tables_beside_manifest n [] = tt
tables_beside_manifest n (t ∷ ts) = (table_manifest t.number n, tables_beside_manifest n ts)

pub logs_beside_manifest : (n : ℕ) (ss : List Segment) → AreOtherLogs (Manifest n) ss
logs_beside_manifest n [] = tt
logs_beside_manifest n (s ∷ ss) = (log_manifest s.number n, logs_beside_manifest n ss)

pub from_beside_manifest : (head n : ℕ) → (m : ℕ) → head ≤ m → Log m ≢ Manifest n
from_beside_manifest head n m from = log_manifest m n

-- a log no table or manifest,
pub tables_beside_log : (n : ℕ) (ts : List laid.Table) → AreOtherTables (Log n) ts
tables_beside_log n [] = tt
tables_beside_log n (t ∷ ts) = (table_log t.number n, tables_beside_log n ts)

pub manifests_beside_log : (least n : ℕ) → (m : ℕ) → least ≤ m → Manifest m ≢ Log n
manifests_beside_log least n m from = manifest_log m n

-- and a table no log or manifest.
pub logs_beside_table : (n : ℕ) (ss : List Segment) → AreOtherLogs (Table n) ss
logs_beside_table n [] = tt
logs_beside_table n (s ∷ ss) = (log_table s.number n, logs_beside_table n ss)

pub from_beside_table : (head n : ℕ) → (m : ℕ) → head ≤ m → Log m ≢ Table n
from_beside_table head n m from = log_table m n

pub manifests_beside_table : (least n : ℕ) → (m : ℕ) → least ≤ m → Manifest m ≢ Table n
manifests_beside_table least n m from = manifest_table m n
