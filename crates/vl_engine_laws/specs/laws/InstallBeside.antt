-- Tables that a job makes beside a layout, of numbers that none of its tables has: while their files are made, lent and taken
-- back the disk holds the layout, and whatever a crash leaves shows the history.
use Rattle.std.specs.Prelude.{◌≡◌, ◌≢◌, ◌<◌, ℕ, List, [], ◌∷◌, map, Some, Ok, refl}
use Rattle.std.specs.FinMap.{get}
use Rattle.std.specs.List.{AllByRecursion}
use Rattle.std.specs.Option.{ForSome}
use Rattle.std.proofs.Common.{sym, ap, subst, ◌∙◌, arith, ⊎_elim}
use Rattle.vl_disk.specs.Changes.{SameElsewhere, created_elsewhere, without_elsewhere}
use Rattle.vl_disk.specs.Crash.{Image, WhileCreating, WhileRemoving}
use Rattle.vl_disk.specs.DiskState.{DiskState, File, IsLawful, created, settled, without}
use Rattle.vl_disk.specs.Lending.{WhileAdopting, adopted}
use Rattle.vl_disk.specs.Name.{IsNumbered}
use Rattle.vl_disk.specs.Started.{IsRead, read_left}
use Rattle.vl_disk.specs.declared.name.Name.{Name}
use Rattle.vl_disk.specs.declared.name.Name.TheVariants.{Log, Table}
use Rattle.vl_disk.specs.laws.Lawful.{adopted_lawful, created_lawful, settled_lawful, without_lawful}
use Rattle.vl_disk.specs.laws.NameMap.{get_inserted, get_removed, same_or_other}
use Rattle.vl_engine_laws.specs.Files.{HoldsTable}
use Rattle.vl_engine_laws.specs.Held.{Base, Holds, HoldsBase, HoldsFiles, IsBase, frames_of, logs_from}
use Rattle.vl_engine_laws.specs.Pointed.{layout_logs}
use Rattle.vl_engine_laws.specs.Shown.{LeavesBetween}
use Rattle.vl_engine_laws.specs.laws.FileLaws.{named_among}
use Rattle.vl_engine_laws.specs.laws.HeldLaws.{base_says, held_opens_again, needed_shows}
use Rattle.vl_engine_laws.specs.laws.KeptLaws.{AreOtherTables, base_kept, files_kept, from_beside_table, log_table}
use Rattle.vl_engine_laws.specs.laws.KeptLaws.{logs_beside_table, manifests_beside_table, nothing_elsewhere, table_same}
use Rattle.vl_engine_laws.specs.laws.KeptLaws.{tables_kept}
use Rattle.vl_engine_laws.specs.laws.OpensAgain.{below_lead, shown_may_open, table_may}
use Rattle.vl_engine_model.specs.Jobs.{Made, job_ended}
use Rattle.vl_engine_model.specs.Rulings.Fresh.{drawn}
use Rattle.vl_engine_model.specs.Rulings.Plan.{with_job}
use Rattle.vl_engine_model.specs.Sources.{numbers_of, tables}
use Rattle.vl_engine_model.specs.Tidy.{IsTidy}
use Rattle.vl_engine_model.specs.declared.job.Job.{Job}
use Rattle.vl_engine_model.specs.declared.layout.Layout.{Layout}
use Rattle.vl_engine_model.specs.declared.table.Table as laid
use Rattle.vl_manifest.specs.Manifest.{manifest_bytes}
use Rattle.vl_manifest.specs.declared.state.ManifestState.{ManifestState}
use Rattle.vl_model.specs.History.{History, last_number}
use Rattle.vl_recover.specs.crash.Held.{HoldsManifest, IsSettled}
use Rattle.vl_recover.specs.crash.Starts.{MayOpen, MayStand, OnlyIdleGone}
use Rattle.vl_recover.specs.laws.crash.OneName.{elsewhere_then, made_elsewhere}
use Rattle.vl_recover.specs.laws.opening.HeldLaws.{held_state, only_idle_gone, settled_may_stand}
use Rattle.vl_recover.specs.laws.opening.OpeningLaws.{some_none, some_same}
use Rattle.vl_recover.specs.opening.Opening.{IsNamed, Opening, Opens}

-- ---- a file beside the layout

-- a table's, whose number no table of the layout has
module _ (b : Base) (l : Layout) (h : History) (disk : DiskState) (n : ℕ) (base : IsBase b l h)
    (tidy : IsTidy (layout_logs l) l h) (holds : Holds b l disk) (apart : AreOtherTables (Table n) (tables l)) where
  abbrev pub name : Name
  name = Table n

  pub base_beside : (now : DiskState) → SameElsewhere name disk now → HoldsBase b now
  base_beside now same = base_kept name disk now same b (manifests_beside_table b.manifest.number n) holds.base

  pub files_beside : (now : DiskState) → SameElsewhere name disk now → HoldsFiles b l now
  files_beside now same =
      files_kept name disk now same b l apart (logs_beside_table n l.flushed) (from_beside_table b.state.head n) holds.files

  -- Whatever is done with it, what a crash leaves shows the history.
  pub leaves_beside : (now : DiskState) → SameElsewhere name disk now → LeavesBetween h h now
  leaves_beside now same image left = (
    last_number h,
    omega arith,
    omega arith,
    needed_shows b l h base tidy now (base_beside now same) (files_beside now same) image left.left,
  )

  -- Where it is durable, or doesn't stand, the disk holds the layout.
  pub holds_beside : (now : DiskState) → SameElsewhere name disk now → IsLawful now
      → ((file : File) → get now.standing name ≡ Some file → file ≡ settled file.bytes) → Holds b l now
  holds_beside now same lawful durable = record {
    base = base_beside now same;
    files = files_beside now same;
    durable = λ q file stands. ⊎_elim
        (λ (at : q ≡ name). durable file (ap (get now.standing) (sym at) ∙ stands))
        (λ (other : q ≢ name). holds.durable q file (sym (same.standing q other) ∙ stands))
        (same_or_other q name);
    lawful = lawful;
  }

  -- A store may be opened on the disk, whatever of the file stands.
  module _ (now : DiskState) (lawful : IsLawful now) (same : SameElsewhere name disk now) where
    others_settled : (q : Name) (g : File) → q ≢ name → get now.standing q ≡ Some g → g ≡ settled g.bytes
    others_settled q g other stands = holds.durable q g (sym (same.standing q other) ∙ stands)

    manifest_now : HoldsManifest b.state now
    manifest_now = record {
      number = b.manifest.number;
      bytes = manifest_bytes b.manifest.number (frames_of b);
      stands = (base_beside now same).has.durable;
      says = base_says b l h base now (base_beside now same);
      above = (base_beside now same).above;
    }

    state_now : (read : Image) (o : Opening) → IsRead read now → Opens read (Ok o) → o.state ≡ b.state
    state_now read o is opens = held_state b.state now manifest_now read o (read_left read now is) opens

    -- a table that is named isn't this one
    named_settled : (m : ℕ) (g : File) → IsNamed (map numbers_of l.levels) m → get now.standing (Table m) ≡ Some g
        → g ≡ settled g.bytes
    named_settled m g named stands =
        let is = named_among (λ (t : laid.Table). Table t.number ≢ name) l.levels m apart named in
        others_settled (Table m) g (subst (λ (k : ℕ). Table k ≢ name) is.numbered is.is) stands

    pub opens_beside : MayOpen now
    opens_beside = shown_may_open now
        (λ q g stands. ⊎_elim
        (λ (at : q ≡ name). subst (λ (x : Name). MayStand x g) (sym at) (table_may n g))
        (λ (other : q ≢ name). subst (MayStand q) (sym (others_settled q g other stands)) (settled_may_stand q g.bytes))
        (same_or_other q name))
        (λ m g stands. others_settled (Log m) g (log_table m n) stands)
        (λ read o is opens m g named stands. named_settled m g (subst (λ (ns : List (List ℕ)). IsNamed ns m)
        (ap (λ (x : ManifestState). x.levels) (state_now read o is opens) ∙ base.levels) named) stands)
        (below_lead b.manifest.number now lawful (settled (manifest_bytes b.manifest.number (frames_of b)))
        (base_beside now same).has.durable (base_beside now same).above)
        (λ read o is opens. subst (λ (x : ManifestState). OnlyIdleGone x.head now) (sym (state_now read o is opens))
        (only_idle_gone b.state.head (logs_from b l) now lawful (files_beside now same).logs))
        (λ read is. (
          h,
          last_number h,
          needed_shows b l h base tidy now (base_beside now same) (files_beside now same) read (read_left read now is),
        ))

  -- ---- it is taken back

  module _ (bytes : List ℕ) (numbered : IsNumbered name) where
    adopted_elsewhere : SameElsewhere name disk (adopted name (settled bytes) disk)
    adopted_elsewhere = made_elsewhere name bytes disk

    -- The disk holds the layout, and the file,
    pub adopted_holds : Holds b l (adopted name (settled bytes) disk)
    adopted_holds = holds_beside (adopted name (settled bytes) disk) adopted_elsewhere
        (adopted_lawful disk holds.lawful name (settled bytes) (settled_lawful bytes) numbered)
        (λ file stands.
        let is : settled bytes ≡ file = some_same (settled bytes) file
        (sym (get_inserted disk.standing name (settled bytes)) ∙ stands) in
        sym is ∙ ap (λ (x : File). settled x.bytes) is)

    pub adopted_stands : IsSettled (adopted name (settled bytes) disk) name bytes
    adopted_stands = get_inserted disk.standing name (settled bytes)

    -- other tables that stand stay,
    pub adopted_keeps : (ts : List laid.Table) → AreOtherTables name ts → AllByRecursion (HoldsTable disk) ts
        → AllByRecursion (HoldsTable (adopted name (settled bytes) disk)) ts
    adopted_keeps = tables_kept name disk (adopted name (settled bytes) disk) adopted_elsewhere

    -- and what a crash leaves meanwhile shows the history; a store may be opened on the disk, if it stops there.
    pub adopting_leaves : (now : DiskState) → WhileAdopting name (Some (settled bytes)) disk now → LeavesBetween h h now
    adopting_leaves now during = ⊎_elim
        (λ (is : now ≡ disk). leaves_beside now (subst (SameElsewhere name disk) (sym is) (nothing_elsewhere name disk)))
        (λ (is : ForSome (Some (settled bytes)) (λ f. now ≡ adopted name f disk)).
        leaves_beside now (subst (SameElsewhere name disk) (sym (is (settled bytes) refl)) adopted_elsewhere))
        during

    pub adopting_opens_again : (now : DiskState) → WhileAdopting name (Some (settled bytes)) disk now → MayOpen now
    adopting_opens_again now during = ⊎_elim
        (λ (is : now ≡ disk). subst MayOpen (sym is) (held_opens_again b l h base disk tidy.levels holds))
        (λ (is : ForSome (Some (settled bytes)) (λ f. now ≡ adopted name f disk)).
        subst MayOpen (sym (is (settled bytes) refl))
        (held_opens_again b l h base (adopted name (settled bytes) disk) tidy.levels adopted_holds))
        during

  -- ---- it is made, and lent

  module _ (numbered : IsNumbered name) where
    abbrev new : DiskState
    new = created name disk

    new_elsewhere : SameElsewhere name disk new
    new_elsewhere = created_elsewhere name disk

    new_lawful : IsLawful new
    new_lawful = created_lawful disk holds.lawful name numbered

    lent_elsewhere : SameElsewhere name disk (without name new)
    lent_elsewhere = elsewhere_then name disk new (without name new) new_elsewhere (without_elsewhere name new)

    -- While the file is lent the disk holds the layout.
    pub lent_holds : Holds b l (without name new)
    lent_holds = holds_beside (without name new) lent_elsewhere (without_lawful new new_lawful name)
        (λ file stands. absurd (some_none file (sym stands ∙ get_removed new.standing name)))

    -- What a crash leaves while it is made and lent shows the history,
    pub creating_leaves : (now : DiskState) → WhileCreating name disk now → LeavesBetween h h now
    creating_leaves now during = ⊎_elim
        (λ (is : now ≡ disk). leaves_beside now (subst (SameElsewhere name disk) (sym is) (nothing_elsewhere name disk)))
        (λ (is : now ≡ new). leaves_beside now (subst (SameElsewhere name disk) (sym is) new_elsewhere))
        during

    pub lending_leaves : (now : DiskState) → WhileRemoving name new now → LeavesBetween h h now
    lending_leaves now during = ⊎_elim
        (λ (is : now ≡ new). leaves_beside now (subst (SameElsewhere name disk) (sym is) new_elsewhere))
        (λ (is : now ≡ without name new). leaves_beside now (subst (SameElsewhere name disk) (sym is) lent_elsewhere))
        during

    -- and a store may be opened on the disk, if it stops there.
    pub creating_opens_again : (now : DiskState) → WhileCreating name disk now → MayOpen now
    creating_opens_again now during = ⊎_elim
        (λ (is : now ≡ disk). subst MayOpen (sym is) (held_opens_again b l h base disk tidy.levels holds))
        (λ (is : now ≡ new). subst MayOpen (sym is) (opens_beside new new_lawful new_elsewhere))
        during

    pub lending_opens_again : (now : DiskState) → WhileRemoving name new now → MayOpen now
    lending_opens_again now during = ⊎_elim
        (λ (is : now ≡ new). subst MayOpen (sym is) (opens_beside new new_lawful new_elsewhere))
        (λ (is : now ≡ without name new).
        subst MayOpen (sym is) (held_opens_again b l h base (without name new) tidy.levels lent_holds))
        during

-- a number above those of all tables, as that of the next table, is none of theirs
pub tables_below : (n : ℕ) (ts : List laid.Table) → AllByRecursion (λ (t : laid.Table). t.number < n) ts
    → AreOtherTables (Table n) ts
tables_below n [] below = tt
tables_below n (t ∷ ts) below = (
  λ e. (let less = below.0 in omega (arith, less, table_same t.number n e)),
  tables_below n ts below.1,
)

-- ---- what a job changes of the layout beside the disk

-- Its plan, its files and its end leave the base and the files as they are.
module _ (b : Base) (l : Layout) (h : History) (base : IsBase b l h) where
  pub planned_base : (job : Job) → IsBase b (with_job job l) h
  planned_base job = record {
    numbered = base.numbered;
    made = base.made;
    goes = base.goes;
    levels = base.levels;
    frozen = base.frozen;
    led = base.led;
    keep = base.keep;
    since = base.since;
    gone = base.gone;
    covered = base.covered;
    format = base.format;
    spared = base.spared;
  }

  pub drawn_base : IsBase b (drawn l) h
  drawn_base = record {
    numbered = base.numbered;
    made = base.made;
    goes = base.goes;
    levels = base.levels;
    frozen = base.frozen;
    led = base.led;
    keep = base.keep;
    since = base.since;
    gone = base.gone;
    covered = base.covered;
    format = base.format;
    spared = base.spared;
  }

  pub ended_base : (made : Made) → IsBase b (job_ended made l) h
  ended_base made = record {
    numbered = base.numbered;
    made = base.made;
    goes = base.goes;
    levels = base.levels;
    frozen = base.frozen;
    led = base.led;
    keep = base.keep;
    since = base.since;
    gone = base.gone;
    covered = base.covered;
    format = base.format;
    spared = base.spared;
  }

module _ (b : Base) (l : Layout) (disk : DiskState) (holds : Holds b l disk) where
  pub planned_holds : (job : Job) → Holds b (with_job job l) disk
  planned_holds job = record { base = holds.base; files = of; durable = holds.durable; lawful = holds.lawful }
    where
      of : HoldsFiles b (with_job job l) disk
      of = record { logs = holds.files.logs; tables = holds.files.tables; flushed = holds.files.flushed }

  pub drawn_holds : Holds b (drawn l) disk
  drawn_holds = record { base = holds.base; files = of; durable = holds.durable; lawful = holds.lawful }
    where
      of : HoldsFiles b (drawn l) disk
      of = record { logs = holds.files.logs; tables = holds.files.tables; flushed = holds.files.flushed }

  pub ended_holds : (made : Made) → Holds b (job_ended made l) disk
  ended_holds made = record { base = holds.base; files = of; durable = holds.durable; lawful = holds.lawful }
    where
      of : HoldsFiles b (job_ended made l) disk
      of = record { logs = holds.files.logs; tables = holds.files.tables; flushed = holds.files.flushed }
