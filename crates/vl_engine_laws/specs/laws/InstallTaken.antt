-- The files of a merge's tables as the disk takes them back, one after the other: it goes on holding the layout, and then each of the
-- tables stands. Whatever a crash leaves meanwhile shows the history.
use Rattle.std.specs.Prelude.{◌≡◌, ◌⊎◌, List, [], ◌∷◌}
use Rattle.std.specs.List.{AllByRecursion}
use Rattle.std.proofs.Common.{subst, sym, arith, inl, ⊎_elim}
use Rattle.vl_disk.specs.DiskState.{DiskState, settled}
use Rattle.vl_disk.specs.Lending.{adopted}
use Rattle.vl_disk.specs.Name.{IsNumbered}
use Rattle.vl_disk.specs.declared.name.Name.TheVariants as names
use Rattle.vl_engine_laws.specs.Files.{HoldsTable, IsTableFile, bytes_of_table}
use Rattle.vl_engine_laws.specs.Held.{Base, Holds, IsBase}
use Rattle.vl_engine_laws.specs.Pointed.{layout_logs}
use Rattle.vl_engine_laws.specs.Shown.{LeavesBetween}
use Rattle.vl_engine_laws.specs.laws.HeldLaws.{held_opens_again, needed_shows}
use Rattle.vl_engine_laws.specs.laws.InstallBeside.{adopted_holds, adopted_keeps, adopted_stands, adopting_leaves}
use Rattle.vl_engine_laws.specs.laws.KeptLaws.{AreOtherTables}
use Rattle.vl_engine_model.specs.Sources.{tables}
use Rattle.vl_engine_model.specs.Tidy.{IsTidy}
use Rattle.vl_engine_model.specs.declared.layout.Layout.{Layout}
use Rattle.vl_engine_model.specs.declared.table.Table.{Table}
use Rattle.vl_model.specs.History.{History, last_number}
use Rattle.vl_recover.specs.crash.Starts.{MayOpen}

-- the disk with the files of these tables, each of them durable
abbrev pub with_tables : List Table → DiskState → DiskState
with_tables [] disk = disk
with_tables (t ∷ ts) disk = with_tables ts (adopted (names.Table t.number) (settled (bytes_of_table t)) disk)

-- what it may be meanwhile
abbrev pub WhileTakingTables : List Table → DiskState → DiskState → Type 0
WhileTakingTables [] disk now = now ≡ disk
WhileTakingTables (t ∷ ts) disk now =
    (now ≡ disk) ⊎ WhileTakingTables ts (adopted (names.Table t.number) (settled (bytes_of_table t)) disk) now

-- a table's number is one that files may have, and none of these tables' numbers
pub record IsApart (others : List Table) (t : Table) : Type 0 where
  pub numbered : IsNumbered (names.Table t.number)
  pub apart : AreOtherTables (names.Table t.number) others

-- each of these has a number of its own
abbrev pub AreApart : List Table → Type 0
AreApart [] = Unit {0}
AreApart (t ∷ ts) = AreOtherTables (names.Table t.number) ts × AreApart ts

module _ (b : Base) (l : Layout) (h : History) (base : IsBase b l h) (tidy : IsTidy (layout_logs l) l h) where
  -- The disk holds the layout,
  pub taken_holds : (ts : List Table) (disk : DiskState) → AllByRecursion (IsApart (tables l)) ts → Holds b l disk
      → Holds b l (with_tables ts disk)
  taken_holds [] disk apart holds = holds
  taken_holds (t ∷ ts) disk apart holds =
      taken_holds ts (adopted (names.Table t.number) (settled (bytes_of_table t)) disk) apart.1
      (adopted_holds b l h disk t.number base tidy holds apart.0.apart (bytes_of_table t) apart.0.numbered)

  -- tables that stand beside these stay,
  pub taken_keeps : (ts : List Table) (disk : DiskState) → AllByRecursion (IsApart (tables l)) ts → Holds b l disk
      → (us : List Table) → AllByRecursion (λ (t : Table). AreOtherTables (names.Table t.number) us) ts
      → AllByRecursion (HoldsTable disk) us → AllByRecursion (HoldsTable (with_tables ts disk)) us
  taken_keeps [] disk apart holds us beside stand = stand
  taken_keeps (t ∷ ts) disk apart holds us beside stand =
      taken_keeps ts (adopted (names.Table t.number) (settled (bytes_of_table t)) disk) apart.1
      (adopted_holds b l h disk t.number base tidy holds apart.0.apart (bytes_of_table t) apart.0.numbered) us beside.1
      (adopted_keeps b l h disk t.number base tidy holds apart.0.apart (bytes_of_table t) apart.0.numbered us beside.0 stand)

  -- and each of these stands.
  pub taken_stand : (ts : List Table) (disk : DiskState) → AllByRecursion (IsApart (tables l)) ts → AreApart ts
      → AllByRecursion IsTableFile ts → Holds b l disk → AllByRecursion (HoldsTable (with_tables ts disk)) ts
  taken_stand [] disk apart once files holds = tt
  taken_stand (t ∷ ts) disk apart once files holds =
      let mid = adopted (names.Table t.number) (settled (bytes_of_table t)) disk in
      let held = adopted_holds b l h disk t.number base tidy holds apart.0.apart (bytes_of_table t) apart.0.numbered in
      let stands : HoldsTable mid t = record {
        is = files.0;
        stands = adopted_stands b l h disk t.number base tidy holds apart.0.apart (bytes_of_table t) apart.0.numbered;
      } in (
        (taken_keeps ts mid apart.1 held (t ∷ []) (from_one ts once.0) (stands, tt)).0,
        taken_stand ts mid apart.1 once.1 files.1 held,
      )
    where
      from_one : (us : List Table) → AreOtherTables (names.Table t.number) us
          → AllByRecursion (λ (u : Table). AreOtherTables (names.Table u.number) (t ∷ [])) us
      from_one [] others = tt
      from_one (u ∷ us) others = (((λ e. others.0 (sym e)), tt), from_one us others.1)

  -- Whatever a crash leaves meanwhile shows the history,
  pub taking_leaves : (ts : List Table) (disk : DiskState) → AllByRecursion (IsApart (tables l)) ts → Holds b l disk
      → (now : DiskState) → WhileTakingTables ts disk now → LeavesBetween h h now
  taking_leaves [] disk apart holds now is = subst (LeavesBetween h h) (sym is) (λ image left. (
    last_number h,
    omega arith,
    omega arith,
    needed_shows b l h base tidy disk holds.base holds.files image left.left,
  ))
  taking_leaves (t ∷ ts) disk apart holds now during = ⊎_elim
      (λ (is : now ≡ disk).
      adopting_leaves b l h disk t.number base tidy holds apart.0.apart (bytes_of_table t) apart.0.numbered now (inl is))
      (λ (later : WhileTakingTables ts (adopted (names.Table t.number) (settled (bytes_of_table t)) disk) now).
      taking_leaves ts (adopted (names.Table t.number) (settled (bytes_of_table t)) disk) apart.1
      (adopted_holds b l h disk t.number base tidy holds apart.0.apart (bytes_of_table t) apart.0.numbered) now later)
      during

  -- and a store may be opened on the disk, if it stops there.
  pub taking_opens_again : (ts : List Table) (disk : DiskState) → AllByRecursion (IsApart (tables l)) ts → Holds b l disk
      → (now : DiskState) → WhileTakingTables ts disk now → MayOpen now
  taking_opens_again [] disk apart holds now is =
      subst MayOpen (sym is) (held_opens_again b l h base disk tidy.levels holds)
  taking_opens_again (t ∷ ts) disk apart holds now during = ⊎_elim
      (λ (is : now ≡ disk). subst MayOpen (sym is) (held_opens_again b l h base disk tidy.levels holds))
      (λ (later : WhileTakingTables ts (adopted (names.Table t.number) (settled (bytes_of_table t)) disk) now).
      taking_opens_again ts (adopted (names.Table t.number) (settled (bytes_of_table t)) disk) apart.1
      (adopted_holds b l h disk t.number base tidy holds apart.0.apart (bytes_of_table t) apart.0.numbered) now later)
      during
