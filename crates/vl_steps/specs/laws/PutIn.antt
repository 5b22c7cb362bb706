-- What an install that nothing stands against keeps, so that an engine may go on: the files that stand.
use Rattle.std.specs.Prelude.{◌≡◌, ◌≢◌, ◌<◌, ◌≤◌, ℕ, List, [], ◌∷◌, ◌++◌, Option, None, Some, IsSome, refl}
use Rattle.std.specs.FinMap.{get}
use Rattle.std.specs.List.{AllByRecursion}
use Rattle.std.specs.Option.{ForSome}
use Rattle.std.proofs.Common.{sym, ap, subst, ◌∙◌, arith, ⊎_elim}
use Rattle.vl_disk.specs.Disk.{Stands}
use Rattle.vl_disk.specs.DiskState.{DiskState, File, appended}
use Rattle.vl_disk.specs.Faults.{HasCause, Rose}
use Rattle.vl_disk.specs.Lending.{adopted}
use Rattle.vl_disk.specs.declared.name.Name.TheVariants as names
use Rattle.vl_disk.specs.declared.name.Name.{Name}
use Rattle.vl_disk.specs.declared.watched.Watched.{Ghosts}
use Rattle.vl_disk.specs.declared.writer.Writer.{Ghosts as Writers}
use Rattle.vl_disk.specs.laws.NameMap.{get_inserted_other}
use Rattle.vl_disk.specs.laws.Standing.{holds_after}
use Rattle.vl_compact.specs.declared.files.Synced.{Synced}
use Rattle.vl_compact.specs.declared.ready.ReadyLevels.{ReadyLevels}
use Rattle.vl_steps.specs.laws.Fitting.{fit_for, fit_halted}
use Rattle.vl_steps.specs.laws.KeptBy.{files_in_part, files_switched, fit_by}
use Rattle.vl_engine_laws.specs.Fit.{IsFitFor}
use Rattle.vl_steps.specs.Installing.{InstallsAll, StopsInstalling, StopsSwitching}
use Rattle.vl_engine_laws.specs.Lent.{AreLent}
use Rattle.vl_steps.specs.Taking.{StopsTaking, Takes, file_of_table, with_files}
use Rattle.vl_engine_laws.specs.declared.kept.Core.{Core}
use Rattle.vl_manifest.specs.Switching.{switched}

-- ---- no merge is open

pub none_open : {D : Type 0} (g : Ghosts D) (disk : D) (next : ℕ) → AreLent g disk next None
none_open g disk next o is = absurd (never is)
  where
    never : None ≡ Some o → ⊥
    never e = cc

-- ---- faults

-- what is counted behind calls that changed nothing and passed
pub quiet_then : (before mid now : ℕ) (P Q : Type 0) → HasCause before mid ⊥ → HasCause mid now P → (P → Q) → (Q → P)
    → HasCause before now Q
quiet_then before mid now P Q quiet second to from =
    let same : mid ≡ before = quiet.steady (λ none. none) in
    record {
      later = let later = second.later in omega (arith, later, same);
      rose = λ is. subst (λ (n : ℕ). Rose n now) same (second.rose (from is));
      steady = λ fine. second.steady (λ is. fine (to is)) ∙ same;
    }

-- ---- files

table_log : (n m : ℕ) → names.Log m ≡ names.Table n → ⊥
table_log n m e = cc

table_manifest : (n m : ℕ) → names.Manifest m ≡ names.Table n → ⊥
table_manifest n m e = cc

table_other : (next n m : ℕ) → m < next → next ≤ n → names.Table n ≡ names.Table m → ⊥
table_other next n m given from e = let same : n ≡ m = cc in omega (arith, given, from, same)

module _ {W : Type 0} (w : Writers W) {s : _} where
  -- the name is none of these tables'
  abbrev pub IsBeside : Name → List (Synced W s) → Type 0
  IsBeside name ts = AllByRecursion (λ (t : Synced W s). name ≢ names.Table t.number) ts

  -- the numbers of these were given
  abbrev pub AreGiven : ℕ → List (Synced W s) → Type 0
  AreGiven next ts = AllByRecursion (λ (t : Synced W s). t.number < next) ts

  pub beside_same : (ts : List (Synced W s)) (name : Name) → IsBeside name ts → (disk : DiskState)
      → get (with_files w ts disk).standing name ≡ get disk.standing name
  beside_same [] name apart disk = refl
  beside_same (t ∷ ts) name apart disk =
      beside_same ts name apart.1 (adopted (names.Table t.number) (file_of_table w t) disk)
      ∙ get_inserted_other disk.standing (names.Table t.number) (file_of_table w t) name apart.0

  log_beside : (ts : List (Synced W s)) (n : ℕ) → IsBeside (names.Log n) ts
  log_beside [] n = tt
  log_beside (t ∷ ts) n = ((λ e. table_log t.number n e), log_beside ts n)

  manifest_beside : (ts : List (Synced W s)) (n : ℕ) → IsBeside (names.Manifest n) ts
  manifest_beside [] n = tt
  manifest_beside (t ∷ ts) n = ((λ e. table_manifest t.number n e), manifest_beside ts n)

  table_beside : (next : ℕ) (ts : List (Synced W s)) (n : ℕ) → AreGiven next ts → next ≤ n → IsBeside (names.Table n) ts
  table_beside next [] n given from = tt
  table_beside next (t ∷ ts) n given from =
      ((λ e. table_other next n t.number given.0 from e), table_beside next ts n given.1 from)

  given_front : (next : ℕ) (ts us : List (Synced W s)) → AreGiven next (ts ++ us) → AreGiven next ts
  given_front next [] us given = tt
  given_front next (t ∷ ts) us given = (given.0, given_front next ts us given.1)

  module _ {H : Type 0} (core : Core H) (ts : List (Synced W s)) (given : AreGiven core.back.state.next_table ts) where
    stands_still : (name : Name) → IsBeside name ts → (disk : DiskState) → Stands name disk → Stands name (with_files w ts disk)
    stands_still name apart disk stands = subst (λ (o : Option File). IsSome o) (sym (beside_same ts name apart disk)) stands

    -- Where they are taken back, it is still so what an engine's next calls ask.
    fit_taken : (disk : DiskState) → IsFitFor core disk → IsFitFor core (with_files w ts disk)
    fit_taken disk fit = record {
      log = stands_still (names.Log core.front.log.number) (log_beside ts core.front.log.number) disk fit.log;
      steps = λ running. let steps = fit.steps running in record {
        manifest = stands_still (names.Manifest core.back.manifest.number) (manifest_beside ts core.back.manifest.number) disk
            steps.manifest;
        logs = λ n from. beside_same ts (names.Log n) (log_beside ts n) disk ∙ steps.logs n from;
        tables = λ n from. beside_same ts (names.Table n) (table_beside core.back.state.next_table ts n given from) disk
            ∙ steps.tables n from;
      };
    }

-- ---- an engine goes on

module _ {D H W : Type 0} (g : Ghosts D) (bytes : H → Option (List ℕ)) (w : Writers W) {s : _} (before after : Core H)
    (begun new : D) (fit : ForSome (g.told begun) (IsFitFor before)) (made : List (Synced W s))
    (given : AreGiven w before.back.state.next_table made) (frame : List ℕ) (levels put : ReadyLevels H)
    (log : after.front.log ≡ before.front.log) where
  fit_front : (front back : List (Synced W s)) → made ≡ front ++ back → (mid : D) → Takes g w front begun mid
      → ForSome (g.told mid) (IsFitFor before)
  fit_front front back are mid takes =
      holds_after (with_files w front) (g.told begun) (g.told mid) (IsFitFor before) (IsFitFor before) takes.changed
      (fit_taken w before front
      (given_front w before.back.state.next_table front back (subst (AreGiven w before.back.state.next_table) are given))) fit

  -- Behind an install it is so what its next calls ask,
  pub fit_installed : InstallsAll g bytes w made before.back.manifest.number frame begun new levels put
      → before.front.halted ≡ None → after.back.manifest.number ≡ before.back.manifest.number
      → after.back.next_log ≡ before.back.next_log → after.back.state.next_table ≡ before.back.state.next_table
      → ForSome (g.told new) (IsFitFor after)
  fit_installed writes running manifest next_log next_table =
      fit_by before after log (λ _. running) manifest next_log next_table (switched before.back.manifest.number frame)
      (g.told writes.mid) (g.told writes.mid) (g.told new) refl writes.switches.performs.done
      (files_switched before.back.manifest.number frame)
      (fit_front writes.took.front [] writes.took.made_are writes.mid writes.took.takes)

  -- and where it failed the log of commits stands.
  pub fit_uninstalled : (name : Name) → StopsInstalling g bytes w made before.back.manifest.number frame begun new levels put name
      → after.front.halted ≡ Some name → ForSome (g.told new) (IsFitFor after)
  fit_uninstalled name stops halted =
      fit_halted after name halted (g.told new)
      (λ disk is. subst (λ (n : ℕ). Stands (names.Log n) disk) (sym (ap (λ x. x.number) log)) ((still disk is).log))
    where
      still : ForSome (g.told new) (IsFitFor before)
      still = ⊎_elim
          (λ (stops : StopsTaking g w made begun new name).
          fit_front (stops.before ++ stops.at ∷ []) stops.left (stops.made_are ∙ parted stops.before stops.at stops.left) new stops.takes)
          (λ (stops : StopsSwitching g bytes w made before.back.manifest.number frame begun new levels put name).
          let (taken, within, changed) = stops.switches.failed in
          holds_after (appended (names.Manifest before.back.manifest.number) frame taken) (g.told stops.mid) (g.told new)
          (IsFitFor before) (IsFitFor before) changed
          (λ disk fit. fit_for disk (appended (names.Manifest before.back.manifest.number) frame taken disk)
          (files_in_part before.back.manifest.number frame taken disk) before fit)
          (fit_front stops.took.front [] stops.took.made_are stops.mid stops.took.takes))
          stops
        where
          parted : (fs : List (Synced W s)) (t : Synced W s) (bs : List (Synced W s)) → fs ++ t ∷ bs ≡ (fs ++ t ∷ []) ++ bs
          parted [] t bs = refl
          parted (f ∷ fs) t bs = ap (λ (ts : List (Synced W s)). f ∷ ts) (parted fs t bs)
