-- What the ruling on an install leaves of a layout and of its names.
use Rattle.std.proofs.Common.{◌≡◌, ℕ, ◌-◌, ◌==◌, Bool, true, false, cond, not, List, [], ◌∷◌, ◌++◌, map, refl, ap, sym, ◌∙◌}
use Rattle.std.specs.List.{filter, flat_map}
use Rattle.std.specs.Prelude.{Option, None, Some}
use Rattle.vl_engine_laws.specs.Represents.{IsLive}
use Rattle.vl_engine_model.specs.Jobs.{Made, job_ended, loose}
use Rattle.vl_engine_model.specs.Levels.{at_level, in_key_order, is_among, is_before, replaced, without}
use Rattle.vl_engine_model.specs.Ruling.{Ruling, has_no_epoch, is_idle, leaving, retired_at}
use Rattle.vl_engine_model.specs.Rulings.Sweep.{is_held}
use Rattle.vl_engine_model.specs.Rulings.Install as rulings
use Rattle.vl_engine_model.specs.Rulings.Install.{InstallAnswer, install_checked, install_ruling, install_unless, installed}
use Rattle.vl_engine_model.specs.Rulings.Install.{moved_since, race}
use Rattle.vl_engine_model.specs.Sources.{log_of, rising, table_of, tables}
use Rattle.vl_engine_model.specs.declared.file_name.FileName.{FileName}
use Rattle.vl_engine_model.specs.declared.file_name.Retired.{Retired}
use Rattle.vl_engine_model.specs.declared.job.Job.{Job}
use Rattle.vl_engine_model.specs.declared.job.Target.{Target}
use Rattle.vl_engine_model.specs.declared.job.Target.TheVariants.{InPlace, Level}
use Rattle.vl_engine_model.specs.declared.layout.Layout.{Layout}
use Rattle.vl_engine_model.specs.declared.live.Pin.{Pin}
use Rattle.vl_engine_model.specs.declared.table.Table.{Table}
use Rattle.vl_model.specs.Conflicts.{Named}
use Rattle.vl_model.specs.History.{History}
use Rattle.vl_model.specs.declared.counter.Counter.TheVariants as counter
use Rattle.vl_replay_laws.specs.Standing.{ReadsNoTable, is_held_table, pins_at}
use Rattle.vl_replay_laws.specs.laws.Names.StepMaking.{none_before}
use Rattle.vl_replay_laws.specs.laws.Names.Untabled.{ArePinnedUpTo, held_then}

-- ---- lists that have nothing

both_none : (xs ys : List Table) → xs ++ ys ≡ [] → (xs ≡ []) × (ys ≡ [])
both_none [] ys none = (refl, none)
both_none (x ∷ xs) ys none = absurd cc

none_of_both : (xs ys : List Table) → xs ≡ [] → ys ≡ [] → xs ++ ys ≡ []
none_of_both xs ys none nothing = ap (λ (us : List Table). us ++ ys) none ∙ nothing

none_then : (p : Table → Bool) (xs ys : List Table) → filter p (xs ++ ys) ≡ [] → (filter p xs ≡ []) × (filter p ys ≡ [])
none_then p [] ys none = (refl, none)
none_then p (x ∷ xs) ys none = by (p x) none (none_then p xs ys)
  where
    by : (b : Bool) → cond b (x ∷ filter p (xs ++ ys)) (filter p (xs ++ ys)) ≡ []
        → (filter p (xs ++ ys) ≡ [] → (filter p xs ≡ []) × (filter p ys ≡ []))
        → (cond b (x ∷ filter p xs) (filter p xs) ≡ []) × (filter p ys ≡ [])
    by true none later = absurd cc
    by false none later = later none

-- none passes a test, and none fails it
none_either : (p : Table → Bool) (ts : List Table) → filter (λ (t : Table). not (p t)) ts ≡ [] → filter p ts ≡ [] → ts ≡ []
none_either p [] fails passes = refl
none_either p (t ∷ ts) fails passes = by (p t) fails passes
  where
    by : (b : Bool) → cond (not b) (t ∷ filter (λ (u : Table). not (p u)) ts) (filter (λ (u : Table). not (p u)) ts) ≡ []
        → cond b (t ∷ filter p ts) (filter p ts) ≡ [] → t ∷ ts ≡ []
    by true fails passes = absurd cc
    by false fails passes = absurd cc

-- ---- levels

abbrev all_of : List (List Table) → List Table
all_of levels = flat_map (λ (ts : List Table). ts) levels

ordered_none : (new ts : List Table) → in_key_order new ts ≡ [] → ts ≡ []
ordered_none new [] none = refl
ordered_none new (t ∷ ts) none = by (is_before t new) none
  where
    behind : (us : List Table) → us ++ t ∷ ts ≡ [] → t ∷ ts ≡ []
    behind [] none = none
    behind (u ∷ us) none = absurd cc

    by : (b : Bool) → cond b (t ∷ in_key_order new ts) (new ++ t ∷ ts) ≡ [] → t ∷ ts ≡ []
    by true none = absurd cc
    by false none = behind new none

-- where some were put into a level, and there are none, there were none
put_none : (new : List Table) (n : ℕ) (levels : List (List Table)) → all_of (at_level n (in_key_order new) levels) ≡ [] → all_of levels ≡ []
put_none new n [] none = refl
put_none new n (ts ∷ deeper) none = by (n == 0) none (put_none new (n - 1) deeper)
  where
    by : (b : Bool) → all_of (cond b (in_key_order new ts ∷ deeper) (ts ∷ at_level (n - 1) (in_key_order new) deeper)) ≡ []
        → (all_of (at_level (n - 1) (in_key_order new) deeper) ≡ [] → all_of deeper ≡ []) → ts ++ all_of deeper ≡ []
    by true none later =
        let both = both_none (in_key_order new ts) (all_of deeper) none in
        none_of_both ts (all_of deeper) (ordered_none new ts both.0) both.1
    by false none later =
        let both = both_none ts (all_of (at_level (n - 1) (in_key_order new) deeper)) none in
        none_of_both ts (all_of deeper) both.0 (later both.1)

-- where some were taken out, there are none, and none was among them, there were none
left_none : (inputs : List ℕ) (levels : List (List Table)) → all_of (map (without inputs) levels) ≡ []
    → filter (is_among inputs) (all_of levels) ≡ [] → all_of levels ≡ []
left_none inputs [] none among = refl
left_none inputs (ts ∷ deeper) none among =
    let both = both_none (without inputs ts) (all_of (map (without inputs) deeper)) none in
    let split = none_then (is_among inputs) ts (all_of deeper) among in
    none_of_both ts (all_of deeper) (none_either (is_among inputs) ts both.0 split.0) (left_none inputs deeper both.1 split.1)

-- so it is where others stand in their place
abbrev in_place : List ℕ → List Table → Table → List Table
in_place inputs new t = cond (is_among inputs t) new (t ∷ [])

placed_none : (inputs : List ℕ) (new ts : List Table) → flat_map (in_place inputs new) ts ≡ [] → filter (is_among inputs) ts ≡ [] → ts ≡ []
placed_none inputs new [] none among = refl
placed_none inputs new (t ∷ ts) none among = by (is_among inputs t) none among
  where
    by : (b : Bool) → cond b new (t ∷ []) ++ flat_map (in_place inputs new) ts ≡ []
        → cond b (t ∷ filter (is_among inputs) ts) (filter (is_among inputs) ts) ≡ [] → t ∷ ts ≡ []
    by true none among = absurd cc
    by false none among = absurd cc

all_placed_none : (inputs : List ℕ) (new : List Table) (levels : List (List Table))
    → all_of (map (flat_map (in_place inputs new)) levels) ≡ []
    → filter (is_among inputs) (all_of levels) ≡ [] → all_of levels ≡ []
all_placed_none inputs new [] none among = refl
all_placed_none inputs new (ts ∷ deeper) none among =
    let both = both_none (flat_map (in_place inputs new) ts) (all_of (map (flat_map (in_place inputs new)) deeper)) none in
    let split = none_then (is_among inputs) ts (all_of deeper) among in
    none_of_both ts (all_of deeper) (placed_none inputs new ts both.0 split.0) (all_placed_none inputs new deeper both.1 split.1)

replaced_none : (target : Target) (inputs : List ℕ) (new : List Table) (levels : List (List Table))
    → all_of (replaced target inputs new levels) ≡ []
    → filter (is_among inputs) (all_of levels) ≡ [] → all_of levels ≡ []
replaced_none (Level n) inputs new levels none among =
    left_none inputs levels (put_none new n (map (without inputs) levels) none) among
replaced_none InPlace inputs new levels none among = all_placed_none inputs new levels none among

-- ---- what was dropped

retired_none : (p : Retired → Bool) (front back : List Retired) → filter p (front ++ back) ≡ [] → filter p back ≡ []
retired_none p [] back none = none
retired_none p (r ∷ front) back none = by (p r) none (retired_none p front back)
  where
    by : (b : Bool) → cond b (r ∷ filter p (front ++ back)) (filter p (front ++ back)) ≡ []
        → (filter p (front ++ back) ≡ [] → filter p back ≡ [])
        → filter p back ≡ []
    by true none later = absurd cc
    by false none later = later none

-- where no table stays for what holds each that is dropped, none was dropped
dropped_none : (ps : List Pin) (version : ℕ) → ((file : FileName) → is_held ps (retired_at version file) ≡ true) → (dropped : List Table)
    (logs : List FileName)
    → filter (is_held_table ps) (map (retired_at version) (map table_of dropped ++ logs)) ≡ [] → dropped ≡ []
dropped_none ps version held [] logs none = refl
dropped_none ps version held (t ∷ ts) logs none =
    absurd (none_some (sym (ap (λ (b : Bool). cond b (retired_at version (table_of t) ∷ rest) rest) (held (table_of t))) ∙ none))
  where
    rest : List Retired
    rest = filter (is_held_table ps) (map (retired_at version) (map table_of ts ++ logs))

    none_some : retired_at version (table_of t) ∷ rest ≡ [] → ⊥
    none_some e = cc

-- ---- the ruling

-- it isn't answered that the engine is halted
abbrev pub IsNoHalt : InstallAnswer → Type 0
IsNoHalt rulings.Installed = Unit {0}
IsNoHalt (rulings.Halted file) = ⊥
IsNoHalt (rulings.Raced key number) = Unit {0}
IsNoHalt (rulings.Exhausted c) = Unit {0}

-- the ruling leaves this of a layout
pub record InstallsOf (l : Layout) (h : History) (r : Ruling InstallAnswer) : Type 0 where
  pub history : r.history ≡ h
  pub job : r.layout.job ≡ None
  pub live : r.layout.live ≡ l.live
  pub bare : (ticket number : ℕ) → IsLive l ticket number → ReadsNoTable ticket r.layout → ReadsNoTable ticket l
  pub running : l.halted ≡ None → r.layout.halted ≡ None
  pub no_halt : l.halted ≡ None → IsNoHalt r.answer
  pub next_log : r.layout.next_log ≡ l.next_log
  pub next_table : r.layout.next_table ≡ l.next_table

module _ (l : Layout) (h : History) (job : Job) (made : Made) (early : ArePinnedUpTo l.epoch l.live) where
  ended_installs : (a : InstallAnswer) → (l.halted ≡ None → IsNoHalt a) → InstallsOf l h (leaving a h (job_ended made l))
  ended_installs a goes = record {
    history = refl;
    job = refl;
    live = refl;
    bare = λ ticket number lives none. (none.0, none_before (is_held_table (pins_at ticket l.live)) l.retired _ none.1);
    running = λ running. running;
    no_halt = goes;
    next_log = refl;
    next_table = refl;
  }

  -- the layout before files retire
  abbrev switching : Layout
  switching = rulings.put_in job made l

  abbrev dropped : List Table
  dropped = filter (is_among job.inputs) (tables l)

  abbrev logs : List FileName
  logs = map log_of (rising (filter (is_idle switching) switching.flushed))

  abbrev new_retired : List Retired
  new_retired = map (retired_at switching.epoch) (map table_of dropped ++ logs)

  installed_bare : (ticket number : ℕ) → IsLive l ticket number → ReadsNoTable ticket (installed job made l) → ReadsNoTable ticket l
  installed_bare ticket number lives none = (
    replaced_none job.target job.inputs made.tables l.levels none.0
        (dropped_none (pins_at ticket l.live) switching.epoch
        (λ file. held_then ticket number l.epoch file l.live early lives) dropped logs
        (retired_none (is_held_table (pins_at ticket l.live)) switching.retired new_retired none.1)),
    none_before (is_held_table (pins_at ticket l.live)) l.retired (loose made.leavings)
        (none_before (is_held_table (pins_at ticket l.live)) switching.retired new_retired none.1),
  )

  installed_installs : InstallsOf l h
      (record { answer = rulings.Installed; history = h; layout = installed job made l; calls = 2; gone = [] })
  installed_installs = record {
    history = refl;
    job = refl;
    live = refl;
    bare = installed_bare;
    running = λ running. running;
    no_halt = λ running. tt;
    next_log = refl;
    next_table = refl;
  }

  by_version : (b : Bool) → InstallsOf l h (cond b (leaving (rulings.Exhausted counter.Version) h (job_ended made l))
      (record { answer = rulings.Installed; history = h; layout = installed job made l; calls = 2; gone = [] }))
  by_version true = ended_installs (rulings.Exhausted counter.Version) (λ running. tt)
  by_version false = installed_installs

  by_race : (o : Option Named) → InstallsOf l h (install_checked l h job made o)
  by_race (Some named) = ended_installs (rulings.Raced named.0 named.1) (λ running. tt)
  by_race None = by_version (has_no_epoch l)

  pub install_installs : InstallsOf l h (install_ruling l h job made)
  install_installs = of l.halted refl
    where
      some_none : (file : FileName) → Some file ≡ None → ⊥
      some_none file e = cc

      of : (halted : Option FileName) → l.halted ≡ halted → InstallsOf l h (install_unless halted l h job made)
      of (Some file) is = ended_installs (rulings.Halted file) (λ running. absurd (some_none file (sym is ∙ running)))
      of None is = by_race (race job (moved_since l.job))
