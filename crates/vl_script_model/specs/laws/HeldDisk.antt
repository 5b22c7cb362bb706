-- A disk that holds what an engine represents holds the state for which it stands.
use Rattle.std.proofs.Common.{◌≡◌, ◌≤◌, ◌+◌, ℕ, List, sym, ap, subst, arith}
use Rattle.std.specs.Prelude.{IsTrue, Option, None, Some}
use Rattle.vl_disk.specs.DiskState.{DiskState}
use Rattle.vl_engine_laws.specs.Held.{AreBegun, Base, Holds, IsBase}
use Rattle.vl_engine_laws.specs.Pointed.{layout_logs}
use Rattle.vl_engine_laws.specs.Represents as engine
use Rattle.vl_engine_laws.specs.declared.kept.Core.{Core}
use Rattle.vl_engine_model.specs.Tidy.{IsTidy}
use Rattle.vl_engine_model.specs.declared.layout.Layout.{Layout}
use Rattle.vl_manifest.specs.declared.state.ManifestState.{ManifestState}
use Rattle.vl_model.specs.History.{History}
use Rattle.vl_script_model.specs.Durable.{without_merges}
use Rattle.vl_script_model.specs.Sequential.{State, history_of}
use Rattle.vl_script_model.specs.Stopped.{AreNumberedUpTo, GivesUpTo}
use Rattle.vl_script_model.specs.Stored.{IsStored}

-- by a base of its layout
pub stored_as : (t : State) (now : DiskState) (base : Base) (k : History) (m : Layout) → t.store.layout ≡ m → history_of t ≡ k
    → IsTrue t.openable → IsBase base m k → Holds base m now → IsTidy (layout_logs m) m k → base.state.next_table ≤ m.next_table
    → AreBegun base.state.next_table m.next_table now → AreNumberedUpTo t.files now → GivesUpTo t.files base.state
    → m.next_log ≤ t.files + 1 → m.next_table ≤ t.files + 1 → IsStored t now
stored_as t now base k m layout history openable is holds tidy next_table begun numbered next next_log drawn = record {
  openable = openable;
  base = base;
  is_base = subst (λ (p : Layout). IsBase base p (history_of t)) (sym layout)
      (subst (λ (q : History). IsBase base m q) (sym history) is);
  holds = subst (λ (p : Layout). Holds base p now) (sym layout) holds;
  tidy = subst (λ (p : Layout). IsTidy (layout_logs p) p (history_of t)) (sym layout)
      (subst (λ (q : History). IsTidy (layout_logs m) m q) (sym history) tidy);
  next_table = subst (λ (p : Layout). base.state.next_table ≤ p.next_table) (sym layout) next_table;
  begun = subst (λ (p : Layout). AreBegun base.state.next_table p.next_table now) (sym layout) begun;
  numbered = numbered;
  next = next;
  next_log = subst (λ (p : Layout). p.next_log ≤ t.files + 1) (sym layout) next_log;
  next_drawn = subst (λ (p : Layout). p.next_table ≤ t.files + 1) (sym layout) drawn;
}

-- by what the engine represents, whose manifest gives no number above the next log's
pub stored_by : {H : Type 0} (bytes : H → Option (List ℕ)) (core : Core H) (told : Option DiskState) (t : State) (k : History)
    (m : Layout) → t.store.layout ≡ m → history_of t ≡ k → IsTrue t.openable → m.halted ≡ None
    → engine.Represents bytes core told k m → core.back.state.next_log ≤ core.back.next_log
    → m.next_log ≤ t.files + 1 → m.next_table ≤ t.files + 1 → ((now : DiskState) → told ≡ Some now → AreNumberedUpTo t.files now)
    → (now : DiskState) × (told ≡ Some now) × IsStored t now
stored_by bytes core told t k m layout history openable running represents within log table numbered =
    let its = represents.held running in
    let state : its.base.state.next_log ≡ core.back.state.next_log = ap (λ (x : ManifestState). x.next_log) (sym its.back_is.state) in
    let next : core.back.next_log ≡ m.next_log = its.back_is.next_log in
    let given = its.back_is.next_table in (
      its.state,
      its.told_is,
      stored_as t its.state its.base k m layout history openable its.is_base its.holds represents.stands.tidy
          its.back_is.next_table its.begun
          (numbered its.state its.told_is)
          (record { log = omega (arith, state, within, next, log); table = omega (arith, given, table) }) log table,
    )

-- ---- merges that were given up

-- what lives, and what merges leave beside a layout, isn't on the disk
base_beside : (b : Base) (l : Layout) (h : History) → IsBase b l h → IsBase b (without_merges l) h
base_beside b l h is = record {
  numbered = is.numbered;
  made = is.made;
  goes = is.goes;
  levels = is.levels;
  frozen = is.frozen;
  led = is.led;
  keep = is.keep;
  since = is.since;
  gone = is.gone;
  spared = is.spared;
  covered = is.covered;
  format = is.format;
}

base_again : (b : Base) (l : Layout) (h : History) → IsBase b (without_merges l) h → IsBase b l h
base_again b l h is = record {
  numbered = is.numbered;
  made = is.made;
  goes = is.goes;
  levels = is.levels;
  frozen = is.frozen;
  led = is.led;
  keep = is.keep;
  since = is.since;
  gone = is.gone;
  spared = is.spared;
  covered = is.covered;
  format = is.format;
}

holds_beside : (b : Base) (l : Layout) (disk : DiskState) → Holds b l disk → Holds b (without_merges l) disk
holds_beside b l disk held = record {
  base = held.base;
  files = record { logs = held.files.logs; tables = held.files.tables; flushed = held.files.flushed };
  durable = held.durable;
  lawful = held.lawful;
}

holds_again : (b : Base) (l : Layout) (disk : DiskState) → Holds b (without_merges l) disk → Holds b l disk
holds_again b l disk held = record {
  base = held.base;
  files = record { logs = held.files.logs; tables = held.files.tables; flushed = held.files.flushed };
  durable = held.durable;
  lawful = held.lawful;
}

-- A disk that holds a state holds another one, which is beside it but for what lives and for merges that were given up.
pub stored_beside : (s t : State) (disk : DiskState) → history_of t ≡ history_of s
    → without_merges t.store.layout ≡ without_merges s.store.layout
    → t.store.layout.next_table ≡ s.store.layout.next_table → t.files ≡ s.files → IsTrue s.openable
    → IsTidy (layout_logs s.store.layout) s.store.layout (history_of s) → IsStored t disk → IsStored s disk
stored_beside s t disk history beside numbers files openable tidy stored =
    let l : Layout = s.store.layout in
    let log : t.store.layout.next_log ≡ l.next_log = ap (λ (m : Layout). m.next_log) beside in
    record {
      openable = openable;
      base = stored.base;
      is_base = subst (IsBase stored.base l) history (base_again stored.base l (history_of t)
          (subst (λ (m : Layout). IsBase stored.base m (history_of t)) beside
          (base_beside stored.base t.store.layout (history_of t) stored.is_base)));
      holds = holds_again stored.base l disk (subst (λ (m : Layout). Holds stored.base m disk) beside
          (holds_beside stored.base t.store.layout disk stored.holds));
      tidy = tidy;
      next_table = subst (λ (n : ℕ). stored.base.state.next_table ≤ n) numbers stored.next_table;
      begun = subst (λ (n : ℕ). AreBegun stored.base.state.next_table n disk) numbers stored.begun;
      numbered = subst (λ (n : ℕ). AreNumberedUpTo n disk) files stored.numbered;
      next = subst (λ (n : ℕ). GivesUpTo n stored.base.state) files stored.next;
      next_log = (let le = stored.next_log in omega (arith, le, log, files));
      next_drawn = (let le = stored.next_drawn in omega (arith, le, numbers, files));
    }
