-- What is scanned through a name.
use Rattle.std.proofs.Common.{◌≡◌, ℕ, true, ◌&&◌, List, [], ◌∷◌, ◌++◌, length, refl, ap, sym, ◌∙◌, subst}
use Rattle.std.specs.Prelude.{Option, Some, nat_le}
use Rattle.std.specs.FinMap.{entries, entries-from_sorted, entries_sorted, from_sorted, same_entries_map}
use Rattle.vl_reads.specs.Past.{beginning}
use Rattle.vl_reads.specs.Reading.{OnlyNotes, rows_under}
use Rattle.vl_version.specs.LiesOver.{IsInMemory}
use Rattle.vl_engine_laws.specs.Represents.{IsLive}
use Rattle.vl_reads.specs.Sees.{Sees, asked}
use Rattle.vl_reads.specs.declared.txn.Txn.{Txn}
use Rattle.vl_engine_model.specs.AtAnswer.{Beginning}
use Rattle.vl_engine_model.specs.Rulings.Commit.{Transaction as ATxn}
use Rattle.vl_engine_model.specs.Store.Commits.{AreProper, history_in}
use Rattle.vl_engine_model.specs.Store.Lines.{Invalid, Name, Rows}
use Rattle.vl_engine_model.specs.Store.Reading.{noted_scan, rows_told, scan_by, scan_of, scanned_rows}
use Rattle.vl_engine_model.specs.Store.Things as store
use Rattle.vl_engine_model.specs.Store.Things.{ATransaction, Step, only, thing_in}
use Rattle.vl_model.specs.History.{contents_at}
use Rattle.vl_model.specs.Keys.{Row, Writes, key_cmp}
use Rattle.vl_model.specs.Limits.{max_key_bytes}
use Rattle.vl_model.specs.Reads.{RangeRead, Read, Scan, rows_of}
use Rattle.vl_model.specs.declared.way.Way.{Way}
use Rattle.vl_txn.specs.Reads as noting
use Rattle.vl_replay_laws.specs.Standing.{IsTaken, IsTransaction, ReadsNoTable, Stand}
use Rattle.vl_replay_laws.specs.declared.open.Open.{Open}
use Rattle.vl_replay_laws.specs.declared.open.Thing.TheVariants.{Transaction}
use Rattle.vl_script_model.specs.laws.Explained.{rows_are}
use Rattle.vl_replay_laws.specs.laws.Names.Lookups.{on_true}
use Rattle.vl_replay_laws.specs.laws.Names.Reading.{put_back}

pub same_writes : (writes : Writes) → from_sorted (entries writes) ≡ writes
same_writes writes = same_entries_map (from_sorted (entries writes)) writes
    (entries-from_sorted key_cmp (entries writes) (entries_sorted writes))

module _ {H R : Type 0} (bytes : H → Option (List ℕ)) (s : store.State) (proper : AreProper s.commits) (os left : List (Open H R))
    (stand : Stand bytes os s.things (history_in s.commits) s.layout) (name : Name) (txn new : Txn H R)
    (taken : IsTaken os left name (Some (Transaction txn))) (way : Way) (low high : List ℕ) (limit : ℕ)
    (fits : (nat_le (length low) max_key_bytes && nat_le (length high) max_key_bytes) ≡ true) (keeps : OnlyNotes txn new)
    (t : ATxn) (b : Beginning) (there : thing_in s.things name ≡ Some (ATransaction t b))
    (is : IsTransaction bytes txn t (history_in s.commits) s.layout) (began : beginning txn.past ≡ b) (rows : List Row)
    (rows_is : rows ≡ rows_under txn.writes (history_in s.commits) txn.number low high limit way)
    (sees : Sees bytes new (history_in s.commits) (noting.with_scan t.reads (noting.scan_of low high limit way rows txn.writes))) where
  abbrev scanning : Step
  scanning = scan_by s way name low high limit (thing_in s.things name)

  abbrev behind : List (Open H R)
  behind = left ++ record { name = name; thing = Transaction new } ∷ []

  -- the store's rows are these
  own : from_sorted t.writes ≡ txn.writes
  own = ap (λ (u : ATxn). from_sorted {R = key_cmp} u.writes) (sym is.same) ∙ same_writes txn.writes

  scan_is : scan_of way low high limit t.writes ≡ noting.scan_of low high limit way [] txn.writes
  scan_is = ap (λ (w : Writes). noting.scan_of low high limit way [] w) own

  store_rows : scanned_rows s way low high limit t.writes t.number ≡ rows
  store_rows =
      ap (λ (u : ATxn). scanned_rows s way low high limit u.writes u.number) (sym is.same)
      ∙ rows_are s proper way low high limit (entries txn.writes) txn.number (entries_sorted txn.writes)
      ∙ ap (λ (w : Writes). rows_of (contents_at (history_in s.commits) txn.number)
      (noting.scan_of low high limit way [] w)) (same_writes txn.writes)
      ∙ sym rows_is

  abbrev noted : List Read
  noted = t.reads ++ RangeRead
      (record (scan_of way low high limit t.writes) { rows = scanned_rows s way low high limit t.writes t.number }) ∷ []

  noted_is : noted ≡ noting.with_scan t.reads (noting.scan_of low high limit way rows txn.writes)
  noted_is = ap (λ (r : Read). t.reads ++ r ∷ [])
      (ap (λ (x : Scan). RangeRead (record x { rows = scanned_rows s way low high limit t.writes t.number })) scan_is
      ∙ ap (λ (rs : List Row). RangeRead (noting.scan_of low high limit way rs txn.writes)) store_rows)

  step_is : scanning ≡ noted_scan s name t b (scan_of way low high limit t.writes) (scanned_rows s way low high limit t.writes t.number)
  step_is = ap (scan_by s way name low high limit) there
      ∙ on_true (nat_le (length low) max_key_bytes && nat_le (length high) max_key_bytes)
      (noted_scan s name t b (scan_of way low high limit t.writes)
      (scanned_rows s way low high limit t.writes t.number)) (only Invalid s) fits

  pub scan_answer : scanning.answer ≡ Rows (rows_told rows)
  scan_answer = ap (λ (x : Step). x.answer) step_is ∙ ap (λ (rs : List Row). Rows (rows_told rs)) store_rows

  pub scan_names : Stand bytes behind scanning.state.things (history_in s.commits) s.layout
  scan_names = subst (λ (x : Step). Stand bytes behind x.state.things (history_in s.commits) s.layout) (sym step_is)
      (put_back bytes (history_in s.commits) s.layout os left s.things name (Transaction txn) (Transaction new) (ATransaction t b)
      (ATransaction (record t { reads = noted }) b) stand taken there refl (
        (record {
          same = ap (λ (x : Txn H R). asked x noted) keeps ∙ ap (λ (u : ATxn). record u { reads = noted }) is.same;
          sees = subst (Sees bytes new (history_in s.commits)) (sym noted_is) sees;
          live = subst (λ (x : Txn H R). IsLive s.layout x.ticket x.number) (sym keeps) is.live;
          near = subst (λ (x : Txn H R). ReadsNoTable x.ticket s.layout → IsInMemory x.version) (sym keeps) is.near;
        }),
        ap (λ (x : Txn H R). beginning x.past) keeps ∙ began,
      ))
