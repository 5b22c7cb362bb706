-- What scans through a name make.
use Rattle.std.proofs.Common.{◌≡◌, ℕ, Bool, true, false, cond, ◌&&◌, List, [], ◌∷◌, ◌++◌, length, refl, ap, sym, ◌∙◌}
use Rattle.std.specs.Prelude.{Option, None, Some, Ok, Err, Result, IfOk, OnErr, nat_le}
use Rattle.std.specs.FinMap.{empty, from_sorted}
use Rattle.vl_disk.specs.DiskState.{DiskState}
use Rattle.vl_reads.specs.Reading.{IsRefusedBy, NotesNothing, OnlyNotes, OnlyReads, refused_bounds, rows_under}
use Rattle.vl_reads.specs.Sees.{Sees, SeesAlone}
use Rattle.vl_reads.specs.declared.fails.ReadFail.{ReadFail}
use Rattle.vl_reads.specs.declared.fails.ReadFail.TheVariants as unread
use Rattle.vl_engine_laws.specs.declared.kept.Core.{Core}
use Rattle.vl_reads.specs.declared.txn.Txn.{Txn}
use Rattle.vl_reads.specs.declared.view.View.{View as EngineView}
use Rattle.vl_engine_model.specs.Store.Lines as store_lines
use Rattle.vl_engine_model.specs.Store.Lines.{Name}
use Rattle.vl_engine_model.specs.Store.Reading.{rows_told, scan_by, scanned_rows}
use Rattle.vl_engine_model.specs.Store.Things.{Step, only, thing_of}
use Rattle.vl_model.specs.History.{History, contents_at}
use Rattle.vl_model.specs.Keys.{Row, Writes, key_cmp}
use Rattle.vl_model.specs.Limits.{max_key_bytes}
use Rattle.vl_model.specs.Reads.{Read, rows_of}
use Rattle.vl_model.specs.declared.change.Change.{Change}
use Rattle.vl_model.specs.declared.way.Way.{Way}
use Rattle.vl_txn.specs.Reads as noting
use Rattle.vl_txn.specs.declared.key_fail.KeyFail.{KeyFail}
use Rattle.vl_txn.specs.declared.key_fail.KeyFail.TheVariants.{EmptyKey, KeyTooLong}
use Rattle.vl_replay_laws.specs.Replaying.{MakesStep, StandsIn}
use Rattle.vl_script_model.specs.Sequential.{IsPrinted, State, history_of, without_lengths}
use Rattle.vl_replay_laws.specs.Standing.{IsTaken, read_answer}
use Rattle.vl_replay_laws.specs.declared.open.Open.{Open}
use Rattle.vl_replay_laws.specs.declared.open.Thing.TheVariants.{Transaction, View}
use Rattle.vl_script_model.specs.laws.Explained.{rows_are}
use Rattle.vl_script_model.specs.laws.Laws.{state_after-sound}
use Rattle.vl_script.specs.declared.answer.Answer.{Answer}
use Rattle.vl_script.specs.declared.answer.Answer.TheVariants as answers
use Rattle.vl_script.specs.declared.line.Line.TheVariants as lines
use Rattle.vl_replay_laws.specs.laws.Names.Ending.{no_entries}
use Rattle.vl_replay_laws.specs.laws.Names.Lookups.{on_false}
use Rattle.vl_replay_laws.specs.laws.Names.Making.{itself, its, only_makes, txn_back, view_back}
use Rattle.vl_replay_laws.specs.laws.Names.Quiet.{quiet_stands, scan_quiet}
use Rattle.vl_replay_laws.specs.laws.Names.ReadMaking.{bound_tests, bounds_refused}
use Rattle.vl_replay_laws.specs.laws.Names.Scanning.{same_writes, scan_answer, scan_names}

-- nothing written
pub no_writes : from_sorted [] ≡ empty {K = List ℕ} {X = Change} {R = key_cmp}
no_writes = ap (from_sorted {R = key_cmp}) (sym no_entries) ∙ same_writes empty

module _ {H R : Type 0} (bytes : H → Option (List ℕ)) (seen : Option DiskState) (core : Core H) (os : List (Open H R))
    (s : State) (stands : StandsIn bytes seen core os s)
    (left : List (Open H R)) (name : Name) (way : Way) (low high : List ℕ) (limit : ℕ) where
  abbrev h : History
  h = history_of s

  abbrev scanning : Step
  scanning = scan_by s.store way name low high limit (thing_of s.store name)

  abbrev within : Bool
  within = nat_le (length low) max_key_bytes && nat_le (length high) max_key_bytes

  -- a view's step, by whether the bounds fit
  abbrev view_step : ℕ → Bool → Step
  view_step number fits =
      cond fits (only (store_lines.Rows (rows_told (scanned_rows s.store way low high limit [] number))) s.store)
      (only store_lines.Invalid s.store)

  fit : refused_bounds low high ≡ None → within ≡ true
  fit is = bound_tests (nat_le (length low) max_key_bytes) (nat_le (length high) max_key_bytes) is

  unfit : (why : KeyFail) → refused_bounds low high ≡ Some why → within ≡ false
  unfit why is = bounds_refused (nat_le (length low) max_key_bytes) (nat_le (length high) max_key_bytes) why is

  module _ {V : Type 0} (items : V → List Row) (tell : V → Answer)
      (as_rows : (rows : V) → IsPrinted (tell rows) (store_lines.Rows (rows_told (items rows)))) where
    pub view_scan_makes : (view new : EngineView H R) → IsTaken os left name (Some (View view)) → OnlyReads view new
        → ((k : History) → SeesAlone bytes view k → SeesAlone bytes new k)
        → (result : Result V ReadFail) → IsRefusedBy (refused_bounds low high) result
        → ((k : History) → SeesAlone bytes view k → IfOk result (λ rows. items rows ≡ rows_under empty k view.number low high limit way))
        → MakesStep bytes seen core (left ++ record { name = name; thing = View new } ∷ []) s scanning (read_answer tell result)
    view_scan_makes view new taken keeps still result refused rows_are_so = of result refused
        (let (b, there, sees, live, near, began) = its bytes seen core os s stands left name view taken in rows_are_so h sees)
      where
        step_is : scanning ≡ view_step view.number within
        step_is = let (b, there, sees, live, near, began) = its bytes seen core os s stands left name view taken in ap
            (scan_by s.store way name low high limit) there

        store_rows : scanned_rows s.store way low high limit [] view.number ≡ rows_under empty h view.number low high limit way
        store_rows = rows_are s.store stands.sound.proper.commits way low high limit [] view.number tt
            ∙ ap (λ (w : Writes). rows_of (contents_at h view.number) (noting.scan_of low high limit way [] w)) no_writes

        invalid : (why : KeyFail) → refused_bounds low high ≡ Some why
            → MakesStep bytes seen core (left ++ record { name = name; thing = View new } ∷ []) s scanning (Ok answers.Invalid)
        invalid why is = only_makes bytes seen core os s stands (left ++ record { name = name; thing = View new } ∷ [])
            scanning answers.Invalid store_lines.Invalid (step_is ∙ ap (view_step view.number) (unfit why is)) refl
            (view_back bytes seen core os s stands left name view taken new keeps (still h))

        of : (result : Result V ReadFail) → IsRefusedBy (refused_bounds low high) result
            → IfOk result (λ rows. items rows ≡ rows_under empty h view.number low high limit way)
            → MakesStep bytes seen core (left ++ record { name = name; thing = View new } ∷ []) s scanning (read_answer tell result)
        of (Ok rows) refused is =
            only_makes bytes seen core os s stands (left ++ record { name = name; thing = View new } ∷ []) scanning
            (tell rows) (store_lines.Rows (rows_told (scanned_rows s.store way low high limit [] view.number)))
            (step_is ∙ ap (view_step view.number) (fit refused))
            (as_rows rows ∙ ap (λ (rs : List Row). store_lines.Rows (rows_told rs)) (is ∙ sym store_rows))
            (view_back bytes seen core os s stands left name view taken new keeps (still h))
        of (Err unread.EmptyKey) refused is = invalid EmptyKey refused
        of (Err unread.KeyTooLong) refused is = invalid KeyTooLong refused
        of (Err unread.NoMemory) refused is = tt
        of (Err (unread.Disk file)) refused is = tt
        of (Err (unread.Damaged file place)) refused is = tt

    pub txn_scan_makes : (txn new : Txn H R) → IsTaken os left name (Some (Transaction txn)) → OnlyNotes txn new
        → (result : Result V ReadFail) → IsRefusedBy (refused_bounds low high) result → OnErr result (NotesNothing txn new)
        → ((k : History) (reads : List Read) → Sees bytes txn k reads → OnErr result (Sees bytes new k reads))
        → ((k : History) (reads : List Read) → Sees bytes txn k reads
        → IfOk result (λ rows. items rows ≡ rows_under txn.writes k txn.number low high limit way))
        → ((k : History) (reads : List Read) → Sees bytes txn k reads
        → IfOk result (λ rows. Sees bytes new k (noting.with_scan reads (noting.scan_of low high limit way (items rows) txn.writes))))
        → MakesStep bytes seen core (left ++ record { name = name; thing = Transaction new } ∷ []) s scanning (read_answer tell result)
    txn_scan_makes txn new taken keeps result refused kept still rows_are_so sees = of result refused kept still rows_are_so sees
      where
        invalid : (why : KeyFail) → refused_bounds low high ≡ Some why → NotesNothing txn new
            → ((k : History) (reads : List Read) → Sees bytes txn k reads → Sees bytes new k reads)
            → MakesStep bytes seen core (left ++ record { name = name; thing = Transaction new } ∷ []) s scanning (Ok answers.Invalid)
        invalid why refused same still =
            let (t, b, there, is, began) = itself bytes seen core os s stands left name txn taken in
            only_makes bytes seen core os s stands (left ++ record { name = name; thing = Transaction new } ∷ [])
            scanning answers.Invalid store_lines.Invalid
            (ap (scan_by s.store way name low high limit) there
            ∙ on_false within _ (only store_lines.Invalid s.store) (unfit why refused)) refl
            (txn_back bytes seen core os s stands left name txn taken new same (still h))

        of : (result : Result V ReadFail) → IsRefusedBy (refused_bounds low high) result → OnErr result (NotesNothing txn new)
            → ((k : History) (reads : List Read) → Sees bytes txn k reads → OnErr result (Sees bytes new k reads))
            → ((k : History) (reads : List Read) → Sees bytes txn k reads
            → IfOk result (λ rows. items rows ≡ rows_under txn.writes k txn.number low high limit way))
            → ((k : History) (reads : List Read) → Sees bytes txn k reads
            → IfOk result (λ rows. Sees bytes new k (noting.with_scan reads (noting.scan_of low high limit way (items rows) txn.writes))))
            → MakesStep bytes seen core (left ++ record { name = name; thing = Transaction new } ∷ []) s scanning (read_answer tell result)
        of (Ok rows) refused kept still rows_are_so sees =
            let (t, b, there, is, began) = itself bytes seen core os s stands left name txn taken in
            let answer = scan_answer bytes s.store stands.sound.proper.commits os left stands.names name txn new taken
            way low high limit (fit refused) keeps t b there is began (items rows)
            (rows_are_so h t.reads is.sees) (sees h t.reads is.sees) in
            let names = scan_names bytes s.store stands.sound.proper.commits os left stands.names name txn new taken way
            low high limit (fit refused) keeps t b there is began (items rows)
            (rows_are_so h t.reads is.sees) (sees h t.reads is.sees) in (
              as_rows rows ∙ sym (ap without_lengths answer),
              quiet_stands bytes seen core os (left ++ record { name = name; thing = Transaction new } ∷ []) s scanning
                  (scan_quiet s.store way name low high limit (thing_of s.store name)) stands names
                  (state_after-sound s (lines.Scan name low high limit way) stands.sound),
            )
        of (Err unread.EmptyKey) refused kept still rows_are_so sees = invalid EmptyKey refused kept still
        of (Err unread.KeyTooLong) refused kept still rows_are_so sees = invalid KeyTooLong refused kept still
        of (Err unread.NoMemory) refused kept still rows_are_so sees = tt
        of (Err (unread.Disk file)) refused kept still rows_are_so sees = tt
        of (Err (unread.Damaged file place)) refused kept still rows_are_so sees = tt
