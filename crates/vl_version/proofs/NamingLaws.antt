-- Of which tables and logs faults are.
use Rattle.std.specs.declared.clone.Clone as Clone
use Rattle.vl_disk.specs.declared.reader.HeldFile as HeldFile
use Rattle.std.proofs.Common.{◌≡◌, ℕ, zero, suc, List, [], ◌∷◌, ◌++◌, map, refl, ap, sym, ◌∙◌, subst, append-nil, append_assoc}
use Rattle.std.proofs.Common.{Option, Some, None, inl, inr}
use Rattle.std.specs.Prelude.{◌⊎◌, true, Result, Err, IfErr}
use Rattle.std.specs.List.{slice_get}
use Rattle.vl_disk.specs.declared.name.Name.{Name}
use Rattle.vl_disk.specs.declared.name.Name.TheVariants.{Log as log_name, Table as table_name}
use Rattle.vl_disk.specs.declared.read_fault.ReadFault.{ReadFault}
use Rattle.vl_disk.specs.declared.read_fault.ReadFault.TheVariants.{NoMemory, Disk, Damaged}
use Rattle.vl_model.specs.Keys.{Stored}
use Rattle.vl_model.specs.declared.entry.Entry.{Entry}
use Rattle.vl_model.specs.declared.span.Span.{Span}
use Rattle.vl_seglog.specs.Answers as log_answers
use Rattle.vl_seglog.specs.declared.sealed.SealedLog.{SealedLog}
use Rattle.vl_table.specs.CursorParts.{MayFailOn}
use Rattle.vl_table.specs.CursorStops.{MayStop}
use Rattle.vl_table.specs.MayHold.{meets}
use Rattle.vl_table.specs.Seeks.{IsBadBlock}
use Rattle.vl_table.specs.Tables.{AreSame, number_of, shape_of}
use Rattle.vl_table.specs.declared.body.shape.TableShape.{TableShape}
use Rattle.vl_table.specs.declared.cursor.TableCursor.{TableCursor}
use Rattle.vl_table.specs.declared.table.Table.{Table}
use Rattle.vl_version.specs.Naming.{AddFaults, FailWithin, IsAskedFault, IsLogFault, IsLogName, IsLogOf, IsMet, IsMetFault, IsScanFault}
use Rattle.vl_version.specs.Naming.{MeetFaults, OneTable}
use Rattle.vl_version.specs.declared.own.OwnCursor.{OwnCursor}
use Rattle.vl_version.specs.declared.source.Source.{Source}
use Rattle.vl_version.specs.declared.source.Source.TheVariants.{Own, Held, Tables}
use Rattle.vl_version.specs.levels.LookedUp.{IsDamagedAt, NamesAsked}
use Rattle.vl_version.proofs.Telling.{OneFails, one-either, sound_runs}

-- a fault that is handed on
pub err_is : {T : Type 0} (P : ReadFault → Type 0) (e : ReadFault) (result : Result T ReadFault) → result ≡ Err e → P e → IfErr result P
err_is {T} P e result is holds = subst (λ (r : Result T ReadFault). IfErr r P) (sym is) holds

module _ {H : Type 0} where
  -- ---- logs

  pub log_among : (logs : List (SealedLog H)) (i : ℕ) (log : SealedLog H) → slice_get logs i ≡ Some log
      → IsLogOf logs (log_name log.number)
  log_among [] i log found = absurd cc
  log_among (l ∷ logs) zero log found = let same : l ≡ log = cc in inl (ap (λ (x : SealedLog H). log_name x.number) (sym same))
  log_among (l ∷ logs) (suc i) log found = inr (log_among logs i log found)

  -- the fault of one of these logs
  pub far_fault : (logs : List (SealedLog H)) (log : SealedLog H) (e : ReadFault) → IsLogOf logs (log_name log.number)
      → log_answers.IsNamed {T = Stored} log.number (Err e) → IsLogFault logs e
  far_fault logs log NoMemory among named = tt
  far_fault logs log (Disk name) among named = subst (IsLogOf logs) (sym named) among
  far_fault logs log (Damaged name place) among named = subst IsLogName (sym named) tt

  -- ---- tables

  one_more : (P : Table H → Type 0) (ts us : List (Table H)) → OneTable P ts → OneTable P (ts ++ us)
  one_more P [] us one = absurd one
  one_more P (t ∷ ts) us (inl here) = inl here
  one_more P (t ∷ ts) us (inr later) = inr (one_more P ts us later)

  one_behind : (P : Table H → Type 0) (ts us : List (Table H)) → OneTable P us → OneTable P (ts ++ us)
  one_behind P [] us one = one
  one_behind P (t ∷ ts) us one = inr (one_behind P ts us one)

  -- an element of tables with one more is one of these, or that one
  get_last : (ts : List (Table H)) (u : Table H) (i : ℕ) (t : Table H) → slice_get (ts ++ u ∷ []) i ≡ Some t
      → (slice_get ts i ≡ Some t) ⊎ (u ≡ t)
  get_last [] u zero t found = inr cc
  get_last [] u (suc i) t found = absurd cc
  get_last (x ∷ ts) u zero t found = inl found
  get_last (x ∷ ts) u (suc i) t found = get_last ts u i t found

-- what a look-up in tables fails by
pub asked_fault : {H : Type 0} (bytes_of : H → Option (List ℕ)) (ts : List (Table H)) (key : List ℕ) (e : ReadFault)
    → NamesAsked bytes_of ts key (Err e) → IsAskedFault bytes_of ts key e
asked_fault bytes_of ts key NoMemory names = tt
asked_fault bytes_of ts key (Disk name) names = names
asked_fault bytes_of ts key (Damaged name place) names = names

module _ {H : Type 0} (bytes_of : H → Option (List ℕ)) (span : Span) where
  pub met_more : (ts us : List (Table H)) (fault : ReadFault) → IsMetFault bytes_of span ts fault
      → IsMetFault bytes_of span (ts ++ us) fault
  met_more ts us NoMemory is = tt
  met_more ts us (Disk name) is = one_more (IsMet bytes_of span name (λ t. Unit {0})) ts us is
  met_more ts us (Damaged name place) is = one_more (IsMet bytes_of span name (IsDamagedAt bytes_of place)) ts us is

  pub met_behind : (ts us : List (Table H)) (fault : ReadFault) → IsMetFault bytes_of span us fault
      → IsMetFault bytes_of span (ts ++ us) fault
  met_behind ts us NoMemory is = tt
  met_behind ts us (Disk name) is = one_behind (IsMet bytes_of span name (λ t. Unit {0})) ts us is
  met_behind ts us (Damaged name place) is = one_behind (IsMet bytes_of span name (IsDamagedAt bytes_of place)) ts us is

  -- what fails of the sources of a scan, or of a log
  pub scan_fault : (ts : List (Table H)) (logs : List (SealedLog H)) (May : Type 0) (fault : ReadFault)
      → (May → IsMetFault bytes_of span ts fault) → May ⊎ IsLogFault logs fault
      → IsScanFault bytes_of span ts logs fault
  scan_fault ts logs May fault met (inl may) = inl (met may)
  scan_fault ts logs May fault met (inr log) = inr log

  -- ---- those that meet the interval

  pub meet_none : (ts met : List (Table H)) → met ≡ [] → MeetFaults bytes_of span ts met
  meet_none ts met none NoMemory may = tt
  meet_none ts met none (Disk name) may =
      let found : slice_get [] may.0 ≡ Some may.1 = subst (λ (l : List (Table H)). slice_get l may.0 ≡ Some may.1) none may.2 in
      absurd cc
  meet_none ts met none (Damaged name place) may =
      let found : slice_get [] may.0 ≡ Some may.1 = subst (λ (l : List (Table H)). slice_get l may.0 ≡ Some may.1) none may.2 in
      absurd cc

  pub meet_outside : (ts us met : List (Table H)) → MeetFaults bytes_of span ts met → MeetFaults bytes_of span (ts ++ us) met
  meet_outside ts us met meet fault may = met_more ts us fault (meet fault may)

  module _ (size_of : H → ℕ) (name_of : H → Name) (ts met : List (Table H)) (t u : Table H) (same : AreSame bytes_of size_of name_of t u)
      (meets_it : meets span (shape_of t) ≡ true) (before : MeetFaults bytes_of span ts met) where
    -- a table that is shared has the number of the one that it is
    named_alike : (v : Table H) (name : Name) → u ≡ v → name ≡ table_name (number_of v) → name ≡ table_name (number_of t)
    named_alike v name is named =
        named ∙ ap (λ (w : Table H). table_name (number_of w)) (sym is) ∙ ap (λ (s : TableShape). table_name s.number) same.shape

    damaged_alike : (v : Table H) (place : ℕ) → u ≡ v → IsDamagedAt bytes_of place v → IsDamagedAt bytes_of place t
    damaged_alike v place is bad bytes told =
        subst (λ (s : TableShape). IsBadBlock s bytes place) (ap (λ (w : Table H). shape_of w) (sym is) ∙ same.shape)
        (bad bytes (ap (λ (w : Table H). bytes_of w.held) (sym is) ∙ same.bytes ∙ told))

    meet_shared : MeetFaults bytes_of span (ts ++ t ∷ []) (met ++ u ∷ [])
    meet_shared NoMemory may = tt
    meet_shared (Disk name) may = by (get_last met u may.0 may.1 may.2)
      where
        by : (slice_get met may.0 ≡ Some may.1) ⊎ (u ≡ may.1) → IsMetFault bytes_of span (ts ++ t ∷ []) (Disk name)
        by (inl found) = met_more ts (t ∷ []) (Disk name) (before (Disk name) (may.0, may.1, found, may.3))
        by (inr is) = met_behind ts (t ∷ []) (Disk name)
            (inl (record { named = named_alike may.1 name is may.3; meets = meets_it; why = tt }))
    meet_shared (Damaged name place) may = by (get_last met u may.0 may.1 may.2)
      where
        by : (slice_get met may.0 ≡ Some may.1) ⊎ (u ≡ may.1) → IsMetFault bytes_of span (ts ++ t ∷ []) (Damaged name place)
        by (inl found) =
            met_more ts (t ∷ []) (Damaged name place) (before (Damaged name place) (may.0, may.1, found, may.3, may.4))
        by (inr is) = met_behind ts (t ∷ []) (Damaged name place)
            (inl (record {
              named = named_alike may.1 name is may.3;
              meets = meets_it;
              why = damaged_alike may.1 place is may.4;
            }))

    pub meet_next : (now : List (Table H)) → now ≡ met ++ u ∷ [] → MeetFaults bytes_of span (ts ++ t ∷ []) now
    meet_next now pushed = subst (MeetFaults bytes_of span (ts ++ t ∷ [])) (sym pushed) meet_shared

  -- ---- sources

  module _ {R : Type 0} {g : HeldFile.Ghosts H} {k : Clone.Ghosts H} where
    pub fail_own : (cursor : OwnCursor) (sources : List (Source H R g k)) → sources ≡ Own cursor ∷ []
        → FailWithin bytes_of span [] sources
    fail_own cursor sources is = subst (FailWithin bytes_of span []) (sym is) by
      where
        by : FailWithin bytes_of span {R = R} {g = g} {k = k} [] (Own cursor ∷ [])
        by fault (inl none) = subst (IsMetFault bytes_of span []) (sym none) tt
        by fault (inr none) = absurd none

    pub fail_memtable : (runs : List (List Entry)) (old now : List (Source H R g k)) → now ≡ old ++ map (λ run. Held run) runs
        → (before : List (Table H)) → FailWithin bytes_of span before old → FailWithin bytes_of span before now
    fail_memtable runs old now joined before fail = subst (FailWithin bytes_of span before) (sym joined)
        (λ fault one. by fault (one-either bytes_of old (map (λ run. Held run) runs) fault one))
      where
        by : (fault : ReadFault) → OneFails bytes_of old fault
            ⊎ OneFails {R = R} {g = g} {k = k} bytes_of (map (λ run. Held run) runs) fault → IsMetFault bytes_of span before fault
        by fault (inl one) = fail fault one
        by fault (inr one) = subst (IsMetFault bytes_of span before) (sym (sound_runs R g k bytes_of runs fault one)) tt

    pub adds_no_faults : (old : List (Source H R g k)) → AddFaults bytes_of span [] old old
    adds_no_faults old before fail = subst (λ (ts : List (Table H)). FailWithin bytes_of span ts old) (sym (append-nil before)) fail

    -- also where none of the tables is read
    pub adds_unread : (ts : List (Table H)) (old : List (Source H R g k)) → AddFaults bytes_of span ts old old
    adds_unread ts old before fail fault one = met_more before ts fault (fail fault one)

    pub adds_fault_next : (ts us : List (Table H)) (old mid now : List (Source H R g k)) → AddFaults bytes_of span ts old mid
        → AddFaults bytes_of span us mid now → AddFaults bytes_of span (ts ++ us) old now
    adds_fault_next ts us old mid now first second before fail =
        subst (λ (l : List (Table H)). FailWithin bytes_of span l now) (append_assoc before ts us)
        (second (before ++ ts) (first before fail))

    pub adds_cursor_faults : (ts met : List (Table H)) (cursor : TableCursor H R g k) (old now : List (Source H R g k))
        → MeetFaults bytes_of span ts met
        → ((why : ReadFault) → MayStop bytes_of cursor why → MayFailOn bytes_of met why)
        → now ≡ old ++ Tables cursor ∷ [] → AddFaults bytes_of span ts old now
    adds_cursor_faults ts met cursor old now meet fails joined before fail =
        subst (FailWithin bytes_of span (before ++ ts)) (sym joined)
        (λ fault one. by fault (one-either bytes_of old (Tables cursor ∷ []) fault one))
      where
        by : (fault : ReadFault) → OneFails bytes_of old fault ⊎ OneFails bytes_of (Tables cursor ∷ []) fault
            → IsMetFault bytes_of span (before ++ ts) fault
        by fault (inl one) = met_more before ts fault (fail fault one)
        by fault (inr (inl failed)) =
            subst (IsMetFault bytes_of span (before ++ ts)) (sym failed.2)
            (met_behind before ts failed.0 (meet failed.0 (fails failed.0 failed.1)))
        by fault (inr (inr none)) = absurd none
