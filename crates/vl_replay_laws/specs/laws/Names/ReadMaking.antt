-- What reads and scans through a name make.
use Rattle.std.proofs.Common.{◌≡◌, ℕ, ◌==◌, Bool, true, false, cond, ◌&&◌, not, List, [], ◌∷◌, ◌++◌, length, refl, ap}
use Rattle.std.proofs.Common.{sym, ◌∙◌, subst, arith}
use Rattle.std.specs.Prelude.{Option, None, Some, Ok, Err, Result, IfOk, OnOk, OnErr, nat_le}
use Rattle.vl_disk.specs.laws.Counting.{never_failed, rose_at_all}
use Rattle.vl_disk.specs.DiskState.{DiskState}
use Rattle.vl_disk.specs.Faults.{HasCause, never}
use Rattle.vl_reads.specs.Reading.{IsRefusedBy, IsSound as IsSoundRead, NotesNothing, OnlyNotes, OnlyReads}
use Rattle.vl_reads.specs.Reading.{ReadFailed, either, value_under}
use Rattle.vl_reads.specs.Sees.{Sees, SeesAlone}
use Rattle.vl_reads.specs.declared.fails.ReadFail.{ReadFail}
use Rattle.vl_reads.specs.declared.fails.ReadFail.TheVariants as unread
use Rattle.vl_engine_laws.specs.declared.kept.Core.{Core}
use Rattle.vl_reads.specs.declared.txn.Txn.{Txn}
use Rattle.vl_reads.specs.declared.view.View.{View as EngineView}
use Rattle.vl_engine_model.specs.Store.Commits.{value_in}
use Rattle.vl_engine_model.specs.Store.Lines as store_lines
use Rattle.vl_engine_model.specs.Store.Lines.{Name}
use Rattle.vl_engine_model.specs.Store.Reading.{get_by}
use Rattle.vl_engine_model.specs.Store.Things.{Step, only, thing_of}
use Rattle.vl_engine_model.specs.laws.CommitsLaws.{value_in-is}
use Rattle.vl_model.specs.History.{History, value_at}
use Rattle.vl_model.specs.Keys.{Stored, is_key_length}
use Rattle.vl_model.specs.Limits.{max_key_bytes}
use Rattle.vl_model.specs.Reads.{Read}
use Rattle.vl_txn.specs.Reads as noting
use Rattle.vl_txn.specs.Refusals.{refused_key}
use Rattle.vl_txn.specs.declared.key_fail.KeyFail.{KeyFail}
use Rattle.vl_txn.specs.declared.key_fail.KeyFail.TheVariants.{EmptyKey, KeyTooLong}
use Rattle.vl_replay_laws.specs.Replaying.{MakesStep, OnlyNoMemory, StandsIn, state_by}
use Rattle.vl_script_model.specs.Sequential.{State, as_printed, history_of, without_lengths}
use Rattle.vl_replay_laws.specs.Standing.{IsTaken, tell_of, read_answer, value_answer}
use Rattle.vl_script_model.specs.Failing.{FailsBeside}
use Rattle.vl_script_model.specs.Halts.{HaltsByDamage, HaltsByReader}
use Rattle.vl_script_model.specs.declared.fails.Halt.{Halt}
use Rattle.vl_replay_laws.specs.declared.open.Open.{Open}
use Rattle.vl_replay_laws.specs.declared.open.Thing.TheVariants.{Transaction, View}
use Rattle.vl_script_model.specs.laws.Laws.{IsSound, state_after-sound}
use Rattle.vl_script.specs.declared.answer.Answer.{Answer}
use Rattle.vl_script.specs.declared.answer.Answer.TheVariants as answers
use Rattle.vl_script.specs.declared.line.Line.TheVariants as lines
use Rattle.vl_replay_laws.specs.laws.Names.Lookups.{on_false}
use Rattle.vl_replay_laws.specs.laws.Names.Making.{itself, its, only_makes, txn_back, view_back}
use Rattle.vl_replay_laws.specs.laws.Names.Quiet.{get_quiet, quiet_stands}
use Rattle.vl_replay_laws.specs.laws.Names.Reading.{reads_so}
use Rattle.vl_replay_laws.specs.laws.Names.Writing.{some_byte}

-- ---- limits

key_tests : (empty short : Bool) → cond empty (Some EmptyKey) (cond short None (Some KeyTooLong)) ≡ None → (not empty && short) ≡ true
key_tests true short is = absurd cc
key_tests false true is = refl
key_tests false false is = absurd cc

key_refused : (empty short : Bool) (why : KeyFail)
    → cond empty (Some EmptyKey) (cond short None (Some KeyTooLong)) ≡ Some why → (not empty && short) ≡ false
key_refused true short why is = refl
key_refused false true why is = absurd cc
key_refused false false why is = refl

pub key_fits : (key : List ℕ) → refused_key key ≡ None → is_key_length (length key) ≡ true
key_fits key is = ap (λ (e : Bool). e && nat_le (length key) max_key_bytes) (some_byte (length key))
    ∙ key_tests (length key == 0) (nat_le (length key) max_key_bytes) is

pub key_unfit : (key : List ℕ) (why : KeyFail) → refused_key key ≡ Some why → is_key_length (length key) ≡ false
key_unfit key why is = ap (λ (e : Bool). e && nat_le (length key) max_key_bytes) (some_byte (length key))
    ∙ key_refused (length key == 0) (nat_le (length key) max_key_bytes) why is

abbrev pub by_bounds : Bool → Bool → Option KeyFail
by_bounds low high = either (cond low None (Some KeyTooLong)) (cond high None (Some KeyTooLong))

pub bound_tests : (low high : Bool) → by_bounds low high ≡ None → (low && high) ≡ true
bound_tests true true is = refl
bound_tests true false is = absurd cc
bound_tests false high is = absurd cc

pub bounds_refused : (low high : Bool) (why : KeyFail) → by_bounds low high ≡ Some why → (low && high) ≡ false
bounds_refused true true why is = absurd cc
bounds_refused true false why is = refl
bounds_refused false high why is = refl

-- ---- what is told

pub told_is : (with_tag : Bool) (value : Option Stored) → as_printed (value_answer with_tag value) ≡ without_lengths (tell_of with_tag value)
told_is true None = refl
told_is false None = refl
told_is true (Some value) = refl
told_is false (Some value) = refl

pub sound_told : {V : Type 0} (tell : V → Answer) (result : Result V ReadFail) → IsSoundRead result → (ReadFailed result → ⊥)
    → OnlyNoMemory (read_answer tell result)
sound_told tell (Ok value) sound near = tt
sound_told tell (Err unread.EmptyKey) sound near = tt
sound_told tell (Err unread.KeyTooLong) sound near = tt
sound_told tell (Err unread.NoMemory) sound near = refl
sound_told tell (Err (unread.Disk name)) sound near = absurd (near tt)
sound_told tell (Err (unread.Damaged name place)) sound near = absurd (sound tt)

-- so it is with what a call answers that tells it
pub call_sound : {V : Type 0} (tell : V → Answer) (read : Result V ReadFail) (result : Result Answer Halt)
    → result ≡ read_answer tell read → IsSoundRead read
    → (ReadFailed read → ⊥) → OnlyNoMemory result
call_sound tell read result is sound near = subst (λ (r : Result Answer Halt). OnlyNoMemory r) (sym is) (sound_told tell read sound near)

-- no damage is told where none was met,
undamaged_told : {V : Type 0} (tell : V → Answer) (result : Result V ReadFail) → IsSoundRead result
    → HaltsByDamage (read_answer tell result) → ⊥
undamaged_told tell (Ok value) sound halts = halts
undamaged_told tell (Err unread.EmptyKey) sound halts = halts
undamaged_told tell (Err unread.KeyTooLong) sound halts = halts
undamaged_told tell (Err unread.NoMemory) sound halts = halts
undamaged_told tell (Err (unread.Disk name)) sound halts = halts
undamaged_told tell (Err (unread.Damaged name place)) sound halts = sound tt

pub call_undamaged : {V : Type 0} (tell : V → Answer) (read : Result V ReadFail) (result : Result Answer Halt)
    → result ≡ read_answer tell read → IsSoundRead read
    → HaltsByDamage result → ⊥
call_undamaged tell read result is sound halts = undamaged_told tell read sound
    (subst (λ (r : Result Answer Halt). HaltsByDamage r) is halts)

-- and a reader's fault where its reader failed
failed_told : {V : Type 0} (tell : V → Answer) (result : Result V ReadFail) → HaltsByReader (read_answer tell result) → ReadFailed result
failed_told tell (Ok value) halts = halts
failed_told tell (Err unread.EmptyKey) halts = halts
failed_told tell (Err unread.KeyTooLong) halts = halts
failed_told tell (Err unread.NoMemory) halts = halts
failed_told tell (Err (unread.Disk name)) halts = tt
failed_told tell (Err (unread.Damaged name place)) halts = absurd halts

-- which it counted, as one that never fails doesn't
pub call_counted : {V R : Type 0} (tell : V → Answer) (read : Result V ReadFail) (result : Result Answer Halt) → result ≡ read_answer tell read
    → (faults : R → ℕ) (old new : R) → HasCause (faults old) (faults new) (ReadFailed read)
    → (sure : Type 0) → (sure → faults old ≡ never) → HaltsByReader result → FailsBeside sure faults
call_counted tell read result is faults old new cause sure surely halts =
    let failed = failed_told tell read (subst (λ (r : Result Answer Halt). HaltsByReader r) is halts) in
    record {
      failed = record { reader = new; some = rose_at_all (faults old) (faults new) (cause.rose failed) };
      not_so = λ is_sure. never_failed (faults old) (faults new) (ReadFailed read) cause (surely is_sure) failed;
    }

module _ {H R : Type 0} (bytes : H → Option (List ℕ)) (seen : Option DiskState) (core : Core H) (os : List (Open H R))
    (s : State) (stands : StandsIn bytes seen core os s)
    (left : List (Open H R)) (name : Name) where
  abbrev h : History
  h = history_of s

  -- ---- keys

  abbrev reading : Bool → List ℕ → Step
  reading with_tag key = get_by s.store name (tell_of with_tag) key (thing_of s.store name)

  read_sound : (with_tag : Bool) (key : List ℕ) → IsSound (state_by s (reading with_tag key))
  read_sound true key = state_after-sound s (lines.GetTagged name key) stands.sound
  read_sound false key = state_after-sound s (lines.Get name key) stands.sound

  -- a view's step, by whether the key fits
  abbrev view_step : List ℕ → Bool → ℕ → Bool → Step
  view_step key with_tag number fits =
      cond fits (only (tell_of with_tag (value_in s.store.commits number key)) s.store) (only store_lines.Invalid s.store)

  module _ (view new : EngineView H R) (taken : IsTaken os left name (Some (View view))) (keeps : OnlyReads view new)
      (still : (k : History) → SeesAlone bytes view k → SeesAlone bytes new k) where
    abbrev behind : List (Open H R)
    behind = left ++ record { name = name; thing = View new } ∷ []

    pub view_read_makes : (key : List ℕ) (with_tag : Bool) (result : Result (Option Stored) ReadFail) → IsRefusedBy (refused_key key) result
        → ((k : History) → SeesAlone bytes view k → IfOk result (λ value. value ≡ value_at k view.number key))
        → MakesStep bytes seen core behind s (reading with_tag key) (read_answer (value_answer with_tag) result)
    view_read_makes key with_tag result refused value = of result refused
        (let (b, there, sees, live, near, began) = its bytes seen core os s stands left name view taken in value h sees)
      where
        step_is : reading with_tag key ≡ view_step key with_tag view.number (is_key_length (length key))
        step_is = let (b, there, sees, live, near, began) = its bytes seen core os s stands left name view taken in ap
            (get_by s.store name (tell_of with_tag) key) there

        of : (result : Result (Option Stored) ReadFail) → IsRefusedBy (refused_key key) result
            → IfOk result (λ value. value ≡ value_at h view.number key)
            → MakesStep bytes seen core behind s (reading with_tag key) (read_answer (value_answer with_tag) result)
        of (Ok value) refused is =
            only_makes bytes seen core os s stands behind (reading with_tag key) (value_answer with_tag value)
            (tell_of with_tag (value_in s.store.commits view.number key))
            (step_is ∙ ap (view_step key with_tag view.number) (key_fits key refused))
            (told_is with_tag value ∙ ap (λ (v : Option Stored). without_lengths (tell_of with_tag v))
            (is ∙ sym (value_in-is s.store.commits stands.sound.proper.commits view.number key)))
            (view_back bytes seen core os s stands left name view taken new keeps (still h))
        of (Err unread.EmptyKey) refused is =
            only_makes bytes seen core os s stands behind (reading with_tag key) answers.Invalid store_lines.Invalid
            (step_is ∙ ap (view_step key with_tag view.number) (key_unfit key EmptyKey refused)) refl
            (view_back bytes seen core os s stands left name view taken new keeps (still h))
        of (Err unread.KeyTooLong) refused is =
            only_makes bytes seen core os s stands behind (reading with_tag key) answers.Invalid store_lines.Invalid
            (step_is ∙ ap (view_step key with_tag view.number) (key_unfit key KeyTooLong refused)) refl
            (view_back bytes seen core os s stands left name view taken new keeps (still h))
        of (Err unread.NoMemory) refused is = tt
        of (Err (unread.Disk file)) refused is = tt
        of (Err (unread.Damaged file place)) refused is = tt

  module _ (txn new : Txn H R) (taken : IsTaken os left name (Some (Transaction txn))) (keeps : OnlyNotes txn new) where
    abbrev behind_it : List (Open H R)
    behind_it = left ++ record { name = name; thing = Transaction new } ∷ []

    pub txn_read_makes : (key : List ℕ) (with_tag : Bool) (result : Result (Option Stored) ReadFail) → IsRefusedBy (refused_key key) result
        → OnErr result (NotesNothing txn new)
        → ((k : History) (reads : List Read) → Sees bytes txn k reads → OnErr result (Sees bytes new k reads))
        → ((k : History) (reads : List Read) → Sees bytes txn k reads
        → IfOk result (λ value. value ≡ value_under txn.writes k txn.number key))
        → ((k : History) (reads : List Read) → Sees bytes txn k reads
        → OnOk result (Sees bytes new k (noting.with_get txn.writes reads key (value_at k txn.number key))))
        → MakesStep bytes seen core behind_it s (reading with_tag key) (read_answer (value_answer with_tag) result)
    txn_read_makes key with_tag result refused kept still value sees = of result refused kept still value sees
      where
        invalid : (why : KeyFail) → refused_key key ≡ Some why → NotesNothing txn new
            → ((k : History) (reads : List Read) → Sees bytes txn k reads → Sees bytes new k reads)
            → MakesStep bytes seen core behind_it s (reading with_tag key) (read_answer (value_answer with_tag) (Err unread.EmptyKey))
        invalid why refused same still =
            let (t, b, there, is, began) = itself bytes seen core os s stands left name txn taken in
            only_makes bytes seen core os s stands behind_it (reading with_tag key) answers.Invalid store_lines.Invalid
            (ap (get_by s.store name (tell_of with_tag) key) there
            ∙ on_false (is_key_length (length key)) _ (only store_lines.Invalid s.store) (key_unfit key why refused)) refl
            (txn_back bytes seen core os s stands left name txn taken new same (still h))

        of : (result : Result (Option Stored) ReadFail) → IsRefusedBy (refused_key key) result → OnErr result (NotesNothing txn new)
            → ((k : History) (reads : List Read) → Sees bytes txn k reads → OnErr result (Sees bytes new k reads))
            → ((k : History) (reads : List Read) → Sees bytes txn k reads
            → IfOk result (λ value. value ≡ value_under txn.writes k txn.number key))
            → ((k : History) (reads : List Read) → Sees bytes txn k reads
            → OnOk result (Sees bytes new k (noting.with_get txn.writes reads key (value_at k txn.number key))))
            → MakesStep bytes seen core behind_it s (reading with_tag key) (read_answer (value_answer with_tag) result)
        of (Ok found) refused kept still value sees =
            let (t, b, there, is, began) = itself bytes seen core os s stands left name txn taken in
            let so = reads_so bytes s.store stands.sound.proper.commits os left stands.names name txn new taken key
            (key_fits key refused) keeps (tell_of with_tag) t b there is began (sees h t.reads is.sees) in (
              told_is with_tag found ∙ ap without_lengths (ap (tell_of with_tag) (value h t.reads is.sees) ∙ sym so.answer),
              quiet_stands bytes seen core os behind_it s (reading with_tag key)
                  (get_quiet s.store name (tell_of with_tag) key (thing_of s.store name)) stands so.names (read_sound with_tag key),
            )
        of (Err unread.EmptyKey) refused kept still value sees = invalid EmptyKey refused kept still
        of (Err unread.KeyTooLong) refused kept still value sees = invalid KeyTooLong refused kept still
        of (Err unread.NoMemory) refused kept still value sees = tt
        of (Err (unread.Disk file)) refused kept still value sees = tt
        of (Err (unread.Damaged file place)) refused kept still value sees = tt
