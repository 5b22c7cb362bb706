-- The three calls that make a file.
use Rattle.std.proofs.Common.{◌≡◌, ◌⊎◌, ⊎_elim, ℕ, ◌≤◌, true, false, List, length, Option, None, Some, Result, Ok}
use Rattle.std.proofs.Common.{Err, IsErr, OnOk, OnErr, ◌∙◌, ap, subst, arith, refl}
use Rattle.std.proofs.lemmas.List.{take_all}
use Rattle.std.proofs.lemmas.Result.{on_ok_weaker, on_err_weaker}
use Rattle.std.specs.FinMap.{get, insert}
use Rattle.vl_disk.specs.declared.name.Name.{Name}
use Rattle.vl_disk.specs.laws.NameMap.{get_inserted, inserted_twice}
use Rattle.vl_disk.specs.DiskState.{File, Files, DiskState, new_file, settled, synced_file, lengthened, created, appended, synced}
use Rattle.vl_disk.specs.Changes.{created_there, changed_files}
use Rattle.vl_disk.specs.declared.watched.Watched.{Ghosts}
use Rattle.vl_disk.specs.Calls.{Creates, Appends, Syncs}
use Rattle.vl_disk.specs.Faults.{HasCause, one_more, after_calls}
use Rattle.vl_disk.specs.Spare.{Spare}
use Rattle.vl_disk.specs.Crash.{WhileCreating, WhileAppending, WhileSyncing}
use Rattle.vl_disk.specs.Disk.{IsChangedBy}
use Rattle.vl_disk.specs.Moments.{Elapses, While, passes_weaker, passes_then}
use Rattle.vl_disk.specs.MadeFile.{made, WhileMaking, TellsPart, Makes, not_there, empty, in_part, durable}

module _ (name : Name) (bytes : List ℕ) where
  abbrev whole : File
  whole = lengthened bytes (length bytes) new_file

  -- after the first call, and after the second
  abbrev first : DiskState → DiskState
  first disk = created name disk

  abbrev second : DiskState → DiskState
  second disk = appended name bytes (length bytes) (first disk)

  is_made : (disk : DiskState) → synced name (second disk) ≡ made name bytes disk
  is_made disk = ap (λ (files : Files). record (made name bytes disk) { standing = files })
      (changed_files name (second disk) synced_file whole
      (ap (λ (files : Files). get files name) handed ∙ get_inserted disk.standing name whole)
      ∙ ap (λ (files : Files). insert files name (settled whole.bytes)) handed
      ∙ inserted_twice disk.standing name whole (settled whole.bytes)
      ∙ ap (λ (b : List ℕ). insert disk.standing name (settled b)) (take_all (length bytes) bytes (omega arith)))
    where
      handed : (second disk).standing ≡ insert disk.standing name whole
      handed = changed_files name (first disk) (lengthened bytes (length bytes)) new_file (created_there name disk)
          ∙ inserted_twice disk.standing name new_file whole

  while_created : (told : Option DiskState) (now : DiskState) → While told (WhileCreating name) now
      → While told (WhileMaking name bytes) now
  while_created told now is disk there = ⊎_elim (λ (same : now ≡ disk). not_there same)
      (λ (same : now ≡ first disk). empty same) (is disk there)

  module _ (told0 told1 : Option DiskState) (creates : IsChangedBy (created name) told0 told1) (now : DiskState) where
    while_appended : While told1 (WhileAppending name bytes) now → While told0 (WhileMaking name bytes) now
    while_appended is disk told =
        let after : told1 ≡ Some (first disk) = cc in
        ⊎_elim
        (λ (same : now ≡ first disk). empty same)
        (λ (part : (taken : ℕ) × (taken ≤ length bytes) × (now ≡ appended name bytes taken (first disk))). in_part part.0 part.1 part.2)
        (is (first disk) after)

    while_synced : (told2 : Option DiskState) → IsChangedBy (appended name bytes (length bytes)) told1 told2
        → While told2 (WhileSyncing name) now → While told0 (WhileMaking name bytes) now
    while_synced told2 appends is disk told =
        let after : told1 ≡ Some (first disk) = cc in
        let later : told2 ≡ Some (second disk) = cc in
        ⊎_elim
        (λ (same : now ≡ second disk). in_part (length bytes) (omega arith) same)
        (λ (same : now ≡ synced name (second disk)). durable (same ∙ is_made disk))
        (is (second disk) later)

  told_made : (told0 told1 told2 told3 : Option DiskState) → IsChangedBy (created name) told0 told1
      → IsChangedBy (appended name bytes (length bytes)) told1 told2 → IsChangedBy (synced name) told2 told3
      → IsChangedBy (made name bytes) told0 told3
  told_made None told1 told2 told3 a b c = cc
  told_made (Some disk) told1 told2 told3 a b c =
      let after : told3 ≡ Some (synced name (second disk)) = cc in
      after ∙ ap Some (is_made disk)

  -- what stands where the first call fails, the second, or the third
  create_failed : (told0 told1 : Option DiskState) → (told1 ≡ told0) ⊎ IsChangedBy (created name) told0 told1
      → TellsPart name bytes told0 told1
  create_failed None told1 failed = ⊎_elim (λ (same : told1 ≡ None). same) (λ (same : told1 ≡ None). same) failed
  create_failed (Some disk) told1 failed = ⊎_elim
      (λ (is : told1 ≡ Some disk). (disk, is, not_there refl))
      (λ (is : told1 ≡ Some (first disk)). (first disk, is, empty refl))
      failed

  append_failed : (told0 told1 told2 : Option DiskState) → IsChangedBy (created name) told0 told1 → (taken : ℕ)
      × (taken ≤ length bytes) × IsChangedBy (appended name bytes taken) told1 told2 → TellsPart name bytes told0 told2
  append_failed None told1 told2 a failed = let b : IsChangedBy (appended name bytes failed.0) told1 told2 = failed.2 in cc
  append_failed (Some disk) told1 told2 a failed =
      let b : IsChangedBy (appended name bytes failed.0) told1 told2 = failed.2 in
      let is : told2 ≡ Some (appended name bytes failed.0 (first disk)) = cc in
      (appended name bytes failed.0 (first disk), is, in_part failed.0 failed.1 refl)

  sync_failed : (told0 told1 told2 told3 : Option DiskState) → IsChangedBy (created name) told0 told1
      → IsChangedBy (appended name bytes (length bytes)) told1 told2 → told3 ≡ told2 → TellsPart name bytes told0 told3
  sync_failed None told1 told2 told3 a b failed = cc
  sync_failed (Some disk) told1 told2 told3 a b failed =
      let is : told3 ≡ Some (second disk) = cc in
      (second disk, is, in_part (length bytes) (omega arith) refl)

false_true : false ≡ true → ⊥
false_true e = cc

-- a call that passed, and one behind it
cause_then : (a b c : ℕ) (P Q : Type 0) → HasCause a b P → (P → ⊥) → HasCause b c Q → HasCause a c Q
cause_then a b c P Q first passed second = subst (λ n. HasCause n c Q) (first.steady passed) second

-- how the making of a file ends, by the call that fails or none
module _ {D X E : Type 0} (g : Ghosts D) (name : Name) (bytes : List ℕ) (old one : D) where
  pub ends_at_create : (e : E) (result : Result X E) → IsErr result → Creates {T = X} g name old one (Err e)
      → Makes g name bytes old one result
  ends_at_create e (Ok x) fails call = absurd (false_true fails)
  ends_at_create e (Err f) fails call = record {
    made = tt;
    stands = tt;
    failed = create_failed name bytes (g.told old) (g.told one) call.failed;
    calls = tt;
    stops = (1, omega arith, omega arith, call.as_call.calls);
    time = passes_weaker _ _ _ _ call.as_call.time (while_created name bytes (g.told old));
    cause = call.as_call.cause;
    hold = call.spare.hold;
    spare = call.spare.elsewhere;
  }

  module _ (x : X) (creates : Creates {E = E} g name old one (Ok x)) (two : D) where
    -- time until behind the second call
    two_pass : Elapses g one two (WhileAppending name bytes) → Elapses g old two (WhileMaking name bytes)
    two_pass time = passes_then _ _ _ _ _ _ creates.as_call.time time
        (while_created name bytes (g.told old)) (while_appended name bytes (g.told old) (g.told one) creates.created)

    pub ends_at_append : (e : E) (result : Result X E) → IsErr result → Appends {T = X} g name bytes one two (Err e)
        → Makes g name bytes old two result
    ends_at_append e (Ok y) fails call = absurd (false_true fails)
    ends_at_append e (Err f) fails call = record {
      made = tt;
      stands = tt;
      failed = append_failed name bytes (g.told old) (g.told one) (g.told two) creates.created call.failed;
      calls = tt;
      stops = (2, omega arith, omega arith, call.as_call.calls ∙ ap one_more creates.as_call.calls);
      time = two_pass call.as_call.time;
      cause = cause_then _ _ _ _ _ creates.as_call.cause false_true call.as_call.cause;
      hold = call.spare.hold ∙ creates.spare.hold;
      spare = λ other apart. call.spare.elsewhere other apart ∙ creates.spare.elsewhere other apart;
    }

    module _ (y : X) (appends : Appends {E = E} g name bytes one two (Ok y)) (new : D) where
      pub ends_at_sync : (result : Result X E) → Syncs g name two new result → Makes g name bytes old new result
      ends_at_sync result call = record {
        made = on_ok_weaker result
            (told_made name bytes (g.told old) (g.told one) (g.told two) (g.told new) creates.created appends.appended) call.synced;
        stands = on_ok_always result call.stands;
        failed = on_err_weaker result
            (sync_failed name bytes (g.told old) (g.told one) (g.told two) (g.told new) creates.created appends.appended) call.failed;
        calls = on_ok_always result counts;
        stops = on_err_always result (3, omega arith, omega arith, counts);
        time = passes_then _ _ _ _ _ _ (two_pass appends.as_call.time) call.as_call.time
            (λ now is. is) (λ now. while_synced name bytes (g.told old) (g.told one) creates.created now (g.told two) appends.appended);
        cause = cause_then _ _ _ _ _ creates.as_call.cause false_true
            (cause_then _ _ _ _ _ appends.as_call.cause false_true call.as_call.cause);
        hold = ap (λ (s : Spare). s.hold) (call.spare name) ∙ appends.spare.hold ∙ creates.spare.hold;
        spare = λ other apart. call.spare other ∙ appends.spare.elsewhere other apart ∙ creates.spare.elsewhere other apart;
      }
        where
          counts : g.calls new ≡ after_calls 3 (g.calls old)
          counts = call.as_call.calls ∙ ap one_more (appends.as_call.calls ∙ ap one_more creates.as_call.calls)

          on_ok_always : {P : Type 0} (r : Result X E) → P → OnOk r P
          on_ok_always (Ok x) p = p
          on_ok_always (Err e) p = tt

          on_err_always : {P : Type 0} (r : Result X E) → P → OnErr r P
          on_err_always (Ok x) p = tt
          on_err_always (Err e) p = p
