-- What a relocation comes to, at each of its exits, by the ruling on it.
use Rattle.std.specs.Prelude.{◌≡◌, ◌≤◌, ◌<◌, ℕ, zero, suc, ◌+◌, ◌&&◌, nat_le, is_none, Bool, true, List, [], ◌∷◌, ◌++◌}
use Rattle.std.specs.Prelude.{Option, None, Some, Result, Ok, Err, OnOk, refl}
use Rattle.std.specs.List.{AllByRecursion, filter}
use Rattle.std.specs.Option.{option_map}
use Rattle.std.proofs.Common.{sym, ap, subst, ◌∙◌, cond, arith}
use Rattle.std.proofs.lemmas.Bool.Decides.{nat_tests}
use Rattle.vl_engine_laws.specs.Carries.{Carries}
use Rattle.vl_engine_laws.specs.MayStep.{Fits}
use Rattle.vl_engine_laws.specs.MoveFacts.{HasMoved, move_length, move_log}
use Rattle.vl_engine_laws.specs.Pointed.{layout_logs}
use Rattle.vl_engine_laws.specs.Represents.{Fronts, Represents, file_of}
use Rattle.vl_engine_laws.specs.declared.kept.Core.{Core}
use Rattle.vl_engine_laws.specs.laws.Carrying.{IsWatched}
use Rattle.vl_engine_laws.specs.laws.MovedLaws.{HaveEach, moved_apart, moved_up_to}
use Rattle.vl_engine_laws.specs.laws.MovedSettled.{settled_moved, settled_none}
use Rattle.vl_engine_laws.specs.laws.RelocateCarrying.{carries_damaged_move, carries_failed_move, carries_moved, carries_refused_move}
use Rattle.vl_engine_laws.specs.laws.RelocateCarrying.{carries_short_move, carries_unread_move}
use Rattle.vl_engine_laws.specs.laws.RelocateFits.{fits_relocated}
use Rattle.vl_engine_laws.specs.laws.RelocateRulings.{IsMoving, can_move, halted_ruled, is_full, none_ruled, runs, used_up}
use Rattle.vl_engine_laws.specs.laws.RelocateStanding.{fronts_moved, fronts_stopped, stands_moved, stands_stopped}
use Rattle.vl_engine_laws.specs.laws.SourcedLaws.{laid_marked}
use Rattle.vl_engine_laws.specs.laws.StillLaws.{there_now}
use Rattle.vl_disk.specs.Calls.{ChangesNothing}
use Rattle.vl_disk.specs.Disk.{Stands}
use Rattle.vl_disk.specs.DiskState.{DiskState}
use Rattle.vl_disk.specs.declared.name.Name.TheVariants as names
use Rattle.vl_disk.specs.declared.name.Name.{Name}
use Rattle.vl_disk.specs.declared.watched.Watched.{Ghosts}
use Rattle.vl_steps.specs.laws.Committing.{decides_answered, decides_failed, decides_leaving, decides_short}
use Rattle.vl_steps.specs.laws.Ruled.{looked_none}
use Rattle.vl_engine_laws.specs.Lent.{Opens}
use Rattle.vl_engine_laws.specs.Lent.{StandsOpen}
use Rattle.vl_steps.specs.Relocating.{At, Finds, HandsOver, HasFailedToRead, HasFound}
use Rattle.vl_steps.specs.Relocating.{IsFull, IsOfPass, IsUsedUp, LeavesAll, NotesMoves, RelocatesAs, may_add}
use Rattle.vl_steps.specs.Relocating.{move_effects, move_outcome}
use Rattle.vl_steps.specs.declared.fails.MoveFail.TheVariants as fails
use Rattle.vl_steps.specs.declared.fails.MoveFail.{MoveFail}
use Rattle.vl_engine_laws.specs.declared.open.OpenMerge.{OpenMerge}
use Rattle.vl_engine_model.specs.Decides.{Answered, Damaged, Decides, Failed, NoMemory, Otherwise, as_before, effects_of, no_effects}
use Rattle.vl_engine_model.specs.Logs.{memtable}
use Rattle.vl_engine_model.specs.Relocation as layout
use Rattle.vl_engine_model.specs.Relocation.{Candidate, moved_of}
use Rattle.vl_engine_model.specs.Ruling.{Ruling, halted_at, leaving}
use Rattle.vl_engine_model.specs.Rulings.Relocate as answers
use Rattle.vl_engine_model.specs.Rulings.Relocate.{MoveAnswer, Moves, moves_at, relocate_ruling, relocated, with_moves}
use Rattle.vl_engine_model.specs.Shown.{IsThere}
use Rattle.vl_engine_model.specs.Sources.{sources}
use Rattle.vl_engine_model.specs.declared.job.OpenJob.{OpenJob}
use Rattle.vl_engine_model.specs.declared.layout.Layout.{Layout}
use Rattle.vl_engine_model_laws.specs.Passes.{IsSettled}
use Rattle.vl_model.specs.Conflicts.{Named}
use Rattle.vl_model.specs.History.{History, last_number}
use Rattle.vl_model.specs.Winners.{exact}
use Rattle.vl_model.specs.declared.counter.Counter.{Counter}
use Rattle.vl_model.specs.declared.entry.Entry.{Entry}
use Rattle.vl_model.specs.declared.log_frame.Moved.{Moved}
use Rattle.vl_seglog.specs.declared.sealed.SealedLog.{SealedLog}

-- ---- what is moved

-- the active memtable may take records of which it has none
all_kept : (es : List Entry) (last : ℕ) (moved : List Moved) → HaveEach (λ key version. exact es key version ≡ None) moved
    → HaveEach (λ key version. version ≤ last) moved → filter (may_add es last) moved ≡ moved
all_kept es last [] new up = refl
all_kept es last (m ∷ ms) new up =
    ap (λ (b : Bool). cond b (m ∷ filter (may_add es last) ms) (filter (may_add es last) ms)) added
    ∙ ap (λ (xs : List Moved). m ∷ xs) (all_kept es last ms new.1 up.1)
  where
    added : may_add es last m ≡ true
    added =
        let below = up.0 in
        let known : nat_le m.version last ≡ true = grind (arith, nat_tests, below) in
        ap (λ (b : Bool). b && is_none (exact es m.key m.version)) known ∙ ap is_none new.0

-- ---- what is too long

over_then : (room long long' frame frame' : ℕ) → long ≡ long' → frame ≡ frame' → room < long + frame → room < long' + frame'
over_then room long long' frame frame' long_is frame_is over =
    subst (λ (n : ℕ). room < n + frame') long_is (subst (λ (n : ℕ). room < long + n) frame_is over)

-- ---- what is noted

-- of an open merge the job is told too
opens_then : (number now_number : ℕ) → number ≡ now_number → (moved : List Moved) (old new : Option OpenMerge) (job : Option OpenJob)
    → Opens old job → NotesMoves old new (moves_at number moved) → Opens new (with_moves now_number moved job)
opens_then number now_number same moved None None None opens notes = tt
opens_then number now_number same moved None None (Some j) opens notes = absurd opens
opens_then number now_number same moved None (Some o) job opens notes = absurd notes
opens_then number now_number same moved (Some o) None job opens notes = absurd notes
opens_then number now_number same moved (Some o) (Some n) None opens notes = absurd opens
opens_then number now_number same moved (Some o) (Some n) (Some j) opens notes = record {
  lent = ap (λ v. v.items) notes.0 ∙ opens.lent;
  moved = notes.1 ∙ ap (λ (ns : List Named). moves_at number moved ++ ns) opens.moved
      ∙ ap (λ (k : ℕ). moves_at k moved ++ j.moved) same;
}

module _ {D H R : Type 0} (g : Ghosts D) (bytes : H → Option (List ℕ)) (faults_of : R → ℕ) (old new : At D H R) (log : SealedLog H)
    (batch : List Candidate) (h : History) (l : Layout) (p : layout.Pass)
    (of : IsOfPass bytes old.core log batch old.looks h l p) where
  abbrev ruling : Ruling MoveAnswer
  ruling = relocate_ruling l h p batch

  abbrev otherwise : Otherwise
  otherwise = as_before l l

  abbrev fronts : Fronts old.core h l
  fronts = of.stands.fronts

  there : AllByRecursion (IsThere (layout_logs l) p.segment) batch
  there = subst (λ (n : ℕ). AllByRecursion (IsThere (layout_logs l) n) batch) (sym of.segment)
      (there_now bytes log l of.lasts.still batch of.there)

  -- what is moved is what the ruling moves
  abbrev ruled : List Moved
  ruled = moved_of (sources l) p.segment (last_number h) batch

  found_ruled : (moved : List Moved) (finds : Finds bytes old.core log.number batch old.looks moved) → finds.found ≡ ruled
  found_ruled moved finds =
      let marked = laid_marked bytes old.core.version l h [] of.stands.has of.stands.tidy in
      finds.found_are (sources l) of.fits (record { inputs = []; marked = marked.marked; had = marked.has; are = marked.are })
      ∙ ap (λ (n : ℕ). moved_of (sources l) n old.core.front.oracle.last batch) (sym of.segment)
      ∙ ap (λ (n : ℕ). moved_of (sources l) p.segment n batch) fronts.front.last

  pub found_is : (moved : List Moved) → Finds bytes old.core log.number batch old.looks moved → ruled ≡ moved
  found_is moved finds = sym (
      finds.moved_are
      ∙ ap (filter (may_add old.core.version.active.entries old.core.front.oracle.last)) (found_ruled moved finds)
      ∙ ap (λ (es : List Entry). filter (may_add es old.core.front.oracle.last) ruled) of.stands.has.active
      ∙ ap (λ (n : ℕ). filter (may_add (memtable l.active) n) ruled) fronts.front.last
      ∙ all_kept (memtable l.active) (last_number h) ruled (moved_apart l p.segment (last_number h) batch)
      (moved_up_to (sources l) p.segment (last_number h) batch)
      )

  -- ---- exit by exit

  abbrev Found : List Moved → Type 0
  Found moved = HasFound g bytes faults_of old new log.number batch moved

  running : (moved : List Moved) → Found moved → l.halted ≡ None
  running moved found = runs l h p batch old.core fronts found.running

  pub moves : (moved : List Moved) → HandsOver g bytes faults_of old new log.number batch moved → IsMoving l h p batch moved
  moves moved hands =
      let has = hands.has in
      can_move l h p batch old.core fronts moved (found_is moved has.found.finds)
      (record { running = has.found.running; some = has.some; left = has.left; fits = hands.room })

  none_moved : Found [] → leaving (Moves 0) h l ≡ ruling
  none_moved found = none_ruled l h p batch (running [] found) (found_is [] found.finds)

  halted_so : (name : Name) → old.core.front.halted ≡ Some name → leaving (answers.Halted (file_of name)) h l ≡ ruling
  halted_so name is = halted_ruled l h p batch (file_of name) (sym fronts.halted ∙ ap (option_map file_of) is)

  used_so : (counter : Counter) → IsUsedUp g bytes faults_of old new log.number batch counter
      → leaving (answers.Exhausted counter) h l ≡ ruling
  used_so counter used =
      ap (λ (c : Counter). leaving (answers.Exhausted c) h l) used.counter_is
      ∙ used_up l h p batch old.core fronts used.moved (found_is used.moved used.found.finds) used.found.running used.some used.used

  full_so : (long frame : ℕ) → IsFull g bytes faults_of old new log.number batch long frame
      → leaving (answers.Full long frame) h l ≡ ruling
  full_so long frame full =
      let has = full.has in
      let over = full.over in
      let length_is = full.length_is in
      let frame_is = full.frame_is in
      ap (λ (n : ℕ). leaving (answers.Full n frame) h l) full.length_is
      ∙ ap (λ (n : ℕ). leaving (answers.Full old.core.front.log.length n) h l) full.frame_is
      ∙ is_full l h p batch old.core fronts full.moved (found_is full.moved has.found.finds) has.found.running has.some has.left
      (over_then old.core.front.room long old.core.front.log.length frame (move_length full.moved) full.length_is full.frame_is full.over)

  read_runs : (name : Name) → HasFailedToRead g bytes faults_of old new log.number batch name → l.halted ≡ None
  read_runs name read = runs l h p batch old.core fronts read.fails.running

  -- ---- whatever is said of what it leaves

  -- nothing is other than before but what is kept for look-ups
  pub record IsAsBefore : Type 0 where
    pub core : new.core ≡ old.core
    pub merging : new.merging ≡ old.merging
    pub told : g.told new.disk ≡ g.told old.disk

  as_left : LeavesAll old new → IsAsBefore
  as_left leaves =
      record { core = leaves.core; merging = leaves.merging; told = ap (λ (d : D). g.told d) leaves.disk }

  module _ (S : History → Layout → Type 0) (kept : IsAsBefore → S h l)
      (stopped : (name : Name) → new.core ≡ record old.core { front = record old.core.front { halted = Some name } }
      → new.merging ≡ old.merging → S h (halted_at (file_of name) l))
      (moved_so : (moved : List Moved) → IsMoving l h p batch moved → HasMoved g old.disk new.disk old.core new.core moved
      → NotesMoves old.merging new.merging (moves_at (old.core.back.epoch + 1) moved) → S h (relocated l moved)) where
    left_by : (answer : MoveAnswer) → leaving answer h l ≡ ruling → LeavesAll old new
        → Decides S h l ruling otherwise (Answered answer) no_effects
    left_by answer is leaves = decides_leaving S h l ruling otherwise answer l is (kept (as_left leaves))

    pub decides_by : (result : Result ℕ MoveFail) → RelocatesAs g bytes faults_of old new log.number batch result
        → Decides S h l ruling otherwise (move_outcome result) (move_effects result)
    decides_by (Ok zero) did = left_by (Moves 0) (none_moved did.0) did.1
    decides_by (Ok (suc n)) did =
        let may = moves did.moved did.hands in
        decides_answered S h l ruling otherwise (Moves (suc n)) (record no_effects { calls = 2 })
        (ap Moves did.count_is ∙ ap (λ (r : Ruling MoveAnswer). r.answer) may.ruling)
        (ap (λ (r : Ruling MoveAnswer). effects_of r) may.ruling)
        (subst (λ (r : Ruling MoveAnswer). S r.history r.layout) may.ruling (moved_so did.moved may did.moves did.notes))
    decides_by (Err (fails.Halted name)) did = left_by (answers.Halted (file_of name)) (halted_so name did.0) did.2
    decides_by (Err (fails.Exhausted back counter)) did = left_by (answers.Exhausted counter) (used_so counter did.1) did.2
    decides_by (Err (fails.Full back long frame)) did = left_by (answers.Full long frame) (full_so long frame did.1) did.2
    decides_by (Err (fails.NoMemory back)) did =
        let out = did.1 in
        decides_short S h l ruling l (kept (record { core = out.core; merging = out.merging; told = out.disk.told }))
    decides_by (Err (fails.Read name)) read =
        decides_failed S h l ruling l (file_of name) no_effects (read_runs name read) (stopped name read.core read.merging)
    decides_by (Err (fails.Disk name)) wrote =
        decides_failed S h l ruling l (file_of name) no_effects (moves wrote.moved wrote.hands).running
        (stopped name (subst (λ (n : Name). new.core ≡ record old.core { front = record old.core.front { halted = Some n } })
        (sym wrote.named) wrote.failed.core) wrote.merging)
    decides_by (Err (fails.Damaged back name place)) did = record {
      answered = λ a said. absurd cc;
      did = λ a said. absurd cc;
      no_memory = λ said. absurd cc;
      failed = λ other said. absurd cc;
      damaged = λ other at said. (kept (as_left did.2), refl);
    }

  -- ---- memory

  -- The engine stands for what the ruling leaves, and the open merge is the layout's job.
  pub stands_by : StandsOpen bytes old.core old.merging h l → (result : Result ℕ MoveFail)
      → RelocatesAs g bytes faults_of old new log.number batch result
      → Decides (StandsOpen bytes new.core new.merging) h l ruling otherwise (move_outcome result) (move_effects result)
  stands_by is = decides_by (StandsOpen bytes new.core new.merging)
      (λ same. subst (λ (c : Core H). StandsOpen bytes c new.merging h l) (sym same.core)
      (subst (λ (o : Option OpenMerge). StandsOpen bytes old.core o h l) (sym same.merging) is))
      (λ name core merging. record {
        stands = stands_stopped bytes old.core new.core h l name core is.stands;
        opens = subst (λ (o : Option OpenMerge). Opens o l.job) (sym merging) is.opens;
      })
      (λ moved may did notes. record {
        stands = stands_moved g bytes old.core new.core old.disk new.disk h l is.stands p batch moved may there did;
        opens = opens_then (old.core.back.epoch + 1) (l.epoch + 1)
            (ap (λ (n : ℕ). n + 1) fronts.version) moved old.merging new.merging l.job is.opens notes;
      })

  -- What decides is that of what the ruling leaves.
  pub fronts_by : (result : Result ℕ MoveFail) → RelocatesAs g bytes faults_of old new log.number batch result
      → Decides (Fronts new.core) h l ruling otherwise (move_outcome result) (move_effects result)
  fronts_by = decides_by (Fronts new.core)
      (λ same. subst (λ (c : Core H). Fronts c h l) (sym same.core) fronts)
      (λ name core merging. fronts_stopped bytes old.core new.core h l name core fronts)
      (λ moved may did notes. fronts_moved g bytes old.core new.core old.disk new.disk h l fronts moved did)

  -- Steps on files find what they ask.
  pub fits_by : ((state : DiskState) → g.told old.disk ≡ Some state → Stands (move_log old.core.front) state)
      → Fits (g.told old.disk) old.core h l → (result : Result ℕ MoveFail)
      → RelocatesAs g bytes faults_of old new log.number batch result
      → Decides (Fits (g.told new.disk) new.core) h l ruling otherwise (move_outcome result) (move_effects result)
  fits_by stood fits = decides_by (Fits (g.told new.disk) new.core)
      (λ same. subst (λ (c : Core H). Fits (g.told new.disk) c h l) (sym same.core)
      (subst (λ (o : Option DiskState). Fits o old.core h l) (sym same.told) fits))
      (λ name core merging. record { running = λ runs. absurd cc })
      (λ moved may did notes. fits_relocated g bytes old.core new.core old.disk new.disk h l moved of.stands did may.running stood fits)

  -- ---- right behind it

  -- no record of the batch wins exactly from inside the pass's log
  pub settled_by : (result : Result ℕ MoveFail) → RelocatesAs g bytes faults_of old new log.number batch result
      → OnOk result (AllByRecursion (IsSettled p.segment (sources ruling.layout)) batch)
  settled_by (Ok zero) did =
      subst (λ (r : Ruling MoveAnswer). AllByRecursion (IsSettled p.segment (sources r.layout)) batch) (none_moved did.0)
      (settled_none l h of.stands.tidy p.segment batch (found_is [] did.0.finds))
  settled_by (Ok (suc n)) did =
      subst (λ (r : Ruling MoveAnswer). AllByRecursion (IsSettled p.segment (sources r.layout)) batch) (moves did.moved did.hands).ruling
      (settled_moved l h of.stands.tidy p.segment batch did.moved (found_is did.moved did.hands.has.found.finds))
  settled_by (Err why) did = tt

  -- ---- the disk

  module _ (watched : IsWatched g) (is : Represents bytes old.core (g.told old.disk) h l) where
    refused_by : (answer : MoveAnswer) → leaving answer h l ≡ ruling → LeavesAll old new
        → Carries g bytes old.disk new.disk new.core h l ruling otherwise (Answered answer) no_effects
    refused_by answer ruled_so leaves =
        subst (λ (d : D). Carries g bytes old.disk d new.core h l ruling otherwise (Answered answer) no_effects) (sym leaves.disk)
        (subst (λ (c : Core H). Carries g bytes old.disk old.disk c h l ruling otherwise (Answered answer) no_effects)
        (sym leaves.core) (carries_refused_move g watched bytes old.core h l p batch old.disk answer ruled_so is))

    nothing : new.disk ≡ old.disk → ChangesNothing g old.disk new.disk ⊥
    nothing same = subst (λ (d : D). ChangesNothing g old.disk d ⊥) (sym same) (looked_none g old.disk)

    -- What it carries out over a disk that holds the layout.
    pub carries_by : (result : Result ℕ MoveFail) → RelocatesAs g bytes faults_of old new log.number batch result
        → Carries g bytes old.disk new.disk new.core h l ruling otherwise (move_outcome result) (move_effects result)
    carries_by (Ok zero) did = refused_by (Moves 0) (none_moved did.0) did.1
    carries_by (Ok (suc n)) did =
        let may = moves did.moved did.hands in
        subst (λ (k : ℕ). Carries g bytes old.disk new.disk new.core h l ruling otherwise (Answered (Moves k))
        (record no_effects { calls = 2 })) (sym did.count_is)
        (carries_moved g watched bytes old.core h l p batch old.disk new.disk new.core is did.moved may there did.moves)
    carries_by (Err (fails.Halted name)) did = refused_by (answers.Halted (file_of name)) (halted_so name did.0) did.2
    carries_by (Err (fails.Exhausted back counter)) did = refused_by (answers.Exhausted counter) (used_so counter did.1) did.2
    carries_by (Err (fails.Full back long frame)) did = refused_by (answers.Full long frame) (full_so long frame did.1) did.2
    carries_by (Err (fails.NoMemory back)) did =
        let out = did.1 in
        subst (λ (c : Core H). Carries g bytes old.disk new.disk c h l ruling otherwise NoMemory no_effects) (sym out.core)
        (carries_short_move g watched bytes old.core h l p batch old.disk new.disk ⊥ out.disk is)
    carries_by (Err (fails.Read name)) read =
        carries_unread_move g watched bytes old.core h l p batch old.disk new.disk ⊥ (nothing read.disk) is new.core name
        (read_runs name read) read.core no_effects
    carries_by (Err (fails.Disk name)) wrote =
        subst (λ (n : Name). Carries g bytes old.disk new.disk new.core h l ruling otherwise (Failed (file_of n)) no_effects)
        (ap (λ (n : ℕ). names.Log n) (sym fronts.number) ∙ sym wrote.named)
        (carries_failed_move g watched bytes old.core h l p batch old.disk new.disk is wrote.moved (moves wrote.moved wrote.hands)
        there wrote.failed.hands new.core wrote.failed no_effects)
    carries_by (Err (fails.Damaged back name place)) did =
        subst (λ (c : Core H). Carries g bytes old.disk new.disk c h l ruling otherwise (Damaged (file_of name) place) no_effects)
        (sym did.2.core)
        (carries_damaged_move g watched bytes old.core h l p batch old.disk new.disk ⊥ (nothing did.2.disk) is (file_of name) place)
