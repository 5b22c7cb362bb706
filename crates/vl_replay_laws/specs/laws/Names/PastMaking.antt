-- What reads at an older number through a name make.
use Rattle.std.proofs.Common.{◌≡◌, ℕ, false, List, [], ◌∷◌, ◌++◌, refl, ap, sym, ◌∙◌, subst, arith}
use Rattle.std.specs.Prelude.{Option, Some, Ok, Err, Result}
use Rattle.vl_disk.specs.laws.Counting.{never_failed, rose_at_all}
use Rattle.vl_disk.specs.DiskState.{DiskState}
use Rattle.vl_disk.specs.Faults.{HasCause, never}
use Rattle.vl_reads.specs.Past.{AtFailed, IsAnsweredAt, beginning}
use Rattle.vl_reads.specs.Reading.{NotesNothing, OnlyReads}
use Rattle.vl_reads.specs.Sees.{Sees, SeesAlone}
use Rattle.vl_reads.specs.declared.fails.AtFail.{AtFail}
use Rattle.vl_reads.specs.declared.fails.AtFail.TheVariants as gone
use Rattle.vl_engine_laws.specs.declared.kept.Core.{Core}
use Rattle.vl_reads.specs.declared.txn.Txn.{Txn}
use Rattle.vl_reads.specs.declared.view.View.{View as EngineView}
use Rattle.vl_engine_model.specs.AtAnswer.{AtAnswer, Beginning, at_answer, at_answer_by}
use Rattle.vl_engine_model.specs.Rulings.Commit.{Transaction as ATxn}
use Rattle.vl_engine_model.specs.Store.Commits.{at_answer_in, value_in}
use Rattle.vl_engine_model.specs.Store.Lines.{Name}
use Rattle.vl_engine_model.specs.Store.Reading.{get_at_by, told_at}
use Rattle.vl_engine_model.specs.Store.Things.{Step, only, thing_of}
use Rattle.vl_engine_model.specs.laws.CommitsLaws.{low_in-is, value_in-is}
use Rattle.vl_model.specs.History.{History}
use Rattle.vl_model.specs.Keys.{Stored}
use Rattle.vl_model.specs.Reads.{Read}
use Rattle.vl_model.specs.Versions.{low}
use Rattle.vl_script_model.specs.Failing.{FailsBeside}
use Rattle.vl_script_model.specs.Halts.{HaltsByDamage, HaltsByDisk, HaltsByReader}
use Rattle.vl_replay_laws.specs.Replaying.{MakesStep, OnlyNoMemory, StandsIn}
use Rattle.vl_script_model.specs.Sequential.{State, history_of, without_lengths}
use Rattle.vl_replay_laws.specs.Standing.{IsTaken, Stand, past_answer, value_answer}
use Rattle.vl_script_model.specs.declared.fails.Halt.{Halt}
use Rattle.vl_replay_laws.specs.declared.open.Open.{Open}
use Rattle.vl_replay_laws.specs.declared.open.Thing.TheVariants.{Transaction, View}
use Rattle.vl_script.specs.declared.answer.Answer.{Answer}
use Rattle.vl_script.specs.declared.answer.Answer.TheVariants as answers
use Rattle.vl_replay_laws.specs.laws.Names.Making.{itself, its, only_makes, txn_back, view_back}
use Rattle.vl_replay_laws.specs.laws.Names.ReadMaking.{told_is}

-- ---- what is told

sound_past : (answer : AtAnswer) (result : Result (Option Stored) AtFail) → IsAnsweredAt answer result → (AtFailed result → ⊥)
    → OnlyNoMemory (past_answer result)
sound_past answer (Ok value) answered near = tt
sound_past answer (Err gone.EmptyKey) answered near = tt
sound_past answer (Err gone.KeyTooLong) answered near = tt
sound_past answer (Err (gone.Ahead number)) answered near = tt
sound_past answer (Err (gone.Dropped least)) answered near = tt
sound_past answer (Err gone.NoMemory) answered near = refl
sound_past answer (Err (gone.Disk name)) answered near = absurd (near tt)
sound_past answer (Err (gone.Damaged name place)) answered near = absurd answered

pub past_sound : (answer : AtAnswer) (read : Result (Option Stored) AtFail) (result : Result Answer Halt) → result ≡ past_answer read
    → IsAnsweredAt answer read → (AtFailed read → ⊥) → OnlyNoMemory result
past_sound answer read result is answered near =
    subst (λ (r : Result Answer Halt). OnlyNoMemory r) (sym is) (sound_past answer read answered near)

undamaged_past : (answer : AtAnswer) (result : Result (Option Stored) AtFail) → IsAnsweredAt answer result
    → HaltsByDamage (past_answer result) → ⊥
undamaged_past answer (Ok value) answered halts = halts
undamaged_past answer (Err gone.EmptyKey) answered halts = halts
undamaged_past answer (Err gone.KeyTooLong) answered halts = halts
undamaged_past answer (Err (gone.Ahead number)) answered halts = halts
undamaged_past answer (Err (gone.Dropped least)) answered halts = halts
undamaged_past answer (Err gone.NoMemory) answered halts = halts
undamaged_past answer (Err (gone.Disk name)) answered halts = halts
undamaged_past answer (Err (gone.Damaged name place)) answered halts = answered

pub past_undamaged : (answer : AtAnswer) (read : Result (Option Stored) AtFail) (result : Result Answer Halt) → result ≡ past_answer read
    → IsAnsweredAt answer read → HaltsByDamage result → ⊥
past_undamaged answer read result is answered halts =
    undamaged_past answer read answered (subst (λ (r : Result Answer Halt). HaltsByDamage r) is halts)

failed_past : (result : Result (Option Stored) AtFail) → HaltsByReader (past_answer result) → AtFailed result
failed_past (Ok value) halts = halts
failed_past (Err gone.EmptyKey) halts = halts
failed_past (Err gone.KeyTooLong) halts = halts
failed_past (Err (gone.Ahead number)) halts = halts
failed_past (Err (gone.Dropped least)) halts = halts
failed_past (Err gone.NoMemory) halts = halts
failed_past (Err (gone.Disk name)) halts = tt
failed_past (Err (gone.Damaged name place)) halts = absurd halts

pub past_counted : {R : Type 0} (read : Result (Option Stored) AtFail) (result : Result Answer Halt) → result ≡ past_answer read
    → (faults : R → ℕ) (old new : R) → HasCause (faults old) (faults new) (AtFailed read)
    → (sure : Type 0) → (sure → faults old ≡ never) → HaltsByReader result → FailsBeside sure faults
past_counted read result is faults old new cause sure surely halts =
    let failed = failed_past read (subst (λ (r : Result Answer Halt). HaltsByReader r) is halts) in
    record {
      failed = record { reader = new; some = rose_at_all (faults old) (faults new) (cause.rose failed) };
      not_so = λ is_sure. never_failed (faults old) (faults new) (AtFailed read) cause (surely is_sure) failed;
    }

by_disk_past : (result : Result (Option Stored) AtFail) → HaltsByDisk (past_answer result) → ⊥
by_disk_past (Ok value) halts = halts
by_disk_past (Err gone.EmptyKey) halts = halts
by_disk_past (Err gone.KeyTooLong) halts = halts
by_disk_past (Err (gone.Ahead number)) halts = halts
by_disk_past (Err (gone.Dropped least)) halts = halts
by_disk_past (Err gone.NoMemory) halts = halts
by_disk_past (Err (gone.Disk name)) halts = halts
by_disk_past (Err (gone.Damaged name place)) halts = halts

pub past_not_by_disk : (read : Result (Option Stored) AtFail) (result : Result Answer Halt) → result ≡ past_answer read
    → HaltsByDisk result → ⊥
past_not_by_disk read result is halts = by_disk_past read (subst (λ (r : Result Answer Halt). HaltsByDisk r) is halts)

-- ---- what is made

module _ {H R : Type 0} (bytes : H → Option (List ℕ)) (seen : Option DiskState) (core : Core H) (os : List (Open H R)) (s : State)
    (stands : StandsIn bytes seen core os s) (left : List (Open H R)) (name : Name) (key : List ℕ) (number : ℕ) where
  abbrev h : History
  h = history_of s

  abbrev reading : Step
  reading = get_at_by s.store name key number (thing_of s.store name)

  -- as the history has it
  answer_is : (b : Beginning) (own : ℕ) → at_answer_in s.store.commits b own key number ≡ at_answer h b own key number
  answer_is b own =
      ap (λ (least : ℕ). at_answer_by own least (value_in s.store.commits number key) key number)
      (low_in-is s.store.commits stands.sound.proper.commits b.floor b.keep b.since key)
      ∙ ap (λ (value : Option Stored). at_answer_by own (low h b.floor b.keep b.since key) value key number)
      (value_in-is s.store.commits stands.sound.proper.commits number key)

  -- it is told so, and nothing is changed
  past_makes : (behind : List (Open H R)) (answer : AtAnswer) → reading ≡ only (told_at answer) s.store
      → (result : Result (Option Stored) AtFail) → IsAnsweredAt answer result
      → Stand bytes behind s.store.things h s.store.layout → MakesStep bytes seen core behind s reading (past_answer result)
  past_makes behind answer is (Ok value) answered names =
      only_makes bytes seen core os s stands behind reading (value_answer false value) (told_at answer) is
      (told_is false value ∙ ap (λ (a : AtAnswer). without_lengths (told_at a)) (sym answered)) names
  past_makes behind answer is (Err gone.EmptyKey) answered names =
      only_makes bytes seen core os s stands behind reading answers.Invalid (told_at answer) is
      (ap (λ (a : AtAnswer). without_lengths (told_at a)) (sym answered)) names
  past_makes behind answer is (Err gone.KeyTooLong) answered names =
      only_makes bytes seen core os s stands behind reading answers.Invalid (told_at answer) is
      (ap (λ (a : AtAnswer). without_lengths (told_at a)) (sym answered)) names
  past_makes behind answer is (Err (gone.Ahead most)) answered names =
      only_makes bytes seen core os s stands behind reading answers.Invalid (told_at answer) is
      (ap (λ (a : AtAnswer). without_lengths (told_at a)) (sym answered)) names
  past_makes behind answer is (Err (gone.Dropped least)) answered names =
      only_makes bytes seen core os s stands behind reading (answers.Dropped least) (told_at answer) is
      (ap (λ (a : AtAnswer). without_lengths (told_at a)) (sym answered)) names
  past_makes behind answer is (Err gone.NoMemory) answered names = tt
  past_makes behind answer is (Err (gone.Disk file)) answered names = tt
  past_makes behind answer is (Err (gone.Damaged file place)) answered names = absurd answered

  pub view_past_makes : (view new : EngineView H R) → IsTaken os left name (Some (View view)) → OnlyReads view new
      → ((k : History) → SeesAlone bytes view k → SeesAlone bytes new k) → (result : Result (Option Stored) AtFail)
      → ((k : History) → SeesAlone bytes view k → IsAnsweredAt (at_answer k (beginning view.past) view.number key number) result)
      → MakesStep bytes seen core (left ++ record { name = name; thing = View new } ∷ []) s reading (past_answer result)
  view_past_makes view new taken keeps still result answered =
      let (b, there, sees, live, near, began) = its bytes seen core os s stands left name view taken in
      past_makes (left ++ record { name = name; thing = View new } ∷ []) (at_answer h b view.number key number)
      (ap (get_at_by s.store name key number) there ∙ ap (λ (a : AtAnswer). only (told_at a) s.store) (answer_is b view.number))
      result (subst (λ (c : Beginning). IsAnsweredAt (at_answer h c view.number key number) result) began (answered h sees))
      (view_back bytes seen core os s stands left name view taken new keeps (still h))

  pub txn_past_makes : (txn new : Txn H R) → IsTaken os left name (Some (Transaction txn)) → NotesNothing txn new
      → ((k : History) (reads : List Read) → Sees bytes txn k reads → Sees bytes new k reads) → (result : Result (Option Stored) AtFail)
      → ((k : History) (reads : List Read) → Sees bytes txn k reads
      → IsAnsweredAt (at_answer k (beginning txn.past) txn.number key number) result)
      → MakesStep bytes seen core (left ++ record { name = name; thing = Transaction new } ∷ []) s reading (past_answer result)
  txn_past_makes txn new taken keeps still result answered =
      let (t, b, there, is, began) = itself bytes seen core os s stands left name txn taken in
      let own : txn.number ≡ t.number = ap (λ (u : ATxn). u.number) is.same in
      past_makes (left ++ record { name = name; thing = Transaction new } ∷ []) (at_answer h b txn.number key number)
      (ap (get_at_by s.store name key number) there
      ∙ ap (λ (n : ℕ). only (told_at (at_answer_in s.store.commits b n key number)) s.store) (sym own)
      ∙ ap (λ (a : AtAnswer). only (told_at a) s.store) (answer_is b txn.number))
      result (subst (λ (c : Beginning). IsAnsweredAt (at_answer h c txn.number key number) result) began (answered h t.reads is.sees))
      (txn_back bytes seen core os s stands left name txn taken new keeps (still h))
