-- What a commit through a name makes.
use Rattle.std.proofs.Common.{◌≡◌, ℕ, ◌==◌, ◌+◌, Bool, true, false, cond, List, [], ◌∷◌, ◌++◌, length, refl, ap, sym, ◌∙◌, subst}
use Rattle.std.specs.Prelude.{Option, None, Some, Ok, Err, nat_le}
use Rattle.std.specs.FinMap.{from_sorted}
use Rattle.vl_disk.specs.DiskState.{DiskState}
use Rattle.vl_disk.specs.declared.name.Name.{Name as FileNamed}
use Rattle.vl_steps.specs.Answers.{CommitFailed, commit_outcome, handed_back}
use Rattle.vl_reads.specs.Sees.{asked}
use Rattle.vl_steps.specs.declared.done.Done.{Done}
use Rattle.vl_steps.specs.declared.fails.CommitFail.{CommitFail}
use Rattle.vl_steps.specs.declared.fails.CommitFail.TheVariants as fails
use Rattle.vl_engine_laws.specs.declared.kept.Core.{Core}
use Rattle.vl_reads.specs.declared.txn.Txn.{Txn}
use Rattle.vl_engine_model.specs.AtAnswer.{Beginning}
use Rattle.vl_engine_model.specs.Decides.{Answered, Decides, Effects, Otherwise, Outcome, as_before}
use Rattle.vl_engine_model.specs.Ruling.{Ruling, ended, leaving, logged}
use Rattle.vl_engine_model.specs.Rulings.Commit as commit
use Rattle.vl_engine_model.specs.Rulings.Commit.{CommitAnswer, Transaction as ATxn, commit_checked, commit_ended}
use Rattle.vl_engine_model.specs.Rulings.Commit.{commit_frame, commit_lost, commit_ruling, commit_unless, committed}
use Rattle.vl_engine_model.specs.Store.Commits.{history_in, with_changes}
use Rattle.vl_engine_model.specs.Store.Lines as store_lines
use Rattle.vl_engine_model.specs.Store.Lines.{Name}
use Rattle.vl_engine_model.specs.Store.Reading.{commit_by, committed_by}
use Rattle.vl_engine_model.specs.Store.Things.{ATransaction, Step, thing_of, without_name}
use Rattle.vl_engine_model.specs.declared.file_name.FileName.{FileName}
use Rattle.vl_engine_model.specs.declared.layout.Layout.{Layout}
use Rattle.vl_engine_model.specs.laws.CommitsLaws.{conflict_in-is}
use Rattle.vl_model.specs.Conflicts.{Named, first_conflict}
use Rattle.vl_model.specs.Frames.{frame_length}
use Rattle.vl_model.specs.History.{History, last_number, with_commit}
use Rattle.vl_model.specs.Limits.{max_commit_number}
use Rattle.vl_model.specs.declared.counter.Counter.{Counter}
use Rattle.vl_model.specs.declared.counter.Counter.TheVariants.{Commit as CommitNumber}
use Rattle.vl_replay_laws.specs.Replaying.{MakesStep, StandsIn, state_by}
use Rattle.vl_script_model.specs.Sequential.{IsPrinted, State, history_of}
use Rattle.vl_replay_laws.specs.Standing.{IsTaken, IsTransaction, Stand}
use Rattle.vl_replay_laws.specs.declared.open.Open.{Open}
use Rattle.vl_replay_laws.specs.declared.open.Thing.TheVariants.{Transaction}
use Rattle.vl_script_model.specs.laws.Growing.{history_more}
use Rattle.vl_script_model.specs.laws.Laws.{IsSound, state_after-sound}
use Rattle.vl_script.specs.declared.answer.Answer.{Answer}
use Rattle.vl_script.specs.declared.answer.Answer.TheVariants as answers
use Rattle.vl_script.specs.declared.line.Line.TheVariants as lines
use Rattle.vl_script_model.specs.laws.Betweens.{extends_one}
use Rattle.vl_replay_laws.specs.laws.Names.BeginMaking.{ended_stands, stands_as}
use Rattle.vl_replay_laws.specs.laws.Names.Ending.{ends_so}
use Rattle.vl_replay_laws.specs.laws.Names.Making.{txn_back}
use Rattle.vl_replay_laws.specs.laws.Names.Serving.{Serves}

-- ---- a ruling by its answer

module _ (l : Layout) (h : History) (t : ATxn) where
  abbrev pub ruling_of : CommitAnswer → Ruling CommitAnswer
  ruling_of (commit.At n) = committed l h t
  ruling_of commit.Nothing = commit_ended commit.Nothing l h t
  ruling_of (commit.Halted file) = commit_ended (commit.Halted file) l h t
  ruling_of (commit.Exhausted c) = leaving (commit.Exhausted c) h l
  ruling_of (commit.Conflict key n) = commit_ended (commit.Conflict key n) l h t
  ruling_of (commit.Full length frame) = leaving (commit.Full length frame) h l

  abbrev IsSo : Ruling CommitAnswer → Type 0
  IsSo r = r ≡ ruling_of r.answer

  fitting : (b : Bool) → IsSo
      (cond b (committed l h t) (leaving (commit.Full l.active.length (frame_length l.active.format (commit_frame h t.writes))) h l))
  fitting true = refl
  fitting false = refl

  checked : (o : Option Named) → IsSo (commit_checked l h t o)
  checked (Some named) = refl
  checked None = fitting (nat_le (l.active.length + frame_length l.active.format (commit_frame h t.writes)) l.room)

  left_or : (b : Bool) (o : Option Named) → IsSo (cond b (leaving (commit.Exhausted CommitNumber) h l) (commit_checked l h t o))
  left_or true o = refl
  left_or false o = checked o

  some : (b : Bool) (o : Option Named)
      → IsSo (cond b (commit_ended commit.Nothing l h t)
      (cond (nat_le max_commit_number (last_number h)) (leaving (commit.Exhausted CommitNumber) h l) (commit_checked l h t o)))
  some true o = refl
  some false o = left_or (nat_le max_commit_number (last_number h)) o

  unless : (halted : Option FileName) (o : Option Named) → IsSo (commit_unless halted l h t o)
  unless (Some file) o = refl
  unless None o = some (length t.writes == 0) o

  pub answers_ruling : (a : CommitAnswer) → a ≡ (commit_ruling l h t).answer → commit_ruling l h t ≡ ruling_of a
  answers_ruling a is = unless l.halted (first_conflict h t.number t.reads) ∙ ap ruling_of (sym is)

  -- ---- while it isn't halted

  abbrev pub IsNoHalt : CommitAnswer → Type 0
  IsNoHalt (commit.At n) = Unit {0}
  IsNoHalt commit.Nothing = Unit {0}
  IsNoHalt (commit.Halted file) = ⊥
  IsNoHalt (commit.Exhausted c) = Unit {0}
  IsNoHalt (commit.Conflict key n) = Unit {0}
  IsNoHalt (commit.Full length frame) = Unit {0}

  goes_fitting : (b : Bool)
      → IsNoHalt (cond b (committed l h t)
      (leaving (commit.Full l.active.length (frame_length l.active.format (commit_frame h t.writes))) h l)).answer
  goes_fitting true = tt
  goes_fitting false = tt

  goes_checked : (o : Option Named) → IsNoHalt (commit_checked l h t o).answer
  goes_checked (Some named) = tt
  goes_checked None = goes_fitting (nat_le (l.active.length + frame_length l.active.format (commit_frame h t.writes)) l.room)

  goes_left : (b : Bool) (o : Option Named)
      → IsNoHalt (cond b (leaving (commit.Exhausted CommitNumber) h l) (commit_checked l h t o)).answer
  goes_left true o = tt
  goes_left false o = goes_checked o

  goes_some : (b : Bool) (o : Option Named)
      → IsNoHalt (cond b (commit_ended commit.Nothing l h t)
      (cond (nat_le max_commit_number (last_number h)) (leaving (commit.Exhausted CommitNumber) h l) (commit_checked l h t o))).answer
  goes_some true o = tt
  goes_some false o = goes_left (nat_le max_commit_number (last_number h)) o

  pub goes_on : l.halted ≡ None → IsNoHalt (commit_ruling l h t).answer
  goes_on running = subst (λ (f : Option FileName). IsNoHalt
      (commit_unless f l h t (first_conflict h t.number t.reads)).answer) (sym running)
      (goes_some (length t.writes == 0) (first_conflict h t.number t.reads))

-- ---- steps

module _ {H R : Type 0} (bytes : H → Option (List ℕ)) (seen now : Option DiskState) (before after : Core H)
    (os : List (Open H R)) (s : State)
    (stands : StandsIn bytes seen before os s) (back : after.back ≡ before.back) (left : List (Open H R)) (name : Name)
    (txn : Txn H R) (taken : IsTaken os left name (Some (Transaction txn))) where
  abbrev h : History
  h = history_of s

  abbrev l : Layout
  l = s.store.layout

  abbrev committing : Step
  committing = commit_by s.store name (thing_of s.store name)

  module _ (t : ATxn) (b : Beginning) (there : thing_of s.store name ≡ Some (ATransaction t b)) (is : IsTransaction bytes txn t h l) where
    abbrev by : CommitAnswer → Step
    by a = let r = ruling_of l h t a in committed_by s.store name t r r.answer

    step_by : (a : CommitAnswer) → a ≡ (commit_ruling l h t).answer → committing ≡ by a
    step_by a same =
        ap (commit_by s.store name) there
        ∙ ap (λ (r : Ruling CommitAnswer). committed_by s.store name t r r.answer)
        (ap (commit_unless l.halted l h t) (conflict_in-is s.store.commits stands.sound.proper.commits t.number t.reads)
        ∙ answers_ruling l h t a same)

    sound_by : (a : CommitAnswer) → a ≡ (commit_ruling l h t).answer → IsSound (state_by s (by a))
    sound_by a same = subst (λ (y : Step). IsSound (state_by s y)) (step_by a same) (state_after-sound s (lines.Commit name) stands.sound)

    makes_by : (a : CommitAnswer) (same : a ≡ (commit_ruling l h t).answer) (new : List (Open H R)) (told : Answer)
        → IsPrinted told (by a).answer → StandsIn bytes now after new (state_by s (by a))
        → MakesStep bytes now after new s committing (Ok told)
    makes_by a same new told is_told stands_then =
        subst (λ (y : Step). MakesStep bytes now after new s y (Ok told)) (sym (step_by a same)) (is_told, stands_then)

    module _ (otherwise : Otherwise) (effects : Effects) where
      abbrev pub AnsweredBy : CommitAnswer → Type 0
      AnsweredBy a = Decides (Serves bytes now s.openable after) h l (commit_ruling l h t) otherwise (Answered a) effects

      same_of : (a : CommitAnswer) → AnsweredBy a → a ≡ (commit_ruling l h t).answer
      same_of a decides = (decides.answered a refl).0

      stands_of : (a : CommitAnswer) → AnsweredBy a → Serves bytes now s.openable after (ruling_of l h t a).history
          (ruling_of l h t a).layout
      stands_of a decides =
          subst (λ (r : Ruling CommitAnswer). Serves bytes now s.openable after r.history r.layout)
          (answers_ruling l h t a (same_of a decides)) (decides.answered a refl).1

      pub number_makes : (n : ℕ) → AnsweredBy (commit.At n) → MakesStep bytes now after left s committing (Ok (answers.Number n))
      number_makes n decides =
          let same = same_of (commit.At n) decides in
          let longer : History = with_commit h (from_sorted t.writes) in
          let next : Layout = logged (commit_frame h t.writes) (ended t.ticket l) in
          let more : history_in (with_changes s.store.commits t.writes) ≡ longer = history_more s.store.commits t.writes in
          makes_by (commit.At n) same left (answers.Number n)
          (ap store_lines.Number (number n (same ∙ ap (λ (r : Ruling CommitAnswer). r.answer) (answers_ruling l h t (commit.At n) same))))
          (stands_as bytes seen now before after os s stands back left (by (commit.At n))
          (subst (λ (k : History). Serves bytes now s.openable after k next) (sym more) (stands_of (commit.At n) decides))
          (subst (λ (k : History). Stand bytes left (without_name name s.store.things) k next) (sym more)
          (ends_so bytes h longer l next os left s.store.things stands.names name (Transaction txn) taken
          (ATransaction t b) there (extends_one h longer (from_sorted t.writes) refl) refl refl refl))
          (sound_by (commit.At n) same) refl)
        where
          number : (n : ℕ) → commit.At n ≡ commit.At (last_number h + 1) → n ≡ last_number h + 1
          number n e = cc

      pub nothing_makes : AnsweredBy commit.Nothing → MakesStep bytes now after left s committing (Ok answers.Nothing)
      nothing_makes decides =
          let same = same_of commit.Nothing decides in
          makes_by commit.Nothing same left answers.Nothing refl
          (ended_stands bytes seen now before after os s stands back left name (Transaction txn) taken
          (ATransaction t b) there (stands_of commit.Nothing decides) store_lines.Nothing
          (sound_by commit.Nothing same))

      pub conflict_makes : (key : List ℕ) (n : ℕ) → AnsweredBy (commit.Conflict key n)
          → MakesStep bytes now after left s committing (Ok (answers.Conflict key n))
      conflict_makes key n decides =
          let same = same_of (commit.Conflict key n) decides in
          makes_by (commit.Conflict key n) same left (answers.Conflict key n) refl
          (ended_stands bytes seen now before after os s stands back left name (Transaction txn) taken
          (ATransaction t b) there (stands_of (commit.Conflict key n) decides) (store_lines.Conflict key n)
          (sound_by (commit.Conflict key n) same))

      abbrev behind : Txn H R → List (Open H R)
      behind new = left ++ record { name = name; thing = Transaction new } ∷ []

      back_names : (new : Txn H R) → new ≡ txn → Stand bytes (behind new) s.store.things h l
      back_names new same = subst (λ (x : Txn H R). Stand bytes (behind x) s.store.things h l) (sym same)
          (txn_back bytes seen before os s stands left name txn taken txn refl (λ reads sees. sees))

      pub exhausted_makes : (new : Txn H R) → new ≡ txn → (c : Counter) → AnsweredBy (commit.Exhausted c)
          → MakesStep bytes now after (behind new) s committing (Ok (answers.Exhausted c))
      exhausted_makes new it c decides =
          let same = same_of (commit.Exhausted c) decides in
          makes_by (commit.Exhausted c) same (behind new) (answers.Exhausted c) refl
          (stands_as bytes seen now before after os s stands back (behind new) (by (commit.Exhausted c))
          (stands_of (commit.Exhausted c) decides) (back_names new it)
          (sound_by (commit.Exhausted c) same) refl)

      pub full_makes : (new : Txn H R) → new ≡ txn → (long frame : ℕ) → AnsweredBy (commit.Full long frame)
          → MakesStep bytes now after (behind new) s committing (Ok answers.Full)
      full_makes new it long frame decides =
          let same = same_of (commit.Full long frame) decides in
          makes_by (commit.Full long frame) same (behind new) answers.Full refl
          (stands_as bytes seen now before after os s stands back (behind new) (by (commit.Full long frame))
          (stands_of (commit.Full long frame) decides) (back_names new it)
          (sound_by (commit.Full long frame) same) refl)

      -- an engine that stands for what isn't halted isn't halted
      pub never_halted : (file : FileName) → AnsweredBy (commit.Halted file) → ⊥
      never_halted file decides = subst (λ (a : CommitAnswer). IsNoHalt l h t a)
          (sym (same_of (commit.Halted file) decides)) (goes_on l h t stands.running)

-- ---- what the engine decided, over the reads that the store has

module _ {H R : Type 0} (txn : Txn H R) where
  -- what a commit came to is that of its answer
  pub outcome_done : (d e : Done) → d ≡ e → commit_outcome {H = H} {R = R} (Ok d) ≡ commit_outcome {H = H} {R = R} (Ok e)
  outcome_done d e is = ap (λ (x : Done). commit_outcome {H = H} {R = R} (Ok x)) is

  pub outcome_fail : (f e : CommitFail H R) → f ≡ e → commit_outcome (Err f) ≡ commit_outcome (Err e)
  outcome_fail f e is = ap (λ (x : CommitFail H R). commit_outcome (Err x)) is

  -- a transaction is handed back, and a fault of the disk is one
  pub handed_so : (f e : CommitFail H R) → f ≡ e → handed_back (Err f) ≡ handed_back (Err e)
  handed_so f e is = ap (λ (x : CommitFail H R). handed_back (Err x)) is

  pub failed_so : (f : CommitFail H R) (file : FileNamed) → f ≡ fails.Disk file → CommitFailed (Err f)
  failed_so f file is = subst (λ (x : CommitFail H R). CommitFailed (Err x)) (sym is) tt

  module _ (bytes : H → Option (List ℕ)) (stood : History → Layout → Type 0) (h : History) (l : Layout) (t : ATxn)
      (is : IsTransaction bytes txn t h l)
      (outcome : Outcome CommitAnswer) (effects : Effects) (a : CommitAnswer) (answered : outcome ≡ Answered a) where
    -- it was decided on the transaction of the store
    pub decided_so : Decides stood h l (commit_ruling l h (asked txn t.reads))
        (as_before l (commit_lost l (asked txn t.reads))) outcome effects
        → Decides stood h l (commit_ruling l h t) (as_before l (commit_lost l t)) (Answered a) effects
    decided_so decides =
        subst (λ (o : Outcome CommitAnswer). Decides stood h l (commit_ruling l h t) (as_before l (commit_lost l t)) o effects) answered
        (subst (λ (u : ATxn). Decides stood h l (commit_ruling l h u) (as_before l (commit_lost l u)) outcome effects) is.same decides)
