-- A batch becomes a commit, or is refused: what each exit of its calls comes to.
use Rattle.std.specs.Prelude.{◌≡◌, ◌≤◌, ◌<◌, ◌+◌, ℕ, Bool, false, nat_le, if◌then◌else◌, List, [], length}
use Rattle.std.specs.Prelude.{Option, None, Some, Result, Ok, Err, ⊤, refl}
use Rattle.std.specs.FinMap.{entries, from_sorted}
use Rattle.std.proofs.Common.{sym, ap, subst, ◌∙◌, arith, inl, inr}
use Rattle.std.proofs.lemmas.Bool.Decides.{nat_tests}
use Rattle.vl_backup.proofs.Calls.{Calls, commit_cases, lets_alone, looks_at}
use Rattle.vl_backup.proofs.Calls.{may_open, no_conflict, rotate_cases, shows_then, shows_to}
use Rattle.vl_stream.specs.Batches.{Write}
use Rattle.vl_backup.specs.Fails.{step_fail}
use Rattle.vl_backup.specs.Loading.{CommitsBatch, GoesOn, HasNoRoomFor, IsFullFor, IsLeftBy, IsReady, IsUsedUp, Parts}
use Rattle.vl_backup.specs.Loading.{RefusesBatch, Works, commit_fail, given_up, sealed_for, up_to}
use Rattle.vl_backup.specs.declared.fails.LoadFail.{LoadFail}
use Rattle.vl_backup.specs.declared.fails.LoadFail.TheVariants as loads
use Rattle.vl_disk.specs.Calls.{ChangesNothing}
use Rattle.vl_disk.specs.declared.name.Name.{Name}
use Rattle.vl_disk.specs.declared.watched.Watched.{Ghosts}
use Rattle.vl_engine_laws.specs.Carries.{CrashesShow, Tells}
use Rattle.vl_engine_laws.specs.Represents.{file_of}
use Rattle.vl_engine_laws.specs.laws.Carrying.{IsWatched, extends_itself}
use Rattle.vl_engine_model.specs.Decides.{Answered, Effects, Failed, NoMemory, Otherwise, Outcome, as_before, no_effects}
use Rattle.vl_engine_model.specs.Ruling.{Exhausted, Idle, Ruling, StepAnswer, Stepped, ended, halted_at, logged}
use Rattle.vl_engine_model.specs.Rulings.Commit as commit
use Rattle.vl_engine_model.specs.Rulings.Commit.{CommitAnswer, Transaction, commit_frame, commit_lost, commit_ruling, committed}
use Rattle.vl_engine_model.specs.Rulings.Rotate.{rotate_ruling, rotated}
use Rattle.vl_engine_model.specs.Ruling as rulings
use Rattle.vl_engine_model.specs.declared.file_name.FileName.{FileName}
use Rattle.vl_engine_model.specs.declared.layout.Layout.{Layout}
use Rattle.vl_model.specs.Formats.{log_format}
use Rattle.vl_model.specs.Frames.{frame_length}
use Rattle.vl_model.specs.History.{Extends, History, last_number, with_commit}
use Rattle.vl_model.specs.Limits.{max_commit_number}
use Rattle.vl_model.specs.declared.counter.Counter.{Counter}
use Rattle.vl_model.specs.declared.counter.Counter.TheVariants as counters
use Rattle.vl_model.specs.laws.HistoryLaws.{with_commit-extends}
use Rattle.vl_reads.specs.Sees.{asked}
use Rattle.vl_reads.specs.declared.txn.Txn.{Txn}
use Rattle.vl_recover.specs.crash.Starts.{MayOpen}
use Rattle.vl_steps.specs.Answers.{LeavesDisk, commit_effects, commit_outcome, handed_back}
use Rattle.vl_steps.specs.Stepping.{step_outcome}
use Rattle.vl_steps.specs.declared.done.Done.{Done}
use Rattle.vl_steps.specs.declared.done.Done.TheVariants as dones
use Rattle.vl_steps.specs.declared.fails.CommitFail.{CommitFail}
use Rattle.vl_steps.specs.declared.fails.CommitFail.TheVariants as commits
use Rattle.vl_steps.specs.declared.fails.StepFail.{StepFail}
use Rattle.vl_steps.specs.declared.fails.StepFail.TheVariants as steps

-- ---- answers that differ

at_no_full : {P : Type 0} {n1 : ℕ} {a2 b2 : ℕ} → commit.At n1 ≡ commit.Full a2 b2 → P
at_no_full e = absurd (cc)

at_no_halted : {P : Type 0} {n1 : ℕ} {f2 : FileName} → commit.At n1 ≡ commit.Halted f2 → P
at_no_halted e = absurd (cc)

at_no_used : {P : Type 0} {n1 : ℕ} {k2 : Counter} → commit.At n1 ≡ commit.Exhausted k2 → P
at_no_used e = absurd (cc)

conflict_no_at : {P : Type 0} {key1 : List ℕ} {n1 : ℕ} {n2 : ℕ} → commit.Conflict key1 n1 ≡ commit.At n2 → P
conflict_no_at e = absurd (cc)

conflict_no_full : {P : Type 0} {key1 : List ℕ} {n1 : ℕ} {a2 b2 : ℕ} → commit.Conflict key1 n1 ≡ commit.Full a2 b2 → P
conflict_no_full e = absurd (cc)

conflict_no_halted : {P : Type 0} {key1 : List ℕ} {n1 : ℕ} {f2 : FileName} → commit.Conflict key1 n1 ≡ commit.Halted f2 → P
conflict_no_halted e = absurd (cc)

conflict_no_used : {P : Type 0} {key1 : List ℕ} {n1 : ℕ} {k2 : Counter} → commit.Conflict key1 n1 ≡ commit.Exhausted k2 → P
conflict_no_used e = absurd (cc)

full_no_at : {P : Type 0} {a1 b1 : ℕ} {n2 : ℕ} → commit.Full a1 b1 ≡ commit.At n2 → P
full_no_at e = absurd (cc)

full_no_halted : {P : Type 0} {a1 b1 : ℕ} {f2 : FileName} → commit.Full a1 b1 ≡ commit.Halted f2 → P
full_no_halted e = absurd (cc)

full_no_used : {P : Type 0} {a1 b1 : ℕ} {k2 : Counter} → commit.Full a1 b1 ≡ commit.Exhausted k2 → P
full_no_used e = absurd (cc)

halted_no_at : {P : Type 0} {f1 : FileName} {n2 : ℕ} → commit.Halted f1 ≡ commit.At n2 → P
halted_no_at e = absurd (cc)

halted_no_full : {P : Type 0} {f1 : FileName} {a2 b2 : ℕ} → commit.Halted f1 ≡ commit.Full a2 b2 → P
halted_no_full e = absurd (cc)

halted_no_used : {P : Type 0} {f1 : FileName} {k2 : Counter} → commit.Halted f1 ≡ commit.Exhausted k2 → P
halted_no_used e = absurd (cc)

idle_no_out : {P : Type 0} {k2 : Counter} → Idle ≡ Exhausted k2 → P
idle_no_out e = absurd (cc)

idle_no_stepped : {P : Type 0} {n2 : ℕ} → Idle ≡ Stepped n2 → P
idle_no_stepped e = absurd (cc)

nothing_no_at : {P : Type 0} {n2 : ℕ} → commit.Nothing ≡ commit.At n2 → P
nothing_no_at e = absurd (cc)

nothing_no_full : {P : Type 0} {a2 b2 : ℕ} → commit.Nothing ≡ commit.Full a2 b2 → P
nothing_no_full e = absurd (cc)

nothing_no_halted : {P : Type 0} {f2 : FileName} → commit.Nothing ≡ commit.Halted f2 → P
nothing_no_halted e = absurd (cc)

nothing_no_used : {P : Type 0} {k2 : Counter} → commit.Nothing ≡ commit.Exhausted k2 → P
nothing_no_used e = absurd (cc)

out_no_stepped : {P : Type 0} {k1 : Counter} {n2 : ℕ} → Exhausted k1 ≡ Stepped n2 → P
out_no_stepped e = absurd (cc)

stepped_no_out : {P : Type 0} {n1 : ℕ} {k2 : Counter} → Stepped n1 ≡ Exhausted k2 → P
stepped_no_out e = absurd (cc)

stopped_no_out : {P : Type 0} {f1 : FileName} {k2 : Counter} → rulings.Halted f1 ≡ Exhausted k2 → P
stopped_no_out e = absurd (cc)

stopped_no_stepped : {P : Type 0} {f1 : FileName} {n2 : ℕ} → rulings.Halted f1 ≡ Stepped n2 → P
stopped_no_stepped e = absurd (cc)

used_no_at : {P : Type 0} {k1 : Counter} {n2 : ℕ} → commit.Exhausted k1 ≡ commit.At n2 → P
used_no_at e = absurd (cc)

used_no_full : {P : Type 0} {k1 : Counter} {a2 b2 : ℕ} → commit.Exhausted k1 ≡ commit.Full a2 b2 → P
used_no_full e = absurd (cc)

used_no_halted : {P : Type 0} {k1 : Counter} {f2 : FileName} → commit.Exhausted k1 ≡ commit.Halted f2 → P
used_no_halted e = absurd (cc)

-- ---- the most that a crash leaves goes on from the history

pub extends_up_to : (why : LoadFail) (h next : History) → Extends h next → Extends h (up_to why h next)
extends_up_to (loads.Disk name) h next extends = extends
extends_up_to loads.NotABackup h next extends = extends_itself h
extends_up_to (loads.NewerFormat format) h next extends = extends_itself h
extends_up_to (loads.Damaged place) h next extends = extends_itself h
extends_up_to (loads.Full long frame) h next extends = extends_itself h
extends_up_to loads.TooMany h next extends = extends_itself h
extends_up_to loads.Read h next extends = extends_itself h
extends_up_to (loads.Exhausted counter) h next extends = extends_itself h
extends_up_to (loads.Halted name) h next extends = extends_itself h
extends_up_to loads.NoMemory h next extends = extends_itself h

-- ---- where a batch begins

module _ {D H : Type 0} (g : Ghosts D) (bytes : H → Option (List ℕ)) where
  -- behind calls that left the history
  pub goes_behind : (old mid new : Parts D H) (h : History) (l : Layout) (reached most : History) (so : Layout → Type 0)
      → Extends h most → (l.halted ≡ None → CrashesShow g old.disk mid.disk h h) → GoesOn g bytes mid new h l reached most so
      → GoesOn g bytes old new h l reached most so
  goes_behind old mid new h l reached most so extends first x = record {
    layout = x.layout;
    works = x.works;
    live = x.live;
    through = λ running. shows_then g old.disk mid.disk new.disk h h most (extends_itself h) extends (first running)
        (x.through running);
    again = x.again;
    is = x.is;
  }

  pub commits_behind : (old mid new : Parts D H) (h : History) (l sealed : Layout) (batch : List Write)
      (result : Result ⊤ LoadFail)
      → (l.halted ≡ None → CrashesShow g old.disk mid.disk h h) → CommitsBatch g bytes mid new h l sealed batch result
      → CommitsBatch g bytes old new h l sealed batch result
  commits_behind old mid new h l sealed batch (Ok done) first x =
      let next = with_commit h (from_sorted batch) in
      goes_behind old mid new h l next next (λ (y : Layout). y ≡ logged (commit_frame h batch) sealed)
      (with_commit-extends h (from_sorted batch)) first x
  commits_behind old mid new h l sealed batch (Err why) first x =
      let next = with_commit h (from_sorted batch) in
      goes_behind old mid new h l h (up_to why h next) (λ (y : Layout). RefusesBatch h batch why y × IsLeftBy why l sealed y)
      (extends_up_to why h next (with_commit-extends h (from_sorted batch))) first x

  left_later : (why : LoadFail) (l sealed x : Layout) → IsLeftBy why sealed sealed x → IsLeftBy why l sealed x
  left_later (loads.Disk name) l sealed x (inl is) = inr is
  left_later (loads.Disk name) l sealed x (inr is) = inr is
  left_later (loads.Full long frame) l sealed x (inl is) = inr is
  left_later (loads.Full long frame) l sealed x (inr is) = inr is
  left_later loads.TooMany l sealed x (inl is) = inr is
  left_later loads.TooMany l sealed x (inr is) = inr is
  left_later (loads.Exhausted counter) l sealed x (inl is) = inr is
  left_later (loads.Exhausted counter) l sealed x (inr is) = inr is
  left_later (loads.Halted name) l sealed x (inl is) = inr is
  left_later (loads.Halted name) l sealed x (inr is) = inr is
  left_later loads.NoMemory l sealed x (inl is) = inr is
  left_later loads.NoMemory l sealed x (inr is) = inr is
  left_later loads.NotABackup l sealed x is = is
  left_later (loads.NewerFormat format) l sealed x is = is
  left_later (loads.Damaged place) l sealed x is = is
  left_later loads.Read l sealed x is = is

  -- of a log that was sealed before, with the same alive
  pub commits_sealed : (old new : Parts D H) (h : History) (l sealed : Layout) (batch : List Write) (result : Result ⊤ LoadFail)
      → sealed.live ≡ l.live → sealed.halted ≡ l.halted → CommitsBatch g bytes old new h sealed sealed batch result
      → CommitsBatch g bytes old new h l sealed batch result
  commits_sealed old new h l sealed batch (Ok done) live halted x = record {
    layout = x.layout;
    works = x.works;
    live = x.live ∙ live;
    through = λ running. x.through (halted ∙ running);
    again = λ running. x.again (halted ∙ running);
    is = x.is;
  }
  commits_sealed old new h l sealed batch (Err why) live halted x = record {
    layout = x.layout;
    works = x.works;
    live = x.live ∙ live;
    through = λ running. x.through (halted ∙ running);
    again = λ running. x.again (halted ∙ running);
    is = (x.is.0, left_later why l sealed x.layout x.is.1);
  }

-- ---- the commit

module _ {D H R : Type 0} (g : Ghosts D) (watched : IsWatched g) (bytes : H → Option (List ℕ)) (old : Parts D H)
    (h : History) (l : Layout) (txn : Txn H R) (batch : List Write) (works : Works g bytes old h l)
    (ready : IsReady txn l batch) where
  abbrev t : Transaction
  t = asked txn []

  abbrev ruling : Ruling CommitAnswer
  ruling = commit_ruling l h t

  abbrev after : Layout
  after = ended txn.ticket l

  abbrev next : History
  next = with_commit h (from_sorted (entries txn.writes))

  -- by this it was refused, and this layout is left
  abbrev IsSo : (sealed : Layout) → LoadFail → Layout → Type 0
  IsSo sealed why x = RefusesBatch h (entries txn.writes) why x × IsLeftBy why after sealed x

  some : 1 ≤ length (entries txn.writes)
  some = subst (λ (b : List Write). 1 ≤ length b) (sym ready.writes) ready.some

  abbrev Came : (mid : Parts D H) → Outcome CommitAnswer → Effects → Ruling CommitAnswer → Type 0
  Came mid outcome effects r = Calls g bytes old mid h l r (as_before l (commit_lost l t)) outcome effects

  -- It was answered.
  pub committed_so : (new : Parts D H) (done : Done) (effects : Effects) (r : ⊤)
      → Came new (commit_outcome {H = H} {R = R} (Ok done)) effects ruling → CommitsBatch g bytes old new h after after
      batch (Ok r)
  committed_so new (dones.At number) effects r call =
      subst (λ (b : List Write). CommitsBatch g bytes old new h after after b (Ok r)) ready.writes
      (commit_cases h l t (no_conflict h txn.number) some
      (λ (x : Ruling CommitAnswer). Came new (Answered (commit.At number)) effects x
      → GoesOn g bytes old new h after next next (λ (y : Layout). y ≡ logged (commit_frame h (entries txn.writes)) after))
      (λ name is c. at_no_halted (c.decides.answered (commit.At number) refl).0)
      (λ running used c. at_no_used (c.decides.answered (commit.At number) refl).0)
      (λ running full c. at_no_full (c.decides.answered (commit.At number) refl).0)
      (λ running fits c. record {
        layout = (committed l h t).layout;
        works = (c.decides.answered (commit.At number) refl).1;
        live = refl;
        through = λ same. c.through running;
        again = λ same. c.again running;
        is = refl;
      })
      call)
  committed_so new dones.Nothing effects r call = absurd (
      commit_cases h l t (no_conflict h txn.number) some
      (λ (x : Ruling CommitAnswer). Came new (Answered commit.Nothing) effects x → ⊥)
      (λ name is c. nothing_no_halted (c.decides.answered commit.Nothing refl).0)
      (λ running used c. nothing_no_used (c.decides.answered commit.Nothing refl).0)
      (λ running full c. nothing_no_full (c.decides.answered commit.Nothing refl).0)
      (λ running fits c. nothing_no_at (c.decides.answered commit.Nothing refl).0)
      call)

  -- then the log had room
  pub fitted_so : (new : Parts D H) (done : Done) (effects : Effects)
      → Came new (commit_outcome {H = H} {R = R} (Ok done)) effects ruling → sealed_for h batch after ≡ after
  fitted_so new (dones.At number) effects call =
      subst (λ (b : List Write). sealed_for h b after ≡ after) ready.writes
      (commit_cases h l t (no_conflict h txn.number) some
      (λ (x : Ruling CommitAnswer). Came new (Answered (commit.At number)) effects x → sealed_for h (entries txn.writes)
      after ≡ after)
      (λ name is c. at_no_halted (c.decides.answered (commit.At number) refl).0)
      (λ running used c. at_no_used (c.decides.answered (commit.At number) refl).0)
      (λ running full c. at_no_full (c.decides.answered (commit.At number) refl).0)
      (λ running fits c. ap (λ (b : Bool). if b then after else rotated after) fits)
      call)
  fitted_so new dones.Nothing effects call = absurd (
      commit_cases h l t (no_conflict h txn.number) some
      (λ (x : Ruling CommitAnswer). Came new (Answered commit.Nothing) effects x → ⊥)
      (λ name is c. nothing_no_halted (c.decides.answered commit.Nothing refl).0)
      (λ running used c. nothing_no_used (c.decides.answered commit.Nothing refl).0)
      (λ running full c. nothing_no_full (c.decides.answered commit.Nothing refl).0)
      (λ running fits c. nothing_no_at (c.decides.answered commit.Nothing refl).0)
      call)

  pub committed_there : (new : Parts D H) (done : Done) (effects : Effects) (r : ⊤)
      → Came new (commit_outcome {H = H} {R = R} (Ok done)) effects ruling
      → CommitsBatch g bytes old new h after (sealed_for h batch after) batch (Ok r)
  committed_there new done effects r call =
      subst (λ (x : Layout). CommitsBatch g bytes old new h after x batch (Ok r)) (sym (fitted_so new done effects call))
      (committed_so new done effects r call)

  -- ---- it was refused, and the disk was let alone

  module _ (mid new : Parts D H) (no_change : ChangesNothing g old.disk mid.disk ⊥) (same : new.disk ≡ mid.disk)
      (sealed : Layout) where
    quiet : l.halted ≡ None → CrashesShow g old.disk new.disk h h
    quiet running = subst (λ (d : D). CrashesShow g old.disk d h h) (sym same)
        (looks_at g watched bytes old mid.disk h l no_change works running)

    opens : (l.halted ≡ None → Tells g mid.disk MayOpen) → l.halted ≡ None → Tells g new.disk MayOpen
    opens again running = subst (λ (d : D). Tells g d MayOpen) (sym same) (again running)

    -- so a batch was refused that stands where it stood
    refuses : (why : LoadFail) (x : Layout) → x.live ≡ after.live → up_to why h next ≡ h → Works g bytes new h x
        → (l.halted ≡ None → Tells g mid.disk MayOpen) → IsSo sealed why x
        → GoesOn g bytes old new h after h (up_to why h next) (IsSo sealed why)
    refuses why x live most is again why_so = record {
      layout = x;
      works = is;
      live = live;
      through = λ running. subst (CrashesShow g old.disk new.disk h) (sym most) (quiet running);
      again = opens again;
      is = why_so;
    }

    -- The engine was halted before.
    halted_so : (name : Name) (effects : Effects) → Came mid (Answered (commit.Halted (file_of name))) effects ruling
        → ((k : History) (x : Layout) → Works g bytes mid k x → Works g bytes new k x)
        → GoesOn g bytes old new h after h h (IsSo sealed (loads.Halted name))
    halted_so name effects call gives =
        let (is, there) = commit_cases h l t (no_conflict h txn.number) some
        (λ (x : Ruling CommitAnswer). Came mid (Answered (commit.Halted (file_of name))) effects x
        → (l.halted ≡ Some (file_of name)) × Works g bytes mid h after)
        (λ n is c.
        let said = c.decides.answered (commit.Halted (file_of name)) refl in
        (subst (λ (f : FileName). l.halted ≡ Some f) (sym (same_name (file_of name) n said.0)) is, said.1))
        (λ running used c. halted_no_used (c.decides.answered (commit.Halted (file_of name)) refl).0)
        (λ running full c. halted_no_full (c.decides.answered (commit.Halted (file_of name)) refl).0)
        (λ running fits c. halted_no_at (c.decides.answered (commit.Halted (file_of name)) refl).0)
        call in
        refuses (loads.Halted name) after refl refl (gives h after there) call.again (is, inl refl)
      where
        same_name : (a b : FileName) → commit.Halted a ≡ commit.Halted b → a ≡ b
        same_name a b e = cc

    -- No commit number is left.
    used_up_so : (effects : Effects) → Came mid (Answered (commit.Exhausted counters.Commit)) effects ruling
        → ((k : History) (x : Layout) → Works g bytes mid k x → Works g bytes new k (ended txn.ticket x))
        → GoesOn g bytes old new h after h h (IsSo sealed (loads.Exhausted counters.Commit))
    used_up_so effects call gives =
        let (is, there) = commit_cases h l t (no_conflict h txn.number) some
        (λ (x : Ruling CommitAnswer). Came mid (Answered (commit.Exhausted counters.Commit)) effects x
        → (max_commit_number ≤ last_number h) × Works g bytes mid h l)
        (λ n is c. used_no_halted (c.decides.answered (commit.Exhausted counters.Commit) refl).0)
        (λ running used c. (used, (c.decides.answered (commit.Exhausted counters.Commit) refl).1))
        (λ running full c. used_no_full (c.decides.answered (commit.Exhausted counters.Commit) refl).0)
        (λ running fits c. used_no_at (c.decides.answered (commit.Exhausted counters.Commit) refl).0)
        call in
        refuses (loads.Exhausted counters.Commit) after refl refl (gives h l there) call.again (is, inl refl)

    -- Nothing conflicts with what read nothing.
    never_conflicts : (key : List ℕ) (number : ℕ) (effects : Effects)
        → Came mid (Answered (commit.Conflict key number)) effects ruling → ⊥
    never_conflicts key number effects call =
        commit_cases h l t (no_conflict h txn.number) some
        (λ (x : Ruling CommitAnswer). Came mid (Answered (commit.Conflict key number)) effects x → ⊥)
        (λ n is c. conflict_no_halted (c.decides.answered (commit.Conflict key number) refl).0)
        (λ running used c. conflict_no_used (c.decides.answered (commit.Conflict key number) refl).0)
        (λ running full c. conflict_no_full (c.decides.answered (commit.Conflict key number) refl).0)
        (λ running fits c. conflict_no_at (c.decides.answered (commit.Conflict key number) refl).0)
        call

  -- The log has no room.
  pub full_so : (mid : Parts D H) (long frame : ℕ) (effects : Effects)
      → Came mid (Answered (commit.Full long frame)) effects ruling
      → Works g bytes mid h l × IsFullFor l h batch long frame
  full_so mid long frame effects call =
      commit_cases h l t (no_conflict h txn.number) some
      (λ (x : Ruling CommitAnswer). Came mid (Answered (commit.Full long frame)) effects x
      → Works g bytes mid h l × IsFullFor l h batch long frame)
      (λ n is c. full_no_halted (c.decides.answered (commit.Full long frame) refl).0)
      (λ running used c. full_no_used (c.decides.answered (commit.Full long frame) refl).0)
      (λ running over c.
      let said = c.decides.answered (commit.Full long frame) refl in
      let a = same_length long _ frame _ said.0 in
      let b = same_frame long _ frame _ said.0 in (
        said.1,
        record {
          running = running;
          length_is = a;
          frame_is = b
              ∙ ap (λ (format : ℕ). frame_length format (commit_frame h (entries txn.writes)))
              works.represents.stands.fronts.format
              ∙ ap (λ (w : List Write). frame_length log_format (commit_frame h w)) ready.writes;
          passes = omega (arith, over, a, b);
        },
      ))
      (λ running fits c. full_no_at (c.decides.answered (commit.Full long frame) refl).0)
      call
    where
      same_length : (a b c d : ℕ) → commit.Full a c ≡ commit.Full b d → a ≡ b
      same_length a b c d e = cc

      same_frame : (a b c d : ℕ) → commit.Full a c ≡ commit.Full b d → c ≡ d
      same_frame a b c d e = cc

  -- The disk failed.
  failed_so : (mid new : Parts D H) (name : Name) (effects : Effects) → Came mid (Failed (file_of name)) effects ruling
      → ((k : History) (x : Layout) → Works g bytes mid k x → Works g bytes new k x) → new.disk ≡ mid.disk
      → (sealed : Layout) → GoesOn g bytes old new h after h next (IsSo sealed (loads.Disk name))
  failed_so mid new name effects call gives same sealed =
      let (running, there) = call.decides.failed (file_of name) refl in
      let shows : CrashesShow g old.disk mid.disk h next = commit_cases h l t (no_conflict h txn.number) some
      (λ (x : Ruling CommitAnswer). CrashesShow g old.disk mid.disk h x.history → CrashesShow g old.disk mid.disk h next)
      (λ n is through. shows_to g old.disk mid.disk h h next (with_commit-extends h (from_sorted (entries txn.writes))) through)
      (λ run used through. shows_to g old.disk mid.disk h h next (with_commit-extends h (from_sorted (entries txn.writes)))
      through)
      (λ run full through. shows_to g old.disk mid.disk h h next (with_commit-extends h (from_sorted (entries txn.writes)))
      through)
      (λ run fits through. through)
      (call.through running) in
      record {
        layout = halted_at (file_of name) after;
        works = gives h (halted_at (file_of name) after) there;
        live = refl;
        through = λ run. subst (λ (d : D). CrashesShow g old.disk d h next) (sym same) shows;
        again = λ run. subst (λ (d : D). Tells g d MayOpen) (sym same) (call.again running);
        is = (refl, inl refl);
      }

  -- By what it was refused, what was handed back was given up.
  refusals : (mid new : Parts D H) (why : CommitFail H R) (effects : Effects)
      → Came mid (commit_outcome {H = H} {R = R} (Err why)) effects ruling
      → (LeavesDisk {H = H} {R = R} (Err why) → ChangesNothing g old.disk mid.disk ⊥)
      → ((back : Txn H R) → handed_back (Err why) ≡ Some back → back ≡ txn)
      → ((k : History) (x : Layout) → Works g bytes mid k x → Works g bytes new k (given_up why x))
      → new.disk ≡ mid.disk
      → ((back : Txn H R) (long frame : ℕ) → why ≡ commits.Full back long frame → l.active.length ≡ 16)
      → (sealed : Layout) → CommitsBatch g bytes old new h after sealed (entries txn.writes) (Err (commit_fail why))
  refusals mid new (commits.Halted name) effects call alone back gives same empty sealed = halted_so mid new (alone tt) same
      sealed name effects call gives
  refusals mid new (commits.Exhausted other) effects call alone back gives same empty sealed =
      used_up_so mid new (alone tt) same sealed effects call
      (λ k x is. subst (λ (u : Txn H R). Works g bytes new k (ended u.ticket x)) (back other refl) (gives k x is))
  refusals mid new (commits.Conflict key number) effects call alone back gives same empty sealed =
      absurd (never_conflicts mid new (alone tt) same sealed key number effects call)
  refusals mid new (commits.Full other long frame) effects call alone back gives same empty sealed =
      let (there, full) = full_so mid long frame effects call in
      refuses mid new (alone tt) same sealed (loads.Full long frame) after refl refl
      (subst (λ (u : Txn H R). Works g bytes new h (ended u.ticket l)) (back other refl) (gives h l there)) call.again (
        record {
          empty = full.length_is ∙ empty other long frame refl;
          frame_is = full.frame_is ∙ ap (λ (w : List Write). frame_length log_format (commit_frame h w)) (sym ready.writes);
          passes = full.passes;
        },
        inl refl,
      )
  refusals mid new (commits.NoMemory other) effects call alone back gives same empty sealed =
      refuses mid new (alone tt) same sealed loads.NoMemory after refl refl
      (subst (λ (u : Txn H R). Works g bytes new h (ended u.ticket l)) (back other refl)
      (gives h l (call.decides.no_memory refl).0))
      call.again (tt, inl refl)
  refusals mid new (commits.Disk name) effects call alone back gives same empty sealed = failed_so mid new name effects call
      gives same sealed

  pub refused_so : (mid new : Parts D H) (why : CommitFail H R) (effects : Effects) (said : LoadFail) → said ≡ commit_fail why
      → Came mid (commit_outcome {H = H} {R = R} (Err why)) effects ruling
      → (LeavesDisk {H = H} {R = R} (Err why) → ChangesNothing g old.disk mid.disk ⊥)
      → ((back : Txn H R) → handed_back (Err why) ≡ Some back → back ≡ txn)
      → ((k : History) (x : Layout) → Works g bytes mid k x → Works g bytes new k (given_up why x))
      → new.disk ≡ mid.disk
      → ((back : Txn H R) (long frame : ℕ) → why ≡ commits.Full back long frame → l.active.length ≡ 16)
      → (sealed : Layout) → CommitsBatch g bytes old new h after sealed batch (Err said)
  refused_so mid new why effects said is call alone back gives same empty sealed =
      subst (λ (w : LoadFail). CommitsBatch g bytes old new h after sealed batch (Err w)) (sym is)
      (subst (λ (b : List Write). CommitsBatch g bytes old new h after sealed b (Err (commit_fail why))) ready.writes
      (refusals mid new why effects call alone back gives same empty sealed))

  -- ---- a log without room

  pub ready_back : (back : Txn H R) → back ≡ txn → IsReady back l batch
  ready_back back same = subst (λ (u : Txn H R). IsReady u l batch) (sym same) ready

  -- it is empty
  pub has_no_room : (new : Parts D H) (long frame : ℕ) → IsFullFor l h batch long frame → long ≤ 16
      → Works g bytes new h (ended txn.ticket l) → new.disk ≡ old.disk
      → (sealed : Layout) → CommitsBatch g bytes old new h after sealed batch (Err (loads.Full long frame))
  has_no_room new long frame full short is same sealed = record {
    layout = after;
    works = is;
    live = refl;
    through = λ running. subst (λ (d : D). CrashesShow g old.disk d h h) (sym same)
        (lets_alone g watched bytes old h l works running);
    again = λ running. subst (λ (d : D). Tells g d MayOpen) (sym same) (may_open g watched bytes old h l works running);
    is = (
      record {
        empty = (let true_log = works.represents.stands.tidy.true_logs.0 in omega (arith, true_log, short, full.length_is));
        frame_is = full.frame_is;
        passes = full.passes;
      },
      inl refl,
    );
  }

  -- so it is sealed for the batch
  pub full_sealed : (long frame : ℕ) → IsFullFor l h batch long frame → sealed_for h batch after ≡ rotated after
  full_sealed long frame full = ap (λ (b : Bool). if b then after else rotated after) (
      let format = works.represents.stands.fronts.format in
      let same : frame_length l.active.format (commit_frame h batch) ≡ frame =
      ap (λ (f : ℕ). frame_length f (commit_frame h batch)) format ∙ sym full.frame_is in
      let passes : l.room < l.active.length + frame_length l.active.format (commit_frame h batch) =
      omega (arith, same, full.length_is, full.passes) in
      let no : nat_le (l.active.length + frame_length l.active.format (commit_frame h batch)) l.room ≡ false =
      grind (arith, nat_tests, passes) in no)

  pub sealed_there : (new : Parts D H) (long frame : ℕ) (result : Result ⊤ LoadFail) → IsFullFor l h batch long frame
      → CommitsBatch g bytes old new h after (rotated after) batch result
      → CommitsBatch g bytes old new h after (sealed_for h batch after) batch result
  sealed_there new long frame result full commits =
      subst (λ (x : Layout). CommitsBatch g bytes old new h after x batch result) (sym (full_sealed long frame full)) commits

  -- The log had no room, and what was handed back went on.
  pub went_full : (mid new : Parts D H) (other : Txn H R) (long frame : ℕ) (effects : Effects) (result : Result ⊤ LoadFail)
      → other ≡ txn → Came mid (Answered (commit.Full long frame)) effects ruling → ChangesNothing g old.disk mid.disk ⊥
      → (Works g bytes mid h l → IsReady other l batch → IsFullFor l h batch long frame
      → CommitsBatch g bytes mid new h (ended other.ticket l) (rotated (ended other.ticket l)) batch result)
      → CommitsBatch g bytes old new h after (sealed_for h batch after) batch result
  went_full mid new other long frame effects result back call no_change commits =
      let (there, full) = full_so mid long frame effects call in
      sealed_there new long frame result full
      (commits_behind g bytes old mid new h after (rotated after) batch result
      (looks_at g watched bytes old mid.disk h l no_change works)
      (subst (λ (u : Txn H R). CommitsBatch g bytes mid new h (ended u.ticket l) (rotated (ended u.ticket l)) batch result) back
      (commits there (ready_back other back) full)))

  module _ (long frame : ℕ) (full : IsFullFor l h batch long frame) (longer : 16 < long) where
    is_longer : 16 < l.active.length
    is_longer = omega (arith, longer, full.length_is)

    abbrev Rotates : (mid : Parts D H) → Outcome StepAnswer → Effects → Ruling StepAnswer → Type 0
    Rotates mid outcome effects r = Calls g bytes old mid h l r (as_before l l) outcome effects

    -- a rotation leaves the history
    pub rotation_shows : (mid : Parts D H) (outcome : Outcome StepAnswer) (effects : Effects)
        → Rotates mid outcome effects (rotate_ruling l h)
        → CrashesShow g old.disk mid.disk h h
    rotation_shows mid outcome effects call =
        rotate_cases (λ (x : Ruling StepAnswer). CrashesShow g old.disk mid.disk h x.history → CrashesShow g old.disk
        mid.disk h h)
        h l full.running works.represents.stands.tidy.true_logs.0 is_longer (λ is shows. shows) (λ is shows. shows)
        (λ shows. shows)
        (call.through full.running)

    -- it sealed the log
    pub rotated_so : (mid : Parts D H) (sealed : Option ℕ) (effects : Effects)
        → Rotates mid (step_outcome (Ok sealed)) effects (rotate_ruling l h) → Works g bytes mid h (rotated l)
    rotated_so mid None effects call = absurd (
        rotate_cases (λ (x : Ruling StepAnswer). Rotates mid (Answered Idle) effects x → ⊥) h l full.running
        works.represents.stands.tidy.true_logs.0 is_longer
        (λ is c. idle_no_out (c.decides.answered Idle refl).0)
        (λ is c. idle_no_out (c.decides.answered Idle refl).0)
        (λ c. idle_no_stepped (c.decides.answered Idle refl).0)
        call)
    rotated_so mid (Some number) effects call =
        rotate_cases (λ (x : Ruling StepAnswer). Rotates mid (Answered (Stepped number)) effects x → Works g bytes mid h
        (rotated l))
        h l full.running works.represents.stands.tidy.true_logs.0 is_longer
        (λ is c. stepped_no_out (c.decides.answered (Stepped number) refl).0)
        (λ is c. stepped_no_out (c.decides.answered (Stepped number) refl).0)
        (λ c. (c.decides.answered (Stepped number) refl).1)
        call

    pub ready_then : IsReady txn (rotated l) batch
    ready_then = record { lives = ready.lives; unread = ready.unread; writes = ready.writes; some = ready.some }

    -- and it went on to the new one
    pub went_first : (mid new : Parts D H) (sealed : Option ℕ) (effects : Effects) (result : Result ⊤ LoadFail)
        → Rotates mid (step_outcome (Ok sealed)) effects (rotate_ruling l h)
        → (Works g bytes mid h (rotated l) → IsReady txn (rotated l) batch
        → CommitsBatch g bytes mid new h (ended txn.ticket (rotated l)) (ended txn.ticket (rotated l)) batch result)
        → CommitsBatch g bytes old new h after (rotated after) batch result
    went_first mid new sealed effects result call commits =
        commits_behind g bytes old mid new h after (rotated after) batch result
        (λ running. rotation_shows mid (step_outcome (Ok sealed)) effects call)
        (commits_sealed g bytes mid new h after (rotated after) batch result refl refl
        (commits (rotated_so mid sealed effects call) ready_then))

    -- it was refused
    module _ (mid new : Parts D H) (gives : (k : History) (x : Layout) → Works g bytes mid k x → Works g bytes new k
        (ended txn.ticket x))
        (same : new.disk ≡ mid.disk) where
      refuses_step : (why : LoadFail) (x : Layout) (outcome : Outcome StepAnswer) (effects : Effects)
          → Rotates mid outcome effects (rotate_ruling l h) → x.live ≡ after.live → Extends h
          (up_to why h (with_commit h (from_sorted batch)))
          → Works g bytes new h x → RefusesBatch h batch why x → IsLeftBy why after (rotated after) x
          → CommitsBatch g bytes old new h after (rotated after) batch (Err why)
      refuses_step why x outcome effects call live extends is why_so left = record {
        layout = x;
        works = is;
        live = live;
        through = λ running. shows_to g old.disk new.disk h h (up_to why h (with_commit h (from_sorted batch))) extends
            (subst (λ (d : D). CrashesShow g old.disk d h h) (sym same) (rotation_shows mid outcome effects call));
        again = λ running. subst (λ (d : D). Tells g d MayOpen) (sym same) (call.again running);
        is = (why_so, left);
      }

      past : HasNoRoomFor h batch after
      past = omega (arith, full.passes, full.length_is, full.frame_is)

      abbrev longest : Extends h (with_commit h (from_sorted batch))
      longest = with_commit-extends h (from_sorted batch)

      step_used_up : (counter : Counter) (effects : Effects)
          → Rotates mid (Answered (Exhausted counter)) effects (rotate_ruling l h)
          → Works g bytes mid h l × IsUsedUp h batch after counter
      step_used_up counter effects call =
          rotate_cases (λ (x : Ruling StepAnswer). Rotates mid (Answered (Exhausted counter)) effects x
          → Works g bytes mid h l × IsUsedUp h batch after counter)
          h l full.running works.represents.stands.tidy.true_logs.0 is_longer
          (λ is c. let said = c.decides.answered (Exhausted counter) refl in
          (said.1, subst (IsUsedUp h batch after) (sym (same_counter counter counters.Log said.0)) (is, past)))
          (λ is c. let said = c.decides.answered (Exhausted counter) refl in
          (said.1, subst (IsUsedUp h batch after) (sym (same_counter counter counters.Version said.0)) (is, past)))
          (λ c. out_no_stepped (c.decides.answered (Exhausted counter) refl).0)
          call
        where
          same_counter : (a b : Counter) → Exhausted a ≡ Exhausted b → a ≡ b
          same_counter a b e = cc

      pub step_refused_so : (why : StepFail) (effects : Effects)
          → Rotates mid (step_outcome (Err why)) effects (rotate_ruling l h)
          → CommitsBatch g bytes old new h after (rotated after) batch (Err (step_fail why))
      step_refused_so (steps.Halted name) effects call = absurd (
          rotate_cases (λ (x : Ruling StepAnswer). Rotates mid (Answered (rulings.Halted (file_of name))) effects x → ⊥) h l
          full.running
          works.represents.stands.tidy.true_logs.0 is_longer
          (λ is c. stopped_no_out (c.decides.answered (rulings.Halted (file_of name)) refl).0)
          (λ is c. stopped_no_out (c.decides.answered (rulings.Halted (file_of name)) refl).0)
          (λ c. stopped_no_stepped (c.decides.answered (rulings.Halted (file_of name)) refl).0)
          call)
      step_refused_so (steps.Exhausted counter) effects call =
          let (there, used) = step_used_up counter effects call in
          refuses_step (loads.Exhausted counter) after (Answered (Exhausted counter)) effects call refl (extends_itself h)
          (gives h l there) used (inl refl)
      step_refused_so steps.NoMemory effects call =
          refuses_step loads.NoMemory after NoMemory effects call refl (extends_itself h)
          (gives h l (call.decides.no_memory refl).0) tt (inl refl)
      step_refused_so (steps.Disk name) effects call =
          refuses_step (loads.Disk name) (ended txn.ticket (halted_at (file_of name) l)) (Failed (file_of name)) effects
          call refl longest
          (gives h (halted_at (file_of name) l) (call.decides.failed (file_of name) refl).1) refl (inl refl)

      pub step_refused_as : (why : StepFail) (said : LoadFail) (effects : Effects) → said ≡ step_fail why
          → Rotates mid (step_outcome (Err why)) effects (rotate_ruling l h)
          → CommitsBatch g bytes old new h after (rotated after) batch (Err said)
      step_refused_as why said effects is call =
          subst (λ (w : LoadFail). CommitsBatch g bytes old new h after (rotated after) batch (Err w)) (sym is)
          (step_refused_so why effects call)

-- ---- a commit that is handed back since the log has no room

pub handed_full : {H R : Type 0} (why : CommitFail H R) (txn : Txn H R) (long frame : ℕ) → why ≡ commits.Full txn long frame
    → handed_back (Err why) ≡ Some txn
handed_full {H} {R} why txn long frame is = ap (λ (w : CommitFail H R). handed_back (Err w)) is

pub left_full : {H R : Type 0} (why : CommitFail H R) (txn : Txn H R) (long frame : ℕ) → why ≡ commits.Full txn long frame
    → LeavesDisk {H = H} {R = R} (Err why)
left_full {H} {R} why txn long frame is = subst (λ (w : CommitFail H R). LeavesDisk {H = H} {R = R} (Err w)) (sym is) tt

pub called_full : {D H R : Type 0} (g : Ghosts D) (bytes : H → Option (List ℕ)) (old mid : Parts D H) (h : History) (l : Layout)
    (ruling : Ruling CommitAnswer) (otherwise : Otherwise) (why : CommitFail H R) (txn : Txn H R) (long frame : ℕ)
    → why ≡ commits.Full txn long frame
    → Calls g bytes old mid h l ruling otherwise (commit_outcome {H = H} {R = R} (Err why))
    (commit_effects {H = H} {R = R} (Err why))
    → Calls g bytes old mid h l ruling otherwise (Answered (commit.Full long frame)) no_effects
called_full {H = H} {R = R} g bytes old mid h l ruling otherwise why txn long frame is call =
    subst (λ (w : CommitFail H R). Calls g bytes old mid h l ruling otherwise (commit_outcome {H = H} {R = R} (Err w))
    no_effects) is call

-- ---- what is given up

module _ {D H R : Type 0} (g : Ghosts D) (bytes : H → Option (List ℕ)) (e : Parts D H) (h : History) (l : Layout)
    (why : CommitFail H R) where
  abbrev Given : Layout → Type 0
  Given x = Works g bytes e h x

  pub halted_left : (name : Name) → why ≡ commits.Halted name → Given l → Given (given_up why l)
  halted_left name same is = subst (λ (w : CommitFail H R). Given (given_up w l)) (sym same) is

  pub failed_left : (name : Name) → why ≡ commits.Disk name → Given l → Given (given_up why l)
  failed_left name same is = subst (λ (w : CommitFail H R). Given (given_up w l)) (sym same) is

  pub conflict_left : (key : List ℕ) (number : ℕ) → why ≡ commits.Conflict key number → Given l → Given (given_up why l)
  conflict_left key number same is = subst (λ (w : CommitFail H R). Given (given_up w l)) (sym same) is

  pub used_up_left : (txn : Txn H R) → why ≡ commits.Exhausted txn → Given (ended txn.ticket l) → Given (given_up why l)
  used_up_left txn same is = subst (λ (w : CommitFail H R). Given (given_up w l)) (sym same) is

  pub full_left : (txn : Txn H R) (long frame : ℕ) → why ≡ commits.Full txn long frame → Given (ended txn.ticket l)
      → Given (given_up why l)
  full_left txn long frame same is = subst (λ (w : CommitFail H R). Given (given_up w l)) (sym same) is

  pub short_left : (txn : Txn H R) → why ≡ commits.NoMemory txn → Given (ended txn.ticket l) → Given (given_up why l)
  short_left txn same is = subst (λ (w : CommitFail H R). Given (given_up w l)) (sym same) is
