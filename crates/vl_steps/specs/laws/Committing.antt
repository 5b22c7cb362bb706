-- What a commit comes to, at each of its exits, by the ruling on it.
use Rattle.std.specs.Prelude.{◌≡◌, ℕ, ◌+◌, ◌++◌, List, Option, None, Some, T, refl}
use Rattle.std.specs.FinMap.{entries, entries_sorted, from_sorted, get-entries, get-from_sorted, is_sorted}
use Rattle.std.specs.FinMap.{nat_cmp-IsAntisymmetric, same_map, slice_cmp-IsAntisymmetric}
use Rattle.std.specs.Cmp.Lexicographic.{nat_list_cmp_total}
use Rattle.std.specs.Option.{option_map}
use Rattle.std.proofs.Common.{sym, ap, subst, ◌∙◌}
use Rattle.vl_back.specs.declared.back.Back.{Back}
use Rattle.vl_conflict.specs.Recent.{Remembers}
use Rattle.vl_disk.specs.Disk.{IsChangedBy}
use Rattle.vl_disk.specs.DiskState.{DiskState}
use Rattle.vl_disk.specs.Moments.{Elapses}
use Rattle.vl_disk.specs.declared.name.Name.TheVariants as names
use Rattle.vl_disk.specs.declared.watched.Watched.{Ghosts}
use Rattle.vl_engine_laws.specs.laws.Carrying.{IsWatched, carries_committed, carries_failed, carries_leaving, carries_no_memory, extends_itself}
use Rattle.vl_engine_laws.specs.laws.Knowing.{knows_of}
use Rattle.vl_engine_laws.specs.laws.Represented.{represents_live}
use Rattle.vl_engine_laws.specs.laws.Standing.{decides_as, fronts_committed, fronts_ended, fronts_halted, stands_committed}
use Rattle.vl_engine_laws.specs.laws.Standing.{stands_ended, stands_halted}
use Rattle.vl_engine_laws.specs.Carries.{Carries}
use Rattle.vl_engine_laws.specs.Laid.{HasLayout}
use Rattle.vl_engine_laws.specs.Represents.{Fronts, Represents, StandsFor, file_of}
use Rattle.vl_steps.specs.Staging.{next_frame}
use Rattle.vl_steps.specs.Steps.{IsFailed, IsUnwritten, IsWritten, frame_of}
use Rattle.vl_engine_laws.specs.Writing.{WhileWriting, written}
use Rattle.vl_engine_laws.specs.declared.kept.Core.{Core}
use Rattle.vl_engine_laws.specs.laws.FrontLaws.{front_known}
use Rattle.vl_engine_laws.specs.laws.RulingLaws.{IsAccepted, answered_accepted, ruled, ruled_so}
use Rattle.vl_engine_laws.specs.laws.VersionLaws.{next_entries}
use Rattle.vl_frame.specs.Runs.{HasFrame}
use Rattle.vl_front.specs.Decisions.{decision_of}
use Rattle.vl_front.specs.Front.{IsSame, Knows}
use Rattle.vl_front.specs.declared.decision.Decision.TheVariants as decisions
use Rattle.vl_front.specs.declared.decision.Decision.{Decision}
use Rattle.vl_engine_model.specs.Decides.{Answered, Decides, Effects, Failed, NoMemory, Otherwise, as_before, effects_of, no_effects}
use Rattle.vl_engine_model.specs.Logs.{frame_entries}
use Rattle.vl_engine_model.specs.Ruling.{Ruling, ended, halted_at, leaving}
use Rattle.vl_engine_model.specs.Rulings.Commit.{At, CommitAnswer, Transaction, commit_frame, commit_lost, commit_ruling, committed}
use Rattle.vl_engine_model.specs.declared.file_name.FileName.{FileName}
use Rattle.vl_engine_model.specs.declared.layout.Layout.{Layout}
use Rattle.vl_model.specs.Conflicts.{first_conflict}
use Rattle.vl_model.specs.Entries.{in_order}
use Rattle.vl_model.specs.Formats.{log_format}
use Rattle.vl_model.specs.Frames.{frame_length}
use Rattle.vl_model.specs.History.{Extends, History, last_number, with_commit}
use Rattle.vl_model.specs.Keys.{Writes, key_cmp}
use Rattle.vl_model.specs.Reads.{Read}
use Rattle.vl_model.specs.declared.log_frame.LogFrame.TheVariants.{Committed}
use Rattle.vl_model.specs.declared.log_frame.LogFrame.{LogFrame}
use Rattle.vl_model.specs.laws.HistoryLaws.{with_commit-extends}
use Rattle.vl_oracle.specs.LiveTickets.{LiveTickets, floor_of}
use Rattle.vl_seglog.specs.Frames.{frame_at, frames_grammar}
use Rattle.vl_seglog.specs.declared.active.ActiveLog.{ActiveLog}
use Rattle.vl_version.specs.declared.version.Version.{Version}

-- ---- decisions, whatever stands then

module _ {A : Type 0} (S : History → Layout → Type 0) (h : History) (l : Layout) (ruling : Ruling A) where
  -- it is answered as the ruling has it
  pub decides_answered : (otherwise : Otherwise) (answer : A) (effects : Effects) → answer ≡ ruling.answer
      → effects ≡ effects_of ruling → S ruling.history ruling.layout
      → Decides S h l ruling otherwise (Answered answer) effects
  decides_answered otherwise answer effects is did stands = record {
    answered = λ a said. (let same : a ≡ answer = cc in same ∙ is, stands);
    did = λ a said. did;
    no_memory = λ said. absurd cc;
    failed = λ name said. absurd cc;
    damaged = λ name place said. absurd cc;
  }

  -- without the disk
  pub decides_leaving : (otherwise : Otherwise) (answer : A) (x : Layout) → leaving answer h x ≡ ruling → S h x
      → Decides S h l ruling otherwise (Answered answer) no_effects
  decides_leaving otherwise answer x is stands =
      decides_answered otherwise answer no_effects (ap (λ (r : Ruling A). r.answer) is)
      (ap (λ (r : Ruling A). effects_of r) is) (subst (λ (r : Ruling A). S r.history r.layout) is stands)

  -- memory ran out before anything was changed
  pub decides_short : (lost : Layout) → S h l → Decides S h l ruling (as_before l lost) NoMemory no_effects
  decides_short lost stands = record {
    answered = λ a said. absurd cc;
    did = λ a said. absurd cc;
    no_memory = λ said. (stands, refl);
    failed = λ name said. absurd cc;
    damaged = λ name place said. absurd cc;
  }

  -- the disk failed
  pub decides_failed : (lost : Layout) (name : FileName) (effects : Effects) → l.halted ≡ None → S h (halted_at name lost)
      → Decides S h l ruling (as_before l lost) (Failed name) effects
  decides_failed lost name effects running stands = record {
    answered = λ a said. absurd cc;
    did = λ a said. absurd cc;
    no_memory = λ said. absurd cc;
    failed = λ other said.
        let same : name ≡ other = cc in
        subst (λ (n : FileName). (l.halted ≡ None) × S h (halted_at n lost)) same (running, stands);
    damaged = λ other place said. absurd cc;
  }

-- ---- what is known

-- writes are those of their entries
same_writes : (writes : Writes) → from_sorted (entries writes) ≡ writes
same_writes writes =
    same_map nat_list_cmp_total (slice_cmp-IsAntisymmetric nat_cmp-IsAntisymmetric) (from_sorted (entries writes)) writes
    (λ q. get-from_sorted key_cmp (entries writes) q (entries_sorted writes) ∙ sym (get-entries writes q))

-- ---- the same history and layout

module _ {H : Type 0} (bytes : H → Option (List ℕ)) (before after : Core H) (h : History) (l : Layout)
    (same : IsSame before.front after.front) (back : after.back ≡ before.back) where
  -- behind room that was made
  pub fronts_same : Fronts before h l → Fronts after h l
  fronts_same is = record {
    front = front_known before.front.oracle before.front.recent.named h l is.front after.front.oracle
        after.front.recent.named same.oracle
        (subst (λ ns. Remembers (floor_of after.front.oracle) h ns) (sym same.named)
        (subst (λ (o : LiveTickets). Remembers (floor_of o) h before.front.recent.named) (sym same.oracle)
        (knows_of before h l is).remembers));
    number = ap (λ (a : ActiveLog). a.number) same.log.log ∙ is.number;
    length_is = ap (λ (a : ActiveLog). a.length) same.log.log ∙ is.length_is;
    format = is.format;
    room = same.log.room ∙ is.room;
    roomy = is.roomy;
    halted = ap (λ n. option_map file_of n) same.log.halted ∙ is.halted;
    version = ap (λ (b : Back). b.epoch) back ∙ is.version;
    keep = ap (λ (b : Back). b.state.keep) back ∙ is.keep;
    since = ap (λ (b : Back). b.state.since) back ∙ is.since;
  }

  pub stands_same : after.version ≡ before.version → StandsFor bytes before h l → StandsFor bytes after h l
  stands_same version is = record {
    fronts = fronts_same is.fronts;
    has = subst (λ (v : Version H). HasLayout bytes v l) (sym version) is.has;
    tidy = is.tidy;
    spared = is.spared;
  }

-- ---- a commit's exits

module _ {H : Type 0} (bytes : H → Option (List ℕ)) (before after : Core H) (h : History) (l : Layout) (ticket number : ℕ)
    (reads : List Read) (writes : Writes) (back : after.back ≡ before.back) where
  abbrev t : Transaction
  t = record { ticket = ticket; number = number; reads = reads; writes = entries writes }

  abbrev ruling : Ruling CommitAnswer
  ruling = commit_ruling l h t

  abbrev otherwise : Otherwise
  otherwise = as_before l (commit_lost l t)

  abbrev longer : History
  longer = with_commit h (from_sorted (entries writes))

  rising : T (is_sorted key_cmp (entries writes))
  rising = entries_sorted writes

  -- ---- what the ruling leaves is the history or the one with the commit

  ruled_extends : (d : Decision) → Extends h (ruled d l h t).history
  ruled_extends (decisions.Halted name) = extends_itself h
  ruled_extends decisions.Nothing = extends_itself h
  ruled_extends decisions.Exhausted = extends_itself h
  ruled_extends (decisions.Conflict key n) = extends_itself h
  ruled_extends (decisions.Full long size) = extends_itself h
  ruled_extends decisions.Write = with_commit-extends h (from_sorted (entries writes))

  ruling_extends : Fronts before h l → Extends h ruling.history
  ruling_extends is =
      let d = decision_of before.front (entries writes) (first_conflict h number reads) in
      subst (λ (r : Ruling CommitAnswer). Extends h r.history) (ruled_so before.front h l t (decides_as before h l is))
      (ruled_extends d)

  -- ---- memory ran out

  module _ {D : Type 0} (g : Ghosts D) (old new : D) (un : IsUnwritten g old new before after) where
    pub fronts_unwritten : Fronts before h l → Decides (Fronts after) h l ruling otherwise NoMemory no_effects
    fronts_unwritten is =
        decides_short (Fronts after) h l ruling (commit_lost l t) (fronts_same bytes before after h l un.front back is)

    pub stands_unwritten : StandsFor bytes before h l
        → Decides (StandsFor bytes after) h l ruling otherwise NoMemory no_effects
    stands_unwritten is =
        decides_short (StandsFor bytes after) h l ruling (commit_lost l t)
        (stands_same bytes before after h l un.front back un.version is)

    pub carries_unwritten : IsWatched g → Represents bytes before (g.told old) h l
        → Carries g bytes old new after h l ruling otherwise NoMemory no_effects
    carries_unwritten watched is =
        carries_no_memory g watched bytes before after h l old new ⊥ ruling (commit_lost l t) un.disk
        (ruling_extends is.stands.fronts) back is (stands_same bytes before after h l un.front back un.version is.stands)

  -- ---- it was refused: nothing was changed, or the transaction has ended

  pub carries_refused : {D : Type 0} (g : Ghosts D) → IsWatched g → (disk : D) (answer : CommitAnswer) (x : Layout)
      → leaving answer h x ≡ ruling → Represents bytes before (g.told disk) h l → Represents bytes after (g.told disk) h x
      → Carries g bytes disk disk after h l ruling otherwise (Answered answer) no_effects
  carries_refused g watched disk answer x ruled_is is then =
      subst (λ (r : Ruling CommitAnswer). Carries g bytes disk disk after h l r otherwise (Answered answer) no_effects)
      ruled_is (carries_leaving g watched bytes before after h l disk answer x otherwise is then)

  pub represents_ended : (told : Option DiskState) → after.version ≡ before.version → Fronts after h (ended ticket l)
      → Represents bytes before told h l → Represents bytes after told h (ended ticket l)
  represents_ended told version fronts is =
      represents_live bytes before after h l back told told refl (ended ticket l).live is
      (stands_ended bytes before after h l is.stands version ticket fronts)

  -- ---- it was decided that it is written

  module _ (write : committed l h t ≡ ruling) where
    pub accepted : IsAccepted l h t
    accepted = answered_accepted l h t (last_number h + 1) (ap (λ (r : Ruling CommitAnswer). r.answer) (sym write))

    pub next_is : Fronts before h l → next_frame before.front writes ≡ commit_frame h (entries writes)
    next_is is = ap (λ (n : ℕ). Committed (n + 1) (entries writes)) is.front.last

    pub frame_is : Fronts before h l
        → frame_of before.front writes ≡ frame_at log_format l.active.number l.active.length (commit_frame h (entries writes))
    frame_is is =
        ap (λ (n : ℕ). frame_at log_format n before.front.log.length (next_frame before.front writes)) is.number
        ∙ ap (λ (n : ℕ). frame_at log_format l.active.number n (next_frame before.front writes)) is.length_is
        ∙ ap (λ (f : LogFrame). frame_at log_format l.active.number l.active.length f) (next_is is)

    -- ---- it failed

    module _ {D : Type 0} (g : Ghosts D) (old new : D) (failed : IsFailed g old new before after ticket writes) where
      -- without the halt
      abbrev unhalted : Core H
      unhalted = record after { front = record after.front { halted = before.front.halted } }

      abbrev name : FileName
      name = file_of (names.Log l.active.number)

      fronts_unhalted : Fronts before h l → Fronts unhalted h (ended ticket l)
      fronts_unhalted is =
          let knows = failed.knows h (knows_of before h l is) in
          fronts_ended before h l is unhalted (record { log = failed.log; room = failed.room; halted = refl }) back
          (record { last = knows.last; remembers = knows.remembers }) ticket failed.live

      fronts_then : Fronts before h l → Fronts after h (halted_at name (ended ticket l))
      fronts_then is =
          fronts_halted unhalted after h (ended ticket l) (names.Log l.active.number) (fronts_unhalted is) refl refl refl refl
          (failed.halted ∙ ap (λ (n : ℕ). Some (names.Log n)) is.number) refl

      pub fronts_failed : (effects : Effects) → Fronts before h l
          → Decides (Fronts after) h l ruling otherwise (Failed name) effects
      fronts_failed effects is =
          decides_failed (Fronts after) h l ruling (commit_lost l t) name effects accepted.running (fronts_then is)

      stands_then : StandsFor bytes before h l → StandsFor bytes after h (halted_at name (ended ticket l))
      stands_then is =
          stands_halted bytes unhalted after h (ended ticket l)
          (stands_ended bytes before unhalted h l is failed.version ticket (fronts_unhalted is.fronts)) refl
          (names.Log l.active.number) (fronts_then is.fronts)

      pub stands_failed : (effects : Effects) → StandsFor bytes before h l
          → Decides (StandsFor bytes after) h l ruling otherwise (Failed name) effects
      stands_failed effects is =
          decides_failed (StandsFor bytes after) h l ruling (commit_lost l t) name effects accepted.running (stands_then is)

      pub carries_failed_so : IsWatched g → (effects : Effects) → Represents bytes before (g.told old) h l
          → Carries g bytes old new after h l ruling otherwise (Failed name) effects
      carries_failed_so watched effects is =
          let hands = failed.hands in
          let fronts = is.stands.fronts in
          let held = is.held accepted.running in
          subst (λ (r : Ruling CommitAnswer). Carries g bytes old new after h l r otherwise (Failed name) effects) write
          (carries_failed g watched bytes before after h l t old hands.mid new is rising accepted ⊥ hands.before
          (frame_of before.front writes) (frame_is fronts)
          (subst (λ (f : LogFrame). HasFrame (frames_grammar log_format) f) (next_is fronts) hands.has)
          (subst (λ (n : ℕ). Elapses g hands.mid new (WhileWriting (names.Log n) (frame_of before.front writes))) fronts.number hands.time)
          (hands.tells held.state (hands.before.told ∙ held.told_is)) effects (stands_then is.stands))

    -- ---- it was written

    module _ {D : Type 0} (g : Ghosts D) (old new : D) (done : IsWritten g old new before after ticket writes)
        (given : ℕ) (given_is : given ≡ before.front.oracle.last + 1) where
      fronts_longer : Fronts before h l → Fronts after longer (committed l h t).layout
      fronts_longer is =
          fronts_committed before h l is t after done.live
          (subst (λ (w : Writes). Knows after.front (with_commit h w)) (sym (same_writes writes))
          (done.knows h (knows_of before h l is)))
          done.number
          (done.long
          ∙ ap (λ (n : ℕ). n + frame_length log_format (next_frame before.front writes)) is.length_is
          ∙ ap (λ (f : LogFrame). l.active.length + frame_length log_format f) (next_is is)
          ∙ ap (λ (n : ℕ). l.active.length + frame_length n (commit_frame h (entries writes))) (sym is.format))
          done.room done.halted back

      pub answer_is : Fronts before h l → At given ≡ ruling.answer
      answer_is is =
          ap At (given_is ∙ ap (λ (n : ℕ). n + 1) is.front.last) ∙ ap (λ (r : Ruling CommitAnswer). r.answer) write

      pub fronts_written : Fronts before h l
          → Decides (Fronts after) h l ruling otherwise (Answered (At given)) (record no_effects { calls = 2 })
      fronts_written is =
          decides_answered (Fronts after) h l ruling otherwise (At given) (record no_effects { calls = 2 }) (answer_is is)
          (ap (λ (r : Ruling CommitAnswer). effects_of r) write)
          (subst (λ (r : Ruling CommitAnswer). Fronts after r.history r.layout) write (fronts_longer is))

      more_is : Fronts before h l
          → after.version.active.entries ≡ in_order (next_entries l h t ++ before.version.active.entries)
      more_is is =
          let old_ones = before.version.active.entries in
          done.more
          ∙ ap (λ (n : ℕ). in_order
          (frame_entries log_format n before.front.log.length (next_frame before.front writes) ++ old_ones)) is.number
          ∙ ap (λ (n : ℕ). in_order (frame_entries log_format l.active.number n (next_frame before.front writes) ++ old_ones)) is.length_is
          ∙ ap (λ (f : LogFrame). in_order (frame_entries log_format l.active.number l.active.length f ++ old_ones)) (next_is is)
          ∙ ap (λ (n : ℕ). in_order
          (frame_entries n l.active.number l.active.length (commit_frame h (entries writes)) ++ old_ones)) (sym is.format)

      stands_longer : StandsFor bytes before h l → StandsFor bytes after longer (committed l h t).layout
      stands_longer is =
          stands_committed bytes before after h l is t rising accepted (fronts_longer is.fronts) done.behind (more_is is.fronts)

      pub stands_written : StandsFor bytes before h l
          → Decides (StandsFor bytes after) h l ruling otherwise (Answered (At given)) (record no_effects { calls = 2 })
      stands_written is =
          decides_answered (StandsFor bytes after) h l ruling otherwise (At given) (record no_effects { calls = 2 })
          (answer_is is.fronts) (ap (λ (r : Ruling CommitAnswer). effects_of r) write)
          (subst (λ (r : Ruling CommitAnswer). StandsFor bytes after r.history r.layout) write (stands_longer is))

      pub carries_written : IsWatched g → Represents bytes before (g.told old) h l
          → Carries g bytes old new after h l ruling otherwise (Answered (At given)) (record no_effects { calls = 2 })
      carries_written watched is =
          let hands = done.hands in
          let fronts = is.stands.fronts in
          let frame = frame_of before.front writes in
          let said : last_number h + 1 ≡ given = sym (given_is ∙ ap (λ (n : ℕ). n + 1) fronts.front.last) in
          subst (λ (n : ℕ). Carries g bytes old new after h l ruling otherwise (Answered (At n)) (record no_effects { calls = 2 })) said
          (subst (λ (r : Ruling CommitAnswer). Carries g bytes old new after h l r otherwise
          (Answered (At (last_number h + 1))) (record no_effects { calls = 2 })) write
          (carries_committed g watched bytes before after h l t old hands.mid new is rising accepted ⊥ hands.before frame
          (frame_is fronts) (subst (λ (f : LogFrame). HasFrame (frames_grammar log_format) f) (next_is fronts) hands.has)
          (subst (λ (n : ℕ). Elapses g hands.mid new (WhileWriting (names.Log n) frame)) fronts.number hands.time)
          done.calls (subst (λ (n : ℕ). IsChangedBy (written (names.Log n) frame) (g.told hands.mid) (g.told new))
          fronts.number done.changed)
          back (stands_longer is.stands)))
