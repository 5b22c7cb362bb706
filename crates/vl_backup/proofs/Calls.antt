-- Calls of an engine, one after the other: what each came to, what a crash meanwhile leaves, and how the rulings on them part.
use Rattle.std.specs.Prelude.{◌≡◌, ◌≤◌, ◌<◌, ◌+◌, ◌==◌, ℕ, Bool, true, false, not, ◌&&◌, nat_le, nat_lt, if◌then◌else◌}
use Rattle.std.specs.Prelude.{List, [], ◌∷◌, length, sum_by, Option, None, Some, refl}
use Rattle.std.specs.List.{filter}
use Rattle.std.proofs.Common.{sym, ap, subst, ◌∙◌, cond, arith}
use Rattle.std.proofs.lemmas.Bool.Decides.{nat_tests}
use Rattle.vl_backup.specs.Loading.{Parts, Works}
use Rattle.vl_disk.specs.Calls.{ChangesNothing}
use Rattle.vl_disk.specs.Moments.{holds_then, holds_weaker}
use Rattle.vl_disk.specs.declared.watched.Watched.{Ghosts}
use Rattle.vl_engine_laws.specs.Carries.{Carries, CrashesShow, Tells}
use Rattle.vl_engine_laws.specs.MayStep.{Fits}
use Rattle.vl_engine_laws.specs.Represents.{IsLive, Represents}
use Rattle.vl_engine_laws.specs.Shown.{LeavesBetween}
use Rattle.vl_engine_laws.specs.laws.Carrying.{IsWatched, extends_itself, looked, opens_again, rests}
use Rattle.vl_engine_laws.specs.laws.LiveLaws.{begun_lives}
use Rattle.vl_engine_laws.specs.laws.ShownLaws.{between_wider}
use Rattle.vl_engine_model.specs.Decides.{Answered, Decides, Effects, Otherwise, Outcome, as_before, no_effects}
use Rattle.vl_engine_model.specs.Rising.{put_by}
use Rattle.vl_engine_model.specs.Ruling.{Exhausted, Ruling, StepAnswer, Stepped}
use Rattle.vl_engine_model.specs.Ruling.{ended, has_no_epoch, has_no_number, leaving, pin_of}
use Rattle.vl_engine_model.specs.Rulings.Begin.{BeginAnswer, Begun, TooMany, begin_ruling, begun}
use Rattle.vl_engine_model.specs.Rulings.Commit as commit
use Rattle.vl_engine_model.specs.Rulings.Commit.{CommitAnswer, Transaction, commit_ended}
use Rattle.vl_engine_model.specs.Rulings.Commit.{commit_frame, commit_ruling, commit_running}
use Rattle.vl_engine_model.specs.Rulings.Commit.{commit_unless, committed}
use Rattle.vl_engine_model.specs.Rulings.Rotate.{rotate_of, rotate_ruling, rotate_unless, rotated}
use Rattle.vl_engine_model.specs.Tickets.{free_ticket, has_ticket, tickets_of}
use Rattle.vl_engine_model.specs.Tidy.{IsTrueLog}
use Rattle.vl_engine_model.specs.declared.file_name.FileName.{FileName}
use Rattle.vl_engine_model.specs.declared.layout.Layout.{Layout}
use Rattle.vl_engine_model.specs.declared.live.Live.{Live}
use Rattle.vl_engine_model_laws.specs.Live.{IsLivedIn}
use Rattle.vl_engine_model_laws.specs.laws.Files.{or_false}
use Rattle.vl_engine_model_laws.specs.laws.Lives.{free_one}
use Rattle.vl_model.specs.Conflicts.{Named, first_conflict, first_of, is_overwritten, last_named}
use Rattle.vl_model.specs.Frames.{frame_length}
use Rattle.vl_model.specs.History.{Extends, History, last_number}
use Rattle.vl_model.specs.Limits.{max_commit_number, max_live}
use Rattle.vl_model.specs.declared.counter.Counter.TheVariants as counters
use Rattle.vl_model.specs.declared.log_frame.LogFrame.{LogFrame}
use Rattle.vl_recover.specs.crash.Starts.{MayOpen}

-- ---- what a crash leaves

-- up to a later history too
pub shows_to : {D : Type 0} (g : Ghosts D) (old new : D) (h k m : History) → Extends k m → CrashesShow g old new h k
    → CrashesShow g old new h m
shows_to g old new h k m extends shows =
    holds_weaker g (LeavesBetween h k) (LeavesBetween h m) old new shows
    (λ state leaves image left. between_wider h h k m (extends_itself h) extends image (leaves image left))

-- one call behind another
pub shows_then : {D : Type 0} (g : Ghosts D) (old mid new : D) (h k m : History) → Extends h k → Extends k m
    → CrashesShow g old mid h k → CrashesShow g mid new k m → CrashesShow g old new h m
shows_then g old mid new h k m one two first second =
    holds_then g (LeavesBetween h m) old mid new (shows_to g old mid h k m two first)
    (holds_weaker g (LeavesBetween k m) (LeavesBetween h m) mid new second
    (λ state leaves image left. between_wider h k m m one (extends_itself m) image (leaves image left)))

-- ---- one call

-- A call took an engine on: what it came to is what the ruling says, and so is where the engine stands then.
pub record Calls {D H A : Type 0} (g : Ghosts D) (bytes : H → Option (List ℕ)) (old new : Parts D H) (h : History) (l : Layout)
    (ruling : Ruling A) (otherwise : Otherwise) (outcome : Outcome A) (effects : Effects) : Type 0 where
  pub decides : Decides (Works g bytes new) h l ruling otherwise outcome effects
  pub through : l.halted ≡ None → CrashesShow g old.disk new.disk h ruling.history
  pub again : l.halted ≡ None → Tells g new.disk MayOpen

pub both_decided : {D H A : Type 0} (g : Ghosts D) (bytes : H → Option (List ℕ)) (new : Parts D H) (h : History) (l : Layout)
    (ruling : Ruling A) (otherwise : Otherwise) (outcome : Outcome A) (effects : Effects)
    → Decides (Represents bytes new.core (g.told new.disk)) h l ruling otherwise outcome effects
    → Decides (Fits (g.told new.disk) new.core) h l ruling otherwise outcome effects
    → Decides (Works g bytes new) h l ruling otherwise outcome effects
both_decided g bytes new h l ruling otherwise outcome effects a b = record {
  answered = λ x said.
      let p = a.answered x said in (p.0, record { represents = p.1; fits = (b.answered x said).1 });
  did = a.did;
  no_memory = λ said.
      let p = a.no_memory said in (record { represents = p.0; fits = (b.no_memory said).0 }, p.1);
  failed = λ name said.
      let p = a.failed name said in (p.0, record { represents = p.1; fits = (b.failed name said).1 });
  damaged = λ name place said.
      let p = a.damaged name place said in (record { represents = p.0; fits = (b.damaged name place said).0 }, p.1);
}

pub called : {D H A : Type 0} (g : Ghosts D) (bytes : H → Option (List ℕ)) (old new : Parts D H) (h : History) (l : Layout)
    (ruling : Ruling A) (otherwise : Otherwise) (outcome : Outcome A) (effects : Effects)
    → Carries g bytes old.disk new.disk new.core h l ruling otherwise outcome effects
    → Decides (Fits (g.told new.disk) new.core) h l ruling otherwise outcome effects
    → Calls g bytes old new h l ruling otherwise outcome effects
called g bytes old new h l ruling otherwise outcome effects carries fits = record {
  decides = both_decided g bytes new h l ruling otherwise outcome effects carries.decides fits;
  through = carries.through;
  again = carries.again;
}

module _ {D H : Type 0} (g : Ghosts D) (watched : IsWatched g) (bytes : H → Option (List ℕ)) where
  -- a disk that is let alone
  pub lets_alone : (e : Parts D H) (h : History) (l : Layout) → Works g bytes e h l → l.halted ≡ None
      → CrashesShow g e.disk e.disk h h
  lets_alone e h l is running =
      rests g watched h l is.represents.stands.tidy e.core.back e.disk (is.represents.held running)

  pub looks_at : (e : Parts D H) (new : D) (h : History) (l : Layout) → ChangesNothing g e.disk new ⊥ → Works g bytes e h l
      → l.halted ≡ None → CrashesShow g e.disk new h h
  looks_at e new h l no_change is running =
      looked g watched h l is.represents.stands.tidy e.core.back e.disk new ⊥ no_change (is.represents.held running)

  pub may_open : (e : Parts D H) (h : History) (l : Layout) → Works g bytes e h l → l.halted ≡ None → Tells g e.disk MayOpen
  may_open e h l is running =
      opens_again g watched h l is.represents.stands.tidy e.core.back e.disk (is.represents.held running)

-- ---- a begin

same_test : (n m : ℕ) → n ≡ m → (n == m) ≡ true
same_test n m e = grind (arith, nat_tests, e)

-- what has another ticket stays
stays : (ticket : ℕ) (xs : List Live) → has_ticket ticket (tickets_of xs) ≡ false
    → filter (λ (x : Live). not (x.ticket == ticket)) xs ≡ xs
stays ticket [] free = refl
stays ticket (x ∷ xs) free =
    let parts = or_false (x.ticket == ticket) (has_ticket ticket (tickets_of xs)) free in
    let rest : List Live = filter (λ (y : Live). not (y.ticket == ticket)) xs in
    ap (λ (b : Bool). cond (not b) (x ∷ rest) rest) parts.0 ∙ ap (λ (ys : List Live). x ∷ ys) (stays ticket xs parts.1)

-- all but those with this ticket
abbrev without : ℕ → List Live → List Live
without ticket xs = filter (λ (x : Live). not (x.ticket == ticket)) xs

-- what was put in and goes again leaves the others
put_and_gone : (ticket : ℕ) (new : Live) (xs : List Live) → new.ticket ≡ ticket → has_ticket ticket (tickets_of xs) ≡ false
    → filter (λ (x : Live). not (x.ticket == ticket)) (put_by (λ (x : Live). x.ticket) new xs) ≡ xs
put_and_gone ticket new [] own free = ap (λ (b : Bool). cond (not b) (new ∷ []) []) (same_test new.ticket ticket own)
put_and_gone ticket new (x ∷ xs) own free =
    by (λ apart. put_and_gone ticket new xs own apart) (nat_lt x.ticket new.ticket)
    (or_false (x.ticket == ticket) (has_ticket ticket (tickets_of xs)) free)
  where
    by : (has_ticket ticket (tickets_of xs) ≡ false → without ticket (put_by (λ (y : Live). y.ticket) new xs) ≡ xs) → (b : Bool)
        → ((x.ticket == ticket) ≡ false) × (has_ticket ticket (tickets_of xs) ≡ false)
        → without ticket (if b then x ∷ put_by (λ (y : Live). y.ticket) new xs else new ∷ x ∷ xs) ≡ x ∷ xs
    by later true apart =
        let rest : List Live = without ticket (put_by (λ (y : Live). y.ticket) new xs) in
        ap (λ (b : Bool). cond (not b) (x ∷ rest) rest) apart.0 ∙ ap (λ (ys : List Live). x ∷ ys) (later apart.1)
    by later false apart =
        ap (λ (b : Bool). cond (not b) (new ∷ without ticket (x ∷ xs)) (without ticket (x ∷ xs)))
        (same_test new.ticket ticket own)
        ∙ stays ticket (x ∷ xs) free

-- what has begun
pub record Begins {D H : Type 0} (g : Ghosts D) (bytes : H → Option (List ℕ)) (e : Parts D H) (h : History) (l : Layout)
    (ticket number : ℕ) : Type 0 where
  pub works : Works g bytes e h (begun l ticket number)
  pub lives : IsLive (begun l ticket number) ticket number
  -- when it ends, the layout is left as it was
  pub left : ended ticket (begun l ticket number) ≡ l

module _ {D H : Type 0} (g : Ghosts D) (bytes : H → Option (List ℕ)) (e : Parts D H) (h : History) (l : Layout) where
  abbrev free : ℕ
  free = free_ticket (tickets_of l.live)

  abbrev by_room : Bool → Ruling BeginAnswer
  by_room full = if full then leaving TooMany h l else leaving (Begun free (last_number h)) h (begun l free (last_number h))

  abbrev Decided : Bool → BeginAnswer → Type 0
  Decided full answer = Decides (Works g bytes e) h l (by_room full) (as_before l l) (Answered answer) no_effects

  pub begun_so : IsLivedIn l h → (ticket number : ℕ)
      → Decides (Works g bytes e) h l (begin_ruling l h) (as_before l l) (Answered (Begun ticket number)) no_effects
      → Begins g bytes e h l ticket number
  begun_so lived ticket number decides = by (nat_le max_live (length l.live)) decides
    where
      same_ticket : (a b n m : ℕ) → Begun a n ≡ Begun b m → a ≡ b
      same_ticket a b n m e = cc

      same_number : (a b n m : ℕ) → Begun a n ≡ Begun b m → n ≡ m
      same_number a b n m e = cc

      by : (full : Bool) → Decided full (Begun ticket number) → Begins g bytes e h l ticket number
      by true d = let no : Begun ticket number ≡ TooMany = (d.answered (Begun ticket number) refl).0 in absurd (cc)
      by false d =
          let said = d.answered (Begun ticket number) refl in
          let t : free ≡ ticket = sym (same_ticket ticket free number (last_number h) said.0) in
          let n : last_number h ≡ number = sym (same_number ticket free number (last_number h) said.0) in
          record {
            works = subst (λ (x : ℕ). Works g bytes e h (begun l x number)) t
                (subst (λ (y : ℕ). Works g bytes e h (begun l free y)) n said.1);
            lives = subst (λ (x : ℕ). IsLive (begun l x number) x number) t
                (subst (λ (y : ℕ). IsLive (begun l free y) free y) n (begun_lives l h lived));
            left = subst (λ (x : ℕ). ended x (begun l x number) ≡ l) t
                (ap (λ (xs : List Live). record l { live = xs })
                (put_and_gone free (record { ticket = free; number = number; pin = pin_of l }) l.live refl
                (free_one l.live lived.rising)));
          }

  pub too_many_so : Decides (Works g bytes e) h l (begin_ruling l h) (as_before l l) (Answered TooMany) no_effects
      → Works g bytes e h l × (max_live ≤ length l.live)
  too_many_so decides = by (nat_le max_live (length l.live)) refl decides
    where
      by : (full : Bool) → nat_le max_live (length l.live) ≡ full → Decided full TooMany
          → Works g bytes e h l × (max_live ≤ length l.live)
      by true is d = ((d.answered TooMany refl).1, grind (arith, nat_tests, is))
      by false is d = let no : TooMany ≡ Begun free (last_number h) = (d.answered TooMany refl).0 in absurd (cc)

-- ---- a commit of what read nothing

none_overwritten : (number : ℕ) (named : List Named) → filter (is_overwritten number []) named ≡ []
none_overwritten number [] = refl
none_overwritten number (n ∷ named) = by (none_overwritten number named) (nat_lt number n.1)
  where
    by : filter (is_overwritten number []) named ≡ [] → (b : Bool)
        → cond (b && false) (n ∷ filter (is_overwritten number []) named) (filter (is_overwritten number []) named) ≡ []
    by later true = later
    by later false = later

pub no_conflict : (h : History) (number : ℕ) → first_conflict h number [] ≡ None
no_conflict h number = ap first_of (none_overwritten number (last_named h))

module _ (h : History) (l : Layout) (t : Transaction) (unread : first_conflict h t.number t.reads ≡ None)
    (some : 1 ≤ length t.writes) where
  abbrev frame_size : ℕ
  frame_size = frame_length l.active.format (commit_frame h t.writes)

  abbrev by_fit : Bool → Ruling CommitAnswer
  by_fit fits = if fits then committed l h t else leaving (commit.Full l.active.length frame_size) h l

  abbrev by_left : Bool → Ruling CommitAnswer
  by_left used =
      if used then leaving (commit.Exhausted counters.Commit) h l else by_fit (nat_le (l.active.length + frame_size) l.room)

  running_is : commit_running l h t None ≡ by_left (nat_le max_commit_number (last_number h))
  running_is = ap (λ (b : Bool). if b then commit_ended commit.Nothing l h t else by_left
      (nat_le max_commit_number (last_number h))) none
    where
      none : (length t.writes == 0) ≡ false
      none = grind (arith, nat_tests, some)

  -- It is one of these.
  pub commit_cases : (P : Ruling CommitAnswer → Type 0)
      → ((name : FileName) → l.halted ≡ Some name → P (commit_ended (commit.Halted name) l h t))
      → (l.halted ≡ None → max_commit_number ≤ last_number h → P (leaving (commit.Exhausted counters.Commit) h l))
      → (l.halted ≡ None → l.room < l.active.length + frame_length l.active.format (commit_frame h t.writes)
      → P (leaving (commit.Full l.active.length (frame_length l.active.format (commit_frame h t.writes))) h l))
      → (l.halted ≡ None → nat_le (l.active.length + frame_length l.active.format (commit_frame h t.writes)) l.room ≡ true
      → P (committed l h t))
      → P (commit_ruling l h t)
  commit_cases P halted used full accepted = by l.halted refl
    where
      fitting : l.halted ≡ None → (b : Bool) → nat_le (l.active.length + frame_size) l.room ≡ b → P (by_fit b)
      fitting running true is = accepted running is
      fitting running false is = full running (grind (arith, nat_tests, is))

      left : l.halted ≡ None → (b : Bool) → nat_le max_commit_number (last_number h) ≡ b → P (by_left b)
      left running true is = used running (grind (arith, nat_tests, is))
      left running false is = fitting running (nat_le (l.active.length + frame_size) l.room) refl

      by : (o : Option FileName) → l.halted ≡ o → P (commit_unless o l h t (first_conflict h t.number t.reads))
      by (Some name) is = halted name is
      by None is =
          subst (λ (c : Option Named). P (commit_running l h t c)) (sym unread)
          (subst P (sym running_is) (left is (nat_le max_commit_number (last_number h)) refl))

-- ---- a rotation behind a log that isn't empty

abbrev by_epoch : History → Layout → Bool → Ruling StepAnswer
by_epoch h l used = if used then leaving (Exhausted counters.Version) h l
    else record { answer = Stepped l.active.number; history = h; layout = rotated l; calls = 3; gone = [] }

pub rotate_cases : (P : Ruling StepAnswer → Type 0) (h : History) (l : Layout) → l.halted ≡ None → IsTrueLog l.active
    → 16 < l.active.length
    → (has_no_number l.next_log 1 ≡ true → P (leaving (Exhausted counters.Log) h l))
    → (has_no_epoch l ≡ true → P (leaving (Exhausted counters.Version) h l))
    → P (record { answer = Stepped l.active.number; history = h; layout = rotated l; calls = 3; gone = [] })
    → P (rotate_ruling l h)
rotate_cases P h l running true_log long no_log no_epoch done =
    subst (λ (o : Option FileName). P (rotate_unless o l h)) (sym running) (of l.active.frames refl)
  where
    epoch : (b : Bool) → has_no_epoch l ≡ b → P (by_epoch h l b)
    epoch true is = no_epoch is
    epoch false is = done

    log : (b : Bool) → has_no_number l.next_log 1 ≡ b
        → P (if b then leaving (Exhausted counters.Log) h l else by_epoch h l (has_no_epoch l))
    log true is = no_log is
    log false is = epoch (has_no_epoch l) refl

    of : (frames : List LogFrame) → l.active.frames ≡ frames → P (rotate_of frames l h)
    of [] is = absurd (
        let none : sum_by (frame_length l.active.format) l.active.frames ≡ 0 = ap (sum_by (frame_length l.active.format)) is in
        omega (arith, true_log, none, long))
    of (f ∷ frames) is = log (has_no_number l.next_log 1) refl
