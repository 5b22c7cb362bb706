-- What a front decides on a commit is what the ruling on it has.
use Rattle.std.specs.Prelude.{◌≡◌, ◌≤◌, ◌<◌, ℕ, ◌+◌, ◌==◌, nat_le, Bool, true, false, if◌then◌else◌, length, Option, None, Some, refl}
use Rattle.std.specs.Option.{option_map}
use Rattle.std.proofs.Common.{sym, ap, ◌∙◌, arith}
use Rattle.std.proofs.lemmas.Bool.Decides.{nat_tests}
use Rattle.vl_disk.specs.declared.name.Name.{Name}
use Rattle.vl_engine_laws.specs.Represents.{file_of}
use Rattle.vl_front.specs.Decisions.{checked_decision, decision_of, decision_unless, next_length, room_decision, running_decision}
use Rattle.vl_front.specs.declared.decision.Decision.TheVariants as decisions
use Rattle.vl_front.specs.declared.decision.Decision.{Decision}
use Rattle.vl_front.specs.declared.front.Front.{Front}
use Rattle.vl_engine_model.specs.Ruling.{Ruling, leaving}
use Rattle.vl_engine_model.specs.Rulings.Commit as answers
use Rattle.vl_engine_model.specs.Rulings.Commit.{CommitAnswer, Transaction, commit_checked, commit_ended, commit_frame}
use Rattle.vl_engine_model.specs.Rulings.Commit.{commit_ruling, commit_running, commit_unless, committed}
use Rattle.vl_engine_model.specs.declared.file_name.FileName.{FileName}
use Rattle.vl_engine_model.specs.declared.layout.Layout.{Layout}
use Rattle.vl_model.specs.Conflicts.{Named, first_conflict}
use Rattle.vl_model.specs.Formats.{log_format}
use Rattle.vl_model.specs.Frames.{frame_length}
use Rattle.vl_model.specs.History.{History, last_number}
use Rattle.vl_model.specs.Limits.{max_commit_number}
use Rattle.vl_model.specs.declared.counter.Counter.TheVariants as counters
use Rattle.vl_model.specs.declared.log_frame.LogFrame.TheVariants.{Committed}

-- the ruling on a commit of which this was decided
abbrev pub ruled : Decision → Layout → History → Transaction → Ruling CommitAnswer
ruled (decisions.Halted name) l h t = commit_ended (answers.Halted (file_of name)) l h t
ruled decisions.Nothing l h t = commit_ended answers.Nothing l h t
ruled decisions.Exhausted l h t = leaving (answers.Exhausted counters.Commit) h l
ruled (decisions.Conflict key number) l h t = commit_ended (answers.Conflict key number) l h t
ruled (decisions.Full length frame) l h t = leaving (answers.Full length frame) h l
ruled decisions.Write l h t = committed l h t

-- what a front has of a layout and a history that decides on commits
pub record DecidesAs (front : Front) (h : History) (l : Layout) : Type 0 where
  pub last : front.oracle.last ≡ last_number h
  pub long : front.log.length ≡ l.active.length
  pub format : l.active.format ≡ log_format
  pub room : front.room ≡ l.room
  pub halted : option_map file_of front.halted ≡ l.halted

-- ---- the ruling, test by test

module _ (l : Layout) (h : History) (t : Transaction) where
  -- the length of the commit's frame
  abbrev frame_size : ℕ
  frame_size = frame_length l.active.format (commit_frame h t.writes)

  abbrev found : Option Named
  found = first_conflict h t.number t.reads

  -- by whether the frame fits,
  abbrev by_fit : Bool → Ruling CommitAnswer
  by_fit fits = if fits then committed l h t else leaving (answers.Full l.active.length frame_size) h l

  -- whether no number is left,
  abbrev by_left : Bool → Option Named → Ruling CommitAnswer
  by_left used conflict = if used then leaving (answers.Exhausted counters.Commit) h l else commit_checked l h t conflict

  abbrev is_used_up : Bool
  is_used_up = nat_le max_commit_number (last_number h)

  -- and whether nothing was written
  abbrev by_some : Bool → Option Named → Ruling CommitAnswer
  by_some none conflict = if none then commit_ended answers.Nothing l h t else by_left is_used_up conflict

-- ---- the front's decision

module _ (front : Front) (h : History) (l : Layout) (t : Transaction) (alike : DecidesAs front h l) where
  abbrev as_ruled : Decision → Ruling CommitAnswer
  as_ruled decision = ruled decision l h t

  abbrev fitting : ℕ → ℕ → ℕ → Decision
  fitting long size room = if nat_le (long + size) room then decisions.Write else decisions.Full long size

  frame_is : next_length front t.writes ≡ frame_size l h t
  frame_is =
      ap (λ (n : ℕ). frame_length log_format (Committed (n + 1) t.writes)) alike.last
      ∙ ap (λ (format : ℕ). frame_length format (commit_frame h t.writes)) (sym alike.format)

  room_ruled : as_ruled (room_decision front t.writes) ≡ commit_checked l h t None
  room_ruled =
      ap (λ (n : ℕ). as_ruled (fitting n (next_length front t.writes) front.room)) alike.long
      ∙ ap (λ (n : ℕ). as_ruled (fitting l.active.length n front.room)) frame_is
      ∙ ap (λ (n : ℕ). as_ruled (fitting l.active.length (frame_size l h t) n)) alike.room
      ∙ by (nat_le (l.active.length + frame_size l h t) l.room)
    where
      by : (fits : Bool) → as_ruled (if fits then decisions.Write else decisions.Full l.active.length (frame_size l h t))
          ≡ by_fit l h t fits
      by true = refl
      by false = refl

  conflict_ruled : (conflict : Option Named)
      → as_ruled (checked_decision front t.writes conflict) ≡ commit_checked l h t conflict
  conflict_ruled (Some named) = refl
  conflict_ruled None = room_ruled

  abbrev counting : Bool → Option Named → Decision
  counting used conflict = if used then decisions.Exhausted else checked_decision front t.writes conflict

  number_ruled : (conflict : Option Named) → as_ruled (counting (nat_le max_commit_number front.oracle.last) conflict)
      ≡ by_left l h t (is_used_up l h t) conflict
  number_ruled conflict =
      ap (λ (n : ℕ). as_ruled (counting (nat_le max_commit_number n) conflict)) alike.last ∙ by (is_used_up l h t)
    where
      by : (used : Bool) → as_ruled (counting used conflict) ≡ by_left l h t used conflict
      by true = refl
      by false = conflict_ruled conflict

  writes_ruled : (conflict : Option Named)
      → as_ruled (running_decision front t.writes conflict) ≡ commit_running l h t conflict
  writes_ruled conflict = by (length t.writes == 0)
    where
      by : (none : Bool)
          → as_ruled (if none then decisions.Nothing else counting (nat_le max_commit_number front.oracle.last) conflict)
          ≡ by_some l h t none conflict
      by true = refl
      by false = number_ruled conflict

  -- The ruling is that on what was decided.
  pub ruled_so : ruled (decision_of front t.writes (first_conflict h t.number t.reads)) l h t ≡ commit_ruling l h t
  ruled_so = by front.halted ∙ ap (λ (o : Option FileName). commit_unless o l h t (found l h t)) alike.halted
    where
      by : (o : Option Name) → as_ruled (decision_unless o front t.writes (found l h t))
          ≡ commit_unless (option_map file_of o) l h t (found l h t)
      by (Some name) = refl
      by None = writes_ruled (found l h t)

-- ---- a commit that is accepted

-- nothing stands against a commit that is accepted
pub record IsAccepted (l : Layout) (h : History) (t : Transaction) : Type 0 where
  pub running : l.halted ≡ None
  pub some : 1 ≤ length t.writes
  pub left : last_number h < max_commit_number
  pub no_conflict : first_conflict h t.number t.reads ≡ None
  pub ruling : commit_ruling l h t ≡ committed l h t

module _ (l : Layout) (h : History) (t : Transaction) (number : ℕ) where
  -- the ruling answers with the number
  abbrev Accepts : Ruling CommitAnswer → Type 0
  Accepts r = r.answer ≡ answers.At number

  fit_accepted : (fits : Bool) → Accepts (by_fit l h t fits) → by_fit l h t fits ≡ committed l h t
  fit_accepted true is = refl
  fit_accepted false is = absurd cc

  none_accepted : (conflict : Option Named) → Accepts (commit_checked l h t conflict)
      → (conflict ≡ None) × (commit_checked l h t conflict ≡ committed l h t)
  none_accepted (Some named) is = absurd cc
  none_accepted None is = (refl, fit_accepted (nat_le (l.active.length + frame_size l h t) l.room) is)

  left_accepted : (used : Bool) → is_used_up l h t ≡ used → Accepts (by_left l h t used (found l h t))
      → (last_number h < max_commit_number) × (found l h t ≡ None) × (by_left l h t used (found l h t) ≡ committed l h t)
  left_accepted true up is = absurd cc
  left_accepted false left is =
      let rest = none_accepted (found l h t) is in
      let less : last_number h < max_commit_number = grind (arith, nat_tests, left) in
      (less, rest.0, rest.1)

  some_accepted : (none : Bool) → (length t.writes == 0) ≡ none → l.halted ≡ None
      → Accepts (by_some l h t none (found l h t)) → by_some l h t none (found l h t) ≡ commit_ruling l h t
      → IsAccepted l h t
  some_accepted true nothing running is ruling = absurd cc
  some_accepted false written running is ruling =
      let rest = left_accepted (is_used_up l h t) refl is in
      let some : 1 ≤ length t.writes = grind (arith, nat_tests, written) in
      record { running = running; some = some; left = rest.0; no_conflict = rest.1; ruling = sym ruling ∙ rest.2 }

  -- A commit that is answered with a number was accepted.
  pub answered_accepted : (commit_ruling l h t).answer ≡ answers.At number → IsAccepted l h t
  answered_accepted is = by l.halted refl is
    where
      by : (o : Option FileName) → l.halted ≡ o → Accepts (commit_unless o l h t (found l h t)) → IsAccepted l h t
      by (Some name) halted is = absurd cc
      by None running is =
          some_accepted (length t.writes == 0) refl running is
          (ap (λ (p : Option FileName). commit_unless p l h t (found l h t)) (sym running))
