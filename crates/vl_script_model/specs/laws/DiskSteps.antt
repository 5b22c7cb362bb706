-- What a line, and a run of lines, does to a disk that holds the state before it: by what is held and shown, whatever these are.
use Rattle.std.proofs.Common.{◌≡◌, ◌⊎◌, ⊎_elim, inl, inr, ℕ, zero, suc, ◌≤◌, List, [], ◌∷◌, take, Option, None, Some}
use Rattle.std.proofs.Common.{IsTrue, refl, ap, sym, ◌∙◌, subst, arith}
use Rattle.std.specs.Option.{option_map}
use Rattle.vl_disk.specs.laws.Counting.{rose_since}
use Rattle.vl_model.specs.History.{Extends, History, last_number}
use Rattle.vl_disk.specs.declared.watched.Watched.{Ghosts}
use Rattle.vl_disk.specs.Faults.{Rose}
use Rattle.vl_disk.specs.DiskState.{DiskState}
use Rattle.vl_disk.specs.Crash.{Image}
use Rattle.vl_disk.specs.Moments.{waits, holds_weaker, holds_then}
use Rattle.vl_recover.specs.crash.Starts.{MayOpen}
use Rattle.vl_script.specs.declared.line.Line.{Line}
use Rattle.vl_script.specs.Script.{line_of}
use Rattle.vl_script_model.specs.Sequential.{State, state_after, history_of}
use Rattle.vl_script_model.specs.Exchanges.{Exchange, exchange_at, exchanged, state_behind, exchanges_from, and_later, last_state}
use Rattle.vl_script_model.specs.Between.{Showing, ShowsBetween, Stopping}
use Rattle.vl_script_model.specs.Endings.{CutsAnswer, IsBetweenLines, TheDisk, TheReader, culprit_of}
use Rattle.vl_script_model.specs.Durable.{DiskEnds, GoesAlong, CrashesShow, Holding, HoldsCommits, HoldsCounted, HoldsState}
use Rattle.vl_script_model.specs.Durable.{Leaves, LeavesItsHistory, StaysShown, StopsWithin, Tells, without_merges}
use Rattle.vl_script_model.specs.declared.ending.Ending.{Ending}
use Rattle.vl_script_model.specs.declared.ending.Ending.TheVariants.{NoMemory}
use Rattle.vl_engine_model.specs.declared.layout.Layout.{Layout}
use Rattle.vl_script_model.specs.laws.Betweens.{extends_itself, extends_then, between_wider, between_exactly}
use Rattle.vl_script_model.specs.laws.Ends.{LeavesDisk}
use Rattle.vl_script_model.specs.laws.Extending.{line_extends}

-- ---- exchanges

-- what an exchange leaves
pub exchange_leaves : (s : State) (line : Line) (e : Exchange) → Some (exchanged s line) ≡ Some e → e.after ≡ state_after s line
exchange_leaves s line e is = cc

pub exchange_after : (s : State) (o : Option Line) (e : Exchange) → option_map (exchanged s) o ≡ Some e → (line : Line)
    × (e.after ≡ state_after s line)
exchange_after s None e is = cc
exchange_after s (Some line) e is = (line, exchange_leaves s line e is)

pub exchange_extends : (s : State) (text : List ℕ) (e : Exchange) → exchange_at s text ≡ Some e
    → Extends (history_of s) (history_of e.after)
exchange_extends s text e is =
    let line = exchange_after s (line_of text) e is in
    subst (λ (after : State). Extends (history_of s) (history_of after)) (sym line.1) (line_extends s line.0)

behind_extends : (s : State) (text : List ℕ) (o : Option Exchange) → exchange_at s text ≡ o
    → Extends (history_of s) (history_of (state_behind s o))
behind_extends s text None is = extends_itself (history_of s)
behind_extends s text (Some e) is = exchange_extends s text e is

pub text_extends : (s : State) (text : List ℕ) → Extends (history_of s) (history_of (state_behind s (exchange_at s text)))
text_extends s text = behind_extends s text (exchange_at s text) refl

-- the state behind the first line
one_behind : (s : State) (later : Exchange → List Exchange) (o : Option Exchange)
    → last_state s (take 1 (and_later later o)) ≡ state_behind s o
one_behind s later None = refl
one_behind s later (Some e) = refl

pub first_behind : (s : State) (text : List ℕ) (texts : List (List ℕ))
    → last_state s (take 1 (exchanges_from s (text ∷ texts))) ≡ state_behind s (exchange_at s text)
first_behind s text texts = one_behind s (λ e. exchanges_from e.after texts) (exchange_at s text)

first_extends : (s : State) (text : List ℕ) (texts : List (List ℕ)) (m : ℕ) (o : Option Exchange) → exchange_at s text ≡ o
    → ((after : State) → Extends (history_of after) (history_of (last_state after (take m (exchanges_from after texts)))))
    → Extends (history_of s) (history_of (last_state s (take (suc m) (and_later (λ e. exchanges_from e.after texts) o))))
first_extends s text texts m None is later = extends_itself (history_of s)
first_extends s text texts m (Some e) is later = extends_then (history_of s) (history_of e.after)
    (history_of (last_state e.after (take m (exchanges_from e.after texts)))) (exchange_extends s text e is) (later e.after)

-- the exchanges of some lines leave no less than there was
pub exchanges_extend : (texts : List (List ℕ)) (s : State) (m : ℕ)
    → Extends (history_of s) (history_of (last_state s (take m (exchanges_from s texts))))
exchanges_extend [] s zero = extends_itself (history_of s)
exchanges_extend [] s (suc m) = extends_itself (history_of s)
exchanges_extend (text ∷ texts) s zero = extends_itself (history_of s)
exchanges_extend (text ∷ texts) s (suc m) = first_extends s text texts m (exchange_at s text) refl (λ after. exchanges_extend texts after m)

-- ---- disks

-- the laws of a disk that are needed here
pub record IsWatched {D : Type 0} (g : Ghosts D) : Type 0 where
  pub only_now : (disk : D) (state other : DiskState) → g.told disk ≡ Some state → g.states_since disk (g.moment disk) other → other ≡ state
  pub counts_now : (disk : D) (state : DiskState) (t : ℕ) → g.told disk ≡ Some state → t ≤ g.moment disk → g.states_since disk t state

-- what follows from what a crash leaves
pub leaves_weaker : (P Q : Image → Type 0) → ((image : Image) → P image → Q image) → (state : DiskState) → Leaves P state → Leaves Q state
leaves_weaker P Q weaker state leaves image left = weaker image (leaves image left)

-- what holds a state but for what lives holds its commits, whatever a line would make
pub counted_commits : {D : Type 0} (g : Ghosts D) (holds : Holding) (s most : State) (disk : D) → HoldsCounted g holds s disk
    → HoldsCommits g holds s most disk
counted_commits g holds s most disk (u, history, layout, calls, files, held) = record {
  now = u;
  held = held;
  history = history;
  layout = ap without_merges layout;
  given = 0;
  few = omega arith;
  numbers = (let same = ap (λ (l : Layout). l.next_table) layout in omega (arith, same));
  files = omega (arith, files);
  calls = calls;
  unchanged = λ none. (u, history, layout, calls, files, held);
}

-- and so does what holds the state
pub own_commits : {D : Type 0} (g : Ghosts D) (holds : Holding) (s most : State) (disk : D) → HoldsState g holds s disk
    → HoldsCommits g holds s most disk
own_commits g holds s most disk held = counted_commits g holds s most disk (s, refl, refl, refl, refl, held)

pub rose_earlier : (f a b : ℕ) → f ≤ a → Rose a b → Rose f b
rose_earlier f a b le rose = rose_since f a b le rose

module _ {D : Type 0} (g : Ghosts D) (watched : IsWatched g) (holds : Holding) (shows : Showing) (stops : Stopping)
    (stays : StaysShown shows) (exactly : LeavesItsHistory holds shows) where
  -- a wider pair of histories
  pub goes_wider : (old new : D) (least less more most : History) → Extends least less → Extends more most
      → CrashesShow g shows old new less more → CrashesShow g shows old new least most
  goes_wider old new least less more most lower upper goes =
      holds_weaker g (Leaves (ShowsBetween shows less more)) (Leaves (ShowsBetween shows least most)) old new goes
      (leaves_weaker (ShowsBetween shows less more) (ShowsBetween shows least most)
      (between_wider shows stays least less more most lower upper))

  -- nothing was done
  pub rests : (s : State) (disk : D) → HoldsState g holds s disk → CrashesShow g shows disk disk (history_of s) (history_of s)
  rests s disk held =
      let (state, is, here) = held.there in
      waits g (Leaves (ShowsBetween shows (history_of s) (history_of s))) watched.only_now disk state is
      (leaves_weaker (λ (image : Image). shows image (history_of s) (last_number (history_of s)))
      (ShowsBetween shows (history_of s) (history_of s)) (between_exactly shows (history_of s)) state (exactly.leaves s state here))

  pub rests_until : (s : State) (most : History) → Extends (history_of s) most → (disk : D) → HoldsState g holds s disk
      → CrashesShow g shows disk disk (history_of s) most
  rests_until s most extends disk held = goes_wider disk disk (history_of s) (history_of s) (history_of s) most
      (extends_itself (history_of s)) extends (rests s disk held)

  -- one after the other
  pub goes_then : (a b c : D) (least mid most : History) → Extends least mid → Extends mid most
      → CrashesShow g shows a b least mid → CrashesShow g shows b c mid most → CrashesShow g shows a c least most
  goes_then a b c least mid most lower upper first second =
      holds_then g (Leaves (ShowsBetween shows least most)) a b c
      (goes_wider a b least least mid most (extends_itself least) upper first)
      (goes_wider b c least mid most most lower (extends_itself most) second)

  pub it_holds : (s : State) (disk : D) → HoldsState g holds s disk → HoldsCounted g holds s disk
  it_holds s disk held = (s, refl, refl, refl, refl, held)

  -- a store may be opened on it
  pub opens_again : (s : State) (disk : D) → HoldsState g holds s disk → Tells g disk MayOpen
  opens_again s disk held = (held.there.0, held.there.1, exactly.may_open s held.there.0 held.there.2)

  -- what a crash leaves in the end
  pub at_end : (old new : D) (least most : History) → CrashesShow g shows old new least most → Tells g new MayOpen
      → Tells g new (Leaves (ShowsBetween shows least most))
  at_end old new least most goes
      (state, is, may) = (state, is, goes.each state (watched.counts_now new state (g.moment old) is goes.time.later))

  -- the run ended before a line was answered
  pub ends_within : (old new : D) (ending : Ending) (least most : State)
      → CrashesShow g shows old new (history_of least) (history_of most) → Tells g new MayOpen
      → ((Rose (g.faults old) (g.faults new) → ⊥) → HoldsCommits g holds least most new ⊎ HoldsCommits g holds most most new)
      → (ending ≡ NoMemory → HoldsCommits g holds least most new)
      → (IsBetweenLines (culprit_of ending) → HoldsCounted g holds least new) → (CutsAnswer ending → HoldsCounted g holds most new)
      → (culprit_of ending ≡ TheReader → HoldsCommits g holds least most new)
      → (culprit_of ending ≡ TheDisk → IsTrue g.fails_cleanly → StopsWithin g stops least most old new)
      → DiskEnds g holds shows stops ⊥ ⊥ old new (record { ending = ending; first = least; answered = []; most = most })
  ends_within old new ending least most goes tells settled no_memory whole cut unread stopped = record {
    crash_during = goes;
    line_by_line = tt;
    crash_after = at_end old new (history_of least) (history_of most) goes tells;
    without_fault = λ sound. inr (settled sound);
    no_memory = λ out. inr (no_memory out);
    unread = unread;
    between_lines = whole;
    answer_cut = cut;
    again = tells;
    stopped = λ fault clean. inr (stopped fault clean);
  }

  -- it still holds what it held
  pub ends_unchanged : (old new : D) (ending : Ending) (least most : State)
      → CrashesShow g shows old new (history_of least) (history_of most) → Tells g new MayOpen → HoldsCounted g holds least new
      → (CutsAnswer ending → HoldsCounted g holds most new) → (culprit_of ending ≡ TheDisk → ⊥)
      → DiskEnds g holds shows stops ⊥ ⊥ old new (record { ending = ending; first = least; answered = []; most = most })
  ends_unchanged old new ending least most goes tells held cut sound = ends_within old new ending least most goes tells
      (λ sound. inl (counted_commits g holds least most new held)) (λ out. counted_commits g holds least most new held)
      (λ whole. held) cut (λ by. counted_commits g holds least most new held) (λ fault. absurd (sound fault))

  -- the disk was left alone
  pub ends_untouched : (s most : State) → Extends (history_of s) (history_of most) → (disk : D) (ending : Ending)
      → LeavesDisk ending → HoldsState g holds s disk
      → DiskEnds g holds shows stops ⊥ ⊥ disk disk (record { ending = ending; first = s; answered = []; most = most })
  ends_untouched s most extends disk ending (none, sound) held =
      ends_unchanged disk disk ending s most (rests_until s (history_of most) extends disk held)
      (opens_again s disk held) (it_holds s disk held) (λ cuts. absurd (none cuts)) sound

  -- the last line was answered
  pub ends_answered : (old new : D) (ending : Ending) (before : State) (e : Exchange)
      → (culprit_of ending ≡ TheDisk → ⊥) → CrashesShow g shows old new (history_of before) (history_of e.after)
      → HoldsState g holds e.after new → g.faults new ≡ g.faults old
      → DiskEnds g holds shows stops ⊥ ⊥ old new (record { ending = ending; first = before; answered = e ∷ []; most = e.after })
  ends_answered old new ending before e sound goes held steady =
      let there = it_holds e.after new held in
      let rest = rests e.after new held in
      record {
        crash_during = goes;
        line_by_line = (new, record { before = goes; held = there; steady = steady; behind = rest }, tt);
        crash_after = at_end new new (history_of e.after) (history_of e.after) rest (opens_again e.after new held);
        without_fault = λ sound. inr (inl (own_commits g holds e.after e.after new held));
        no_memory = λ out. inr (own_commits g holds e.after e.after new held);
        unread = λ by. own_commits g holds e.after e.after new held;
        between_lines = λ whole. there;
        answer_cut = λ cuts. there;
        again = opens_again e.after new held;
        stopped = λ fault. absurd (sound fault);
      }

  -- a stop since a later disk, up to which nothing failed
  stops_earlier : (first old new : D) (before after : State) → g.faults old ≡ g.faults first
      → ((stop : Option ℕ) → g.fails_past first stop → g.fails_past old stop)
      → StopsWithin g stops before after old new → StopsWithin g stops before after first new
  stops_earlier first old new before after steady planned within = record {
    passed = within.passed;
    has_passed = let some = within.has_passed in
        record {
          mid = some.mid;
          counted = some.counted;
          steady = some.steady
              ∙ steady;
          as_planned = λ stop past. some.as_planned stop (planned stop past);
        };
    all = within.all;
    more = within.more;
    all_counted = within.all_counted;
    made = within.made;
    least = within.least;
    most = within.most;
    calls = within.calls;
    now = within.now;
    told = within.told;
    stopped = within.stopped;
  }

  -- a run that began earlier, and had answered some lines
  pub ends_later : (unopened failed_to_open : Type 0) (first old new : D) (ending : Ending) (start before most : State)
      (answered whole : List Exchange) → Extends (history_of start) (history_of before)
      → Extends (history_of before) (history_of most) → g.faults old ≡ g.faults first
      → CrashesShow g shows first old (history_of start) (history_of before)
      → (CrashesShow g shows old new (history_of before) (history_of most)
      → GoesAlong g holds shows new most old before answered → GoesAlong g holds shows new most first start whole)
      → last_state before answered ≡ last_state start whole
      → DiskEnds g holds shows stops ⊥ ⊥ old new (record { ending = ending; first = before; answered = answered; most = most })
      → DiskEnds g holds shows stops unopened failed_to_open first new
      (record { ending = ending; first = start; answered = whole; most = most })
  ends_later unopened failed_to_open first old new ending start before most answered whole lower upper steady so_far longer same ends =
      let earlier : g.faults first ≤ g.faults old = omega (arith, steady) in
      let moved : HoldsCommits g holds (last_state before answered) most new → HoldsCommits g holds (last_state start whole) most new =
      λ (held : HoldsCommits g holds (last_state before answered) most new).
      subst (λ (s : State). HoldsCommits g holds s most new) same held in
      let counted : HoldsCounted g holds (last_state before answered) new → HoldsCounted g holds (last_state start whole) new =
      λ (held : HoldsCounted g holds (last_state before answered) new). subst (λ (s : State). HoldsCounted g holds s new) same held in
      record {
        crash_during = goes_then first old new (history_of start) (history_of before) (history_of most) lower upper
            so_far ends.crash_during;
        line_by_line = longer ends.crash_during ends.line_by_line;
        crash_after = (
          ends.crash_after.0,
          ends.crash_after.1,
          subst
              (λ (s : State). Leaves (ShowsBetween shows (history_of s) (history_of most)) ends.crash_after.0) same ends.crash_after.2,
        );
        without_fault = λ sound. ⊎_elim
            (λ (never : ⊥). absurd never)
            (λ (there : HoldsCommits g holds (last_state before answered) most new ⊎ HoldsCommits g holds most most new). inr (⊎_elim
            (λ (held : HoldsCommits g holds (last_state before answered) most new). inl (moved held))
            (λ (held : HoldsCommits g holds most most new). inr held)
            there))
            (ends.without_fault (λ rose. sound (rose_earlier (g.faults first) (g.faults old) (g.faults new) earlier rose)));
        no_memory = λ out. ⊎_elim
            (λ (never : ⊥). absurd never)
            (λ (held : HoldsCommits g holds (last_state before answered) most new). inr (moved held))
            (ends.no_memory out);
        unread = λ by. moved (ends.unread by);
        between_lines = λ between. counted (ends.between_lines between);
        answer_cut = ends.answer_cut;
        again = ends.again;
        stopped = λ fault clean. ⊎_elim
            (λ (never : ⊥). absurd never)
            (λ (within : StopsWithin g stops (last_state before answered) most old new).
            inr (subst (λ (s : State). StopsWithin g stops s most first new) same
            (stops_earlier first old new (last_state before answered) most steady so_far.time.as_planned within)))
            (ends.stopped fault clean);
      }
