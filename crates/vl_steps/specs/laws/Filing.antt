-- Which files stand behind a commit, and how a failed one was stopped.
use Rattle.std.specs.Prelude.{◌≡◌, ◌≢◌, ◌≤◌, ℕ, ◌+◌, List, length, Option, None, Some, IsTrue, refl}
use Rattle.std.specs.FinMap.{entries, get}
use Rattle.std.specs.Option.{option_map}
use Rattle.std.proofs.Common.{sym, ap, subst, ◌∙◌, arith, ⊎_elim}
use Rattle.vl_disk.specs.Calls.{ChangesNothing}
use Rattle.vl_disk.specs.Changes.{changed_elsewhere, changed_there}
use Rattle.vl_disk.specs.Crash.{WhileAppending, WhileSyncing}
use Rattle.vl_disk.specs.DiskState.{DiskState, File, appended, synced, synced_file, lengthened, with_file}
use Rattle.vl_disk.specs.Faults.{after_calls}
use Rattle.vl_disk.specs.Moments.{While}
use Rattle.vl_disk.specs.declared.name.Name.TheVariants as names
use Rattle.vl_disk.specs.declared.name.Name.{Name}
use Rattle.vl_disk.specs.declared.watched.Watched.{Ghosts}
use Rattle.vl_disk.specs.laws.NameMap.{same_or_other}
use Rattle.vl_engine_laws.specs.laws.Carrying.{IsWatched}
use Rattle.vl_engine_laws.specs.Carries.{HasSameFiles, SameFiles}
use Rattle.vl_engine_laws.specs.Represents.{Fronts}
use Rattle.vl_steps.specs.Staging.{next_frame}
use Rattle.vl_steps.specs.Steps.{Hands, IsFailed, frame_of, log_of}
use Rattle.vl_engine_laws.specs.Writing.{StopsWriting, WhileWriting, at_append, at_sync, written}
use Rattle.vl_engine_laws.specs.declared.kept.Core.{Core}
use Rattle.vl_engine_model.specs.Rulings.Commit.{commit_frame}
use Rattle.vl_engine_model.specs.declared.layout.Layout.{Layout}
use Rattle.vl_model.specs.Formats.{log_format}
use Rattle.vl_model.specs.History.{History}
use Rattle.vl_model.specs.Keys.{Writes}
use Rattle.vl_model.specs.declared.log_frame.LogFrame.TheVariants.{Committed}
use Rattle.vl_seglog.specs.Frames.{frame_at}

-- ---- which files stand

files_themselves : (disk : DiskState) → HasSameFiles disk disk
files_themselves disk name = ((λ none. none, λ none. none), (λ none. none, λ none. none))

files_then : (a b c : DiskState) → HasSameFiles a b → HasSameFiles b c → HasSameFiles a c
files_then a b c first second name = (
  (λ none. (first name).0.0 ((second name).0.0 none), λ none. (second name).0.1 ((first name).0.1 none)),
  (λ none. (first name).1.0 ((second name).1.0 none), λ none. (second name).1.1 ((first name).1.1 none)),
)

mapped_none : {X : Type 0} (change : X → X) (o : Option X) → option_map change o ≡ None → o ≡ None
mapped_none change None none = refl
mapped_none change (Some x) none = absurd cc

none_mapped : {X : Type 0} (change : X → X) (o : Option X) → o ≡ None → option_map change o ≡ None
none_mapped change o none = ap (option_map change) none

-- a change of one file keeps them
pub files_changed : (name : Name) (change : File → File) (disk : DiskState) → HasSameFiles disk (with_file name change disk)
files_changed name change disk q = (standing, (λ none. none, λ none. none))
  where
    after : DiskState
    after = with_file name change disk

    standing : (get after.standing q ≡ None → get disk.standing q ≡ None) × (get disk.standing q ≡ None → get after.standing q ≡ None)
    standing = ⊎_elim
        (λ (same : q ≡ name).
        let there = changed_there name disk change in (
          λ none. ap (get disk.standing) same
              ∙ mapped_none change (get disk.standing name) (sym there ∙ ap (get after.standing) (sym same) ∙ none),
          λ none. ap (get after.standing) same ∙ there
              ∙ none_mapped change (get disk.standing name) (ap (get disk.standing) (sym same) ∙ none),
        ))
        (λ (other : q ≢ name).
        let elsewhere = (changed_elsewhere name disk change).standing q other in
        (λ none. sym elsewhere ∙ none, λ none. elsewhere ∙ none))
        (same_or_other q name)

pub files_written : (name : Name) (frame : List ℕ) (disk : DiskState) → HasSameFiles disk (written name frame disk)
files_written name frame disk =
    let mid = appended name frame (length frame) disk in
    files_then disk mid (written name frame disk) (files_changed name (lengthened frame (length frame)) disk)
    (files_changed name synced_file mid)

files_writing : (name : Name) (frame : List ℕ) (disk now : DiskState) → WhileWriting name frame disk now
    → HasSameFiles disk now
files_writing name frame disk now during = ⊎_elim
    (λ (appending : WhileAppending name frame disk now). ⊎_elim
    (λ (none : now ≡ disk). subst (HasSameFiles disk) (sym none) (files_themselves disk))
    (λ (some : (taken : ℕ) × (taken ≤ length frame) × (now ≡ appended name frame taken disk)).
    subst (HasSameFiles disk) (sym some.2) (files_changed name (lengthened frame some.0) disk))
    appending)
    (λ (syncing : WhileSyncing name (appended name frame (length frame) disk) now).
    let mid = appended name frame (length frame) disk in
    let first = files_changed name (lengthened frame (length frame)) disk in
    ⊎_elim
    (λ (none : now ≡ mid). subst (HasSameFiles disk) (sym none) first)
    (λ (all : now ≡ synced name mid).
    subst (HasSameFiles disk) (sym all) (files_then disk mid (synced name mid) first (files_changed name synced_file mid)))
    syncing)
    during

same_state : (a b : DiskState) → Some a ≡ Some b → a ≡ b
same_state a b e = cc

module _ {D H : Type 0} (g : Ghosts D) (old new : D) (before after : Core H) (ticket : ℕ) (writes : Writes) where
  -- where the disk tells the same
  pub same_files : g.told new ≡ g.told old → SameFiles (g.told old) (g.told new)
  same_files told a b is_a is_b =
      subst (HasSameFiles a) (same_state a b (sym is_a ∙ sym told ∙ is_b)) (files_themselves a)

  -- where a frame was handed over, whatever became of it
  pub same_files_handed : IsWatched g → Hands g before.front writes old new → SameFiles (g.told old) (g.told new)
  same_files_handed watched hands a b is_a is_b =
      let told_mid : g.told hands.mid ≡ Some a = hands.before.told ∙ is_a in
      ⊎_elim
      (λ (was : g.states_since hands.mid (g.moment hands.mid) b).
      subst (HasSameFiles a) (sym (watched.only_now hands.mid a b told_mid was)) (files_themselves a))
      (λ (during : While (g.told hands.mid) (WhileWriting (log_of before.front) (frame_of before.front writes)) b).
      files_writing (log_of before.front) (frame_of before.front writes) a b (during a told_mid))
      (hands.time.nothing_else (g.moment hands.mid) b (omega arith)
      (watched.counts_now new b (g.moment hands.mid) is_b hands.time.later))

  -- ---- how a failed commit was stopped

  -- of a disk that was only looked at before
  stops_earlier : (mid : D) (name : Name) (frame : List ℕ) → ChangesNothing g old mid ⊥
      → StopsWriting g name frame mid new → StopsWriting g name frame old new
  stops_earlier mid name frame before (at_append changed calls) = at_append
      (changed ∙ ap (option_map (appended name frame 0)) before.told) (calls ∙ ap (after_calls 1) before.calls)
  stops_earlier mid name frame before (at_sync changed calls passed) = at_sync
      (changed ∙ ap (option_map (appended name frame (length frame))) before.told) (calls ∙ ap (after_calls 2) before.calls)
      (record {
        mid = passed.mid;
        counted = passed.counted ∙ ap (after_calls 1) before.calls;
        steady = passed.steady ∙ before.cause.steady (λ failed. failed);
        as_planned = λ stop fails. passed.as_planned stop (before.time.as_planned stop fails);
      })

  pub stops_failed : (h : History) (l : Layout) → Fronts before h l → IsFailed g old new before after ticket writes
      → IsTrue g.fails_cleanly
      → StopsWriting g (names.Log l.active.number)
      (frame_at log_format l.active.number l.active.length (commit_frame h (entries writes))) old new
  stops_failed h l is failed clean =
      subst (λ (n : ℕ). StopsWriting g (names.Log n)
      (frame_at log_format l.active.number l.active.length (commit_frame h (entries writes))) old new) is.number
      (subst (λ (frame : List ℕ). StopsWriting g (log_of before.front) frame old new) (frame_as h l is)
      (stops_earlier failed.hands.mid (log_of before.front) (frame_of before.front writes) failed.hands.before (failed.stopped clean)))
    where
      frame_as : (h : History) (l : Layout) → Fronts before h l
          → frame_of before.front writes ≡ frame_at log_format l.active.number l.active.length (commit_frame h (entries writes))
      frame_as h l is =
          ap (λ (n : ℕ). frame_at log_format n before.front.log.length (next_frame before.front writes)) is.number
          ∙ ap (λ (n : ℕ). frame_at log_format l.active.number n (next_frame before.front writes)) is.length_is
          ∙ ap (λ (n : ℕ). frame_at log_format l.active.number l.active.length (Committed (n + 1) (entries writes))) is.front.last
