-- Whatever a call answers, what is left shows from low on at the floor, v and since that are left.
use Rattle.std.proofs.Common.{◌≡◌, ℕ, ◌+◌, ◌≤◌, Bool, true, false, not, List, [], ◌∷◌, ◌++◌, refl, ap, sym, ◌∙◌, subst, arith}
use Rattle.std.specs.Prelude.{length, T, Option, Some, None, nat_le, ◌==◌, if◌then◌else◌}
use Rattle.std.specs.List.{AllByRecursion, filter}
use Rattle.std.specs.FinMap.{from_sorted, is_sorted}
use Rattle.vl_model.specs.Keys.{key_cmp}
use Rattle.vl_model.specs.Conflicts.{Named, first_conflict}
use Rattle.vl_model.specs.Frames.{frame_length}
use Rattle.vl_model.specs.History.{History, Extends, last_number, with_commit}
use Rattle.vl_model.specs.laws.HistoryLaws.{with_commit-extends}
use Rattle.vl_model.specs.Limits.{max_commit_number}
use Rattle.vl_model.specs.Winners.{Logs}
use Rattle.vl_model.specs.Versions.{low}
use Rattle.vl_model.specs.declared.log_frame.LogFrame.{LogFrame}
use Rattle.vl_model.specs.declared.log_frame.LogFrame.TheVariants.{Relocated}
use Rattle.vl_model.specs.declared.log_frame.Moved.{Moved}
use Rattle.vl_engine_model.specs.Logs.{memtable}
use Rattle.vl_engine_model.specs.laws.LowShows.{shows_later, shows_keep, low_up, floor-up, floor-rises, floor-begun}
use Rattle.vl_engine_model.specs.Relocation.{Pass, Candidate, moved_of}
use Rattle.vl_engine_model.specs.Ruling.{pin_of, Ruling, ended, has_no_number, has_no_epoch}
use Rattle.vl_engine_model.specs.Rulings.Begin.{begun}
use Rattle.vl_engine_model.specs.Rulings.Commit.{Transaction, committed, commit_checked, commit_running, commit_unless}
use Rattle.vl_engine_model.specs.Rulings.Commit.{commit_ruling, commit_frame}
use Rattle.vl_engine_model.specs.Rulings.Flush.{flushed, flush_of, flush_unless, flush_ruling}
use Rattle.vl_engine_model.specs.Rulings.Keep.{keeping}
use Rattle.vl_engine_model.specs.Rulings.Relocate.{relocated, relocate_of, relocate_unless, relocate_ruling}
use Rattle.vl_engine_model.specs.Rulings.Rotate.{rotated, rotate_of, rotate_unless, rotate_ruling}
use Rattle.vl_engine_model.specs.laws.RulingShows.{commit_ruling-shows, rotate_ruling-shows, flush_ruling-shows, relocate_ruling-shows}
use Rattle.vl_engine_model.specs.Shows.{Shows, AreUpTo}
use Rattle.vl_engine_model.specs.Sources.{sources, floor, oldest}
use Rattle.vl_engine_model.specs.declared.file_name.FileName.{FileName}
use Rattle.vl_engine_model.specs.declared.layout.Layout.{Layout}
use Rattle.vl_engine_model.specs.declared.live.Live.{Live}
use Rattle.vl_engine_model.specs.declared.segment.Segment.{Segment}
use Rattle.vl_engine_model.specs.declared.table.Table.{Table}
use Rattle.vl_engine_model.specs.Shown.{ArePlaced, IsThere, low_at, ShowsLow}

-- the same history or one with more commits, no lower floor, and the same v and since
pub record IsLater (h : History) (l : Layout) (h' : History) (l' : Layout) : Type 0 where
  pub extends : Extends h h'
  pub floors : floor l h ≤ floor l' h'
  pub keep : l'.keep ≡ l.keep
  pub since : l'.since ≡ l.since

no_end : (xs : List Live) → xs ≡ filter (λ (x : Live). true) xs
no_end [] = refl
no_end (x ∷ xs) = ap (λ ys. x ∷ ys) (no_end xs)

extends_itself : (h : History) → Extends h h
extends_itself h = record { first = refl; base = refl; later = []; commits = nothing h.commits }
  where
    nothing : {A : Type 0} → (xs : List A) → xs ≡ xs ++ []
    nothing [] = refl
    nothing (x ∷ xs) = ap (λ ys. x ∷ ys) (nothing xs)

as_it_was : (h : History) (l l' : Layout) → l'.live ≡ l.live → l'.keep ≡ l.keep → l'.since ≡ l.since → IsLater h l h l'
as_it_was h l l' live keep since = record {
  extends = extends_itself h;
  floors = floor-rises l l' h h (extends_itself h) (λ x. true) (live ∙ no_end l.live);
  keep = keep;
  since = since;
}

one_ended : (h : History) (l : Layout) (ticket : ℕ) → IsLater h l h (ended ticket l)
one_ended h l ticket = record {
  extends = extends_itself h;
  floors = floor-rises l (ended ticket l) h h (extends_itself h) (λ (x : Live). not (x.ticket == ticket)) refl;
  keep = refl;
  since = refl;
}

-- what shows from the earlier low shows from the later one
pub later_shows : (logs : Logs) (h h' : History) (l l' : Layout) → IsLater h l h' l'
    → Shows logs (sources l') h' (low_at l h) (last_number h') → ShowsLow logs l' h'
later_shows logs h h' l l' later shows =
    subst (λ (k : ℕ). Shows logs (sources l') h' (low h' (floor l' h') k l'.since) (last_number h')) (sym later.keep)
    (subst (λ (s : ℕ). Shows logs (sources l') h' (low h' (floor l' h') l.keep s) (last_number h')) (sym later.since)
    (shows_later logs (sources l') h h' later.extends (floor l h) (floor l' h') l.keep l.since (last_number h') later.floors shows))

abbrev RuledLater : {A : Type 0} → History → Layout → Ruling A → Type 0
RuledLater h l r = IsLater h l r.history r.layout

either : {A : Type 0} (h : History) (l : Layout) (b : Bool) (x y : Ruling A) → RuledLater h l x → RuledLater h l y
    → RuledLater h l (if b then x else y)
either h l true x y one other = one
either h l false x y one other = other

module _ (h : History) (l : Layout) where
  same : IsLater h l h l
  same = as_it_was h l l refl refl refl

  -- ---- a commit

  committed_later : (t : Transaction) → RuledLater h l (committed l h t)
  committed_later t = record {
    extends = with_commit-extends h (from_sorted t.writes);
    floors = floor-rises l (committed l h t).layout h (with_commit h (from_sorted t.writes))
        (with_commit-extends h (from_sorted t.writes)) (λ (x : Live). not (x.ticket == t.ticket)) refl;
    keep = refl;
    since = refl;
  }

  checked_later : (t : Transaction) (conflict : Option Named) → RuledLater h l (commit_checked l h t conflict)
  checked_later t (Some named) = one_ended h l t.ticket
  checked_later t None = either h l
      (nat_le (l.active.length + frame_length l.active.format (commit_frame h t.writes)) l.room) (committed l h t) _ (committed_later t) same

  running_later : (t : Transaction) (conflict : Option Named) → RuledLater h l (commit_running l h t conflict)
  running_later t conflict =
      either h l (length t.writes == 0) _ _ (one_ended h l t.ticket)
      (either h l (nat_le max_commit_number (last_number h)) _ _ same (checked_later t conflict))

  unless_later : (t : Transaction) (halted : Option FileName)
      → RuledLater h l (commit_unless halted l h t (first_conflict h t.number t.reads))
  unless_later t (Some name) = one_ended h l t.ticket
  unless_later t None = running_later t (first_conflict h t.number t.reads)

  pub commit_shows_low : (logs : Logs) (t : Transaction) → T (is_sorted key_cmp t.writes)
      → AreUpTo (last_number h) (sources l) → ShowsLow logs l h
      → ShowsLow logs (commit_ruling l h t).layout (commit_ruling l h t).history
  commit_shows_low logs t rising up shows =
      later_shows logs h (commit_ruling l h t).history l (commit_ruling l h t).layout (unless_later t l.halted)
      (commit_ruling-shows logs (low_at l h) l h t up
      (λ key. let a = low_up h (floor l h) l.keep l.since key in let b = floor-up l h in omega (arith, a, b)) rising shows)

  -- ---- a rotation, a flush, a relocation

  rotate_of-later : (frames : List LogFrame) → RuledLater h l (rotate_of frames l h)
  rotate_of-later [] = same
  rotate_of-later (f ∷ fs) = either h l (has_no_number l.next_log 1) _ _ same
      (either h l (has_no_epoch l) _ _ same (as_it_was h l (rotated l) refl refl refl))

  rotate_later : (halted : Option FileName) → RuledLater h l (rotate_unless halted l h)
  rotate_later (Some name) = same
  rotate_later None = rotate_of-later l.active.frames

  pub rotate_shows_low : (logs : Logs) → ShowsLow logs l h → ShowsLow logs (rotate_ruling l h).layout (rotate_ruling l h).history
  rotate_shows_low logs shows = later_shows logs h (rotate_ruling l h).history l (rotate_ruling l h).layout
      (rotate_later l.halted) (rotate_ruling-shows logs (low_at l h) l h shows)

  flush_of-later : (o : Option Segment) → RuledLater h l (flush_of l h o)
  flush_of-later None = same
  flush_of-later (Some s) = either h l (has_no_number l.next_table 1) _ _ same
      (either h l (has_no_epoch l) _ _ same (as_it_was h l (flushed l s) refl refl refl))

  flush_later : (halted : Option FileName) → RuledLater h l (flush_unless halted l h)
  flush_later (Some name) = same
  flush_later None = flush_of-later (oldest l.frozen)

  pub flush_shows_low : (logs : Logs) (level : List Table) (deeper : List (List Table)) → l.levels ≡ level ∷ deeper
      → ((s : Segment) → oldest l.frozen ≡ Some s → ArePlaced logs (memtable s))
      → ShowsLow logs l h → ShowsLow logs (flush_ruling l h).layout (flush_ruling l h).history
  flush_shows_low logs level deeper are found shows =
      later_shows logs h (flush_ruling l h).history l (flush_ruling l h).layout (flush_later l.halted)
      (flush_ruling-shows logs (low_at l h) l h shows level deeper are found)

  relocate_of-later : (moved : List Moved) → RuledLater h l (relocate_of l h moved)
  relocate_of-later [] = same
  relocate_of-later (m ∷ ms) =
      either h l (has_no_epoch l) _ _ same
      (either h l (nat_le (l.active.length + frame_length l.active.format (Relocated (m ∷ ms))) l.room) _ _
      (as_it_was h l (relocated l (m ∷ ms)) refl refl refl) same)

  relocate_later : (pass : Pass) (batch : List Candidate) (halted : Option FileName)
      → RuledLater h l (relocate_unless halted l h pass batch)
  relocate_later pass batch (Some name) = same
  relocate_later pass batch None = relocate_of-later (moved_of (sources l) pass.segment (last_number h) batch)

  pub relocate_shows_low : (logs : Logs) (pass : Pass) (batch : List Candidate) → AllByRecursion (IsThere logs pass.segment) batch
      → ShowsLow logs l h → ShowsLow logs (relocate_ruling l h pass batch).layout (relocate_ruling l h pass batch).history
  relocate_shows_low logs pass batch there shows =
      later_shows logs h (relocate_ruling l h pass batch).history l (relocate_ruling l h pass batch).layout
      (relocate_later pass batch l.halted) (relocate_ruling-shows logs (low_at l h) l h shows pass batch there)

  -- ---- begin, end and a change of v

  pub ended_shows_low : (logs : Logs) (ticket : ℕ) → ShowsLow logs l h → ShowsLow logs (ended ticket l) h
  ended_shows_low logs ticket shows = later_shows logs h h l (ended ticket l) (one_ended h l ticket) shows

  begun_later : (ticket : ℕ) → IsLater h l h (begun l ticket (last_number h))
  begun_later ticket = record {
    extends = extends_itself h;
    floors = let same_floor = floor-begun l (begun l ticket (last_number h)) h
        (record { ticket = ticket; number = last_number h; pin = pin_of l }) refl refl in omega (arith, same_floor);
    keep = refl;
    since = refl;
  }

  pub begun_shows_low : (logs : Logs) (ticket : ℕ) → ShowsLow logs l h → ShowsLow logs (begun l ticket (last_number h)) h
  begun_shows_low logs ticket shows = later_shows logs h h l (begun l ticket (last_number h)) (begun_later ticket) shows

  pub keeping_shows_low : (logs : Logs) (v : ℕ) → ShowsLow logs l h → ShowsLow logs (keeping v h l) h
  keeping_shows_low logs v shows = shows_keep logs (sources l) h (floor l h) l.keep l.since v (last_number h) (floor-up l h) shows
