-- The entries of a commit in memory: in order, of versions that aren't there yet, and in front of the memtable's those of the
-- log with the commit's frame.
use Rattle.std.specs.Prelude.{◌≡◌, ◌<◌, ◌≤◌, ℕ, ◌+◌, ◌&&◌, ◌==◌, T, Bool, true, false, List, [], ◌∷◌, ◌++◌, None, Some, refl}
use Rattle.std.specs.FinMap.Entries.{below_all, is_sorted}
use Rattle.std.specs.Ordering.{eq_by_cmp, is_lt, nat_cmp, ordering_then}
use Rattle.std.specs.declared.cmp.Ordering.{Ordering}
use Rattle.std.specs.declared.cmp.Ordering.TheVariants.{Less, Equal, Greater}
use Rattle.std.proofs.Common.{sym, ap, ◌∙◌, cond, arith}
use Rattle.std.proofs.lemmas.Bool.Decides.{nat_tests}
use Rattle.vl_engine_model.specs.Logs.{frame_entries, logged_entries, memtable, record_entry}
use Rattle.vl_engine_model.specs.Ruling.{logged}
use Rattle.vl_engine_model.specs.Shows.{AreUpTo}
use Rattle.vl_engine_model.specs.Tidy.{IsTrueLog}
use Rattle.vl_engine_model.specs.declared.layout.Layout.{Layout}
use Rattle.vl_engine_model.specs.laws.CommitShows.{committed_entries}
use Rattle.vl_engine_model.specs.laws.LayoutShows.{logged_entries-more, place_behind, place_behind-is}
use Rattle.vl_engine_model.specs.laws.OrderShows.{all-in_order}
use Rattle.vl_engine_model.specs.laws.ShowsLaws.{all_both}
use Rattle.vl_memtable.specs.Contents.{IsNewTo}
use Rattle.vl_model.specs.Entries.{in_order}
use Rattle.vl_model.specs.Frames.{record_length}
use Rattle.vl_model.specs.Keys.{key_cmp}
use Rattle.vl_model.specs.Winners.{exact}
use Rattle.vl_model.specs.declared.change.Change.{Change}
use Rattle.vl_model.specs.declared.entry.Entry.{Entry}
use Rattle.vl_model.specs.declared.log_frame.LogFrame.{LogFrame}
use Rattle.vl_model.specs.EntryOrder.{IsInOrder}
use Rattle.vl_model.specs.laws.OrderLaws.{IsBefore, IsRising, in_order-back, in_order-rising}

-- ---- in order

first_part : (a b : Bool) → T (a && b) → T a
first_part true b both = tt
first_part false b both = absurd both

second_part : (a b : Bool) → T (a && b) → T b
second_part true b both = both
second_part false b both = absurd both

module _ (format segment number : ℕ) where
  commit_before : (place : ℕ) (e : Entry) (ws : List (List ℕ × Change)) → T (below_all key_cmp e.key ws)
      → IsBefore e (committed_entries format segment place number ws)
  commit_before place e [] below = tt
  commit_before place e (w ∷ ws) below = (
    by (key_cmp e.key w.0) (first_part (is_lt (key_cmp e.key w.0)) (below_all key_cmp e.key ws) below),
    commit_before (place + record_length format w.0 w.1) e ws
        (second_part (is_lt (key_cmp e.key w.0)) (below_all key_cmp e.key ws) below),
  )
    where
      by : (r : Ordering) → T (is_lt r) → ordering_then r (nat_cmp number e.version) ≡ Less
      by Less less = refl
      by Equal less = absurd less
      by Greater less = absurd less

  commit_rises : (place : ℕ) (ws : List (List ℕ × Change)) → T (is_sorted key_cmp ws)
      → IsRising (committed_entries format segment place number ws)
  commit_rises place [] sorted = tt
  commit_rises place (w ∷ ws) sorted = (
    commit_before (place + record_length format w.0 w.1)
        (record_entry format segment (record { key = w.0; version = number; change = w.1; place = place })) ws
        (first_part (below_all key_cmp w.0 ws) (is_sorted key_cmp ws) sorted),
    commit_rises (place + record_length format w.0 w.1) ws
        (second_part (below_all key_cmp w.0 ws) (is_sorted key_cmp ws) sorted),
  )

  -- A commit's entries are in order,
  pub commit_in_order : (place : ℕ) (ws : List (List ℕ × Change)) → T (is_sorted key_cmp ws)
      → IsInOrder (committed_entries format segment place number ws)
  commit_in_order place ws sorted =
      in_order-rising (committed_entries format segment place number ws) (commit_rises place ws sorted)

  none_exact : (key : List ℕ) (last : ℕ) (es : List Entry) → last < number → AreUpTo last es → exact es key number ≡ None
  none_exact key last [] less up = refl
  none_exact key last (e ∷ es) less up =
      let low = up.0 in
      let apart : (e.version == number) ≡ false = grind (arith, nat_tests, low, less) in
      ap (λ (b : Bool). cond (eq_by_cmp key_cmp key e.key && b) (Some e) (exact es key number)) apart
      ∙ never (eq_by_cmp key_cmp key e.key) e es (none_exact key last es less up.1)
    where
      never : (b : Bool) (f : Entry) (fs : List Entry) → exact fs key number ≡ None
          → cond (b && false) (Some f) (exact fs key number) ≡ None
      never true f fs none = none
      never false f fs none = none

  -- and of no key and version of entries whose versions are lesser.
  pub commit_is_new : (last place : ℕ) (es : List Entry) (ws : List (List ℕ × Change)) → last < number → AreUpTo last es
      → IsNewTo es (committed_entries format segment place number ws)
  commit_is_new last place es [] less up = tt
  commit_is_new last place es (w ∷ ws) less up =
      (none_exact w.0 last es less up, commit_is_new last (place + record_length format w.0 w.1) es ws less up)

  commit_up_to : (place : ℕ) (ws : List (List ℕ × Change)) → AreUpTo number (committed_entries format segment place number ws)
  commit_up_to place [] = tt
  commit_up_to place (w ∷ ws) = (omega arith, commit_up_to (place + record_length format w.0 w.1) ws)

  later_up_to : (last : ℕ) (es : List Entry) → last ≤ number → AreUpTo last es → AreUpTo number es
  later_up_to last [] le up = tt
  later_up_to last (e ∷ es) le up = (let low = up.0 in omega (arith, le, low), later_up_to last es le up.1)

  -- With them none has a version above the commit's number.
  pub commit_known : (last place : ℕ) (es : List Entry) (ws : List (List ℕ × Change)) → last ≤ number → AreUpTo last es
      → AreUpTo number (in_order (committed_entries format segment place number ws ++ es))
  commit_known last place es ws le up =
      all-in_order (λ (e : Entry). e.version ≤ number) (committed_entries format segment place number ws ++ es)
      (all_both (λ (e : Entry). e.version ≤ number) (committed_entries format segment place number ws) es
      (commit_up_to place ws) (later_up_to last es le up))

-- ---- the memtable

-- The entries of a frame behind the active log, in front of its memtable's, make that of the log with the frame.
pub memtable_more : (l : Layout) (f : LogFrame) → IsTrueLog l.active
    → in_order (frame_entries l.active.format l.active.number l.active.length f ++ memtable l.active)
    ≡ memtable (logged f l).active
memtable_more l f is =
    let format = l.active.format in
    let old = logged_entries format l.active.number 16 l.active.frames in
    let place : place_behind format 16 l.active.frames ≡ l.active.length =
    place_behind-is format 16 l.active.frames ∙ sym is in
    in_order-back (frame_entries format l.active.number l.active.length f) old
    ∙ ap (λ (n : ℕ). in_order (frame_entries format l.active.number n f ++ old)) (sym place)
    ∙ ap in_order (sym (logged_entries-more format l.active.number 16 l.active.frames f))
