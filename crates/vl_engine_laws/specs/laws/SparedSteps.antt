-- What each step leaves of the sources spares versions as it should.
use Rattle.std.proofs.Common.{◌≡◌, ℕ, ◌+◌, ◌≤◌, Bool, true, false, cond, ◌&&◌, ◌||◌, List, [], ◌∷◌, ◌++◌, length, map}
use Rattle.std.proofs.Common.{refl, ap, sym, ◌∙◌, subst, arith}
use Rattle.std.proofs.lemmas.Bool.Decides.{nat_tests}
use Rattle.std.specs.Prelude.{Some, is_some, ◌==◌, not}
use Rattle.std.specs.List.{flat_map, list_any}
use Rattle.std.specs.FinMap.{entries, find, get, get-entries}
use Rattle.std.specs.Ordering.{eq_by_cmp}
use Rattle.vl_engine_model.specs.Levels.{in_front}
use Rattle.vl_engine_model.specs.Logs.{logged_entries, memtable}
use Rattle.vl_engine_model.specs.Ruling.{ended, logged}
use Rattle.vl_engine_model.specs.Rulings.Begin.{begun}
use Rattle.vl_engine_model.specs.Rulings.Commit.{commit_frame}
use Rattle.vl_engine_model.specs.Rulings.Flush.{flushed, flushed_table}
use Rattle.vl_engine_model.specs.Rulings.Keep.{keeping}
use Rattle.vl_engine_model.specs.Rulings.Rotate.{rotated}
use Rattle.vl_engine_model.specs.Sources.{behind_active, but_oldest, floor, oldest, sources, table_entries, tables}
use Rattle.vl_engine_model.specs.declared.layout.Layout.{Layout}
use Rattle.vl_engine_model.specs.declared.live.Live.{Live}
use Rattle.vl_engine_model.specs.declared.segment.Segment.{Segment}
use Rattle.vl_engine_model.specs.declared.table.Table.{Table}
use Rattle.vl_engine_model.specs.laws.CommitShows.{committed_entries}
use Rattle.vl_engine_model.specs.laws.FromLow.{has-versions_in}
use Rattle.vl_engine_model.specs.laws.LayoutShows.{added, logged_entries-more, place_behind, sources-rotated}
use Rattle.vl_engine_model.specs.laws.LowShows.{floor-begun, floor-rises}
use Rattle.vl_engine_model.specs.Ruling.{pin_of}
use Rattle.vl_engine_model_laws.specs.laws.Keeps.{frozen_parts}
use Rattle.vl_engine_model_laws.specs.laws.Lists.{any-append, any-in_order, or_right, true_false}
use Rattle.vl_model.specs.Entries.{is_at}
use Rattle.vl_model.specs.Frames.{record_length}
use Rattle.vl_model.specs.History.{Extends, History, last_number, with_commit}
use Rattle.vl_model.specs.Keys.{Writes, key_cmp}
use Rattle.vl_model.specs.Numbers.{has}
use Rattle.vl_model.specs.Placement.{placed}
use Rattle.vl_model.specs.Versions.{Numbered, naming, versions, versions_in}
use Rattle.vl_model.specs.declared.change.Change.{Change}
use Rattle.vl_model.specs.declared.entry.Entry.{Entry}
use Rattle.vl_model.specs.declared.log_frame.LogFrame.{LogFrame}
use Rattle.vl_model.specs.laws.HistoryLaws.{with_commit-extends}
use Rattle.vl_model.specs.laws.VersionLaws.{has-append, versions-up, versions-with_commit}
use Rattle.vl_engine_laws.specs.Spared.{IsSpared, IsWhole, Spares}
use Rattle.vl_engine_laws.specs.laws.SparedLaws.{spared_keep, spared_later, spared_up, whole_later, whole_up}

-- ---- the same sources

-- A floor that isn't lower,
pub spares_floor : (l next : Layout) (h : History) → sources next ≡ sources l → next.keep ≡ l.keep → next.since ≡ l.since
    → next.gone ≡ l.gone → floor l h ≤ floor next h → Spares l h → Spares next h
spares_floor l next h same keep since gone up spared = record {
  past = subst (λ (es : List Entry). IsSpared h es (last_number h) (floor next h) next.keep next.since) (sym same)
      (subst (λ (n : ℕ). IsSpared h (sources l) (last_number h) (floor next h) n next.since) (sym keep)
      (subst (λ (n : ℕ). IsSpared h (sources l) (last_number h) (floor next h) l.keep n) (sym since)
      (spared_up h (sources l) (last_number h) (floor l h) (floor next h) l.keep l.since up spared.past)));
  whole = subst (λ (es : List Entry). IsWhole h es (last_number h) (floor next h) next.gone) (sym same)
      (subst (λ (n : ℕ). IsWhole h (sources l) (last_number h) (floor next h) n) (sym gone)
      (whole_up h (sources l) (last_number h) (floor l h) (floor next h) l.gone up spared.whole));
}

no_later : (h : History) → Extends h h
no_later h = record { first = refl; base = refl; later = []; commits = nothing h.commits }
  where
    nothing : {A : Type 0} (xs : List A) → xs ≡ xs ++ []
    nothing [] = refl
    nothing (x ∷ xs) = ap (λ ys. x ∷ ys) (nothing xs)

-- as behind a begin, an end,
pub spares_begun : (l : Layout) (h : History) (ticket : ℕ) → Spares l h → Spares (begun l ticket (last_number h)) h
spares_begun l h ticket =
    spares_floor l (begun l ticket (last_number h)) h refl refl refl refl
    (let same = floor-begun l (begun l ticket (last_number h)) h
    (record { ticket = ticket; number = last_number h; pin = pin_of l }) refl refl
    in omega (arith, same))

pub spares_ended : (l : Layout) (h : History) (ticket : ℕ) → Spares l h → Spares (ended ticket l) h
spares_ended l h ticket =
    spares_floor l (ended ticket l) h refl refl refl refl
    (floor-rises l (ended ticket l) h h (no_later h) (λ (x : Live). not (x.ticket == ticket)) refl)

-- and a rotation.
pub spares_rotated : (l : Layout) (h : History) → Spares l h → Spares (rotated l) h
spares_rotated l h = spares_floor l (rotated l) h (sources-rotated l) refl refl refl (omega arith)

-- a change of how many are kept
pub spares_keeping : (l : Layout) (h : History) (v : ℕ) → Spares l h → Spares (keeping v h l) h
spares_keeping l h v spares = record {
  past = spared_keep h (sources l) (last_number h) (floor l h) l.keep l.since v spares.past;
  whole = spares.whole;
}

-- ---- a frame

module _ (l : Layout) (f : LogFrame) (key : List ℕ) (n : ℕ) where
  -- with a frame more the sources have its versions and what they had,
  pub any_logged : list_any (is_at key n) (sources (logged f l))
      ≡ (list_any (is_at key n) (added l f) || list_any (is_at key n) (sources l))
  any_logged =
      let p = is_at key n in
      let old = logged_entries l.active.format l.active.number 16 l.active.frames in
      any-append p (memtable (logged f l).active) (behind_active l)
      ∙ ap (λ b. b || list_any p (behind_active l))
      (any-in_order key n (logged_entries l.active.format l.active.number 16 (logged f l).active.frames)
      ∙ ap (list_any p) (logged_entries-more l.active.format l.active.number 16 l.active.frames f)
      ∙ any-append p (added l f) old
      ∙ ap (λ b. list_any p (added l f) || b) (sym (any-in_order key n old)))
      ∙ assoc (list_any p (added l f)) (list_any p (memtable l.active)) (list_any p (behind_active l))
      ∙ ap (λ b. list_any p (added l f) || b) (sym (any-append p (memtable l.active) (behind_active l)))
    where
      assoc : (a b c : Bool) → ((a || b) || c) ≡ (a || (b || c))
      assoc true b c = refl
      assoc false b c = refl

  -- so it takes none away
  pub has_logged : has n (versions_in (sources l) key) ≡ true → has n (versions_in (sources (logged f l)) key) ≡ true
  has_logged there =
      has-versions_in key n (sources (logged f l)) ∙ any_logged
      ∙ or_right (list_any (is_at key n) (added l f)) (list_any (is_at key n) (sources l))
      (sym (has-versions_in key n (sources l)) ∙ there)

-- ---- a commit

module _ (format segment number : ℕ) (key : List ℕ) (n : ℕ) where
  any_committed : (place : ℕ) (ws : List (List ℕ × Change))
      → list_any (is_at key n) (committed_entries format segment place number ws) ≡ (is_some (find key_cmp key ws) && (number == n))
  any_committed place [] = refl
  any_committed place (w ∷ ws) =
      ap (λ b. (eq_by_cmp key_cmp key w.0 && (number == n)) || b) (any_committed (place + record_length format w.0 w.1) ws)
      ∙ elim (eq_by_cmp key_cmp key w.0) as (λ c. ((c && (number == n)) || (is_some (find key_cmp key ws) && (number == n)))
      ≡ (is_some (cond c (Some w.1) (find key_cmp key ws)) && (number == n))) [
        | true ↦ absorbed (number == n) (is_some (find key_cmp key ws))
        | false ↦ refl
      ]
    where
      absorbed : (d e : Bool) → (d || (e && d)) ≡ d
      absorbed true e = refl
      absorbed false true = refl
      absorbed false false = refl

module _ (l : Layout) (h : History) (ticket : ℕ) (writes : Writes) where
  abbrev then : Layout
  then = logged (commit_frame h (entries writes)) (ended ticket l)

  -- its sources have the commit's versions and what they had
  any_then : (key : List ℕ) (n : ℕ) → list_any (is_at key n) (sources then)
      ≡ ((is_some (get writes key) && (last_number h + 1 == n)) || list_any (is_at key n) (sources l))
  any_then key n =
      any_logged l (commit_frame h (entries writes)) key n
      ∙ ap (λ b. b || list_any (is_at key n) (sources l))
      (any_committed l.active.format l.active.number (last_number h + 1) key n (place_behind l.active.format 16 l.active.frames + 17)
      (entries writes) ∙ ap (λ o. is_some o && (last_number h + 1 == n)) (sym (get-entries writes key)))

  has_then : (key : List ℕ) (n : ℕ) → has n (versions_in (sources then) key)
      ≡ ((is_some (get writes key) && (last_number h + 1 == n)) || has n (versions_in (sources l) key))
  has_then key n =
      has-versions_in key n (sources then) ∙ any_then key n
      ∙ ap (λ b. (is_some (get writes key) && (last_number h + 1 == n)) || b) (sym (has-versions_in key n (sources l)))

  -- a version of the later history that they haven't is one of the earlier
  was_one : (key : List ℕ) (n : ℕ) → has n (versions (with_commit h writes) key) ≡ true
      → has n (versions_in (sources then) key) ≡ false → has n (versions h key) ≡ true
  was_one key n there missing =
      by (has n (versions h key)) refl (is_some (get writes key)) refl (last_number h + 1 == n) refl
    where
      is_new : List Numbered
      is_new = (h.first + 1 + length h.commits, writes) ∷ []

      either : (has n (versions h key) || has n (naming key is_new)) ≡ true
      either = sym (has-append n (versions h key) (naming key is_new))
          ∙ subst (λ (ns : List ℕ). has n ns ≡ true) (versions-with_commit h writes key) there

      named_new : (a : Bool) → is_some (get writes key) ≡ a
          → has n (naming key is_new) ≡ has n (map (λ (c : Numbered). c.0) (cond a is_new []))
      named_new a named = ap (λ b. has n (map (λ (c : Numbered). c.0) (cond b is_new []))) named

      by : (o : Bool) → has n (versions h key) ≡ o → (a : Bool) → is_some (get writes key) ≡ a → (b : Bool)
          → (last_number h + 1 == n) ≡ b → has n (versions h key) ≡ true
      by true is a named b at = is
      by false is true named true at =
          absurd (true_false (sym (has_then key n ∙ ap (λ c. (c && (last_number h + 1 == n)) || has n (versions_in (sources l) key)) named
          ∙ ap (λ c. c || has n (versions_in (sources l) key)) at) ∙ missing))
      by false is true named false at =
          let apart : (h.first + 1 + length h.commits == n) ≡ false = grind (arith, nat_tests) in
          absurd (true_false (sym either ∙ ap (λ c. c || has n (naming key is_new)) is ∙ named_new true named
          ∙ ap (λ c. c || false) apart))
      by false is false named b at =
          absurd (true_false (sym either ∙ ap (λ c. c || has n (naming key is_new)) is ∙ named_new false named))

  pub spares_committed : Spares l h → Spares then (with_commit h writes)
  spares_committed spares = record {
    past = spared_later h (with_commit h writes) (sources l) (sources then) (last_number h) (last_number (with_commit h writes))
        (floor l h) (floor then (with_commit h writes)) l.keep l.since up stand old spares.past;
    whole = whole_later h (with_commit h writes) (sources l) (sources then) (last_number h) (last_number (with_commit h writes))
        (floor l h) (floor then (with_commit h writes)) l.gone l.gone up (omega arith) stand old spares.whole;
  }
    where
      up : floor l h ≤ floor then (with_commit h writes)
      up = floor-rises l then h (with_commit h writes) (with_commit-extends h writes) (λ (x : Live). not (x.ticket == ticket)) refl

      stand : (key : List ℕ) (n : ℕ) → has n (versions_in (sources l) key) ≡ true → has n (versions_in (sources then) key) ≡ true
      stand key n there = has_then key n
          ∙ or_right (is_some (get writes key) && (last_number h + 1 == n)) (has n (versions_in (sources l) key)) there

      old : (key : List ℕ) (n : ℕ) → n ≤ last_number (with_commit h writes) → has n (versions (with_commit h writes) key) ≡ true
          → has n (versions_in (sources then) key) ≡ false → (n ≤ last_number h) × (has n (versions h key) ≡ true)
      old key n le there missing = let was = was_one key n there missing in (versions-up h key n was, was)

-- ---- a flush

any_placed : (key : List ℕ) (n : ℕ) (es : List Entry) → list_any (is_at key n) (map placed es) ≡ list_any (is_at key n) es
any_placed key n [] = refl
any_placed key n (e ∷ es) = ap (λ b. is_at key n e || b) (any_placed key n es)

module _ (l : Layout) (h : History) (s : Segment) (waits : oldest l.frozen ≡ Some s) (level : List Table) (deeper : List (List Table))
    (are : l.levels ≡ level ∷ deeper) where
  tables_then : tables (flushed l s) ≡ flushed_table l s ∷ tables l
  tables_then = ap (λ (ls : List (List Table)). flat_map (λ (x : List Table). x) (in_front (flushed_table l s) ls)) are
      ∙ ap (λ (ls : List (List Table)). flushed_table l s ∷ flat_map (λ (x : List Table). x) ls) (sym are)

  any_flushed : (key : List ℕ) (n : ℕ) → list_any (is_at key n) (sources (flushed l s)) ≡ list_any (is_at key n) (sources l)
  any_flushed key n =
      let p = is_at key n in
      let before = flat_map memtable (but_oldest l.frozen) in
      let rest = flat_map table_entries (tables l) in
      any-append p (memtable l.active) (behind_active (flushed l s))
      ∙ ap (λ b. list_any p (memtable l.active) || b)
      (any-append p before (flat_map table_entries (tables (flushed l s)))
      ∙ ap (λ (ts : List Table). list_any p before || list_any p (flat_map table_entries ts)) tables_then
      ∙ ap (λ b. list_any p before || b)
      (any-append p (map placed (memtable s)) rest ∙ ap (λ b. b || list_any p rest) (any_placed key n (memtable s)))
      ∙ assoc (list_any p before) (list_any p (memtable s)) (list_any p rest)
      ∙ ap (λ b. b || list_any p rest) (sym (any-append p before (memtable s)))
      ∙ ap (λ (es : List Entry). list_any p es || list_any p rest) (sym (frozen_parts l.frozen s waits))
      ∙ sym (any-append p (flat_map memtable l.frozen) rest))
      ∙ sym (any-append p (memtable l.active) (behind_active l))
    where
      assoc : (a b c : Bool) → (a || (b || c)) ≡ ((a || b) || c)
      assoc true b c = refl
      assoc false b c = refl

  has_flushed : (key : List ℕ) (n : ℕ) → has n (versions_in (sources (flushed l s)) key) ≡ has n (versions_in (sources l) key)
  has_flushed key n = has-versions_in key n (sources (flushed l s)) ∙ any_flushed key n ∙ sym (has-versions_in key n (sources l))

  pub spares_flushed : Spares l h → Spares (flushed l s) h
  spares_flushed spares = record {
    past = spared_later h h (sources l) (sources (flushed l s)) (last_number h) (last_number h) (floor l h) (floor (flushed l s) h)
        l.keep l.since (omega arith) (λ key n there. has_flushed key n ∙ there) (λ key n le there missing. (le, there)) spares.past;
    whole = whole_later h h (sources l) (sources (flushed l s)) (last_number h) (last_number h) (floor l h) (floor (flushed l s) h)
        l.gone l.gone (omega arith) (omega arith) (λ key n there. has_flushed key n ∙ there) (λ key n le there missing. (le, there))
        spares.whole;
  }
