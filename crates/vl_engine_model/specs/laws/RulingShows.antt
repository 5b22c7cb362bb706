-- Whatever a commit, a rotation, a flush or a relocation answers, its layout shows the history that
-- it leaves.
use Rattle.std.proofs.Common.{◌≡◌, ℕ, ◌+◌, ◌≤◌, Bool, true, false, cond, ◌||◌, List, [], ◌∷◌, map, length, refl, ap}
use Rattle.std.proofs.Common.{sym, ◌∙◌, subst, arith, length-append}
use Rattle.std.proofs.lemmas.Bool.{and_parts}
use Rattle.std.proofs.lemmas.Bool.Decides.{nat_tests}
use Rattle.std.specs.Prelude.{T, Option, Some, None, nat_le, ◌==◌, if◌then◌else◌}
use Rattle.std.specs.Option.{option_map}
use Rattle.std.specs.List.{AllByRecursion, filter, list_any}
use Rattle.std.specs.FinMap.{from_sorted, is_sorted, entries-from_sorted}
use Rattle.vl_model.specs.declared.change.Change.{Change}
use Rattle.std.specs.Ordering.{eq_by_cmp}
use Rattle.vl_model.specs.Conflicts.{Named, first_conflict}
use Rattle.vl_model.specs.Keys.{Stored, Writes, key_cmp}
use Rattle.vl_model.specs.Entries.{is_at}
use Rattle.vl_model.specs.Frames.{frame_length}
use Rattle.vl_model.specs.History.{History, last_number, with_commit}
use Rattle.vl_model.specs.Limits.{max_commit_number}
use Rattle.vl_model.specs.Winners.{Logs, exact, leads_to, is_far_to, wins_exactly, resolved}
use Rattle.vl_model.specs.laws.WinnerLaws.{same_key}
use Rattle.vl_model.specs.declared.entry.Entry.{Entry}
use Rattle.vl_model.specs.declared.entry.Body.{Body}
use Rattle.vl_model.specs.declared.entry.Body.TheVariants.{Inline, Gone, Far, Logged}
use Rattle.vl_model.specs.declared.log_frame.LogFrame.{LogFrame}
use Rattle.vl_model.specs.declared.log_frame.LogFrame.TheVariants.{Relocated}
use Rattle.vl_model.specs.declared.log_frame.Moved.{Moved}
use Rattle.vl_model.specs.declared.pointer.Pointer.{Pointer}
use Rattle.vl_model.specs.declared.counter.Counter.TheVariants as counter
use Rattle.vl_engine_model.specs.laws.LayoutShows.{AreShown, sources-rotated, commit_shows, flush_shows, relocate_shows}
use Rattle.vl_engine_model.specs.Logs.{memtable}
use Rattle.vl_engine_model.specs.Relocation.{Pass, Candidate, is_moved, moved_of}
use Rattle.vl_engine_model.specs.Ruling.{Ruling, leaving, ended, logged, StepAnswer, Stepped, Exhausted as NoNumber}
use Rattle.vl_engine_model.specs.Ruling.{has_no_number, has_no_epoch}
use Rattle.vl_engine_model.specs.Rulings.Commit.{Transaction, CommitAnswer, Nothing, Exhausted, Full, commit_ended}
use Rattle.vl_engine_model.specs.Rulings.Commit.{committed, commit_checked, commit_running, commit_unless, commit_ruling}
use Rattle.vl_engine_model.specs.Rulings.Commit.{commit_frame}
use Rattle.vl_engine_model.specs.Rulings.Flush.{flushed, flush_of, flush_unless, flush_ruling}
use Rattle.vl_engine_model.specs.Rulings.Relocate.{MoveAnswer, Moves, Exhausted as NoVersion, Full as NoRoom, relocated}
use Rattle.vl_engine_model.specs.Rulings.Relocate.{relocate_of, relocate_unless, relocate_ruling}
use Rattle.vl_engine_model.specs.Rulings.Rotate.{rotated, rotate_of, rotate_unless, rotate_ruling}
use Rattle.vl_engine_model.specs.Shows.{Shows, Meaning, Means, AreUpTo}
use Rattle.vl_engine_model.specs.Sources.{sources, oldest}
use Rattle.vl_engine_model.specs.declared.file_name.FileName.{FileName}
use Rattle.vl_engine_model.specs.declared.layout.Layout.{Layout}
use Rattle.vl_engine_model.specs.declared.segment.Segment.{Segment}
use Rattle.vl_engine_model.specs.declared.table.Table.{Table}
use Rattle.vl_engine_model.specs.Shown.{ArePlaced, ShowsRuled, IsThere}

either : {A : Type 0} (logs : Logs) (from : List ℕ → ℕ) (b : Bool) (x y : Ruling A)
    → ShowsRuled logs from x → ShowsRuled logs from y → ShowsRuled logs from (if b then x else y)
either logs from true x y one other = one
either logs from false x y one other = other

-- ---- a commit

last_number-more : (h : History) (writes : Writes)
    → last_number (with_commit h writes) ≡ last_number h + 1
last_number-more h writes = let both = length-append h.commits (writes ∷ []) in omega arith

module _ (logs : Logs) (from : List ℕ → ℕ) (l : Layout) (h : History) (t : Transaction)
    (up : AreUpTo (last_number h) (sources l)) (begins : (key : List ℕ) → from key ≤ last_number h)
    (rising : T (is_sorted key_cmp t.writes)) (shows : Shows logs (sources l) h from (last_number h)) where
  committed_shows : ShowsRuled logs from (committed l h t)
  committed_shows =
      let writes : Writes = from_sorted t.writes in
      subst (Shows logs (sources (committed l h t).layout) (with_commit h writes) from) (sym (last_number-more h writes))
      (subst (λ (ws : List (List ℕ × Change)). Shows logs (sources (logged (commit_frame h ws) (ended t.ticket l)))
      (with_commit h writes) from (last_number h + 1))
      (entries-from_sorted key_cmp t.writes rising) (commit_shows logs l t.ticket h writes from up begins shows))

  checked_shows : (conflict : Option Named) → ShowsRuled logs from (commit_checked l h t conflict)
  checked_shows (Some named) = shows
  checked_shows None =
      either logs from (nat_le (l.active.length + frame_length l.active.format (commit_frame h t.writes)) l.room)
      (committed l h t) (leaving (Full l.active.length (frame_length l.active.format (commit_frame h t.writes))) h l)
      committed_shows shows

  running_shows : (conflict : Option Named) → ShowsRuled logs from (commit_running l h t conflict)
  running_shows conflict =
      let rest : Ruling CommitAnswer = if nat_le max_commit_number (last_number h) then leaving
      (Exhausted counter.Commit) h l else commit_checked l h t conflict in
      either logs from (length t.writes == 0) (commit_ended Nothing l h t) rest shows
      (either logs from (nat_le max_commit_number (last_number h)) (leaving (Exhausted counter.Commit) h l)
      (commit_checked l h t conflict) shows (checked_shows conflict))

  unless_shows : (halted : Option FileName)
      → ShowsRuled logs from (commit_unless halted l h t (first_conflict h t.number t.reads))
  unless_shows (Some name) = shows
  unless_shows None = running_shows (first_conflict h t.number t.reads)

  pub commit_ruling-shows : ShowsRuled logs from (commit_ruling l h t)
  commit_ruling-shows = unless_shows l.halted

-- ---- a rotation

module _ (logs : Logs) (from : List ℕ → ℕ) (l : Layout) (h : History) (shows : Shows logs (sources l) h from (last_number h)) where
  stepped_shows : (next : Layout) (calls : ℕ) → sources next ≡ sources l → (answer : StepAnswer)
      → ShowsRuled logs from (record { answer = answer; history = h; layout = next; calls = calls; gone = [] })
  stepped_shows next calls same answer = subst (λ es. Shows logs es h from (last_number h)) (sym same) shows

  rotate_of-shows : (frames : List LogFrame) → ShowsRuled logs from (rotate_of frames l h)
  rotate_of-shows [] = shows
  rotate_of-shows (f ∷ fs) =
      let made : Ruling StepAnswer = record { answer = Stepped l.active.number; history = h; layout = rotated l; calls = 3; gone = [] } in
      let rest : Ruling StepAnswer = if has_no_epoch l then leaving (NoNumber counter.Version) h l else made in
      either logs from (has_no_number l.next_log 1) (leaving (NoNumber counter.Log) h l) rest shows
      (either logs from (has_no_epoch l) (leaving (NoNumber counter.Version) h l) made shows
      (stepped_shows (rotated l) 3 (sources-rotated l) (Stepped l.active.number)))

  rotate_unless-shows : (halted : Option FileName) → ShowsRuled logs from (rotate_unless halted l h)
  rotate_unless-shows (Some name) = shows
  rotate_unless-shows None = rotate_of-shows l.active.frames

  pub rotate_ruling-shows : ShowsRuled logs from (rotate_ruling l h)
  rotate_ruling-shows = rotate_unless-shows l.halted

-- ---- a flush

module _ (logs : Logs) (from : List ℕ → ℕ) (l : Layout) (h : History)
    (shows : Shows logs (sources l) h from (last_number h)) (level : List Table) (deeper : List (List Table))
    (are : l.levels ≡ level ∷ deeper)
    (found : (s : Segment) → oldest l.frozen ≡ Some s → ArePlaced logs (memtable s)) where
  flush_of-shows : (o : Option Segment) → oldest l.frozen ≡ o
      → ShowsRuled logs from (flush_of l h o)
  flush_of-shows None waits = shows
  flush_of-shows (Some s) waits =
      let made : Ruling StepAnswer = record { answer = Stepped l.next_table; history = h; layout = flushed l s; calls = 5; gone = [] } in
      let rest : Ruling StepAnswer = if has_no_epoch l then leaving (NoNumber counter.Version) h l else made in
      either logs from (has_no_number l.next_table 1) (leaving (NoNumber counter.Table) h l) rest shows
      (either logs from (has_no_epoch l) (leaving (NoNumber counter.Version) h l) made shows
      (flush_shows logs l s h from (last_number h) waits level deeper are (found s waits) shows))

  flush_unless-shows : (halted : Option FileName) → ShowsRuled logs from (flush_unless halted l h)
  flush_unless-shows (Some name) = shows
  flush_unless-shows None = flush_of-shows (oldest l.frozen) refl

  pub flush_ruling-shows : ShowsRuled logs from (flush_ruling l h)
  flush_ruling-shows = flush_unless-shows l.halted

-- ---- a relocation

module _ (logs : Logs) (meaning : Meaning) (segment : ℕ) (c : Candidate) (there : IsThere logs segment c) where
  abbrev IsShown : List Entry → Type 0
  IsShown es = (list_any (is_at c.moved.key c.moved.version) es ≡ true) × (meaning c.moved.key c.moved.version ≡ Some c.moved.value)

  led_to : (e : Entry) (p : Pointer) (o : Option Stored) → logs p e.key ≡ o
      → option_map Some o ≡ Some (meaning e.key e.version)
      → (value : Stored) × (logs p e.key ≡ Some value) × (meaning e.key e.version ≡ Some value)
  led_to e p None is means = absurd cc
  led_to e p (Some value) is means = (value, is, (let same : Some (Some value) ≡ Some (meaning e.key e.version) = means in cc))

  won_here : (e : Entry) (body : Body) → e.body ≡ body → is_at c.moved.key c.moved.version e ≡ true
      → is_far_to segment c.place body ≡ true → Means logs meaning e
      → meaning c.moved.key c.moved.version ≡ Some c.moved.value
  won_here e (Inline value) is at far means = absurd cc
  won_here e Gone is at far means = absurd cc
  won_here e (Logged value p) is at far means = absurd cc
  won_here e (Far p) is at far means =
      let of_e = and_parts (eq_by_cmp key_cmp c.moved.key e.key) (e.version == c.moved.version) at in
      let keys : c.moved.key ≡ e.key = same_key c.moved.key e.key of_e.0 in
      let versions : e.version ≡ c.moved.version = grind (arith, nat_tests, of_e.1) in
      let of_p = and_parts (p.segment == segment) (p.place == c.place) far in
      let segments : p.segment ≡ segment = grind (arith, nat_tests, of_p.0) in
      let places : p.place ≡ c.place = grind (arith, nat_tests, of_p.1) in
      let leads : option_map Some (logs p e.key) ≡ Some (meaning e.key e.version) = ap (resolved logs e.key) (sym is) ∙ means in
      let led = led_to e p (logs p e.key) refl leads in
      let value_is : led.0 ≡ c.moved.value = there p led.0 segments places (ap (logs p) keys ∙ led.1) in
      ap (λ k. meaning k c.moved.version) keys ∙ ap (meaning e.key) (sym versions) ∙ led.2 ∙ ap Some value_is

  won_is_shown : (es : List Entry)
      → wins_exactly es segment c.moved.key c.moved.version c.place ≡ true
      → AllByRecursion (Means logs meaning) es → IsShown es
  won_is_shown [] wins all = absurd cc
  won_is_shown (e ∷ es) wins all = by_test (is_at c.moved.key c.moved.version e) refl (λ later. won_is_shown es later all.1)
    where
      by_test : (b : Bool) → is_at c.moved.key c.moved.version e ≡ b
          → (wins_exactly es segment c.moved.key c.moved.version c.place ≡ true
          → (list_any (is_at c.moved.key c.moved.version) es ≡ true) × (meaning c.moved.key c.moved.version ≡ Some c.moved.value))
          → (list_any (is_at c.moved.key c.moved.version) (e ∷ es) ≡ true) × (meaning c.moved.key c.moved.version ≡ Some c.moved.value)
      by_test true at later = (
        ap (λ b. b || list_any (is_at c.moved.key c.moved.version) es) at,
        won_here e e.body refl at
            (ap (λ b. leads_to segment c.place (cond b (Some e) (exact es c.moved.key c.moved.version))) (sym at) ∙ wins) all.0,
      )
      by_test false at later =
          let rest = later (ap (λ b. leads_to segment c.place (cond b (Some e) (exact es c.moved.key c.moved.version))) (sym at) ∙ wins) in
          (ap (λ b. b || list_any (is_at c.moved.key c.moved.version) es) at ∙ rest.0, rest.1)

module _ (logs : Logs) (es : List Entry) (meaning : Meaning) (segment last : ℕ) (all : AllByRecursion (Means logs meaning) es) where
  batch_is_shown : (batch : List Candidate) → AllByRecursion (IsThere logs segment) batch
      → AreShown es meaning (moved_of es segment last batch)
  batch_is_shown [] there = tt
  batch_is_shown (c ∷ cs) there = by_test (is_moved es segment last c) refl (batch_is_shown cs there.1)
    where
      by_test : (b : Bool) → is_moved es segment last c ≡ b
          → AreShown es meaning (moved_of es segment last cs)
          → AreShown es meaning (map (λ (x : Candidate). x.moved)
          (cond b (c ∷ filter (is_moved es segment last) cs) (filter (is_moved es segment last) cs)))
      by_test false is later = later
      by_test true is later =
          let wins = (and_parts (wins_exactly es segment c.moved.key c.moved.version c.place) (nat_le c.moved.version last) is).0 in
          (won_is_shown logs meaning segment c there.0 es wins all, later)

module _ (logs : Logs) (from : List ℕ → ℕ) (l : Layout) (h : History) (shows : Shows logs (sources l) h from (last_number h)) where
  relocate_of-shows : (moved : List Moved) → AreShown (sources l) shows.meaning moved
      → ShowsRuled logs from (relocate_of l h moved)
  relocate_of-shows [] all = shows
  relocate_of-shows (m ∷ ms) all =
      let made : Ruling MoveAnswer = record
      { answer = Moves (length (m ∷ ms)); history = h; layout = relocated l (m ∷ ms); calls = 2; gone = [] } in
      let full : Ruling MoveAnswer = leaving (NoRoom l.active.length (frame_length l.active.format (Relocated (m ∷ ms)))) h l in
      let room : Bool = nat_le (l.active.length + frame_length l.active.format (Relocated (m ∷ ms))) l.room in
      either logs from (has_no_epoch l) (leaving (NoVersion counter.Version) h l) (if room then made else full) shows
      (either logs from room made full (relocate_shows logs l (m ∷ ms) h from (last_number h) shows all) shows)

  relocate_unless-shows : (pass : Pass) (batch : List Candidate)
      → AllByRecursion (IsThere logs pass.segment) batch → (halted : Option FileName)
      → ShowsRuled logs from (relocate_unless halted l h pass batch)
  relocate_unless-shows pass batch there (Some name) = shows
  relocate_unless-shows pass batch there None =
      relocate_of-shows (moved_of (sources l) pass.segment (last_number h) batch)
      (batch_is_shown logs (sources l) shows.meaning pass.segment (last_number h) shows.resolves batch there)

  -- of a batch whose records stand in the logs
  pub relocate_ruling-shows : (pass : Pass) (batch : List Candidate)
      → AllByRecursion (IsThere logs pass.segment) batch
      → ShowsRuled logs from (relocate_ruling l h pass batch)
  relocate_ruling-shows pass batch there = relocate_unless-shows pass batch there l.halted
