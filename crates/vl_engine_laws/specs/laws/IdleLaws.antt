-- A log without frames that stands before the active one is removed, as a sweep does: the disk holds the layout, over a base without
-- that log, and whatever a crash leaves meanwhile shows the history.
use Rattle.std.specs.Prelude.{◌≡◌, ◌≢◌, ◌⊎◌, ◌≤◌, ◌<◌, ◌==◌, ◌&&◌, not, ℕ, ◌+◌, Bool, true, false, if◌then◌else◌, List, [], ◌∷◌}
use Rattle.std.specs.Prelude.{◌++◌, map, Option, None, refl}
use Rattle.std.specs.FinMap.{get}
use Rattle.std.specs.List.{AllByRecursion, filter}
use Rattle.std.proofs.Common.{sym, ap, subst, ◌∙◌, arith, inl, inr, ⊎_elim}
use Rattle.std.proofs.lemmas.Bool.{cases_eq, cases_lt}
use Rattle.std.proofs.lemmas.Bool.Decides.{nat_tests}
use Rattle.vl_disk.specs.Changes.{SameElsewhere, without_elsewhere, without_removed}
use Rattle.vl_disk.specs.Crash.{WhileRemoving, last_file}
use Rattle.vl_disk.specs.DiskState.{DiskState, File, settled, without}
use Rattle.vl_disk.specs.declared.name.Name.TheVariants.{Log}
use Rattle.vl_disk.specs.laws.Lawful.{without_lawful}
use Rattle.vl_disk.specs.laws.NameMap.{get_removed, same_or_other}
use Rattle.vl_engine_laws.specs.Held.{Base, Holds, HoldsBase, HoldsFiles, IsBase}
use Rattle.vl_engine_laws.specs.Pointed.{layout_logs}
use Rattle.vl_engine_laws.specs.Shown.{LeavesBetween}
use Rattle.vl_engine_laws.specs.laws.FileLaws.{all_back, all_each, all_front}
use Rattle.vl_engine_laws.specs.laws.HeldLaws.{held_opens_again, held_shown, needed_shows}
use Rattle.vl_engine_laws.specs.laws.KeptLaws.{AreOtherLogs, base_kept, each_log_kept, manifests_beside_log, tables_beside_log, tables_kept}
use Rattle.vl_engine_model.specs.Sources.{tables}
use Rattle.vl_engine_model.specs.Start.{has_frames, is_any, newest_first}
use Rattle.vl_engine_model.specs.Tidy.{IsTidy}
use Rattle.vl_engine_model.specs.declared.layout.Layout.{Layout}
use Rattle.vl_engine_model.specs.declared.segment.Segment.{Segment}
use Rattle.vl_model.specs.History.{History, last_number}
use Rattle.vl_model.specs.declared.log_frame.LogFrame.{LogFrame}
use Rattle.vl_recover.specs.crash.Held.{HoldsLogs, IsPassedOver, IsSettled, log_as_held}
use Rattle.vl_recover.specs.crash.Starts.{MayOpen}
use Rattle.vl_recover.specs.laws.crash.AlikeLaws.{log_same}
use Rattle.vl_recover.specs.laws.opening.IdleLaws.{AddsNothing, WithIdle, idle_walked, passed_kept}
use Rattle.vl_recover.specs.laws.opening.LeadsLaws.{nowhere_kept}
use Rattle.vl_recover.specs.laws.opening.OpeningLaws.{some_none, some_same}
use Rattle.vl_recover.specs.opening.Walk.{StandingLog}
use Rattle.vl_seglog.specs.Frames.{log_bytes}
use Rattle.vl_seglog.specs.LogReading.{IsLogFormat}

-- ---- what is said of them

-- one of these logs has the number, and no frames
abbrev pub IsIdleAmong : ℕ → List Segment → Type 0
IsIdleAmong m [] = ⊥
IsIdleAmong m (s ∷ ss) = ((s.number ≡ m) × (has_frames s ≡ false)) ⊎ IsIdleAmong m ss

-- so it is of the base's logs before the active one
abbrev pub IsIdleIn : ℕ → Base → Type 0
IsIdleIn m b = IsIdleAmong m b.before

-- the log has another number, or frames
abbrev pub is_left : ℕ → Segment → Bool
is_left m s = not ((s.number == m) && not (has_frames s))

-- the logs without the ones of a number that have no frames
abbrev pub but_idle : ℕ → List Segment → List Segment
but_idle m ss = filter (is_left m) ss

abbrev pub without_idle : ℕ → Base → Base
without_idle m b = record b { before = but_idle m b.before }

-- one that isn't left has the number, and no frames
gone_is : (m : ℕ) (s : Segment) → is_left m s ≡ false → (s.number ≡ m) × (has_frames s ≡ false)
gone_is m s e = by (s.number == m) refl (has_frames s) refl e
  where
    by : (same : Bool) → (s.number == m) ≡ same → (framed : Bool) → has_frames s ≡ framed → not (same && not framed) ≡ false
        → (s.number ≡ m) × (has_frames s ≡ false)
    by true at false none is = (grind (arith, nat_tests, at), none)
    by true at true some is = absurd (let both : true ≡ false = is in cc)
    by false at framed some is = absurd (let both : true ≡ false = is in cc)

kept_beside : (m n : ℕ) (ss : List Segment) → m ≢ n → IsIdleAmong n ss → IsIdleAmong n (but_idle m ss)
kept_beside m n [] apart idle = absurd idle
kept_beside m n (s ∷ ss) apart idle = by (λ rest. kept_beside m n ss apart rest) (is_left m s) refl
  where
    by : (IsIdleAmong n ss → IsIdleAmong n (but_idle m ss)) → (b : Bool) → is_left m s ≡ b
        → IsIdleAmong n (if b then s ∷ but_idle m ss else but_idle m ss)
    by later true left = ⊎_elim
        (λ (here : (s.number ≡ n) × (has_frames s ≡ false)). inl here)
        (λ (rest : IsIdleAmong n ss). inr (later rest))
        idle
    by later false left = ⊎_elim
        (λ (here : (s.number ≡ n) × (has_frames s ≡ false)). absurd (apart (sym (gone_is m s left).0 ∙ here.0)))
        (λ (rest : IsIdleAmong n ss). later rest)
        idle

-- Idle logs of other numbers stay.
pub idle_beside : (m n : ℕ) (b : Base) → m ≢ n → IsIdleIn n b → IsIdleIn n (without_idle m b)
idle_beside m n b apart idle = kept_beside m n b.before apart idle

-- ---- the base without it

filtered_so : (m : ℕ) (ss : List Segment) → filter has_frames (but_idle m ss) ≡ filter has_frames ss
filtered_so m [] = refl
filtered_so m (s ∷ ss) = by (filtered_so m ss) (is_left m s) refl
  where
    drops : has_frames s ≡ false → filter has_frames ss ≡ filter has_frames (s ∷ ss)
    drops none = sym (ap (λ (c : Bool). if c then s ∷ filter has_frames ss else filter has_frames ss) none)

    by : filter has_frames (but_idle m ss) ≡ filter has_frames ss → (b : Bool) → is_left m s ≡ b
        → filter has_frames (if b then s ∷ but_idle m ss else but_idle m ss) ≡ filter has_frames (s ∷ ss)
    by later true left = ap (λ (ts : List Segment). if has_frames s then s ∷ ts else ts) later
    by later false left = later ∙ drops (gone_is m s left).1

-- a log without frames in front of others, of which there is one
idle_front : (q : StandingLog) (xs : List StandingLog) (ss : List Segment) (a : Segment) → AddsNothing q
    → WithIdle xs (map log_as_held (ss ++ a ∷ [])) → WithIdle (q ∷ xs) (map log_as_held (ss ++ a ∷ []))
idle_front q xs [] a nothing rest = inr (nothing, rest)
idle_front q xs (s ∷ ss) a nothing rest = inr (nothing, rest)

no_frames : (s : Segment) → has_frames s ≡ false → s.frames ≡ []
no_frames s none = by s.frames none
  where
    by : (frames : List LogFrame) → is_any frames ≡ false → frames ≡ []
    by [] none = refl
    by (f ∷ fs) none = absurd (let both : true ≡ false = none in cc)

-- the logs are those that are left, and idle ones beside them
with_left : (m : ℕ) (a : Segment) (ss : List Segment)
    → WithIdle (map log_as_held (ss ++ a ∷ [])) (map log_as_held (but_idle m ss ++ a ∷ []))
with_left m a [] = inl (refl, tt)
with_left m a (s ∷ ss) = by (with_left m a ss) (is_left m s) refl
  where
    by : WithIdle (map log_as_held (ss ++ a ∷ [])) (map log_as_held (but_idle m ss ++ a ∷ [])) → (b : Bool) → is_left m s ≡ b
        → WithIdle (map log_as_held (s ∷ ss ++ a ∷ [])) (map log_as_held ((if b then s ∷ but_idle m ss else but_idle m ss) ++ a ∷ []))
    by later true left = inl (refl, later)
    by later false left = idle_front (log_as_held s) (map log_as_held (ss ++ a ∷ [])) (but_idle m ss) a
        (no_frames s (gone_is m s left).1, refl) later

-- The base without idle logs is one of the layout too.
pub idle_base : (m : ℕ) (b : Base) (l : Layout) (h : History) → IsBase b l h → IsBase (without_idle m b) l h
idle_base m b l h base = record {
  numbered = base.numbered;
  made = base.made;
  goes = sym (idle_walked b.state.covered (map log_as_held (b.before ++ l.active ∷ []))
      (map log_as_held (but_idle m b.before ++ l.active ∷ [])) (with_left m l.active b.before)) ∙ base.goes;
  levels = base.levels;
  frozen = base.frozen ∙ ap newest_first (sym (filtered_so m b.before));
  led = base.led;
  keep = base.keep;
  since = base.since;
  gone = base.gone;
  covered = base.covered;
  format = base.format;
  spared = base.spared;
}

-- ---- the logs of a disk

-- each log of that number has no frames
abbrev AreIdle : ℕ → List Segment → Type 0
AreIdle m ss = AllByRecursion (λ (s : Segment). s.number ≡ m → has_frames s ≡ false) ss

module _ (m : ℕ) (a : Segment) (disk : DiskState) where
  -- they rise
  from_least : (ss : List Segment) (least : ℕ) → HoldsLogs least (ss ++ a ∷ []) disk
      → AllByRecursion (λ (s : Segment). least ≤ s.number) ss × (least ≤ a.number)
  from_least [] least holds = (tt, holds.0)
  from_least (s ∷ ss) least (from, between, is_read, have, stands, rest) =
      let later = from_least ss (s.number + 1) rest in (
        (
          from,
          all_each (λ (t : Segment). s.number + 1 ≤ t.number) (λ (t : Segment). least ≤ t.number) ss
              (λ t up. omega (arith, from, up)) later.0,
        ),
        (let up = later.1 in omega (arith, from, up)),
      )

  -- the idle one stands with its header, below the active log, and no other has its number
  idle_there : (ss : List Segment) (least : ℕ) → HoldsLogs least (ss ++ a ∷ []) disk → IsIdleAmong m ss
      → ((format : ℕ) × IsLogFormat format × IsSettled disk (Log m) (log_bytes format m [])) × (least ≤ m) × (m < a.number) × AreIdle m ss
  idle_there [] least holds idle = absurd idle
  idle_there (s ∷ ss) least (from, between, is_read, have, stands, rest) idle =
      ⊎_elim
      (λ (here : (s.number ≡ m) × (has_frames s ≡ false)).
      let at = here.0 in
      let later = from_least ss (s.number + 1) rest in
      let up = later.1 in (
        (
          s.format,
          is_read,
          subst (λ (n : ℕ). IsSettled disk (Log n) (log_bytes s.format n [])) at
              (subst (λ (fs : List LogFrame). IsSettled disk (Log s.number) (log_bytes s.format s.number fs))
              (no_frames s here.1) stands),
        ),
        omega (arith, from, at),
        omega (arith, up, at),
        (
          λ same. here.1,
          all_each (λ (t : Segment). s.number + 1 ≤ t.number) (λ (t : Segment). t.number ≡ m → has_frames t ≡ false) ss
              (λ t over same. absurd (omega (arith, over, same, at))) later.0,
        ),
      ))
      (λ (later : IsIdleAmong m ss).
      let found = idle_there ss (s.number + 1) rest later in
      let up = found.1 in (
        found.0,
        omega (arith, from, up),
        found.2,
        (λ same. absurd (omega (arith, up, same)), found.3),
      ))
      idle

  -- what the disk holds where that log is passed over
  module _ (now : DiskState) (same : SameElsewhere (Log m) disk now) (passed : IsPassedOver now m) where
    passed_now : (k : ℕ) → IsPassedOver disk k → IsPassedOver now k
    passed_now k over = ⊎_elim
        (λ (at : k ≡ m). subst (IsPassedOver now) (sym at) passed)
        (λ (other : k ≢ m). passed_kept (Log m) disk now same k (λ e. other (log_same k m e)) over)
        (cases_eq k m)

    settled_now : (s : Segment) → s.number ≢ m → IsSettled disk (Log s.number) (log_bytes s.format s.number s.frames)
        → IsSettled now (Log s.number) (log_bytes s.format s.number s.frames)
    settled_now s other stands = same.standing (Log s.number) (λ e. other (log_same s.number m e)) ∙ stands

    over_or : (least upto : ℕ) → ((k : ℕ) → least ≤ k → k < upto → IsPassedOver now k) → (top : ℕ)
        → ((k : ℕ) → upto ≤ k → k < top → IsPassedOver now k) → (k : ℕ) → least ≤ k → k < top → IsPassedOver now k
    over_or least upto over top more k above below = ⊎_elim
        (λ (under : k < upto). over k above under)
        (λ (from : upto ≤ k). more k from below)
        (cases_lt k upto)

    -- the logs from a number on are those from a lower one on, where what is between is passed over
    lower : (least upto : ℕ) → least ≤ upto → ((k : ℕ) → least ≤ k → k < upto → IsPassedOver now k) → (ss : List Segment)
        → HoldsLogs upto (ss ++ a ∷ []) now → HoldsLogs least (ss ++ a ∷ []) now
    lower least upto low over [] (from, between, is_read, have, stands, rest) =
        (omega (arith, low, from), over_or least upto over a.number between, is_read, have, stands, rest)
    lower least upto low over (s ∷ ss) (from, between, is_read, have, stands, rest) =
        (omega (arith, low, from), over_or least upto over s.number between, is_read, have, stands, rest)

    logs_now : m < a.number → (ss : List Segment) (least : ℕ) → AreIdle m ss → HoldsLogs least (ss ++ a ∷ []) disk
        → HoldsLogs least (but_idle m ss ++ a ∷ []) now
    logs_now less [] least idle (from, between, is_read, have, stands, rest) = (
      from,
      λ k above below. passed_now k (between k above below),
      is_read,
      have,
      settled_now a (λ e. omega (arith, less, e)) stands,
      λ k above. nowhere_kept (Log m) disk now same (Log k) (λ e. omega (arith, less, above, log_same k m e)) (rest k above),
    )
    logs_now less (s ∷ ss) least idle (from, between, is_read, have, stands, rest) =
        by (logs_now less ss (s.number + 1) idle.1 rest) (is_left m s) refl
      where
        other : is_left m s ≡ true → s.number ≢ m
        other left at =
            let none = idle.0 at in
            let number : (s.number == m) ≡ true = grind (arith, nat_tests, at) in
            absurd (let both : false ≡ true =
            sym (ap (λ (c : Bool). not (c && not (has_frames s))) number ∙ ap (λ (c : Bool). not (true && not c)) none) ∙ left in cc)

        by : HoldsLogs (s.number + 1) (but_idle m ss ++ a ∷ []) now → (b : Bool) → is_left m s ≡ b
            → HoldsLogs least ((if b then s ∷ but_idle m ss else but_idle m ss) ++ a ∷ []) now
        by later true left = (
          from,
          λ k above below. passed_now k (between k above below),
          is_read,
          have,
          settled_now s (other left) stands,
          later,
        )
        by later false left =
            let at = (gone_is m s left).0 in
            lower least (s.number + 1) (omega (arith, from)) (λ k above below. ⊎_elim
            (λ (is : k ≡ m). subst (IsPassedOver now) (sym is) passed)
            (λ (apart : k ≢ m). passed_now k (between k above (omega (arith, below, apart, at))))
            (cases_eq k m)) (but_idle m ss) later

-- ---- it is removed

module _ (m : ℕ) (b : Base) (l : Layout) (h : History) (idle : IsIdleIn m b) (base : IsBase b l h)
    (tidy : IsTidy (layout_logs l) l h) (disk : DiskState) (holds : Holds b l disk) (flushed : AreOtherLogs (Log m) l.flushed) where
  abbrev gone : DiskState
  gone = without (Log m) disk

  same_gone : SameElsewhere (Log m) disk gone
  same_gone = without_elsewhere (Log m) disk

  passed_gone : IsPassedOver gone m
  passed_gone = by (idle_there m l.active disk b.before b.state.head holds.files.logs idle).0
    where
      by : (format : ℕ) × IsLogFormat format × IsSettled disk (Log m) (log_bytes format m []) → IsPassedOver gone m
      by (format, is_read, stands) = record {
        free = get_removed disk.standing (Log m);
        idle = λ file was. (
          format,
          is_read,
          some_same file (settled (log_bytes format m []))
              (sym was ∙ without_removed (Log m) disk
              ∙ ap (λ (o : Option File). last_file o (get disk.removed (Log m))) stands),
        );
      }

  base_gone : HoldsBase (without_idle m b) gone
  base_gone = base_kept (Log m) disk gone same_gone (without_idle m b) (manifests_beside_log b.manifest.number m)
      (record { has = holds.base.has; above = holds.base.above })

  files_gone : HoldsFiles (without_idle m b) l gone
  files_gone =
      let there = idle_there m l.active disk b.before b.state.head holds.files.logs idle in
      record {
        logs = logs_now m l.active disk gone same_gone passed_gone there.2 b.before b.state.head there.3 holds.files.logs;
        tables = tables_kept (Log m) disk gone same_gone (tables l) (tables_beside_log m (tables l)) holds.files.tables;
        flushed = each_log_kept (Log m) disk gone same_gone l.flushed flushed holds.files.flushed;
      }

  -- The disk holds the layout then, over the base without that log,
  pub idle_goes : Holds (without_idle m b) l (without (Log m) disk)
  idle_goes = record {
    base = base_gone;
    files = files_gone;
    durable = λ q file stands. ⊎_elim
        (λ (at : q ≡ Log m). absurd (some_none file (sym (ap (get gone.standing) (sym at) ∙ stands)
        ∙ get_removed disk.standing (Log m))))
        (λ (other : q ≢ Log m). holds.durable q file (sym (same_gone.standing q other) ∙ stands))
        (same_or_other q (Log m));
    lawful = without_lawful disk holds.lawful (Log m);
  }

  -- what a crash leaves meanwhile shows the history,
  pub idle_leaves : (now : DiskState) → WhileRemoving (Log m) disk now → LeavesBetween h h now
  idle_leaves now during = ⊎_elim
      (λ (is : now ≡ disk). subst (LeavesBetween h h) (sym is) (λ image left. (
        last_number h,
        omega arith,
        omega arith,
        held_shown b l h base tidy disk holds image left.left,
      )))
      (λ (is : now ≡ without (Log m) disk). subst (LeavesBetween h h) (sym is) (λ image left. (
        last_number h,
        omega arith,
        omega arith,
        needed_shows (without_idle m b) l h (idle_base m b l h base) tidy gone base_gone files_gone image left.left,
      )))
      during

  -- and a store may be opened on the disk behind it.
  pub idle_opens_again : MayOpen (without (Log m) disk)
  idle_opens_again = held_opens_again (without_idle m b) l h (idle_base m b l h base) gone tidy.levels idle_goes

-- ---- which logs are idle

all_oldest : (P : Segment → Type 0) (ss : List Segment) → AllByRecursion P (newest_first ss) → AllByRecursion P ss
all_oldest P [] all = tt
all_oldest P (s ∷ ss) all =
    ((all_back P (newest_first ss) (s ∷ []) all).0, all_oldest P ss (all_front P (newest_first ss) (s ∷ []) all))

idle_among : (m : ℕ) (a : Segment) (disk : DiskState) → get disk.standing (Log m) ≢ None → m ≢ a.number
    → (ss : List Segment) (least : ℕ) → HoldsLogs least (ss ++ a ∷ []) disk → least ≤ m
    → AreOtherLogs (Log m) (filter has_frames ss) → IsIdleAmong m ss
idle_among m a disk stands_m active [] least (from, between, is_read, have, stands, rest) up others = ⊎_elim
    (λ (less : m < a.number). absurd (stands_m (between m up less).free))
    (λ (above : a.number ≤ m). absurd (stands_m (rest m (omega (arith, above, active))).free))
    (cases_lt m a.number)
idle_among m a disk stands_m active (s ∷ ss) least (from, between, is_read, have, stands, rest) up others =
    by (λ above framed. idle_among m a disk stands_m active ss (s.number + 1) rest above framed) (has_frames s) refl others
  where
    by : (s.number + 1 ≤ m → AreOtherLogs (Log m) (filter has_frames ss) → IsIdleAmong m ss) → (b : Bool) → has_frames s ≡ b
        → AreOtherLogs (Log m) (if b then s ∷ filter has_frames ss else filter has_frames ss) → IsIdleAmong m (s ∷ ss)
    by later b framed apart = ⊎_elim
        (λ (less : m < s.number). absurd (stands_m (between m up less).free))
        (λ (above : s.number ≤ m). ⊎_elim
        (λ (more : s.number < m). inr (later (omega (arith, more)) (rest_of b apart)))
        (λ (below : m ≤ s.number). let at : s.number ≡ m = omega (arith, above, below) in at_one b framed apart at)
        (cases_lt s.number m))
        (cases_lt m s.number)
      where
        rest_of : (c : Bool) → AreOtherLogs (Log m) (if c then s ∷ filter has_frames ss else filter has_frames ss)
            → AreOtherLogs (Log m) (filter has_frames ss)
        rest_of true all = all.1
        rest_of false all = all

        at_one : (c : Bool) → has_frames s ≡ c → AreOtherLogs (Log m) (if c then s ∷ filter has_frames ss else filter has_frames ss)
            → s.number ≡ m → IsIdleAmong m (s ∷ ss)
        at_one true some all at = absurd (all.0 (ap (λ (n : ℕ). Log n) at))
        at_one false none all at = inl (at, none)

-- A log from the manifest's head on that stands, and is neither the active one nor frozen, is one of those.
pub idle_or_held : (m : ℕ) (b : Base) (l : Layout) (h : History) → IsBase b l h → (disk : DiskState) → Holds b l disk
    → b.state.head ≤ m → get disk.standing (Log m) ≢ None → m ≢ l.active.number → AreOtherLogs (Log m) l.frozen → IsIdleIn m b
idle_or_held m b l h base disk holds up stands active others =
    idle_among m l.active disk stands active b.before b.state.head holds.files.logs up
    (all_oldest (λ (s : Segment). Log s.number ≢ Log m) (filter has_frames b.before)
    (subst (AreOtherLogs (Log m)) base.frozen others))
