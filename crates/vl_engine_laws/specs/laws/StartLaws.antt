-- The logs from head on that an opening leaves: they rise, but for the active one they are as reads give them, and those with
-- frames are the ones that it found.
use Rattle.std.specs.Prelude.{◌≡◌, ◌≢◌, ◌<◌, ◌≤◌, ℕ, ◌+◌, max, Bool, true, false, not, ◌==◌, List, [], ◌∷◌, ◌++◌, map}
use Rattle.std.specs.Prelude.{Option, None, Some, refl}
use Rattle.std.specs.FinMap.{get}
use Rattle.std.specs.List.{AllByRecursion, filter}
use Rattle.std.proofs.Common.{sym, ap, subst, ◌∙◌, append-nil, append_assoc, cond, arith, ⊎_elim}
use Rattle.std.proofs.lemmas.Bool.{cases_lt}
use Rattle.std.proofs.lemmas.Bool.Decides.{nat_tests}
use Rattle.std.proofs.lemmas.List.Elements.{filter-append}
use Rattle.vl_disk.specs.Crash.{Image}
use Rattle.vl_disk.specs.declared.name.Name.{Name}
use Rattle.vl_disk.specs.declared.name.Name.TheVariants.{Log}
use Rattle.vl_engine_laws.specs.laws.LogEntries.{filled-filtered}
use Rattle.vl_engine_model.specs.Jobs.{AreDistinct}
use Rattle.vl_engine_model.specs.Logs.{new_segment}
use Rattle.vl_engine_model.specs.Rising.{IsRising}
use Rattle.vl_engine_model.specs.Start.{has_frames, is_any, newest_first, number_of_log}
use Rattle.vl_engine_model.specs.Tidy.{IsTrueLog, log_numbers}
use Rattle.vl_engine_model.specs.declared.segment.Segment.{Segment}
use Rattle.vl_engine_model_laws.specs.laws.Files.{all_both, all_filtered, all_parts, all_weaker, neither, or_false}
use Rattle.vl_manifest.specs.declared.state.ManifestState.{ManifestState}
use Rattle.vl_model.specs.Formats.{log_format}
use Rattle.vl_model.specs.Numbers.{has}
use Rattle.vl_model.specs.declared.log_frame.LogFrame.{LogFrame}
use Rattle.vl_recover.specs.crash.Held.{log_as_held}
use Rattle.vl_recover.specs.laws.opening.OpeningLaws.{some_none, some_same}
use Rattle.vl_recover.specs.laws.repairing.RecoveredLaws.{found_shows}
use Rattle.vl_recover.specs.opening.Answers.{Finds, and_made, as_segments, last_format, logs_then}
use Rattle.vl_recover.specs.opening.HeldFiles.{but_last}
use Rattle.vl_recover.specs.opening.Opening.{StandingLogs}
use Rattle.vl_recover.specs.opening.Plans.{active_log, active_of, last_number as last_log, log_behind, log_made, new_state}
use Rattle.vl_recover.specs.opening.Walk.{StandingLog, filled, format_of}
use Rattle.vl_seglog.specs.LogReading.{LogReading, ReadsLog}

-- ---- logs that rise

rising_end : (ss : List Segment) (last : Segment) → IsRising number_of_log ss
    → AllByRecursion (λ (s : Segment). s.number < last.number) ss → IsRising number_of_log (ss ++ last ∷ [])
rising_end [] last rising below = (tt, tt)
rising_end (s ∷ ss) last rising below = (
  all_both (λ (t : Segment). s.number < t.number) ss (last ∷ []) rising.0 (below.0, tt),
  rising_end ss last rising.1 below.1,
)

rising_before : (ss : List Segment) (last : Segment) → IsRising number_of_log (ss ++ last ∷ [])
    → IsRising number_of_log ss × AllByRecursion (λ (s : Segment). s.number < last.number) ss
rising_before [] last rising = (tt, tt)
rising_before (s ∷ ss) last rising =
    let parts = all_parts (λ (t : Segment). s.number < t.number) ss (last ∷ []) rising.0 in
    let later = rising_before ss last rising.1 in
    ((parts.0, later.0), (parts.1.0, later.1))

-- ---- numbers

pub other_number : (n : ℕ) (ss : List Segment) → AllByRecursion (λ (s : Segment). s.number ≢ n) ss
    → has n (log_numbers ss) ≡ false
other_number n [] all = refl
other_number n (s ∷ ss) all =
    let apart : (s.number == n) ≡ false = let other = all.0 in grind (arith, nat_tests, other) in
    neither (s.number == n) (has n (log_numbers ss)) apart (other_number n ss all.1)

other_between : (n : ℕ) (xs ys : List Segment) (s : Segment) → s.number ≢ n → has n (log_numbers (xs ++ ys)) ≡ false
    → has n (log_numbers (xs ++ s ∷ ys)) ≡ false
other_between n [] ys s other none =
    let apart : (s.number == n) ≡ false = grind (arith, nat_tests, other) in
    neither (s.number == n) (has n (log_numbers ys)) apart none
other_between n (x ∷ xs) ys s other none =
    let parts = or_false (x.number == n) (has n (log_numbers (xs ++ ys))) none in
    neither (x.number == n) (has n (log_numbers (xs ++ s ∷ ys))) parts.0 (other_between n xs ys s other parts.1)

-- the log has another number
abbrev Other : Segment → Segment → Type 0
Other s t = t.number ≢ s.number

-- one more, whose number none of the others has
distinct_between : (xs ys : List Segment) (s : Segment) → AllByRecursion (Other s) xs → AllByRecursion (Other s) ys
    → AreDistinct (log_numbers (xs ++ ys)) → AreDistinct (log_numbers (xs ++ s ∷ ys))
distinct_between [] ys s above below distinct = (other_number s.number ys below, distinct)
distinct_between (x ∷ xs) ys s above below distinct = (
  other_between x.number xs ys s (λ same. above.0 (sym same)) distinct.0,
  distinct_between xs ys s above.1 below distinct.1,
)

-- ---- the logs from the newest on, those with frames and the others

pub all_newest : (P : Segment → Type 0) (ss : List Segment) → AllByRecursion P ss → AllByRecursion P (newest_first ss)
all_newest P [] all = tt
all_newest P (s ∷ ss) all = all_both P (newest_first ss) (s ∷ []) (all_newest P ss all.1) (all.0, tt)

abbrev pub with_some : List Segment → List Segment
with_some ss = newest_first (filter has_frames ss)

abbrev pub without_any : List Segment → List Segment
without_any ss = filter (λ (s : Segment). not (has_frames s)) ss

-- what is so of all of them, and of others
pub each_sealed : (P : Segment → Type 0) (ss others : List Segment) → AllByRecursion P ss → AllByRecursion P others
    → AllByRecursion P (with_some ss ++ (without_any ss ++ others))
each_sealed P ss others all more =
    all_both P (with_some ss) (without_any ss ++ others)
    (all_newest P (filter has_frames ss) (all_filtered P has_frames ss all))
    (all_both P (without_any ss) others (all_filtered P (λ (t : Segment). not (has_frames t)) ss all) more)

-- They have numbers of their own beside others that have.
pub distinct_sealed : (ss others : List Segment) → IsRising number_of_log ss
    → AllByRecursion (λ (s : Segment). AllByRecursion (λ (t : Segment). t.number ≢ s.number) others) ss
    → AreDistinct (log_numbers others) → AreDistinct (log_numbers (with_some ss ++ (without_any ss ++ others)))
distinct_sealed [] others rising apart distinct = distinct
distinct_sealed (s ∷ ss) others rising apart distinct =
    by (has_frames s)
    (distinct_between (with_some ss) (without_any ss ++ others) s
    (all_newest (Other s) (filter has_frames ss) (all_filtered (Other s) has_frames ss later))
    (all_both (Other s) (without_any ss) others (all_filtered (Other s) (λ (t : Segment). not (has_frames t)) ss later) apart.0)
    (distinct_sealed ss others rising.1 apart.1 distinct))
  where
    later : AllByRecursion (Other s) ss
    later = all_weaker (λ (t : Segment). s.number < t.number) (Other s) (λ t less same. absurd (omega (arith, less, same))) ss
        rising.0

    by : (b : Bool) → AreDistinct (log_numbers (with_some ss ++ s ∷ (without_any ss ++ others)))
        → AreDistinct (log_numbers (newest_first (cond b (s ∷ filter has_frames ss) (filter has_frames ss))
        ++ (cond (not b) (s ∷ without_any ss) (without_any ss) ++ others)))
    by true one_more = subst (λ (ts : List Segment). AreDistinct (log_numbers ts))
        (sym (append_assoc (with_some ss) (s ∷ []) (without_any ss ++ others))) one_more
    by false one_more = one_more

-- the oldest first again
pub newest_twice : (ss : List Segment) → newest_first (newest_first ss) ≡ ss
newest_twice [] = refl
newest_twice (s ∷ ss) = at_end (newest_first ss) ∙ ap (λ (ts : List Segment). s ∷ ts) (newest_twice ss)
  where
    at_end : (ts : List Segment) → newest_first (ts ++ s ∷ []) ≡ s ∷ newest_first ts
    at_end [] = refl
    at_end (t ∷ ts) = ap (λ (us : List Segment). us ++ t ∷ []) (at_end ts)

-- ---- what an opening found

segments_true : (logs : List StandingLog) → AllByRecursion IsTrueLog (as_segments logs)
segments_true [] = tt
segments_true (q ∷ []) = (refl, tt)
segments_true (q ∷ p ∷ ps) = (refl, segments_true (p ∷ ps))

made_true : (made : Option ℕ) → AllByRecursion IsTrueLog (and_made made)
made_true None = tt
made_true (Some number) = (refl, tt)

but_last-front : (ss : List Segment) (s : Segment) → but_last (ss ++ s ∷ []) ≡ ss
but_last-front [] s = refl
but_last-front (t ∷ []) s = refl
but_last-front (t ∷ u ∷ ss) s = ap (λ (ts : List Segment). t ∷ ts) (but_last-front (u ∷ ss) s)

all_but_last : (P : Segment → Type 0) (ss : List Segment) → AllByRecursion P ss → AllByRecursion P (but_last ss)
all_but_last P [] all = tt
all_but_last P (s ∷ []) all = tt
all_but_last P (s ∷ t ∷ ss) all = (all.0, all_but_last P (t ∷ ss) all.1)

all_before : (P : Segment → Type 0) (ss : List Segment) (made : Option ℕ) → AllByRecursion P ss
    → AllByRecursion P (but_last (ss ++ and_made made))
all_before P ss None all = subst (λ (ts : List Segment). AllByRecursion P (but_last ts)) (sym (append-nil ss)) (all_but_last P ss all)
all_before P ss (Some k) all = subst (AllByRecursion P) (sym (but_last-front ss (new_segment log_format k []))) all

-- the log that takes commits is the last one, and has no frames
ends : (state : ManifestState) (none : ℕ) (logs : List StandingLog) → log_made state logs ≡ None
    → (before : List Segment) × (as_segments logs ≡ before ++ new_segment log_format (last_log none logs) [] ∷ [])
ends state none [] is = absurd cc
ends state none (q ∷ []) is = (
  [],
  ap (λ (fs : List LogFrame). new_segment (last_format q.reading.header fs) q.number fs ∷ [])
      (by q.reading.frames is),
)
  where
    by : (frames : List LogFrame) → log_behind state frames ≡ None → frames ≡ []
    by [] e = refl
    by (f ∷ fs) e = absurd cc
ends state none (q ∷ p ∷ ps) is =
    let (before, rest) = ends state q.number (p ∷ ps) is in
    let first : Segment = new_segment (format_of q.reading.header) q.number q.reading.frames in
    (first ∷ before, ap (λ (ss : List Segment). first ∷ ss) rest)

-- logs that stand rise, and so do they as they are left
segments_rise : (image : Image) (least : ℕ) (logs : List StandingLog) → StandingLogs image least logs
    → AllByRecursion (λ (s : Segment). least ≤ s.number) (as_segments logs) × IsRising number_of_log (as_segments logs)
segments_rise image least [] standing = (tt, tt)
segments_rise image least (q ∷ []) standing = ((standing.0.from, tt), (tt, tt))
segments_rise image least (q ∷ p ∷ ps) standing =
    let later = segments_rise image (q.number + 1) (p ∷ ps) standing.1 in
    let from = standing.0.from in (
      (
        from,
        all_weaker (λ (s : Segment). q.number + 1 ≤ s.number) (λ (s : Segment). least ≤ s.number)
            (λ s above. omega (arith, from, above)) (as_segments (p ∷ ps)) later.0,
      ),
      (
        all_weaker (λ (s : Segment). q.number + 1 ≤ s.number) (λ (s : Segment). q.number < s.number)
            (λ s above. omega (arith, above)) (as_segments (p ∷ ps)) later.0,
        later.1,
      ),
    )

-- What stands has at most the greatest number of its kind.
pub not_above : (image : Image) (kind : ℕ → Name) (greatest : ℕ) → ((m : ℕ) → greatest < m → get image (kind m) ≡ None)
    → (number : ℕ) (bytes : List ℕ) → get image (kind number) ≡ Some bytes → number ≤ greatest
not_above image kind greatest none number bytes stands = ⊎_elim
    (λ (above : greatest < number). absurd (some_none bytes (sym stands ∙ none number above)))
    (λ (up : number ≤ greatest). up)
    (cases_lt greatest number)

-- The log stands with these frames at its front; where it has some, in this format.
pub record IsAsRead (image : Image) (s : Segment) : Type 0 where
  pub bytes : List ℕ
  pub stands : get image (Log s.number) ≡ Some bytes
  pub reading : LogReading
  pub reads : ReadsLog s.number bytes reading
  pub frames : reading.frames ≡ s.frames
  pub format : has_frames s ≡ true → format_of reading.header ≡ s.format

last_framed : (header : Option ℕ) (frames : List LogFrame) → is_any frames ≡ true → format_of header ≡ last_format header frames
last_framed header [] some = absurd (let both : false ≡ true = some in cc)
last_framed header (f ∷ fs) some = refl

segments_read : (image : Image) (least : ℕ) (logs : List StandingLog) → StandingLogs image least logs
    → AllByRecursion (IsAsRead image) (as_segments logs)
segments_read image least [] standing = tt
segments_read image least (q ∷ []) standing =
    let next = standing.0 in (
      record {
        bytes = next.bytes;
        stands = next.stands;
        reading = q.reading;
        reads = next.reads;
        frames = refl;
        format = last_framed q.reading.header q.reading.frames;
      },
      tt,
    )
segments_read image least (q ∷ p ∷ ps) standing =
    let next = standing.0 in (
      record {
        bytes = next.bytes;
        stands = next.stands;
        reading = q.reading;
        reads = next.reads;
        frames = refl;
        format = λ some. refl;
      },
      segments_read image (q.number + 1) (p ∷ ps) standing.1,
    )

-- a log that is made behind others has the next number
made_next : (state : ManifestState) (q : StandingLog) (qs : List StandingLog) (k : ℕ) → log_made state (q ∷ qs) ≡ Some k
    → k ≡ state.next_log
made_next state q [] k is = by q.reading.frames is
  where
    by : (frames : List LogFrame) → log_behind state frames ≡ Some k → k ≡ state.next_log
    by [] e = absurd cc
    by (f ∷ fs) e = cc
made_next state q (p ∷ ps) k is = made_next state p ps k is

module _ {read : Image} (found : Finds read) where
  abbrev its_state : ManifestState
  its_state = new_state found.greatest found.opening.state

  abbrev active_then : ℕ
  active_then = active_log found.greatest found.opening.state found.logs

  abbrev before_then : List Segment
  before_then = but_last (logs_then found)

  abbrev active_segment : Segment
  active_segment = new_segment log_format (active_log found.greatest found.opening.state found.logs) []

  stands_last : (made : Option ℕ) → log_made its_state found.logs ≡ made
      → (before : List Segment)
      × (as_segments found.logs ++ and_made made ≡ before ++ new_segment log_format (active_of made found.logs) [] ∷ [])
  stands_last None none =
      let (before, rest) = ends its_state 0 found.logs none in
      (before, append-nil (as_segments found.logs) ∙ rest)
  stands_last (Some k) made = (as_segments found.logs, refl)

  -- The active log is the last of those that stand then.
  pub logs_end : logs_then found ≡ but_last (logs_then found)
      ++ new_segment log_format (active_log found.greatest found.opening.state found.logs) [] ∷ []
  logs_end =
      let (before, is) = stands_last (log_made its_state found.logs) refl in
      let front : before_then ≡ before = ap (λ (ss : List Segment). but_last ss) is ∙ but_last-front before active_segment in
      is ∙ ap (λ (ss : List Segment). ss ++ active_segment ∷ []) (sym front)

  -- Those before it are as they are read,
  pub before_read : AllByRecursion (IsAsRead read) (but_last (logs_then found))
  before_read = all_before (IsAsRead read) (as_segments found.logs) (log_made its_state found.logs)
      (segments_read read found.opening.state.head found.logs found.standing)

  -- stand from head on,
  pub before_from : AllByRecursion (λ (s : Segment). found.opening.state.head ≤ s.number) (but_last (logs_then found))
  before_from = all_before (λ (s : Segment). found.opening.state.head ≤ s.number) (as_segments found.logs)
      (log_made its_state found.logs) (segments_rise read found.opening.state.head found.logs found.standing).0

  -- have the lengths of their frames,
  pub before_true : AllByRecursion IsTrueLog (but_last (logs_then found))
  before_true = all_before IsTrueLog (as_segments found.logs) (log_made its_state found.logs) (segments_true found.logs)

  -- and those with frames are the ones that were found.
  pub before_found : filter has_frames (but_last (logs_then found)) ≡ found.opening.logs
  before_found =
      sym (append-nil (filter has_frames before_then))
      ∙ sym (filter-append has_frames before_then (active_segment ∷ []))
      ∙ sym (filled-filtered (before_then ++ active_segment ∷ [])
      (all_both IsTrueLog before_then (active_segment ∷ []) before_true (refl, tt)))
      ∙ ap (λ (ss : List Segment). filled (map log_as_held ss)) (sym logs_end)
      ∙ (found_shows found).logs

  logs_rise : IsRising number_of_log (logs_then found)
  logs_rise = by (log_made its_state found.logs) refl
    where
      rise : IsRising number_of_log (as_segments found.logs)
      rise = (segments_rise read found.opening.state.head found.logs found.standing).1

      below : (k : ℕ) (logs : List StandingLog) → StandingLogs read found.opening.state.head logs
          → log_made its_state logs ≡ Some k → AllByRecursion (λ (s : Segment). s.number < k) (as_segments logs)
      below k [] standing is = tt
      below k (q ∷ qs) standing is =
          let next = made_next its_state q qs k is in
          all_weaker (IsAsRead read) (λ (s : Segment). s.number < k)
          (λ s here. let up = not_above read Log found.greatest.log found.are_greatest.log.none_above s.number here.bytes here.stands in
          omega (arith, up, next)) (as_segments (q ∷ qs))
          (segments_read read found.opening.state.head (q ∷ qs) standing)

      by : (made : Option ℕ) → log_made its_state found.logs ≡ made
          → IsRising number_of_log (as_segments found.logs ++ and_made made)
      by None is = subst (IsRising number_of_log) (sym (append-nil (as_segments found.logs))) rise
      by (Some k) is =
          rising_end (as_segments found.logs) (new_segment log_format k []) rise (below k found.logs found.standing is)

  -- They rise up to the active one.
  pub before_rise : IsRising number_of_log (but_last (logs_then found))
      × AllByRecursion (λ (s : Segment). s.number < active_log found.greatest found.opening.state found.logs)
      (but_last (logs_then found))
  before_rise = rising_before before_then active_segment (subst (IsRising number_of_log) logs_end logs_rise)

  made_from : (logs : List StandingLog) → StandingLogs read found.opening.state.head logs → (k : ℕ) → log_made its_state logs ≡ Some k
      → found.opening.state.head ≤ k
  made_from [] standing k is =
      let same : max its_state.head its_state.next_log ≡ k = some_same (max its_state.head its_state.next_log) k is in
      omega (arith, same)
  made_from (q ∷ qs) standing k is =
      let next = made_next its_state q qs k is in
      let here = standing.0 in
      let up = not_above read Log found.greatest.log found.are_greatest.log.none_above q.number here.bytes here.stands in
      omega (arith, next, up, here.from)

  -- It isn't below head either.
  pub active_from : found.opening.state.head ≤ active_log found.greatest found.opening.state found.logs
  active_from = (all_parts From before_then (active_segment ∷ []) (subst (AllByRecursion From) logs_end
      (all_both From (as_segments found.logs) (and_made (log_made its_state found.logs))
      (segments_rise read found.opening.state.head found.logs found.standing).0 (by (log_made its_state found.logs) refl)))).1.0
    where
      From : Segment → Type 0
      From s = found.opening.state.head ≤ s.number

      by : (made : Option ℕ) → log_made its_state found.logs ≡ made → AllByRecursion From (and_made made)
      by None is = tt
      by (Some k) is = (made_from found.logs found.standing k is, tt)
