-- The store that an opening leaves opens as what the opening found.
use Rattle.std.specs.Prelude.{◌≡◌, ℕ, Bool, true, false, if◌then◌else◌, List, [], ◌∷◌, ◌++◌, map, Option, None, Some, Result, Ok, Err, refl}
use Rattle.std.proofs.Common.{arith, sym, ap, subst, ◌∙◌}
use Rattle.std.proofs.lemmas.List.{append-nil}
use Rattle.vl_disk.specs.Crash.{Image}
use Rattle.vl_engine_model.specs.Logs.{new_segment}
use Rattle.vl_model.specs.Formats.{log_format}
use Rattle.vl_model.specs.declared.log_frame.LogFrame.{LogFrame}
use Rattle.vl_seglog.specs.Frames.{frames_end}
use Rattle.vl_engine_model.specs.declared.segment.Segment.{Segment}
use Rattle.vl_recover.specs.crash.Alike.{ShowsAs}
use Rattle.vl_recover.specs.laws.opening.ContentLaws.{walk_more}
use Rattle.vl_recover.specs.opening.Answers.{Finds, and_made, as_segments, last_format, logs_then}
use Rattle.vl_recover.specs.crash.Held.{GoOn, log_as_held, opening_held, view_of}
use Rattle.vl_recover.specs.opening.Opening.{Opening}
use Rattle.vl_recover.specs.laws.opening.OpeningLaws.{IsOpened, one_standing, opened}
use Rattle.vl_recover.specs.opening.Plans.{log_made, new_state}
use Rattle.vl_recover.specs.laws.repairing.StageLaws.{err_ok, ok_apart, ok_with}
use Rattle.vl_recover.specs.opening.Stages.{on_ok}
use Rattle.vl_recover.specs.opening.Walk.{StandingLog, content_end, counted, counted_behind, counted_whole, filled}
use Rattle.vl_recover.specs.opening.Walk.{format_of, in_log, walked, walked_on, with_frames}
use Rattle.vl_seglog.specs.LogReading.{LogReading}

-- ---- logs that are made whole

abbrev all_repaired : List StandingLog → List StandingLog
all_repaired logs = map log_as_held (as_segments logs)

-- what counts whole counts when it is made so
log_kept : (log n m : ℕ) (r : LogReading) → in_log log (counted_whole n r) ≡ Ok m
    → in_log log (counted_whole n (record { header = Some (format_of r.header); frames = r.frames; whole = true })) ≡ Ok m
log_kept log n m r e = by (counted_behind r.header n r.frames) r.whole e
  where
    by : (w : Result ℕ ℕ) (whole : Bool)
        → in_log log (on_ok (λ k. if whole then Ok k else Err (content_end r)) w) ≡ Ok m
        → in_log log (on_ok (λ k. if true then Ok k else Err (frames_end (format_of r.header) r.frames)) w) ≡ Ok m
    by (Ok k) true is = is
    by (Ok k) false is = absurd (err_ok (record { log = log; place = content_end r }) m is)
    by (Err place) whole is = absurd (err_ok (record { log = log; place = place }) m is)

-- in the format that the last log has then its frames count as they did
last_counts : (header : Option ℕ) (n : ℕ) (frames : List LogFrame)
    → counted (last_format header frames) n 16 frames ≡ counted_behind header n frames
last_counts header n [] = refl
last_counts header n (f ∷ fs) = refl

-- repaired logs go on as they did
walk_kept : (n number : ℕ) (logs : List StandingLog) → walked n logs ≡ Ok number
    → walked n (all_repaired logs) ≡ Ok number
walk_kept n number [] e = e
walk_kept n number (q ∷ []) e =
    ap (in_log q.number) (last_counts q.reading.header n q.reading.frames) ∙ e
walk_kept n number (q ∷ p ∷ logs) e =
    let first = in_log q.number (counted_whole n q.reading) in
    let (m, is, rest) = ok_apart (λ m. walked_on m p logs) first number e in
    goes p logs (log_kept q.number n m q.reading is) (walk_kept m number (p ∷ logs) rest)
  where
    goes : (p : StandingLog) (logs : List StandingLog) {m : ℕ}
        → in_log q.number (counted_whole n (record {
          header = Some (format_of q.reading.header);
          frames = q.reading.frames;
          whole = true;
        })) ≡ Ok m
        → walked m (all_repaired (p ∷ logs)) ≡ Ok number
        → walked n (all_repaired (q ∷ p ∷ logs)) ≡ Ok number
    goes p [] {m} is rest =
        ap (on_ok (λ m. walked m (all_repaired (p ∷ [])))) is ∙ rest
    goes p (r ∷ rs) {m} is rest =
        ap (on_ok (λ m. walked m (all_repaired (p ∷ r ∷ rs)))) is ∙ rest

filled_kept : (logs : List StandingLog) → filled (all_repaired logs) ≡ filled logs
filled_kept [] = refl
filled_kept (q ∷ []) = by q.reading.frames
  where
    by : (frames : List LogFrame)
        → with_frames q.number (Some (last_format q.reading.header frames)) frames [] ≡ with_frames q.number q.reading.header frames []
    by [] = refl
    by (f ∷ fs) = refl
filled_kept (q ∷ p ∷ logs) = by q.reading.frames (filled_kept (p ∷ logs))
  where
    by : (frames : List LogFrame) → filled (all_repaired (p ∷ logs)) ≡ filled (p ∷ logs)
        → with_frames q.number (Some (format_of q.reading.header)) frames (filled (all_repaired (p ∷ logs)))
        ≡ with_frames q.number q.reading.header frames (filled (p ∷ logs))
    by [] rest = rest
    by (f ∷ fs) rest = ap (λ (ss : List Segment). new_segment (format_of q.reading.header) q.number (f ∷ fs) ∷ ss) rest

-- ---- and one without frames behind them

walk_empty : (k n number : ℕ) (logs : List Segment) → walked n (map log_as_held logs) ≡ Ok number
    → walked n (map log_as_held (logs ++ new_segment log_format k [] ∷ [])) ≡ Ok number
walk_empty k n number [] e = e
walk_empty k n number (s ∷ []) e = walk_more k n number s.number (log_as_held s).reading
    (log_as_held (new_segment log_format k [])).reading refl refl e
walk_empty k n number (s ∷ t ∷ logs) e =
    ok_with (λ m. walked m (map log_as_held (t ∷ logs)))
    (λ m. walked m (map log_as_held (t ∷ logs ++ new_segment log_format k [] ∷ []))) number number
    (λ m. walk_empty k m number (t ∷ logs)) (in_log s.number (counted_whole n (log_as_held s).reading)) e

filled_empty : (k : ℕ) (logs : List Segment)
    → filled (map log_as_held (logs ++ new_segment log_format k [] ∷ [])) ≡ filled (map log_as_held logs)
filled_empty k [] = refl
filled_empty k (s ∷ logs) = ap (with_frames s.number (Some s.format) s.frames) (filled_empty k logs)

walk_made : (made : Option ℕ) (n number : ℕ) (logs : List Segment) → walked n (map log_as_held logs) ≡ Ok number
    → walked n (map log_as_held (logs ++ and_made made)) ≡ Ok number
walk_made None n number logs e =
    subst (λ (l : List Segment). walked n (map log_as_held l) ≡ Ok number) (sym (append-nil logs)) e
walk_made (Some k) n number logs e = walk_empty k n number logs e

filled_made : (made : Option ℕ) (logs : List Segment)
    → filled (map log_as_held (logs ++ and_made made)) ≡ filled (map log_as_held logs)
filled_made None logs = ap (λ (l : List Segment). filled (map log_as_held l)) (append-nil logs)
filled_made (Some k) logs = filled_empty k logs

-- ---- what the opening leaves

-- of what an opening found in an image
module _ {image : Image} (found : Finds image) where
  abbrev o : Opening
  o = found.opening

  abbrev made : Option ℕ
  made = log_made (new_state found.greatest o.state) found.logs

  is_opened : IsOpened image o
  is_opened = opened image o found.opens

  same_logs : is_opened.standing ≡ found.logs
  same_logs = one_standing image o.state.head is_opened.standing found.logs is_opened.stands found.standing

  -- The logs that stand then go on to the number that was found.
  pub found_goes_on : GoOn o.state.covered (logs_then found) o.number
  found_goes_on =
      walk_made made o.state.covered o.number (as_segments found.logs)
      (walk_kept o.state.covered o.number found.logs
      (subst (λ (l : List StandingLog). walked o.state.covered l ≡ Ok o.number) same_logs is_opened.walk))

  -- They show what was found.
  pub found_shows : ShowsAs (opening_held (new_state found.greatest o.state) (view_of found) (logs_then found) o.number) o
  found_shows = record {
    state = record { levels = refl; head = refl; covered = refl; keep = refl; since = refl; gone = omega arith };
    levels = refl;
    logs = filled_made made (as_segments found.logs) ∙ filled_kept found.logs ∙ ap filled (sym same_logs)
        ∙ sym is_opened.logs_are;
    number = refl;
  }
