-- Logs with frames wait for their flush, each by the commits that are counted behind it.
use Rattle.std.proofs.Common.{◌≡◌, ℕ, ◌+◌, max, Bool, true, false, List, [], ◌∷◌, ◌++◌, refl, sym, ap, ◌∙◌, subst, arith}
use Rattle.std.specs.Prelude.{◌==◌, if◌then◌else◌, Result, Ok, Err}
use Rattle.std.proofs.lemmas.List.{append-nil}
use Rattle.vl_engine_model.specs.Logs.{new_segment}
use Rattle.vl_engine_model.specs.Rulings.Flush.{covered_by}
use Rattle.vl_engine_model.specs.declared.segment.Segment.{Segment}
use Rattle.vl_manifest.specs.declared.waiting.Waiting.{Waiting}
use Rattle.vl_model.specs.Frames.{frame_length}
use Rattle.vl_model.specs.declared.log_frame.LogFrame.{LogFrame}
use Rattle.vl_model.specs.declared.log_frame.LogFrame.TheVariants.{Committed, Relocated}
use Rattle.vl_recover.specs.laws.repairing.LastLaws.{number_same}
use Rattle.vl_recover.specs.laws.repairing.StageLaws.{err_ok, ok_apart, ok_same}
use Rattle.vl_recover.specs.opening.Counting.{counted_log, walked_before}
use Rattle.vl_recover.specs.opening.HeldFiles.{AreWaiting}
use Rattle.vl_recover.specs.opening.LogsSoFar.{waits_with}
use Rattle.vl_recover.specs.opening.Stages.{on_ok}
use Rattle.vl_recover.specs.opening.Walk.{LogDamage, StandingLog, content_end, counted, counted_behind, counted_whole}
use Rattle.vl_recover.specs.opening.Walk.{filled, format_of, in_log, with_frames}
use Rattle.vl_seglog.specs.LogReading.{LogReading}

-- ---- what is counted is covered

-- the greatest number behind these logs
abbrev pub covered_behind : ℕ → List Segment → ℕ
covered_behind covered [] = covered
covered_behind covered (s ∷ ss) = covered_behind (covered_by s.frames covered) ss

-- frames that count up to a number cover the commits up to it
pub counted_covers : (format n place m : ℕ) (frames : List LogFrame) → counted format n place frames ≡ Ok m → covered_by frames n ≡ m
counted_covers format n place m [] e = ok_same {E = ℕ} n m e
counted_covers format n place m (Relocated records ∷ fs) e = counted_covers format n (place + frame_length format (Relocated records)) m
    fs e
counted_covers format n place m (Committed number writes ∷ fs) e =
    by (counted_covers format number (place + frame_length format (Committed number writes)) m fs) (number == n + 1) refl e
  where
    by : (counted format number (place + frame_length format (Committed number writes)) fs ≡ Ok m → covered_by fs number ≡ m)
        → (b : Bool) → (number == n + 1) ≡ b
        → on_ok (λ m. counted format m (place + frame_length format (Committed number writes)) fs)
        (if b then Ok number else Err place) ≡ Ok m
        → covered_by fs (max n number) ≡ m
    by rest true is up =
        let next = number_same number (n + 1) is in
        let same : max n number ≡ number = omega (arith, next) in
        ap (λ (k : ℕ). covered_by fs k) same ∙ rest up
    by rest false is up = absurd (err_ok place m up)

-- what a log's place in the walk gives is what its frames count
in_log_is : (log n : ℕ) (r : Result ℕ ℕ) → in_log log r ≡ Ok n → r ≡ Ok n
in_log_is log n (Ok m) e = ap Ok (ok_same {E = LogDamage} m n e)
in_log_is log n (Err place) e = absurd (err_ok (record { log = log; place = place }) n e)

whole_is : (n m : ℕ) (r : LogReading) → counted_whole n r ≡ Ok m → counted_behind r.header n r.frames ≡ Ok m
whole_is n m r e = by r.whole e
  where
    by : (whole : Bool) → on_ok (λ m. if whole then Ok m else Err (content_end r)) (counted_behind r.header n r.frames) ≡ Ok m
        → counted_behind r.header n r.frames ≡ Ok m
    by true is = ok (counted_behind r.header n r.frames) is
      where
        ok : (w : Result ℕ ℕ) → on_ok (λ (m : ℕ). if true then Ok m else Err (content_end r)) w ≡ Ok m → w ≡ Ok m
        ok (Ok k) is = is
        ok (Err place) is = is
    by false is =
        let apart = ok_apart (λ (m : ℕ). if false then Ok m else Err (content_end r)) (counted_behind r.header n r.frames) m is in
        absurd (err_ok (content_end r) m apart.2)

log_is : (followed : Bool) (n m : ℕ) (r : LogReading) → counted_log followed n r ≡ Ok m → counted_behind r.header n r.frames ≡ Ok m
log_is true n m r e = whole_is n m r e
log_is false n m r e = e

-- a log more
pub walked_covers : (followed : Bool) (n m : ℕ) (q : StandingLog) → in_log q.number (counted_log followed n q.reading) ≡ Ok m
    → covered_by q.reading.frames n ≡ m
walked_covers followed n m q e =
    counted_covers (format_of q.reading.header) n 16 m q.reading.frames
    (log_is followed n m q.reading (in_log_is q.number m (counted_log followed n q.reading) e))

frames_cover : (number : ℕ) (r : LogReading) (n : ℕ) (others : List Segment)
    → covered_behind n (with_frames number r.header r.frames others) ≡ covered_behind (covered_by r.frames n) others
frames_cover number r n others = by r.frames
  where
    by : (frames : List LogFrame) → covered_behind n (with_frames number r.header frames others) ≡ covered_behind (covered_by frames n)
        others
    by [] = refl
    by (f ∷ fs) = refl

pub stays_damaged : (d : LogDamage) (qs : List StandingLog) → walked_before (Err d) qs ≡ Err d
stays_damaged d [] = refl
stays_damaged d (q ∷ qs) = stays_damaged d qs

-- logs that others follow
pub walk_covers : (n m : ℕ) (qs : List StandingLog) → walked_before (Ok n) qs ≡ Ok m → covered_behind n (filled qs) ≡ m
walk_covers n m [] e = ok_same {E = LogDamage} n m e
walk_covers n m (q ∷ qs) e = by (λ k. walk_covers k m qs) (in_log q.number (counted_whole n q.reading)) refl e
  where
    by : ((k : ℕ) → walked_before (Ok k) qs ≡ Ok m → covered_behind k (filled qs) ≡ m)
        → (w : Result ℕ LogDamage) → in_log q.number (counted_whole n q.reading) ≡ w → walked_before w qs ≡ Ok m
        → covered_behind n (with_frames q.number q.reading.header q.reading.frames (filled qs)) ≡ m
    by behind (Ok k) is rest = frames_cover q.number q.reading n (filled qs)
        ∙ ap (λ (c : ℕ). covered_behind c (filled qs)) (walked_covers true n k q is) ∙ behind k rest
    by behind (Err d) is rest = absurd (err_ok d m (sym (stays_damaged d qs) ∙ rest))

-- ---- a log more waits

pub waiting_push : (covered : ℕ) (ws : List Waiting) (ss : List Segment) (w : Waiting) (s : Segment) → AreWaiting covered ws ss
    → w.number ≡ s.number → w.covered ≡ covered_by s.frames (covered_behind covered ss) → AreWaiting covered (ws ++ w ∷ []) (ss ++ s ∷ [])
waiting_push covered [] [] w s are number up = (number, up, tt)
waiting_push covered [] (t ∷ ss) w s are number up = absurd are
waiting_push covered (v ∷ ws) [] w s are number up = absurd are
waiting_push covered (v ∷ ws) (t ∷ ss) w s are number up = (
  are.0,
  are.1,
  waiting_push v.covered ws ss w s are.2 number (up ∙ ap (λ (c : ℕ). covered_by s.frames (covered_behind c ss)) (sym are.1)),
)

-- if it has frames
pub waiting_more : (covered n : ℕ) (ws : List Waiting) (ss : List Segment) (q : StandingLog) → AreWaiting covered ws ss
    → covered_by q.reading.frames (covered_behind covered ss) ≡ n
    → AreWaiting covered (ws ++ waits_with q.number n q.reading.frames) (ss ++ filled (q ∷ []))
waiting_more covered n ws ss q are up = by q.reading.frames up
  where
    by : (frames : List LogFrame) → covered_by frames (covered_behind covered ss) ≡ n
        → AreWaiting covered (ws ++ waits_with q.number n frames) (ss ++ with_frames q.number q.reading.header frames [])
    by [] up = subst (λ (vs : List Waiting). AreWaiting covered vs (ss ++ [])) (sym (append-nil ws))
        (subst (AreWaiting covered ws) (sym (append-nil ss)) are)
    by (f ∷ fs) up = waiting_push covered ws ss (record { number = q.number; covered = n })
        (new_segment (format_of q.reading.header) q.number (f ∷ fs)) are refl (sym up)
