-- Behind a rotation the log that was active waits for its flush too, behind which all commits are covered.
use Rattle.std.specs.Prelude.{◌≡◌, ℕ, ◌+◌, ◌==◌, max, Bool, true, false, if◌then◌else◌, List, [], ◌∷◌, ◌++◌, map, Result, Ok, Err, refl}
use Rattle.std.specs.List.{filter}
use Rattle.std.proofs.Common.{sym, ap, ◌∙◌, arith}
use Rattle.std.proofs.lemmas.Bool.Decides.{nat_tests}
use Rattle.vl_engine_laws.specs.Held.{Base, IsBase, logs_from}
use Rattle.vl_engine_laws.specs.Represents.{IsBack}
use Rattle.vl_engine_laws.specs.MayStep.{covered_all}
use Rattle.vl_back.specs.declared.back.Back.{Back}
use Rattle.vl_engine_model.specs.Rulings.Flush.{covered_by}
use Rattle.vl_engine_model.specs.Rulings.Rotate.{rotated}
use Rattle.vl_engine_model.specs.Start.{has_frames, is_any, newest_first}
use Rattle.vl_engine_model.specs.declared.layout.Layout.{Layout}
use Rattle.vl_engine_model.specs.declared.segment.Segment.{Segment}
use Rattle.vl_manifest.specs.declared.waiting.Waiting.{Waiting}
use Rattle.vl_model.specs.Frames.{frame_length}
use Rattle.vl_model.specs.History.{History, last_number}
use Rattle.vl_model.specs.declared.log_frame.LogFrame.TheVariants.{Committed, Relocated}
use Rattle.vl_model.specs.declared.log_frame.LogFrame.{LogFrame}
use Rattle.vl_recover.specs.crash.Held.{GoOn, log_as_held}
use Rattle.vl_recover.specs.opening.HeldFiles.{AreWaiting}
use Rattle.vl_recover.specs.opening.Stages.{on_ok}
use Rattle.vl_recover.specs.opening.Walk.{counted, counted_whole, in_log, walked}

pub covered_more : (ss : List Segment) (s : Segment) (covered : ℕ)
    → covered_all (ss ++ s ∷ []) covered ≡ covered_by s.frames (covered_all ss covered)
covered_more [] s covered = refl
covered_more (t ∷ ss) s covered = covered_more ss s (covered_by t.frames covered)

-- ---- what is counted is covered

some_number : (r : Result ℕ ℕ) (a b : ℕ) → r ≡ Ok a → r ≡ Ok b → a ≡ b
some_number r a b one other = cc

never_ok : (place m : ℕ) (r : Result ℕ ℕ) → r ≡ Err place → r ≡ Ok m → ⊥
never_ok place m r one other = cc

counted_covers : (format n place : ℕ) (fs : List LogFrame) (m : ℕ) → counted format n place fs ≡ Ok m → covered_by fs n ≡ m
counted_covers format n place [] m is = some_number (Ok n) n m refl is
counted_covers format n place (Relocated records ∷ fs) m is =
    counted_covers format n (place + frame_length format (Relocated records)) fs m is
counted_covers format n place (Committed number writes ∷ fs) m is =
    by (λ k. counted_covers format k (place + frame_length format (Committed number writes)) fs m) (number == n + 1) refl is
  where
    by : ((k : ℕ) → counted format k (place + frame_length format (Committed number writes)) fs ≡ Ok m → covered_by fs k ≡ m)
        → (b : Bool) → (number == n + 1) ≡ b
        → on_ok (λ k. counted format k (place + frame_length format (Committed number writes)) fs)
        (if b then Ok number else Err place) ≡ Ok m → covered_by fs (max n number) ≡ m
    by later true test goes =
        let next : number ≡ n + 1 = grind (arith, nat_tests, test) in
        let greater : max n number ≡ number = omega (arith, next) in
        ap (covered_by fs) greater ∙ later number goes
    by later false test goes = absurd (never_ok place m (Err place) refl goes)

whole_covers : (s : Segment) (n m : ℕ) → counted_whole n (log_as_held s).reading ≡ Ok m → covered_by s.frames n ≡ m
whole_covers s n m is = by (counted s.format n 16 s.frames) refl is
  where
    by : (r : Result ℕ ℕ) → counted s.format n 16 s.frames ≡ r → on_ok (λ (k : ℕ). Ok k) r ≡ Ok m → covered_by s.frames n ≡ m
    by (Ok k) at goes = counted_covers s.format n 16 s.frames k at ∙ some_number (Ok k) k m refl goes
    by (Err place) at goes = absurd (never_ok place m (Err place) refl goes)

in_log_ok : (log : ℕ) (r : Result ℕ ℕ) (m : ℕ) → in_log log r ≡ Ok m → r ≡ Ok m
in_log_ok log (Ok k) m is = let same : k ≡ m = cc in ap (λ (j : ℕ). Ok j) same
in_log_ok log (Err place) m is = absurd cc

-- So the last commit of logs whose commits go on is covered behind them.
pub goes_covered : (ss : List Segment) (n m : ℕ) → GoOn n ss m → covered_all ss n ≡ m
goes_covered [] n m is = let same : n ≡ m = cc in same
goes_covered (s ∷ []) n m is =
    counted_covers s.format n 16 s.frames m (in_log_ok s.number (counted s.format n 16 s.frames) m is)
goes_covered (s ∷ t ∷ ss) n m is =
    by (λ k. goes_covered (t ∷ ss) k m) (counted_whole n (log_as_held s).reading) refl is
  where
    by : ((k : ℕ) → GoOn k (t ∷ ss) m → covered_all (t ∷ ss) k ≡ m)
        → (r : Result ℕ ℕ) → counted_whole n (log_as_held s).reading ≡ r
        → on_ok (λ k. walked k (map log_as_held (t ∷ ss))) (in_log s.number r) ≡ Ok m
        → covered_all (t ∷ ss) (covered_by s.frames n) ≡ m
    by later (Ok k) at goes = ap (covered_all (t ∷ ss)) (whole_covers s n k at) ∙ later k goes
    by later (Err place) at goes = absurd cc

-- ---- logs without frames cover nothing

none_covers : (fs : List LogFrame) (n : ℕ) → is_any fs ≡ false → covered_by fs n ≡ n
none_covers [] n none = refl
none_covers (f ∷ fs) n none = absurd cc

pub filled_cover : (ss : List Segment) (n : ℕ) → covered_all (filter has_frames ss) n ≡ covered_all ss n
filled_cover [] n = refl
filled_cover (s ∷ ss) n = by (filled_cover ss) (has_frames s) refl
  where
    by : ((k : ℕ) → covered_all (filter has_frames ss) k ≡ covered_all ss k) → (b : Bool) → has_frames s ≡ b
        → covered_all (if b then s ∷ filter has_frames ss else filter has_frames ss) n ≡ covered_all ss (covered_by s.frames n)
    by later true some = later (covered_by s.frames n)
    by later false none = later n ∙ ap (covered_all ss) (sym (none_covers s.frames n none))

last_turned : (ss : List Segment) (s : Segment) → newest_first (ss ++ s ∷ []) ≡ s ∷ newest_first ss
last_turned [] s = refl
last_turned (t ∷ ss) s = ap (λ (rest : List Segment). rest ++ t ∷ []) (last_turned ss s)

pub twice_turned : (ss : List Segment) → newest_first (newest_first ss) ≡ ss
twice_turned [] = refl
twice_turned (s ∷ ss) = last_turned (newest_first ss) s ∙ ap (λ (rest : List Segment). s ∷ rest) (twice_turned ss)

-- The active log's last commit, or the last one before it, is the history's.
pub active_covers : (b : Base) (l : Layout) (h : History) → IsBase b l h
    → covered_by l.active.frames (covered_all (newest_first l.frozen) l.covered) ≡ last_number h
active_covers b l h base =
    ap (λ (n : ℕ). covered_by l.active.frames n)
    (ap (λ (ss : List Segment). covered_all (newest_first ss) l.covered) base.frozen
    ∙ ap (λ (ss : List Segment). covered_all ss l.covered) (twice_turned (filter has_frames b.before))
    ∙ filled_cover b.before l.covered
    ∙ ap (covered_all b.before) (sym base.covered))
    ∙ sym (covered_more b.before l.active b.state.covered)
    ∙ goes_covered (logs_from b l) b.state.covered (last_number h) base.goes

-- ---- one more waits

pub waits_behind : (covered : ℕ) (ws : List Waiting) (ss : List Segment) (w : Waiting) (s : Segment) → AreWaiting covered ws ss
    → w.number ≡ s.number → w.covered ≡ covered_by s.frames (covered_all ss covered)
    → AreWaiting covered (ws ++ w ∷ []) (ss ++ s ∷ [])
waits_behind covered [] [] w s are number covers = (number, covers, tt)
waits_behind covered [] (t ∷ ss) w s are number covers = absurd are
waits_behind covered (v ∷ ws) [] w s are number covers = absurd are
waits_behind covered (v ∷ ws) (t ∷ ss) w s (here, up_to, rest) number covers = (
  here,
  up_to,
  waits_behind v.covered ws ss w s rest number
      (covers ∙ ap (λ (n : ℕ). covered_by s.frames (covered_all ss n)) (sym up_to)),
)

pub rotate_waiting : (back : Back) (b : Base) (l : Layout) (h : History) → IsBase b l h → IsBack back b l
    → (w : Waiting) → w.number ≡ l.active.number → w.covered ≡ last_number h
    → AreWaiting l.covered (back.waiting.items ++ w ∷ []) (newest_first (rotated l).frozen)
rotate_waiting back b l h base is w number covers =
    waits_behind l.covered back.waiting.items (newest_first l.frozen) w l.active is.waiting number
    (covers ∙ sym (active_covers b l h base))
