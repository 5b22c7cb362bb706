-- What the content of a log gives, its frames in their format: to the walk over the logs, and to what is opened.
use Rattle.std.specs.Prelude.{◌≡◌, ℕ, Bool, true, if◌then◌else◌, List, [], Result, Ok, Err, refl}
use Rattle.std.proofs.Common.{sym, ap, ◌∙◌}
use Rattle.vl_engine_model.specs.declared.segment.Segment.{Segment}
use Rattle.vl_model.specs.declared.log_frame.LogFrame.{LogFrame}
use Rattle.vl_recover.specs.opening.Stages.{on_ok}
use Rattle.vl_recover.specs.opening.Walk.{LogDamage, content_end, counted_behind, counted_whole, in_log, with_frames}
use Rattle.vl_seglog.specs.LogReading.{LogReading}

-- a log that is whole gives what its frames give
pub whole_log : (n : ℕ) (r : LogReading) → r.whole ≡ true → counted_whole n r ≡ counted_behind r.header n r.frames
whole_log n r whole =
    ap (λ (b : Bool). on_ok (λ m. if b then Ok m else Err (content_end r)) (counted_behind r.header n r.frames)) whole
    ∙ stays (counted_behind r.header n r.frames)
  where
    stays : (w : Result ℕ ℕ) → on_ok (λ m. if true then Ok m else Err (content_end r)) w ≡ w
    stays (Ok m) = refl
    stays (Err place) = refl

-- a log without frames behind a whole one gives no more
pub walk_more : (k n number log : ℕ) (r s : LogReading) → s.frames ≡ [] → r.whole ≡ true
    → in_log log (counted_behind r.header n r.frames) ≡ Ok number
    → on_ok (λ m. in_log k (counted_behind s.header m s.frames)) (in_log log (counted_whole n r)) ≡ Ok number
walk_more k n number log r s empty whole e =
    ap (λ (w : Result ℕ ℕ). on_ok (λ m. in_log k (counted_behind s.header m s.frames)) (in_log log w)) (whole_log n r whole)
    ∙ stays (in_log log (counted_behind r.header n r.frames)) ∙ e
  where
    gives : (m : ℕ) → in_log k (counted_behind s.header m s.frames) ≡ Ok m
    gives m = ap (λ (fs : List LogFrame). in_log k (counted_behind s.header m fs)) empty

    stays : (w : Result ℕ LogDamage) → on_ok (λ m. in_log k (counted_behind s.header m s.frames)) w ≡ w
    stays (Ok m) = gives m
    stays (Err damage) = refl

-- two readings have no frames, or the same in the same format
pub data SameContent (r s : LogReading) : Type 0 where
  none_each : r.frames ≡ [] → s.frames ≡ [] → SameContent r s
  same_each : r.header ≡ s.header → r.frames ≡ s.frames → SameContent r s

pub same_counted : (r s : LogReading) → SameContent r s → (n : ℕ)
    → counted_behind r.header n r.frames ≡ counted_behind s.header n s.frames
same_counted r s (none_each p q) n =
    ap (counted_behind r.header n) p ∙ sym (ap (counted_behind s.header n) q)
same_counted r s (same_each h f) n = λ i. counted_behind (h i) n (f i)

pub same_filled : (r s : LogReading) → SameContent r s → (k : ℕ) (others : List Segment)
    → with_frames k r.header r.frames others ≡ with_frames k s.header s.frames others
same_filled r s (none_each p q) k others =
    ap (λ (fs : List LogFrame). with_frames k r.header fs others) p
    ∙ sym (ap (λ (fs : List LogFrame). with_frames k s.header fs others) q)
same_filled r s (same_each h f) k others = λ i. with_frames k (h i) (f i) others
