-- Logs that others follow are held with their frames and nothing behind them.
use Rattle.std.proofs.Common.{◌≡◌, ℕ, ◌+◌, Bool, true, false, List, [], ◌∷◌, refl, sym, ap, ◌∙◌, subst}
use Rattle.std.specs.Prelude.{nat_lt, Option, Some, Result, Ok, Err, if◌then◌else◌}
use Rattle.std.specs.List.{AllZip, filter}
use Rattle.vl_disk.specs.Crash.{Image}
use Rattle.vl_engine_model.specs.Logs.{new_segment}
use Rattle.vl_engine_model.specs.declared.segment.Segment.{Segment}
use Rattle.vl_manifest.specs.declared.state.ManifestState.{ManifestState}
use Rattle.vl_manifest.specs.declared.waiting.Waiting.{Waiting}
use Rattle.vl_recover.specs.declared.found.Findings.{Findings}
use Rattle.vl_recover.specs.laws.opening.OneFinding.{same_opening}
use Rattle.vl_recover.specs.laws.opening.OpeningLaws.{one_standing, opened}
use Rattle.vl_recover.specs.laws.repairing.LastLaws.{whole_bytes}
use Rattle.vl_recover.specs.laws.repairing.StageLaws.{err_ok, ok_apart}
use Rattle.vl_recover.specs.opening.Answers.{Finds, as_segments}
use Rattle.vl_recover.specs.opening.Finding.{IsFound}
use Rattle.vl_recover.specs.opening.HeldFiles.{AreHeldFound, AreWaiting, IsHeldLog, IsReadLog, but_last}
use Rattle.vl_recover.specs.opening.LogsSoFar.{AreHeldSoFar, IsHeldSo}
use Rattle.vl_recover.specs.opening.Opening.{FoundTable, IsNextLog, Opening, StandingLogs, led_into}
use Rattle.vl_recover.specs.opening.Stages.{on_ok}
use Rattle.vl_recover.specs.opening.Walk.{StandingLog, content_end, counted_behind, counted_whole, filled}
use Rattle.vl_recover.specs.opening.Walk.{format_of, in_log, walked, walked_on}
use Rattle.vl_seglog.specs.Frames.{log_bytes}
use Rattle.vl_seglog.specs.LogReading.{LogReading}
use Rattle.vl_seglog.specs.declared.sealed.SealedLog.{SealedLog}
use Rattle.vl_seglog.specs.laws.LogReadingLaws.{whole_has_header}

-- ---- a log that others follow is whole

whole_of : (n m : ℕ) (r : LogReading) → counted_whole n r ≡ Ok m → r.whole ≡ true
whole_of n m r e = by r.whole refl e
  where
    by : (whole : Bool) → r.whole ≡ whole
        → on_ok (λ m. if whole then Ok m else Err (content_end r)) (counted_behind r.header n r.frames) ≡ Ok m → r.whole ≡ true
    by true is up = is
    by false is up =
        let apart = ok_apart (λ (m : ℕ). if false then Ok m else Err (content_end r)) (counted_behind r.header n r.frames) m up in
        absurd (err_ok (content_end r) m apart.2)

in_log_whole : (log n k : ℕ) (r : LogReading) → in_log log (counted_whole n r) ≡ Ok k → r.whole ≡ true
in_log_whole log n k r e = by (counted_whole n r) refl e
  where
    by : (w : Result ℕ ℕ) → counted_whole n r ≡ w → in_log log w ≡ Ok k → r.whole ≡ true
    by (Ok m) is up = whole_of n m r is
    by (Err place) is up = absurd (err_ok (record { log = log; place = place }) k up)

module _ {H : Type 0} (bytes_of : H → Option (List ℕ)) (image : Image) where
  -- so it is held with its frames
  held_whole : (least : ℕ) (log : SealedLog H) (q : StandingLog) → IsNextLog image least q → q.reading.whole ≡ true
      → IsHeldSo bytes_of image log q
      → IsHeldLog bytes_of log (new_segment (format_of q.reading.header) q.number q.reading.frames)
  held_whole least log q next whole held =
      let (format, header) = whole_has_header q.number next.bytes q.reading next.reads whole in
      let bytes : next.bytes ≡ log_bytes format q.number q.reading.frames =
      whole_bytes q.number next.bytes q.reading next.reads format header whole in
      let named : log_bytes format q.number q.reading.frames ≡ log_bytes (format_of q.reading.header) q.number q.reading.frames =
      ap (λ (h : Option ℕ). log_bytes (format_of h) q.number q.reading.frames) (sym header) in
      record {
        number_is = held.number_is;
        format_is = held.format_is;
        told = held.told ∙ next.stands ∙ ap Some (bytes ∙ named);
      }

  one_before : (s : Segment) (p : StandingLog) (ps : List StandingLog)
      → but_last (s ∷ as_segments (p ∷ ps)) ≡ s ∷ but_last (as_segments (p ∷ ps))
  one_before s p [] = refl
  one_before s p (r ∷ rs) = refl

  -- all of them
  pub held_followed : (least n number : ℕ) (logs : List StandingLog) (upper : List (SealedLog H)) → StandingLogs image least logs
      → walked n logs ≡ Ok number → AllZip (IsHeldSo bytes_of image) upper (but_last logs)
      → AllZip (IsHeldLog bytes_of) upper (but_last (as_segments logs))
  held_followed least n number [] [] standing walk are = tt
  held_followed least n number [] (u ∷ us) standing walk are = absurd are
  held_followed least n number (q ∷ []) [] standing walk are = tt
  held_followed least n number (q ∷ []) (u ∷ us) standing walk are = absurd are
  held_followed least n number (q ∷ p ∷ ps) [] standing walk are = absurd are
  held_followed least n number (q ∷ p ∷ ps) (u ∷ us) (next, rest) walk are =
      let (m, before, behind) = ok_apart (λ (m : ℕ). walked_on m p ps) (in_log q.number (counted_whole n q.reading)) number walk in
      let s = new_segment (format_of q.reading.header) q.number q.reading.frames in
      subst (AllZip (IsHeldLog bytes_of) (u ∷ us)) (sym (one_before s p ps)) (
        held_whole least u q next (in_log_whole q.number n m q.reading before) are.0,
        held_followed (q.number + 1) m number (p ∷ ps) us rest behind are.1,
      )

-- ---- by what was found

module _ {H : Type 0} (bytes_of : H → Option (List ℕ)) (image : Image) (found : Findings) (is : IsFound image found) (finds : Finds image)
  where
    same : is.finds.opening ≡ finds.opening
    same = same_opening image is.finds finds

    -- its state
    pub state_is : finds.opening.state ≡ found.state
    state_is = sym (ap (λ (o : Opening). o.state) same) ∙ sym is.state

    -- the walk over its logs
    pub walk_is : walked finds.opening.state.covered finds.logs ≡ Ok finds.opening.number
    walk_is =
        let apart = opened image finds.opening finds.opens in
        ap (walked finds.opening.state.covered) (one_standing image finds.opening.state.head finds.logs apart.standing finds.standing
        apart.stands) ∙ apart.walk

    pub logs_are : finds.opening.logs ≡ filled finds.logs
    logs_are =
        let apart = opened image finds.opening finds.opens in
        apart.logs_are ∙ ap filled (one_standing image finds.opening.state.head apart.standing finds.logs apart.stands finds.standing)

    -- what waits, said of the state that was read
    pub found_wait : (state : ManifestState) (ws : List Waiting) → found.state ≡ state
        → ((logs : List StandingLog) (number : ℕ) → StandingLogs image state.head logs → walked state.covered logs ≡ Ok number
        → AreWaiting state.covered ws (filled logs))
        → AreWaiting finds.opening.state.covered ws finds.opening.logs
    found_wait state ws was wait =
        let at : finds.opening.state ≡ state = state_is ∙ was in
        let standing = subst (λ (s : ManifestState). StandingLogs image s.head finds.logs) at finds.standing in
        let walk = subst (λ (s : ManifestState). walked s.covered finds.logs ≡ Ok finds.opening.number) at walk_is in
        subst (AreWaiting finds.opening.state.covered ws) (sym logs_are)
        (subst (λ (s : ManifestState). AreWaiting s.covered ws (filled finds.logs)) (sym at)
        (wait finds.logs finds.opening.number standing walk))

    -- and what is held
    pub found_held : (state : ManifestState) (levels : List (List FoundTable)) (led : List ℕ) (lower sealed : List (SealedLog H))
        → found.state ≡ state
        → levels ≡ is.finds.opening.levels → led ≡ led_into levels
        → AllZip (IsReadLog bytes_of image) lower (filter (λ n. nat_lt n state.head) led)
        → ((logs : List StandingLog) → StandingLogs image state.head logs → AreHeldSoFar bytes_of image lower false logs sealed)
        → AreHeldFound bytes_of finds sealed
    found_held state levels led lower sealed was opened led_is lower_are held =
        let at : finds.opening.state ≡ state = state_is ∙ was in
        let standing = subst (λ (s : ManifestState). StandingLogs image s.head finds.logs) at finds.standing in
        let so = held finds.logs standing in
        let led_then : led ≡ led_into finds.opening.levels =
        led_is ∙ ap led_into (opened ∙ ap (λ (o : Opening). o.levels) same) in
        record {
          lower = lower;
          upper = so.upper;
          split = so.split;
          lower_are = subst (λ (s : ManifestState). AllZip (IsReadLog bytes_of image) lower
              (filter (λ n. nat_lt n s.head) (led_into finds.opening.levels))) (sym at)
              (subst (λ (ns : List ℕ). AllZip (IsReadLog bytes_of image) lower (filter (λ n. nat_lt n state.head) ns)) led_then lower_are);
          upper_are = held_followed bytes_of image finds.opening.state.head finds.opening.state.covered finds.opening.number finds.logs
              so.upper
              finds.standing walk_is so.are;
        }
