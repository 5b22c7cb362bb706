-- A version that has a layout has the rotated one behind its rotation: the log that was active is the last of the sealed ones. And
-- the rotated layout is tidy with it.
use Rattle.std.specs.Prelude.{◌≡◌, ◌<◌, ℕ, ◌==◌, Bool, true, false, if◌then◌else◌, IsSome, List, [], ◌∷◌, ◌++◌, Option, None, Some, refl}
use Rattle.std.specs.List.{AllByRecursion, AllZip}
use Rattle.std.proofs.Common.{sym, ap, subst, ◌∙◌, arith}
use Rattle.std.proofs.lemmas.Bool.Decides.{nat_tests}
use Rattle.vl_engine_laws.specs.Laid.{HasLayout, HasLog, IsLogOf, IsMemtableOf}
use Rattle.vl_engine_laws.specs.Pointed.{bytes_of_log, layout_logs, segment_at}
use Rattle.vl_engine_laws.specs.laws.FlushTidy.{IsThere, IsWider, all_alike, tidy_with}
use Rattle.vl_engine_laws.specs.laws.LaidLaws.{sources_far}
use Rattle.vl_engine_laws.specs.laws.LedLaws.{AreFarTo}
use Rattle.vl_engine_laws.specs.laws.SegmentLaws.{not_among}
use Rattle.vl_engine_laws.specs.laws.SharedLaws.{below_shared, levels_shared, logs_shared, order_shared, told_shared}
use Rattle.vl_engine_model.specs.Rulings.Rotate.{rotated}
use Rattle.vl_engine_model.specs.Sources.{sources}
use Rattle.vl_engine_model.specs.Tidy.{IsTidy, log_numbers, sealed}
use Rattle.vl_engine_model.specs.declared.layout.Layout.{Layout}
use Rattle.vl_engine_model.specs.declared.segment.Segment.{Segment}
use Rattle.vl_engine_model.specs.laws.LayoutShows.{sources-rotated}
use Rattle.vl_memtable.specs.Contents.{Contents}
use Rattle.vl_memtable.specs.declared.frozen_log.FrozenLog.{FrozenLog}
use Rattle.vl_model.specs.History.{History}
use Rattle.vl_model.specs.Numbers as numbers
use Rattle.vl_model.specs.Winners.{Logs, resolved}
use Rattle.vl_model.specs.declared.entry.Entry.{Entry}
use Rattle.vl_seglog.specs.declared.sealed.SealedLog.{SealedLog}
use Rattle.vl_version.specs.Rotating.{IsRotated}
use Rattle.vl_version.specs.Shared.{AreSameLogs}
use Rattle.vl_version.specs.Sources.{AreRising, AreTold, log_in}
use Rattle.vl_version.specs.declared.version.Version.{Version}

-- ---- logs by their numbers

-- a log that is put in front isn't found under the numbers of the others
pub front_wider : (a : Segment) (ss : List Segment) → numbers.has a.number (log_numbers ss) ≡ false → IsWider ss (a ∷ ss)
front_wider a ss none n log at = by (a.number == n) refl
  where
    by : (c : Bool) → (a.number == n) ≡ c → (if c then Some a else segment_at ss n) ≡ Some log
    by true same =
        let number : a.number ≡ n = grind (arith, nat_tests, same) in
        absurd (not_among a.number ss none log (ap (segment_at ss) number ∙ at))
    by false other = at

-- ---- tidy

-- entries lead with some logs where they lead with others
abbrev LeadAlike : Logs → Logs → List Entry → Type 0
LeadAlike logs others es = AllByRecursion (λ (e : Entry). resolved logs e.key e.body ≡ resolved others e.key e.body) es

turned : (logs others : Logs) (es : List Entry) → LeadAlike logs others es → LeadAlike others logs es
turned logs others [] all = tt
turned logs others (e ∷ es) all = (sym all.0, turned logs others es all.1)

module _ (l : Layout) (h : History) (tidy : IsTidy (layout_logs l) l h) where
  wider : IsWider (sealed l) (sealed (rotated l))
  wider = front_wider l.active (sealed l) tidy.distinct.0

  -- What is tidy with the logs of before is so with the log that was active among them.
  pub rotated_tidy : IsTidy (layout_logs l) (rotated l) h → IsTidy (layout_logs (rotated l)) (rotated l) h
  rotated_tidy still = tidy_with (layout_logs l) (layout_logs (rotated l)) (rotated l) h still
      (turned (layout_logs l) (layout_logs (rotated l)) (sources (rotated l))
      (all_alike (sealed l) (sealed (rotated l)) wider (sources (rotated l))
      (subst (λ (es : List Entry). AreFarTo (IsThere (sealed l)) es) (sym (sources-rotated l)) (sources_far l h tidy))))

-- ---- what a version has

module _ {H : Type 0} (bytes : H → Option (List ℕ)) where
  -- a log that comes after all others is put behind them
  rising_behind : (logs : List (SealedLog H)) (last : SealedLog H) → AreRising logs
      → AllByRecursion (λ (log : SealedLog H). log.number < last.number) logs → AreRising (logs ++ last ∷ [])
  rising_behind [] last rising below = tt
  rising_behind (log ∷ []) last rising below = (below.0, tt)
  rising_behind (log ∷ next ∷ logs) last rising below =
      (rising.0, rising_behind (next ∷ logs) last rising.1 below.1)

  all_behind : (P : SealedLog H → Type 0) (logs : List (SealedLog H)) (last : SealedLog H) → AllByRecursion P logs → P last
      → AllByRecursion P (logs ++ last ∷ [])
  all_behind P [] last all here = (here, tt)
  all_behind P (log ∷ logs) last all here = (all.0, all_behind P logs last all.1 here)

  told_behind : (logs : List (SealedLog H)) (last : SealedLog H) → AreTold bytes logs
      → AllByRecursion (λ (log : SealedLog H). log.number < last.number) logs → IsSome (bytes last.held)
      → AreTold bytes (logs ++ last ∷ [])
  told_behind logs last told below here = record {
    told = all_behind (λ (log : SealedLog H). IsSome (bytes log.held)) logs last told.told here;
    rising = rising_behind logs last told.rising below;
  }

  below_behind : (low high : ℕ) (logs : List (SealedLog H)) (last : SealedLog H) → low < high
      → AllByRecursion (λ (log : SealedLog H). log.number < low) logs → last.number < high
      → AllByRecursion (λ (log : SealedLog H). log.number < high) (logs ++ last ∷ [])
  below_behind low high [] last less below here = (here, tt)
  below_behind low high (log ∷ logs) last less below here =
      let first = below.0 in (omega (arith, less, first), below_behind low high logs last less below.1 here)

  -- the others are found as before,
  found_behind : (logs : List (SealedLog H)) (last : SealedLog H) (n : ℕ) (log : SealedLog H) → log_in logs n ≡ Some log
      → log_in (logs ++ last ∷ []) n ≡ Some log
  found_behind [] last n log at = absurd cc
  found_behind (x ∷ logs) last n log at = by (found_behind logs last n log) (x.number == n) at
    where
      by : (log_in logs n ≡ Some log → log_in (logs ++ last ∷ []) n ≡ Some log)
          → (b : Bool) → (if b then Some x else log_in logs n) ≡ Some log
          → (if b then Some x else log_in (logs ++ last ∷ []) n) ≡ Some log
      by later true is = is
      by later false is = later is

  -- and it is found itself
  last_found : (logs : List (SealedLog H)) (last : SealedLog H)
      → AllByRecursion (λ (log : SealedLog H). log.number < last.number) logs
      → log_in (logs ++ last ∷ []) last.number ≡ Some last
  last_found [] last below =
      let here : (last.number == last.number) ≡ true = grind (arith, nat_tests) in
      ap (λ (b : Bool). if b then Some last else None) here
  last_found (x ∷ logs) last below =
      let less = below.0 in
      let other : (x.number == last.number) ≡ false = grind (arith, nat_tests, less) in
      ap (λ (b : Bool). if b then Some x else log_in (logs ++ last ∷ []) last.number) other ∙ last_found logs last below.1

  some_segment : (a b : Segment) → Some a ≡ Some b → a ≡ b
  some_segment a b e = cc

  module _ (version after : Version H) (l : Layout) (has : HasLayout bytes version l) (length : ℕ) (log : SealedLog H)
      (is : IsRotated bytes version length log after) (number : log.number ≡ l.active.number) (format : log.format ≡ l.active.format)
      (told : bytes log.held ≡ Some (bytes_of_log l.active)) (above : l.active.number < l.next_log) where
    below_it : AllByRecursion (λ (x : SealedLog H). x.number < log.number) version.behind.logs.items
    below_it = subst (λ (n : ℕ). AllByRecursion (λ (x : SealedLog H). x.number < n) version.behind.logs.items) (sym number) has.below

    -- the version's logs are shared, with that one behind them
    same : AreSameLogs bytes (version.behind.logs.items ++ log ∷ []) after.behind.logs.items
    same = is.logs

    -- each log of the layout is there, before it is shared once more
    there : (n : ℕ) (s : Segment) → segment_at (sealed (rotated l)) n ≡ Some s → HasLog bytes (version.behind.logs.items ++ log ∷ []) n s
    there n s at = by (l.active.number == n) refl at
      where
        by : (b : Bool) → (l.active.number == n) ≡ b → (if b then Some l.active else segment_at (sealed l) n) ≡ Some s
            → HasLog bytes (version.behind.logs.items ++ log ∷ []) n s
        by true test found =
            let here : l.active.number ≡ n = grind (arith, nat_tests, test) in
            let one : l.active ≡ s = some_segment l.active s found in
            record {
              log = log;
              at = subst (λ (k : ℕ). log_in (version.behind.logs.items ++ log ∷ []) k ≡ Some log) (number ∙ here)
                  (last_found version.behind.logs.items log below_it);
              is = subst (IsLogOf bytes log) one (record { number = number; format = format; told = told });
            }
        by false test found =
            let before = has.logs n s found in
            record {
              log = before.log;
              at = found_behind version.behind.logs.items log n before.log before.at;
              is = before.is;
            }

    -- It has the rotated layout.
    pub laid_rotated : HasLayout bytes after (rotated l)
    laid_rotated = record {
      active = ap (λ (c : Contents). c.entries) is.active;
      frozen = subst (λ (fs : List FrozenLog). AllZip IsMemtableOf fs (l.active ∷ l.frozen)) (sym is.frozen)
          (record { number = number; entries = has.active }, has.frozen);
      levels = levels_shared bytes version.behind.levels after.behind.levels l.levels is.levels has.levels;
      in_order = order_shared bytes version.behind.levels after.behind.levels is.levels has.in_order;
      logs = λ n s at. logs_shared bytes (version.behind.logs.items ++ log ∷ []) after.behind.logs.items same n s (there n s at);
      told = told_shared bytes (version.behind.logs.items ++ log ∷ []) after.behind.logs.items same
          (told_behind version.behind.logs.items log has.told below_it (subst IsSome (sym told) refl));
      below = below_shared bytes l.next_log (version.behind.logs.items ++ log ∷ []) after.behind.logs.items same
          (below_behind l.active.number l.next_log version.behind.logs.items log above has.below (omega (arith, number, above)));
    }
