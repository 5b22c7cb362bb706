-- What is kept tidy of a new store, and of its files by an opening.
use Rattle.std.proofs.Common.{◌≡◌, ℕ, zero, suc, ◌+◌, ◌-◌, ◌<◌, max, min, Bool, true, false, cond, not, List, [], ◌∷◌}
use Rattle.std.proofs.Common.{◌++◌, take, refl, ap, sym, ◌∙◌, subst, arith}
use Rattle.std.specs.Prelude.{Some, None, ◌==◌}
use Rattle.std.specs.List.{AllByRecursion, filter}
use Rattle.vl_model.specs.History.{last_change, no_history, past_value, value_at, value_left}
use Rattle.vl_model.specs.Keys.{Writes}
use Rattle.vl_model.specs.laws.HistoryLaws.{past_value-empty}
use Rattle.vl_model.specs.Winners.{Logs}
use Rattle.vl_engine_model.specs.Levels.{level_at}
use Rattle.vl_engine_model.specs.Rising.{IsRising}
use Rattle.vl_engine_model.specs.Start.{IsWellRecovered, Recovered, fresh_layout, has_frames, layout_at_start, newest_first}
use Rattle.vl_engine_model.specs.Start.{nothing_found, number_of_log}
use Rattle.vl_engine_model.specs.Stock.{IsFalling, IsLogOff, IsWellStocked}
use Rattle.vl_engine_model.specs.Tidy.{IsTidy}
use Rattle.vl_engine_model.specs.TidyLevels.{IsApart}
use Rattle.vl_engine_model.specs.declared.segment.Segment.{Segment}
use Rattle.vl_engine_model.specs.declared.table.Table.{Table}
use Rattle.vl_engine_model_laws.specs.laws.Files.{all_both, all_filtered, all_weaker}

-- ---- logs from the newest on

all_newest : (P : Segment → Type 0) (ss : List Segment) → AllByRecursion P ss → AllByRecursion P (newest_first ss)
all_newest P [] all = tt
all_newest P (s ∷ ss) all = all_both P (newest_first ss) (s ∷ []) (all_newest P ss all.1) (all.0, tt)

falling_end : (xs : List Segment) (s : Segment) → IsFalling xs
    → AllByRecursion (λ (x : Segment). s.number < x.number) xs → IsFalling (xs ++ s ∷ [])
falling_end [] s falling above = (tt, tt)
falling_end (x ∷ xs) s falling above =
    (all_both (λ (y : Segment). y.number < x.number) xs (s ∷ []) falling.0 (above.0, tt), falling_end xs s falling.1 above.1)

falling_newest : (ss : List Segment) → IsRising number_of_log ss → IsFalling (newest_first ss)
falling_newest [] rising = tt
falling_newest (s ∷ ss) rising =
    falling_end (newest_first ss) s (falling_newest ss rising.1) (all_newest (λ (x : Segment). s.number < x.number) ss rising.0)

rising_filtered : (p : Segment → Bool) (ss : List Segment) → IsRising number_of_log ss
    → IsRising number_of_log (filter p ss)
rising_filtered p [] rising = tt
rising_filtered p (s ∷ ss) rising = elim (p s) as (λ b. IsRising number_of_log (cond b (s ∷ filter p ss) (filter p ss))) [
  | true ↦ (all_filtered (λ (x : Segment). s.number < x.number) p ss rising.0, rising_filtered p ss rising.1)
  | false ↦ rising_filtered p ss rising.1
]

-- ---- an opening

pub start_stocked : (room : ℕ) (found : Recovered) → IsWellRecovered found → IsWellStocked (layout_at_start room found)
start_stocked room found is = record {
  stocked = record {
    unneeded = tt;
    retired_drawn = tt;
    pinned = tt;
    tables_drawn = is.tables;
    logs_drawn =
        (omega arith, all_newest Drawn (filter has_frames found.logs) (all_filtered Drawn has_frames found.logs drawn));
    flushed_drawn =
        all_both Drawn (filter (λ s. not (has_frames s)) found.logs) found.below
        (all_filtered Drawn (λ s. not (has_frames s)) found.logs drawn) is.below;
    falling = (
      all_newest (λ (s : Segment). s.number < found.active) (filter has_frames found.logs)
          (all_filtered (λ (s : Segment). s.number < found.active) has_frames found.logs is.before),
      falling_newest (filter has_frames found.logs) (rising_filtered has_frames found.logs is.rising),
    );
    footed = is.footed;
  };
  drawn = record { points = is.points; pins_drawn = tt };
  lent_once = tt;
  lent_apart = tt;
  once = tt;
  flushed_apart = none_off (layout_at_start room found).flushed;
}
  where
    Drawn : Segment → Type 0
    Drawn s = s.number < max found.next_log (found.active + 1)

    drawn : AllByRecursion (λ (s : Segment). s.number < max found.next_log (found.active + 1)) found.logs
    drawn =
        all_weaker (λ (s : Segment). s.number < found.active)
        (λ (s : Segment). s.number < max found.next_log (found.active + 1)) (λ s less. omega (arith, less)) found.logs is.before

    none_off : (ss : List Segment) → AllByRecursion (IsLogOff []) ss
    none_off [] = tt
    none_off (s ∷ ss) = (refl, none_off ss)

-- ---- a new store

none_taken : (m : ℕ) → take m (no_history.commits) ≡ []
none_taken zero = refl
none_taken (suc m) = refl

nothing_at : (n : ℕ) (key : List ℕ) → value_at no_history n key ≡ None
nothing_at n key =
    ap (λ (ws : List Writes). value_left (past_value no_history.base (min n 0) key) (last_change ws key)) (none_taken (n - 0))
    ∙ past_value-empty (min n 0) key

-- so many levels without tables
abbrev bare : ℕ → List (List Table)
bare zero = []
bare (suc m) = [] ∷ bare m

bare_level : (m i : ℕ) → level_at i (bare m) ≡ []
bare_level zero i = refl
bare_level (suc m) i = elim (i == 0) as (λ b. cond b [] (level_at (i - 1) (bare m)) ≡ []) [ true ↦ refl | false ↦ bare_level m (i - 1) ]

pub fresh_tidy : (logs : Logs) (room : ℕ) → IsTidy logs (fresh_layout room) no_history
fresh_tidy logs room = record {
  files =
      start_stocked room nothing_found (record { rising = tt; before = tt; below = tt; tables = tt; footed = tt; points = tt });
  levels = record { distinct = tt; ranged = tt; wide = tt; apart = λ n some. subst IsApart (sym (bare_level 7 n)) tt; seven = refl };
  true_tables = tt;
  true_logs = (refl, tt);
  distinct = (refl, tt);
  placed = tt;
  versions = tt;
  last = omega arith;
  some = omega arith;
  since = omega arith;
  shows = record {
    values = λ key n from to. ap Some (sym (nothing_at n key));
    meaning = λ key version. None;
    resolves = tt;
    gone_once = λ key version none. omega arith;
  };
  job = λ o no. absurd cc;
}
