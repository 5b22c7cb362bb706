-- Where the manifest names no tables the layout at the start has none, and no logs below head.
use Rattle.std.specs.Prelude.{◌≡◌, ℕ, List, [], ◌∷◌, map, refl}
use Rattle.std.proofs.Common.{sym, ap, ◌∙◌}
use Rattle.vl_disk.specs.Crash.{Image}
use Rattle.vl_engine_laws.specs.Begun.{led_below, recovered_as, recovered_bare}
use Rattle.vl_engine_laws.specs.Files.{found_levels}
use Rattle.vl_engine_laws.specs.Shown.{HasFramedAmong, Shown}
use Rattle.vl_engine_laws.specs.laws.BegunLaws.{names_are}
use Rattle.vl_engine_model.specs.Sources.{numbers_of}
use Rattle.vl_engine_model.specs.Start.{Recovered, no_tables}
use Rattle.vl_engine_model.specs.declared.segment.Segment.{Segment}
use Rattle.vl_engine_model.specs.declared.table.Table.{Table}
use Rattle.vl_manifest.specs.Levels as manifests
use Rattle.vl_manifest.specs.declared.state.ManifestState.{ManifestState}
use Rattle.vl_model.specs.History.{History, last_number}
use Rattle.vl_recover.specs.opening.Answers.{Finds}
use Rattle.vl_recover.specs.opening.Opening.{FoundTable, IsAmong, led_into}
use Rattle.vl_recover.specs.opening.Plans.{active_log, new_state}

none_numbered : (ts : List Table) → numbers_of ts ≡ [] → ts ≡ []
none_numbered [] is = refl
none_numbered (t ∷ ts) is = absurd cc

-- as many levels, without tables
bare_like : (ns : List ℕ) (ls : List (List Table)) → map numbers_of ls ≡ map (λ (n : ℕ). []) ns → ls ≡ map (λ (n : ℕ). []) ns
bare_like [] [] is = refl
bare_like [] (ts ∷ ls) is = absurd cc
bare_like (n ∷ ns) [] is = absurd cc
bare_like (n ∷ ns) (ts ∷ ls) is =
    let here : numbers_of ts ≡ [] = cc in
    let later : map numbers_of ls ≡ map (λ (m : ℕ). []) ns = cc in
    λ i. none_numbered ts here i ∷ bare_like ns ls later i

none_below : {image : Image} {sealed : List Segment} (head : ℕ) (ns : List ℕ) → ns ≡ []
    → (led : (n : ℕ) → IsAmong ns n → HasFramedAmong image sealed n) → led_below head ns led ≡ []
none_below head [] is led = refl
none_below head (n ∷ ns) is led = absurd cc

module _ {read : Image} (found : Finds read) (h : History) (shown : Shown read h (last_number h))
    (bare : found.opening.state.levels ≡ manifests.no_tables) where
  levels_bare : shown.levels ≡ no_tables
  levels_bare = bare_like (0 ∷ 1 ∷ 2 ∷ 3 ∷ 4 ∷ 5 ∷ 6 ∷ []) shown.levels (sym (names_are found h shown 0) ∙ bare)

  led_none : led_into shown.opening.levels ≡ []
  led_none = ap (λ (ls : List (List FoundTable)). led_into ls) shown.found
      ∙ ap (λ (ls : List (List Table)). led_into (found_levels ls)) levels_bare

  pub begun_bare : (before : List Segment) → recovered_as found shown before ≡ recovered_bare found before
  begun_bare before =
      ap (λ (ls : List (List Table)). with_levels ls (led_below found.opening.state.head (led_into shown.opening.levels) shown.led))
      levels_bare
      ∙ ap (with_levels no_tables) (none_below found.opening.state.head (led_into shown.opening.levels) led_none shown.led)
    where
      state : ManifestState
      state = new_state found.greatest found.opening.state

      with_levels : List (List Table) → List Segment → Recovered
      with_levels levels below = record {
        levels = levels;
        logs = before;
        below = below;
        active = active_log found.greatest found.opening.state found.logs;
        covered = state.covered;
        next_log = state.next_log;
        next_table = state.next_table;
        keep = state.keep;
        since = state.since;
        gone = state.gone;
      }
