-- The layout with which an engine begins over what an opening found, where reads show a history.
use Rattle.std.specs.Prelude.{ℕ, nat_lt, if◌then◌else◌, List, [], ◌∷◌}
use Rattle.std.proofs.Common.{inl, inr, refl}
use Rattle.vl_disk.specs.Crash.{Image}
use Rattle.vl_engine_laws.specs.Held.{Base}
use Rattle.vl_engine_laws.specs.Shown.{HasFramedAmong, Shown}
use Rattle.vl_engine_model.specs.Logs.{new_segment}
use Rattle.vl_engine_model.specs.Start.{Recovered, layout_at_start, no_tables}
use Rattle.vl_engine_model.specs.declared.layout.Layout.{Layout}
use Rattle.vl_engine_model.specs.declared.segment.Segment.{Segment}
use Rattle.vl_manifest.specs.States.{whole_edits}
use Rattle.vl_manifest.specs.declared.manifest_log.ManifestLog.{ManifestLog}
use Rattle.vl_model.specs.History.{History}
use Rattle.vl_recover.specs.opening.Answers.{Finds}
use Rattle.vl_recover.specs.opening.Opening.{IsAmong, led_into}
use Rattle.vl_recover.specs.opening.Plans.{active_log, new_state}

-- a log that tables lead into, with its frames
abbrev pub as_led : {image : Image} {sealed : List Segment} (n : ℕ) → HasFramedAmong image sealed n → Segment
as_led n has = new_segment has.is.log.format n has.is.log.frames

-- of these the ones below a number
abbrev pub led_below : {image : Image} {sealed : List Segment} → ℕ → (ns : List ℕ)
    → ((n : ℕ) → IsAmong ns n → HasFramedAmong image sealed n) → List Segment
led_below head [] led = []
led_below head (n ∷ ns) led =
    if nat_lt n head then as_led n (led n (inl refl)) ∷ led_below head ns (λ m among. led m (inr among))
    else led_below head ns (λ m among. led m (inr among))

-- The tables are those that reads show. Of the logs that these lead into those below head are kept beside the ones from head on,
-- before the active one.
abbrev pub recovered_as : {read : Image} (found : Finds read) {h : History} {m : ℕ} → Shown read h m → List Segment → Recovered
recovered_as found shown before =
    let state = new_state found.greatest found.opening.state in
    record {
      levels = shown.levels;
      logs = before;
      below = led_below found.opening.state.head (led_into shown.opening.levels) shown.led;
      active = active_log found.greatest found.opening.state found.logs;
      covered = state.covered;
      next_log = state.next_log;
      next_table = state.next_table;
      keep = state.keep;
      since = state.since;
      gone = state.gone;
    }

-- The same where there are no tables, and so no logs below head.
abbrev pub recovered_bare : {read : Image} → Finds read → List Segment → Recovered
recovered_bare found before =
    let state = new_state found.greatest found.opening.state in
    record {
      levels = no_tables;
      logs = before;
      below = [];
      active = active_log found.greatest found.opening.state found.logs;
      covered = state.covered;
      next_log = state.next_log;
      next_table = state.next_table;
      keep = state.keep;
      since = state.since;
      gone = state.gone;
    }

abbrev pub layout_begun : (room : ℕ) {read : Image} (found : Finds read) {h : History} {m : ℕ} → Shown read h m → List Segment
    → Layout
layout_begun room found shown before = layout_at_start room (recovered_as found shown before)

-- The manifest that was made has one frame, which says the whole state.
abbrev pub base_begun : {read : Image} → Finds read → ManifestLog → List Segment → Base
base_begun found manifest before = record {
  manifest = manifest;
  first = whole_edits (new_state found.greatest found.opening.state);
  others = [];
  state = new_state found.greatest found.opening.state;
  before = before;
}
