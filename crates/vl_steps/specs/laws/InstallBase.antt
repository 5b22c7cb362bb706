-- What an install's switch makes of the base, and that the layout behind it is tidy: its tables lead where those led that they
-- take the place of, in logs that stay.
use Rattle.std.specs.Prelude.{◌≡◌, ℕ, ◌+◌, true, not, List, [], ◌∷◌, ◌++◌, Some, refl}
use Rattle.std.specs.List.{AllByRecursion}
use Rattle.std.proofs.Common.{sym, ap, ◌∙◌, arith}
use Rattle.std.proofs.lemmas.Bool.Decides.{nat_tests}
use Rattle.vl_model.specs.Cutting.{points_of}
use Rattle.vl_model.specs.declared.point.Point.{Point}
use Rattle.vl_disk.specs.DiskState.{DiskState}
use Rattle.vl_engine_laws.specs.Files.{HoldsLog, HoldsTable, IsLogFile, found_levels}
use Rattle.vl_engine_laws.specs.Held.{Base, Holds, HoldsFiles, IsBase}
use Rattle.vl_engine_laws.specs.Pointed.{IsFramedAmong, layout_logs}
use Rattle.vl_engine_laws.specs.laws.FileLaws.{all_each, all_filtered, all_front}
use Rattle.vl_engine_laws.specs.laws.FlushBase.{state_more}
use Rattle.vl_engine_laws.specs.laws.FlushTidy.{IsThere, IsWider, tables_far}
use Rattle.vl_engine_laws.specs.laws.HeldLaws.{sources_held}
use Rattle.vl_steps.specs.laws.InstallApplies.{edits_of, install_applies, levels_are, state}
use Rattle.vl_engine_laws.specs.laws.InstallRulings.{GoesOn}
use Rattle.vl_engine_laws.specs.laws.InstallSpares.{rest_spares_installed}
use Rattle.vl_engine_laws.specs.laws.InstallTidy.{IsPutTidy, each_entry_put, logs_put, still_put, each_put, tidy_put}
use Rattle.vl_engine_laws.specs.laws.LedLaws.{AreFarTo, IsFarTo, among_in, led_in, points_led}
use Rattle.vl_engine_laws.specs.laws.SwitchLaws.{switched_base}
use Rattle.vl_frame.specs.Runs.{HasFrame}
use Rattle.vl_engine_model.specs.Jobs.{AreLent, AreOutputs, Made}
use Rattle.vl_engine_model.specs.Ruling.{is_idle}
use Rattle.vl_engine_model.specs.Rulings.Install.{installed, put_in}
use Rattle.vl_engine_model.specs.Start.{has_frames}
use Rattle.vl_engine_model.specs.Sources.{tables}
use Rattle.vl_engine_model.specs.Stock.{is_into}
use Rattle.vl_engine_model.specs.Tidy.{IsTidy, sealed}
use Rattle.vl_engine_model.specs.declared.job.OpenJob.{OpenJob}
use Rattle.vl_engine_model.specs.declared.layout.Layout.{Layout}
use Rattle.vl_engine_model.specs.declared.segment.Segment.{Segment}
use Rattle.vl_engine_model.specs.declared.table.Table.{Table}
use Rattle.vl_engine_model_laws.specs.laws.JobTables.{IsIntoWell, entries_into, of_each_point}
use Rattle.vl_manifest.specs.Grammar.{edits_grammar}
use Rattle.vl_manifest.specs.States.{are_next}
use Rattle.vl_model.specs.Formats.{manifest_format}
use Rattle.vl_model.specs.History.{History}
use Rattle.vl_model.specs.declared.entry.Body.{Body}
use Rattle.vl_model.specs.declared.entry.Body.TheVariants.{Far, Gone, Inline, Logged}
use Rattle.vl_model.specs.declared.entry.Entry.{Entry}
use Rattle.vl_recover.specs.crash.Held.{HoldsLogs}
use Rattle.vl_recover.specs.opening.Opening.{IsAmong, led_into}

-- ---- where points tell that entries lead

far_point : (P : ℕ → Type 0) (body : Body) → ((n : ℕ) → is_into n (record { key = []; version = 0; body = body }) ≡ true → P n)
    → IsFarTo P body
far_point P (Inline value) into = tt
far_point P Gone into = tt
far_point P (Far p) into = into p.segment (grind (arith, nat_tests))
far_point P (Logged value p) into = tt

far_points : (P : ℕ → Type 0) (es : List Entry) → AllByRecursion (λ (p : Point). P p.segment) (points_of es) → AreFarTo P es
far_points P es points = by es (entries_into P es (of_each_point P (points_of es) points))
  where
    by : (fs : List Entry) → AllByRecursion (IsIntoWell P) fs → AreFarTo P fs
    by [] into = tt
    by (f ∷ fs) into = (far_point P f.body into.0, by fs into.1)

-- ---- what is asked

-- What an install is staged with: it goes on, its tables were made of the job and stand, with numbers of their own, and its frame
-- can be spelled.
pub record CanInstall (b : Base) (l : Layout) (o : OpenJob) (made : Made) (disk : DiskState) : Type 0 where
  pub goes : GoesOn l o
  pub lent : AreLent o.lent made
  pub all : AreOutputs o.job made
  pub stand : AllByRecursion (HoldsTable disk) made.tables
  pub next : are_next l.next_log l.next_table ≡ true
  pub frame : HasFrame (edits_grammar manifest_format) (edits_of b l o.job made)

module _ (b : Base) (l : Layout) (h : History) (o : OpenJob) (made : Made) (disk : DiskState) (base : IsBase b l h)
    (tidy : IsTidy (layout_logs l) l h) (holds : Holds b l disk) (can : CanInstall b l o made disk) where
  abbrev pub next : Layout
  next = installed o.job made l

  -- ---- the layout

  frozen_held : AllByRecursion (HoldsLog disk) l.frozen
  frozen_held = all_front (HoldsLog disk) l.frozen l.flushed (sources_held b l h base disk holds.files).sealed

  active_file : IsLogFile l.active
  active_file = of b.before b.state.head holds.files.logs
    where
      of : (ss : List Segment) (least : ℕ) → HoldsLogs least (ss ++ l.active ∷ []) disk → IsLogFile l.active
      of [] least (from, between, readable, have, stands, rest) = record { readable = readable; have = have }
      of (x ∷ ss) least (from, between, readable, have, stands, rest) = of ss (x.number + 1) rest

  put : IsPutTidy l h o made
  put = record {
    tidy = tidy;
    goes = can.goes;
    lent = can.lent;
    all = can.all;
    logs = (active_file, all_each (HoldsLog disk) IsLogFile l.frozen (λ x held. held.is) frozen_held);
  }

  -- Logs that stay are found as before.
  pub stays : IsWider (sealed next) (sealed l)
  stays = logs_put l h o made put

  still_tidy : IsTidy (layout_logs l) next h
  still_tidy = still_put l h o made put

  -- It is tidy with the logs that stay.
  pub tidy_then : IsTidy (layout_logs next) next h
  tidy_then = tidy_put l h o made put

  -- ---- which logs its tables lead into

  -- it is one of those that tables led into
  abbrev WasLed : ℕ → Type 0
  WasLed n = IsAmong (led_into (found_levels l.levels)) n

  were_led : AllByRecursion (λ (t : Table). AreFarTo WasLed t.entries) (tables l)
  were_led = all_each (λ (t : Table). AllByRecursion (λ p. WasLed p.segment) (points_of t.entries))
      (λ (t : Table). AreFarTo WasLed t.entries) (tables l) (λ t points. far_points WasLed t.entries points) (points_led l.levels)

  -- The logs that its tables lead into stay, and have frames.
  pub led_then : (n : ℕ) → IsAmong (led_into (found_levels next.levels)) n → IsFramedAmong (sealed next) n
  led_then n among =
      by (among_in (IsThere (sealed next)) (led_into (found_levels next.levels)) n
      (led_in (IsThere (sealed next)) next.levels (tables_far (sealed next) (tables next) still_tidy.placed)) among)
    where
      was : WasLed n
      was = among_in WasLed (led_into (found_levels next.levels)) n
          (led_in WasLed next.levels (each_put l h o made put (λ (t : Table). AreFarTo WasLed t.entries) were_led
          (each_entry_put l h o made put (λ (e : Entry). IsFarTo WasLed e.body) were_led))) among

      some_same : (x y : Segment) → Some x ≡ Some y → x ≡ y
      some_same x y e = cc

      by : IsThere (sealed next) n → IsFramedAmong (sealed next) n
      by (log, at) =
          let before = base.led n was in
          let same : log ≡ before.log = some_same log before.log (sym (stays n log at) ∙ before.at) in
          record { log = log; at = at; framed = ap has_frames same ∙ before.framed }

  -- ---- the base

  abbrev pub later : Base
  later = switched_base b (edits_of b l o.job made)
      (state b l h disk base tidy holds o can.goes.open_is made can.lent can.all can.stand can.next) b.before

  -- Its base is the one behind the switch,
  pub base_then : IsBase later next h
  base_then = record {
    numbered = base.numbered;
    made = state_more b.manifest.number b.first b.others (edits_of b l o.job made) b.state later.state base.made
        (install_applies b l h disk base tidy holds o can.goes.open_is made can.lent can.all can.stand can.next);
    goes = base.goes;
    levels = levels_are b l h disk base tidy holds o can.goes.open_is made can.lent can.all can.stand can.next;
    frozen = base.frozen;
    led = led_then;
    keep = base.keep;
    since = base.since;
    gone = refl;
    covered = base.covered;
    format = base.format;
    spared = rest_spares_installed l h o.job o.moved made (tidy.job o can.goes.open_is) can.all base.spared;
  }

  -- and its files are those that stand.
  pub files_then : HoldsFiles later next disk
  files_then = record {
    logs = holds.files.logs;
    tables = each_put l h o made put (HoldsTable disk) holds.files.tables can.stand;
    flushed = all_filtered (HoldsLog disk) (λ (x : Segment). not (is_idle (put_in o.job made l) x)) l.flushed holds.files.flushed;
  }
