-- The layout with which an engine begins shows what reads showed: its pointers lead where the image's do.
use Rattle.std.specs.Prelude.{◌≡◌, ℕ, List, [], ◌∷◌, ◌++◌, Option, Some, refl}
use Rattle.std.specs.List.{AllByRecursion, filter}
use Rattle.std.specs.Option.{option_map}
use Rattle.std.proofs.Common.{sym, ap, subst, ◌∙◌}
use Rattle.vl_disk.specs.Crash.{Image}
use Rattle.vl_engine_laws.specs.Begun.{layout_begun}
use Rattle.vl_engine_laws.specs.Files.{found_levels}
use Rattle.vl_engine_laws.specs.Pointed.{IsFramedAmong, layout_logs, stored_among, stored_of}
use Rattle.vl_engine_laws.specs.Shown.{EntriesShow, HasFramedAmong, Shown, entries_among, logs_entries}
use Rattle.vl_engine_laws.specs.Spared.{IsSpared, IsWhole, Spares}
use Rattle.vl_engine_laws.specs.laws.AmongLaws.{tables_led}
use Rattle.vl_engine_laws.specs.laws.BegunLaws.{as_told, begun_led, led_alike, one_opening}
use Rattle.vl_engine_laws.specs.laws.FileLaws.{segment_number}
use Rattle.vl_engine_laws.specs.laws.LaidLaws.{memtable_near}
use Rattle.vl_engine_laws.specs.laws.LedLaws.{AreFarTo, IsFarTo}
use Rattle.vl_engine_laws.specs.laws.LogEntries.{entries-newest}
use Rattle.vl_engine_laws.specs.laws.StartLaws.{before_found}
use Rattle.vl_engine_model.specs.Logs.{memtable}
use Rattle.vl_engine_model.specs.Shown.{IsOf}
use Rattle.vl_engine_model.specs.Shows.{AreUpTo, Shows}
use Rattle.vl_engine_model.specs.Sources.{sources}
use Rattle.vl_engine_model.specs.Start.{has_frames}
use Rattle.vl_engine_model.specs.Tidy.{sealed}
use Rattle.vl_engine_model.specs.declared.layout.Layout.{Layout}
use Rattle.vl_engine_model.specs.declared.segment.Segment.{Segment}
use Rattle.vl_engine_model.specs.laws.ShowsLaws.{all_both, itself, shows_replaced}
use Rattle.vl_model.specs.History.{History, last_number}
use Rattle.vl_model.specs.Versions.{low}
use Rattle.vl_model.specs.Winners.{resolved}
use Rattle.vl_model.specs.declared.entry.Body.TheVariants.{Far, Gone, Inline, Logged}
use Rattle.vl_model.specs.declared.entry.Body.{Body}
use Rattle.vl_model.specs.declared.entry.Entry.{Entry}
use Rattle.vl_model.specs.declared.log_frame.LogFrame.{LogFrame}
use Rattle.vl_model.specs.declared.pointer.Pointer.{Pointer}
use Rattle.vl_recover.specs.opening.Answers.{Finds, logs_then}
use Rattle.vl_recover.specs.opening.HeldFiles.{but_last}
use Rattle.vl_recover.specs.opening.Opening.{IsAmong, Opening, led_into}
use Rattle.vl_seglog.specs.Frames.{log_bytes}
use Rattle.vl_seglog.specs.Stored.{stored_at}

logs_near : (P : ℕ → Type 0) (ss : List Segment) → AreFarTo P (logs_entries ss)
logs_near P [] = tt
logs_near P (s ∷ ss) = all_both (λ (e : Entry). IsFarTo P e.body) (logs_entries ss) (memtable s) (logs_near P ss) (memtable_near P s)

module _ {read : Image} (found : Finds read) (h : History) (shown : Shown read h (last_number h)) (room : ℕ) where
  abbrev begun : Layout
  begun = layout_begun room found shown (but_last (logs_then found))

  abbrev IsLed : ℕ → Type 0
  IsLed n = IsAmong (led_into (found_levels shown.levels)) n

  -- a log that tables lead into is found with what reads gave of it
  stored_same : (p : Pointer) (key : List ℕ) → IsLed p.segment → stored_among (sealed begun) p key ≡ stored_among shown.sealed p key
  stored_same p key among =
      by (begun_led found h shown room p.segment among) (shown.led p.segment (as_told found h shown room p.segment among))
    where
      by : IsFramedAmong (sealed begun) p.segment → HasFramedAmong read shown.sealed p.segment
          → stored_among (sealed begun) p key ≡ stored_among shown.sealed p key
      by is has =
          let x = is.log in
          let y = has.is.log in
          let (formats, frames) = led_alike found h shown room p.segment is has in
          let number : x.number ≡ y.number =
          segment_number (sealed begun) p.segment x is.at ∙ sym (segment_number shown.sealed p.segment y has.is.at) in
          ap (λ (o : Option Segment). stored_of o p key) is.at
          ∙ ap (λ (f : ℕ). stored_at f (log_bytes f x.number x.frames) p key) formats
          ∙ ap (λ (n : ℕ). stored_at y.format (log_bytes y.format n x.frames) p key) number
          ∙ ap (λ (fs : List LogFrame). stored_at y.format (log_bytes y.format y.number fs) p key) frames
          ∙ sym (ap (λ (o : Option Segment). stored_of o p key) has.is.at)

  alike : (key : List ℕ) (body : Body) → IsFarTo IsLed body
      → resolved (layout_logs begun) key body ≡ resolved (stored_among shown.sealed) key body
  alike key (Inline value) far = refl
  alike key Gone far = refl
  alike key (Far p) far = ap (option_map Some) (stored_same p key far)
  alike key (Logged value p) far = refl

  all_alike : (es : List Entry) → AreFarTo IsLed es
      → AllByRecursion (λ (e : Entry). resolved (layout_logs begun) e.key e.body
      ≡ resolved (stored_among shown.sealed) e.key e.body) es
  all_alike [] far = tt
  all_alike (e ∷ es) far = (alike e.key e.body far.0, all_alike es far.1)

  -- Its sources are what reads gave,
  pub begun_sources : logs_entries shown.opening.logs ++ entries_among shown.levels
      ≡ sources (layout_begun room found shown (but_last (logs_then found)))
  begun_sources =
      ap (λ (o : Opening). logs_entries o.logs ++ entries_among shown.levels) (one_opening found h shown room)
      ∙ ap (λ (ss : List Segment). logs_entries ss ++ entries_among shown.levels) (sym (before_found found))
      ∙ ap (λ (es : List Entry). es ++ entries_among shown.levels) (sym (entries-newest (filter has_frames (but_last (logs_then found)))))

  -- and show the history in its logs.
  pub begun_shows : EntriesShow found.opening.state.keep found.opening.state.since found.opening.state.gone
      (layout_logs (layout_begun room found shown (but_last (logs_then found))))
      (sources (layout_begun room found shown (but_last (logs_then found)))) h (last_number h)
  begun_shows = record {
    shows = subst (λ (es : List Entry). Shows (layout_logs begun) es h (low h (last_number h) begun.keep begun.since) (last_number h))
        begun_sources
        (shows_replaced (stored_among shown.sealed) (layout_logs begun) read_entries read_entries h
        (low h (last_number h) begun.keep begun.since) (last_number h)
        (itself (stored_among shown.sealed) (layout_logs begun) read_entries (all_alike read_entries entries_far))
        was.shows);
    versions = subst (AllByRecursion (IsOf h)) begun_sources was.versions;
    up_to = subst (AreUpTo (last_number h)) begun_sources was.up_to;
    spared = subst (λ (es : List Entry). IsSpared h es (last_number h) (last_number h) begun.keep begun.since) begun_sources was.spared;
    whole = subst (λ (es : List Entry). IsWhole h es (last_number h) (last_number h) begun.gone) begun_sources was.whole;
  }
    where
      read_entries : List Entry
      read_entries = logs_entries shown.opening.logs ++ entries_among shown.levels

      was : EntriesShow found.opening.state.keep found.opening.state.since found.opening.state.gone (stored_among shown.sealed)
          (logs_entries shown.opening.logs ++ entries_among shown.levels) h (last_number h)
      was = subst (λ (o : Opening). EntriesShow o.state.keep o.state.since o.state.gone (stored_among shown.sealed)
          (logs_entries shown.opening.logs ++ entries_among shown.levels) h (last_number h)) (one_opening found h shown room) shown.entries

      entries_far : AreFarTo IsLed (logs_entries shown.opening.logs ++ entries_among shown.levels)
      entries_far = all_both (λ (e : Entry). IsFarTo IsLed e.body) (logs_entries shown.opening.logs) (entries_among shown.levels)
          (logs_near IsLed shown.opening.logs) (tables_led shown.levels)

  -- and lack no version that they should have.
  pub begun_spares : Spares (layout_begun room found shown (but_last (logs_then found))) h
  begun_spares = record { past = begun_shows.spared; whole = begun_shows.whole }
