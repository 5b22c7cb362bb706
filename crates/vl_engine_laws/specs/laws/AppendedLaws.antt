-- A frame behind the active log of a disk that holds a layout, whatever the frame is: what a crash leaves meanwhile, and what is
-- held then. The tables stay, and the logs that they lead into.
use Rattle.std.specs.Prelude.{◌≡◌, ◌≤◌, ℕ, ◌+◌, List, [], ◌∷◌, ◌++◌, length, Option, Ok, refl}
use Rattle.std.proofs.Common.{sym, ap, subst, ◌∙◌, arith, ⊎_elim}
use Rattle.vl_disk.specs.Changes.{SameElsewhere}
use Rattle.vl_disk.specs.Crash.{Image, WhileAppending, WhileSyncing}
use Rattle.vl_disk.specs.DiskState.{DiskState, appended, synced}
use Rattle.vl_disk.specs.Started.{read_left}
use Rattle.vl_disk.specs.declared.name.Name.TheVariants.{Log}
use Rattle.vl_disk.specs.declared.name.Name.{Name}
use Rattle.vl_disk.specs.laws.Lawful.{appended_lawful, synced_lawful}
use Rattle.vl_engine_laws.specs.Files.{found_levels}
use Rattle.vl_engine_laws.specs.Held.{Base, Holds, HoldsSources, IsBase, logs_from}
use Rattle.vl_engine_laws.specs.Pointed.{layout_logs}
use Rattle.vl_engine_laws.specs.Shown.{LeavesBetween, ShowsBetween}
use Rattle.vl_engine_laws.specs.Spared.{at_rest, Spares}
use Rattle.vl_engine_laws.specs.Writing.{WhileWriting}
use Rattle.vl_engine_laws.specs.laws.HeldLaws.{image_shows, led_stay, sources_held, store_held, view}
use Rattle.vl_engine_laws.specs.laws.KeptLaws.{AreOtherLogs, appending_elsewhere, base_kept, each_log_kept}
use Rattle.vl_engine_laws.specs.laws.KeptLaws.{manifests_beside_log, sources_kept, syncing_elsewhere, tables_beside_log}
use Rattle.vl_engine_laws.specs.laws.KeptLaws.{tables_kept, written_elsewhere}
use Rattle.vl_engine_laws.specs.laws.SegmentLaws.{not_among, other_behind, other_logs}
use Rattle.vl_engine_laws.specs.laws.ShownLaws.{shown_later}
use Rattle.vl_frame.specs.Runs.{HasFrame}
use Rattle.vl_engine_model.specs.Logs.{log_length}
use Rattle.vl_engine_model.specs.Ruling.{logged}
use Rattle.vl_engine_model.specs.Sources.{tables}
use Rattle.vl_engine_model.specs.Tidy.{IsTidy, sealed}
use Rattle.vl_engine_model.specs.declared.job.OpenJob.{OpenJob}
use Rattle.vl_engine_model.specs.declared.layout.Layout.{Layout}
use Rattle.vl_engine_model.specs.declared.live.Live.{Live}
use Rattle.vl_engine_model.specs.declared.segment.Segment.{Segment}
use Rattle.vl_model.specs.Frames.{frame_length}
use Rattle.vl_model.specs.History.{Extends, History, last_number}
use Rattle.vl_model.specs.declared.log_frame.LogFrame.{LogFrame}
use Rattle.vl_recover.specs.crash.Alike.{IsLeft}
use Rattle.vl_recover.specs.crash.Held.{GoOn, HoldsLogs, HoldsStore, View, opening_held}
use Rattle.vl_recover.specs.crash.Starts.{AllStay, MayOpen}
use Rattle.vl_recover.specs.laws.crash.AppendLaws.{OpensEither, append_holds, append_leaves, append_may_open}
use Rattle.vl_recover.specs.laws.crash.AppendLaws.{goes_on, sync_leaves, sync_may_open, with_frame}
use Rattle.vl_recover.specs.laws.crash.TornFrames.{frame_behind}
use Rattle.vl_recover.specs.laws.opening.ReadImage.{read_image}
use Rattle.vl_recover.specs.opening.Opening.{IsAmong, Opens, led_into}
use Rattle.vl_recover.specs.opening.Walk.{counted_frame}
use Rattle.vl_seglog.specs.Frames.{frames_grammar}
use Rattle.vl_seglog.specs.laws.FrameLaws.{frames_end-more}

-- the layout with the frame, and with what else memory has of it then
abbrev pub with_more : LogFrame → List Live → ℕ → Option OpenJob → Layout → Layout
with_more f live version job l = record (logged f l) { live = live; epoch = version; job = job }

-- the frame goes on from the one history's last number to the other's
abbrev pub LeadsOn : Layout → LogFrame → (h longer : History) → Type 0
LeadsOn l f h longer =
    counted_frame (last_number h) (log_length l.active.format l.active.frames) f ≡ Ok (last_number longer)

-- of a frame, over a layout that a disk holds
module _ (b : Base) (l : Layout) (h : History) (f : LogFrame) (live : List Live) (version : ℕ) (job : Option OpenJob)
    (longer : History) (extends : Extends h longer) (up : last_number h ≤ last_number longer) (leads : LeadsOn l f h longer)
    (base : IsBase b l h) (tidy : IsTidy (layout_logs l) l h) where
  abbrev after : Layout
  after = with_more f live version job l

  -- the bytes that are appended
  abbrev bytes : List ℕ
  bytes = frame_behind l.active.format l.active.number l.active.frames f

  abbrev log_name : Name
  log_name = Log l.active.number

  -- the disk on which the frame is durable
  abbrev written : DiskState → DiskState
  written disk = synced log_name (appended log_name bytes (length bytes) disk)

  -- the active log with the frame
  active_more : with_frame f l.active ≡ after.active
  active_more =
      let size = frame_length l.active.format f in
      let frames = l.active.frames ++ f ∷ [] in
      let long : log_length l.active.format frames ≡ l.active.length + size =
      frames_end-more l.active.format l.active.frames f ∙ ap (λ (n : ℕ). n + size) (sym tidy.true_logs.0) in
      λ i. record { format = l.active.format; number = l.active.number; length = long i; frames = frames }

  goes_next : GoOn b.state.covered (b.before ++ with_frame f l.active ∷ []) (last_number longer)
  goes_next = goes_on b.state.covered b.before l.active f (last_number h) (last_number longer) base.goes leads

  -- the other sealed logs are others than the active one, so no table leads into it
  apart : AreOtherLogs (Log l.active.number) (sealed l)
  apart = other_logs l.active.number (sealed l) tidy.distinct.0

  unled : IsAmong (led_into (found_levels l.levels)) l.active.number → ⊥
  unled among =
      let into = base.led l.active.number among in
      not_among l.active.number (sealed l) tidy.distinct.0 into.log into.at

  -- The same base is that of the layout with the frame.
  pub appended_base : Spares (at_rest after) longer → IsBase b (with_more f live version job l) longer
  appended_base spared = record {
    numbered = base.numbered;
    made = base.made;
    goes = subst (λ (s : Segment). GoOn b.state.covered (b.before ++ s ∷ []) (last_number longer)) active_more goes_next;
    levels = base.levels;
    frozen = base.frozen;
    led = base.led;
    format = base.format;
    covered = base.covered;
    keep = base.keep;
    since = base.since;
    gone = base.gone;
    spared = spared;
  }

  module _ (disk : DiskState) (holds : Holds b l disk) (has : HasFrame (frames_grammar l.active.format) f) where
    -- what is needed of it, as reads give it
    abbrev seen : View
    seen = view b l h base disk (sources_held b l h base disk holds.files) (read_image disk).0
        (read_left (read_image disk).0 disk (read_image disk).1)

    store : HoldsStore b.state seen (logs_from b l) disk
    store = store_held b l h base disk holds (read_image disk).0 (read_left (read_image disk).0 disk (read_image disk).1) tidy.levels

    store_then : HoldsStore b.state seen (b.before ++ with_frame f l.active ∷ []) (written disk)
    store_then = append_holds b.state seen b.before l.active f disk store unled has

    -- After both calls the disk holds it.
    pub appended_holds : Holds b (with_more f live version job l) (written disk)
    appended_holds = record {
      base = base_kept log_name disk (written disk) (written_elsewhere log_name bytes disk) b
          (manifests_beside_log b.manifest.number l.active.number) holds.base;
      files = record {
        logs = subst (λ (s : Segment). HoldsLogs b.state.head (b.before ++ s ∷ []) (written disk)) active_more store_then.logs_are;
        tables = tables_kept log_name disk (written disk) (written_elsewhere log_name bytes disk) (tables l)
            (tables_beside_log l.active.number (tables l)) holds.files.tables;
        flushed = each_log_kept log_name disk (written disk) (written_elsewhere log_name bytes disk) l.flushed
            (other_behind log_name l.frozen l.flushed apart) holds.files.flushed;
      };
      durable = store_then.durable;
      lawful = synced_lawful (appended log_name bytes (length bytes) disk)
          (appended_lawful disk holds.lawful log_name bytes (length bytes)) log_name;
    }

    -- ---- meanwhile

    module _ (tidy_after : IsTidy (layout_logs after) after longer) (spared_after : Spares (at_rest after) longer) where
      sources_now : (now : DiskState) → SameElsewhere log_name disk now → HoldsSources l now
      sources_now now same = sources_kept log_name disk now same l (tables_beside_log l.active.number (tables l)) apart
          (sources_held b l h base disk holds.files)

      shown_either : (now : DiskState) → SameElsewhere log_name disk now → (image : Image) → IsLeft now image
          → OpensEither b.state seen b.before l.active f (last_number h) (last_number longer) image
          → ShowsBetween h longer image
      shown_either now same image left either = ⊎_elim
          (λ (opens : Opens image (Ok (opening_held b.state seen (b.before ++ l.active ∷ []) (last_number h)))). (
            last_number h,
            omega arith,
            up,
            shown_later h longer extends image (last_number h) (omega arith)
                (image_shows b l h base tidy now (sources_now now same) image left.left seen refl opens),
          ))
          (λ (opens : Opens image (Ok (opening_held b.state seen (b.before ++ with_frame f l.active ∷ []) (last_number longer)))). (
            last_number longer,
            up,
            omega arith,
            image_shows b after longer (appended_base spared_after) tidy_after now (sources_then now same) image left.left seen refl
                (subst (λ (s : Segment). Opens image (Ok (opening_held b.state seen (b.before ++ s ∷ []) (last_number longer))))
                active_more opens),
          ))
          either
        where
          sources_then : (d : DiskState) → SameElsewhere log_name disk d → HoldsSources after d
          sources_then d elsewhere =
              let kept = sources_now d elsewhere in record { tables = kept.tables; sealed = kept.sealed }

      -- Whatever a crash leaves while the frame is appended shows the history, or the one with the frame.
      pub appending_shows : (now : DiskState) → WhileAppending log_name bytes disk now → LeavesBetween h longer now
      appending_shows now during image left =
          shown_either now (appending_elsewhere log_name bytes disk now during) image left
          (append_leaves b.state seen b.before l.active f disk store unled has
          (last_number h) (last_number longer) base.goes goes_next now during image left)

      -- So does whatever it leaves while the frame is made durable,
      pub syncing_shows : (now : DiskState) → WhileSyncing log_name (appended log_name bytes (length bytes) disk) now
          → LeavesBetween h longer now
      syncing_shows now during image left =
          shown_either now (syncing_elsewhere log_name bytes disk now during) image left
          (sync_leaves b.state seen b.before l.active f disk store unled has
          (last_number h) (last_number longer) base.goes goes_next now during image left)

      -- and while it is written at all.
      pub writing_shows : (now : DiskState) → WhileWriting log_name bytes disk now → LeavesBetween h longer now
      writing_shows now during = ⊎_elim
          (λ (appending : WhileAppending log_name bytes disk now). appending_shows now appending)
          (λ (syncing : WhileSyncing log_name (appended log_name bytes (length bytes) disk) now). syncing_shows now syncing)
          during

    stay : AllStay (read_image disk).0 (led_into (found_levels l.levels))
    stay = led_stay b l h base disk (sources_held b l h base disk holds.files) (read_image disk).0
        (read_left (read_image disk).0 disk (read_image disk).1)

    -- A store may be opened on the disk again, also where the append failed,
    pub appending_opens_again : (now : DiskState) → WhileAppending log_name bytes disk now → MayOpen now
    appending_opens_again =
        append_may_open b.state seen b.before l.active f disk store unled has holds.lawful base.format stay

    -- and where the sync did.
    pub syncing_opens_again : (now : DiskState) → WhileSyncing log_name (appended log_name bytes (length bytes) disk) now
        → MayOpen now
    syncing_opens_again =
        sync_may_open b.state seen b.before l.active f disk store unled has holds.lawful base.format stay

    pub writing_opens_again : (now : DiskState) → WhileWriting log_name bytes disk now → MayOpen now
    writing_opens_again now during = ⊎_elim
        (λ (appending : WhileAppending log_name bytes disk now). appending_opens_again now appending)
        (λ (syncing : WhileSyncing log_name (appended log_name bytes (length bytes) disk) now). syncing_opens_again now syncing)
        during
