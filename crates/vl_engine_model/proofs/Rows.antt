-- Worked layouts, which hold by computing: what scripts don't print of places, sources and shares.
use Rattle.std.proofs.Common.{◌≡◌, ℕ, ◌+◌, List, [], ◌∷◌, map, length, refl}
use Rattle.std.specs.Prelude.{Option, Some, None, replicate}
use Rattle.std.specs.FinMap.{empty}
use Rattle.std.specs.List.{sum_by}
use Rattle.vl_model.specs.Cutting.{block_frame_length, blocks, filter_frame_length, footer_frame_length, index_frame_length}
use Rattle.vl_model.specs.Formats.{log_format, table_format}
use Rattle.vl_model.specs.Keys.{Stored, untagged}
use Rattle.vl_model.specs.History.{History}
use Rattle.vl_model.specs.Frames.{frame_length}
use Rattle.vl_model.specs.Winners.{winner}
use Rattle.vl_model.specs.declared.change.Change.{Change}
use Rattle.vl_model.specs.declared.change.Change.TheVariants.{Set}
use Rattle.vl_model.specs.declared.entry.Body.TheVariants.{Inline, Far}
use Rattle.vl_model.specs.declared.log_frame.LogFrame.TheVariants.{Committed}
use Rattle.vl_engine_model.specs.Logs.{LogRecord, records}
use Rattle.vl_engine_model.specs.Relocation.{Pass, Candidate}
use Rattle.vl_engine_model.specs.Sources.{sources}
use Rattle.vl_engine_model.specs.Start.{fresh_layout}
use Rattle.vl_engine_model.specs.Ruling.{Ruling, logged}
use Rattle.vl_engine_model.specs.Jobs.{nothing_made}
use Rattle.vl_engine_model.specs.Rulings.Begin.{begin_ruling}
use Rattle.vl_engine_model.specs.Rulings.Drain.{drain_ruling}
use Rattle.vl_engine_model.specs.Rulings.Flush.{flush_ruling}
use Rattle.vl_engine_model.specs.Rulings.Install.{InstallAnswer, install_ruling}
use Rattle.vl_engine_model.specs.Rulings.Next.{next_ruling}
use Rattle.vl_engine_model.specs.Rulings.Pick.{PickAnswer, Picked, InvalidRequest, Rejected, NoRewrite, pick_ruling}
use Rattle.vl_engine_model.specs.Rulings.Relocate.{MoveAnswer, relocate_ruling}
use Rattle.vl_engine_model.specs.Rulings.EndPass.{end_pass_ruling}
use Rattle.vl_engine_model.specs.Rulings.Rotate.{rotate_ruling}
use Rattle.vl_engine_model.specs.Rulings.Sweep.{Removed, sweep_ruling, sweep_to_ruling}
use Rattle.vl_engine_model.specs.declared.file_name.FileName.TheVariants.{Log, Table as TableFile}
use Rattle.vl_engine_model.specs.declared.job.Job.{Job}
use Rattle.vl_engine_model.specs.declared.job.Target.TheVariants.{InPlace}
use Rattle.vl_engine_model.specs.declared.layout.Layout.{Layout}
use Rattle.vl_engine_model.specs.declared.segment.SegmentStat.{SegmentStat}

abbrev at : ℕ → History
at number = record { first = number; base = empty; commits = [] }

-- the longest value that stands beside its key, and two longer ones
abbrev short : Stored
short = untagged (replicate 64 0xaa)

abbrev long : Stored
long = untagged (replicate 65 0xaa)

abbrev long_too : Stored
long_too = untagged (replicate 65 0xbb)

abbrev fresh : Layout
fresh = fresh_layout 1073741824

abbrev stat : ℕ → ℕ → ℕ → SegmentStat
stat segment bytes live = record { segment = segment; bytes = bytes; live = live }

abbrev rotated : Layout → Layout
rotated l = (rotate_ruling l (at 0)).layout

abbrev flushed : Layout → Layout
flushed l = (flush_ruling l (at 0)).layout

-- a commit of one write, with its rotation and flush
abbrev written : ℕ → List ℕ → Change → Layout → Layout
written number key change l = flushed (rotated (logged (Committed number ((key, change) ∷ [])) l))

-- ---- a short and a long value

abbrev two_values : Layout
two_values = logged (Committed 1 ((0x61 ∷ [], Set short) ∷ (0x62 ∷ [], Set long) ∷ [])) fresh

two_values_logged : (two_values.active.length ≡ 188) × (map (λ (r : LogRecord). r.place) (records two_values.active) ≡ 33 ∷ 106 ∷ [])
two_values_logged = (refl, refl)

-- the longer one stands in the log, the shorter one beside its key
two_values_shown : sources (flushed (rotated two_values)) ≡
    record { key = 0x61 ∷ []; version = 1; body = Inline short }
    ∷ record { key = 0x62 ∷ []; version = 1; body = Far (record { segment = 1; place = 106; length = 74 }) } ∷ []
two_values_shown = refl

-- where its table has its filter and its footer, behind its block and its index
two_values_table : (16 + sum_by (block_frame_length table_format)
    (blocks table_format (sources (flushed (rotated two_values)))) + index_frame_length
    (blocks table_format (sources (flushed (rotated two_values)))) ≡ 171)
    × (filter_frame_length table_format (sources (flushed (rotated two_values))) ≡ 25)
    × (footer_frame_length table_format (sources (flushed (rotated two_values))) ≡ 75)
two_values_table = (refl, refl, refl)

-- a frame of one short write
one_write : frame_length log_format (Committed 3 ((0x61 ∷ [], Set (untagged (1 ∷ []))) ∷ [])) ≡ 35
one_write = refl

-- ---- an older version in the newest source

abbrev first_version : Layout
first_version = written 1 (0x61 ∷ []) (Set long) fresh

abbrev both_versions : Layout
both_versions = written 2 (0x61 ∷ []) (Set long_too) ((begin_ruling first_version (at 1)).layout)

abbrev pass_of : PickAnswer → Pass
pass_of (Picked pass) = pass
pass_of InvalidRequest = record { segment = 0; base = []; left = [] }
pass_of (Rejected segment) = record { segment = 0; base = []; left = [] }
pass_of NoRewrite = record { segment = 0; base = []; left = [] }

abbrev batch_of : Option (List Candidate) → List Candidate
batch_of None = []
batch_of (Some batch) = batch

-- a pass over the segment with the most garbage, its first batch and what that moves
abbrev picked : Layout → ℕ → Ruling PickAnswer
picked l number = pick_ruling l (at number) 1

abbrev found : Pass → List Candidate
found pass = batch_of (next_ruling fresh (at 0) pass).answer.0

abbrev moving : Layout → ℕ → Pass → List Candidate → Ruling MoveAnswer
moving l number pass batch = relocate_ruling l (at number) pass batch

-- its first segment, of two with the same share of garbage
abbrev older_pass : Pass
older_pass = pass_of (picked both_versions 2).answer

older_found : (older_pass.segment ≡ 1) × (length (found older_pass) ≡ 1)
older_found = (refl, refl)

-- the newer version is still the winner
newer_wins : winner (sources (moving (picked both_versions 2).layout 2 older_pass (found older_pass)).layout) (0x61 ∷ []) 2 ≡
    Some (record { key = 0x61 ∷ []; version = 2; body = Far (record { segment = 2; place = 33; length = 74 }) })
newer_wins = refl

-- ---- shares of garbage

-- of 99 bytes 25 are garbage: more than 25 per cent, and less than 26
garbage_share : map (λ percent. (pick_ruling first_version (at 1) percent).answer) (25 ∷ 26 ∷ []) ≡
    (picked first_version 1).answer ∷ NoRewrite ∷ []
garbage_share = refl

-- ---- a pointer that is shadowed

abbrev shadowed_pass : Pass
shadowed_pass = pass_of (picked first_version 1).answer

abbrev shadowed : Layout
shadowed =
    (end_pass_ruling (moving (picked first_version 1).layout 1 shadowed_pass (found shadowed_pass)).layout (at 1) shadowed_pass).layout

-- ---- what others may still look at

abbrev drained : Ruling (Option Job)
drained = drain_ruling shadowed (at 1) 1

abbrev installing : Option Job → Ruling InstallAnswer
installing None = install_ruling drained.layout (at 1)
    (record { inputs = []; target = InPlace; base = []; floor = 0; keep = 1 }) nothing_made
installing (Some job) = install_ruling drained.layout (at 1) job nothing_made

log_and_table_go : (sweep_ruling (installing drained.answer).layout (at 1)).gone ≡ TableFile 1 ∷ Log 1 ∷ []
log_and_table_go = refl

held_stay : ((sweep_to_ruling (installing drained.answer).layout (at 1) 3).answer ≡ Removed 0)
    × ((sweep_to_ruling (installing drained.answer).layout (at 1) 4).answer ≡ Removed 2)
held_stay = (refl, refl)
