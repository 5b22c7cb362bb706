-- What a frame that is lawful and lies at its place gives of its records.
use Rattle.std.proofs.Common.{◌≡◌, ℕ, ◌+◌, ◌<◌, ◌≤◌, ◌^◌, Bool, true, false, List, [], ◌∷◌, map, length, drop, refl, sym}
use Rattle.std.proofs.Common.{subst, arith}
use Rattle.std.proofs.lemmas.Bool.Decides.{nat_tests}
use Rattle.std.proofs.lemmas.List.Elements.{All-from_recursion}
use Rattle.std.specs.List.{All, AllByRecursion}
use Rattle.std.specs.Prelude.{if◌then◌else◌, nat_le}
use Rattle.vl_collect.proofs.Rising.{but_first, frame_rises, lower}
use Rattle.vl_collect.specs.Batches.{MayMove, Rise, read_place}
use Rattle.vl_model.specs.Formats.{log_format}
use Rattle.vl_model.specs.Frames.{record_length}
use Rattle.vl_model.specs.Keys.{Stored}
use Rattle.vl_model.specs.declared.change.Change.TheVariants.{Set}
use Rattle.vl_seglog.specs.Bodies.{IsFrame}
use Rattle.vl_seglog.specs.Moves.{IsMoved}
use Rattle.vl_seglog.specs.Placed.{AreMovedFrom, AreRecordsFrom, IsFrameAt, RecordsLie, records_of}
use Rattle.vl_seglog.specs.Reading.{frame_of, moved_of, said_of, write_of}
use Rattle.vl_seglog.specs.Record.{IsRecord}
use Rattle.vl_seglog.specs.declared.frame.Frame.{Frame}
use Rattle.vl_seglog.specs.declared.frame.ReadRecord.{ReadRecord}
use Rattle.vl_seglog.specs.declared.frame.Said.{Said}
use Rattle.vl_seglog.specs.declared.frame.Said.TheVariants as says

-- what a log of some format may have, a log that is written may have
written : (format : ℕ) (key : List ℕ) (value : Stored) → IsRecord format key (Set value) → IsRecord log_format key (Set value)
written format key value is = record {
  key_length = is.key_length;
  value_length = by (nat_le format 1) is.value_length;
  tag = refl;
}
  where
    by : (b : Bool) → nat_le (length value.bytes) (if b then 1048576 else 8388608) ≡ true
        → nat_le (length value.bytes) 8388608 ≡ true
    by true is = grind (arith, nat_tests)
    by false is = is

of_set : (format : ℕ) (r : ReadRecord) → r.version < 2 ^ 64 → IsRecord format r.key r.change → MayMove r
of_set format r version is value sets =
    record { version = version; lawful = written format r.key value (subst (IsRecord format r.key) sets is) }

committed_move : (format log number place : ℕ) → number < 2 ^ 64 → (rs : List ReadRecord)
    → AllByRecursion (λ write. IsRecord format write.0 write.1) (map write_of rs) → AreRecordsFrom format log number place rs
    → AllByRecursion MayMove rs
committed_move format log number place fits [] all lie = tt
committed_move format log number place fits (r ∷ rs) all lie = (
  of_set format r (let is = lie.0.version_is in omega (arith, is, fits)) all.0,
  committed_move format log number (place + record_length format r.key r.change) fits rs all.1 lie.1,
)

moved_move : (format log place : ℕ) (rs : List ReadRecord) → AllByRecursion (IsMoved format) (map moved_of rs)
    → AreMovedFrom format log place rs → AllByRecursion MayMove rs
moved_move format log place [] all lie = tt
moved_move format log place (r ∷ rs) all lie = (
  of_set format r all.0.version (subst (IsRecord format r.key) (sym lie.0.sets) all.0.lawful),
  moved_move format log (place + (8 + record_length format r.key r.change)) rs all.1 lie.1,
)

said_moves : (format log place : ℕ) (s : Said) → IsFrame format (said_of s) → RecordsLie format log place s
    → AllByRecursion MayMove (records_of s)
said_moves format log place (says.Commit c) lawful lie =
    let last = lawful.last in
    committed_move format log c.number (place + 12) (omega (arith, last)) c.records.items lawful.lawful lie
said_moves format log place (says.Moves rs) lawful lie = moved_move format log (place + 4) rs.items lawful.lawful lie

-- Each that sets its key may be moved.
pub frame_moves : (format log place : ℕ) (f : Frame) (recs : List ReadRecord) → recs ≡ records_of f.said
    → IsFrame format (frame_of f) → IsFrameAt format log place f → All MayMove recs
frame_moves format log place f recs are lawful at =
    subst (All MayMove) (sym are)
    (All-from_recursion MayMove (records_of f.said) (said_moves format log (place + 5) f.said lawful at.records))

-- They stand behind whatever ends where the frame begins.
pub frame_behind : (format log place : ℕ) (f : Frame) (recs : List ReadRecord) → recs ≡ records_of f.said
    → IsFrameAt format log place f → (low done : ℕ) → low ≤ place → Rise read_place low (drop done recs) (place + f.length)
frame_behind format log place f recs are at low done le =
    lower read_place low place (drop done recs) (place + f.length) le
    (but_first read_place place recs (place + f.length) done
    (subst (λ (rs : List ReadRecord). Rise read_place place rs (place + f.length)) (sym are) (frame_rises format log place f at)))
