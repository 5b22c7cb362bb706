-- What is kept of which files can go, behind a relocation.
use Rattle.std.specs.Prelude.{◌≡◌, ◌≤◌, ◌+◌, ℕ, nat_le, if◌then◌else◌, Bool, true, false, List, [], ◌∷◌, length, Option, None, Some, refl}
use Rattle.std.specs.Option.{option_map}
use Rattle.std.proofs.Common.{sym, ap, subst, ◌∙◌, arith}
use Rattle.vl_back.specs.declared.back.Back.{Back}
use Rattle.vl_engine_laws.specs.declared.kept.Core.{Core}
use Rattle.vl_space.specs.laws.StillRemoved.{pins_alike, removes_alike, removes_halted, removes_same}
use Rattle.vl_steps.specs.Relocating.{NotesMoves}
use Rattle.vl_space.specs.Removing.{Removes}
use Rattle.vl_engine_laws.specs.Lent.{lent_in}
use Rattle.vl_engine_laws.specs.declared.open.OpenMerge.{OpenMerge}
use Rattle.vl_space.specs.declared.kept.Removing.{Removing}
use Rattle.vl_engine_model.specs.Decides.{Decides, Effects, Outcome, as_before}
use Rattle.vl_engine_model.specs.Jobs.{lent_numbers}
use Rattle.vl_engine_model.specs.Relocation.{Candidate, Pass, moved_of}
use Rattle.vl_engine_model.specs.Ruling.{Ruling, halted_at, has_no_epoch, leaving}
use Rattle.vl_engine_model.specs.Rulings.Relocate.{Exhausted, Full, MoveAnswer, Moves, moves_at, relocate_of, relocate_ruling, relocate_unless}
use Rattle.vl_engine_model.specs.Rulings.Relocate.{relocated, with_moves}
use Rattle.vl_engine_model.specs.Sources.{sources}
use Rattle.vl_engine_model.specs.declared.file_name.FileName.{FileName}
use Rattle.vl_engine_model.specs.declared.job.OpenJob.{OpenJob}
use Rattle.vl_engine_model.specs.declared.layout.Layout.{Layout}
use Rattle.vl_model.specs.Conflicts.{Named}
use Rattle.vl_model.specs.Frames.{frame_length}
use Rattle.vl_model.specs.History.{History, last_number}
use Rattle.vl_model.specs.declared.counter.Counter.TheVariants as counter
use Rattle.vl_model.specs.declared.log_frame.LogFrame.TheVariants.{Relocated}
use Rattle.vl_model.specs.declared.log_frame.Moved.{Moved}
use Rattle.vl_pins.specs.Pins.{ArePinsOf}

-- ---- what the ruling leaves

-- What is so of the layout, and of that with moved records, is so of what the ruling leaves.
module _ (S : Layout → Type 0) (l : Layout) (h : History) (kept : S l) (done : (moved : List Moved) → S (relocated l moved)) where
  by_moved : (moved : List Moved) → S (relocate_of l h moved).layout
  by_moved [] = kept
  by_moved (m ∷ ms) = by (has_no_epoch l) (nat_le (l.active.length + frame_length l.active.format (Relocated (m ∷ ms))) l.room)
    where
      by : (none fits : Bool) → S (if none then leaving (Exhausted counter.Version) h l
          else (if fits
          then record { answer = Moves (length (m ∷ ms)); history = h; layout = relocated l (m ∷ ms); calls = 2; gone = [] }
          else leaving (Full l.active.length (frame_length l.active.format (Relocated (m ∷ ms)))) h l)).layout
      by true fits = kept
      by false true = done (m ∷ ms)
      by false false = kept

  pub left_by : (pass : Pass) (batch : List Candidate) → S (relocate_ruling l h pass batch).layout
  left_by pass batch = by l.halted
    where
      by : (o : Option FileName) → S (relocate_unless o l h pass batch).layout
      by (Some name) = kept
      by None = by_moved (moved_of (sources l) pass.segment (last_number h) batch)

-- What is told of moves leaves what was lent to a job, and its pin.
lent_kept : (number : ℕ) (moved : List Moved) (o : Option OpenJob)
    → length (lent_numbers (with_moves number moved o)) ≤ length (lent_numbers o)
lent_kept number moved None = omega arith
lent_kept number moved (Some job) = omega arith

pin_kept : (number : ℕ) (moved : List Moved) (o : Option OpenJob)
    → option_map (λ (j : OpenJob). j.pin.epoch) (with_moves number moved o) ≡ option_map (λ (j : OpenJob). j.pin.epoch) o
pin_kept number moved None = refl
pin_kept number moved (Some job) = refl

module _ {H L : Type 0} (core after : Core H) (h : History) (l : Layout) (old new : Removing L)
    (logs : after.version.behind.logs.items ≡ core.version.behind.logs.items)
    (same : new ≡ old) (removes : Removes core old l) where
  stays : Removes after new l
  stays = removes_same core after old new l logs (ap (λ (r : Removing L). r.stock) same)
      (subst (λ (r : Removing L). ArePinsOf r.pins l) (sym same) removes.pins) removes

  moves : (moved : List Moved) → Removes after new (relocated l moved)
  moves moved =
      removes_alike l (relocated l moved) (record {
        flushed = refl;
        frozen = refl;
        levels = refl;
        retired = refl;
        active = refl;
        later = omega arith;
        lent = lent_kept (l.epoch + 1) moved l.job;
        running = λ e. e;
      }) core after logs old new (ap (λ (r : Removing L). r.stock) same)
      (pins_alike new.pins l (relocated l moved) refl (pin_kept (l.epoch + 1) moved l.job) refl (omega arith)
      (subst (λ (r : Removing L). ArePinsOf r.pins l) (sym same) removes.pins)) removes

  -- So it is whatever the call came to.
  pub removes_by : (S : History → Layout → Type 0) (pass : Pass) (batch : List Candidate) (outcome : Outcome MoveAnswer) (effects : Effects)
      → Decides S h l (relocate_ruling l h pass batch) (as_before l l) outcome effects
      → Decides (λ _ (k : Layout). Removes after new k) h l (relocate_ruling l h pass batch) (as_before l l) outcome effects
  removes_by S pass batch outcome effects decides = record {
    answered = λ a is. ((decides.answered a is).0, left_by (λ (k : Layout). Removes after new k) l h stays moves pass batch);
    did = decides.did;
    no_memory = λ is. (stays, (decides.no_memory is).1);
    failed = λ name is. (
      (decides.failed name is).0,
      removes_halted after new l name (subst (λ (r : Removing L). ArePinsOf r.pins l) (sym same) removes.pins),
    );
    damaged = λ name place is. (stays, (decides.damaged name place is).1);
  }

-- ---- memory

pub lent_noted : (merging now : Option OpenMerge) (notes : List Named) → NotesMoves merging now notes → lent_in now ≡ lent_in merging
lent_noted None None notes did = refl
lent_noted None (Some after) notes did = absurd did
lent_noted (Some merge) None notes did = absurd did
lent_noted (Some merge) (Some after) notes did = λ i. (did.0 i).items
