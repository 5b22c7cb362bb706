-- What a relocation leaves, whatever the disk tells, and that a pass's log lasts.
use Rattle.std.proofs.Common.{◌≡◌, ℕ, zero, suc, List, [], ◌∷◌, ◌++◌, refl, sym, ap, subst}
use Rattle.std.specs.Global.{Global}
use Rattle.std.specs.Prelude.{Bool, true, false, ◌+◌, Vec, nat_le, if◌then◌else◌, Option, None, Some, Result, Ok, Err, is_some}
use Rattle.std.specs.Option.{option_map}
use Rattle.vl_engine_laws.specs.Lasts.{Lasts}
use Rattle.vl_steps.specs.Relocating.{MoveNotes, NotesMoves}
use Rattle.vl_steps.specs.declared.fails.MoveFail.{MoveFail}
use Rattle.vl_engine_laws.specs.declared.open.OpenMerge.{OpenMerge}
use Rattle.vl_engine_model.specs.Decides.{Answered, Damaged, Decides, Failed, NoMemory, Outcome, as_before, no_effects}
use Rattle.vl_engine_model.specs.LockHistory.{last_layout}
use Rattle.vl_engine_model.specs.Relocation.{Candidate, Pass, moved_of}
use Rattle.vl_engine_model.specs.Ruling.{Ruling, has_no_epoch}
use Rattle.vl_engine_model.specs.Rulings.Relocate as relocate
use Rattle.vl_engine_model.specs.Rulings.Relocate.{MoveAnswer, relocate_of, relocate_ruling, relocate_unless, with_moves}
use Rattle.vl_engine_model.specs.Sources.{sources}
use Rattle.vl_engine_model.specs.declared.file_name.FileName.{FileName}
use Rattle.vl_engine_model.specs.declared.job.OpenJob.{OpenJob}
use Rattle.vl_engine_model.specs.declared.layout.Layout.{Layout}
use Rattle.vl_engine_model.specs.declared.lock_history.LockEntry.{LockEntry}
use Rattle.vl_engine_model.specs.declared.lock_history.LockStep.TheVariants.{Changed}
use Rattle.vl_model.specs.Conflicts.{Named}
use Rattle.vl_model.specs.Frames.{frame_length}
use Rattle.vl_model.specs.History.{History, last_number}
use Rattle.vl_model.specs.declared.log_frame.LogFrame.TheVariants.{Relocated}
use Rattle.vl_model.specs.declared.log_frame.Moved.{Moved}
use Rattle.vl_seglog.specs.declared.sealed.SealedLog.{SealedLog}
use Rattle.vlstore.specs.Entries.{done_by, move_done}
use Rattle.vlstore.specs.Lists.{layout_by}
use Rattle.vlstore.specs.Merges.{lent_in}
use Rattle.vlstore.specs.Standing.{AreLasting}
use Rattle.vlstore.specs.declared.locked.Origin.{Origin}
use Rattle.vlstore.proofs.Calls.{LeavesDone, leaves_by}
use mathlib.Core.List.{IsPrefix}

-- ---- a log that lasted

lets_last : {H : Type 0} (bytes : H → Option (List ℕ)) (l : Layout) (before more : List LockEntry) (log : SealedLog H)
    → AreLasting bytes l (before ++ more) → Lasts bytes log (last_layout l before) → Lasts bytes log (last_layout l (before ++ more))
lets_last bytes l [] [] log last lasts = lasts
lets_last bytes l [] (e ∷ more) log last lasts = lets_last bytes e.layout [] more log last.1 (last.0.logs log lasts)
lets_last bytes l (e ∷ before) more log last lasts = lets_last bytes e.layout before more log last.1 lasts

pub still_lasts : {H : Type 0} (bytes : H → Option (List ℕ)) (o : Origin) (before list : List LockEntry) (log : SealedLog H)
    → AreLasting bytes o.layout list → IsPrefix before list → Lasts bytes log (layout_by o before) → Lasts bytes log (layout_by o list)
still_lasts bytes o before list log last p lasts =
    subst (λ (es : List LockEntry). Lasts bytes log (layout_by o es)) p.1
    (lets_last bytes o.layout before p.0 log (subst (AreLasting bytes o.layout) (sym p.1) last) lasts)

-- ---- want of memory

-- where memory is wanting before anything is changed, all is as before
pub short_by : {A : Type 0} (S : History → Layout → Type 0) (h : History) (l : Layout) (ruling : Ruling A) → S h l
    → Decides S h l ruling (as_before l l) NoMemory no_effects
short_by {A} S h l ruling stands = record {
  answered = λ a at. absurd (subst IsShort at tt);
  did = λ a at. absurd (subst IsShort at tt);
  no_memory = λ at. (stands, refl);
  failed = λ name at. absurd (subst IsShort at tt);
  damaged = λ name place at. absurd (subst IsShort at tt);
}
  where
    IsShort : Outcome A → Type 0
    IsShort (Answered a) = ⊥
    IsShort NoMemory = Unit {0}
    IsShort (Failed name) = ⊥
    IsShort (Damaged name place) = ⊥

-- ---- the open merge

-- what is noted for it leaves what is lent
abbrev pub SameLent : (old new : Option OpenMerge) → Type 0
SameLent old new = (is_some new ≡ is_some old)
    × (option_map (λ (m : OpenMerge). m.lent.items) new ≡ option_map (λ (m : OpenMerge). m.lent.items) old)

noted : (old new : Option OpenMerge) (keys : List Named) → NotesMoves old new keys → SameLent old new
noted None None keys notes = (refl, refl)
noted None (Some next) keys notes = absurd notes
noted (Some merge) None keys notes = absurd notes
noted (Some merge) (Some next) keys notes = (refl, ap (λ (ns : Vec ℕ Global). Some ns.items) notes.0)

same_lent : (old new : Option OpenMerge) → new ≡ old → SameLent old new
same_lent old new same = (ap is_some same, ap (option_map (λ (m : OpenMerge). m.lent.items)) same)

pub moves_lent : (number : ℕ) (old new : Option OpenMerge) (r : Result ℕ MoveFail) → MoveNotes number old new r → SameLent old new
moves_lent number old new (Ok zero) notes = same_lent old new notes
moves_lent number old new (Ok (suc n)) notes = noted old new _ notes.noted
moves_lent number old new (Err why) notes = same_lent old new notes

-- ---- what a ruling leaves

module _ (l : Layout) (h : History) where
  abbrev KeepsLent : Ruling MoveAnswer → Type 0
  KeepsLent r = lent_in r.layout ≡ lent_in l

  either : (b : Bool) (r s : Ruling MoveAnswer) → KeepsLent r → KeepsLent s → KeepsLent (if b then r else s)
  either true r s of_r of_s = of_r
  either false r s of_r of_s = of_s

  with_lent : (n : ℕ) (ms : List Moved) (j : Option OpenJob)
      → option_map (λ (j : OpenJob). j.lent) (with_moves n ms j) ≡ option_map (λ (j : OpenJob). j.lent) j
  with_lent n ms None = refl
  with_lent n ms (Some j) = refl

  moved_lent : (ms : List Moved) → KeepsLent (relocate_of l h ms)
  moved_lent [] = refl
  moved_lent (m ∷ ms) =
      either (has_no_epoch l) _ _ refl
      (either (nat_le (l.active.length + frame_length l.active.format (Relocated (m ∷ ms))) l.room) _ _
      (with_lent (l.epoch + 1) (m ∷ ms) l.job) refl)

  unless_lent : (halted : Option FileName) (pass : Pass) (batch : List Candidate) → KeepsLent (relocate_unless halted l h pass batch)
  unless_lent (Some name) pass batch = refl
  unless_lent None pass batch = moved_lent (moved_of (sources l) pass.segment (last_number h) batch)

  pub relocate_lent : (pass : Pass) (batch : List Candidate) → KeepsLent (relocate_ruling l h pass batch)
  relocate_lent pass batch = unless_lent l.halted pass batch

move_leaves : (l next : Layout) → lent_in next ≡ lent_in l → (a : MoveAnswer) → LeavesDone l (move_done next a)
move_leaves l next lent (relocate.Moves zero) = tt
move_leaves l next lent (relocate.Moves (suc n)) = (tt, lent)
move_leaves l next lent (relocate.Halted name) = tt
move_leaves l next lent (relocate.Exhausted counter) = tt
move_leaves l next lent (relocate.Full length frame) = tt

pub relocate_leaves : (l : Layout) (h : History) (pass : Pass) (batch : List Candidate) (outcome : Outcome MoveAnswer)
    → LeavesDone l (done_by (move_done (relocate_ruling l h pass batch).layout) (Changed, l) outcome)
relocate_leaves l h pass batch outcome =
    leaves_by l (move_done (relocate_ruling l h pass batch).layout) (Changed, l) outcome
    (move_leaves l (relocate_ruling l h pass batch).layout (relocate_lent l h pass batch)) (tt, refl)

-- the ruling asks of a pass which log it goes over
pub relocate_by : (l : Layout) (h : History) (p q : Pass) (batch : List Candidate) → p.segment ≡ q.segment
    → relocate_ruling l h p batch ≡ relocate_ruling l h q batch
relocate_by l h p q batch same = of l.halted
  where
    of : (halted : Option FileName) → relocate_unless halted l h p batch ≡ relocate_unless halted l h q batch
    of (Some name) = refl
    of None = ap (λ (n : ℕ). relocate_of l h (moved_of (sources l) n (last_number h) batch)) same
