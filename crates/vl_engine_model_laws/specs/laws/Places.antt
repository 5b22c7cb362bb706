-- The pointers of a frame lead to the places that its records have in a layout.
use Rattle.std.proofs.Common.{◌≡◌, ℕ, ◌+◌, List, [], ◌∷◌, map, refl, ap}
use Rattle.vl_model.specs.Frames.{moved_length, record_length}
use Rattle.vl_model.specs.declared.change.Change.{Change}
use Rattle.vl_model.specs.declared.change.Change.TheVariants.{Set}
use Rattle.vl_model.specs.declared.log_frame.LogFrame.{LogFrame}
use Rattle.vl_model.specs.declared.log_frame.LogFrame.TheVariants.{Committed, Relocated}
use Rattle.vl_model.specs.declared.log_frame.Moved.{Moved}
use Rattle.vl_model.specs.declared.pointer.Pointer.{Pointer}
use Rattle.vl_seglog.specs.Stored.{frame_pointers, moved_pointers, pointer_at, pointers_from}
use Rattle.vl_engine_model.specs.Logs.{committed_records, frame_records, pointer_to, relocated_records}

committed_places : (format log place number : ℕ) (writes : List (List ℕ × Change))
    → pointers_from format log place writes ≡ map (pointer_to format log) (committed_records format place number writes)
committed_places format log place number [] = refl
committed_places format log place number (write ∷ writes) =
    ap (λ (ps : List Pointer). pointer_at format log place write.0 write.1 ∷ ps)
    (committed_places format log (place + record_length format write.0 write.1) number writes)

moved_places : (format log place : ℕ) (moved : List Moved)
    → moved_pointers format log place moved ≡ map (pointer_to format log) (relocated_records format place moved)
moved_places format log place [] = refl
moved_places format log place (m ∷ ms) =
    ap (λ (ps : List Pointer). pointer_at format log (place + 8) m.key (Set m.value) ∷ ps)
    (moved_places format log (place + moved_length format m) ms)

pub places_told : (format log place : ℕ) (f : LogFrame)
    → frame_pointers format log place f ≡ map (pointer_to format log) (frame_records format place f)
places_told format log place (Committed number writes) = committed_places format log (place + 17) number writes
places_told format log place (Relocated moved) = moved_places format log (place + 9) moved
