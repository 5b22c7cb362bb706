-- Behind a relocation steps on files find what they ask: the active log ends with the relocation's frame.
use Rattle.std.specs.Prelude.{◌≡◌, ℕ, List, [], ◌∷◌, ◌++◌, length, unwrap_or, Option, None, Some, IsSome, refl}
use Rattle.std.specs.FinMap.{get}
use Rattle.std.specs.Option.{option_map}
use Rattle.std.proofs.Common.{sym, ap, subst, ◌∙◌, arith}
use Rattle.std.proofs.lemmas.List.{take_all}
use Rattle.vl_back.specs.declared.back.Back.{Back}
use Rattle.vl_engine_laws.specs.MayStep.{Fits, HasNumbers, MayStep, covered_all}
use Rattle.vl_engine_laws.specs.MoveFacts.{HasMoved, move_frame, move_log}
use Rattle.vl_engine_laws.specs.Pointed.{bytes_of_log}
use Rattle.vl_engine_laws.specs.Represents.{StandsFor}
use Rattle.vl_engine_laws.specs.Writing.{written}
use Rattle.vl_engine_laws.specs.declared.kept.Core.{Core}
use Rattle.vl_engine_laws.specs.laws.FileLaws.{all_more}
use Rattle.vl_disk.specs.Changes.{changed_there}
use Rattle.vl_disk.specs.Disk.{Stands}
use Rattle.vl_disk.specs.DiskState.{DiskState, File, appended, file_at, lengthened, new_file, synced_file}
use Rattle.vl_disk.specs.declared.name.Name.TheVariants as names
use Rattle.vl_disk.specs.declared.name.Name.{Name}
use Rattle.vl_disk.specs.declared.watched.Watched.{Ghosts}
use Rattle.vl_frame.specs.Runs.{HasFrame}
use Rattle.vl_engine_model.specs.Rulings.Flush.{covered_by}
use Rattle.vl_engine_model.specs.Rulings.Relocate.{relocated}
use Rattle.vl_engine_model.specs.Start.{newest_first}
use Rattle.vl_engine_model.specs.declared.layout.Layout.{Layout}
use Rattle.vl_model.specs.Formats.{log_format}
use Rattle.vl_model.specs.History.{History}
use Rattle.vl_model.specs.declared.log_frame.LogFrame.TheVariants.{Committed, Relocated}
use Rattle.vl_model.specs.declared.log_frame.LogFrame.{LogFrame}
use Rattle.vl_model.specs.declared.log_frame.Moved.{Moved}
use Rattle.vl_recover.specs.laws.crash.TornFrames.{frame_behind}
use Rattle.vl_seglog.specs.Frames.{frame_at, frames_grammar}
use Rattle.vl_seglog.specs.laws.FrameLaws.{log_bytes-more}

-- a frame that was written is behind what the file had
pub file_longer : (name : Name) (frame : List ℕ) (disk : DiskState) → Stands name disk
    → (file_at (written name frame disk) name).bytes ≡ (file_at disk name).bytes ++ frame
file_longer name frame disk stands = by (get disk.standing name) refl stands
  where
    by : (o : Option File) → get disk.standing name ≡ o → IsSome o
        → (file_at (written name frame disk) name).bytes ≡ (file_at disk name).bytes ++ frame
    by None is some = absurd cc
    by (Some file) is some =
        ap (λ (o : Option File). (unwrap_or o new_file).bytes)
        (changed_there name (appended name frame (length frame) disk) synced_file
        ∙ ap (option_map synced_file) (changed_there name disk (lengthened frame (length frame))
        ∙ ap (option_map (lengthened frame (length frame))) is))
        ∙ ap (λ (bs : List ℕ). file.bytes ++ bs) (take_all (length frame) frame (omega arith))
        ∙ ap (λ (o : Option File). (unwrap_or o new_file).bytes ++ frame) (sym is)

-- a relocation covers no commit more
covered_still : (fs : List LogFrame) (moved : List Moved) (covered : ℕ)
    → covered_by (fs ++ Relocated moved ∷ []) covered ≡ covered_by fs covered
covered_still [] moved covered = refl
covered_still (Committed n writes ∷ fs) moved covered = covered_still fs moved _
covered_still (Relocated records ∷ fs) moved covered = covered_still fs moved covered

module _ {D H : Type 0} (g : Ghosts D) (bytes : H → Option (List ℕ)) (before after : Core H) (old new : D) (h : History) (l : Layout)
    (moved : List Moved) (is : StandsFor bytes before h l) (did : HasMoved g old new before after moved) where
  frame_here : move_frame before.front moved ≡ frame_behind l.active.format l.active.number l.active.frames (Relocated moved)
  frame_here =
      ap (λ (n : ℕ). frame_at log_format n before.front.log.length (Relocated moved)) is.fronts.number
      ∙ ap (λ (n : ℕ). frame_at log_format l.active.number n (Relocated moved)) is.fronts.length_is
      ∙ ap (λ (n : ℕ). frame_at n l.active.number l.active.length (Relocated moved)) (sym is.fronts.format)
      ∙ ap (λ (n : ℕ). frame_at l.active.format l.active.number n (Relocated moved)) is.tidy.true_logs.0

  module _ (may : MayStep (g.told old) before.back h l) (stood : Stands (move_log before.front) may.state) where
    relocated_may : MayStep (g.told new) after.back h (relocated l moved)
    relocated_may = record {
      numbers = subst (λ (b : Back). HasNumbers b (relocated l moved)) (sym did.back)
          (record { next_log = may.numbers.next_log; next_table = may.numbers.next_table; waiting = may.numbers.waiting });
      files = (
        record {
          readable = may.files.0.readable;
          have = all_more (HasFrame (frames_grammar l.active.format)) l.active.frames (Relocated moved ∷ []) may.files.0.have
              (subst (λ (n : ℕ). HasFrame (frames_grammar n) (Relocated moved)) (sym is.fronts.format) did.hands.has, tt);
        },
        may.files.1,
      );
      covers = covered_still l.active.frames moved (covered_all (newest_first l.frozen) l.covered) ∙ may.covers;
      state = written (move_log before.front) (move_frame before.front moved) may.state;
      told_is = did.changed ∙ ap (option_map (written (move_log before.front) (move_frame before.front moved)))
          (did.hands.before.told ∙ may.told_is);
      active =
          ap (λ (n : ℕ). (file_at (written (move_log before.front) (move_frame before.front moved) may.state) (names.Log n)).bytes)
          (sym is.fronts.number)
          ∙ file_longer (move_log before.front) (move_frame before.front moved) may.state stood
          ∙ ap (λ (n : ℕ). (file_at may.state (names.Log n)).bytes ++ move_frame before.front moved) is.fronts.number
          ∙ ap (λ (bs : List ℕ). bs ++ move_frame before.front moved) may.active
          ∙ ap (λ (bs : List ℕ). bytes_of_log l.active ++ bs) frame_here
          ∙ sym (log_bytes-more l.active.format l.active.number l.active.frames (Relocated moved));
    }

  -- Fits goes on where the active log's file stands.
  pub fits_relocated : l.halted ≡ None → ((state : DiskState) → g.told old ≡ Some state → Stands (move_log before.front) state)
      → Fits (g.told old) before h l → Fits (g.told new) after h (relocated l moved)
  fits_relocated running stood fits =
      let may = fits.running running in
      record { running = λ still. relocated_may may (stood may.state may.told_is) }
