-- A relocation that is staged: the entries that it has in memory, one after the other, are its frame's.
use Rattle.std.specs.List.{sum_by}
use Rattle.std.specs.Prelude.{◌≡◌, ℕ, zero, suc, ◌+◌, ◌++◌, List, [], ◌∷◌, length, map, take, refl, ◌^◌}
use Rattle.std.proofs.Common.{◌<◌, ◌≤◌, ap, arith, get_or, sym, ◌∙◌}
use Rattle.std.proofs.lemmas.List.Sums.{sum_by-cons}
use Rattle.vl_steps.specs.Relocating.{move_entries_of, moved_entry}
use Rattle.vl_engine_laws.specs.MoveFacts.{move_entries}
use Rattle.vl_front.specs.declared.front.Front.{Front}
use Rattle.vl_engine_model.specs.Logs.{record_entry, relocated_records}
use Rattle.vl_model.specs.Formats.{log_format}
use Rattle.vl_model.specs.Frames.{moved_length}
use Rattle.vl_model.specs.declared.change.Change.TheVariants.{Set}
use Rattle.vl_model.specs.declared.entry.Entry.{Entry}
use Rattle.vl_model.specs.declared.log_frame.Moved.{Moved}
use Rattle.vl_model.specs.declared.pointer.Pointer.{Pointer}
use Rattle.vl_model.specs.declared.log_frame.LogFrame.TheVariants.{Relocated}
use Rattle.vl_seglog.specs.Staging.{IsStaged}
use Rattle.vl_seglog.specs.Stored.{moved_pointers}
use Rattle.vl_seglog.specs.declared.staged.Staged.{Staged}
use Rattle.vl_seglog.specs.laws.FrameLaws.{length-item_frame}

-- all of a list
pub all_moves : (n : ℕ) (ms : List Moved) → length ms ≤ n → take n ms ≡ ms
all_moves zero [] le = refl
all_moves (suc n) [] le = refl
all_moves zero (m ∷ ms) le = absurd (omega (arith, le))
all_moves (suc n) (m ∷ ms) le = ap (λ (vs : List Moved). m ∷ vs) (all_moves n ms (omega (arith, le)))

-- with the next record one entry more
pub one_move_more : (ms : List Moved) (ps : List Pointer) (i : ℕ) (m : Moved) (p d : Pointer)
    → i < length ms → length ps ≡ length ms → m ≡ get_or ms i m → p ≡ get_or ps i d
    → move_entries_of (take (suc i) ms) ps ≡ move_entries_of (take i ms) ps ++ moved_entry m p ∷ []
one_move_more [] ps i m p d less same m_is p_is = absurd (omega (arith, less))
one_move_more (v ∷ vs) [] i m p d less same m_is p_is = absurd (omega (arith, same))
one_move_more (v ∷ vs) (q ∷ qs) zero m p d less same m_is p_is =
    ap (λ (x : Moved). moved_entry x q ∷ []) (sym m_is) ∙ ap (λ (y : Pointer). moved_entry m y ∷ []) (sym p_is)
one_move_more (v ∷ vs) (q ∷ qs) (suc i) m p d less same m_is p_is =
    ap (λ (es : List Entry). moved_entry v q ∷ es) (one_move_more vs qs i m p d (omega (arith, less)) (omega (arith, same)) m_is p_is)

-- where the pointers lead to the records of a frame, the entries are the frame's
pub moves_lead : (format segment place : ℕ) (ms : List Moved)
    → move_entries_of ms (moved_pointers format segment place ms)
    ≡ map (record_entry format segment) (relocated_records format place ms)
moves_lead format segment place [] = refl
moves_lead format segment place (m ∷ ms) =
    ap (λ (es : List Entry).
    record_entry format segment (record { key = m.key; version = m.version; change = Set m.value; place = place + 8 }) ∷ es)
    (moves_lead format segment (place + moved_length format m) ms)

pub as_many_pointers : (format segment place : ℕ) (ms : List Moved) → length (moved_pointers format segment place ms) ≡ length ms
as_many_pointers format segment place [] = refl
as_many_pointers format segment place (m ∷ ms) =
    let rest = as_many_pointers format segment (place + moved_length format m) ms in omega (arith, rest)

-- the frame's length is no less than their number
pub few_moved : (format : ℕ) (ms : List Moved) → length ms ≤ sum_by (moved_length format) ms
few_moved format [] = omega arith
few_moved format (m ∷ ms) =
    let rest = few_moved format ms in
    let sum = sum_by-cons (moved_length format) m ms in
    omega (arith, rest, sum)

-- ---- what is staged

module _ (front : Front) (moved : List Moved) (pointers : List Pointer)
    (lead : pointers ≡ moved_pointers log_format front.log.number (front.log.length + 9) moved) where
  -- its entries are those of the frame,
  pub staged_entries : move_entries_of moved pointers ≡ move_entries front moved
  staged_entries = ap (move_entries_of moved) lead ∙ moves_lead log_format front.log.number (front.log.length + 9) moved

  -- as many as the records
  pub staged_pointers : length pointers ≡ length moved
  staged_pointers = ap length lead ∙ as_many_pointers log_format front.log.number (front.log.length + 9) moved

-- a frame is short, so its records can be counted
pub staged_count : (number place : ℕ) (moved : List Moved) (staged : Staged) → IsStaged number place (Relocated moved) staged
    → length moved < 2 ^ 32
staged_count number place moved staged is =
    let long = ap length is.frame ∙ length-item_frame log_format number place (Relocated moved) in
    let short = is.short in
    let few = few_moved log_format moved in
    omega (arith, long, short, few)
