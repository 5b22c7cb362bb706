-- A commit that is staged: it can be spelled, and the entries that it has in memory, one after the other, are its frame's.
use Rattle.std.specs.FinMap.{is_sorted}
use Rattle.std.specs.List.{AllByRecursion}
use Rattle.std.specs.Prelude.{IsTrue, true, ◌≡◌, ℕ, zero, suc, ◌+◌, ◌++◌, List, [], ◌∷◌, length, take, refl}
use Rattle.std.proofs.Common.{◌<◌, ◌≤◌, ap, arith, get_or, subst, sym, ◌∙◌}
use Rattle.vl_engine_laws.specs.Known.{are_known}
use Rattle.vl_steps.specs.Staging.{commit_entries, write_entry}
use Rattle.vl_engine_laws.specs.laws.KnownLaws.{known_up_to}
use Rattle.vl_engine_laws.specs.laws.MemtableLaws.{commit_is_new}
use Rattle.vl_engine_model.specs.Logs.{frame_entries}
use Rattle.vl_engine_model.specs.laws.CommitShows.{committed_entries}
use Rattle.vl_memtable.specs.Contents.{IsNewTo}
use Rattle.vl_model.specs.Formats.{log_format}
use Rattle.vl_model.specs.Frames.{record_length}
use Rattle.vl_model.specs.Keys.{key_cmp}
use Rattle.vl_model.specs.Limits.{max_commit_number}
use Rattle.vl_model.specs.declared.change.Change.{Change}
use Rattle.vl_model.specs.declared.entry.Entry.{Entry}
use Rattle.vl_model.specs.declared.log_frame.LogFrame.TheVariants.{Committed}
use Rattle.vl_model.specs.declared.pointer.Pointer.{Pointer}
use Rattle.vl_seglog.specs.Commit.{AreRecords, IsCommit}
use Rattle.vl_seglog.specs.Stored.{pointers_from}
use Rattle.vl_seglog.specs.declared.active.ActiveLog.{ActiveLog}
use Rattle.vl_txn.specs.Writes.{IsLawful}

-- what a transaction may write can be spelled,
are_records : (list : List (List ℕ × Change)) → AllByRecursion IsLawful list → AreRecords log_format list
are_records [] all = tt
are_records (write ∷ list) all = (record { key_length = all.0.key; value_length = all.0.value; tag = refl }, are_records list all.1)

pub is_commit : (last : ℕ) (list : List (List ℕ × Change)) → 1 ≤ length list → last < max_commit_number
    → IsTrue (is_sorted key_cmp list) → AllByRecursion IsLawful list
    → IsCommit log_format (record { number = last + 1; writes = list })
is_commit last list some left rising lawful =
    record { first = omega arith; last = omega (arith, left); some = some; rising = rising; lawful = are_records list lawful }

-- all of a list
pub all_taken : (n : ℕ) (ws : List (List ℕ × Change)) → length ws ≤ n → take n ws ≡ ws
all_taken zero [] le = refl
all_taken (suc n) [] le = refl
all_taken zero (w ∷ ws) le = absurd (omega (arith, le))
all_taken (suc n) (w ∷ ws) le = ap (λ (vs : List (List ℕ × Change)). w ∷ vs) (all_taken n ws (omega (arith, le)))

-- with the next write one entry more
pub one_entry_more : (n : ℕ) (ws : List (List ℕ × Change)) (ps : List Pointer) (i : ℕ) (w : List ℕ × Change) (p d : Pointer)
    → i < length ws → length ps ≡ length ws → w ≡ get_or ws i w → p ≡ get_or ps i d
    → commit_entries n (take (suc i) ws) ps ≡ commit_entries n (take i ws) ps ++ write_entry n w p ∷ []
one_entry_more n [] ps i w p d less same w_is p_is = absurd (omega (arith, less))
one_entry_more n (v ∷ vs) [] i w p d less same w_is p_is = absurd (omega (arith, same))
one_entry_more n (v ∷ vs) (q ∷ qs) zero w p d less same w_is p_is =
    ap (λ (x : List ℕ × Change). write_entry n x q ∷ []) (sym w_is) ∙ ap (λ (y : Pointer). write_entry n w y ∷ []) (sym p_is)
one_entry_more n (v ∷ vs) (q ∷ qs) (suc i) w p d less same w_is p_is =
    ap (λ (es : List Entry). write_entry n v q ∷ es) (one_entry_more n vs qs i w p d (omega (arith, less)) (omega (arith, same)) w_is p_is)

-- where the pointers lead to the records of a frame, the entries are the frame's
pub entries_lead : (format segment place n : ℕ) (ws : List (List ℕ × Change))
    → commit_entries n ws (pointers_from format segment place ws) ≡ committed_entries format segment place n ws
entries_lead format segment place n [] = refl
entries_lead format segment place n (w ∷ ws) =
    ap (λ (es : List Entry). write_entry n w (record { segment = segment; place = place; length = record_length format w.0 w.1 }) ∷ es)
    (entries_lead format segment (place + record_length format w.0 w.1) n ws)

pub as_many : (format segment place : ℕ) (ws : List (List ℕ × Change)) → length (pointers_from format segment place ws) ≡ length ws
as_many format segment place [] = refl
as_many format segment place (w ∷ ws) =
    let rest = as_many format segment (place + record_length format w.0 w.1) ws in omega (arith, rest)

-- they are as many as the writes
pub entries_many : (format segment place n : ℕ) (ws : List (List ℕ × Change))
    → length (committed_entries format segment place n ws) ≡ length ws
entries_many format segment place n [] = refl
entries_many format segment place n (w ∷ ws) =
    let rest = entries_many format segment (place + record_length format w.0 w.1) n ws in omega (arith, rest)

-- ---- what is staged

module _ (log : ActiveLog) (number : ℕ) (writes : List (List ℕ × Change)) (pointers : List Pointer)
    (lead : pointers ≡ pointers_from log_format log.number (log.length + 17) writes) where
  -- its entries are those of the frame,
  pub staged_entries : commit_entries number writes pointers
      ≡ frame_entries log_format log.number log.length (Committed number writes)
  staged_entries =
      ap (commit_entries number writes) lead ∙ entries_lead log_format log.number (log.length + 17) number writes

  -- as many as the writes,
  pub staged_many : length (commit_entries number writes pointers) ≡ length writes
  staged_many = ap length staged_entries ∙ entries_many log_format log.number (log.length + 17) number writes

  -- of which there are some,
  pub staged_some : 1 ≤ length writes → 0 < length (commit_entries number writes pointers)
  staged_some some =
      let many = ap length staged_entries ∙ entries_many log_format log.number (log.length + 17) number writes in
      omega (arith, many, some)

  -- and none of them is there yet
  pub staged_new : (last : ℕ) (es : List Entry) → are_known last es ≡ true → last < number
      → IsNewTo es (commit_entries number writes pointers)
  staged_new last es known less = subst (IsNewTo es) (sym staged_entries)
      (commit_is_new log_format log.number number last (log.length + 17) es writes less (known_up_to last es known))
