-- The entries of records that were read are those that a log's frames come to.
use Rattle.std.proofs.Common.{◌≡◌, ℕ, ◌+◌, List, [], ◌∷◌, map, refl, sym, ap, subst, ◌∙◌, arith}
use Rattle.vl_engine_model.specs.Logs.{committed_records, frame_entries, logged_body, record_entry, relocated_records}
use Rattle.vl_model.specs.declared.change.Change.{Change}
use Rattle.vl_model.specs.declared.change.Change.TheVariants.{Set}
use Rattle.vl_model.specs.declared.pointer.Pointer.{Pointer}
use Rattle.vl_recover.specs.opening.ReadLogs.{entries_in, entry_of}
use Rattle.vl_seglog.specs.Placed.{AreMovedFrom, AreRecordsFrom, IsFrameAt, RecordsLie, moved_size, record_size}
use Rattle.vl_seglog.specs.Reading.{frame_of, moved_of, said_of, value_of, write_of}
use Rattle.vl_seglog.specs.Stored.{pointer_at}
use Rattle.vl_seglog.specs.declared.frame.Frame.{Frame}
use Rattle.vl_seglog.specs.declared.frame.ReadRecord.{ReadRecord}
use Rattle.vl_seglog.specs.declared.frame.Said.{Said}
use Rattle.vl_seglog.specs.declared.frame.Said.TheVariants as says

module _ (format log : ℕ) where
  committed_entries-read : (version place : ℕ) (rs : List ReadRecord) → AreRecordsFrom format log version place rs
      → map (record_entry format log) (committed_records format place version (map write_of rs)) ≡ map entry_of rs
  committed_entries-read version place [] at = refl
  committed_entries-read version place (r ∷ rs) at =
      let first : record_entry format log (record { key = r.key; version = version; change = r.change; place = place }) ≡ entry_of r =
      λ i. record { key = r.key; version = sym at.0.version_is i; body = logged_body r.change (sym at.0.pointer_is i) } in
      let others = committed_entries-read version (place + record_size format r) rs at.1 in
      λ i. first i ∷ others i

  relocated_entries-read : (place : ℕ) (rs : List ReadRecord) → AreMovedFrom format log place rs
      → map (record_entry format log) (relocated_records format place (map moved_of rs)) ≡ map entry_of rs
  relocated_entries-read place [] at = refl
  relocated_entries-read place (r ∷ rs) at =
      let body : logged_body (Set (value_of r.change))
      (pointer_at format log (place + 8) r.key (Set (value_of r.change))) ≡ logged_body r.change r.pointer =
      ap (λ (c : Change). logged_body c (pointer_at format log (place + 8) r.key c)) (sym at.0.sets)
      ∙ ap (λ (p : Pointer). logged_body r.change p) (sym at.0.pointer_is) in
      let first : record_entry format log
      (record { key = r.key; version = r.version; change = Set (value_of r.change); place = place + 8 }) ≡ entry_of r =
      λ i. record { key = r.key; version = r.version; body = body i } in
      let others = relocated_entries-read (place + moved_size format r) rs at.1 in
      λ i. first i ∷ others i

  said_entries : (at : ℕ) (said : Said) → RecordsLie format log (at + 5) said → entries_in said ≡ frame_entries format log at (said_of said)
  said_entries at (says.Commit c) lie =
      let place : at + 5 + 12 ≡ at + 17 = omega arith in
      sym (committed_entries-read c.number (at + 17) c.records.items
      (subst (λ (n : ℕ). AreRecordsFrom format log c.number n c.records.items) place lie))
  said_entries at (says.Moves records) lie =
      let place : at + 5 + 4 ≡ at + 9 = omega arith in
      sym (relocated_entries-read (at + 9) records.items (subst (λ (n : ℕ). AreMovedFrom format log n records.items) place lie))

  pub frame_entries-read : (at : ℕ) (f : Frame) → IsFrameAt format log at f → entries_in f.said ≡ frame_entries format log at (frame_of f)
  frame_entries-read at f is = said_entries at f.said is.records
