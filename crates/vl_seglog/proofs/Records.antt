-- The record at the front of some bytes.
use Rattle.std.proofs.Common.{◌≡◌, ℕ, ◌+◌, ◌-◌, ◌≤◌, List, ◌++◌, length, take, drop, sym, ap, ◌∙◌, length-append, arith}
use Rattle.std.proofs.lemmas.List.{drop_at, take_all, length-drop}
use Rattle.vl_model.specs.declared.change.Change.{Change}
use Rattle.vl_model.specs.Frames.{record_length}
use Rattle.vl_seglog.specs.Record.{IsRecord, IsSpelled, record_bytes}
use Rattle.vl_seglog.specs.laws.RecordLaws.{length-record_bytes}
use Rattle.vl_seglog.specs.Commit.{records_spelling}
use Rattle.vl_seglog.proofs.Runs.{NoItem}

pub record TookOne (format : ℕ) (bytes : List ℕ) (n : ℕ) (key : List ℕ) (change : Change) : Type 0 where
  pub within : n ≤ length bytes
  pub lawful : IsRecord format key change
  pub spelled : bytes ≡ record_bytes format key change ++ take (length bytes - n) (drop n bytes)

pub took_one : (format : ℕ) (bytes : List ℕ) (n : ℕ) (key copy : List ℕ) (change copied : Change)
    → IsSpelled format bytes key change → n ≡ record_length format key change → copy ≡ key → copied ≡ change
    → TookOne format bytes n copy copied
took_one format bytes n key copy change copied s size same_key same_change =
    let len = length-record_bytes format key change in
    let whole : length bytes ≡ length (record_bytes format key change) + length s.rest = ap length s.parts
    ∙ length-append (record_bytes format key change) s.rest in
    let behind : drop n bytes ≡ s.rest = ap (drop n) s.parts ∙ drop_at (record_bytes format key change) s.rest n (len ∙ sym size) in
    let all : take (length bytes - n) (drop n bytes) ≡ s.rest = take_all (length bytes - n) (drop n bytes)
    (omega (arith, length-drop n bytes)) ∙ behind in
    rw (same_key, same_change)
    (record {
      within = omega arith;
      lawful = s.lawful;
      spelled = s.parts
          ∙ ap (λ (r : List ℕ). record_bytes format key change ++ r) (sym all);
    })

-- where no record stands, no write's does
pub no_write : (format : ℕ) (bytes : List ℕ)
    → ((key : List ℕ) (change : Change) → IsSpelled format bytes key change → ⊥) → NoItem (records_spelling format) bytes
no_write format bytes none write rest lawful e = none write.0 write.1 (record { lawful = lawful; rest = rest; parts = e })
