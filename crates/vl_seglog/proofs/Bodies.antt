-- The bodies of commits and relocations: what stands before the records, and the series of these.
use Rattle.std.proofs.Common.{◌≡◌, ℕ, ◌<◌, ◌≤◌, ◌^◌, List, ◌++◌, length, sym, ap, subst, ◌∙◌, arith}
use Rattle.std.specs.Prelude.{IsTrue}
use Rattle.std.specs.FinMap.{is_sorted}
use Rattle.byteorder.specs.Endian.{big_bytes}
use Rattle.vl_model.specs.Keys.{key_cmp}
use Rattle.vl_model.specs.declared.change.Change.{Change}
use Rattle.vl_model.specs.Limits.{max_commit_number}
use Rattle.vl_frame.specs.laws.NumberLaws.{one_number}
use Rattle.vl_seglog.specs.laws.CommitLaws.{few_records}
use Rattle.vl_seglog.specs.Commit.{Commit, IsCommit, commit_body, head_bytes, records_bytes, records_spelling}
use Rattle.vl_seglog.specs.Series.{IsSeries}

-- a commit that the body spells has the head's number, and the series behind the head
pub record Agrees (format : ℕ) (c : Commit) (n k : ℕ) (rest : List ℕ) : Type 0 where
  pub number : n ≡ c.number
  pub count : k ≡ length c.writes
  pub series : IsSeries (records_spelling format) rest k c.writes

-- too few bytes for a head
pub no_head : (format : ℕ) (body : List ℕ) (c : Commit) → length body < 12 → body ≡ commit_body format c → ⊥
unfolding commit_body
no_head format body c short spelled = let len = ap length spelled in omega (arith, len)

pub agrees : (format : ℕ) (body : List ℕ) (number count : ℕ) (rest : List ℕ) (c : Commit) → number < 2 ^ 64
    → count < 2 ^ 32 → body ≡ head_bytes number count ++ rest → length body < 2 ^ 32 → IsCommit format c
    → body ≡ commit_body format c → Agrees format c number count rest
unfolding commit_body
agrees format body number count rest c number_fits count_fits e short lawful spelled =
    let both : big_bytes 8 number ++ (big_bytes 4 count ++ rest) ≡ big_bytes 8 c.number
    ++ (big_bytes 4 (length c.writes) ++ records_bytes format c.writes) = sym e ∙ spelled in
    let a = one_number 8 number c.number _ _ number_fits (omega (arith, lawful.last)) both in
    let few = few_records format c (subst (λ (bytes : List ℕ). length bytes < 2 ^ 32) spelled short) in
    let b = one_number 4 count (length c.writes) _ _ count_fits few a.1 in
    record { number = a.0; count = b.0; series = record { counted = sym b.0; lawful = lawful.lawful; spelled = b.1 } }

-- a head and a series behind it
pub is_body : (format : ℕ) (body : List ℕ) (number count : ℕ) (rest : List ℕ) (writes : List (List ℕ × Change))
    → body ≡ head_bytes number count ++ rest → 1 ≤ number → number ≤ max_commit_number → 1 ≤ count
    → IsSeries (records_spelling format) rest count writes → IsTrue (is_sorted key_cmp writes)
    → IsCommit format (record { number = number; writes = writes })
    × (body ≡ commit_body format (record { number = number; writes = writes }))
unfolding commit_body
is_body format body number count rest writes e first last some series rising = (
  record { first = first; last = last; some = omega (arith, series.counted); rising = rising; lawful = series.lawful },
  e ∙ ap (λ (r : List ℕ). head_bytes number count ++ r) series.spelled
      ∙ ap (λ (n : ℕ). head_bytes number n ++ records_bytes format writes) (sym series.counted),
)
