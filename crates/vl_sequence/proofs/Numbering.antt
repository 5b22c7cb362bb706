-- How a client's numbers go on, one after the other.
use Rattle.std.proofs.Common.{◌≡◌, ℕ, ◌+◌, ◌*◌, ◌<◌, ◌≤◌, List, ap, sym, ◌∙◌, subst, arith}
use Rattle.vl_drive.specs.Knowing.{GoesOn, Knows}
use Rattle.vl_sequence.proofs.Leased.{leased_on, leased_then}
use Rattle.vl_sequence.specs.Causes.{IsCause}
use Rattle.vl_sequence.specs.Counting.{HasLeased, IsStop}
use Rattle.vl_sequence.specs.Sequences.{Gives, HasCommitted, TakesLease}
use Rattle.vl_sequence.specs.declared.fails.SeqFail.{SeqFail}

-- ---- of the same key, by leases of the same length

module _ (key was_key : List ℕ) (lease was_lease : ℕ) (key_is : key ≡ was_key) (lease_is : lease ≡ was_lease) where
  pub leased_was : (leases : ℕ) (v : Knows) → HasLeased key lease leases v → HasLeased was_key was_lease leases v
  leased_was leases v x =
      subst (λ (l : ℕ). HasLeased was_key l leases v) lease_is (subst (λ (k : List ℕ). HasLeased k lease leases v) key_is x)

  pub leased_now : (leases : ℕ) (v : Knows) → HasLeased was_key was_lease leases v → HasLeased key lease leases v
  leased_now leases v x =
      subst (λ (l : ℕ). HasLeased key l leases v) (sym lease_is)
      (subst (λ (k : List ℕ). HasLeased k was_lease leases v) (sym key_is) x)

  pub cause_now : (v w : Knows) (why : SeqFail) → IsCause v w was_key was_lease why → IsCause v w key lease why
  cause_now v w why is =
      subst (λ (l : ℕ). IsCause v w key l why) (sym lease_is)
      (subst (λ (k : List ℕ). IsCause v w k was_lease why) (sym key_is) is)

  pub stop_was : (v w : Knows) (why : SeqFail) → IsStop v w key lease why → IsStop v w was_key was_lease why
  stop_was v w why is =
      subst (λ (l : ℕ). IsStop v w was_key l why) lease_is (subst (λ (k : List ℕ). IsStop v w k lease why) key_is is)

  -- the first number of a lease was given
  pub taken_was : (leases : ℕ) (u w : Knows) (next end next' end' n : ℕ) → GoesOn u w → Gives u w key lease next end next' end' n
      → end ≤ next → HasLeased was_key was_lease leases u → HasLeased was_key was_lease (leases + 1) w
  taken_was leases u w next end next' end' n on gives le x =
      let took = gives.taken le in
      leased_then was_key was_lease leases u w on x n
      (subst (λ (k : List ℕ). TakesLease u w k n (n + was_lease)) key_is
      (subst (λ (e : ℕ). TakesLease u w key n e) (took.0 ∙ ap (λ (l : ℕ). n + l) lease_is) took.1))

  -- a refusal was passed over
  pub passed : (leases : ℕ) (u x w : Knows) → GoesOn u x → HasLeased was_key was_lease leases u
      → (HasCommitted leases u → HasCommitted leases x) → (HasLeased key lease leases x → HasLeased key lease leases w)
      → HasLeased was_key was_lease leases w
  passed leases u x w on h commits later =
      leased_was leases w (later (leased_now leases x (leased_on was_key was_lease leases u x on h (commits h.committed))))

-- ---- what is given and left

module _ (given leases lease next end next' end' : ℕ) (so_far : given + end ≡ leases * lease + next) where
  pub held_numbers : end < next + lease → next' ≡ next + 1 → end' ≡ end
      → (given + 1 + end' ≡ leases * lease + next') × (end' < next' + lease)
  held_numbers few next_is end_is = (omega (arith, so_far, next_is, end_is), omega (arith, few, next_is, end_is))

  pub taken_numbers : next ≤ end → end ≤ next → end' + 1 ≡ next' + lease
      → (given + 1 + end' ≡ (leases + 1) * lease + next') × (end' < next' + lease)
  taken_numbers held none is = (omega (arith, so_far, held, none, is), omega (arith, is))
