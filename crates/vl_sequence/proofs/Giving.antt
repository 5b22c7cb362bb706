-- What a sequence has, and what it gives.
use Rattle.std.proofs.Common.{◌≡◌, ◌≤◌, ◌<◌, ℕ, ◌+◌, List, inl, inr, refl, sym, subst, ⊎_elim, arith}
use Rattle.vl_drive.specs.Knowing.{GoesOn, Knows}
use Rattle.vl_drive.specs.Steps.{Origin}
use Rattle.vl_sequence.specs.Leases.{Lease}
use Rattle.vl_sequence.specs.Sequences.{Holds, HoldsRest, IsReady, TakesLease}
use Rattle.vl_sequence.specs.Takings.{Has, IsBelowValue, IsLeased, IsOnlyLeased, taken_by}
use Rattle.vl_sequence.specs.laws.TakingLaws.{is_below, lease_above, lease_taken, stays_own}

module _ (v w : Knows) (key : List ℕ) (lease next end : ℕ) where
  -- ---- no lease is taken

  holds_on : GoesOn v w → Holds v key next end → Holds w key next end
  holds_on on holds = ⊎_elim (λ (none : end ≡ 0). inl none)
      (λ (rest : HoldsRest v key next end). inr (record {
        lease = rest.lease;
        took = stays_own key v w on rest.lease rest.took;
        end_is = rest.end_is;
        begun = rest.begun;
      }))
      holds

  pub ready_on : GoesOn v w → IsReady v key lease next end → IsReady w key lease next end
  ready_on on r = record {
    lawful = r.lawful;
    least = r.least;
    most = r.most;
    held = r.held;
    fits = r.fits;
    holds = holds_on on r.holds;
  }

  pub ready_more : IsReady v key lease next end → next < end → IsReady v key lease (next + 1) end
  ready_more r below = record {
    lawful = r.lawful;
    least = r.least;
    most = r.most;
    held = omega (arith, below);
    fits = r.fits;
    holds = ⊎_elim (λ (none : end ≡ 0). inl none)
        (λ (rest : HoldsRest v key next end). inr (record {
          lease = rest.lease;
          took = rest.took;
          end_is = rest.end_is;
          begun = (let le = rest.begun in omega (arith, le));
        }))
        r.holds;
  }

  pub leased_held : IsReady v key lease next end → next < end → IsLeased v key next
  leased_held r below = ⊎_elim (λ (none : end ≡ 0). absurd (omega (arith, below, none)))
      (λ (rest : HoldsRest v key next end). record {
        lease = rest.lease;
        took = rest.took;
        within = (rest.begun, let is = rest.end_is in omega (arith, below, is));
      })
      r.holds

  -- ---- a lease is taken

  module _ (first : ℕ) (on : GoesOn v w) (t : TakesLease v w key first (first + lease)) where
    abbrev took : Lease
    took = record { first = first; end = first + lease }

    has_taken : Has (taken_by w.origin key w.seen) w.session took
    has_taken =
        subst (λ (s : ℕ). Has (taken_by w.origin key w.seen) s took) (sym on.session)
        (subst (λ (o : Origin). Has (taken_by o key w.seen) v.session took) (sym on.origin)
        (lease_taken key v w first (first + lease) t))

    pub ready_taken : IsReady v key lease next end → IsReady w key lease (first + 1) (first + lease)
    ready_taken r = record {
      lawful = r.lawful;
      least = r.least;
      most = r.most;
      held = (let some = r.least in omega (arith, some));
      fits = t.fits;
      holds = inr (record { lease = took; took = has_taken; end_is = refl; begun = omega arith });
    }

    pub leased_taken : IsReady v key lease next end → IsLeased w key first
    leased_taken r = record {
      lease = took;
      took = has_taken;
      within = (omega arith, let some = r.least in omega (arith, some));
    }

    pub rises_taken : IsReady v key lease next end → IsOnlyLeased w.origin key w.seen → next ≤ first
    rises_taken r only = ⊎_elim
        (λ (none : end ≡ 0). let le = r.held in omega (arith, none, le))
        (λ (rest : HoldsRest v key next end).
        let above = lease_above key v w first (first + lease) t rest.lease rest.took
        (subst (λ (o : Origin). IsOnlyLeased o key w.seen) on.origin only) in
        let is = rest.end_is in
        let le = r.held in
        omega (arith, above, is, le))
        r.holds

-- ---- either way

pub below_then : (w : Knows) (key : List ℕ) (n : ℕ) → IsLeased w key n → IsOnlyLeased w.origin key w.seen → IsBelowValue w key n
below_then w key n x only = is_below key w n x only
