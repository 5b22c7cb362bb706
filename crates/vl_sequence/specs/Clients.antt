-- What clients side by side come to.
use Rattle.std.specs.Prelude.{◌≡◌, ◌≤◌, ◌<◌, ◌⊎◌, ℕ, ◌+◌, ◌^◌, false, true, List, [], ◌∷◌, map}
use Rattle.std.specs.Prelude.{IfErr, IfOk, is_ok, Result, Ok, Err, Option, None, Some}
use Rattle.std.specs.List.{AllByRecursion, AllZip}
use Rattle.vl_drive.specs.Knowing.{GoesOn, Knows}
use Rattle.vl_sequence.specs.Counted.{ids_key, rounded_up}
use Rattle.vl_sequence.specs.Counting.{CanGive, HasLeased, HasSome, IsStop, IsStopOfOne, is_want}
use Rattle.vl_sequence.specs.declared.client.Tally.{Tally}
use Rattle.vl_sequence.specs.declared.clients.Client.{Client}
use Rattle.vl_sequence.specs.declared.clients.CountFail.{CountFail}
use Rattle.vl_sequence.specs.declared.clients.CountFail.TheVariants as fails
use Rattle.vl_sequence.specs.declared.fails.SeqFail.{SeqFail}

-- ---- ends

abbrev pub given_of : Result Tally SeqFail → ℕ
given_of (Ok tally) = tally.given
given_of (Err why) = 0

abbrev pub leases_of : Result Tally SeqFail → ℕ
leases_of (Ok tally) = tally.leases
leases_of (Err why) = 0

-- the last stop, behind one more end
abbrev pub last_of : Option SeqFail → Result Tally SeqFail → Option SeqFail
last_of last (Ok tally) = last
last_of last (Err why) = Some why

-- ---- clients

module _ {S T N : Type 0} where
  abbrev pub shop_of : Client S T N → S
  shop_of p = p.sequence.shop

  abbrev pub IsOfLease : (lease : ℕ) → Client S T N → Type 0
  IsOfLease lease p = p.sequence.lease ≡ lease

  abbrev pub IsDone : Client S T N → Type 0
  IsDone p = is_ok p.end ≡ true

  -- not more than a number of 32 bits
  abbrev pub IsFew : Client S T N → Type 0
  IsFew p = (given_of p.end < 2 ^ 32) × (leases_of p.end < 2 ^ 32)

  abbrev pub all_given : List (Client S T N) → ℕ
  all_given [] = 0
  all_given (p ∷ ps) = given_of p.end + all_given ps

  abbrev pub all_leases : List (Client S T N) → ℕ
  all_leases [] = 0
  all_leases (p ∷ ps) = leases_of p.end + all_leases ps

  -- one of these stopped for this
  abbrev pub HasEnd : SeqFail → List (Client S T N) → Type 0
  HasEnd why [] = ⊥
  HasEnd why (p ∷ ps) = (p.end ≡ Err why) ⊎ HasEnd why ps

  -- this is one's stop; where it is none, all have their numbers
  abbrev pub IsLast : Option SeqFail → List (Client S T N) → Type 0
  IsLast None ps = AllByRecursion IsDone ps
  IsLast (Some why) ps = HasEnd why ps

  -- ---- with what their shops know

  module _ (knows : S → Knows) where
    abbrev pub known : Client S T N → Knows
    known p = knows p.sequence.shop

    -- before its first number
    pub record IsSeated (p : Client S T N) : Type 0 where
      pub key_is : p.sequence.key ≡ ids_key
      pub none : p.sequence.end ≡ p.sequence.next
      pub ready : CanGive knows p.sequence

    -- What a thread did: a client took its numbers, or stopped. Each of its commits is a lease.
    pub record HasActed (count : ℕ) (p q : Client S T N) : Type 0 where
      pub on : GoesOn (known p) (known q)
      pub given : IfOk q.end (λ tally. (tally.given ≡ count)
          × (tally.leases ≡ rounded_up count p.sequence.lease))
      pub few : IfOk q.end (λ tally. tally.leases ≤ count)
      pub leased : HasLeased ids_key p.sequence.lease 0 (known p)
          → IfOk q.end (λ tally. HasLeased ids_key p.sequence.lease tally.leases (known q))
      pub some : HasLeased ids_key p.sequence.lease 0 (known p)
          → HasSome p.sequence.lease count (known q)
      pub stopped : IfErr q.end (IsStop (known p) (known q) ids_key p.sequence.lease)

-- ---- stops

module _ {S : Type 0} where
  -- The shops come back, unless memory was wanting.
  abbrev pub StopsWith : List S → SeqFail → CountFail S → Type 0
  StopsWith shops why fails.NoMemory = Unit {0}
  StopsWith shops why (fails.Stopped back cause) =
      (back.items ≡ shops) × (cause ≡ why) × (is_want cause ≡ false)

  -- The shops come back, and one of them stopped for this.
  abbrev pub Gathers : {T N : Type 0} → List (Client S T N) → CountFail S → Type 0
  Gathers ps fails.NoMemory = Unit {0}
  Gathers ps (fails.Stopped shops why) =
      (shops.items ≡ map shop_of ps) × (is_want why ≡ false) × HasEnd why ps

  -- So they do, and each commit of theirs is a lease.
  abbrev pub LeavesStopped : (knows : S → Knows) → (lease count : ℕ) → List Knows → CountFail S → Type 0
  LeavesStopped knows lease count vs fails.NoMemory = Unit {0}
  LeavesStopped knows lease count vs (fails.Stopped shops why) =
      AllZip GoesOn vs (map knows shops.items)
      × AllByRecursion (HasSome lease count) (map knows shops.items)
      × (is_want why ≡ false) × IsStopOfOne lease why vs (map knows shops.items)
