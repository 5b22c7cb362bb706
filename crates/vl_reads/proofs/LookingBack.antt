-- What a read of the past looked at, exit by exit, also over tables that may not be true.
use Rattle.std.proofs.Common.{◌≡◌, ℕ, ◌+◌, ◌≤◌, ◌<◌, List, refl, sym, subst, arith}
use Rattle.std.specs.Prelude.{Option, Some, None, Result, Ok, Err, IsErrAnd, ⊤}
use Rattle.vl_disk.specs.declared.read_fault.ReadFault.{ReadFault as VersionFault}
use Rattle.vl_disk.specs.declared.read_fault.ReadFault.TheVariants as fault
use Rattle.vl_reads.specs.Past.{FollowsLeast, IfFailsAt, IsHandedBack, IsLeastBy, LooksBack, LooksForLeast, as_failed_at}
use Rattle.vl_reads.specs.declared.fails.AtFail.{AtFail}
use Rattle.vl_reads.specs.declared.fails.AtFail.TheVariants as why
use Rattle.vl_reads.specs.declared.past.Past.{Past}
use Rattle.vl_model.specs.Keys.{Stored}
use Rattle.vl_txn.specs.Refusals.{unless}
use Rattle.vl_txn.specs.declared.key_fail.KeyFail.{KeyFail}
use Rattle.vl_version.specs.Answers.{Gives}
use Rattle.vl_version.specs.Over.{LooksOver}
use Rattle.vl_version.specs.Past.{LooksNth}
use Rattle.vl_version.specs.Sources.{stored_in}
use Rattle.vl_version.specs.declared.version.Version.{Version}

-- A key that is refused isn't one that passes.
pub refused_not : (refusal : Option KeyFail) (e : KeyFail) → Err e ≡ unless refusal → refusal ≡ None → ⊥
refused_not None e is none = apart tt e (sym is)
  where
    apart : (v : ⊤) (f : KeyFail) → Ok v ≡ Err f → ⊥
    apart v f same = cc
refused_not (Some w) e is none = apart w none
  where
    apart : (f : KeyFail) → Some f ≡ None → ⊥
    apart f same = cc

-- a fault that is handed on
handed_back : (answers : Result (Option Stored) VersionFault → Type 0) (e : VersionFault) (r : Result (Option Stored) AtFail)
    → IsErrAnd r (λ f. f ≡ as_failed_at e) → answers (Err e) → IsHandedBack answers r
handed_back answers e (Ok value) failed met = absurd failed
handed_back answers fault.NoMemory (Err f) failed met =
    subst (λ (g : AtFail). IsHandedBack answers (Err g)) (sym failed) tt
handed_back answers (fault.Disk name) (Err f) failed met =
    subst (λ (g : AtFail). IsHandedBack answers (Err g)) (sym failed) met
handed_back answers (fault.Damaged name place) (Err f) failed met =
    subst (λ (g : AtFail). IsHandedBack answers (Err g)) (sym failed) met

module _ {H : Type 0} (bytes : H → Option (List ℕ)) (version : Version H) (past : Past) (key : List ℕ) (at : ℕ) where
  -- ---- the least number

  -- Nothing is dropped from the floor on,
  pub least_above : past.floor ≤ at → LooksForLeast bytes version past key at (Ok None)
  least_above up = record {
    above = λ high. refl;
    alone = λ below few. absurd (omega (arith, up, below));
    among = λ below more. absurd (omega (arith, up, below));
  }

  -- or one version is kept,
  pub least_alone : at < past.floor → past.keep ≤ 1 → LooksForLeast bytes version past key at (Ok (Some past.floor))
  least_alone low one = record {
    above = λ high. absurd (omega (arith, low, high));
    alone = λ below few. refl;
    among = λ below more. absurd (omega (arith, one, more));
  }

  -- or the oldest of those that are kept was looked for.
  pub least_among : at < past.floor → 2 ≤ past.keep → (oldest r : Result (Option ℕ) VersionFault)
      → LooksNth bytes version key (past.floor + 1) past.keep oldest → IsLeastBy past at oldest r
      → LooksForLeast bytes version past key at r
  least_among low many oldest r looks gives = record {
    above = λ high. absurd (omega (arith, low, high));
    alone = λ below few. absurd (omega (arith, many, few));
    among = λ below more. record { oldest = oldest; looks = looks; gives = gives };
  }

  -- ---- and then the key

  -- The number is below it,
  pub dropped_back : (o : Option ℕ) (least : ℕ) → o ≡ Some least → LooksForLeast bytes version past key at (Ok o)
      → LooksBack bytes version past key at (Err (why.Dropped least))
  dropped_back o least is looks = record {
    least = Ok o;
    looks = looks;
    follows = subst (λ (p : Option ℕ). FollowsLeast bytes version past key at (Ok p) (Err (why.Dropped least))) (sym is) refl;
  }

  module _ (o : Option ℕ) (none : o ≡ None) (looks : LooksForLeast bytes version past key at (Ok o)) where
    looked : (r : Result (Option Stored) AtFail)
        → IsHandedBack (LooksOver bytes version key at (Gives (stored_in bytes version.behind.logs.items))) r
        → LooksBack bytes version past key at r
    looked r over = record {
      least = Ok o;
      looks = looks;
      follows = subst (λ (p : Option ℕ). FollowsLeast bytes version past key at (Ok p) r) (sym none) over;
    }

    -- or what it had there is read,
    pub found_back : (value : Option Stored)
        → LooksOver bytes version key at (Gives (stored_in bytes version.behind.logs.items)) (Ok value)
        → LooksBack bytes version past key at (Ok value)
    found_back value over = looked (Ok value) over

    -- or that wasn't read.
    pub failed_back : (e : VersionFault) (r : Result (Option Stored) AtFail) → IsErrAnd r (λ f. f ≡ as_failed_at e)
        → LooksOver bytes version key at (Gives (stored_in bytes version.behind.logs.items)) (Err e)
        → LooksBack bytes version past key at r
    failed_back e r failed over =
        looked r (handed_back (LooksOver bytes version key at (Gives (stored_in bytes version.behind.logs.items))) e r failed over)

-- a fault that is handed on is so as it was
pub fails_at_so : (P : VersionFault → Type 0) (e : VersionFault) → P e → (r : Result (Option Stored) AtFail)
    → IsErrAnd r (λ f. f ≡ as_failed_at e) → IfFailsAt P r
fails_at_so P e is (Ok value) failed = absurd failed
fails_at_so P fault.NoMemory is (Err f) failed = subst (λ (g : AtFail). IfFailsAt P (Err g)) (sym failed) tt
fails_at_so P (fault.Disk name) is (Err f) failed = subst (λ (g : AtFail). IfFailsAt P (Err g)) (sym failed) is
fails_at_so P (fault.Damaged name place) is (Err f) failed = subst (λ (g : AtFail). IfFailsAt P (Err g)) (sym failed) is
