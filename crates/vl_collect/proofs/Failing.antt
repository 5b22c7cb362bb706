-- A fault behind steps that counted none is one of all of them.
use Rattle.std.proofs.Common.{◌≡◌, inl, inr, ℕ, Bool, List, Option, Some, refl, subst, sym, ◌∙◌}
use Rattle.std.specs.Option.{ForSome}
use Rattle.std.specs.Prelude.{Result, Ok, Err, IsErrAnd, IfErr}
use Rattle.vl_collect.specs.Faults.{FailsLooking, FailsPassing, IsTheirs, IsThere, MayWhere, NoneRose, counted, failing}
use Rattle.vl_disk.specs.declared.read_fault.ReadFault.{ReadFault}
use Rattle.vl_disk.specs.Faults.{HasCause}
use Rattle.vl_model.specs.Cursors.{IsCounted}
use Rattle.vl_seglog.specs.Answers.{Answers, Failed, IsAnswer, IsNamed}
use Rattle.vl_disk.specs.declared.read_fault.ReadFault.TheVariants as log

-- what is said of a fault is said of a call that passes it on
pub passed_on : {A E : Type 0} (e : E) (result : Result A E) (P : E → Type 0) → IsErrAnd result (λ f. f ≡ e) → P e → IfErr result P
passed_on e (Ok x) P is so = tt
passed_on e (Err f) P is so = subst P (sym is) so

-- what there may be later there may be where what held at first still holds
module _ (is_read : ReadFault → Bool) (may : ReadFault → Type 0) (fits fits' : Type 0) (holds : fits → fits')
    (before mid after : ℕ) (steady : mid ≡ before) (fault : ReadFault) where
  pub theirs_later : IsTheirs is_read (MayWhere fits' may) mid after fault → IsTheirs is_read (MayWhere fits may) before after fault
  theirs_later one = record {
    told = one.told;
    is = one.is;
    had = λ fit. one.had (holds fit);
    counted = subst (λ n. IsCounted (is_read one.told) n after) steady one.counted;
  }

  pub looks_later : FailsLooking is_read (MayWhere fits' may) mid after fault → FailsLooking is_read (MayWhere fits may) before after fault
  looks_later (inl memory) = inl record { is = memory.is; steady = memory.steady ∙ steady }
  looks_later (inr one) = inr (theirs_later one)

-- ---- where the log was read too

in_log : (T : Type 0) (number : ℕ) (fault : ReadFault) → IsNamed {T = T} number (Err fault) → IsNamed number (failing fault)
in_log T number log.NoMemory is = tt
in_log T number (log.Disk name) is = is
in_log T number (log.Damaged name place) is = is

caused : (T : Type 0) (before after : ℕ) (fault : ReadFault) → HasCause before after (Failed {T = T} (Err fault))
    → HasCause before after (Failed (failing fault))
caused T before after log.NoMemory is = is
caused T before after (log.Disk name) is = is
caused T before after (log.Damaged name place) is = is

there : {T : Type 0} (told : Option (List ℕ)) (good : List ℕ → T → Type 0) (bad : List ℕ → ℕ → Type 0)
    (Torn : List ℕ → ℕ → Type 0) (fault : ReadFault)
    → ForSome told (λ bytes. IsAnswer (good bytes) (bad bytes) (Err fault))
    → ((bytes : List ℕ) → told ≡ Some bytes → (place : ℕ) → bad bytes place → Torn bytes place)
    → IsThere (λ place. ForSome told (λ bytes. Torn bytes place)) fault
there told good bad Torn log.NoMemory answer is_torn = tt
there told good bad Torn (log.Disk name) answer is_torn = tt
there told good bad Torn (log.Damaged name place) answer is_torn = λ bytes is. is_torn bytes is place (answer bytes is)

module _ (is_read : ReadFault → Bool) (may : ReadFault → Type 0) (number looks files looks' files' : ℕ)
    (steady : NoneRose (counted looks looks' files files')) (looks'' files'' : ℕ) where
  -- looking up failed then
  pub looks_behind : (torn : ℕ → Type 0) (fits fits' : Type 0) → (fits → fits') → files'' ≡ files' → (fault : ReadFault)
      → FailsLooking is_read (MayWhere fits' may) looks' looks'' fault
      → FailsPassing is_read (MayWhere fits may) number torn (counted looks looks'' files files'') fault
  looks_behind torn fits fits' holds still fault fails = inl record {
    fails = looks_later is_read may fits fits' holds looks looks' looks'' steady.sources fault fails;
    steady = still ∙ steady.files;
  }

  -- reading the log did
  pub log_behind : {T : Type 0} (fits : Type 0) (Torn : List ℕ → ℕ → Type 0) → looks'' ≡ looks' → (told : Option (List ℕ))
      (good : List ℕ → T → Type 0) (bad : List ℕ → ℕ → Type 0) (fault : ReadFault)
      → Answers files' files'' number told good bad (Err fault)
      → ((bytes : List ℕ) → told ≡ Some bytes → (place : ℕ) → bad bytes place → Torn bytes place)
      → FailsPassing is_read (MayWhere fits may) number (λ place. ForSome told (λ bytes. Torn bytes place))
      (counted looks looks'' files files'') fault
  log_behind {T} fits Torn still told good bad fault answers is_torn = inr record {
    told = fault;
    is = refl;
    named = in_log T number fault answers.named;
    damage = there told good bad Torn fault answers.answer is_torn;
    counted = subst (λ n. HasCause n files'' (Failed (failing fault))) steady.files (caused T files' files'' fault answers.cause);
    steady = still ∙ steady.sources;
  }
