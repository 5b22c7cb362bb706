-- One stage of reading a sealed log behind another.
use Rattle.std.specs.Prelude.{◌≡◌, ℕ, List, Option, Some, Result, Ok, Err}
use Rattle.std.specs.Option.{ForSome}
use Rattle.std.proofs.Common.{arith, refl, subst, sym}
use Rattle.vl_disk.specs.Faults.{HasCause}
use Rattle.vl_disk.specs.declared.name.Name.TheVariants.{Log as log_name}
use Rattle.vl_disk.specs.declared.read_fault.ReadFault.{ReadFault}
use Rattle.vl_disk.specs.declared.read_fault.ReadFault.TheVariants.{NoMemory, Disk, Damaged}
use Rattle.vl_seglog.specs.Answers.{Failed, IsNamed, IsAnswer, Answers}

-- ---- one stage behind another

for_some : (told : Option (List ℕ)) (P Q : List ℕ → Type 0)
    → ((bytes : List ℕ) → told ≡ Some bytes → P bytes → Q bytes) → ForSome told P → ForSome told Q
for_some told P Q f p = λ bytes is. f bytes is (p bytes is)

weaker_answer : {T : Type 0} (good other : T → Type 0) (bad worse : ℕ → Type 0) (r : Result T ReadFault)
    → ((x : T) → good x → other x) → ((p : ℕ) → bad p → worse p)
    → IsAnswer good bad r → IsAnswer other worse r
weaker_answer good other bad worse (Ok x) f g is = f x is
weaker_answer good other bad worse (Err NoMemory) f g is = tt
weaker_answer good other bad worse (Err (Disk name)) f g is = tt
weaker_answer good other bad worse (Err (Damaged name place)) f g is = g place is

pub weaker : {T : Type 0} (before now number : ℕ) (told : Option (List ℕ)) (good other : List ℕ → T → Type 0)
    (bad worse : List ℕ → ℕ → Type 0) (r : Result T ReadFault)
    → ((bytes : List ℕ) → told ≡ Some bytes → (x : T) → good bytes x → other bytes x)
    → ((bytes : List ℕ) → told ≡ Some bytes → (p : ℕ) → bad bytes p → worse bytes p)
    → Answers before now number told good bad r → Answers before now number told other worse r
weaker before now number told good other bad worse r f g a = record {
  cause = a.cause;
  named = a.named;
  answer = for_some told (λ bytes. IsAnswer (good bytes) (bad bytes) r) (λ bytes. IsAnswer (other bytes) (worse bytes) r)
      (λ bytes is. weaker_answer (good bytes) (other bytes) (bad bytes) (worse bytes) r (f bytes is) (g bytes is)) a.answer;
}

-- what is answered where a stage went well is what the next one answers
pub and_then : {S T : Type 0} (before mid now number : ℕ) (told : Option (List ℕ)) (good : List ℕ → S → Type 0)
    (next last : List ℕ → T → Type 0) (bad worse worst : List ℕ → ℕ → Type 0)
    (s : S) (r : Result T ReadFault)
    → ((bytes : List ℕ) → told ≡ Some bytes → good bytes s → (x : T) → next bytes x → last bytes x)
    → ((bytes : List ℕ) → told ≡ Some bytes → good bytes s → (p : ℕ) → worse bytes p → worst bytes p)
    → Answers before mid number told good bad (Ok s) → Answers mid now number told next worse r
    → Answers before now number told last worst r
and_then before mid now number told good next last bad worse worst s r f g first second = record {
  cause = subst (λ (n : ℕ). HasCause n now (Failed r)) (first.cause.steady (λ no. no)) second.cause;
  named = second.named;
  answer = λ bytes is. weaker_answer (next bytes) (last bytes) (worse bytes) (worst bytes) r
      (f bytes is (first.answer bytes is)) (g bytes is (first.answer bytes is)) (second.answer bytes is);
}

handed : (S T : Type 0) (e : ReadFault) → Failed {T = S} (Err e) ≡ Failed {T = T} (Err e)
handed S T NoMemory = refl
handed S T (Disk name) = refl
handed S T (Damaged name place) = refl

handed_name : (S T : Type 0) (number : ℕ) (e : ReadFault) → IsNamed {T = S} number (Err e) → IsNamed {T = T} number (Err e)
handed_name S T number NoMemory is = is
handed_name S T number (Disk name) is = is
handed_name S T number (Damaged name place) is = is

handed_answer : {S T : Type 0} (good : S → Type 0) (other : T → Type 0) (bad worse : ℕ → Type 0) (e : ReadFault)
    → ((p : ℕ) → bad p → worse p)
    → IsAnswer good bad (Err e) → IsAnswer other worse (Err e)
handed_answer good other bad worse NoMemory f is = tt
handed_answer good other bad worse (Disk name) f is = tt
handed_answer good other bad worse (Damaged name place) f is = f place is

-- a fault of a stage is handed on
pub fails : {S T : Type 0} (before now number : ℕ) (told : Option (List ℕ)) (good : List ℕ → S → Type 0)
    (other : List ℕ → T → Type 0) (bad worse : List ℕ → ℕ → Type 0) (e : ReadFault)
    → ((bytes : List ℕ) → told ≡ Some bytes → (p : ℕ) → bad bytes p → worse bytes p)
    → Answers {T = S} before now number told good bad (Err e) → Answers {T = T} before now number told other worse (Err e)
fails {S = S} {T = T} before now number told good other bad worse e f a = record {
  cause = subst (HasCause before now) (handed S T e) a.cause;
  named = handed_name S T number e a.named;
  answer = for_some told (λ bytes. IsAnswer (good bytes) (bad bytes) (Err e)) (λ bytes. IsAnswer (other bytes) (worse bytes) (Err e))
      (λ bytes is. handed_answer (good bytes) (other bytes) (bad bytes) (worse bytes) e (f bytes is)) a.answer;
}

no_failure : (now : ℕ) → HasCause now now ⊥
no_failure now = record { later = omega arith; rose = λ no. absurd no; steady = λ no. refl }

-- damage is answered
pub refuses : {T : Type 0} (now number place : ℕ) (told : Option (List ℕ)) (good : List ℕ → T → Type 0)
    (bad : List ℕ → ℕ → Type 0) (e : ReadFault)
    → e ≡ Damaged (log_name number) place → ((bytes : List ℕ) → told ≡ Some bytes → bad bytes place)
    → Answers {T = T} now now number told good bad (Err e)
refuses {T = T} now number place told good bad e is f =
    subst (λ (why : ReadFault). Answers {T = T} now now number told good bad (Err why)) (sym is)
    (record { cause = no_failure now; named = refl; answer = f })

-- there is no more to read
pub gives : {T : Type 0} (now number : ℕ) (told : Option (List ℕ)) (good : List ℕ → T → Type 0) (bad : List ℕ → ℕ → Type 0) (x : T)
    → ((bytes : List ℕ) → told ≡ Some bytes → good bytes x) → Answers now now number told good bad (Ok x)
gives now number told good bad x f = record { cause = no_failure now; named = tt; answer = f }

pub no_memory : {T : Type 0} (now number : ℕ) (told : Option (List ℕ)) (good : List ℕ → T → Type 0)
    (bad : List ℕ → ℕ → Type 0) (e : ReadFault)
    → e ≡ NoMemory
    → Answers {T = T} now now number told good bad (Err e)
no_memory {T = T} now number told good bad e is =
    subst (λ (why : ReadFault). Answers {T = T} now now number told good bad (Err why)) (sym is)
    (record { cause = no_failure now; named = tt; answer = λ bytes told_is. tt })

-- where a stage went well, that is the last answer
pub then_gives : {S T : Type 0} (before now number : ℕ) (told : Option (List ℕ)) (good : List ℕ → S → Type 0) (last : List ℕ → T → Type 0)
    (bad worst : List ℕ → ℕ → Type 0) (s : S) (x : T)
    → ((bytes : List ℕ) → told ≡ Some bytes → good bytes s → last bytes x)
    → Answers before now number told good bad (Ok s) → Answers before now number told last worst (Ok x)
then_gives before now number told good last bad worst s x f a = record {
  cause = a.cause;
  named = tt;
  answer = λ bytes is. f bytes is (a.answer bytes is);
}

-- and that damage
pub then_refuses : {S T : Type 0} (before now number place : ℕ) (told : Option (List ℕ)) (good : List ℕ → S → Type 0)
    (last : List ℕ → T → Type 0)
    (bad worst : List ℕ → ℕ → Type 0) (s : S) (e : ReadFault)
    → e ≡ Damaged (log_name number) place
    → ((bytes : List ℕ) → told ≡ Some bytes → good bytes s → worst bytes place)
    → Answers before now number told good bad (Ok s) → Answers {T = T} before now number told last worst (Err e)
then_refuses {T = T} before now number place told good last bad worst s e is f a =
    subst (λ (why : ReadFault). Answers {T = T} before now number told last worst (Err why)) (sym is)
    (record { cause = a.cause; named = refl; answer = λ bytes here. f bytes here (a.answer bytes here) })
