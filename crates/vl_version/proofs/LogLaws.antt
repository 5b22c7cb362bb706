-- The log with a number, among logs whose numbers rise, and what is told of it.
use Rattle.std.proofs.Common.{◌≡◌, ℕ, ◌<◌, Bool, true, false, cond, List, [], ◌∷◌, refl, ap, sym, ◌∙◌, subst, arith, Option, Some, None}
use Rattle.std.specs.Prelude.{◌==◌, ◌≢◌, nat_lt, IsSome, Result, Ok, Err, option_and_then}
use Rattle.std.proofs.lemmas.Bool.Decides.{nat_tests}
use Rattle.std.specs.List.{AllByRecursion}
use Rattle.vl_disk.specs.declared.name.Name.TheVariants.{Log as log_name}
use Rattle.vl_model.specs.Keys.{Stored}
use Rattle.vl_model.specs.declared.pointer.Pointer.{Pointer}
use Rattle.vl_model.specs.Lookups.{IsParted, first_failing}
use Rattle.vl_seglog.specs.Answers.{Answers, IsAnswer as log_answer, IsNamed}
use Rattle.vl_seglog.specs.Stored.{stored_at}
use Rattle.vl_disk.specs.declared.read_fault.ReadFault.{ReadFault}
use Rattle.vl_disk.specs.declared.read_fault.ReadFault.TheVariants as log
use Rattle.vl_seglog.specs.declared.sealed.SealedLog.{SealedLog}
use Rattle.vl_version.specs.Answers.{IsAnswer}
use Rattle.vl_version.specs.Sources.{AreRising, AreTold, log_in, stored_in}
use Rattle.vl_version.specs.Values.{IsNowhere}

module _ {H : Type 0} where
  -- ---- halving

  -- the log's number is below this one
  abbrev pub is_lower : ℕ → SealedLog H → Bool
  is_lower number log = nat_lt log.number number

  lower_all : (number : ℕ) (first : SealedLog H) (logs : List (SealedLog H)) → AreRising (first ∷ logs)
      → AllByRecursion (λ later. is_lower number later ≡ true → is_lower number first ≡ true) logs
  lower_all number first [] rising = tt
  lower_all number first (next ∷ logs) rising = (
    (λ lower. grind (arith, nat_tests, rising.0)),
    skipped logs rising.1 (lower_all number next logs rising.1),
  )
    where
      below : first.number < next.number
      below = rising.0

      skipped : (ls : List (SealedLog H)) → AreRising (next ∷ logs)
          → AllByRecursion (λ later. is_lower number later ≡ true → is_lower number next ≡ true) ls
          → AllByRecursion (λ later. is_lower number later ≡ true → is_lower number first ≡ true) ls
      skipped [] up all = tt
      skipped (l ∷ ls) up all = (
        (λ lower. let lower_next = all.0 lower in let less = below in grind (arith, nat_tests)),
        skipped ls up all.1,
      )

  rising-rest : (first : SealedLog H) (logs : List (SealedLog H)) → AreRising (first ∷ logs) → AreRising logs
  rising-rest first [] rising = tt
  rising-rest first (next ∷ logs) rising = rising.1

  pub rising-parted : (number : ℕ) (logs : List (SealedLog H)) → AreRising logs → IsParted (is_lower number) logs
  rising-parted number [] rising = tt
  rising-parted number (first ∷ logs) rising =
      (lower_all number first logs rising, rising-parted number logs (rising-rest first logs rising))

  -- the log, where it has the number
  abbrev pub if_number : ℕ → Option (SealedLog H) → Option (SealedLog H)
  if_number number None = None
  if_number number (Some log) = cond (log.number == number) (Some log) None

  pub if_number-same : (number : ℕ) (log : SealedLog H) → log.number ≡ number → if_number number (Some log) ≡ Some log
  if_number-same number log same =
      let test : (log.number == number) ≡ true = grind (arith, nat_tests, same) in
      ap (λ b. cond b (Some log) None) test

  pub if_number-other : (number : ℕ) (log : SealedLog H) → log.number ≢ number → if_number number (Some log) ≡ None
  if_number-other number log other =
      let test : (log.number == number) ≡ false = grind (arith, nat_tests, other) in
      ap (λ b. cond b (Some log) None) test

  none_above : (number : ℕ) (first : SealedLog H) (logs : List (SealedLog H)) → AreRising (first ∷ logs) → number < first.number
      → log_in logs number ≡ None
  none_above number first [] rising above = refl
  none_above number first (next ∷ logs) rising above =
      let less : number < next.number = omega (arith, rising.0) in
      let test : (next.number == number) ≡ false = grind (arith, nat_tests, less) in
      ap (λ b. cond b (Some next) (log_in logs number)) test
      ∙ none_above number next logs rising.1 less

  -- the first log that isn't below the number
  pub log_in-place : (number : ℕ) (logs : List (SealedLog H)) → AreRising logs
      → if_number number (first_failing (is_lower number) logs) ≡ log_in logs number
  log_in-place number [] rising = refl
  log_in-place number (first ∷ logs) rising =
      by (is_lower number first) (first.number == number) refl refl (log_in-place number logs (rising-rest first logs rising))
      (none_above number first logs rising)
    where
      by : (a b : Bool) → nat_lt first.number number ≡ a → (first.number == number) ≡ b
          → if_number number (first_failing (is_lower number) logs) ≡ log_in logs number
          → (number < first.number → log_in logs number ≡ None)
          → if_number number (cond a (first_failing (is_lower number) logs) (Some first)) ≡ cond b (Some first) (log_in logs number)
      by true true lower same later none = absurd (grind (arith, nat_tests))
      by true false lower other later none = later
      by false true stays same later none = ap (λ b. cond b (Some first) None) same
      by false false stays other later none =
          ap (λ b. cond b (Some first) None) other ∙ sym (none (let l = stays in let o = other in grind (arith, nat_tests)))

  -- ---- what is told

  pub all_in : (P : SealedLog H → Type 0) (logs : List (SealedLog H)) (number : ℕ) (log : SealedLog H)
      → log_in logs number ≡ Some log → AllByRecursion P logs → P log
  all_in P [] number log is all = absurd cc
  all_in P (first ∷ logs) number log is all = by (first.number == number) is (all_in P logs number log)
    where
      by : (b : Bool) → cond b (Some first) (log_in logs number) ≡ Some log
          → (log_in logs number ≡ Some log → AllByRecursion P logs → P log) → P log
      by true is later = let same : first ≡ log = cc in subst P same all.0
      by false is later = later is all.1

module _ where
  told_bytes : (told : Option (List ℕ)) → IsSome told → (bytes : List ℕ) × (told ≡ Some bytes)
  told_bytes None some = absurd cc
  told_bytes (Some bytes) some = (bytes, refl)

-- what a log answers, with its fault as that of a read
abbrev pub as_answer : {T : Type 0} → Result T ReadFault → Result T ReadFault
as_answer (Ok x) = Ok x
as_answer (Err fault) = Err fault

module _ {H : Type 0} (bytes_of : H → Option (List ℕ)) (logs : List (SealedLog H)) (pointer : Pointer) (key : List ℕ) where
  -- what stands at the pointer in a log whose bytes are told
  abbrev at_log : SealedLog H → Option Stored
  at_log found = option_and_then (λ bytes. stored_at found.format bytes pointer key) (bytes_of found.held)

  -- no log has the pointer's segment
  pub nowhere : None ≡ log_in logs pointer.segment → stored_in bytes_of logs pointer key ≡ None
  nowhere none = ap (λ l. option_and_then at_log l) (sym none)

  module _ (told : AreTold bytes_of logs) (found : SealedLog H) (is : Some found ≡ log_in logs pointer.segment) where
    stored_in-found : (bytes : List ℕ) → bytes_of found.held ≡ Some bytes
        → stored_at found.format bytes pointer key ≡ stored_in bytes_of logs pointer key
    stored_in-found bytes here =
        sym (ap (λ l. option_and_then at_log l) (sym is)
        ∙ ap (λ o. option_and_then (λ bytes. stored_at found.format bytes pointer key) o) here)

    module _ {T : Type 0} (good : Option Stored → T → Type 0) where
      by_case : (bytes : List ℕ) → bytes_of found.held ≡ Some bytes → found.number ≡ pointer.segment → (result : Result T ReadFault)
          → IsNamed found.number result
          → log_answer (good (stored_at found.format bytes pointer key))
          (λ place. (stored_at found.format bytes pointer key ≡ None) × (place ≡ pointer.place)) result
          → IsAnswer (good (stored_in bytes_of logs pointer key))
          (IsNowhere (stored_in bytes_of logs pointer key) pointer) (as_answer result)
      by_case bytes here same (Ok x) named answer = subst (λ stored. good stored x) (stored_in-found bytes here) answer
      by_case bytes here same (Err log.NoMemory) named answer = tt
      by_case bytes here same (Err (log.Disk name)) named answer = tt
      by_case bytes here same (Err (log.Damaged name place)) named answer =
          (sym (stored_in-found bytes here) ∙ answer.0, named ∙ ap log_name same, answer.1)

      -- what reading the log answers is what is answered of all logs
      pub answers_in : (before now : ℕ) (result : Result T ReadFault) → found.number ≡ pointer.segment
          → Answers before now found.number (bytes_of found.held) (λ bytes x. good (stored_at found.format bytes pointer key) x)
          (λ bytes place. (stored_at found.format bytes pointer key ≡ None) × (place ≡ pointer.place)) result
          → IsAnswer (good (stored_in bytes_of logs pointer key))
          (IsNowhere (stored_in bytes_of logs pointer key) pointer) (as_answer result)
      answers_in before now result same answers =
          let bytes = told_bytes (bytes_of found.held)
          (all_in (λ (log : SealedLog H). IsSome (bytes_of log.held)) logs pointer.segment found (sym is)
          told.told) in
          by_case bytes.0 bytes.1 same result answers.named (answers.answer bytes.0 bytes.1)
