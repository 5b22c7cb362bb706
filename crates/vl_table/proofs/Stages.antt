-- The first stages of reading a table: its header, and the place of its footer.
use Rattle.std.specs.Prelude.{◌≡◌, ◌-◌, ℕ, List, length, Option, Result, Ok}
use Rattle.vl_table.specs.Answers.{Answers}
use Rattle.vl_table.proofs.AnswerSteps.{and_then}
use Rattle.vl_table.specs.Begun.{IsBegun, IsInside, said_place}
use Rattle.vl_disk.specs.declared.read_fault.ReadFault.{ReadFault}

-- what each stage reads, and its damage
abbrev pub NoHeader : ℕ → List ℕ → ℕ → Type 0
NoHeader number bytes damage = ((format : ℕ) → IsBegun format number bytes → ⊥) × (damage ≡ 0)

abbrev pub IsPlace : List ℕ → ℕ → Type 0
IsPlace bytes place = (place ≡ said_place bytes) × IsInside bytes place

abbrev pub NoPlace : List ℕ → ℕ → Type 0
NoPlace bytes damage = (IsInside bytes (said_place bytes) → ⊥) × (damage ≡ length bytes - 8)

-- what comes behind both
pub behind_place : {T : Type 0} (format number : ℕ) (told : Option (List ℕ)) (a b c d place : ℕ)
    (good : List ℕ → T → Type 0) (bad worst : List ℕ → ℕ → Type 0) (r : Result T ReadFault)
    → Answers {T = ℕ} a b number told (λ bytes f. IsBegun f number bytes) (NoHeader number) (Ok format)
    → Answers b c number told IsPlace NoPlace (Ok place)
    → ((bytes : List ℕ) → IsBegun format number bytes → IsPlace bytes place → (damage : ℕ) → bad bytes damage → worst bytes damage)
    → Answers c d number told (λ bytes x. good bytes x) bad r
    → Answers a d number told (λ bytes x. IsBegun format number bytes × IsPlace bytes place × good bytes x) worst r
behind_place {T = T} format number told a b c d place good bad worst r first second worse third =
    and_then a b d number told (λ bytes (f : ℕ). IsBegun f number bytes) (λ bytes x. IsPlace bytes place × good bytes x)
    (λ bytes x. IsBegun format number bytes × IsPlace bytes place × good bytes x)
    (NoHeader number) (λ bytes damage. IsPlace bytes place × bad bytes damage) worst format r
    (λ bytes told_is begun x rest. (begun, rest.0, rest.1))
    (λ bytes told_is begun damage rest. worse bytes begun rest.0 damage rest.1) first
    (and_then b c d number told IsPlace good (λ bytes x. IsPlace bytes place × good bytes x) NoPlace bad
    (λ bytes damage. IsPlace bytes place × bad bytes damage) place r
    (λ bytes told_is at x is. (at, is)) (λ bytes told_is at damage is. (at, is)) second third)
