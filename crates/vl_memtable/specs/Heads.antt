-- The head of a key: the number that its first eight bytes are, by which most keys are told apart.
use Rattle.std.specs.Prelude.{◌≡◌, ◌<◌, ◌+◌, ◌*◌, ℕ, zero, suc, List, [], ◌∷◌, take}
use Rattle.std.specs.List.{AllByRecursion}
use Rattle.vl_model.specs.declared.entry.Entry.{Entry}

-- a number with n more bytes behind it, the highest first; zeros stand behind fewer
abbrev pub number_with : ℕ → ℕ → List ℕ → ℕ
number_with x zero bytes = x
number_with x (suc n) [] = number_with (x * 256) n []
number_with x (suc n) (b ∷ bytes) = number_with (x * 256 + b) n bytes

-- the first n of these are bytes
abbrev pub AreBytes : ℕ → List ℕ → Type 0
AreBytes n bytes = AllByRecursion (λ b. b < 256) (take n bytes)

-- the number is a key's head
pub record IsHead (key : List ℕ) (head : ℕ) : Type 0 where
  pub number : head ≡ number_with 0 8 key
  pub bytes : AreBytes 8 key

-- the numbers are the heads of the entries' keys, one for each
abbrev pub AreHeads : List ℕ → List Entry → Type 0
AreHeads [] [] = Unit {0}
AreHeads [] (e ∷ es) = ⊥
AreHeads (head ∷ heads) [] = ⊥
AreHeads (head ∷ heads) (e ∷ es) = IsHead e.key head × AreHeads heads es
