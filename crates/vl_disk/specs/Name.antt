-- The names of a disk's files, and their order.
use Rattle.std.specs.Prelude.{◌≡◌, ◌≢◌, ◌==◌, ℕ, Bool, true, false, ◌+◌, ◌-◌, ◌*◌, ◌^◌, ◌≤◌}
use Rattle.std.specs.declared.cmp.Ordering.{Ordering}
use Rattle.std.specs.Ordering.{nat_cmp, is_eq}
use Rattle.std.specs.Cmp.{IsTotalOrder, nat_cmp_total, unsigned_ties}
use Rattle.std.specs.FinMap.{IsAntisymmetric, nat_cmp-IsAntisymmetric}
use Rattle.std.proofs.Common.{⊎_elim, sym, ◌∙◌, ap, arith}
use Rattle.std.proofs.lemmas.Bool.{cases_eq}
use Rattle.std.proofs.lemmas.Bool.Decides.{nat_tests}
use Rattle.vl_disk.specs.declared.name.Name.{Name}
use Rattle.vl_disk.specs.declared.name.Name.TheVariants.{Log, Table, Manifest}
use Rattle.vl_disk.specs.contracts.name.NamePartialEq.TheImpl as name_equal

-- a number of its own for each name
abbrev pub name_number : Name → ℕ
name_number (Log number) = 3 * number
name_number (Table number) = 3 * number + 1
name_number (Manifest number) = 3 * number + 2

-- the number in a name
abbrev pub file_number : Name → ℕ
file_number (Log number) = number
file_number (Table number) = number
file_number (Manifest number) = number

-- the number is one that a file's name may have
abbrev pub IsNumbered : Name → Type 0
IsNumbered name = (1 ≤ file_number name) × (file_number name ≤ 2 ^ 32 - 2)

-- the order of names in finite maps
abbrev pub name_cmp : Name → Name → Ordering
name_cmp a b = nat_cmp (name_number a) (name_number b)

pub name_cmp_total : IsTotalOrder name_cmp
name_cmp_total = record {
  antisymm = λ a b. nat_cmp_total.antisymm (name_number a) (name_number b);
  trans = λ a b c. nat_cmp_total.trans (name_number a) (name_number b) (name_number c);
  congr = λ a b c. nat_cmp_total.congr (name_number a) (name_number b) (name_number c);
}

-- names of one number are the same name
pub same_name : (a b : Name) → name_number a ≡ name_number b → a ≡ b
same_name (Log m) (Log n) e = let same : m ≡ n = omega arith in ap Log same
same_name (Table m) (Table n) e = let same : m ≡ n = omega arith in ap Table same
same_name (Manifest m) (Manifest n) e = let same : m ≡ n = omega arith in ap Manifest same
same_name (Log m) (Table n) e = absurd (omega arith)
same_name (Log m) (Manifest n) e = absurd (omega arith)
same_name (Table m) (Log n) e = absurd (omega arith)
same_name (Table m) (Manifest n) e = absurd (omega arith)
same_name (Manifest m) (Log n) e = absurd (omega arith)
same_name (Manifest m) (Table n) e = absurd (omega arith)

-- so a map is known by what it has at each name
pub name_cmp_exact : IsAntisymmetric name_cmp
name_cmp_exact a b tied = same_name a b (nat_cmp-IsAntisymmetric (name_number a) (name_number b) tied)

abbrev name_eq : Name → Name → Bool
name_eq = (name_equal.ghosts).eq

same_kind : (m n p q : ℕ) → (m ≡ n → p ≡ q) → (p ≡ q → m ≡ n) → (m == n) ≡ is_eq (nat_cmp p q)
same_kind m n p q up down = ⊎_elim
    (λ (e : p ≡ q). let f : m ≡ n = down e in let a : (m == n) ≡ true = grind (arith, nat_tests) in let
    b : (p == q) ≡ true = grind (arith, nat_tests) in a ∙ sym b ∙ unsigned_ties p q)
    (λ (o : p ≢ q). let f : m ≢ n = λ e. o (up e) in let a : (m == n) ≡ false = grind (arith, nat_tests) in let
    b : (p == q) ≡ false = grind (arith, nat_tests) in a ∙ sym b ∙ unsigned_ties p q)
    (cases_eq p q)

other_kind : (p q : ℕ) → p ≢ q → false ≡ is_eq (nat_cmp p q)
other_kind p q apart = let b : (p == q) ≡ false = grind (arith, nat_tests) in sym b ∙ unsigned_ties p q

-- names are the same where their order ties
pub name_ties : (a b : Name) → name_eq a b ≡ is_eq (name_cmp a b)
name_ties (Log m) (Log n) = same_kind m n (3 * m) (3 * n) (λ e. omega (arith, e)) (λ e. omega (arith, e))
name_ties (Table m) (Table n) = same_kind m n (3 * m + 1) (3 * n + 1) (λ e. omega (arith, e)) (λ e. omega (arith, e))
name_ties (Manifest m) (Manifest n) = same_kind m n (3 * m + 2) (3 * n + 2) (λ e. omega (arith, e)) (λ e. omega (arith, e))
name_ties (Log m) (Table n) = other_kind (3 * m) (3 * n + 1) (λ e. omega (arith, e))
name_ties (Log m) (Manifest n) = other_kind (3 * m) (3 * n + 2) (λ e. omega (arith, e))
name_ties (Table m) (Log n) = other_kind (3 * m + 1) (3 * n) (λ e. omega (arith, e))
name_ties (Table m) (Manifest n) = other_kind (3 * m + 1) (3 * n + 2) (λ e. omega (arith, e))
name_ties (Manifest m) (Log n) = other_kind (3 * m + 2) (3 * n) (λ e. omega (arith, e))
name_ties (Manifest m) (Table n) = other_kind (3 * m + 2) (3 * n + 1) (λ e. omega (arith, e))
