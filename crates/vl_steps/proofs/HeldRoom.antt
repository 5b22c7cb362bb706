-- The room of a log stays where another one is held.
use Rattle.std.specs.Prelude.{◌≡◌, ◌≤◌, ℕ, Bool, true, false, nat_eq, IsSomeAnd, IsTrue, Option}
use Rattle.std.proofs.Common.{arith, refl, subst, sym}
use Rattle.std.proofs.lemmas.Bool.Decides.{nat_tests}
use Rattle.vl_disk.specs.Spare.{IsReady, Spare, UsesHold}
use Rattle.vl_disk.specs.declared.name.Name.{Name}
use Rattle.vl_disk.specs.declared.name.Name.TheVariants.{Log}

pub still_ready : (held next bytes : ℕ) (old new : Name → Spare) → UsesHold (Log held) old new → IsReady bytes (old (Log next))
    → IsReady bytes (new (Log next))
still_ready held next bytes old new uses ready = by (nat_eq next held) refl
  where
    here : IsReady bytes (old (Log held)) → IsReady bytes (new (Log held))
    here r = record {
      change = subst IsTrue (sym uses.change) r.change;
      append = subst (λ (o : Option ℕ). IsSomeAnd o (λ room. bytes ≤ room)) (sym uses.append) r.append;
    }

    same : nat_eq next held ≡ true → held ≡ next
    same is = grind (arith, nat_tests)

    one : (m n : ℕ) → Log m ≡ Log n → m ≡ n
    one m n e = cc

    apart : nat_eq next held ≡ false → Log next ≡ Log held → ⊥
    apart is e = let numbers = one next held e in grind (arith, nat_tests)

    by : (t : Bool) → nat_eq next held ≡ t → IsReady bytes (new (Log next))
    by true is =
        subst (λ (n : ℕ). IsReady bytes (old (Log n)) → IsReady bytes (new (Log n))) (same is) here ready
    by false is = subst (IsReady bytes) (sym (uses.elsewhere (Log next) (apart is))) ready
