-- What finite maps from names have at each name.
use Rattle.std.specs.Prelude.{◌≡◌, ◌≢◌, ◌⊎◌, ℕ, Bool, true, false, None, Some, cond, ◌==◌}
use Rattle.std.specs.Ordering.{eq_by_cmp}
use Rattle.std.specs.Cmp.{unsigned_tied}
use Rattle.std.specs.FinMap.{FinMap, get, insert, remove, get-insert, get-remove, same_map}
use Rattle.std.proofs.Common.{inl, inr, ⊎_elim, refl, sym, ◌∙◌, ap, arith}
use Rattle.std.proofs.lemmas.Bool.{cases_eq}
use Rattle.std.proofs.lemmas.Bool.Decides.{nat_tests}
use Rattle.vl_disk.specs.declared.name.Name.{Name}
use Rattle.vl_disk.specs.Name.{name_number, name_cmp, name_cmp_total, name_cmp_exact, same_name}

-- two names are the same or they are not
pub same_or_other : (a b : Name) → (a ≡ b) ⊎ (a ≢ b)
same_or_other a b = ⊎_elim
    (λ (e : name_number a ≡ name_number b). inl (same_name a b e))
    (λ (n : name_number a ≢ name_number b). inr (λ e. n (ap name_number e)))
    (cases_eq (name_number a) (name_number b))

equal_number : (m n : ℕ) → m ≡ n → (m == n) ≡ true
equal_number m n e = grind (arith, nat_tests)

other_number : (m n : ℕ) → m ≢ n → (m == n) ≡ false
other_number m n apart = grind (arith, nat_tests)

pub tied_same : (a : Name) → eq_by_cmp name_cmp a a ≡ true
tied_same a = unsigned_tied (name_number a) (name_number a) ∙ equal_number (name_number a) (name_number a) refl

pub tied_other : (a b : Name) → a ≢ b → eq_by_cmp name_cmp a b ≡ false
tied_other a b apart = unsigned_tied (name_number a) (name_number b)
    ∙ other_number (name_number a) (name_number b) (λ e. apart (same_name a b e))

module _ {X : Type 0} (m : FinMap name_cmp X) where
  pub get_inserted : (name : Name) (x : X) → get (insert m name x) name ≡ Some x
  get_inserted name x = get-insert name_cmp_total m name x name ∙ ap (λ (b : Bool). cond b (Some x) (get m name)) (tied_same name)

  pub get_inserted_other : (name : Name) (x : X) (other : Name) → other ≢ name → get (insert m name x) other ≡ get m other
  get_inserted_other name x other apart = get-insert name_cmp_total m name x other
      ∙ ap (λ (b : Bool). cond b (Some x) (get m other)) (tied_other other name apart)

  pub get_removed : (name : Name) → get (remove m name) name ≡ None
  get_removed name = get-remove name_cmp_total m name name ∙ ap (λ (b : Bool). cond b None (get m name)) (tied_same name)

  pub get_removed_other : (name other : Name) → other ≢ name → get (remove m name) other ≡ get m other
  get_removed_other name other apart = get-remove name_cmp_total m name other
      ∙ ap (λ (b : Bool). cond b None (get m other)) (tied_other other name apart)

  -- to put there what stands there changes nothing
  pub inserted_again : (name : Name) (x : X) → get m name ≡ Some x → insert m name x ≡ m
  inserted_again name x stands = same_map name_cmp_total name_cmp_exact (insert m name x) m (λ q. ⊎_elim
      (λ (e : q ≡ name). ap (get (insert m name x)) e ∙ get_inserted name x ∙ sym stands ∙ ap (get m) (sym e))
      (λ (n : q ≢ name). get_inserted_other name x q n)
      (same_or_other q name))

  -- of two things put there the last one stays
  pub inserted_twice : (name : Name) (x y : X) → insert (insert m name x) name y ≡ insert m name y
  inserted_twice name x y = same_map name_cmp_total name_cmp_exact (insert (insert m name x) name y) (insert m name y) (λ q. ⊎_elim
      (λ (e : q ≡ name). ap (get (insert (insert m name x) name y)) e
      ∙ get-insert name_cmp_total (insert m name x) name y name
      ∙ ap (λ (b : Bool). cond b (Some y) (get (insert m name x) name)) (tied_same name)
      ∙ sym (ap (get (insert m name y)) e ∙ get_inserted name y))
      (λ (n : q ≢ name). get-insert name_cmp_total (insert m name x) name y q
      ∙ ap (λ (b : Bool). cond b (Some y) (get (insert m name x) q)) (tied_other q name n)
      ∙ get_inserted_other name x q n ∙ sym (get_inserted_other name y q n))
      (same_or_other q name))
