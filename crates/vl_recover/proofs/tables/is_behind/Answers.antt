use Rattle.std.proofs.Common.{◌≡◌, ◌∙◌, ◌≤◌, ℕ, List, ap, arith, length, refl, subst, sym}
use Rattle.std.specs.Prelude.{◌==◌, Bool, Option, Some, false}
use Rattle.std.proofs.lemmas.Bool.Decides.{nat_tests}
use Rattle.vl_recover.specs.opening.FoundTables.{found_list, found_table}
use Rattle.vl_recover.specs.opening.OpenedTables.{last_before}
use Rattle.vl_recover.specs.opening.Opening.{IsAbove, first_key, last_key}
use Rattle.vl_recover.proofs.opening.NamingTables.{last_at, none_before}
use Rattle.vl_recover.proofs.tables.is_behind.Goals as goal

pub returns-then-not-is_deeper : goal.returns-then-not-is_deeper
returns-then-not-is_deeper g c =
    let ts = found_list c.args.opened.now in
    let key = first_key (found_table c.args.table.now) in
    let none = ap (λ (b : Bool). last_before b ts) c.if-not-is_deeper.true ∙ none_before ts in
    (λ _. subst (λ (o : Option (List ℕ)). IsAbove o key) (sym none) tt, λ _. refl)

some_there : (n : ℕ) → (n == 0) ≡ false → 1 ≤ n
some_there n e = grind (arith, nat_tests, e)

pub returns : goal.returns
returns g c =
    let opened = c.args.opened.now in
    let before = c.index-opened-opened.result in
    let key = first_key (found_table c.args.table.now) in
    let some = some_there (length opened) (sym c.is_empty.ensures ∙ c.if-is_empty.false) in
    let last : last_before c.args.is_deeper (found_list opened) ≡ Some (last_key (found_table before)) =
    ap (λ (b : Bool). last_before b (found_list opened)) c.if-not-is_deeper.false
    ∙ last_at opened before some
    ∙ ap (λ t. Some (last_key (found_table t))) (sym c.index-opened-opened.is) in (
      λ yes. subst (λ (o : Option (List ℕ)). IsAbove o key) (sym last) (c.is_after.ensures.0 yes),
      λ above. c.is_after.ensures.1 (subst (λ (o : Option (List ℕ)). IsAbove o key) last above),
    )
