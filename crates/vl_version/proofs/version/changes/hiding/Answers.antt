use Rattle.std.proofs.Common.{◌≡◌, ℕ, zero, suc, sym, refl, ap, arith}
use Rattle.std.proofs.lemmas.Bool.Decides.{nat_tests}
use Rattle.vl_merge.specs.declared.hides.Hides.TheVariants.{UpTo}
use Rattle.vl_version.specs.Changes.{hiding}
use Rattle.vl_version.proofs.version.changes.hiding.Goals as goal

hiding_above : (since : ℕ) → (since ≡ 0 → ⊥) → UpTo since ≡ hiding since
hiding_above zero above = absurd (above refl)
hiding_above (suc since) above = refl

pub returns-then-since-eq0 : goal.returns-then-since-eq0
returns-then-since-eq0 c = let none : c.args.since ≡ 0 = grind (arith, nat_tests, c.if-since-eq0.true) in sym (ap hiding none)

pub returns-else-since-eq0 : goal.returns-else-since-eq0
returns-else-since-eq0 c = hiding_above c.args.since (λ none. grind (arith, nat_tests, c.if-since-eq0.false, none))
