use Rattle.std.specs.Prelude.{Some, None}
use Rattle.std.specs.Option.{option_copied}
use Rattle.std.proofs.Common.{◌≡◌, ℕ, ◌+◌, ◌-◌, ◌∷◌, ◌∙◌, ap, sym, subst, arith, drop, length}
use Rattle.vl_compact.proofs.Choices.{least_next}
use Rattle.vl_compact.proofs.Zips.{zip_at, zip_end}
use Rattle.vl_compact.specs.Laid.{AreBoth, IsTableOf}
use Rattle.vl_engine_model.specs.Levels.{least_table}
use Rattle.vl_compact.proofs.choice.least.Goals as goal

pub loop-at-init : goal.loop-at-init
loop-at-init g c = record {
  within = omega arith;
  best = λ ts are.
      let R = IsTableOf g.H.HeldFile.bytes in
      subst (AreBoth R None) (sym (ap least_table (zip_end R c.args.tables.now ts (length c.args.tables.now) are (omega arith)))) tt;
}

pub loop-at-preserved : goal.loop-at-preserved
loop-at-preserved g c = record {
  within = omega arith;
  best = λ ts are.
      let R = IsTableOf g.H.HeldFile.bytes in
      let i = c.loop-at.at - 1 in
      let more : i + 1 ≡ c.loop-at.at = omega arith in
      let at = zip_at R c.args.tables.now ts i c.index-tables-at.result are (omega arith) c.index-tables-at.is in
      subst (AreBoth R (Some c.lesser.result.now))
      (sym (least_next at.item (drop i ts) (drop c.loop-at.at ts) (at.rest ∙ ap (λ (n : ℕ). at.item ∷ drop n ts) more)))
      (c.lesser.ensures at.item (least_table (drop c.loop-at.at ts)) at.is (c.loop-at.invariant.best ts are));
}

pub returns : goal.returns
returns g c = λ ts are.
    let R = IsTableOf g.H.HeldFile.bytes in
    let none : c.loop-at.at ≡ 0 = omega arith in
    subst (λ (n : ℕ). AreBoth R (option_copied c.loop-at.best) (least_table (drop n ts))) none (c.loop-at.invariant.best ts are)
