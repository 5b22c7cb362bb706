use Rattle.std.proofs.Common.{◌≡◌, ℕ, ◌+◌, ◌-◌, ◌∷◌, ◌∙◌, ap, sym, subst, arith, drop, length}
use Rattle.vl_compact.proofs.Choices.{range_next}
use Rattle.vl_compact.proofs.Zips.{zip_at, zip_end}
use Rattle.std.specs.Option.{option_map}
use Rattle.vl_compact.specs.Ranges.{range_in}
use Rattle.vl_compact.specs.Laid.{IsTableOf}
use Rattle.vl_engine_model.specs.Levels.{range_of, widened}
use Rattle.vl_compact.proofs.range.range_of.Goals as goal

pub loop-at-init : goal.loop-at-init
loop-at-init g c = record {
  within = omega arith;
  range = λ ts are.
      sym (ap range_of (zip_end (IsTableOf g.H.HeldFile.bytes) c.args.tables.now ts (length c.args.tables.now) are (omega arith)));
}

pub loop-at-preserved : goal.loop-at-preserved
loop-at-preserved g c = record {
  within = omega arith;
  range = λ ts are.
      let i = c.loop-at.at - 1 in
      let more : i + 1 ≡ c.loop-at.at = omega arith in
      let at = zip_at (IsTableOf g.H.HeldFile.bytes) c.args.tables.now ts i c.index-tables-at.result are (omega arith)
      c.index-tables-at.is in
      c.widened.ensures at.item at.is ∙ ap (widened at.item) (c.loop-at.invariant.range ts are)
      ∙ sym (range_next at.item (drop i ts) (drop c.loop-at.at ts) (at.rest ∙ ap (λ (n : ℕ). at.item ∷ drop n ts) more));
}

pub returns : goal.returns
returns g c = λ ts are.
    let none : c.loop-at.at ≡ 0 = omega arith in
    subst (λ (n : ℕ). option_map range_in c.loop-at.range ≡ range_of (drop n ts)) none (c.loop-at.invariant.range ts are)
