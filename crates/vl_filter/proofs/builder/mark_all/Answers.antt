use Rattle.std.proofs.Common.{◌≡◌, ◌*◌, ◌||◌, ℕ, arith, get_or, length, subst}
use Rattle.vl_filter.specs.Bits.{is_set}
use Rattle.vl_filter.specs.Places.{has_place}
use Rattle.vl_filter.proofs.PlaceLaws.{more_key_at}
use Rattle.vl_filter.proofs.builder.mark_all.Goals as goal

pub loop-hashes-preserved : goal.loop-hashes-preserved
loop-hashes-preserved c = record {
  fits = λ k. omega (arith, c.type_inv.bytes k);
  marked = λ p.
      more_key_at (8 * length c.args.bytes.now) c.args.keys.now c.loop-hashes.hashes-index (record { first = 0; second = 0 }) p
      (is_set c.mark.new.bytes p) (is_set c.loop-hashes.bytes p) (is_set c.args.bytes.now p)
      (let within = c.loop-hashes-test.true in omega arith)
      (subst (λ (n : ℕ). is_set c.mark.new.bytes
      p ≡ (has_place (8 * n) (get_or c.args.keys.now c.loop-hashes.hashes-index (record { first = 0; second = 0 })) p
      || is_set c.loop-hashes.bytes p)) c.loop-hashes.auto.bytes (c.mark.ensures p))
      (c.loop-hashes.invariant.marked p);
}
