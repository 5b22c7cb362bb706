use Rattle.std.proofs.Common.{◌≡◌, ◌*◌, ◌||◌, ◌++◌, ℕ, List, arith, length, drop, ap, subst, ◌∙◌}
use Rattle.vl_filter.specs.Bits.{is_set}
use Rattle.vl_filter.specs.Filters.{is_marked}
use Rattle.std.proofs.lemmas.List.{length-replicate, take_at}
use Rattle.vl_filter.proofs.BuildLaws.{built}
use Rattle.vl_filter.proofs.builder.build.Goals as goal

pub returns : goal.returns
returns c =
    let zeros = c.in_ok-bytes.bytes.items in
    let ws = c.mark_all.new.bytes in
    let are = c.in_ok-bytes.ensures.items_if_clones_equal (λ y e. e) in
    let size : length zeros ≡ c.bytes_for-count.result = ap length are ∙ length-replicate {A = ℕ} c.bytes_for-count.result 0 in
    let same : length ws ≡ length zeros = c.mark_all.auto.bytes ∙ ap length c.deref_mut.ensures.value in
    let len = c.in_ok-bytes.ensures.len in
    let now : c.deref.result.now ≡ ws = c.deref.ensures.value
    ∙ take_at ws (drop (length ws) zeros) c.in_ok-bytes.bytes.len (omega (arith, same, size, len)) in
    let marked =
    subst (λ (l : List ℕ). (p : ℕ) → is_set ws p ≡ (is_marked (8 * length l) c.args.keys.now p || is_set l p))
    c.deref_mut.ensures.value c.mark_all.ensures.marked in
    built c.args.keys.now c.bytes_for-count.result zeros ws c.deref.result.now c.write_u32.new.buf
    c.extend_from_slice.new.self.items c.extend_from_slice-2.new.self.items
    c.mark_all.ensures.bytes c.bytes_for-count.ensures are same now marked c.write_u32.ensures
    (c.in_ok-extend_from_slice.ensures.items ∙ ap (λ l. l ++ c.write_u32.new.buf) c.new-body.ensures.items)
    c.in_ok-extend_from_slice-2.ensures.items
