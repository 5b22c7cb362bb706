use Rattle.std.proofs.Common.{◌≡◌, ◌+◌, Some, None, sym, ap, ◌∙◌, arith}
use Rattle.std.specs.Option.{option_copied}
use Rattle.std.specs.FinMap.{get}
use Rattle.vl_txn.proofs.WriteEntries.{bytes_after, replaced-le, len-insert_present, len-insert_absent}
use Rattle.vl_txn.proofs.writes.Writes.sizes_with.Goals as goal

pub overflow_sub-result : goal.overflow_sub-result
overflow_sub-result c =
    let replaced = c.in-Some.replaced.now in
    let found : get c.args.self.now c.args.key.now ≡ Some replaced = sym c.get.ensures ∙ ap option_copied c.in-Some.is in
    omega (arith, c.value_len.ensures, replaced-le _ _ _ c.args.key.now replaced c.self.invariant c.self.view_is found)

pub overflow_add-result-in-None : goal.overflow_add-result-in-None
overflow_add-result-in-None c = omega (arith, c.len-in-None.ensures.few)

pub returns-in-Some : goal.returns-in-Some
returns-in-Some c change same =
    let replaced = c.in-Some.replaced.now in
    let found : get c.args.self.now c.args.key.now ≡ Some replaced = sym c.get.ensures ∙ ap option_copied c.in-Some.is in
    let bytes = bytes_after _ _ _ c.args.key.now change _ c.self.invariant c.self.view_is found in (
      c.len.ensures.value ∙ sym (len-insert_present c.args.self.now c.args.key.now change replaced found),
      omega (arith, bytes, same, c.value_len.ensures, replaced-le _ _ _ c.args.key.now replaced c.self.invariant c.self.view_is found),
    )

pub returns-in-None : goal.returns-in-None
returns-in-None c change same =
    let missing : get c.args.self.now c.args.key.now ≡ None = sym c.get.ensures ∙ ap option_copied c.in-None.is in
    let bytes = bytes_after _ _ _ c.args.key.now change _ c.self.invariant c.self.view_is missing in (
      ap (λ n. n + 1) c.len-in-None.ensures.value ∙ sym (len-insert_absent c.args.self.now c.args.key.now change missing),
      omega (arith, bytes, same),
    )
