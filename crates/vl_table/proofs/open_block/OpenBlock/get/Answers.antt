use Rattle.std.proofs.Common.{◌≡◌, ◌<◌, ◌-◌, ◌∙◌, ℕ, List, ap, arith, drop, get_or, length, length-drop, subst, sym, take}
use Rattle.std.proofs.lemmas.List.{take_all}
use Rattle.vl_model.specs.declared.entry.Entry.{Entry}
use Rattle.vl_table.specs.body.Entries.{entry_of}
use Rattle.vl_table.specs.body.Starts.{StartsAt}
use Rattle.vl_table.proofs.OpenSteps.{said_here}
use Rattle.vl_table.proofs.open_block.OpenBlock.get.Goals as goal

pub returns : goal.returns
returns c =
    let b = c.self.inside in
    let e = entry_of c.in-Some.entry in
    subst (λ (l : List Entry). e ≡ get_or l c.args.index e) c.self.view_is
    (said_here b.format b.count c.args.index c.index.result.now b.frame.items b.starts.items e c.self.invariant
    (subst (λ (l : List Entry). c.args.index < length l) (sym c.self.view_is) c.requires) c.index.ensures
    (λ f lawful starts.
    let all : take (length c.deref.result.now - 9) (drop 9 c.deref.result.now) ≡ drop 9 b.frame.items =
    take_all (length c.deref.result.now - 9) (drop 9 c.deref.result.now)
    (omega (arith, length-drop 9 c.deref.result.now)) ∙ ap (drop 9) c.deref.ensures.value in
    c.in-Some.ensures.found f lawful (subst (λ (l : List ℕ). StartsAt b.format l c.index.result.now f) (sym all) starts)))
