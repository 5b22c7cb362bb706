use Rattle.std.proofs.Common.{◌≡◌, ℕ, ◌+◌, ◌∷◌, ◌++◌, [], List, take, ap, sym, subst, ◌∙◌, arith}
use Rattle.std.proofs.lemmas.List.{take_more}
use Rattle.vl_model.specs.declared.entry.Entry.{Entry}
use Rattle.vl_memtable.specs.Heads.{AreHeads, IsHead}
use Rattle.vl_memtable.specs.laws.HeadLaws.{heads-more}
use Rattle.vl_memtable.proofs.heads.heads_of.Goals as goal

pub loop-entry-preserved : goal.loop-entry-preserved
loop-entry-preserved c =
    let entries = c.args.entries.now in
    let i = c.loop-entry.entry-index in
    let heads = c.loop-entry.heads.items in
    let e = c.entry-item.result in
    let head = c.head_of.result in
    let more : take (i + 1) entries ≡ take i entries ++ e ∷ [] =
    take_more entries i e (omega arith) ∙ ap (λ (f : Entry). take i entries ++ f ∷ []) (sym c.entry-item.is) in
    let has : IsHead e.key head = subst (λ (k : List ℕ). IsHead k head) c.as_slice.ensures c.head_of.ensures in
    let are : AreHeads (heads ++ head ∷ []) (take (i + 1) entries) =
    subst (AreHeads (heads ++ head ∷ [])) (sym more) (heads-more heads (take i entries) head e c.loop-entry.invariant has) in
    subst (λ (l : List ℕ). AreHeads l (take (i + 1) entries)) (sym c.in_ok-push.ensures.items) are
