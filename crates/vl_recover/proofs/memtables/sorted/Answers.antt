use Rattle.std.proofs.Common.{◌∙◌, rules}
use Rattle.std.specs.Ordering.{is_lt}
use Rattle.std.proofs.lemmas.Fn.{dedup_same}
use Rattle.std.proofs.lemmas.List.Sorted.{answers_always, ranks_by}
use Rattle.vl_model.specs.Entries.{entry_cmp}
use Rattle.vl_model.specs.declared.entry.Entry.{Entry}
use Rattle.vl_model.specs.laws.OrderLaws.{entry_total}
use Rattle.vl_recover.proofs.opening.SortedOnce.{is_same, sorted-in_order}
use Rattle.vl_recover.proofs.memtables.sorted.Goals as goal

pub returns : goal.returns
returns c =
    let weak = ranks_by entry_total (λ (e : Entry). e) in
    let compares = answers_always _ _ _ (λ f a r g h. search rules) in
    dedup_same _ is_same _ (λ x y b f' x' y' k. search rules) _ _ c.dedup_by.ensures.filtered
    ∙ sorted-in_order _ _
    (c.in_ok-sort_by.ensures.sorted (λ x y. is_lt (entry_cmp x y)) weak compares)
    (c.sort_by.ensures.stable (λ x y. is_lt (entry_cmp x y)) weak compares)
