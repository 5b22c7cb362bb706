use Rattle.std.proofs.Common.{ℕ, List, map, ap, ◌∙◌}
use Rattle.std.specs.Box.{boxed_slice_items}
use Rattle.std.specs.BTreeSet.{insert_key}
use Rattle.vl_model.specs.Keys.{key_cmp}
use Rattle.vl_txn.specs.Reads.{Notes}
use Rattle.vl_txn.proofs.Noting.{keys-insert_key}
use Rattle.vl_txn.proofs.reads.Reads.add.Goals as goal

pub returns-clause-ok : goal.returns-clause-ok
returns-clause-ok c =
    let held = c.self.inside.keys.keys in
    let keys =
    ap (map boxed_slice_items) c.in_ok-insert.ensures.keys ∙ keys-insert_key boxed_slice_items c.in_ok-key.key held
    ∙ ap (insert_key key_cmp (map boxed_slice_items held)) c.in_ok-key.ensures.ok
    in
    ap (λ (ks : List (List ℕ)). record { keys = ks; spans = c.self.inside.spans.items }) keys
    ∙ ap (λ (notes : Notes). record notes { keys = insert_key key_cmp notes.keys c.args.key.now }) c.self.view_is
