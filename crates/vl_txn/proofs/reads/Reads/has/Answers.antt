use Rattle.std.proofs.Common.{ap, ◌∙◌}
use Rattle.std.specs.Box.{boxed_slice_items}
use Rattle.vl_txn.specs.Reads.{Notes, has_key}
use Rattle.vl_txn.proofs.Noting.{any-keys}
use Rattle.vl_txn.proofs.reads.Reads.has.Goals as goal

pub returns : goal.returns
returns c =
    c.contains.ensures ∙ any-keys boxed_slice_items c.args.key.now c.self.inside.keys.keys
    ∙ ap (λ (notes : Notes). has_key notes c.args.key.now) c.self.view_is
