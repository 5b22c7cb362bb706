use Rattle.std.proofs.Common.{◌+◌, ◌++◌, ◌∷◌, [], ℕ, List, ap, sym, ◌∙◌}
use Rattle.vl_stream.proofs.PackedLaws.{added_beside, added_next}
use Rattle.vl_stream.specs.Batches.{Write}
use Rattle.vl_stream.proofs.packer.Packer.add.Goals as goal

pub returns-then-admits-clause-packs : goal.returns-then-admits-clause-packs
returns-then-admits-clause-packs g c bytes ws packs =
    let old = c.args.self.now in
    added_beside _ old.at _ old.records _ old.waiting.records.items _ _ _ bytes ws packs
    (sym c.admits.ensures ∙ c.if-admits.true)
    c.in_ok-join.ensures.place c.in_ok-join.ensures.counted c.in_ok-join.ensures.joined

pub returns-clause-packs : goal.returns-clause-packs
returns-clause-packs g c bytes ws packs =
    let old = c.args.self.now in
    let put = c.in_ok-put_batch.ensures in
    added_next _ _ old.at _ old.records _ old.waiting.records.items _ _ _ bytes ws packs
    (sym c.admits.ensures ∙ c.if-admits.false) put.put
    (c.in_ok-join-2.ensures.place ∙ put.place)
    (c.in_ok-join-2.ensures.counted ∙ ap (λ (n : ℕ). n + 1) put.records)
    (c.in_ok-join-2.ensures.joined ∙ ap (λ (l : List Write). l ++ (c.args.key, c.args.change) ∷ []) c.new.ensures)
