use Rattle.std.proofs.Common.{◌++◌, ◌∙◌, ap, List, ℕ, append_assoc}
use Rattle.std.proofs.lemmas.Result.{on_ok_weaker}
use Rattle.byteorder.specs.Endian.{big_bytes}
use Rattle.vl_table.specs.body.Entries.{key_bytes}
use Rattle.vl_table.proofs.writer.index.write_place.Goals as goal

pub returns-clause-written : goal.returns-clause-written
returns-clause-written c =
    let p = c.args.block.now in
    let numbers = big_bytes 8 p.place ++ big_bytes 4 p.length in
    on_ok_weaker c.write_key.result
    (λ e. e ∙ ap (λ (k : List ℕ). c.extend_from_slice.new.self.items ++ key_bytes k) c.as_slice.ensures
    ∙ ap (λ (l : List ℕ). l ++ key_bytes p.last)
    (c.in_ok-extend_from_slice.ensures.items ∙ ap (λ (l : List ℕ). c.args.out.now.items ++ l) c.frame_bytes.ensures)
    ∙ append_assoc c.args.out.now.items numbers (key_bytes p.last))
    c.write_key.ensures.written
