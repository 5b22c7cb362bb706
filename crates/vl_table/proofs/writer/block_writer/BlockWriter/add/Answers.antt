use Rattle.byteorder.specs.Endian.{big_bytes}
use Rattle.std.proofs.Common.{ℕ, List, ◌+◌, ◌++◌, take, drop, ◌∷◌, [], sym, ap, ◌∙◌, arith, length-append}
use Rattle.std.proofs.lemmas.List.{with_items_is}
use Rattle.vl_table.proofs.WriterBodies.{body_added, body_length}
use Rattle.vl_table.proofs.writer.block_writer.BlockWriter.add.Goals as goal

pub returns : goal.returns
returns c = λ es has.
    let out = c.write_entry.new.out in
    let counted = c.write_count.ensures
    ∙ ap (λ (l : List ℕ). take 5 l ++ (big_bytes 4 (c.args.self.now.count + 1) ++ drop 9 l)) c.deref_mut.ensures.value in
    record {
      count = omega (arith, has.count, length-append es (c.args.entry.now ∷ []));
      frame =
          with_items_is out c.write_count.new.frame
          (body_length es c.args.entry.now c.args.self.now.frame.items out.items c.write_count.new.frame
          (c.args.self.now.count + 1) has.frame c.in_ok-write_entry.ensures counted ∙ sym out.ok.0)
          ∙ body_added c.args.self.now.count es c.args.entry.now c.args.self.now.frame.items out.items
          c.write_count.new.frame has.count has.frame c.in_ok-write_entry.ensures counted;
    }
