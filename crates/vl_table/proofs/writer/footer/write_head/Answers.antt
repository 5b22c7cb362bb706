use Rattle.std.proofs.Common.{◌++◌, ◌∙◌, ap, List, ℕ}
use Rattle.std.proofs.lemmas.Result.{on_ok_weaker}
use Rattle.vl_table.specs.body.Footer.{head_of}
use Rattle.vl_table.proofs.WriterBodies.{four_behind}
use Rattle.vl_table.proofs.writer.footer.write_head.Goals as goal

pub returns : goal.returns
returns c =
    let h = c.args.head.now in
    record {
      written = on_ok_weaker c.write_key-2.result (λ e. e ∙
          four_behind (head_of h) c.args.out.now.items c.write_frame_place.new.out.items
          c.extend_from_slice.new.self.items c.write_key.new.out.items
          c.in_ok-write_frame_place.ensures
          (c.in_ok-extend_from_slice.ensures.items ∙ ap (λ (l : List ℕ). c.write_frame_place.new.out.items ++ l)
          c.number_bytes.ensures) c.in_ok-write_key.ensures.written) c.write_key-2.ensures.written;
    }
