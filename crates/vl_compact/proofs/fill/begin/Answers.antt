use Rattle.vl_table.specs.body.Bytes.{table_header}
use Rattle.vl_compact.proofs.Pieces.{first_out}
use Rattle.vl_model.specs.Formats.{table_format}
use Rattle.std.proofs.Common.{[], ◌∷◌, refl}
use Rattle.vl_compact.proofs.fill.begin.Goals as goal

pub returns-in-Ok-clause-begun : goal.returns-in-Ok-clause-begun
returns-in-Ok-clause-begun g c = λ fresh.
    first_out g.W.Writer c.args.lent.now c.append.new.self c.in-Ok.table c.args.first.now c.new-header.result.items
    (table_header table_format c.args.lent.now.number) c.begin.new.out.items c.deref.result.now c.new-header.ensures.items
    c.in-Ok.ensures.header c.deref.ensures.value c.append.ensures.number c.in-Ok.ensures.begun
    (c.in_ok-append-in-Ok.ensures.bytes [] fresh)

pub returns-in-Ok-clause-ends : goal.returns-in-Ok-clause-ends
returns-in-Ok-clause-ends g c = record {
  number = c.args.lent.now.number;
  entries = c.args.first.now ∷ [];
  given = table_header table_format c.args.lent.now.number;
  writing = c.in-Ok.ensures.begun;
  last = refl;
}
