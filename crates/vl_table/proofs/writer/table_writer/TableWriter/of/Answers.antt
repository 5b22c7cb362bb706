use Rattle.std.proofs.Common.{◌∙◌, [], arith}
use Rattle.vl_table.proofs.Written.{begins}
use Rattle.vl_table.proofs.writer.table_writer.TableWriter.of.Goals as goal

pub returns-clause-begun : goal.returns-clause-begun
returns-clause-begun c =
    begins (record { blocks = c.add.new.self; summary = c.in_ok-summary.summary }) c.args.number c.args.first.now
    (let fits = c.ranges.number in omega arith)
    (c.add.ensures.number ∙ c.in_ok-blocks.ensures.number)
    (c.in_ok-add.ensures.blocks [] [] c.in_ok-blocks.ensures.blocks) c.in_ok-summary.ensures c.requires
