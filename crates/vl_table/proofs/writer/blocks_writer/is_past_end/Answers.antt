use Rattle.std.proofs.Common.{◌∙◌, ap, arith, not, refl}
use Rattle.vl_model.specs.Cutting.{entry_length}
use Rattle.vl_model.specs.Formats.{table_format}
use Rattle.vl_table.proofs.Written.{past_end, up_to_end}
use Rattle.vl_table.proofs.writer.blocks_writer.is_past_end.Goals as goal

pub returns-then-place-gt-MAX_PLACE : goal.returns-then-place-gt-MAX_PLACE
returns-then-place-gt-MAX_PLACE c =
    past_end c.args.place (entry_length table_format c.args.entry.now) _ refl c.if-place-gt-MAX_PLACE.true

pub returns : goal.returns
returns c =
    ap not c.fits.ensures
    ∙ up_to_end c.args.place (entry_length table_format c.args.entry.now) _ refl (omega (arith, c.if-place-gt-MAX_PLACE.false))
