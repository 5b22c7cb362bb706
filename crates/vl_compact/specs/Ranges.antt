-- A range as the layout has it.
use Rattle.vl_compact.specs.declared.range.KeyRange.{KeyRange}
use Rattle.vl_engine_model.specs.Levels as layout

abbrev pub range_in : KeyRange → layout.Range
range_in range = (range.least.now, range.greatest.now)
