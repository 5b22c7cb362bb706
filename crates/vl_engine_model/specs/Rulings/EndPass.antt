-- A pass ends.
use Rattle.std.specs.Prelude.{None}
use Rattle.vl_model.specs.History.{History}
use Rattle.vl_engine_model.specs.Relocation.{Pass}
use Rattle.vl_engine_model.specs.Ruling.{Ruling, leaving}
use Rattle.vl_engine_model.specs.declared.layout.Layout.{Layout}

abbrev pub without_pass : Layout → Layout
without_pass l = record l { pass = None }

abbrev pub end_pass_ruling : Layout → History → Pass → Ruling (Unit {0})
end_pass_ruling l h pass = leaving tt h (without_pass l)
