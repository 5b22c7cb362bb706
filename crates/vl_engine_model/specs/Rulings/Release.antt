-- A view ends.
use Rattle.vl_model.specs.History.{History}
use Rattle.vl_engine_model.specs.Ruling.{Ruling, leaving, ended}
use Rattle.vl_engine_model.specs.Rulings.View.{View}
use Rattle.vl_engine_model.specs.declared.layout.Layout.{Layout}

abbrev pub release_ruling : Layout → History → View → Ruling (Unit {0})
release_ruling l h v = leaving tt h (ended v.ticket l)
