-- A transaction is given up.
use Rattle.vl_model.specs.History.{History}
use Rattle.vl_engine_model.specs.Ruling.{Ruling, leaving, ended}
use Rattle.vl_engine_model.specs.Rulings.Commit.{Transaction}
use Rattle.vl_engine_model.specs.declared.layout.Layout.{Layout}

abbrev pub forget_ruling : Layout → History → Transaction → Ruling (Unit {0})
forget_ruling l h t = leaving tt h (ended t.ticket l)
