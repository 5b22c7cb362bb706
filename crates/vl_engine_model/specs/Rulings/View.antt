-- A view begins as a transaction does.
use Rattle.std.specs.Prelude.{ℕ}
use Rattle.vl_model.specs.History.{History}
use Rattle.vl_engine_model.specs.Ruling.{Ruling}
use Rattle.vl_engine_model.specs.Rulings.Begin.{BeginAnswer, begin_ruling}
use Rattle.vl_engine_model.specs.declared.layout.Layout.{Layout}

-- a view: its ticket, and the number at which it reads
pub record View : Type 0 where
  pub ticket : ℕ
  pub number : ℕ

abbrev pub view_ruling : Layout → History → Ruling BeginAnswer
view_ruling l h = begin_ruling l h
