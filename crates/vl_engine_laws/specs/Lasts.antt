-- A log over which a pass goes lasts.
use Rattle.std.specs.Prelude.{◌<◌, ℕ, List, Option}
use Rattle.vl_engine_laws.specs.Passing.{IsStillIn}
use Rattle.vl_engine_model.specs.declared.layout.Layout.{Layout}
use Rattle.vl_seglog.specs.declared.sealed.SealedLog.{SealedLog}

-- Whatever the engine did since the pass began: the layout may have retired its log, but has no other log of its number, and seals
-- none under it later.
pub record Lasts {H : Type 0} (bytes : H → Option (List ℕ)) (log : SealedLog H) (l : Layout) : Type 0 where
  pub still : IsStillIn bytes log l
  pub below : log.number < l.active.number
