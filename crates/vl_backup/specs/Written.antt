-- What a transaction has written.
use Rattle.std.specs.Prelude.{List, [], ◌∷◌}
use Rattle.std.specs.FinMap.{insert}
use Rattle.vl_model.specs.Keys.{Writes}
use Rattle.vl_stream.specs.Batches.{Write}

-- records written one after the other, over what was written before
abbrev pub written_all : Writes → List Write → Writes
written_all writes [] = writes
written_all writes (w ∷ ws) = written_all (insert writes w.0 w.1) ws
