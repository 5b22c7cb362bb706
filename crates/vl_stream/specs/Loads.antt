-- What a load makes of a stream's batches.
use Rattle.std.specs.Prelude.{List, [], ◌∷◌}
use Rattle.std.specs.FinMap.{from_sorted}
use Rattle.vl_stream.specs.Batches.{Write}
use Rattle.vl_model.specs.History.{History, with_commit}

-- one commit for each batch
abbrev pub loaded : History → List (List Write) → History
loaded h [] = h
loaded h (b ∷ bs) = loaded (with_commit h (from_sorted b)) bs
