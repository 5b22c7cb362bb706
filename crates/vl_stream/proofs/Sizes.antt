-- How many bytes the values of records have.
use Rattle.std.specs.Prelude.{◌≡◌, ◌+◌, List, [], ◌∷◌, ◌++◌}
use Rattle.std.proofs.Common.{ap, arith}
use Rattle.vl_stream.specs.Batches.{Write, size_of, value_size}

pub size-append : (a b : List Write) → size_of (a ++ b) ≡ size_of a + size_of b
size-append [] b = omega arith
size-append (w ∷ a) b = omega (arith, size-append a b)

-- with one record more
pub size_pushed : (old new : List Write) (w : Write) → new ≡ old ++ w ∷ [] → size_of new ≡ size_of old + value_size w
size_pushed old new w is = omega (arith, ap size_of is, size-append old (w ∷ []))
