use Rattle.std.proofs.Common.{◌++◌, ap, sym, List, ℕ}
use Rattle.vl_table.proofs.read.Ahead.none.Goals as goal

pub returns : goal.returns
returns c = λ bytes. (bytes, ap (λ (l : List ℕ). l ++ bytes) (sym c.new.ensures.items))
