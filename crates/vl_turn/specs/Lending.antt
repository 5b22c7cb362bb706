-- A turn lends its value.
use mir.Syntax.{named}
use Rattle.std.specs.Prelude.{[]}
use Rattle.std.specs.Borrow.{Fml, Lends, MutBor, RattleType}
use Rattle.vl_turn.specs.contracts.turn.Turn.{the_row}
use Rattle.vl_turn.specs.declared.turn.Turn.{Turn}

-- the turn with another value
abbrev pub with_value : {T E : Type 0} → Turn T E → T → Turn T E
with_value turn value = record turn { value = value }

-- the turn ends with the last value written through the reference; its lifetime is the first that
-- `value` names
abbrev pub LendsValue : (T E : RattleType) → MutBor (Turn T.Denot E.Denot) → MutBor T.Denot → Fml
LendsValue T E turn value =
    Lends (the_row (record { mir = named 1; lft = [] }) T E) T turn value (with_value turn.now)
