-- Up to where what a merge goes over was read whole, from what can be said of each of its sources.
use Rattle.std.specs.Prelude.{◌≡◌, ◌⊎◌, ℕ, Bool, true, false, List, Option, Some, None}
use Rattle.std.specs.Ordering.{is_gt, is_lt}
use Rattle.vl_model.specs.Keys.{key_cmp}
use Rattle.vl_model.specs.Merging.{IsAlong}
use Rattle.vl_model.specs.declared.entry.Entry.{Entry}
use Rattle.vl_model.specs.declared.way.Way.{Way}
use Rattle.vl_model.specs.declared.way.Way.TheVariants.{Up, Down}
use Rattle.vl_model.specs.Order.{way_cmp}
use Rattle.vl_merge.specs.Held.{held_first}
use Rattle.vl_merge.specs.declared.lookahead.Lookahead.{Lookahead}
use Rattle.vl_merge.specs.declared.lookahead.Lookahead.TheVariants.{Unread, Next, End}
use Rattle.vl_merge.specs.declared.tree.Tree.{Tree, Nothing, Source, Two'}

-- with an entry each that doesn't come before it on the way is of this kind
abbrev pub IsUpward : Way → (Entry → Bool) → Type 0
IsUpward way is_met = (e f : Entry) → is_met e ≡ true → is_gt (way_cmp way e f) ≡ false → is_met f ≡ true

-- the entry's key comes behind this one, as the way goes
abbrev pub is_beyond : Way → List ℕ → Entry → Bool
is_beyond Up key e = is_gt (key_cmp e.key key)
is_beyond Down key e = is_lt (key_cmp e.key key)

-- what is left is told, and goes along the way behind the entry that is held
pub record InWay (way : Way) (held : Option Entry) (left : Option (List Entry)) : Type 0 where
  pub es : List Entry
  pub told : left ≡ Some es
  pub along : IsAlong way (held_first held es)

-- an entry is held that is of this kind
abbrev pub IsMetBy : (Entry → Bool) → Option Entry → Type 0
IsMetBy is_met None = ⊥
IsMetBy is_met (Some e) = is_met e ≡ true

-- of a source by its head: the first of the kind is the head, or comes from what is behind it; at its end nothing is left
abbrev pub StandsAt : (Entry → Bool) → Lookahead → Type 0 → Type 0
StandsAt is_met Unread behind = behind
StandsAt is_met (Next e) behind = (is_met e ≡ true) ⊎ behind
StandsAt is_met End behind = Unit {0}

module _ {C : Type 0} (stands_to : C → (Entry → Bool) → Type 0) (is_met : Entry → Bool) where
  -- each source of a tree stands up to its first entry of the kind
  abbrev pub StandsIn : Tree C → Type 0
  StandsIn Nothing = Unit {0}
  StandsIn (Source c) = stands_to c is_met
  StandsIn (Two' p newer first q older second) = StandsAt is_met first (StandsIn newer) × StandsAt is_met second (StandsIn older)

  -- and each of both halves with its head
  abbrev pub BothStand : Tree C → Lookahead → Tree C → Lookahead → Type 0
  BothStand newer first older second = StandsAt is_met first (StandsIn newer) × StandsAt is_met second (StandsIn older)
