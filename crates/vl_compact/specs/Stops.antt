-- Where the reading of a merge's inputs stops, and up to where they were read whole.
use Rattle.std.specs.Prelude.{◌≡◌, ◌⊎◌, ℕ, Bool, true, false, Option, None, Some, List, [], ◌∷◌, ◌++◌}
use Rattle.std.specs.List.{AllByRecursion, slice_get}
use Rattle.std.specs.Option.{ForSome}
use Rattle.std.specs.Ordering.{is_lt}
use Rattle.vl_compact.specs.Keys.{span_behind}
use Rattle.vl_compact.specs.Walking.{is_behind}
use Rattle.vl_disk.specs.declared.name.Name.TheVariants.{Table as table_name}
use Rattle.vl_disk.specs.declared.read_fault.ReadFault.{ReadFault}
use Rattle.vl_disk.specs.declared.read_fault.ReadFault.TheVariants.{NoMemory, Disk, Damaged}
use Rattle.vl_model.specs.Keys.{key_cmp}
use Rattle.vl_model.specs.declared.entry.Entry.{Entry}
use Rattle.vl_model.specs.declared.span.Span.{Span}
use Rattle.vl_model.specs.declared.way.Way.TheVariants.{Up}
use Rattle.vl_table.specs.BlockOrder.{TableBreaksAt}
use Rattle.vl_table.specs.CursorParts.{StandsWith, index_of}
use Rattle.vl_table.specs.Kept.{NoBlock, StandsBlock}
use Rattle.vl_table.specs.ReadTo.{TablesReadTo}
use Rattle.vl_table.specs.Seeks.{IsBadBlock}
use Rattle.vl_table.specs.SpanBlocks.{blocks_in, rises_over}
use Rattle.vl_table.specs.Stretches.{stretch_of}
use Rattle.vl_table.specs.Tables.{number_of, shape_of}
use Rattle.vl_table.specs.declared.body.index.BlockPlace.{BlockPlace}
use Rattle.vl_table.specs.declared.body.shape.TableShape.{TableShape}
use Rattle.vl_table.specs.declared.table.Table.{Table}

-- Of the blocks that may have keys of the interval each before this place stands, and the one at the place doesn't, where the
-- file's bytes are told.
pub record IsFirstBadOf (span : Span) (s : TableShape) (told : Option (List ℕ)) (place : ℕ) : Type 0 where
  pub read : List BlockPlace
  pub block : BlockPlace
  pub later : List BlockPlace
  pub parts : stretch_of (blocks_in span s) s.blocks.items ≡ read ++ block ∷ later
  pub stood : AllByRecursion (λ p. (es : List Entry) × ForSome told (λ bytes. StandsBlock s.format s.number bytes p.place p.length es)) read
  pub none : ForSome told (λ bytes. NoBlock s.format s.number block bytes place)

-- the last of some keys, or the one before them
abbrev pub last_of : Option (List ℕ) → List (List ℕ) → Option (List ℕ)
last_of at [] = at
last_of at (key ∷ keys) = last_of (Some key) keys

module _ {H : Type 0} (bytes_of : H → Option (List ℕ)) where
  -- A block that the table's index names doesn't stand at this place; and where the index rises, it is the first that doesn't
  -- of those that may have keys behind this one.
  pub record StopsAt (after : Option (List ℕ)) (t : Table H) (place : ℕ) : Type 0 where
    pub bad : ForSome (bytes_of t.held) (λ bytes. IsBadBlock (shape_of t) bytes place)
    pub first : rises_over (span_behind after) (index_of t) ≡ true
        → IsFirstBadOf (span_behind after) (shape_of t) (bytes_of t.held) place

  -- What a fault of a merge's inputs may be that is behind this key: want of memory, or one that names an input; and where it
  -- says that this one is damaged, reading it behind the key stops there, or there the order of its blocks breaks.
  abbrev pub MayStopIn : Option (List ℕ) → List (Table H) → ReadFault → Type 0
  MayStopIn after ts NoMemory = Unit {0}
  MayStopIn after ts (Disk name) = (i : ℕ) × (t : Table H) × (slice_get ts i ≡ Some t) × (name ≡ table_name (number_of t))
  MayStopIn after ts (Damaged name place) = (i : ℕ) × (t : Table H) × (slice_get ts i ≡ Some t) × (name ≡ table_name (number_of t))
      × (StopsAt after t place ⊎ TableBreaksAt bytes_of t place)

  -- Of each of these tables the blocks that may have keys behind this one stand, up to one that has an entry of this kind, or all
  -- of them do, where its index rises.
  abbrev pub InputsReadTo : (after : Option (List ℕ)) → (Entry → Bool) → List (Table H) → Type 0
  InputsReadTo after is_met ts = AllByRecursion (λ t. TablesReadTo bytes_of (span_behind after) Up is_met (t ∷ [])) ts

  -- Behind one key, or from their begin on, all that these tables have up to another one was read, and stood.
  abbrev pub InputsReadUpTo : (after to : Option (List ℕ)) → List (Table H) → Type 0
  InputsReadUpTo after None ts = ⊥
  InputsReadUpTo after (Some key) ts = InputsReadTo after (is_behind (Some key)) ts

  -- So it is behind each of some keys up to the next.
  abbrev pub InputsReadBy : (after : Option (List ℕ)) → List (List ℕ) → List (Table H) → Type 0
  InputsReadBy after [] ts = Unit {0}
  InputsReadBy after (key ∷ keys) ts = InputsReadUpTo after (Some key) ts × InputsReadBy (Some key) keys ts

  -- By such steps they were read from one key on to another,
  pub record InputsReadOn (after to : Option (List ℕ)) (ts : List (Table H)) : Type 0 where
    pub keys : List (List ℕ)
    pub ends : to ≡ last_of after keys
    pub read : InputsReadBy after keys ts

  -- or from their begin to their end.
  pub record AreReadWhole (ts : List (Table H)) : Type 0 where
    pub to : Option (List ℕ)
    pub on : InputsReadOn None to ts
    pub rest : InputsReadTo to (λ _. false) ts

  -- Its index rises, and gives no block that stands a last key below one that it has.
  pub record HasTrueIndex (t : Table H) : Type 0 where
    pub rises : (after : Option (List ℕ)) → rises_over (span_behind after) (index_of t) ≡ true
    pub keys : AllByRecursion (λ (p : BlockPlace). (es : List Entry) → StandsWith bytes_of (t, p) es
        → AllByRecursion (λ (e : Entry). is_lt (key_cmp p.last e.key) ≡ false) es) (index_of t)

  -- Each block that its index names stands.
  abbrev pub StandsWhole : Table H → Type 0
  StandsWhole t = AllByRecursion (λ (p : BlockPlace). (es : List Entry) × StandsWith bytes_of (t, p) es) (index_of t)
