-- Up to where blocks were read whole.
use Rattle.std.specs.declared.clone.Clone as Clone
use Rattle.vl_disk.specs.declared.reader.HeldFile as HeldFile
use Rattle.std.specs.Prelude.{◌≡◌, ◌⊎◌, ℕ, Bool, true, Option, List, [], ◌∷◌, ◌++◌}
use Rattle.std.specs.List.{list_any}
use Rattle.vl_model.specs.declared.entry.Entry.{Entry}
use Rattle.vl_model.specs.declared.span.Span.{Span}
use Rattle.vl_model.specs.declared.way.Way.{Way}
use Rattle.vl_model.specs.EntryOrder.{within}
use Rattle.vl_table.specs.CursorLeft.{in_block, unread}
use Rattle.vl_table.specs.CursorParts.{AllStand, Block, StandsWith, blocks_over, rise_over}
use Rattle.vl_table.specs.Stretches.{on_way}
use Rattle.vl_table.specs.Tables.{shape_of}
use Rattle.vl_table.specs.declared.cursor.TableCursor.{TableCursor}
use Rattle.vl_table.specs.declared.table.Table.{Table}

-- a table and a copy of it
pub record IsCopied {H : Type 0} (bytes_of : H → Option (List ℕ)) (t u : Table H) : Type 0 where
  pub shape : shape_of u ≡ shape_of t
  pub bytes : bytes_of u.held ≡ bytes_of t.held

module _ {H : Type 0} (bytes_of : H → Option (List ℕ)) (span : Span) (way : Way) where
  -- one of these blocks stands with an entry of this kind whose key is in the interval
  abbrev pub OneHas : (Entry → Bool) → List (Block H) → Type 0
  OneHas is_met [] = ⊥
  OneHas is_met (b ∷ bs) =
      ((es : List Entry) × StandsWith bytes_of b es × (list_any is_met (within span (on_way way es)) ≡ true)) ⊎ OneHas is_met bs

  -- Each of these blocks stands up to one that has an entry of this kind, or all of them do.
  pub record AreReadTo (is_met : Entry → Bool) (bs : List (Block H)) : Type 0 where
    pub read : List (Block H)
    pub rest : List (Block H)
    pub parts : bs ≡ read ++ rest
    pub stood : AllStand bytes_of read
    pub met : (rest ≡ []) ⊎ OneHas is_met read

  -- so it is of the blocks of these tables that may have keys of the interval, where the tables' indexes rise
  abbrev pub TablesReadTo : (Entry → Bool) → List (Table H) → Type 0
  TablesReadTo is_met ts = rise_over span ts ≡ true → AreReadTo is_met (blocks_over span way (on_way way ts))

  -- It has the entry in the block that it has read, or these blocks stand up to one that has it.
  abbrev pub LeftReadTo : Bool → (Entry → Bool) → List Entry → List (Block H) → Type 0
  LeftReadTo rises is_met here unread = rises ≡ true → (list_any is_met here ≡ true) ⊎ AreReadTo is_met unread

-- what a cursor has still to go over, up to its first entry of this kind
abbrev pub CursorStands : {H R : Type 0} {g : HeldFile.Ghosts H} {k : Clone.Ghosts H} → (H → Option (List ℕ))
    → TableCursor H R g k → (Entry → Bool) → Type 0
CursorStands bytes_of c is_met = LeftReadTo bytes_of c.span c.way (rise_over c.span c.tables.items) is_met (in_block c) (unread c)
