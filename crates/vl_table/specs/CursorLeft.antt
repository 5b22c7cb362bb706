-- What a cursor over tables has still to give.
use Rattle.std.specs.declared.clone.Clone as Clone
use Rattle.vl_disk.specs.declared.reader.HeldFile as HeldFile
use Rattle.std.specs.Prelude.{◌≡◌, ◌+◌, ◌*◌, ◌-◌, ℕ, if◌then◌else◌, true, Option, None, List, [], ◌∷◌, ◌++◌}
use Rattle.std.specs.List.{slice_get}
use Rattle.std.specs.Option.{option_map}
use Rattle.vl_model.specs.declared.entry.Entry.{Entry}
use Rattle.vl_model.specs.EntryOrder.{within}
use Rattle.vl_model.specs.declared.span.Span.{Span}
use Rattle.vl_model.specs.declared.way.Way.{Way}
use Rattle.vl_table.specs.CursorParts.{AllStand, Block, StandsWith, block_count, blocks_at, blocks_over, entries_told, rise_over}
use Rattle.vl_table.specs.Stretches.{on_way, stretch_of}
use Rattle.vl_table.specs.declared.cursor.TableCursor.{TableCursor}
use Rattle.vl_table.specs.declared.table.Table.{Table}

module _ {H R : Type 0} {g : HeldFile.Ghosts H} {k : Clone.Ghosts H} where
  -- the entries of the block that it has read, which it hasn't looked at
  abbrev pub in_block : TableCursor H R g k → List Entry
  in_block c = within c.span (on_way c.way (stretch_of c.entries c.block))

  -- the tables that it hasn't begun
  abbrev pub not_begun : TableCursor H R g k → List (Table H)
  not_begun c = on_way c.way (stretch_of c.later c.tables.items)

  -- the blocks that it hasn't read, as it goes
  abbrev pub unread : TableCursor H R g k → List (Block H)
  unread c = blocks_at c.way (slice_get c.tables.items c.table) c.blocks ++ blocks_over c.span c.way (not_begun c)

  -- The entries within its interval of the block that it has read and of those that it hasn't, as it goes: where the tables'
  -- bytes are told, and their indexes rise.
  abbrev pub cursor_left : (H → Option (List ℕ)) → TableCursor H R g k → Option (List Entry)
  cursor_left bytes_of c =
      if rise_over c.span c.tables.items
      then option_map (λ later. in_block c ++ later) (entries_told bytes_of c.span c.way (unread c))
      else None

  -- at most so many blocks will still be read
  abbrev pub blocks_left : TableCursor H R g k → ℕ
  blocks_left c = (c.blocks.end - c.blocks.first) + block_count (not_begun c)

  -- and so many entries still be given
  abbrev pub cursor_budget : TableCursor H R g k → ℕ
  cursor_budget c = (c.entries.end - c.entries.first) + 347 * blocks_left c

  -- it goes over the same tables
  pub record GoesOn (c d : TableCursor H R g k) : Type 0 where
    pub tables : d.tables ≡ c.tables
    pub span : d.span ≡ c.span
    pub way : d.way ≡ c.way

  -- and is at the same block of them
  pub record StaysIn (c d : TableCursor H R g k) : Type 0 where
    pub goes : GoesOn c d
    pub later : d.later ≡ c.later
    pub table : d.table ≡ c.table
    pub blocks : d.blocks ≡ c.blocks

  -- It is to go over these tables, and has read none of their blocks.
  pub record Begins (ts : List (Table H)) (s : Span) (w : Way) (c : TableCursor H R g k) : Type 0 where
    pub tables : c.tables.items ≡ ts
    pub span : c.span ≡ s
    pub way : c.way ≡ w
    pub unread : unread c ≡ blocks_over s w (on_way w ts)
    pub none : in_block c ≡ []

  -- It read the next block, which stood, and is to look at its entries.
  pub record ReadsNext (bytes_of : H → Option (List ℕ)) (c d : TableCursor H R g k) : Type 0 where
    pub block : Block H
    pub passed : rise_over c.span c.tables.items ≡ true → unread c ≡ block ∷ unread d
    pub entries : List Entry
    pub stood : StandsWith bytes_of block entries
    pub taken : in_block d ≡ within c.span (on_way c.way entries)

  -- it has the same blocks still to read, and none of the entries of one that it has read
  pub record HasNotRead (c d : TableCursor H R g k) : Type 0 where
    pub same : rise_over c.span c.tables.items ≡ true → unread d ≡ unread c
    pub none : in_block d ≡ []

  -- no block is left, nor entries of one
  pub record EndsAt (c d : TableCursor H R g k) : Type 0 where
    pub same : rise_over c.span c.tables.items ≡ true → unread d ≡ []
    pub none : in_block d ≡ []

  -- Between the two it read blocks of which each stood, where the indexes rise.
  pub record HasRead (bytes_of : H → Option (List ℕ)) (c d : TableCursor H R g k) : Type 0 where
    pub read : List (Block H)
    pub passed : rise_over c.span c.tables.items ≡ true → unread c ≡ read ++ unread d
    pub stood : AllStand bytes_of read
