-- Levels with the tables that a merge makes in the place of its inputs.
use Rattle.std.specs.Prelude.{◌≡◌, ◌≤◌, ℕ, ◌+◌, List, ◌∷◌, length, map, Option, vec_capacity, vec_len}
use Rattle.std.specs.List.{AllZip}
use Rattle.vl_compact.specs.Laid.{AreTablesOf}
use Rattle.vl_compact.specs.Places.{IsPlace, put_at}
use Rattle.vl_compact.specs.declared.ready.ReadyLevels.{ReadyLevels}
use Rattle.vl_engine_model.specs.Levels.{level_at, without}
use Rattle.vl_engine_model.specs.declared.job.Target.{Target}
use Rattle.vl_engine_model.specs.declared.table.Table.{Table}

module _ {H : Type 0} where
  -- so many tables more may be put without memory
  abbrev pub HasRoom : ℕ → ReadyLevels H → Type 0
  HasRoom n ready = vec_len ready.tables + n ≤ vec_capacity ready.tables

module _ {H : Type 0} (bytes : H → Option (List ℕ)) where
  -- These tables were put where those go that begin with this key and take the place of the inputs in these levels; the
  -- others are all tables that aren't inputs.
  pub record AreReady (target : Target) (inputs : List ℕ) (first : Option (List ℕ)) (levels : List (List Table))
      (new : List Table) (ready : ReadyLevels H) : Type 0 where
    pub place : IsPlace target inputs first levels ready.level ready.position
    pub others : AllZip (AreTablesOf bytes) (ready.newest.items ∷ ready.deeper.items) (map (without inputs) levels)
    pub tables : AreTablesOf bytes ready.tables.items
        (put_at ready.position new (without inputs (level_at ready.level levels)))
    pub next : ready.next ≡ ready.position + length new
