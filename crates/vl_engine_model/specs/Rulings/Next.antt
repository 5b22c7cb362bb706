-- A pass gives the next records that win exactly from inside its segment.
use Rattle.std.specs.Prelude.{List, Option}
use Rattle.vl_model.specs.History.{History}
use Rattle.vl_engine_model.specs.Relocation.{Pass, Candidate, next_batch}
use Rattle.vl_engine_model.specs.Ruling.{Ruling, leaving}
use Rattle.vl_engine_model.specs.declared.layout.Layout.{Layout}

-- the batch, and the pass behind it; the engine is as it was
abbrev pub next_ruling : Layout → History → Pass → Ruling (Option (List Candidate) × Pass)
next_ruling l h pass = leaving (next_batch pass) h l
