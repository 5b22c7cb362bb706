-- How many of the newest versions of a key are kept.
use Rattle.std.specs.Prelude.{ℕ, ◌==◌, ◌||◌, nat_lt, if◌then◌else◌, [], Option, Some, None}
use Rattle.vl_model.specs.History.{History, last_number}
use Rattle.vl_model.specs.Numbers.{since_kept}
use Rattle.vl_engine_model.specs.Ruling.{Ruling, leaving}
use Rattle.vl_engine_model.specs.declared.file_name.FileName.{FileName}
use Rattle.vl_engine_model.specs.declared.layout.Layout.{Layout}

pub data KeepAnswer : Type 0 where
  Kept : KeepAnswer
  Halted : FileName → KeepAnswer
  InvalidRequest : KeepAnswer

abbrev pub keeping : ℕ → History → Layout → Layout
keeping v h l = record l { keep = v; since = since_kept (last_number h) l.keep l.since v }

abbrev pub keep_unless : Option FileName → Layout → History → ℕ → Ruling KeepAnswer
keep_unless (Some name) l h v = leaving (Halted name) h l
keep_unless None l h v =
    if (v == 0) || nat_lt 16 v then leaving InvalidRequest h l
    else (if v == l.keep then leaving Kept h l
    else record { answer = Kept; history = h; layout = keeping v h l; calls = 2; gone = [] })

abbrev pub keep_ruling : Layout → History → ℕ → Ruling KeepAnswer
keep_ruling l h v = keep_unless l.halted l h v
