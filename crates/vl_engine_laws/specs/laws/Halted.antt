-- A halt leaves a layout tidy.
use Rattle.std.specs.Prelude.{List}
use Rattle.vl_engine_model.specs.OpenJobs.{IsOpenWell}
use Rattle.vl_engine_model.specs.Ruling.{halted_at}
use Rattle.vl_engine_model.specs.Stock.{IsWellStocked}
use Rattle.vl_engine_model.specs.Tidy.{IsTidy}
use Rattle.vl_engine_model.specs.declared.file_name.FileName.{FileName}
use Rattle.vl_engine_model.specs.declared.job.Job.{Job}
use Rattle.vl_engine_model.specs.declared.layout.Layout.{Layout}
use Rattle.vl_model.specs.Conflicts.{Named}
use Rattle.vl_model.specs.History.{History}
use Rattle.vl_model.specs.Winners.{Logs}

stocked_halted : (name : FileName) (l : Layout) → IsWellStocked l → IsWellStocked (halted_at name l)
stocked_halted name l w = record {
  stocked = record {
    unneeded = w.stocked.unneeded;
    retired_drawn = w.stocked.retired_drawn;
    pinned = w.stocked.pinned;
    tables_drawn = w.stocked.tables_drawn;
    logs_drawn = w.stocked.logs_drawn;
    flushed_drawn = w.stocked.flushed_drawn;
    falling = w.stocked.falling;
    footed = w.stocked.footed;
  };
  drawn = record { points = w.drawn.points; pins_drawn = w.drawn.pins_drawn };
  lent_once = w.lent_once;
  lent_apart = w.lent_apart;
  once = w.once;
  flushed_apart = w.flushed_apart;
}

open_halted : (name : FileName) (l : Layout) (h : History) (job : Job) (moved : List Named) → IsOpenWell l h job moved
    → IsOpenWell (halted_at name l) h job moved
open_halted name l h job moved o = record {
  kept = o.kept;
  last = o.last;
  live = o.live;
  given = o.given;
  standing = o.standing;
  fitted = o.fitted;
  roomy = o.roomy;
  some = o.some;
  fits = o.fits;
  of = o.of;
}

pub tidy_halted : (name : FileName) (logs : Logs) (l : Layout) (h : History) → IsTidy logs l h
    → IsTidy logs (halted_at name l) h
tidy_halted name logs l h t = record {
  files = stocked_halted name l t.files;
  levels = t.levels;
  true_tables = t.true_tables;
  true_logs = t.true_logs;
  distinct = t.distinct;
  placed = t.placed;
  versions = t.versions;
  last = t.last;
  some = t.some;
  since = t.since;
  shows = t.shows;
  job = λ o is. open_halted name l h o.job o.moved (t.job o is);
}
