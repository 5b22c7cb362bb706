-- The tables of a merge take the place of its inputs.
use Rattle.std.specs.Prelude.{ℕ, ◌+◌, if◌then◌else◌, List, [], ◌∷◌, ◌++◌, Option, Some, None}
use Rattle.std.specs.FinMap.{find, put}
use Rattle.std.specs.List.{filter}
use Rattle.vl_model.specs.Keys.{key_cmp}
use Rattle.vl_model.specs.Conflicts.{Named, first_of}
use Rattle.vl_model.specs.History.{History}
use Rattle.vl_model.specs.declared.counter.Counter.{Counter}
use Rattle.vl_model.specs.declared.counter.Counter.TheVariants as counter
use Rattle.vl_model.specs.declared.entry.Entry.{Entry}
use Rattle.vl_engine_model.specs.Jobs.{Made, loose, job_ended}
use Rattle.vl_engine_model.specs.Levels.{is_among, replaced}
use Rattle.vl_engine_model.specs.Merging.{needless, gone_after}
use Rattle.vl_engine_model.specs.Sources.{tables}
use Rattle.vl_engine_model.specs.Ruling.{Ruling, leaving, switched, has_no_epoch}
use Rattle.vl_engine_model.specs.declared.file_name.FileName.{FileName}
use Rattle.vl_engine_model.specs.declared.job.Job.{Job}
use Rattle.vl_engine_model.specs.declared.job.OpenJob.{OpenJob}
use Rattle.vl_engine_model.specs.declared.layout.Layout.{Layout}

pub data InstallAnswer : Type 0 where
  Installed : InstallAnswer
  Halted : FileName → InstallAnswer
  -- the least key of which a deletion was dropped and a record moved meanwhile, and the version
  -- number of its last move
  Raced : List ℕ → ℕ → InstallAnswer
  Exhausted : Counter → InstallAnswer

-- the keys relocated since the job began, the latest first, with the epoch that this made
abbrev pub moved_since : Option OpenJob → List Named
moved_since None = []
moved_since (Some job) = job.moved

-- with the last move of a key, where it was moved
abbrev pub with_move : List ℕ → Option ℕ → List Named → List Named
with_move key None others = others
with_move key (Some number) others = put key_cmp key number others

-- of these deletions the keys that were moved, in rising order, each with its last move
abbrev pub moved_among : List Named → List Entry → List Named
moved_among moved [] = []
moved_among moved (e ∷ es) = with_move e.key (find key_cmp e.key moved) (moved_among moved es)

-- the least key of which the merge drops a deletion that the first two rules leave, and that was
-- moved since it began
abbrev pub race : Job → List Named → Option Named
race job moved = first_of (moved_among moved (needless job))

-- with its tables in the place of its inputs, before files retire, but for its leavings, which are
-- retired at 0
abbrev pub put_in : Job → Made → Layout → Layout
put_in job made l = record l {
  levels = replaced job.target job.inputs made.tables l.levels;
  epoch = l.epoch + 1;
  job = None;
  retired = l.retired ++ loose made.leavings;
  gone = gone_after l.gone (needless job);
}

abbrev pub installed : Job → Made → Layout → Layout
installed job made l = switched (filter (is_among job.inputs) (tables l)) (put_in job made l)

-- what is left where the switch fails, but for the halt
abbrev pub install_lost : Made → Layout → Layout
install_lost made l = job_ended made l

abbrev pub install_checked : Layout → History → Job → Made → Option Named → Ruling InstallAnswer
install_checked l h job made (Some named) =
    leaving (Raced named.0 named.1) h (job_ended made l)
install_checked l h job made None =
    if has_no_epoch l then leaving (Exhausted counter.Version) h (job_ended made l)
    else record { answer = Installed; history = h; layout = installed job made l; calls = 2; gone = [] }

abbrev pub install_unless : Option FileName → Layout → History → Job → Made → Ruling InstallAnswer
install_unless (Some name) l h job made = leaving (Halted name) h (job_ended made l)
install_unless None l h job made = install_checked l h job made (race job (moved_since l.job))

-- of the open job, which has all the tables of its merge
abbrev pub install_ruling : Layout → History → Job → Made → Ruling InstallAnswer
install_ruling l h job made = install_unless l.halted l h job made
