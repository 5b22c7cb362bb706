-- Retired files that no pin holds are removed.
use Rattle.std.specs.Prelude.{ℕ, Bool, not, ◌&&◌, nat_lt, nat_le, ◌==◌, List, [], ◌∷◌, ◌++◌, map, length, take}
use Rattle.std.specs.Prelude.{Option, Some, None, true, false}
use Rattle.std.specs.List.{filter, list_any}
use Rattle.vl_model.specs.History.{History}
use Rattle.vl_engine_model.specs.Ruling.{Ruling, leaving}
use Rattle.vl_engine_model.specs.declared.file_name.FileName.{FileName}
use Rattle.vl_engine_model.specs.declared.file_name.FileName.TheVariants.{Log, Table, Manifest}
use Rattle.vl_engine_model.specs.declared.file_name.Retired.{Retired}
use Rattle.vl_engine_model.specs.declared.job.OpenJob.{OpenJob}
use Rattle.vl_engine_model.specs.declared.job.OpenPass.{OpenPass}
use Rattle.vl_engine_model.specs.declared.layout.Layout.{Layout}
use Rattle.vl_engine_model.specs.declared.live.Live.{Live}
use Rattle.vl_engine_model.specs.declared.live.Pin.{Pin}

-- the files removed
pub data SweepAnswer : Type 0 where
  Removed : ℕ → SweepAnswer
  Halted : FileName → SweepAnswer

abbrev pub job_pin : Option OpenJob → List Pin
job_pin None = []
job_pin (Some job) = job.pin ∷ []

abbrev pub pass_pin : Option OpenPass → List Pin
pass_pin None = []
pass_pin (Some pass) = pass.pin ∷ []

-- the pins of all that lives or is open
abbrev pub pins : Layout → List Pin
pins l = map (λ (x : Live). x.pin) l.live ++ job_pin l.job ++ pass_pin l.pass

-- a pin is below the epoch that the file's retirement made
abbrev pub is_held : List Pin → Retired → Bool
is_held ps file = list_any (λ (p : Pin). nat_lt p.epoch file.epoch) ps

-- where there is a least number that is still looked at, the file retired at one up to it
abbrev pub is_retired_up_to : Option ℕ → Retired → Bool
is_retired_up_to None file = true
is_retired_up_to (Some least) file = nat_le file.epoch least

-- the files that a sweep removes, the earliest retired first
abbrev pub swept : Option ℕ → Layout → List FileName
swept least l =
    map (λ (r : Retired). r.file) (filter (λ r. not (is_held (pins l) r) && is_retired_up_to least r) l.retired)

abbrev pub is_same : FileName → FileName → Bool
is_same (Log a) (Log b) = a == b
is_same (Log a) (Table b) = false
is_same (Log a) (Manifest b) = false
is_same (Table a) (Log b) = false
is_same (Table a) (Table b) = a == b
is_same (Table a) (Manifest b) = false
is_same (Manifest a) (Log b) = false
is_same (Manifest a) (Table b) = false
is_same (Manifest a) (Manifest b) = a == b

-- without the retired files that have gone
abbrev pub without_files : List FileName → Layout → Layout
without_files gone l =
    record l { retired = filter (λ (r : Retired). not (list_any (is_same r.file) gone)) l.retired }

-- what is left where a removal fails after so many of the files have gone, but for the halt
abbrev pub sweep_lost : Option ℕ → Layout → ℕ → Layout
sweep_lost least l count = without_files (take count (swept least l)) l

abbrev pub sweep_unless : Option FileName → Option ℕ → Layout → History → Ruling SweepAnswer
sweep_unless (Some name) least l h = leaving (Halted name) h l
sweep_unless None least l h = record {
  answer = Removed (length (swept least l));
  history = h;
  layout = without_files (swept least l) l;
  calls = length (swept least l);
  gone = swept least l;
}

abbrev pub sweep_ruling : Layout → History → Ruling SweepAnswer
sweep_ruling l h = sweep_unless l.halted None l h

-- where others may still look at each version from this number on
abbrev pub sweep_to_ruling : Layout → History → ℕ → Ruling SweepAnswer
sweep_to_ruling l h least = sweep_unless l.halted (Some least) l h
