-- What logs come to that were read so far.
use Rattle.std.specs.Prelude.{◌≡◌, ℕ, Bool, true, false, List, [], ◌∷◌, ◌++◌, map, length, Option, None, Some, Result, Ok, Err}
use Rattle.std.specs.List.{AllZip}
use Rattle.std.specs.Option.{option_map}
use Rattle.std.specs.FinMap.{get}
use Rattle.vl_disk.specs.Crash.{Image}
use Rattle.vl_disk.specs.declared.name.Name.TheVariants.{Log}
use Rattle.vl_manifest.specs.declared.waiting.Waiting.{Waiting}
use Rattle.vl_model.specs.declared.log_frame.LogFrame.{LogFrame}
use Rattle.vl_seglog.specs.LogReading.{LogReading, ReadsLog}
use Rattle.vl_seglog.specs.declared.sealed.SealedLog.{SealedLog}
use Rattle.vl_recover.specs.declared.found.DamagePlace.{DamagePlace}
use Rattle.vl_recover.specs.declared.found.LogFound.{LogFound}
use Rattle.vl_recover.specs.declared.found.LogsFound.{LogsFound}
use Rattle.vl_recover.specs.opening.Answers.{held_log}
use Rattle.vl_recover.specs.opening.Counting.{walked_by, walked_log}
use Rattle.vl_recover.specs.opening.Finding.{last_log, last_of}
use Rattle.vl_recover.specs.opening.HeldFiles.{AreWaiting, but_last}
use Rattle.vl_recover.specs.opening.Opening.{StandingLogs}
use Rattle.vl_recover.specs.opening.ReadLogs.{IsReadAs}
use Rattle.vl_recover.specs.opening.Results.{frozen_log}
use Rattle.vl_recover.specs.opening.Walk.{LogDamage, StandingLog, filled, format_of}

abbrev pub damage_of : DamagePlace → LogDamage
damage_of d = record { log = d.log; place = d.place }

abbrev pub walk_of : Result ℕ DamagePlace → Result ℕ LogDamage
walk_of (Ok n) = Ok n
walk_of (Err d) = Err (damage_of d)

-- these logs were read, which another follows or not
pub record AreReadSoFar {H : Type 0} (covered : ℕ) (followed : Bool) (logs : List StandingLog) (read : LogsFound H) : Type 0 where
  pub number : walk_of read.number ≡ walked_by followed covered logs
  pub frozen : map frozen_log read.frozen.items ≡ map held_log (filled logs)
  pub waiting : (number : ℕ) → read.number ≡ Ok number → AreWaiting covered read.waiting.items (filled logs)
  pub last : read.last ≡ option_map last_log (last_of logs)

-- the number of the last commit so far; behind a damage 0 stands for it
abbrev pub number_before : Result ℕ DamagePlace → ℕ
number_before (Ok n) = n
number_before (Err d) = 0

-- a log of an image was read, and the commit before it has this number
pub record FindsLog (image : Image) (number before : ℕ) (log : LogFound) : Type 0 where
  pub number_is : log.number ≡ number
  pub bytes : List ℕ
  pub stands : get image (Log number) ≡ Some bytes
  pub length_is : log.length ≡ length bytes
  pub reading : LogReading
  pub reads : ReadsLog number bytes reading
  pub read_as : IsReadAs before reading log

-- ---- logs that are held

-- of these logs those that another follows, where the last of them is followed or not
abbrev pub followed_of : (followed : Bool) → List StandingLog → List StandingLog
followed_of true logs = logs
followed_of false logs = but_last logs

abbrev pub held_list : {A : Type 0} → Option A → List A
held_list None = []
held_list (Some held) = held ∷ []

module _ {H : Type 0} (bytes_of : H → Option (List ℕ)) (image : Image) where
  -- the log of this number and format is held as an image has it
  pub record IsHeldAs (number : ℕ) (format : Option ℕ) (log : SealedLog H) : Type 0 where
    pub number_is : log.number ≡ number
    pub format_is : log.format ≡ format_of format
    pub told : bytes_of log.held ≡ get image (Log number)

  -- it is held so, where another follows it
  abbrev pub IsHeldWhere : ℕ → Option ℕ → (followed : Bool) → Option (SealedLog H) → Type 0
  IsHeldWhere number format true None = ⊥
  IsHeldWhere number format true (Some log) = IsHeldAs number format log
  IsHeldWhere number format false held = held ≡ None

  abbrev pub IsHeldSo : SealedLog H → StandingLog → Type 0
  IsHeldSo log q = IsHeldAs q.number q.reading.header log

  -- one log more is held so, where another follows it
  abbrev pub HoldsMore : (followed : Bool) → StandingLog → List (SealedLog H) → List (SealedLog H) → Type 0
  HoldsMore true q old new = (log : SealedLog H) × IsHeldSo log q × (new ≡ old ++ log ∷ [])
  HoldsMore false q old new = new ≡ old

  -- behind the lower ones those of these logs are held so that another follows
  pub record AreHeldSoFar (lower : List (SealedLog H)) (followed : Bool) (logs : List StandingLog) (sealed : List (SealedLog H)) : Type 0
    where
      pub upper : List (SealedLog H)
      pub split : sealed ≡ lower ++ upper
      pub are : AllZip IsHeldSo upper (followed_of followed logs)

-- ---- a log more

-- what waits of a log with these frames, where commits up to a number are in it and before it
abbrev pub waits_with : (number covered : ℕ) → List LogFrame → List Waiting
waits_with number covered [] = []
waits_with number covered (f ∷ fs) = record { number = number; covered = covered } ∷ []

-- one log more was read
pub record HasOneMore {H : Type 0} (log : StandingLog) (followed : Bool) (old new : LogsFound H) : Type 0 where
  pub number : walk_of new.number ≡ walked_log followed (walk_of old.number) log
  pub frozen : map frozen_log new.frozen.items ≡ map frozen_log old.frozen.items ++ map held_log (filled (log ∷ []))
  pub waiting : new.waiting.items ≡ old.waiting.items ++ waits_with log.number (number_before new.number) log.reading.frames
  pub last : new.last ≡ Some (last_log log)

-- and it is the one with this number that an image has
pub record FindsOneMore {H : Type 0} (bytes_of : H → Option (List ℕ)) (image : Image) (number : ℕ) (followed : Bool)
    (old new : LogsFound H) : Type 0 where
  pub log : StandingLog
  pub number_is : log.number ≡ number
  pub bytes : List ℕ
  pub stands : get image (Log number) ≡ Some bytes
  pub length_is : log.length ≡ length bytes
  pub reads : ReadsLog number bytes log.reading
  pub one_more : HasOneMore log followed old new
  pub held : HoldsMore bytes_of image followed log old.sealed.items new.sealed.items

-- the logs of an image from a number on, all of them
pub record AreLogsFound {H : Type 0} (image : Image) (head covered : ℕ) (read : LogsFound H) : Type 0 where
  pub logs : List StandingLog
  pub standing : StandingLogs image head logs
  pub are_read : AreReadSoFar covered false logs read
