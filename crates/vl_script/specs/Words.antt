-- What the words of a command line ask for.
use Rattle.std.specs.Prelude.{slice_index_or, ◌≡◌, true, ◌-◌, ◌^◌, ℕ, zero, suc, Bool, false, not, ◌==◌, ◌&&◌, if◌then◌else◌, List, [], ◌∷◌, Option, None, Some, codes}
use Rattle.std.specs.Str.{bytes_eq}
use Rattle.vl_mem.specs.declared.outcome.Outcome.{Outcome}
use Rattle.vl_mem.specs.declared.outcome.Outcome.TheVariants.{Lost, Kept, Halved}
use Rattle.vl_script.specs.Numbers.{number_of}
use Rattle.vl_script.specs.declared.words.Command.{Command}
use Rattle.vl_script.specs.declared.words.Command.TheVariants.{Bench, Drive, Ids, Replay, Trial}

-- a word that is neither empty nor an option
abbrev pub is_plain_word : List ℕ → Bool
is_plain_word [] = false
is_plain_word (b ∷ bytes) = not (b == 45)

-- what a crash does to what isn't durable: 0 loses it, 1 keeps it, 2 halves it
abbrev pub outcome_of : List ℕ → Option Outcome
outcome_of word =
    if bytes_eq word (codes "0") then Some Lost
    else (if bytes_eq word (codes "1") then Some Kept
    else (if bytes_eq word (codes "2") then Some Halved else None))

abbrev pub most_stop : ℕ
most_stop = 1000000

abbrev pub trial_of : Option ℕ → Option Outcome → Option Command
trial_of (Some stop) (Some outcome) = Some (Trial stop outcome)
trial_of (Some stop) None = None
trial_of None outcome = None

abbrev pub most_seed : ℕ
most_seed = 2 ^ 64 - 1

abbrev pub most_rounds : ℕ
most_rounds = 100000

-- a benchmark has one round at least
abbrev pub bench_of : Option ℕ → Option ℕ → Option Command
bench_of (Some seed) (Some zero) = None
bench_of (Some seed) (Some (suc n)) = Some (Bench seed (suc n))
bench_of (Some seed) None = None
bench_of None count = None

abbrev pub most_clients : ℕ
most_clients = 16

abbrev pub most_turns : ℕ
most_turns = 100000

-- there are one client and one turn at least
abbrev pub drive_of : Option ℕ → Option ℕ → Option ℕ → Option Command
drive_of (Some (suc n)) (Some (suc m)) (Some seed) = Some (Drive (suc n) (suc m) seed)
drive_of clients turns seed = None

abbrev pub most_counts : ℕ
most_counts = 100000

abbrev pub most_lease : ℕ
most_lease = 1000

-- there are one client and one number at least, and a lease has one
abbrev pub ids_of : Option ℕ → Option ℕ → Option ℕ → Option Command
ids_of (Some (suc n)) (Some (suc m)) (Some (suc k)) = Some (Ids (suc n) (suc m) (suc k))
ids_of clients count lease = None

-- The words of a command that takes two numbers.
abbrev pub counts_of : List ℕ → (first second : List ℕ) → Option Command
counts_of command first second =
    if bytes_eq command (codes "trial") then trial_of (number_of most_stop first) (outcome_of second)
    else (if bytes_eq command (codes "bench") then bench_of (number_of most_seed first) (number_of most_rounds second) else None)

-- The words of one that takes three.
abbrev pub clients_of : List ℕ → (first second third : List ℕ) → Option Command
clients_of command first second third =
    if bytes_eq command (codes "drive") then drive_of (number_of most_clients first) (number_of most_turns second) (number_of most_seed third)
    else (if bytes_eq command (codes "ids") then ids_of (number_of most_clients first) (number_of most_counts second) (number_of most_lease third)
    else None)

-- The words `replay` and a folder's name; `trial`, a stop and an outcome; `bench`, a seed and a number of rounds; `drive`, how
-- many clients, how many turns of each, and a seed; or `ids`, how many clients, how many numbers of each, and how many a lease
-- has. All others aren't plain.
abbrev pub command_of : List (List ℕ) → Option Command
command_of (command ∷ folder ∷ []) = if bytes_eq command (codes "replay") && is_plain_word folder then Some Replay else None
command_of (command ∷ first ∷ second ∷ []) = counts_of command first second
command_of (command ∷ first ∷ second ∷ third ∷ []) = clients_of command first second third
command_of words = None

-- Words behind a command's name that are plain: one, two, or three.
pub record HasPlainWord (words : List (List ℕ)) : Type 0 where
  pub name : List ℕ
  pub word : List ℕ
  pub are : words ≡ name ∷ word ∷ []
  pub is_plain : is_plain_word word ≡ true

pub record HasPlainPair (words : List (List ℕ)) : Type 0 where
  pub name : List ℕ
  pub first : List ℕ
  pub second : List ℕ
  pub are : words ≡ name ∷ first ∷ second ∷ []
  pub first_plain : is_plain_word first ≡ true
  pub second_plain : is_plain_word second ≡ true

pub record HasPlainTriple (words : List (List ℕ)) : Type 0 where
  pub name : List ℕ
  pub first : List ℕ
  pub second : List ℕ
  pub third : List ℕ
  pub are : words ≡ name ∷ first ∷ second ∷ third ∷ []
  pub first_plain : is_plain_word first ≡ true
  pub second_plain : is_plain_word second ≡ true
  pub third_plain : is_plain_word third ≡ true

-- the word at a place, and none behind the last
abbrev pub word_at : ℕ → List (List ℕ) → List ℕ
word_at place words = slice_index_or words place []
