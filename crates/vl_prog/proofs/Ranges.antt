-- What plain words ask for is in its ranges.
use Rattle.std.proofs.Common.{◌≡◌, ◌≤◌, ℕ, zero, suc, Bool, true, false, List, [], ◌∷◌, Option, None, Some, refl, subst, arith}
use Rattle.std.specs.Prelude.{◌&&◌, if◌then◌else◌, codes, nat_le}
use Rattle.std.specs.Fmt.{decimal}
use Rattle.std.specs.Str.{bytes_eq}
use Rattle.std.specs.Str.Parse.{digits_value}
use Rattle.std.proofs.lemmas.Bool.Decides.{nat_tests}
use Rattle.vl_mem.specs.declared.outcome.Outcome.{Outcome}
use Rattle.vl_script.specs.Numbers.{number_of}
use Rattle.vl_script.specs.Words.{bench_of, command_of, drive_of, ids_of, is_plain_word, outcome_of, trial_of}
use Rattle.vl_script.specs.Words.{most_clients, most_counts, most_lease, most_rounds, most_seed, most_stop, most_turns}
use Rattle.vl_script.specs.declared.words.Command.{Command}
use Rattle.vl_script.specs.declared.words.Command.TheVariants.{Bench, Drive, Ids, Replay, Trial}

abbrev IsAmong : (most n : ℕ) → Type 0
IsAmong most n = (1 ≤ n) × (n ≤ most)

-- the numbers of clients are
abbrev AreInRange : Command → Type 0
AreInRange Replay = Unit {0}
AreInRange (Trial stop outcome) = Unit {0}
AreInRange (Bench seed count) = Unit {0}
AreInRange (Drive clients txns seed) = IsAmong 16 clients
AreInRange (Ids clients count lease) = IsAmong 16 clients × IsAmong 100000 count × IsAmong 1000 lease

abbrev OnCommand : Option Command → Type 0
OnCommand None = Unit {0}
OnCommand (Some command) = AreInRange command

-- a word that spells a number up to the greatest
abbrev Fits : (most : ℕ) → Option ℕ → Type 0
Fits most n = (k : ℕ) → n ≡ Some k → k ≤ most

small : (a b : ℕ) → nat_le a b ≡ true → a ≤ b
small a b e = grind (arith, nat_tests)

number_fits : (most : ℕ) (word : List ℕ) → Fits most (number_of most word)
number_fits most word k is =
    of (bytes_eq (decimal (digits_value 10 word)) word) (nat_le (digits_value 10 word) most) refl is
  where
    some : (m : ℕ) → Some m ≡ Some k → m ≡ k
    some m e = cc

    of : (same within : Bool) → nat_le (digits_value 10 word) most ≡ within
        → (if same && within then Some (digits_value 10 word) else None) ≡ Some k → k ≤ most
    of true true le e = subst (λ (n : ℕ). n ≤ most) (some (digits_value 10 word) e) (small (digits_value 10 word) most le)
    of true false le none = absurd (cc)
    of false within le none = absurd (cc)

trials : (n : Option ℕ) (o : Option Outcome) → OnCommand (trial_of n o)
trials (Some n) (Some o) = tt
trials (Some n) None = tt
trials None o = tt

benches : (n m : Option ℕ) → OnCommand (bench_of n m)
benches (Some n) (Some zero) = tt
benches (Some n) (Some (suc m)) = tt
benches (Some n) None = tt
benches None m = tt

drives : (n m s : Option ℕ) → Fits 16 n → OnCommand (drive_of n m s)
drives (Some (suc n)) (Some (suc m)) (Some s) fits = (omega arith, fits (suc n) refl)
drives (Some (suc n)) (Some (suc m)) None fits = tt
drives (Some (suc n)) (Some zero) s fits = tt
drives (Some (suc n)) None s fits = tt
drives (Some zero) m s fits = tt
drives None m s fits = tt

counts : (n m k : Option ℕ) → Fits 16 n → Fits 100000 m → Fits 1000 k → OnCommand (ids_of n m k)
counts (Some (suc n)) (Some (suc m)) (Some (suc k)) one two three =
    ((omega arith, one (suc n) refl), (omega arith, two (suc m) refl), (omega arith, three (suc k) refl))
counts (Some (suc n)) (Some (suc m)) (Some zero) one two three = tt
counts (Some (suc n)) (Some (suc m)) None one two three = tt
counts (Some (suc n)) (Some zero) k one two three = tt
counts (Some (suc n)) None k one two three = tt
counts (Some zero) m k one two three = tt
counts None m k one two three = tt

on_words : (words : List (List ℕ)) → OnCommand (command_of words)
on_words [] = tt
on_words (command ∷ []) = tt
on_words (command ∷ folder ∷ []) = of (bytes_eq command (codes "replay") && is_plain_word folder)
  where
    of : (b : Bool) → OnCommand (if b then Some Replay else None)
    of true = tt
    of false = tt
on_words (command ∷ first ∷ second ∷ []) = of (bytes_eq command (codes "trial")) (bytes_eq command (codes "bench"))
  where
    of : (one two : Bool) → OnCommand (if one then trial_of (number_of most_stop first) (outcome_of second)
        else (if two then bench_of (number_of most_seed first) (number_of most_rounds second) else None))
    of true two = trials (number_of most_stop first) (outcome_of second)
    of false true = benches (number_of most_seed first) (number_of most_rounds second)
    of false false = tt
on_words (command ∷ first ∷ second ∷ third ∷ []) = of (bytes_eq command (codes "drive")) (bytes_eq command (codes "ids"))
  where
    of : (one two : Bool) → OnCommand
        (if one then drive_of (number_of most_clients first) (number_of most_turns second) (number_of most_seed third)
        else (if two then ids_of (number_of most_clients first) (number_of most_counts second) (number_of most_lease third) else None))
    of true two = drives (number_of most_clients first) (number_of most_turns second) (number_of most_seed third)
        (number_fits most_clients first)
    of false true = counts (number_of most_clients first) (number_of most_counts second) (number_of most_lease third)
        (number_fits most_clients first) (number_fits most_counts second) (number_fits most_lease third)
    of false false = tt
on_words (command ∷ first ∷ second ∷ third ∷ word ∷ words) = tt

pub in_range : (words : List (List ℕ)) (command : Command) → command_of words ≡ Some command → AreInRange command
in_range words command is = subst (λ (o : Option Command). OnCommand o) is (on_words words)
