-- The words of a command are plain.
use Rattle.std.proofs.Common.{◌≡◌, ℕ, zero, suc, ◌^◌, ◌<◌, ◌≤◌, refl, sym, subst, arith}
use Rattle.std.proofs.Common.{Bool, true, false, length, List, [], ◌∷◌, Option, None, Some}
use Rattle.std.specs.Prelude.{◌&&◌, ◌==◌, if◌then◌else◌, codes, nat_le, not}
use Rattle.std.specs.Fmt.{decimal}
use Rattle.std.specs.Str.{bytes_eq}
use Rattle.std.specs.Str.Parse.{AllDigits, digits_value}
use Rattle.std.proofs.lemmas.Fmt.{decimal_is_IsNumeral}
use Rattle.std.proofs.lemmas.Str.Parse.{digit_from_value}
use Rattle.std.proofs.lemmas.Bool.Decides.{nat_tests}
use Rattle.std.proofs.lemmas.Slice.Eq.{bytes_eq-Decides}
use Rattle.vl_mem.specs.declared.outcome.Outcome.{Outcome}
use Rattle.vl_mem.specs.declared.outcome.Outcome.TheVariants.{Halved, Kept, Lost}
use Rattle.vl_script.specs.Numbers.{number_of}
use Rattle.vl_script.specs.declared.words.Command.TheVariants.{Bench, Drive, Ids, Replay, Trial}
use Rattle.vl_script.specs.declared.words.Command.{Command}
use Rattle.vl_script.specs.Words.{HasPlainPair, HasPlainTriple, bench_of, command_of, drive_of, ids_of, is_plain_word}
use Rattle.vl_script.specs.Words.{most_clients, most_counts, most_lease, most_rounds, most_seed, most_stop, most_turns}
use Rattle.vl_script.specs.Words.{outcome_of, trial_of, word_at}

-- ---- a word that spells a number is plain

within : (a b : ℕ) → nat_le a b ≡ true → a ≤ b
within a b e = grind (arith, nat_tests)

not_minus : (b : ℕ) → 48 ≤ b → not (b == 45) ≡ true
not_minus b le = grind (arith, nat_tests)

-- none has no digit, and none begins with `-`
number_plain : (most : ℕ) (word : List ℕ) (n : ℕ) → most < 2 ^ 64 → number_of most word ≡ Some n → is_plain_word word ≡ true
number_plain most word n small is = of (bytes_eq (decimal (digits_value 10 word)) word) (nat_le (digits_value 10 word) most) refl refl is
  where
    plain : (w : List ℕ) (m : ℕ) → m < 2 ^ 64 → decimal m ≡ w → is_plain_word w ≡ true
    plain [] m less e =
        let some : 0 < 0 = subst (λ (ds : List ℕ). 0 < length ds) e (decimal_is_IsNumeral m less).0.0 in
        absurd (omega arith)
    plain (b ∷ bytes) m less e =
        let digit = digit_from_value b (subst (AllDigits 10) e (decimal_is_IsNumeral m less).0.1).0 in
        not_minus b (omega (arith, digit))

    of : (same fits : Bool) → bytes_eq (decimal (digits_value 10 word)) word ≡ same → nat_le (digits_value 10 word) most ≡ fits
        → (if same && fits then Some (digits_value 10 word) else None) ≡ Some n → is_plain_word word ≡ true
    of true true e f is_n =
        let le = within (digits_value 10 word) most f in
        plain word (digits_value 10 word) (omega (arith, le, small)) ((bytes_eq-Decides (decimal (digits_value 10 word)) word).0 e)
    of true false e f none = absurd (cc)
    of false fits e f none = absurd (cc)

-- and so is one that tells an outcome
outcome_plain : (word : List ℕ) (outcome : Outcome) → outcome_of word ≡ Some outcome → is_plain_word word ≡ true
outcome_plain word outcome is =
    of (bytes_eq word (codes "0")) (bytes_eq word (codes "1")) (bytes_eq word (codes "2")) refl refl refl is
  where
    same : (other : List ℕ) → bytes_eq word other ≡ true → is_plain_word other ≡ true → is_plain_word word ≡ true
    same other e plain = subst (λ (w : List ℕ). is_plain_word w ≡ true) (sym ((bytes_eq-Decides word other).0 e)) plain

    of : (lost kept halved : Bool) → bytes_eq word (codes "0") ≡ lost → bytes_eq word (codes "1") ≡ kept → bytes_eq word (codes "2") ≡ halved
        → (if lost then Some Lost else (if kept then Some Kept else (if halved then Some Halved else None))) ≡ Some outcome
        → is_plain_word word ≡ true
    of true kept halved e f g is_o = same (codes "0") e refl
    of false true halved e f g is_o = same (codes "1") f refl
    of false false true e f g is_o = same (codes "2") g refl
    of false false false e f g none = absurd (cc)

-- ---- the words of a command

-- two words ask for one command, or for nothing

tries_alone : (n : Option ℕ) (o : Option Outcome) (command : Command) → ((a : ℕ) (b : Outcome) → command ≡ Trial a b → ⊥)
    → trial_of n o ≡ Some command → ⊥
tries_alone (Some n) (Some o) command other is = other n o (same is)
  where
    same : Some (Trial n o) ≡ Some command → command ≡ Trial n o
    same e = cc
tries_alone (Some n) None command other none = cc
tries_alone None o command other none = cc

benches_alone : (n m : Option ℕ) (command : Command) → ((a b : ℕ) → command ≡ Bench a b → ⊥) → bench_of n m ≡ Some command → ⊥
benches_alone (Some n) (Some (suc m)) command other is = other n (suc m) (same is)
  where
    same : Some (Bench n (suc m)) ≡ Some command → command ≡ Bench n (suc m)
    same e = cc
benches_alone (Some n) (Some zero) command other none = cc
benches_alone (Some n) None command other none = cc
benches_alone None m command other none = cc

-- and so do three

drives_alone : (n m seed : Option ℕ) (command : Command) → ((a b c : ℕ) → command ≡ Drive a b c → ⊥) → drive_of n m seed ≡ Some command → ⊥
drives_alone (Some (suc n)) (Some (suc m)) (Some seed) command other is = other (suc n) (suc m) seed (same is)
  where
    same : Some (Drive (suc n) (suc m) seed) ≡ Some command → command ≡ Drive (suc n) (suc m) seed
    same e = cc
drives_alone (Some (suc n)) (Some (suc m)) None command other none = cc
drives_alone (Some (suc n)) (Some zero) seed command other none = cc
drives_alone (Some (suc n)) None seed command other none = cc
drives_alone (Some zero) m seed command other none = cc
drives_alone None m seed command other none = cc

counts_alone : (n m k : Option ℕ) (command : Command) → ((a b c : ℕ) → command ≡ Ids a b c → ⊥) → ids_of n m k ≡ Some command → ⊥
counts_alone (Some (suc n)) (Some (suc m)) (Some (suc k)) command other is = other (suc n) (suc m) (suc k) (same is)
  where
    same : Some (Ids (suc n) (suc m) (suc k)) ≡ Some command → command ≡ Ids (suc n) (suc m) (suc k)
    same e = cc
counts_alone (Some (suc n)) (Some (suc m)) (Some zero) command other none = cc
counts_alone (Some (suc n)) (Some (suc m)) None command other none = cc
counts_alone (Some (suc n)) (Some zero) k command other none = cc
counts_alone (Some (suc n)) None k command other none = cc
counts_alone (Some zero) m k command other none = cc
counts_alone None m k command other none = cc

-- Other commands have another number of words.

no_folder : (folder name : List ℕ) (command : Command) → (command ≡ Replay → ⊥) → command_of (name ∷ folder ∷ []) ≡ Some command → ⊥
no_folder folder name command other is = of (bytes_eq name (codes "replay") && is_plain_word folder) is
  where
    same : Some Replay ≡ Some command → command ≡ Replay
    same e = cc

    of : (b : Bool) → (if b then Some Replay else None) ≡ Some command → ⊥
    of true e = other (same e)
    of false none = cc

no_pair : (first second name : List ℕ) (command : Command) → ((a : ℕ) (b : Outcome) → command ≡ Trial a b → ⊥)
    → ((a b : ℕ) → command ≡ Bench a b → ⊥) → command_of (name ∷ first ∷ second ∷ []) ≡ Some command → ⊥
no_pair first second name command no_trial no_bench is = of (bytes_eq name (codes "trial")) (bytes_eq name (codes "bench")) is
  where
    of : (one two : Bool) → (if one then trial_of (number_of most_stop first) (outcome_of second)
        else (if two then bench_of (number_of most_seed first) (number_of most_rounds second) else None)) ≡ Some command → ⊥
    of true two e = tries_alone (number_of most_stop first) (outcome_of second) command no_trial e
    of false true e = benches_alone (number_of most_seed first) (number_of most_rounds second) command no_bench e
    of false false none = cc

no_triple : (first second third name : List ℕ) (command : Command) → ((a b c : ℕ) → command ≡ Drive a b c → ⊥)
    → ((a b c : ℕ) → command ≡ Ids a b c → ⊥) → command_of (name ∷ first ∷ second ∷ third ∷ []) ≡ Some command → ⊥
no_triple first second third name command no_drive no_ids is = of (bytes_eq name (codes "drive")) (bytes_eq name (codes "ids")) is
  where
    of : (one two : Bool) → (if one then drive_of (number_of most_clients first) (number_of most_turns second) (number_of most_seed third)
        else (if two then ids_of (number_of most_clients first) (number_of most_counts second) (number_of most_lease third) else None))
        ≡ Some command → ⊥
    of true two e = drives_alone (number_of most_clients first) (number_of most_turns second) (number_of most_seed third) command no_drive e
    of false true e = counts_alone (number_of most_clients first) (number_of most_counts second) (number_of most_lease third) command no_ids e
    of false false none = cc

-- A trial has two words, of which it is.
pub record IsTrial (words : List (List ℕ)) : Type 0 where
  pub plain : HasPlainPair words
  pub of_words : command_of words ≡ trial_of (number_of most_stop (word_at 1 words)) (outcome_of (word_at 2 words))

trial_pair : (command first second : List ℕ) → {stop : ℕ} {outcome : Outcome}
    → trial_of (number_of most_stop first) (outcome_of second) ≡ Some (Trial stop outcome) → HasPlainPair (command ∷ first ∷ second ∷ [])
trial_pair command first second {stop} {outcome} is = of (number_of most_stop first) (outcome_of second) refl refl is
  where
    of : (n : Option ℕ) (o : Option Outcome) → number_of most_stop first ≡ n → outcome_of second ≡ o → trial_of n o ≡ Some (Trial stop outcome)
        → HasPlainPair (command ∷ first ∷ second ∷ [])
    of (Some n) (Some o) e f same = record {
      name = command;
      first = first;
      second = second;
      are = refl;
      first_plain = number_plain most_stop first n (omega arith) e;
      second_plain = outcome_plain second o f;
    }
    of (Some n) None e f none = absurd (cc)
    of None o e f none = absurd (cc)

pub is_trial : (words : List (List ℕ)) (stop : ℕ) (outcome : Outcome) → command_of words ≡ Some (Trial stop outcome) → IsTrial words
is_trial [] stop outcome none = absurd (cc)
is_trial (command ∷ []) stop outcome none = absurd (cc)
is_trial (command ∷ folder ∷ []) stop outcome is = absurd (no_folder folder command (Trial stop outcome) (λ e. cc) is)
is_trial (command ∷ first ∷ second ∷ []) stop outcome is = of (bytes_eq command (codes "trial")) (bytes_eq command (codes "bench")) refl is
  where
    of : (one two : Bool) → bytes_eq command (codes "trial") ≡ one
        → (if one then trial_of (number_of most_stop first) (outcome_of second)
        else (if two then bench_of (number_of most_seed first) (number_of most_rounds second) else None)) ≡ Some (Trial stop outcome)
        → IsTrial (command ∷ first ∷ second ∷ [])
    of true two e same = record {
      plain = trial_pair command first second same;
      of_words = rw e refl;
    }
    of false true e same = absurd
        (benches_alone (number_of most_seed first) (number_of most_rounds second) (Trial stop outcome) (λ a b e. cc) same)
    of false false e none = absurd (cc)
is_trial (command ∷ first ∷ second ∷ third ∷ []) stop outcome is = absurd
    (no_triple first second third command (Trial stop outcome) (λ a b c e. cc) (λ a b c e. cc) is)
is_trial (command ∷ first ∷ second ∷ third ∷ word ∷ words) stop outcome none = absurd (cc)

-- A benchmark has two words, of which it is.
pub record IsBench (words : List (List ℕ)) : Type 0 where
  pub plain : HasPlainPair words
  pub of_words : command_of words ≡ bench_of (number_of most_seed (word_at 1 words)) (number_of most_rounds (word_at 2 words))

bench_pair : (command first second : List ℕ) → {seed count : ℕ}
    → bench_of (number_of most_seed first) (number_of most_rounds second) ≡ Some (Bench seed count) → HasPlainPair (command ∷ first ∷ second ∷ [])
bench_pair command first second {seed} {count} is = of (number_of most_seed first) (number_of most_rounds second) refl refl is
  where
    of : (n m : Option ℕ) → number_of most_seed first ≡ n → number_of most_rounds second ≡ m → bench_of n m ≡ Some (Bench seed count)
        → HasPlainPair (command ∷ first ∷ second ∷ [])
    of (Some n) (Some m) e f same = record {
      name = command;
      first = first;
      second = second;
      are = refl;
      first_plain = number_plain most_seed first n (omega arith) e;
      second_plain = number_plain most_rounds second m (omega arith) f;
    }
    of (Some n) None e f none = absurd (cc)
    of None m e f none = absurd (cc)

pub is_bench : (words : List (List ℕ)) (seed count : ℕ) → command_of words ≡ Some (Bench seed count) → IsBench words
is_bench [] seed count none = absurd (cc)
is_bench (command ∷ []) seed count none = absurd (cc)
is_bench (command ∷ folder ∷ []) seed count is = absurd (no_folder folder command (Bench seed count) (λ e. cc) is)
is_bench (command ∷ first ∷ second ∷ []) seed count is = of (bytes_eq command (codes "trial")) (bytes_eq command (codes "bench")) refl refl is
  where
    of : (one two : Bool) → bytes_eq command (codes "trial") ≡ one → bytes_eq command (codes "bench") ≡ two
        → (if one then trial_of (number_of most_stop first) (outcome_of second)
        else (if two then bench_of (number_of most_seed first) (number_of most_rounds second) else None)) ≡ Some (Bench seed count)
        → IsBench (command ∷ first ∷ second ∷ [])
    of true two e f same = absurd
        (tries_alone (number_of most_stop first) (outcome_of second) (Bench seed count) (λ a b e. cc) same)
    of false true e f same = record {
      plain = bench_pair command first second same;
      of_words = rw (e, f) refl;
    }
    of false false e f none = absurd (cc)
is_bench (command ∷ first ∷ second ∷ third ∷ []) seed count is = absurd
    (no_triple first second third command (Bench seed count) (λ a b c e. cc) (λ a b c e. cc) is)
is_bench (command ∷ first ∷ second ∷ third ∷ word ∷ words) seed count none = absurd (cc)

-- Clients have three words, of which they are.
pub record IsDrive (words : List (List ℕ)) : Type 0 where
  pub plain : HasPlainTriple words
  pub of_words : command_of words
      ≡ drive_of (number_of most_clients (word_at 1 words)) (number_of most_turns (word_at 2 words)) (number_of most_seed (word_at 3 words))

drive_triple : (command first second third : List ℕ) → {clients turns seed : ℕ}
    → drive_of (number_of most_clients first) (number_of most_turns second) (number_of most_seed third) ≡ Some (Drive clients turns seed)
    → HasPlainTriple (command ∷ first ∷ second ∷ third ∷ [])
drive_triple command first second third {clients} {turns} {seed} is =
    of (number_of most_clients first) (number_of most_turns second) (number_of most_seed third) refl refl refl is
  where
    of : (n m s : Option ℕ) → number_of most_clients first ≡ n → number_of most_turns second ≡ m → number_of most_seed third ≡ s
        → drive_of n m s ≡ Some (Drive clients turns seed) → HasPlainTriple (command ∷ first ∷ second ∷ third ∷ [])
    of (Some (suc n)) (Some (suc m)) (Some s) e f g same = record {
      name = command;
      first = first;
      second = second;
      third = third;
      are = refl;
      first_plain = number_plain most_clients first (suc n) (omega arith) e;
      second_plain = number_plain most_turns second (suc m) (omega arith) f;
      third_plain = number_plain most_seed third s (omega arith) g;
    }
    of (Some (suc n)) (Some (suc m)) None e f g none = absurd (cc)
    of (Some (suc n)) (Some zero) s e f g none = absurd (cc)
    of (Some (suc n)) None s e f g none = absurd (cc)
    of (Some zero) m s e f g none = absurd (cc)
    of None m s e f g none = absurd (cc)

pub is_drive : (words : List (List ℕ)) (clients turns seed : ℕ) → command_of words ≡ Some (Drive clients turns seed) → IsDrive words
is_drive [] clients turns seed none = absurd (cc)
is_drive (command ∷ []) clients turns seed none = absurd (cc)
is_drive (command ∷ folder ∷ []) clients turns seed is = absurd (no_folder folder command (Drive clients turns seed) (λ e. cc) is)
is_drive (command ∷ first ∷ second ∷ []) clients turns seed is = absurd
    (no_pair first second command (Drive clients turns seed) (λ a b e. cc) (λ a b e. cc) is)
is_drive (command ∷ first ∷ second ∷ third ∷ []) clients turns seed is =
    of (bytes_eq command (codes "drive")) (bytes_eq command (codes "ids")) refl is
  where
    of : (one two : Bool) → bytes_eq command (codes "drive") ≡ one
        → (if one then drive_of (number_of most_clients first) (number_of most_turns second) (number_of most_seed third)
        else (if two then ids_of (number_of most_clients first) (number_of most_counts second) (number_of most_lease third) else None))
        ≡ Some (Drive clients turns seed) → IsDrive (command ∷ first ∷ second ∷ third ∷ [])
    of true two e same = record {
      plain = drive_triple command first second third same;
      of_words = rw e refl;
    }
    of false true e same = absurd
        (counts_alone (number_of most_clients first) (number_of most_counts second) (number_of most_lease third)
        (Drive clients turns seed) (λ a b c e. cc) same)
    of false false e none = absurd (cc)
is_drive (command ∷ first ∷ second ∷ third ∷ word ∷ words) clients turns seed none = absurd (cc)

-- Clients that take numbers have three words, of which they are.
pub record IsIds (words : List (List ℕ)) : Type 0 where
  pub plain : HasPlainTriple words
  pub of_words : command_of words
      ≡ ids_of (number_of most_clients (word_at 1 words)) (number_of most_counts (word_at 2 words)) (number_of most_lease (word_at 3 words))

ids_triple : (command first second third : List ℕ) → {clients count lease : ℕ}
    → ids_of (number_of most_clients first) (number_of most_counts second) (number_of most_lease third) ≡ Some (Ids clients count lease)
    → HasPlainTriple (command ∷ first ∷ second ∷ third ∷ [])
ids_triple command first second third {clients} {count} {lease} is =
    of (number_of most_clients first) (number_of most_counts second) (number_of most_lease third) refl refl refl is
  where
    of : (n m k : Option ℕ) → number_of most_clients first ≡ n → number_of most_counts second ≡ m → number_of most_lease third ≡ k
        → ids_of n m k ≡ Some (Ids clients count lease) → HasPlainTriple (command ∷ first ∷ second ∷ third ∷ [])
    of (Some (suc n)) (Some (suc m)) (Some (suc k)) e f g same = record {
      name = command;
      first = first;
      second = second;
      third = third;
      are = refl;
      first_plain = number_plain most_clients first (suc n) (omega arith) e;
      second_plain = number_plain most_counts second (suc m) (omega arith) f;
      third_plain = number_plain most_lease third (suc k) (omega arith) g;
    }
    of (Some (suc n)) (Some (suc m)) (Some zero) e f g none = absurd (cc)
    of (Some (suc n)) (Some (suc m)) None e f g none = absurd (cc)
    of (Some (suc n)) (Some zero) k e f g none = absurd (cc)
    of (Some (suc n)) None k e f g none = absurd (cc)
    of (Some zero) m k e f g none = absurd (cc)
    of None m k e f g none = absurd (cc)

pub is_ids : (words : List (List ℕ)) (clients count lease : ℕ) → command_of words ≡ Some (Ids clients count lease) → IsIds words
is_ids [] clients count lease none = absurd (cc)
is_ids (command ∷ []) clients count lease none = absurd (cc)
is_ids (command ∷ folder ∷ []) clients count lease is = absurd (no_folder folder command (Ids clients count lease) (λ e. cc) is)
is_ids (command ∷ first ∷ second ∷ []) clients count lease is = absurd
    (no_pair first second command (Ids clients count lease) (λ a b e. cc) (λ a b e. cc) is)
is_ids (command ∷ first ∷ second ∷ third ∷ []) clients count lease is =
    of (bytes_eq command (codes "drive")) (bytes_eq command (codes "ids")) refl refl is
  where
    of : (one two : Bool) → bytes_eq command (codes "drive") ≡ one → bytes_eq command (codes "ids") ≡ two
        → (if one then drive_of (number_of most_clients first) (number_of most_turns second) (number_of most_seed third)
        else (if two then ids_of (number_of most_clients first) (number_of most_counts second) (number_of most_lease third) else None))
        ≡ Some (Ids clients count lease) → IsIds (command ∷ first ∷ second ∷ third ∷ [])
    of true two e f same = absurd
        (drives_alone (number_of most_clients first) (number_of most_turns second) (number_of most_seed third)
        (Ids clients count lease) (λ a b c e. cc) same)
    of false true e f same = record {
      plain = ids_triple command first second third same;
      of_words = rw (e, f) refl;
    }
    of false false e f none = absurd (cc)
is_ids (command ∷ first ∷ second ∷ third ∷ word ∷ words) clients count lease none = absurd (cc)
