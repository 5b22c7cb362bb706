-- What clap makes of plain words.
use Rattle.std.proofs.Common.{◌≡◌, ◌==◌, ℕ, Bool, true, false, not, refl, sym, subst, List, [], ◌∷◌, Some, codes}
use Rattle.clap.specs.Words.{App, Rule, Text, first_of, matches_of, new_app, new_rule, takes, with_rule}
use Rattle.clap.proofs.OnLiterals.{clap_on_literals}
use Rattle.vl_script.specs.Words.{HasPlainPair, HasPlainTriple, HasPlainWord, is_plain_word, word_at}

abbrev pub required : Text → Rule
required id = record (new_rule id) { required = true }

abbrev pub replay_app : App
replay_app = with_rule (new_app (codes "replay")) (required (codes "DIR"))

abbrev pub trial_app : App
trial_app = with_rule (with_rule (new_app (codes "trial")) (required (codes "STOP"))) (required (codes "OUTCOME"))

abbrev pub bench_app : App
bench_app = with_rule (with_rule (new_app (codes "bench")) (required (codes "SEED"))) (required (codes "COUNT"))

abbrev pub drive_app : App
drive_app = with_rule (with_rule (with_rule (new_app (codes "drive")) (required (codes "CLIENTS"))) (required (codes "TXNS")))
    (required (codes "SEED"))

abbrev pub ids_app : App
ids_app = with_rule (with_rule (with_rule (new_app (codes "ids")) (required (codes "CLIENTS"))) (required (codes "COUNT")))
    (required (codes "LEASE"))

replay_taken : (name : Text) (b : ℕ) (bytes : List ℕ) → (b == 45) ≡ false → takes replay_app (name ∷ (b ∷ bytes) ∷ []) ≡ true
unfolding clap_on_literals
replay_taken name b bytes other = simp other refl

replay_found : (name : Text) (b : ℕ) (bytes : List ℕ) → (b == 45) ≡ false
    → first_of (codes "DIR") (matches_of replay_app (name ∷ (b ∷ bytes) ∷ [])) ≡ Some (b ∷ bytes)
unfolding clap_on_literals
replay_found name b bytes other = simp other refl

module _ (name : Text) (a : ℕ) (more : List ℕ) (b : ℕ) (rest : List ℕ) (one : (a == 45) ≡ false) (two : (b == 45) ≡ false) where
  abbrev words : List Text
  words = name ∷ (a ∷ more) ∷ (b ∷ rest) ∷ []

  trial_taken : takes trial_app words ≡ true
  unfolding clap_on_literals
  trial_taken = simp (one, two) refl

  trial_stop : first_of (codes "STOP") (matches_of trial_app words) ≡ Some (a ∷ more)
  unfolding clap_on_literals
  trial_stop = simp (one, two) refl

  trial_outcome : first_of (codes "OUTCOME") (matches_of trial_app words) ≡ Some (b ∷ rest)
  unfolding clap_on_literals
  trial_outcome = simp (one, two) refl

  bench_taken : takes bench_app words ≡ true
  unfolding clap_on_literals
  bench_taken = simp (one, two) refl

  bench_seed : first_of (codes "SEED") (matches_of bench_app words) ≡ Some (a ∷ more)
  unfolding clap_on_literals
  bench_seed = simp (one, two) refl

  bench_count : first_of (codes "COUNT") (matches_of bench_app words) ≡ Some (b ∷ rest)
  unfolding clap_on_literals
  bench_count = simp (one, two) refl

module _ (name : Text) (a : ℕ) (more : List ℕ) (b : ℕ) (rest : List ℕ) (d : ℕ) (last : List ℕ)
    (one : (a == 45) ≡ false) (two : (b == 45) ≡ false) (three : (d == 45) ≡ false) where
  abbrev three_words : List Text
  three_words = name ∷ (a ∷ more) ∷ (b ∷ rest) ∷ (d ∷ last) ∷ []

  drive_taken : takes drive_app three_words ≡ true
  unfolding clap_on_literals
  drive_taken = simp (one, two, three) refl

  drive_clients : first_of (codes "CLIENTS") (matches_of drive_app three_words) ≡ Some (a ∷ more)
  unfolding clap_on_literals
  drive_clients = simp (one, two, three) refl

  drive_turns : first_of (codes "TXNS") (matches_of drive_app three_words) ≡ Some (b ∷ rest)
  unfolding clap_on_literals
  drive_turns = simp (one, two, three) refl

  drive_seed : first_of (codes "SEED") (matches_of drive_app three_words) ≡ Some (d ∷ last)
  unfolding clap_on_literals
  drive_seed = simp (one, two, three) refl

  ids_taken : takes ids_app three_words ≡ true
  unfolding clap_on_literals
  ids_taken = simp (one, two, three) refl

  ids_clients : first_of (codes "CLIENTS") (matches_of ids_app three_words) ≡ Some (a ∷ more)
  unfolding clap_on_literals
  ids_clients = simp (one, two, three) refl

  ids_count : first_of (codes "COUNT") (matches_of ids_app three_words) ≡ Some (b ∷ rest)
  unfolding clap_on_literals
  ids_count = simp (one, two, three) refl

  ids_lease : first_of (codes "LEASE") (matches_of ids_app three_words) ≡ Some (d ∷ last)
  unfolding clap_on_literals
  ids_lease = simp (one, two, three) refl

no_option : (b : ℕ) → not (b == 45) ≡ true → (b == 45) ≡ false
no_option b other = of (b == 45) other
  where
    of : (is : Bool) → not is ≡ true → is ≡ false
    of true e = absurd (cc)
    of false e = refl

-- Clap takes the word of a replay, and finds it.
abbrev Finds : App → (id : Text) → (value : List ℕ) → (words : List Text) → Type 0
Finds app id value words = first_of id (matches_of app words) ≡ Some value

pub replay_takes : (words : List Text) → HasPlainWord words
    → (takes replay_app words ≡ true) × Finds replay_app (codes "DIR") (word_at 1 words) words
replay_takes words plain = subst (λ (ws : List Text). (takes replay_app ws ≡ true) × Finds replay_app (codes "DIR") (word_at 1 ws) ws)
    (sym plain.are) (of plain.name plain.word plain.is_plain)
  where
    of : (name word : Text) → is_plain_word word ≡ true → (takes replay_app (name ∷ word ∷ []) ≡ true)
        × Finds replay_app (codes "DIR") word (name ∷ word ∷ [])
    of name [] none = absurd (cc)
    of name (b ∷ bytes) other = (replay_taken name b bytes (no_option b other), replay_found name b bytes (no_option b other))

pub trial_takes : (words : List Text) → HasPlainPair words → (takes trial_app words ≡ true)
    × Finds trial_app (codes "STOP") (word_at 1 words) words × Finds trial_app (codes "OUTCOME") (word_at 2 words) words
trial_takes words plain = subst (λ (ws : List Text). (takes trial_app ws ≡ true)
    × Finds trial_app (codes "STOP") (word_at 1 ws) ws × Finds trial_app (codes "OUTCOME") (word_at 2 ws) ws)
    (sym plain.are) (of plain.name plain.first plain.second plain.first_plain plain.second_plain)
  where
    of : (name first second : Text) → is_plain_word first ≡ true → is_plain_word second ≡ true
        → (takes trial_app (name ∷ first ∷ second ∷ []) ≡ true)
        × Finds trial_app (codes "STOP") first (name ∷ first ∷ second ∷ []) × Finds trial_app (codes "OUTCOME") second (name ∷ first ∷ second ∷ [])
    of name [] second none two = absurd (cc)
    of name (a ∷ more) [] one none = absurd (cc)
    of name (a ∷ more) (b ∷ rest) one two =
        let p = no_option a one in
        let q = no_option b two in
        (trial_taken name a more b rest p q, trial_stop name a more b rest p q, trial_outcome name a more b rest p q)

pub bench_takes : (words : List Text) → HasPlainPair words → (takes bench_app words ≡ true)
    × Finds bench_app (codes "SEED") (word_at 1 words) words × Finds bench_app (codes "COUNT") (word_at 2 words) words
bench_takes words plain = subst (λ (ws : List Text). (takes bench_app ws ≡ true)
    × Finds bench_app (codes "SEED") (word_at 1 ws) ws × Finds bench_app (codes "COUNT") (word_at 2 ws) ws)
    (sym plain.are) (of plain.name plain.first plain.second plain.first_plain plain.second_plain)
  where
    of : (name first second : Text) → is_plain_word first ≡ true → is_plain_word second ≡ true
        → (takes bench_app (name ∷ first ∷ second ∷ []) ≡ true)
        × Finds bench_app (codes "SEED") first (name ∷ first ∷ second ∷ []) × Finds bench_app (codes "COUNT") second (name ∷ first ∷ second ∷ [])
    of name [] second none two = absurd (cc)
    of name (a ∷ more) [] one none = absurd (cc)
    of name (a ∷ more) (b ∷ rest) one two =
        let p = no_option a one in
        let q = no_option b two in
        (bench_taken name a more b rest p q, bench_seed name a more b rest p q, bench_count name a more b rest p q)

pub drive_takes : (words : List Text) → HasPlainTriple words → (takes drive_app words ≡ true)
    × Finds drive_app (codes "CLIENTS") (word_at 1 words) words × Finds drive_app (codes "TXNS") (word_at 2 words) words
    × Finds drive_app (codes "SEED") (word_at 3 words) words
drive_takes words plain = subst (λ (ws : List Text). (takes drive_app ws ≡ true)
    × Finds drive_app (codes "CLIENTS") (word_at 1 ws) ws × Finds drive_app (codes "TXNS") (word_at 2 ws) ws
    × Finds drive_app (codes "SEED") (word_at 3 ws) ws)
    (sym plain.are) (of plain.name plain.first plain.second plain.third plain.first_plain plain.second_plain plain.third_plain)
  where
    of : (name first second third : Text) → is_plain_word first ≡ true → is_plain_word second ≡ true → is_plain_word third ≡ true
        → (takes drive_app (name ∷ first ∷ second ∷ third ∷ []) ≡ true)
        × Finds drive_app (codes "CLIENTS") first (name ∷ first ∷ second ∷ third ∷ [])
        × Finds drive_app (codes "TXNS") second (name ∷ first ∷ second ∷ third ∷ [])
        × Finds drive_app (codes "SEED") third (name ∷ first ∷ second ∷ third ∷ [])
    of name [] second third none two three = absurd (cc)
    of name (a ∷ more) [] third one none three = absurd (cc)
    of name (a ∷ more) (b ∷ rest) [] one two none = absurd (cc)
    of name (a ∷ more) (b ∷ rest) (d ∷ last) one two three =
        let p = no_option a one in
        let q = no_option b two in
        let r = no_option d three in (
          drive_taken name a more b rest d last p q r,
          drive_clients name a more b rest d last p q r,
          drive_turns name a more b rest d last p q r,
          drive_seed name a more b rest d last p q r,
        )

pub ids_takes : (words : List Text) → HasPlainTriple words → (takes ids_app words ≡ true)
    × Finds ids_app (codes "CLIENTS") (word_at 1 words) words × Finds ids_app (codes "COUNT") (word_at 2 words) words
    × Finds ids_app (codes "LEASE") (word_at 3 words) words
ids_takes words plain = subst (λ (ws : List Text). (takes ids_app ws ≡ true)
    × Finds ids_app (codes "CLIENTS") (word_at 1 ws) ws × Finds ids_app (codes "COUNT") (word_at 2 ws) ws
    × Finds ids_app (codes "LEASE") (word_at 3 ws) ws)
    (sym plain.are) (of plain.name plain.first plain.second plain.third plain.first_plain plain.second_plain plain.third_plain)
  where
    of : (name first second third : Text) → is_plain_word first ≡ true → is_plain_word second ≡ true → is_plain_word third ≡ true
        → (takes ids_app (name ∷ first ∷ second ∷ third ∷ []) ≡ true)
        × Finds ids_app (codes "CLIENTS") first (name ∷ first ∷ second ∷ third ∷ [])
        × Finds ids_app (codes "COUNT") second (name ∷ first ∷ second ∷ third ∷ [])
        × Finds ids_app (codes "LEASE") third (name ∷ first ∷ second ∷ third ∷ [])
    of name [] second third none two three = absurd (cc)
    of name (a ∷ more) [] third one none three = absurd (cc)
    of name (a ∷ more) (b ∷ rest) [] one two none = absurd (cc)
    of name (a ∷ more) (b ∷ rest) (d ∷ last) one two three =
        let p = no_option a one in
        let q = no_option b two in
        let r = no_option d three in (
          ids_taken name a more b rest d last p q r,
          ids_clients name a more b rest d last p q r,
          ids_count name a more b rest d last p q r,
          ids_lease name a more b rest d last p q r,
        )
