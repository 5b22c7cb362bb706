-- The words of a line, where the first space is known.
use Rattle.std.proofs.Common.{◌≡◌, ℕ, ◌+◌, ◌<◌, ◌≤◌, ◌==◌, cond, true, false, ltb, refl, arith}
use Rattle.std.proofs.Common.{List, [], ◌∷◌, length, take, drop, Option, Some, None}
use denote.Ref.{Bor}
use Rattle.std.specs.Option.{option_map_or, is_some}
use Rattle.std.specs.List.{onto_first, position, position_or_len}
use Rattle.std.proofs.lemmas.List.Splits.{slice_split_none, slice_split_first}
use Rattle.std.proofs.lemmas.List.Sums.{fails_before_first}
use Rattle.std.proofs.lemmas.Bool.Decides.{nat_tests}
use Rattle.vl_script.specs.declared.line.Line.{Line}
use Rattle.vl_script.specs.Script.{words_of, alone, ident_alone, ident_and_key, ident_and_number, get_at_of, keep_of, set_of, with_number}

passed_end : (first end : ℕ) → cond (ltb first end) (Some first) None ≡ None → end ≤ first
passed_end first end e = grind (arith, nat_tests)

found_first : (first end i : ℕ) → cond (ltb first end) (Some first) None ≡ Some i → (first < end) × (first ≡ i)
found_first first end i e = grind (arith, nat_tests)

-- with no space, the text is its one word
pub words_of_one : (text : List ℕ) → position (λ b. b == 32) text ≡ None → words_of text ≡ text ∷ []
words_of_one text e =
    let high : length text ≤ position_or_len (λ b. b == 32) text = passed_end _ _ e in
    slice_split_none _ text (λ k d low. fails_before_first (λ b. b == 32) text k d (omega arith))

-- the first space ends the first word
pub words_of_first : (text : List ℕ) (i : ℕ) → position (λ b. b == 32) text ≡ Some i
    → words_of text ≡ take i text ∷ words_of (drop (i + 1) text)
words_of_first text i e =
    let found = found_first _ (length text) i e in
    rw (← found.1) (slice_split_first (λ b. b == 32) text 0 found.0)

-- any text has a first word
words_of_begins : (text : List ℕ) → (word : List ℕ) × (words : List (List ℕ)) × (words_of text ≡ word ∷ words)
words_of_begins [] = ([], [], refl)
words_of_begins (b ∷ text) =
    let rest = words_of_begins text in
    elim (b == 32) as (λ t. (word : List ℕ) × (words : List (List ℕ))
    × (cond t ([] ∷ words_of text) (onto_first b (words_of text)) ≡ word ∷ words)) [
      | true ↦ ([], words_of text, refl)
      | false ↦ (b ∷ rest.0, rest.1, rw rest.2 refl)
    ]

-- the words behind the space that ends a word
abbrev pub words_behind : Option (Bor (List ℕ)) → List (List ℕ)
words_behind rest = option_map_or (λ text. words_of text.now) rest []

words_behind_begins : (rest : Option (Bor (List ℕ))) → is_some rest ≡ true
    → (word : List ℕ) × (words : List (List ℕ)) × (words_behind rest ≡ word ∷ words)
words_behind_begins (Some text) e = words_of_begins text.now
words_behind_begins None e = cc

module _ (rest : Option (Bor (List ℕ))) (more : is_some rest ≡ true) where
  -- behind rotate, flush, sweep and stats there are no words
  pub alone_of_more : (line : Line) → alone line (words_behind rest) ≡ None
  alone_of_more line = rw (words_behind_begins rest more).2 refl

  -- behind the one word that begin, view, commit, drop, plan, install, batch and move want, there is none
  pub ident_alone_of_more : (name : List ℕ) → ident_alone (name ∷ words_behind rest) ≡ None
  ident_alone_of_more name = rw (words_behind_begins rest more).2 refl

  -- nor behind the two that get and del want
  pub ident_and_key_of_more : (name key : List ℕ) → ident_and_key (name ∷ key ∷ words_behind rest) ≡ None
  ident_and_key_of_more name key = rw (words_behind_begins rest more).2 refl

  -- nor behind the one that keep wants
  pub keep_of_more : (versions : List ℕ) → keep_of (versions ∷ words_behind rest) ≡ None
  keep_of_more versions = rw (words_behind_begins rest more).2 refl

  -- nor behind the two that pick and drain want
  pub ident_and_number_of_more : (most : ℕ) (name number : List ℕ) → ident_and_number most (name ∷ number ∷ words_behind rest) ≡ None
  ident_and_number_of_more most name number = rw (words_behind_begins rest more).2 refl

  -- nor behind the three that getat wants
  pub get_at_of_more : (name key number : List ℕ) → get_at_of (name ∷ key ∷ number ∷ words_behind rest) ≡ None
  get_at_of_more name key number = rw (words_behind_begins rest more).2 refl

  -- nor behind the three that set wants
  pub set_of_more : (name key value : List ℕ) → set_of (name ∷ key ∷ value ∷ words_behind rest) ≡ None
  set_of_more name key value = rw (words_behind_begins rest more).2 refl

  -- nor behind the four that setb and the scans want
  pub with_number_of_more : (most : ℕ) (name first second number : List ℕ)
      → with_number most (name ∷ first ∷ second ∷ number ∷ words_behind rest) ≡ None
  with_number_of_more most name first second number = rw (words_behind_begins rest more).2 refl
