-- Items one behind the other, as they are read from the left.
use Rattle.std.proofs.Common.{◌≡◌, ℕ, ◌+◌, ◌<◌, ◌≤◌, List, [], ◌∷◌, ◌++◌, length, refl, sym, ap, ◌∙◌, append_assoc, length-append, arith}
use Rattle.std.specs.List.{AllByRecursion}
use Rattle.std.proofs.lemmas.List.{append-nil}
use Rattle.vl_seglog.specs.Series.{IsSeries, Spelling, series_bytes}

module _ {Item : Type 0} (S : Spelling Item) where
  -- so many items were read, and the rest is still to be read
  pub record SoFar (bytes : List ℕ) (count : ℕ) (read : List Item) (rest : List ℕ) : Type 0 where
    pub counted : length read ≡ count
    pub lawful : AllByRecursion S.lawful read
    pub spelled : bytes ≡ series_bytes S read ++ rest

  -- no item stands at the front
  abbrev pub NoItem : List ℕ → Type 0
  NoItem bytes = (item : Item) (rest : List ℕ) → S.lawful item → bytes ≡ S.bytes item ++ rest → ⊥

  series_bytes-append : (a b : List Item) → series_bytes S (a ++ b) ≡ series_bytes S a ++ series_bytes S b
  series_bytes-append [] b = refl
  series_bytes-append (x ∷ a) b = ap (λ (r : List ℕ). S.bytes x ++ r) (series_bytes-append a b)
      ∙ sym (append_assoc (S.bytes x) (series_bytes S a) (series_bytes S b))

  lawful-append : (a b : List Item) → AllByRecursion S.lawful a → AllByRecursion S.lawful b → AllByRecursion S.lawful (a ++ b)
  lawful-append [] b p q = q
  lawful-append (x ∷ a) b p q = (p.0, lawful-append a b p.1 q)

  pub read_one : (bytes : List ℕ) (count : ℕ) (read : List Item) (rest : List ℕ) (item : Item) (after : List ℕ)
      → SoFar bytes count read rest → S.lawful item → rest ≡ S.bytes item ++ after
      → SoFar bytes (count + 1) (read ++ item ∷ []) after
  read_one bytes count read rest item after so_far lawful e =
      let one : series_bytes S (item ∷ []) ≡ S.bytes item = append-nil (S.bytes item) in
      record {
        counted = length-append read (item ∷ []) ∙ ap (λ (n : ℕ). n + 1) so_far.counted;
        lawful = lawful-append read (item ∷ []) so_far.lawful (lawful, tt);
        spelled = so_far.spelled ∙ ap (λ (r : List ℕ). series_bytes S read ++ r) e
            ∙ sym (append_assoc (series_bytes S read) (S.bytes item) after)
            ∙ ap (λ (r : List ℕ). (series_bytes S read ++ r) ++ after) (sym one)
            ∙ ap (λ (r : List ℕ). r ++ after) (sym (series_bytes-append read (item ∷ [])));
      }

  -- what a series has behind the items that were read
  record Behind (read items : List Item) (rest : List ℕ) : Type 0 where
    later : List Item
    split : items ≡ read ++ later
    lawful : AllByRecursion S.lawful later
    spelled : rest ≡ series_bytes S later

  behind : (read items : List Item) (rest : List ℕ) → AllByRecursion S.lawful read → AllByRecursion S.lawful items
      → length read ≤ length items → series_bytes S read ++ rest ≡ series_bytes S items → Behind read items rest
  behind [] items rest p q le e = record { later = items; split = refl; lawful = q; spelled = e }
  behind (r ∷ read) [] rest p q le e = absurd (omega arith)
  behind (r ∷ read) (x ∷ items) rest p q le e =
      let same = S.one r x (series_bytes S read ++ rest) (series_bytes S items) p.0 q.0
      (sym (append_assoc (S.bytes r) (series_bytes S read) rest) ∙ e) in
      let b = behind read items rest p.1 q.1 (omega arith) same.1 in
      record {
        later = b.later;
        split = ap (λ (y : Item). y ∷ items) (sym same.0)
            ∙ ap (λ (ys : List Item). r ∷ ys) b.split;
        lawful = b.lawful;
        spelled = b.spelled;
      }

  behind_so_far : (bytes : List ℕ) (count total : ℕ) (read items : List Item) (rest : List ℕ)
      → SoFar bytes count read rest → count ≤ total → IsSeries S bytes total items → Behind read items rest
  behind_so_far bytes count total read items rest so_far le series =
      behind read items rest so_far.lawful series.lawful (omega (arith, so_far.counted, series.counted))
      (sym so_far.spelled ∙ series.spelled)

  none_later : (later : List Item) (rest : List ℕ) → 0 < length later → AllByRecursion S.lawful later
      → rest ≡ series_bytes S later → NoItem rest → ⊥
  none_later [] rest some lawful e none = omega arith
  none_later (x ∷ later) rest some lawful e none = none x (series_bytes S later) lawful.0 e

  -- an item is missing
  pub no_series_cut : (bytes : List ℕ) (count total : ℕ) (read : List Item) (rest : List ℕ)
      → SoFar bytes count read rest → count < total → NoItem rest → (items : List Item) → IsSeries S bytes total items → ⊥
  no_series_cut bytes count total read rest so_far lt none items series =
      let b = behind_so_far bytes count total read items rest so_far (omega arith) series in
      none_later b.later rest (omega
      (arith, so_far.counted, series.counted, ap length b.split, length-append read b.later)) b.lawful b.spelled none

  none_left : (later : List Item) (rest : List ℕ) → length later ≡ 0 → rest ≡ series_bytes S later → length rest ≡ 0
  none_left [] rest none e = ap length e
  none_left (x ∷ later) rest none e = absurd (omega arith)

  -- bytes are left over
  pub no_series_over : (bytes : List ℕ) (count total : ℕ) (read : List Item) (rest : List ℕ)
      → SoFar bytes count read rest → count ≡ total → 0 < length rest → (items : List Item) → IsSeries S bytes total items → ⊥
  no_series_over bytes count total read rest so_far eq some items series =
      let b = behind_so_far bytes count total read items rest so_far (omega arith) series in
      omega (
        arith,
        none_left b.later rest
            (omega (arith, so_far.counted, series.counted, ap length b.split, length-append read b.later)) b.spelled,
      )

  pub series_done : (bytes : List ℕ) (count total : ℕ) (read : List Item) (rest : List ℕ) → SoFar bytes count read rest
      → count ≡ total → rest ≡ [] → IsSeries S bytes total read
  series_done bytes count total read rest so_far eq empty =
      record {
        counted = so_far.counted ∙ eq;
        lawful = so_far.lawful;
        spelled = so_far.spelled
            ∙ ap (λ (r : List ℕ). series_bytes S read ++ r) empty ∙ append-nil (series_bytes S read);
      }
