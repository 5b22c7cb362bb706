-- Pointers to items one behind the other are found from the left.
use Rattle.std.proofs.Common.{◌≡◌, ℕ, suc, ◌+◌, ◌<◌, ◌≤◌, ◌^◌, List, [], ◌∷◌, ◌++◌, length, drop, get_or, refl, sym}
use Rattle.std.proofs.Common.{ap, subst, ◌∙◌, append_assoc, length-append, arith}
use Rattle.std.proofs.Math.Seq.{drop-cons}
use Rattle.std.proofs.lemmas.List.{append-nil, drop_all}
use Rattle.vl_model.specs.Frames.{moved_length, record_length}
use Rattle.vl_model.specs.declared.change.Change.{Change}
use Rattle.vl_model.specs.declared.change.Change.TheVariants.{Set}
use Rattle.vl_model.specs.declared.log_frame.Moved.{Moved}
use Rattle.vl_model.specs.declared.pointer.Pointer.{Pointer}
use Rattle.vl_seglog.specs.laws.RecordLaws.{length-record_bytes}
use Rattle.vl_seglog.specs.Commit.{records_spelling}
use Rattle.vl_seglog.specs.Relocation.{moves_spelling}
use Rattle.vl_seglog.specs.laws.MoveLaws.{length-moved_bytes}
use Rattle.vl_seglog.specs.Series.{Spelling, series_bytes}
use Rattle.vl_seglog.specs.Stored.{moved_pointers, pointer_at, pointers_from}

-- how items lie one behind the other: each has a size, and a pointer that its place gives
pub record Lying (Item : Type 0) : Type 1 where
  pub spelling : Spelling Item
  pub size : Item → ℕ
  pub sized : (item : Item) → length (spelling.bytes item) ≡ size item
  pub pointer : ℕ → Item → Pointer
  pub from : ℕ → List Item → List Pointer
  pub none : (place : ℕ) → from place [] ≡ []
  pub more : (place : ℕ) (item : Item) (items : List Item) → from place (item ∷ items) ≡ pointer place item ∷ from (place + size item) items

abbrev pub records_lying : ℕ → ℕ → Lying (List ℕ × Change)
records_lying format log = record {
  spelling = records_spelling format;
  size = λ w. record_length format w.0 w.1;
  sized = λ w. length-record_bytes format w.0 w.1;
  pointer = λ place w. pointer_at format log place w.0 w.1;
  from = pointers_from format log;
  none = λ place. refl;
  more = λ place w ws. refl;
}

abbrev pub moves_lying : ℕ → ℕ → Lying Moved
moves_lying format log = record {
  spelling = moves_spelling format;
  size = moved_length format;
  sized = length-moved_bytes format;
  pointer = λ place m. pointer_at format log (place + 8) m.key (Set m.value);
  from = moved_pointers format log;
  none = λ place. refl;
  more = λ place m ms. refl;
}

module _ {Item : Type 0} (L : Lying Item) where
  -- the pointers to the items that are left go behind those that were found
  pub record UnderWay (place : ℕ) (found all : List Pointer) (left : List Item) : Type 0 where
    pub so_far : found ++ L.from place left ≡ all
    pub short : length (series_bytes L.spelling left) < 2 ^ 32
    pub fits : place + length (series_bytes L.spelling left) < 2 ^ 64

  one_more : (place : ℕ) (found all : List Pointer) (x : Item) (left : List Item) → UnderWay place found all (x ∷ left)
      → UnderWay (place + L.size x) (found ++ L.pointer place x ∷ []) all left
  one_more place found all x left so_far =
      let long = length-append (L.spelling.bytes x) (series_bytes L.spelling left) in
      record {
        so_far = append_assoc found (L.pointer place x ∷ []) (L.from (place + L.size x) left)
            ∙ ap (λ (ps : List Pointer). found ++ ps) (sym (L.more place x left)) ∙ so_far.so_far;
        short = omega (arith, so_far.short, long);
        fits = omega (arith, so_far.fits, long, L.sized x);
      }

  -- the first that is left
  here : (xs : List Item) (i : ℕ) (x : Item) → i < length xs → x ≡ get_or xs i x → drop i xs ≡ x ∷ drop (i + 1) xs
  here xs i x lt is =
      let more : i + 1 ≡ suc i = omega arith in
      rw more (drop-cons xs i x lt ∙ ap (λ (y : Item). y ∷ drop (suc i) xs) (sym is))

  module _ (place : ℕ) (found all : List Pointer) (xs : List Item) (i : ℕ) (x : Item) (lt : i < length xs)
      (is : x ≡ get_or xs i x) (so_far : UnderWay place found all (drop i xs)) where
    first : UnderWay place found all (x ∷ drop (i + 1) xs)
    first = subst (λ (left : List Item). UnderWay place found all left) (here xs i x lt is) so_far

    pub next : UnderWay (place + L.size x) (found ++ L.pointer place x ∷ []) all (drop (i + 1) xs)
    next = one_more place found all x (drop (i + 1) xs) first

    -- its size, and the place behind it
    pub next_short : L.size x < 2 ^ 32
    next_short = omega (arith, first.short, length-append (L.spelling.bytes x) (series_bytes L.spelling (drop (i + 1) xs)), L.sized x)

    pub next_fits : place + L.size x < 2 ^ 64
    next_fits = omega (arith, next.fits)

  -- when none is left, they are the pointers
  pub all_found : (place : ℕ) (found all : List Pointer) (xs : List Item) (i : ℕ) → length xs ≤ i
      → UnderWay place found all (drop i xs) → found ≡ all
  all_found place found all xs i le so_far =
      let none : drop i xs ≡ [] = drop_all i xs le in
      sym (append-nil found) ∙ ap (λ (ps : List Pointer). found ++ ps) (sym (L.none place))
      ∙ ap (λ (left : List Item). found ++ L.from place left) (sym none) ∙ so_far.so_far
