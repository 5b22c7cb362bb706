-- What the definitions of runs of frames say: bytes hold one list of items, what they hold while items are written behind one another, and what they hold when
-- the last write was cut.
use Rattle.std.specs.Prelude.{◌≡◌, ◌⊎◌, ℕ, ◌+◌, ◌-◌, ◌<◌, ◌≤◌, List, [], ◌∷◌, ◌++◌, length, take, drop, refl, true, false, bytes_eq}
use Rattle.std.specs.List.{AllByRecursion}
use Rattle.std.proofs.Common.{sym, ap, subst, ◌∙◌, append_assoc, length-append, arith, inl, inr, ⊎_elim}
use Rattle.std.proofs.lemmas.Bool.{cases_Bool}
use Rattle.std.proofs.lemmas.Bool.Decides.{not_from_Decides}
use Rattle.std.proofs.lemmas.List.{append-nil, take_at, take-append-drop}
use Rattle.std.proofs.lemmas.Slice.Eq.{bytes_eq-Decides}
use Rattle.vl_frame.specs.Frame.{IsSpelled}
use Rattle.vl_frame.specs.laws.Laws.{length-frame_bytes, one_frame}
use Rattle.vl_frame.specs.Runs.{Grammar, HasFrame, ReadsAs, StandsAt, StandsNone, item_frame, run_bytes}

module _ {Item : Type 0} (G : Grammar Item) (number : ℕ) where
  -- A frame is not empty.
  pub frame_is_some : (at : ℕ) (item : Item) → 1 ≤ length (item_frame G number at item)
  frame_is_some at item = omega (arith, length-frame_bytes number at (G.kind item) (G.body item))

  -- ---- one reading

  -- An item stands as a frame.
  pub frame_of : (at : ℕ) (bytes : List ℕ) (item : Item) (rest : List ℕ) → StandsAt G number at bytes item rest
      → IsSpelled G.file number at bytes (G.kind item) (G.body item)
  frame_of at bytes item rest s = record { in_file = G.in_file item; short = s.short; rest = rest; spelled = s.spelled }

  -- At one place no two items stand at the front of the same bytes, and what stands behind the item is the same.
  pub one_item : (at : ℕ) (bytes : List ℕ) (a b : Item) (rest other : List ℕ) → StandsAt G number at bytes a rest
      → StandsAt G number at bytes b other → (a ≡ b) × (rest ≡ other)
  unfolding frame_of
  one_item at bytes a b rest other p q =
      let frames = one_frame G.file number at bytes (G.kind a) (G.kind b) (G.body a) (G.body b)
      (frame_of at bytes a rest p) (frame_of at bytes b other q) in
      (G.one a b p.lawful q.lawful p.short frames.0 frames.1, frames.2)

  -- Bytes hold one list of items.
  pub one_reading : (at : ℕ) (bytes : List ℕ) (items others : List Item) → ReadsAs G number at bytes items
      → ReadsAs G number at bytes others → items ≡ others
  one_reading at bytes [] [] p q = refl
  one_reading at bytes [] (b ∷ others) p q = absurd (p b q.0 q.1)
  one_reading at bytes (a ∷ items) [] p q = absurd (q a p.0 p.1)
  one_reading at bytes (a ∷ items) (b ∷ others) p q =
      let one = one_item at bytes a b p.0 q.0 p.1 q.1 in
      let tail : ReadsAs G number (at + length (item_frame G number at a)) p.0 others =
      subst (λ (x : Item). ReadsAs G number (at + length (item_frame G number at x)) p.0 others) (sym one.0)
      (subst (λ (r : List ℕ). ReadsAs G number (at + length (item_frame G number at b)) r others) (sym one.1) q.2) in
      ap (λ (x : Item). x ∷ items) one.0
      ∙ ap (λ (l : List Item). b ∷ l) (one_reading (at + length (item_frame G number at a)) p.0 items others p.2 tail)

  -- ---- one item more

  -- The run of one item more has that item's frame behind it.
  pub run_bytes-more : (at : ℕ) (items : List Item) (item : Item)
      → run_bytes G number at (items ++ item ∷ []) ≡ run_bytes G number at items ++ item_frame G number
      (at + length (run_bytes G number at items)) item
  run_bytes-more at [] item =
      let same : at ≡ at + 0 = omega arith in
      append-nil (item_frame G number at item) ∙ ap (λ (n : ℕ). item_frame G number n item) same
  run_bytes-more at (a ∷ items) item =
      let front = item_frame G number at a in
      let next = at + length front in
      let frames = run_bytes G number next items in
      let place : next + length frames ≡ at + length (front ++ frames) = omega (arith, length-append front frames) in
      ap (λ (bytes : List ℕ). front ++ bytes) (run_bytes-more next items item)
      ∙ sym (append_assoc front frames (item_frame G number (next + length frames) item))
      ∙ ap (λ (n : ℕ). (front ++ frames) ++ item_frame G number n item) place

  -- ---- what is read

  -- Behind frames that stand, what is read goes on.
  pub reads_more : (at : ℕ) (items : List Item) → AllByRecursion (HasFrame G) items
      → (tail : List ℕ) (others : List Item) → ReadsAs G number (at + length (run_bytes G number at items)) tail others
      → ReadsAs G number at (run_bytes G number at items ++ tail) (items ++ others)
  reads_more at [] have tail others reads =
      let same : at + 0 ≡ at = omega arith in
      subst (λ (n : ℕ). ReadsAs G number n tail others) same reads
  reads_more at (a ∷ items) have tail others reads =
      let front = item_frame G number at a in
      let next = at + length front in
      let frames = run_bytes G number next items in
      let place : at + length (front ++ frames) ≡ next + length frames = omega (arith, length-append front frames) in (
        frames ++ tail,
        record { lawful = have.0.lawful; short = have.0.short; spelled = append_assoc front frames tail },
        reads_more next items have.1 tail others (subst (λ (n : ℕ). ReadsAs G number n tail others) place reads),
      )

  -- Bytes behind a run at whose front nothing stands are no part of what is read.
  pub reads_behind : (at : ℕ) (items : List Item) → AllByRecursion (HasFrame G) items → (tail : List ℕ)
      → StandsNone G number (at + length (run_bytes G number at items)) tail → ReadsAs G number at (run_bytes G number at items ++ tail) items
  reads_behind at items have tail none =
      subst (λ (l : List Item). ReadsAs G number at (run_bytes G number at items ++ tail) l) (append-nil items)
      (reads_more at items have tail [] none)

  -- Where there are no bytes nothing stands.
  pub none_at_end : (at : ℕ) → StandsNone G number at []
  none_at_end at item rest s = omega (arith, ap length s.spelled, length-append (item_frame G number at item) rest, frame_is_some at item)

  -- A run holds its items.
  pub reads_whole : (at : ℕ) (items : List Item) → AllByRecursion (HasFrame G) items
      → ReadsAs G number at (run_bytes G number at items) items
  reads_whole at items have =
      subst (λ (bytes : List ℕ). ReadsAs G number at bytes items) (append-nil (run_bytes G number at items))
      (reads_behind at items have [] (none_at_end (at + length (run_bytes G number at items))))

  -- What was read comes apart into a run and a tail at whose front nothing stands.
  pub record Apart (at : ℕ) (bytes : List ℕ) (items : List Item) : Type 0 where
    pub tail : List ℕ
    pub parts : bytes ≡ run_bytes G number at items ++ tail
    pub none : StandsNone G number (at + length (run_bytes G number at items)) tail
    pub have : AllByRecursion (HasFrame G) items

  pub taken_apart : (at : ℕ) (bytes : List ℕ) (items : List Item) → ReadsAs G number at bytes items → Apart at bytes items
  taken_apart at bytes [] none =
      let same : at ≡ at + 0 = omega arith in
      record { tail = bytes; parts = refl; none = subst (λ (n : ℕ). StandsNone G number n bytes) same none; have = tt }
  taken_apart at bytes (a ∷ items) (rest, stands, reads) =
      let front = item_frame G number at a in
      let next = at + length front in
      let frames = run_bytes G number next items in
      let more = taken_apart next rest items reads in
      let place : next + length frames ≡ at + length (front ++ frames) = omega (arith, length-append front frames) in
      record {
        tail = more.tail;
        parts = stands.spelled ∙ ap (λ (b : List ℕ). front ++ b) more.parts ∙ sym (append_assoc front frames more.tail);
        none = subst (λ (n : ℕ). StandsNone G number n more.tail) place more.none;
        have = (record { lawful = stands.lawful; short = stands.short }, more.have);
      }

  -- ---- what is read behind a write that was cut

  -- A frame that begins another is the other.
  pub one_front : (at : ℕ) (a b : Item) → HasFrame G a → HasFrame G b
      → take (length (item_frame G number at b)) (item_frame G number at a) ≡ item_frame G number at b → b ≡ a
  one_front at a b p q front =
      let frame = item_frame G number at a in
      let n = length (item_frame G number at b) in
      let whole : frame ≡ item_frame G number at b ++ drop n frame = sym (take-append-drop n frame)
      ∙ ap (λ (bytes : List ℕ). bytes ++ drop n frame) front in
      (one_item at frame b a (drop n frame) [] (record { lawful = q.lawful; short = q.short; spelled = whole })
      (record { lawful = p.lawful; short = p.short; spelled = sym (append-nil frame) })).0

  -- of the frame of an item, which was being written, a frame at the front of the tail is a front, and behind it stands nothing
  module _ (at : ℕ) (item : Item) (has : HasFrame G item) (tail : List ℕ)
      (torn : (b : Item) (rest : List ℕ) → StandsAt G number at tail b rest
      → (take (length (item_frame G number at b)) (item_frame G number at item) ≡ item_frame G number at b)
      × StandsNone G number (at + length (item_frame G number at b)) rest) where
    there : take (length (item_frame G number at item)) tail ≡ item_frame G number at item → ReadsAs G number at tail (item ∷ [])
    there front =
        let n = length (item_frame G number at item) in
        let s : StandsAt G number at tail item (drop n tail) =
        record {
          lawful = has.lawful;
          short = has.short;
          spelled = sym (take-append-drop n tail)
              ∙ ap (λ (bytes : List ℕ). bytes ++ drop n tail) front;
        } in
        (drop n tail, s, (torn item (drop n tail) s).1)

    not_there : (take (length (item_frame G number at item)) tail ≡ item_frame G number at item → ⊥) → StandsNone G number at tail
    not_there apart b rest s =
        let same = one_front at item b has (record { lawful = s.lawful; short = s.short }) (torn b rest s).0 in
        let spelled : tail ≡ item_frame G number at item ++ rest = s.spelled ∙ ap (λ (x : Item). item_frame G number at x ++ rest) same in
        apart (ap (take (length (item_frame G number at item))) spelled
        ∙ take_at (item_frame G number at item) rest (length (item_frame G number at item)) refl)

    -- Then the tail holds nothing, or the item.
    pub there_or_not : ReadsAs G number at tail [] ⊎ ReadsAs G number at tail (item ∷ [])
    there_or_not =
        let front = take (length (item_frame G number at item)) tail in
        let same = bytes_eq-Decides front (item_frame G number at item) in
        ⊎_elim (λ (yes : bytes_eq front (item_frame G number at item) ≡ true). inr (there (same.0 yes)))
        (λ (other : bytes_eq front (item_frame G number at item) ≡ false). inl
        (not_there (not_from_Decides (bytes_eq front (item_frame G number at item)) same other)))
        (cases_Bool (bytes_eq front (item_frame G number at item)))

  -- ---- reading from the left

  -- What completes the items that were read is a whole reading.
  pub record UnderWay (from : ℕ) (whole : List ℕ) (items : List Item) (rest : List ℕ) : Type 0 where
    pub within : length rest ≤ length whole
    pub completes : (others : List Item) → ReadsAs G number (from + (length whole - length rest)) rest others
        → ReadsAs G number from whole (items ++ others)

  pub begins : (from : ℕ) (whole : List ℕ) → UnderWay from whole [] whole
  begins from whole = record {
    within = omega arith;
    completes = λ others reads. let first : from + (length whole - length whole) ≡ from = omega arith in subst
        (λ (n : ℕ). ReadsAs G number n whole others) first reads;
  }

  -- A frame takes bytes away.
  pub shorter : (at : ℕ) (rest : List ℕ) (item : Item) (after : List ℕ) → StandsAt G number at rest item after
      → (length rest ≡ length (item_frame G number at item) + length after) × (length after < length rest)
  shorter at rest item after s =
      let whole : length rest ≡ length (item_frame G number at item) + length after = ap length s.spelled
      ∙ length-append (item_frame G number at item) after in
      (whole, omega (arith, whole, frame_is_some at item))

  pub goes_on : (from : ℕ) (whole : List ℕ) (items : List Item) (rest : List ℕ) (at : ℕ) (item : Item) (after : List ℕ)
      → UnderWay from whole items rest → at ≡ from + (length whole - length rest) → StandsAt G number at rest item after
      → UnderWay from whole (items ++ item ∷ []) after
  goes_on from whole items rest at item after so_far place s =
      let less = shorter at rest item after s in
      let within : length after ≤ length whole = omega (arith, less.1, so_far.within) in
      record {
        within = within;
        completes = λ others reads.
            let next : from + (length whole - length after) ≡ at + length (item_frame G number at item) = omega
            (arith, less.0, so_far.within, place) in
            let both : ReadsAs G number at rest
            (item ∷ others) = (after, s, subst (λ (n : ℕ). ReadsAs G number n after others) next reads) in
            subst (λ (l : List Item). ReadsAs G number from whole l) (sym (append_assoc items (item ∷ []) others))
            (so_far.completes (item ∷ others) (subst (λ (n : ℕ). ReadsAs G number n rest (item ∷ others)) place both));
      }

  pub ends : (from : ℕ) (whole : List ℕ) (items : List Item) (rest : List ℕ) (at : ℕ) → UnderWay from whole items rest
      → at ≡ from + (length whole - length rest) → StandsNone G number at rest → ReadsAs G number from whole items
  ends from whole items rest at so_far place none =
      subst (λ (l : List Item). ReadsAs G number from whole l) (append-nil items)
      (so_far.completes [] (subst (λ (n : ℕ). ReadsAs G number n rest []) place none))
