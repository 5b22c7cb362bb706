-- A file of frames, of whatever grammar, to which one more was handed over: what a crash leaves of it.
use Rattle.std.specs.Prelude.{◌≡◌, ◌⊎◌, ◌≤◌, ℕ, ◌+◌, ◌-◌, List, [], ◌∷◌, ◌++◌, length, take, drop, refl, Any, slice_index_or}
use Rattle.std.specs.List.{AllByRecursion}
use Rattle.std.proofs.Common.{sym, ap, subst, ◌∙◌, arith, append_assoc, length-append, inl, inr, ⊎_elim}
use Rattle.std.proofs.lemmas.List.{drop_all, drop_at, length-take, take-append-drop, take_at}
use Rattle.vl_disk.specs.Chance.{HasOnlyHandedOver, StandsIn, WasHandedOver, torn_from}
use Rattle.vl_disk.specs.Crash.{Agrees}
use Rattle.vl_disk.specs.DiskState.{File, lengthened, settled}
use Rattle.vl_frame.specs.Begins.{SpellsAt}
use Rattle.vl_frame.specs.laws.RunLaws.{frame_is_some, one_front, reads_behind, reads_more, reads_whole, there_or_not}
use Rattle.vl_frame.specs.Runs.{Grammar, HasFrame, ReadsAs, StandsAt, StandsNone, item_frame, run_bytes}

one_due : {X : Type 0} (P : X → Type 0) (x : X) → Any P (x ∷ []) → P x
one_due P x (n, y, less, is, holds) =
    let first : n ≡ 0 = omega (arith, less) in
    subst P (sym (subst (λ (k : ℕ). slice_index_or (x ∷ []) k y ≡ y) first is)) holds

module _ {Item : Type 0} (G : Grammar Item) (number : ℕ) (header : List ℕ) where
  -- a header, and behind it these frames
  abbrev pub whole_file : List Item → List ℕ
  whole_file items = header ++ run_bytes G number 16 items

  -- where they end
  abbrev pub end_of : List Item → ℕ
  end_of items = 16 + length (run_bytes G number 16 items)

  -- the bytes have the header, and behind it hold these frames
  pub record SaysItems (bytes : List ℕ) (items : List Item) : Type 0 where
    pub front : take 16 bytes ≡ header
    pub reads : ReadsAs G number 16 (drop 16 bytes) items

  -- the frame of an item behind these
  abbrev pub frame_behind : List Item → Item → List ℕ
  frame_behind items f = item_frame G number (end_of items) f

  -- the durable file of some items, to which one more was handed over, and which took so many bytes of it
  abbrev pub torn_file : List Item → Item → (taken : ℕ) → File
  torn_file items f taken = lengthened (frame_behind items f) taken (settled (whole_file items))

  module _ (sized : length header ≡ 16) where
    pub length-whole : (items : List Item) → length (whole_file items) ≡ end_of items
    length-whole items = omega (arith, length-append header (run_bytes G number 16 items), sized)

    says_by : (bytes tail : List ℕ) (items : List Item) → bytes ≡ header ++ tail → ReadsAs G number 16 tail items → SaysItems bytes items
    says_by bytes tail items parts reads = record {
      front = ap (take 16) parts ∙ take_at header tail 16 sized;
      reads = subst (λ (b : List ℕ). ReadsAs G number 16 b items) (sym (ap (drop 16) parts ∙ drop_at header tail 16 sized)) reads;
    }

    -- a file as it is written says its items
    pub says_written : (items : List Item) → AllByRecursion (HasFrame G) items → SaysItems (whole_file items) items
    says_written items have = says_by (whole_file items) (run_bytes G number 16 items) items refl (reads_whole G number 16 items have)

    module _ (frames : List Item) (f : Item) (has : HasFrame G f) (taken : ℕ) where
      abbrev end : ℕ
      end = end_of frames

      abbrev log : List ℕ
      log = whole_file frames

      abbrev whole : List ℕ
      whole = frame_behind frames f

      abbrev file : File
      file = torn_file frames f taken

      abbrev frame_of : Item → List ℕ
      frame_of g = item_frame G number end g

      torn_at_end : torn_from file ≡ end
      torn_at_end = omega (arith, length-whole frames)

      handed_part : (place : ℕ) (some : List ℕ) → WasHandedOver file place some
          → take (length some) (drop (place - length log) whole) ≡ some
      handed_part place some handed =
          (one_due (StandsIn place some) (record { place = length log; bytes = whole }) handed).bytes_are

      same_item : (at : ℕ) (bytes : List ℕ) (g : Item) (rest : List ℕ) → StandsAt G number at bytes g rest
          → take (length (frame_of g)) whole ≡ frame_of g → length (frame_of g) ≡ length whole
      same_item at bytes g rest stands front =
          let same : g ≡ f = one_front G number end f g has (record { lawful = stands.lawful; short = stands.short }) front in
          ap (λ (x : Item). length (frame_of x)) same

      module _ (bytes tail : List ℕ) (parts : bytes ≡ log ++ tail) (only : HasOnlyHandedOver file (SpellsAt G number bytes)) where
        behind_log : drop end bytes ≡ tail
        behind_log = ap (drop end) parts ∙ drop_at log tail end (length-whole frames)

        spelled_here : (g : Item) (rest : List ℕ) → StandsAt G number end tail g rest
            → SpellsAt G number bytes (torn_from file) (frame_of g)
        spelled_here g rest stands =
            subst (λ (n : ℕ). SpellsAt G number bytes n (frame_of g)) (sym torn_at_end)
            (g, rest, subst (λ (b : List ℕ). StandsAt G number end b g rest) (sym behind_log) stands, refl)

        is_front : (g : Item) (rest : List ℕ) → StandsAt G number end tail g rest → take (length (frame_of g)) whole ≡ frame_of g
        is_front g rest stands =
            let some = frame_of g in
            let first : torn_from file - length log ≡ 0 = omega (arith, torn_at_end, length-whole frames) in
            subst (λ (n : ℕ). take (length some) (drop n whole) ≡ some) first
            (handed_part (torn_from file) some (only.first some (spelled_here g rest stands)))

        none_behind : (g : Item) (rest : List ℕ) → StandsAt G number end tail g rest
            → StandsNone G number (end + length (frame_of g)) rest
        none_behind g rest stands h more next =
            let some = frame_of g in
            let after = end + length some in
            let following = item_frame G number after h in
            let split : bytes ≡ (log ++ some) ++ rest =
            parts ∙ ap (λ (b : List ℕ). log ++ b) stands.spelled ∙ sym (append_assoc log some rest) in
            let size : length (log ++ some) ≡ after = omega (arith, length-append log some, length-whole frames) in
            let gone : drop after bytes ≡ rest = ap (drop after) split ∙ drop_at (log ++ some) rest after size in
            let spelled : SpellsAt G number bytes (torn_from file + length some) following =
            subst (λ (n : ℕ). SpellsAt G number bytes (n + length some) following) (sym torn_at_end)
            (h, more, subst (λ (b : List ℕ). StandsAt G number after b h more) (sym gone) next, refl) in
            let handed = handed_part (torn_from file + length some) following
            (only.next some following (spelled_here g rest stands) spelled) in
            let all : length some ≡ length whole = same_item end tail g rest stands (is_front g rest stands) in
            let past : length whole ≤ torn_from file + length some - length log =
            omega (arith, all, torn_at_end, length-whole frames) in
            let empty : drop (torn_from file + length some - length log) whole ≡ [] =
            drop_all (torn_from file + length some - length log) whole past in
            let nothing : take (length following) [] ≡ following =
            subst (λ (b : List ℕ). take (length following) b ≡ following) empty handed in
            let none : length following ≡ 0 = omega (arith, ap length nothing, length-take {A = ℕ} (length following) []) in
            omega (arith, none, frame_is_some G number after h)

      -- Whatever a crash leaves of it says the items before, or these and the new one.
      pub torn_says : AllByRecursion (HasFrame G) frames → (bytes : List ℕ) → Agrees file bytes
          → HasOnlyHandedOver file (SpellsAt G number bytes)
          → SaysItems bytes frames ⊎ SaysItems bytes (frames ++ f ∷ [])
      torn_says have bytes agrees only =
          let tail = drop (length log) bytes in
          let run = run_bytes G number 16 frames in
          let durable : take (length log) bytes ≡ log = agrees.durable ∙ take_at log (take taken whole) (length log) refl in
          let parts : bytes ≡ log ++ tail =
          sym (take-append-drop (length log) bytes) ∙ ap (λ (b : List ℕ). b ++ tail) durable in
          let cut : bytes ≡ header ++ (run ++ tail) = parts ∙ append_assoc header run tail in
          ⊎_elim
          (λ (none : ReadsAs G number end tail []). inl
          (says_by bytes (run ++ tail) frames cut (reads_behind G number 16 frames have tail none)))
          (λ (one : ReadsAs G number end tail (f ∷ [])). inr
          (says_by bytes (run ++ tail) (frames ++ f ∷ []) cut (reads_more G number 16 frames have tail (f ∷ []) one)))
          (there_or_not G number end f has tail (λ g rest stands.
          (is_front bytes tail parts only g rest stands, none_behind bytes tail parts only g rest stands)))
