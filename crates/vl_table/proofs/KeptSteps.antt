-- Blocks that are kept stay so, whichever comes to the front.
use Rattle.std.specs.Prelude.{◌≡◌, ◌==◌, ◌&&◌, ◌||◌, ◌+◌, ◌<◌, ◌≤◌, ℕ, zero, suc, Bool, true, false, cond, List, []}
use Rattle.std.specs.Prelude.{◌∷◌, ◌++◌, Option, None, Some, Result, Ok, Err, OnOk, OnErr, drop, get_or, length}
use Rattle.std.specs.Prelude.{slice_set, take}
use Rattle.std.specs.List.{AllByRecursion}
use Rattle.std.proofs.Common.{refl, sym, ap, subst, ◌∙◌, append_assoc, append-nil, arith, drop_of_length-le}
use Rattle.std.proofs.lemmas.List.{drop_more, take_all, take-append-drop}
use Rattle.std.proofs.lemmas.Bool.Decides.{nat_tests}
use Rattle.vl_model.specs.declared.entry.Entry.{Entry}
use Rattle.vl_table.specs.Answers.{Answers}
use Rattle.vl_table.specs.Kept.{Files, HasBlock, HasFrame, IsKept, IsMissing, has_block, is_same_block}
use Rattle.vl_table.specs.KeptBlocks.{AreKept}
use Rattle.vl_table.specs.Used.{brought, is_among}
use Rattle.vl_table.specs.declared.block_reader.BlockReader.{BlockReader}
use Rattle.vl_disk.specs.declared.read_fault.ReadFault.{ReadFault}
use Rattle.vl_table.specs.declared.slot.BlockId.{BlockId}
use Rattle.vl_table.specs.declared.slot.Slot.{Slot}

-- ---- which block a slot has

same_test : (m n : ℕ) (b : Bool) → ((m == n) && b) ≡ true → (m ≡ n) × (b ≡ true)
same_test m n true is = (same_number m n is, refl)
  where
    same_number : (m n : ℕ) → ((m == n) && true) ≡ true → m ≡ n
    same_number m n is = grind (arith, nat_tests)
same_test m n false is = absurd (none (m == n) is)
  where
    none : (t : Bool) → (t && false) ≡ true → ⊥
    none true is = cc
    none false is = cc

last_test : (m n : ℕ) → (m == n) ≡ true → m ≡ n
last_test m n is = grind (arith, nat_tests)

same_block : (a b : BlockId) → is_same_block a b ≡ true → a ≡ b
same_block a b is =
    let one = and_parts ((a.format == b.format) && (a.number == b.number) && (a.place == b.place)) (a.length == b.length) is in
    let two = and_parts ((a.format == b.format) && (a.number == b.number)) (a.place == b.place) one.0 in
    let three = and_parts (a.format == b.format) (a.number == b.number) two.0 in
    let format = last_test a.format b.format three.0 in
    let number = last_test a.number b.number three.1 in
    let place = last_test a.place b.place two.1 in
    let size = last_test a.length b.length one.1 in
    λ k. record { format = format k; number = number k; place = place k; length = size k }
  where
    and_parts : (s t : Bool) → (s && t) ≡ true → (s ≡ true) × (t ≡ true)
    and_parts true true is = (refl, refl)
    and_parts true false is = absurd cc
    and_parts false t is = absurd cc

pub block_is : (id : BlockId) (slot : Slot) → has_block id slot ≡ true → slot.block ≡ Some id
block_is id slot is = by slot.block is
  where
    by : (b : Option BlockId) → (elim b as (λ _. Bool) [ None ↦ false | Some x ↦ is_same_block x id ]) ≡ true → b ≡ Some id
    by None is = absurd cc
    by (Some b) is = ap Some (same_block b id is)

-- ---- what holds of all slots

pub brought-all : (P : Slot → Type 0) (id : BlockId) (front : Slot) (others : List Slot) → P front → AllByRecursion P others
    → P (brought id front others).0 × AllByRecursion P (brought id front others).1
brought-all P id front [] here all = (here, tt)
brought-all P id front (slot ∷ slots) here all = by (has_block id front) (brought-all P id slot slots all.0 all.1)
  where
    by : (t : Bool) → P (brought id slot slots).0 × AllByRecursion P (brought id slot slots).1
        → P (cond {A = Slot × List Slot} t (front, slot ∷ slots) ((brought id slot slots).0, front ∷ (brought id slot slots).1)).0
        × AllByRecursion P (cond {A = Slot × List Slot} t (front, slot ∷ slots)
        ((brought id slot slots).0, front ∷ (brought id slot slots).1)).1
    by true rest = (here, all)
    by false rest = (rest.0, (here, rest.1))

-- where one has the block the front has it then
pub brought-has : (id : BlockId) (front : Slot) (others : List Slot) → is_among id (front ∷ others) ≡ true
    → has_block id (brought id front others).0 ≡ true
brought-has id front [] is = or_false (has_block id front) is
  where
    or_false : (b : Bool) → (b || false) ≡ true → b ≡ true
    or_false true is = refl
    or_false false is = is
brought-has id front (slot ∷ slots) is = by (has_block id front) refl is (brought-has id slot slots)
  where
    by : (t : Bool) → has_block id front ≡ t → (t || is_among id (slot ∷ slots)) ≡ true
        → (is_among id (slot ∷ slots) ≡ true → has_block id (brought id slot slots).0 ≡ true)
        → has_block id (cond {A = Slot × List Slot} t (front, slot ∷ slots)
        ((brought id slot slots).0, front ∷ (brought id slot slots).1)).0 ≡ true
    by true here is rest = here
    by false here is rest = rest is

-- ---- slot by slot

-- so far the slots before a position have moved back, and from there on it goes as from the first on
abbrev pub Bringing : BlockId → (front : Slot) → (others : List Slot) → Slot → List Slot → ℕ → Type 0
Bringing id front others now slots i =
    ◌≡◌ {A = Slot × List Slot} (brought id front others)
    ((brought id now (drop i slots)).0, take i slots ++ (brought id now (drop i slots)).1)

abbrev joined_to : List Slot → Slot × List Slot → Slot × List Slot
joined_to front r = (r.0, front ++ r.1)

abbrev paired : Slot → List Slot → Slot × List Slot
paired slot slots = (slot, slots)

set-take : (slots : List Slot) (i : ℕ) (x : Slot) → i < length slots → take (i + 1) (slice_set slots i x) ≡ take i slots ++ x ∷ []
set-take [] i x within = absurd (omega arith)
set-take (s ∷ slots) zero x within = refl
set-take (s ∷ slots) (suc i) x within =
    ap (λ (n : ℕ). take n (s ∷ slice_set slots i x)) (one_more i) ∙ ap (λ (l : List Slot). s ∷ l) (set-take slots i x (omega arith))
  where
    one_more : (n : ℕ) → suc n + 1 ≡ suc (n + 1)
    one_more n = omega arith

set-drop : (slots : List Slot) (i : ℕ) (x : Slot) → i < length slots → drop (i + 1) (slice_set slots i x) ≡ drop (i + 1) slots
set-drop [] i x within = absurd (omega arith)
set-drop (s ∷ slots) zero x within = refl
set-drop (s ∷ slots) (suc i) x within =
    ap (λ (n : ℕ). drop n (s ∷ slice_set slots i x)) (one_more i) ∙ set-drop slots i x (omega arith)
    ∙ sym (ap (λ (n : ℕ). drop n (s ∷ slots)) (one_more i))
  where
    one_more : (n : ℕ) → suc n + 1 ≡ suc (n + 1)
    one_more n = omega arith

pub brings_on : (id : BlockId) (front : Slot) (others : List Slot) (now : Slot) (slots : List Slot) (i : ℕ)
    (next d : Slot) (new : List Slot) → i < length slots
    → has_block id now ≡ false → next ≡ get_or slots i d → new ≡ slice_set slots i now → Bringing id front others now slots i
    → Bringing id front others next new (i + 1)
brings_on id front others now slots i next d new within has is put so = so
    ∙ ap (λ (l : List Slot). joined_to (take i slots) (brought id now l)) split ∙ swapped ∙ sym behind
  where
    split : drop i slots ≡ next ∷ drop (i + 1) slots
    split = drop_more slots i d within ∙ ap (λ (s : Slot). s ∷ drop (i + 1) slots) (sym is)

    by : (t : Bool) → t ≡ false
        → joined_to (take i slots) (cond {A = Slot × List Slot} t (now, next ∷ drop (i + 1) slots)
        ((brought id next (drop (i + 1) slots)).0, now ∷ (brought id next (drop (i + 1) slots)).1))
        ≡ joined_to (take i slots ++ now ∷ []) (brought id next (drop (i + 1) slots))
    by true is_false = absurd cc
    by false is_false =
        ap (paired (brought id next (drop (i + 1) slots)).0)
        (sym (append_assoc (take i slots) (now ∷ []) (brought id next (drop (i + 1) slots)).1))

    swapped : joined_to (take i slots) (brought id now (next ∷ drop (i + 1) slots)) ≡ joined_to
        (take i slots ++ now ∷ []) (brought id next (drop (i + 1) slots))
    swapped = by (has_block id now) has

    behind : joined_to (take (i + 1) new) (brought id next (drop (i + 1) new)) ≡ joined_to (take i slots ++ now ∷ [])
        (brought id next (drop (i + 1) slots))
    behind =
        ap (λ (l : List Slot). joined_to (take (i + 1) new) (brought id next l)) (ap (drop (i + 1)) put ∙ set-drop slots i now within)
        ∙ ap (λ (l : List Slot). joined_to l (brought id next (drop (i + 1) slots))) (ap (take (i + 1)) put ∙ set-take slots i now within)

-- all slots were passed, or the front has the block
pub brings_all : (id : BlockId) (front : Slot) (others : List Slot) (now : Slot) (slots : List Slot) (i : ℕ)
    → length slots ≤ i → Bringing id front others now slots i
    → brought id front others ≡ (now, slots)
brings_all id front others now slots i past so =
    so ∙ ap (λ (l : List Slot). joined_to (take i slots) (brought id now l)) (drop_of_length-le slots past)
    ∙ ap (paired now) (append-nil (take i slots) ∙ take_all i slots past)

pub brings_here : (id : BlockId) (front : Slot) (others : List Slot) (now : Slot) (slots : List Slot) (i : ℕ)
    → has_block id now ≡ true → Bringing id front others now slots i
    → brought id front others ≡ (now, slots)
brings_here id front others now slots i has so = so ∙ by (drop i slots) ∙ ap (paired now) (take-append-drop i slots)
  where
    test : (slot : Slot) (rest : List Slot) (t : Bool) → t ≡ true
        → joined_to (take i slots)
        (cond {A = Slot × List Slot} t (now, slot ∷ rest) ((brought id slot rest).0, now ∷ (brought id slot rest).1))
        ≡ paired now (take i slots ++ slot ∷ rest)
    test slot rest true is = refl
    test slot rest false is = absurd cc

    by : (l : List Slot) → joined_to (take i slots) (brought id now l) ≡ paired now (take i slots ++ l)
    by [] = refl
    by (slot ∷ rest) = test slot rest (has_block id now) has

-- ---- new slots

pub empty-kept : (files : Files) (slot : Slot) → slot.block ≡ None → IsKept files slot
empty-kept files slot empty = λ id is. absurd cc

pub kept-push : (files : Files) (slots : List Slot) (slot : Slot) → AllByRecursion (IsKept files) slots → IsKept files slot
    → AllByRecursion (IsKept files) (slots ++ slot ∷ [])
kept-push files [] slot all one = (one, tt)
kept-push files (s ∷ slots) slot all one = (all.0, kept-push files slots slot all.1 one)

-- ---- what is kept once a block was brought to the front

module _ {R : Type 0} (files : Files) (id : BlockId) (old new : BlockReader R) (front : Slot) (others : List Slot)
    (kept : AreKept files old) (slots : brought id old.front old.others.items ≡ (front, others)) where
  pub front-kept : IsKept files front
  front-kept = subst (λ (r : Slot × List Slot). IsKept files r.0) slots
      (brought-all (IsKept files) id old.front old.others.items kept.front kept.others).0

  pub others-kept : AllByRecursion (IsKept files) others
  others-kept =
      subst (λ (r : Slot × List Slot). AllByRecursion (IsKept files) r.1) slots
      (brought-all (IsKept files) id old.front old.others.items kept.front kept.others).1

  -- where the front is kept all are
  pub still-kept : IsKept files new.front → new.others.items ≡ others → AreKept files new
  still-kept is same = record { front = is; others = subst (AllByRecursion (IsKept files)) (sym same) others-kept }

-- ---- a block that was read

-- what was read is in the slot
pub slot_has : (slot : Slot) (id : BlockId) (bytes frame starts : List ℕ) (count : ℕ) (es : List Entry)
    → slot.block ≡ Some id → slot.frame.items ≡ frame
    → slot.starts.items ≡ starts → slot.count ≡ count → HasFrame id bytes (take id.length frame) (take count starts) es
    → HasBlock slot id bytes es
slot_has slot id bytes frame starts count es block frames all counts has = record {
  block = block;
  has = subst (λ (f : List ℕ). HasFrame id bytes (take id.length f) (take slot.count slot.starts.items) es) (sym frames)
      (subst (λ (l : List ℕ). HasFrame id bytes (take id.length frame) (take slot.count l) es) (sym all)
      (subst (λ (n : ℕ). HasFrame id bytes (take id.length frame) (take n starts) es) (sym counts) has));
}

-- a slot is kept after a reading, whatever that answered
pub loaded-kept : (files : Files) (before now : ℕ) (told : Option (List ℕ)) (id : BlockId) (slot : Slot) (r : Result (Unit {0}) ReadFault)
    → OnOk r (slot.block ≡ Some id) → OnErr r (slot.block ≡ None) → files id.number ≡ told
    → Answers before now id.number told (λ bytes (done : Unit {0}). (es : List Entry) × HasBlock slot id bytes es) (IsMissing id) r
    → IsKept files slot
loaded-kept files before now told id slot (Ok done) is empty file answers = λ other block bytes stands.
    let same : id ≡ other = same_some id other (sym is ∙ block) in
    let has = answers.answer bytes (sym file ∙ ap (λ (i : BlockId). files i.number) same ∙ stands) in
    (has.0, subst (λ (i : BlockId). HasBlock slot i bytes has.0) same has.1)
  where
    same_some : (a b : BlockId) → Some a ≡ Some b → a ≡ b
    same_some a b e = cc
loaded-kept files before now told id slot (Err e) is empty file answers = λ other block bytes stands. absurd
    (none other (sym empty ∙ block))
  where
    none : (b : BlockId) → None ≡ Some b → ⊥
    none b e = cc

-- one element, whatever is read past the end
pub one_default : {X : Type 0} (xs : List X) (i : ℕ) (d e : X) → i < length xs → get_or xs i d ≡ get_or xs i e
one_default [] i d e within = absurd (omega arith)
one_default (x ∷ xs) zero d e within = refl
one_default (x ∷ xs) (suc i) d e within = one_default xs i d e (omega arith)

pub place_at : {X : Type 0} (xs : List X) (i : ℕ) → i < length xs → (x : X) × (x ≡ get_or xs i x)
place_at [] i within = absurd (omega arith)
place_at (x ∷ xs) zero within = (x, refl)
place_at (x ∷ xs) (suc i) within = place_at xs i (omega arith)
