-- The blocks of a table in their order, one more at a time.
use Rattle.std.specs.Prelude.{◌≡◌, ◌+◌, ◌-◌, ◌<◌, ◌≤◌, ℕ, zero, suc, true, false, List, [], ◌∷◌, ◌++◌, drop, get_or}
use Rattle.std.specs.Prelude.{length, take}
use Rattle.std.specs.Prelude.{Option, Some, None, Err}
use Rattle.std.specs.List.{AllZip}
use Rattle.std.specs.Option.{ForSome}
use Rattle.std.specs.Ordering.{is_lt}
use Rattle.std.specs.declared.cmp.Ordering.{Ordering}
use Rattle.std.specs.declared.cmp.Ordering.TheVariants.{Less, Equal, Greater}
use Rattle.std.proofs.Common.{refl, ap, sym, subst, ◌∙◌, append-nil, arith}
use Rattle.std.proofs.lemmas.List.{take_all}
use Rattle.vl_disk.specs.declared.read_fault.ReadFault.{ReadFault}
use Rattle.vl_disk.specs.declared.read_fault.ReadFault.TheVariants.{NoMemory, Disk, Damaged}
use Rattle.vl_model.specs.Entries.{entry_cmp}
use Rattle.vl_model.specs.declared.entry.Entry.{Entry}
use Rattle.vl_table.specs.Answers.{Answers}
use Rattle.vl_table.specs.BlockOrder.{AreInOrder, BreaksAt, IsOutOfOrder, SaysOrder, StandInOrder, Stands, may_follow}
use Rattle.vl_table.specs.CursorParts.{StandsWith}
use Rattle.vl_table.specs.Kept.{IsMissing, StandsBlock, id_of}
use Rattle.vl_table.specs.Standing.{is_in_front}
use Rattle.vl_table.specs.Tables.{shape_of}
use Rattle.vl_table.specs.body.Blocks.{entries}
use Rattle.vl_table.specs.body.Lists.{AreOrdered, IsInFront, last_item}
use Rattle.vl_table.specs.declared.body.index.BlockPlace.{BlockPlace}
use Rattle.vl_table.specs.declared.body.shape.TableShape.{TableShape}
use Rattle.vl_table.specs.declared.slot.BlockId.{BlockId}
use Rattle.vl_table.specs.declared.table.Table.{Table}
use Rattle.vl_table.specs.laws.ListLaws.{last-of}
use Rattle.vl_table.specs.laws.TrueOrder.{joined-both, one_stands}

-- ---- lists

next : (i : ℕ) → suc i ≡ i + 1
next i = omega arith

parted : {X : Type 0} (xs : List X) (i : ℕ) (x : X) → i < length xs → x ≡ get_or xs i x → xs ≡ take i xs ++ x ∷ drop (suc i) xs
parted [] i x within is = absurd (omega arith)
parted (y ∷ ys) zero x within is = ap (λ z. z ∷ ys) (sym is)
parted (y ∷ ys) (suc i) x within is = ap (λ l. y ∷ l) (parted ys i x (omega arith) is)

one_more : {X : Type 0} (xs : List X) (i : ℕ) (x : X) → i < length xs → x ≡ get_or xs i x
    → take (suc i) xs ≡ take i xs ++ x ∷ []
one_more [] i x within is = absurd (omega arith)
one_more (y ∷ ys) zero x within is = ap (λ z. z ∷ []) (sym is)
one_more (y ∷ ys) (suc i) x within is = ap (λ l. y ∷ l) (one_more ys i x (omega arith) is)

zip_one : {X Y : Type 0} (R : X → Y → Type 0) (xs : List X) (ys : List Y) (x : X) (y : Y) → AllZip R xs ys → R x y
    → AllZip R (xs ++ x ∷ []) (ys ++ y ∷ [])
zip_one R [] [] x y zip one = (one, tt)
zip_one R [] (v ∷ ys) x y zip one = absurd zip
zip_one R (u ∷ xs) [] x y zip one = absurd zip
zip_one R (u ∷ xs) (v ∷ ys) x y zip one = (zip.0, zip_one R xs ys x y zip.1 one)

-- ---- the last entry

last_behind : (es : List Entry) (f : Entry) (fs : List Entry) → last_item (es ++ f ∷ fs) ≡ last_item (f ∷ fs)
last_behind [] f fs = refl
last_behind (e ∷ []) f fs = refl
last_behind (e ∷ d ∷ es) f fs = last_behind (d ∷ es) f fs

pub last_here : (passed es : List Entry) (e : Entry) → 0 < length es → e ≡ get_or es (length es - 1) e
    → Some e ≡ last_item (passed ++ es)
last_here passed [] e some is = absurd (omega arith)
last_here passed (f ∷ fs) e some is =
    ap (λ (x : Entry). Some x) is ∙ sym (last-of (f ∷ fs) e some) ∙ sym (last_behind passed f fs)

-- ---- what may follow

less : (r : Ordering) → is_lt r ≡ true → r ≡ Less
less Less is = refl
less Equal is = absurd cc
less Greater is = absurd cc

in_front : (format : ℕ) (e : Entry) (es : List Entry) → is_in_front e es ≡ true → IsInFront (entries format) e es
in_front format e [] is = tt
in_front format e (f ∷ fs) is = less (entry_cmp e f) is

is_there : (format : ℕ) (e : Entry) (es : List Entry) → IsInFront (entries format) e es → is_in_front e es ≡ true
is_there format e [] front = refl
is_there format e (f ∷ fs) front = ap is_lt front

ordered-both : (format : ℕ) (es fs : List Entry) → AreOrdered (entries format) es → AreOrdered (entries format) fs
    → may_follow (last_item es) fs ≡ true → AreOrdered (entries format) (es ++ fs)
ordered-both format [] fs first second follows = second
ordered-both format (e ∷ []) fs first second follows = (in_front format e fs follows, second)
ordered-both format (e ∷ d ∷ es) fs first second follows = (first.0, ordered-both format (d ∷ es) fs first.1 second follows)

follows-ordered : (format : ℕ) (es fs : List Entry) → AreOrdered (entries format) (es ++ fs)
    → may_follow (last_item es) fs ≡ true
follows-ordered format [] fs ordered = refl
follows-ordered format (e ∷ []) fs ordered = is_there format e fs ordered.0
follows-ordered format (e ∷ d ∷ es) fs ordered = follows-ordered format (d ∷ es) fs ordered.1

-- ---- the first blocks

-- so many of the blocks stand in order, and this is their last entry
pub record SoFar (s : TableShape) (bytes : List ℕ) (at : ℕ) (last : Option Entry) : Type 0 where
  pub passed : List Entry
  pub stood : StandInOrder s bytes (take at s.blocks.items) passed
  pub last_is : last ≡ last_item passed

module _ (s : TableShape) (bytes : List ℕ) (at : ℕ) (last : Option Entry) (p : BlockPlace) (within : at < length s.blocks.items)
    (found : p ≡ get_or s.blocks.items at p) (so : SoFar s bytes at last) where
  next_stands : (es : List Entry) (now : Option Entry) → StandsBlock s.format s.number bytes p.place p.length es
      → may_follow last es ≡ true
      → ((passed : List Entry) → last ≡ last_item passed → now ≡ last_item (passed ++ es)) → SoFar s bytes (at + 1) now
  next_stands es now stands follows then = record {
    passed = so.passed ++ es;
    stood = record {
      each = so.stood.each ++ es ∷ [];
      stand = subst (λ (ps : List BlockPlace). AllZip (Stands s bytes) ps (so.stood.each ++ es ∷ []))
          (sym (ap (λ (n : ℕ). take n s.blocks.items) (sym (next at)) ∙ one_more s.blocks.items at p within found))
          (zip_one (Stands s bytes) (take at s.blocks.items) so.stood.each p es so.stood.stand stands);
      are = joined-both so.stood.each (es ∷ [])
          ∙ (λ i. so.stood.are i ++ append-nil es i);
      ordered = ordered-both s.format so.passed es so.stood.ordered stands.says.lawful.ordered
          (ap (λ (o : Option Entry). may_follow o es) (sym so.last_is) ∙ follows);
    };
    last_is = then so.passed so.last_is;
  }

  breaks_here : (place : ℕ) → place ≡ p.place
      → ((es : List Entry) → Stands s bytes p es → may_follow last es ≡ true → ⊥) → BreaksAt s bytes place
  breaks_here place is none = record {
    before = take at s.blocks.items;
    block = p;
    later = drop (suc at) s.blocks.items;
    parts = parted s.blocks.items at p within found;
    passed = so.passed;
    stood = so.stood;
    breaks = λ es stands ordered. none es stands
        (ap (λ (o : Option Entry). may_follow o es) so.last_is ∙ follows-ordered s.format so.passed es ordered);
    place_is = is;
  }

  out_here : (place : ℕ) (es : List Entry) → place ≡ p.place → StandsBlock s.format s.number bytes p.place p.length es
      → may_follow last es ≡ false → IsOutOfOrder s bytes place
  unfolding breaks_here
  out_here place es is stands apart = record {
    breaks = breaks_here place is (λ fs others follows.
        let same : fs ≡ es = one_stands s.format s.number bytes p.place p.length fs es others stands in
        let no : true ≡ false = sym follows ∙ ap (may_follow last) same ∙ apart in cc);
    has = es;
    stands = stands;
  }

-- ---- where bytes are told

module _ {H : Type 0} (bytes_of : H → Option (List ℕ)) (t : Table H) where
  abbrev pub SoFarIn : ℕ → Option Entry → Type 0
  SoFarIn at last = ForSome (bytes_of t.held) (λ bytes. SoFar (shape_of t) bytes at last)

  pub begun : SoFarIn 0 None
  begun bytes told = record { passed = []; stood = record { each = []; stand = tt; are = refl; ordered = tt }; last_is = refl }

  module _ (s : TableShape) (is : s ≡ shape_of t) (at : ℕ) (last : Option Entry) (p : BlockPlace)
      (within : at < length s.blocks.items)
      (found : p ≡ get_or s.blocks.items at p) (so : SoFarIn at last) where
    inside : at < length (shape_of t).blocks.items
    inside = subst (λ (x : TableShape). at < length x.blocks.items) is within

    here : p ≡ get_or (shape_of t).blocks.items at p
    here = subst (λ (x : TableShape). p ≡ get_or x.blocks.items at p) is found

    pub goes_on : (es : List Entry) (now : Option Entry) → StandsWith bytes_of (t, p) es → may_follow last es ≡ true
        → ((passed : List Entry) → last ≡ last_item passed → now ≡ last_item (passed ++ es)) → SoFarIn (at + 1) now
    goes_on es now stands follows then = λ bytes told.
        next_stands (shape_of t) bytes at last p inside here (so bytes told) es now (stands bytes told) follows then

    pub is_out : (place : ℕ) (es : List Entry) → place ≡ p.place → StandsWith bytes_of (t, p) es → may_follow last es ≡ false
        → ForSome (bytes_of t.held) (λ bytes. IsOutOfOrder (shape_of t) bytes place)
    is_out place es place_is stands apart = λ bytes told.
        out_here (shape_of t) bytes at last p inside here (so bytes told) place es place_is (stands bytes told) apart

    pub fails_here : (held : H) (id : BlockId) (before now : ℕ) (good : List ℕ → Unit {0} → Type 0) (e : ReadFault)
        → held ≡ t.held → id ≡ id_of s p
        → Answers {T = Unit {0}} before now id.number (bytes_of held) good (IsMissing id) (Err e) → SaysOrder bytes_of t (Err e)
    fails_here held id before now good NoMemory same named a = tt
    fails_here held id before now good (Disk name) same named a = tt
    fails_here held id before now good (Damaged name place) same named a = λ bytes told.
        let missing = subst (λ (x : BlockId). IsMissing x bytes place) (named ∙ ap (λ (x : TableShape). id_of x p) is)
        (a.answer bytes (ap bytes_of same ∙ told)) in
        breaks_here (shape_of t) bytes at last p inside here (so bytes told) place missing.1
        (λ es stands follows. missing.0 es stands)

  pub all_passed : (at : ℕ) (last : Option Entry) → (length (shape_of t).blocks.items ≤ at) → SoFarIn at last
      → ForSome (bytes_of t.held) (λ bytes. AreInOrder (shape_of t) bytes)
  all_passed at last past so = λ bytes told.
      let f = so bytes told in (
        f.passed,
        subst (λ (ps : List BlockPlace). StandInOrder (shape_of t) bytes ps f.passed)
            (take_all at (shape_of t).blocks.items past) f.stood,
      )
