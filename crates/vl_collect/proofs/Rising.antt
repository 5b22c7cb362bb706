-- Places that rise.
use Rattle.std.proofs.Common.{◌≡◌, ℕ, zero, suc, ◌+◌, ◌<◌, ◌≤◌, List, [], ◌∷◌, ◌++◌, length, map, take, drop, get_or}
use Rattle.std.proofs.Common.{refl, ap, sym, ◌∙◌, subst, arith}
use Rattle.std.proofs.lemmas.Bool.{and_parts, and_from}
use Rattle.std.proofs.lemmas.Bool.Decides.{nat_tests}
use Rattle.std.proofs.lemmas.List.{drop_more}
use Rattle.std.proofs.lemmas.List.Sums.{sum_by-cons}
use Rattle.std.proofs.lemmas.List.Elements.{All-get_or}
use Rattle.std.specs.List.{All, AllByRecursion, sum_by}
use Rattle.std.specs.Prelude.{Bool, true, false, nat_le, if◌then◌else◌}
use Rattle.vl_collect.specs.Batches.{IsLawful, IsOf, MayMove, Rise, found_place, read_place, rise_from}
use Rattle.vl_collect.specs.Taking.{candidates}
use Rattle.vl_collect.specs.declared.batch.Found.{Found}
use Rattle.vl_engine_model.specs.Relocation.{Candidate}
use Rattle.vl_model.specs.Formats.{log_format, record_head}
use Rattle.vl_model.specs.Frames.{frame_length, moved_length, record_length}
use Rattle.vl_model.specs.declared.change.Change.{Change}
use Rattle.vl_seglog.specs.Moves.{IsMoved}
use Rattle.vl_seglog.specs.Placed.{AreMovedFrom, AreRecordsFrom, IsFrameAt, RecordsLie, records_of}
use Rattle.vl_seglog.specs.Reading.{moved_of, said_of, write_of}
use Rattle.vl_seglog.specs.declared.frame.Frame.{Frame}
use Rattle.vl_seglog.specs.declared.frame.ReadRecord.{ReadRecord}
use Rattle.vl_seglog.specs.declared.frame.Said.{Said}
use Rattle.vl_seglog.specs.declared.frame.Said.TheVariants as says

module _ {X : Type 0} (place : X → ℕ) where
  pub bounds : (low : ℕ) (xs : List X) (high : ℕ) → Rise place low xs high → low ≤ high
  bounds low [] high rise = rise
  bounds low (x ∷ xs) high (here, rise) = let rest = bounds (place x + 1) xs high rise in omega (arith, here, rest)

  pub lower : (less low : ℕ) (xs : List X) (high : ℕ) → less ≤ low → Rise place low xs high → Rise place less xs high
  lower less low [] high le rise = omega (arith, le, rise)
  lower less low (x ∷ xs) high le (here, rise) = (omega (arith, le, here), rise)

  pub higher : (low : ℕ) (xs : List X) (high more : ℕ) → high ≤ more → Rise place low xs high → Rise place low xs more
  higher low [] high more le rise = omega (arith, le, rise)
  higher low (x ∷ xs) high more le (here, rise) = (here, higher (place x + 1) xs high more le rise)

  pub one_more : (low : ℕ) (xs : List X) (mid : ℕ) (x : X) → Rise place low xs mid → mid ≤ place x
      → Rise place low (xs ++ x ∷ []) (place x + 1)
  one_more low [] mid x rise le = (omega (arith, rise, le), omega arith)
  one_more low (y ∷ xs) mid x (here, rise) le = (here, one_more (place y + 1) xs mid x rise le)

  pub but_first : (low : ℕ) (xs : List X) (high n : ℕ) → Rise place low xs high → Rise place low (drop n xs) high
  but_first low xs high zero rise = rise
  but_first low [] high (suc n) rise = rise
  but_first low (x ∷ xs) high (suc n) (here, rise) =
      lower low (place x + 1) (drop n xs) high (omega (arith, here)) (but_first (place x + 1) xs high n rise)

  pub record Next (low : ℕ) (xs : List X) (i : ℕ) (x : X) (high : ℕ) : Type 0 where
    pub here : low ≤ place x
    pub rest : Rise place (place x + 1) (drop (i + 1) xs) high

  pub next_at : (low : ℕ) (xs : List X) (i : ℕ) (x : X) (high : ℕ) → i < length xs → x ≡ get_or xs i x
      → Rise place low (drop i xs) high → Next low xs i x high
  next_at low xs i x high within is rise =
      let same : drop i xs ≡ x ∷ drop (i + 1) xs = drop_more xs i x within ∙ ap (λ (y : X). y ∷ drop (i + 1) xs) (sym is) in
      let at = subst (λ (l : List X). Rise place low l high) same rise in
      record { here = at.0; rest = at.1 }

pub test_of : (low : ℕ) (fs : List Found) (high : ℕ) → Rise found_place low fs high → rise_from low fs ≡ true
test_of low [] high rise = refl
test_of low (f ∷ fs) high (here, rise) =
    and_from (nat_le low f.place) (rise_from (f.place + 1) fs) (grind (arith, nat_tests, here)) (test_of (f.place + 1) fs high rise)

-- ---- a batch, and the records behind it

-- The records that are left stand behind those of the batch.
abbrev pub InFront : List Found → List ReadRecord → ℕ → Type 0
InFront batch rest high = (mid : ℕ) × Rise found_place 0 batch mid × Rise read_place mid rest high

pub all_rise : (batch : List Found) (rest : List ReadRecord) (high : ℕ) → InFront batch rest high → Rise found_place 0 batch high
all_rise batch rest high front =
    higher found_place 0 batch front.0 high (bounds read_place front.0 rest high front.2) front.1

module _ (batch : List Found) (rs : List ReadRecord) (i : ℕ) (r : ReadRecord) (within : i < length rs) (is : r ≡ get_or rs i r) where
  -- so it is behind a record that isn't taken
  pub passes_on : (high : ℕ) → InFront batch (drop i rs) high → InFront batch (drop (i + 1) rs) high
  passes_on high front =
      let next = next_at read_place front.0 rs i r high within is front.2 in (
        front.0,
        front.1,
        lower read_place front.0 (r.pointer.place + 1) (drop (i + 1) rs) high (let here = next.here in omega (arith, here)) next.rest,
      )

  -- and behind one that is
  pub takes_on : (high : ℕ) (x : Found) → IsOf r x → InFront batch (drop i rs) high → InFront (batch ++ x ∷ []) (drop (i + 1) rs) high
  takes_on high x of front =
      let next = next_at read_place front.0 rs i r high within is front.2 in
      let place : x.place ≡ r.pointer.place = ap (λ (c : Candidate). c.place) of.is in (
        x.place + 1,
        one_more found_place 0 batch front.0 x front.1 (let here = next.here in omega (arith, here, place)),
        subst (λ (n : ℕ). Rise read_place (n + 1) (drop (i + 1) rs) high) (sym place) next.rest,
      )

  -- one that may be moved is a lawful one
  pub lawful_one : All MayMove rs → (x : Found) → IsOf r x → IsLawful x
  lawful_one all x of =
      let may : MayMove r = subst MayMove (sym is) (All-get_or MayMove rs i r within all) in
      subst (IsMoved log_format) (sym (ap (λ (c : Candidate). c.moved) of.is)) (may of.value of.sets)

-- ---- the records of a frame

head_some : (format : ℕ) → 1 ≤ record_head format
head_some format = by (nat_le format 1)
  where
    by : (b : Bool) → 1 ≤ (if b then 7 else 8)
    by true = omega arith
    by false = omega arith

committed_rise : (format log version place : ℕ) (rs : List ReadRecord) → AreRecordsFrom format log version place rs
    → Rise read_place place rs (place + sum_by (λ write. record_length format write.0 write.1) (map write_of rs))
committed_rise format log version place [] lie = omega arith
committed_rise format log version place (r ∷ rs) (lies, others) =
    let n = record_length format r.key r.change in
    let some : 1 ≤ n = omega (arith, head_some format) in
    let at : r.pointer.place ≡ place = ap (λ (p : _). p.place) lies.pointer_is in
    let sum = sum_by-cons (λ write. record_length format write.0 write.1) (write_of r) (map write_of rs) in
    let rest = committed_rise format log version (place + n) rs others in (
      omega (arith, at),
      higher read_place (r.pointer.place + 1) rs (place + n + sum_by (λ write. record_length format write.0 write.1) (map write_of rs))
          (place + sum_by (λ write. record_length format write.0 write.1) (map write_of (r ∷ rs))) (omega (arith, sum))
          (lower read_place (r.pointer.place + 1) (place + n) rs
          (place + n + sum_by (λ write. record_length format write.0 write.1) (map write_of rs)) (omega (arith, at, some)) rest),
    )

moved_rise : (format log place : ℕ) (rs : List ReadRecord) → AreMovedFrom format log place rs
    → Rise read_place place rs (place + sum_by (moved_length format) (map moved_of rs))
moved_rise format log place [] lie = omega arith
moved_rise format log place (r ∷ rs) (lies, others) =
    let n = 8 + record_length format r.key r.change in
    let some : 1 ≤ record_length format r.key r.change = omega (arith, head_some format) in
    let size : n ≡ moved_length format (moved_of r) = ap (λ (c : Change). 8 + record_length format r.key c) lies.sets in
    let at : r.pointer.place ≡ place + 8 = ap (λ (p : _). p.place) lies.pointer_is in
    let sum = sum_by-cons (moved_length format) (moved_of r) (map moved_of rs) in
    let rest = moved_rise format log (place + n) rs others in (
      omega (arith, at),
      higher read_place (r.pointer.place + 1) rs (place + n + sum_by (moved_length format) (map moved_of rs))
          (place + sum_by (moved_length format) (map moved_of (r ∷ rs))) (omega (arith, sum, size))
          (lower read_place (r.pointer.place + 1) (place + n) rs
          (place + n + sum_by (moved_length format) (map moved_of rs)) (omega (arith, at, some)) rest),
    )

said_rise : (format log place : ℕ) (s : Said) → RecordsLie format log (place + 5) s
    → Rise read_place place (records_of s) (place + frame_length format (said_of s))
said_rise format log place (says.Commit c) lie =
    let high = place + 5 + 12 + sum_by (λ write. record_length format write.0 write.1) (map write_of c.records.items) in
    higher read_place place c.records.items high (place + frame_length format (said_of (says.Commit c))) (omega arith)
    (lower read_place place (place + 5 + 12) c.records.items high (omega arith)
    (committed_rise format log c.number (place + 5 + 12) c.records.items lie))
said_rise format log place (says.Moves rs) lie =
    let high = place + 5 + 4 + sum_by (moved_length format) (map moved_of rs.items) in
    higher read_place place rs.items high (place + frame_length format (said_of (says.Moves rs))) (omega arith)
    (lower read_place place (place + 5 + 4) rs.items high (omega arith) (moved_rise format log (place + 5 + 4) rs.items lie))

-- The records of a frame stand in it, one behind the other.
pub frame_rises : (format log place : ℕ) (f : Frame) → IsFrameAt format log place f
    → Rise read_place place (records_of f.said) (place + f.length)
frame_rises format log place f at =
    subst (λ (n : ℕ). Rise read_place place (records_of f.said) (place + n)) (sym at.length_is)
    (said_rise format log place f.said at.records)

-- ---- the records before one

abbrev pub AreBelow : ℕ → List Candidate → Type 0
AreBelow place cs = AllByRecursion (λ (d : Candidate). d.place < place) cs

all_from : (low : ℕ) (xs : List Found) (i : ℕ) (x : Found) → rise_from low xs ≡ true → i < length xs → x ≡ get_or xs i x → low ≤ x.place
all_from low [] i x rise within is = absurd (omega (arith, within))
all_from low (y ∷ ys) zero x rise within is =
    let parts = and_parts (nat_le low y.place) (rise_from (y.place + 1) ys) rise in
    let here = parts.0 in
    let same : x.place ≡ y.place = ap (λ (f : Found). f.place) is in
    let le : low ≤ y.place = grind (arith, nat_tests, here) in
    omega (arith, same, le)
all_from low (y ∷ ys) (suc i) x rise within is =
    let parts = and_parts (nat_le low y.place) (rise_from (y.place + 1) ys) rise in
    let here = parts.0 in
    let le : low ≤ y.place = grind (arith, nat_tests, here) in
    let rest = all_from (y.place + 1) ys i x parts.1 (omega (arith, within)) is in
    omega (arith, le, rest)

pub before_one : (low : ℕ) (xs : List Found) (i : ℕ) (x : Found) → rise_from low xs ≡ true → i < length xs → x ≡ get_or xs i x
    → AreBelow x.place (take i (candidates xs))
before_one low [] i x rise within is = absurd (omega (arith, within))
before_one low (y ∷ ys) zero x rise within is = tt
before_one low (y ∷ ys) (suc i) x rise within is =
    let parts = and_parts (nat_le low y.place) (rise_from (y.place + 1) ys) rise in
    let above = all_from (y.place + 1) ys i x parts.1 (omega (arith, within)) is in
    (omega (arith, above), before_one (y.place + 1) ys i x parts.1 (omega (arith, within)) is)
