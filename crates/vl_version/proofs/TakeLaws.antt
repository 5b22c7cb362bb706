-- Rows are taken one after the other.
use Rattle.std.proofs.Common.{◌≡◌, ℕ, zero, suc, ◌<◌, ◌≤◌, List, [], ◌∷◌, ◌++◌, length, take, drop, refl, ap, sym, ◌∙◌, subst}
use Rattle.std.proofs.Common.{arith, append_assoc, length-append, append-nil, Option, Some, None, inl, inr}
use Rattle.std.specs.Prelude.{false, Err, Result}
use Rattle.std.proofs.lemmas.List.{drop_all, take_all}
use Rattle.std.specs.List.{AllByRecursion}
use Rattle.vl_disk.specs.declared.name.Name.{Name}
use Rattle.vl_model.specs.Cursors.{Gives}
use Rattle.vl_model.specs.Keys.{Row}
use Rattle.vl_model.specs.Winners.{Logs}
use Rattle.vl_model.specs.declared.entry.Entry.{Entry}
use Rattle.vl_version.specs.Answers.{IsAnswer, IsAstray}
use Rattle.vl_version.specs.Faults.{Failed}
use Rattle.vl_version.specs.Gives.{is_disk_fault}
use Rattle.vl_disk.specs.declared.read_fault.ReadFault.{ReadFault}
use Rattle.vl_disk.specs.declared.read_fault.ReadFault.TheVariants.{NoMemory, Disk, Damaged}
use Rattle.vl_version.specs.Near.{AreNear, IsNear}
use Rattle.vl_version.specs.Rows.{AreRowsOf, IsKept, OneAstray, PushesRow}

-- the rows are of the first of these entries, and the others are left; there are no more rows than may be
pub record TakesFront (logs : Logs) (whole : List Entry) (left : Option (List Entry)) (rows : List Row) (limit : ℕ) : Type 0 where
  pub front : List Entry
  pub rest : List Entry
  pub parts : whole ≡ front ++ rest
  pub behind : left ≡ Some rest
  pub kept : AllByRecursion IsKept rest
  pub are : AreRowsOf logs front rows
  pub few : length rows ≤ limit

length-rows : (logs : Logs) (es : List Entry) (rows : List Row) → AreRowsOf logs es rows → length es ≡ length rows
length-rows logs [] [] are = refl
length-rows logs [] (row ∷ rows) are = absurd are
length-rows logs (e ∷ es) [] are = absurd are
length-rows logs (e ∷ es) (row ∷ rows) are = let later = length-rows logs es rows are.2 in omega arith

are-push : (logs : Logs) (es : List Entry) (rows : List Row) (e : Entry) (now : List Row) → AreRowsOf logs es rows
    → PushesRow logs e rows now → AreRowsOf logs (es ++ e ∷ []) now
are-push logs es rows e now are pushes = subst (AreRowsOf logs (es ++ e ∷ [])) (sym pushes.pushed) (by es rows are)
  where
    by : (fs : List Entry) (rs : List Row) → AreRowsOf logs fs rs → AreRowsOf logs (fs ++ e ∷ []) (rs ++ (e.key, pushes.value) ∷ [])
    by [] [] are = (refl, pushes.led, tt)
    by [] (r ∷ rs) are = absurd are
    by (f ∷ fs) [] are = absurd are
    by (f ∷ fs) (r ∷ rs) are = (are.0, are.1, by fs rs are.2)

take_front : (xs ys : List Entry) (n : ℕ) → length xs ≡ n → take n (xs ++ ys) ≡ xs
take_front [] ys zero exact = refl
take_front [] ys (suc n) exact = absurd (omega arith)
take_front (x ∷ xs) ys zero exact = absurd (omega arith)
take_front (x ∷ xs) ys (suc n) exact = ap (λ l. x ∷ l) (take_front xs ys n (omega arith))

drop_front : (xs ys : List Entry) (n : ℕ) → length xs ≡ n → drop n (xs ++ ys) ≡ ys
drop_front [] ys zero exact = refl
drop_front [] ys (suc n) exact = absurd (omega arith)
drop_front (x ∷ xs) ys zero exact = absurd (omega arith)
drop_front (x ∷ xs) ys (suc n) exact = drop_front xs ys n (omega arith)

-- ---- where no entry leads into a log

-- what is left is told, and leads into none
pub record LeavesNear (left : Option (List Entry)) : Type 0 where
  pub rest : List Entry
  pub behind : left ≡ Some rest
  pub near : AreNear rest

module _ (left now : Option (List Entry)) (so : LeavesNear left) (e : Entry) (gives : Gives left now (Some e)) where
  pub near_next : IsNear e.body
  near_next = (subst AreNear (gives so.rest so.behind).1 so.near).0

  pub leaves_near : LeavesNear now
  leaves_near =
      let next = gives so.rest so.behind in
      record { rest = next.0; behind = next.2; near = (subst AreNear next.1 so.near).1 }

-- ---- rows

module _ (logs : Logs) (whole : List Entry) where
  pub takes_none : (left : Option (List Entry)) (limit : ℕ) → left ≡ Some whole → AllByRecursion IsKept whole
      → TakesFront logs whole left [] limit
  takes_none left limit is kept = record { front = []; rest = whole; parts = refl; behind = is; kept = kept; are = tt; few = omega arith }

  module _ (left now : Option (List Entry)) (rows : List Row) (limit : ℕ) (so : TakesFront logs whole left rows limit) where
    -- the next entry is the first of those that are left
    pub next_is : (e : Entry) → Gives left now (Some e) → (rest : List Entry) × (so.rest ≡ e ∷ rest) × (now ≡ Some rest)
    next_is e gives = gives so.rest so.behind

    pub next_kept : (e : Entry) → Gives left now (Some e) → IsKept e
    next_kept e gives =
        let next = gives so.rest so.behind in
        (subst (AllByRecursion IsKept) next.1 so.kept).0

    pub takes_next : (e : Entry) (after : List Row) → Gives left now (Some e) → length rows < limit → PushesRow logs e rows after
        → TakesFront logs whole now after limit
    takes_next e after gives room pushes =
        let next = gives so.rest so.behind in
        record {
          front = so.front ++ e ∷ [];
          rest = next.0;
          parts = so.parts ∙ ap (λ l. so.front ++ l) next.1 ∙ sym (append_assoc so.front (e ∷ []) next.0);
          behind = next.2;
          kept = (subst (AllByRecursion IsKept) next.1 so.kept).1;
          are = are-push logs so.front rows e after so.are pushes;
          few = omega (arith, ap length pushes.pushed, length-append rows ((e.key, pushes.value) ∷ []));
        }

    -- one of all that is astray is one of those that are left
    astray_behind : (fs rest : List Entry) (name : Name) (place : ℕ) → OneAstray logs rest name place
        → OneAstray logs (fs ++ rest) name place
    astray_behind [] rest name place one = one
    astray_behind (f ∷ fs) rest name place one = inr (astray_behind fs rest name place one)

    pub astray_next : (e : Entry) (name : Name) (place : ℕ) → Gives left now (Some e) → IsAstray logs (Some e) name place
        → OneAstray logs whole name place
    astray_next e name place gives astray =
        let next = gives so.rest so.behind in
        subst (λ es. OneAstray logs es name place) (sym (so.parts ∙ ap (λ l. so.front ++ l) next.1))
        (astray_behind so.front (e ∷ next.0) name place (inl astray))

    long : length so.front ≡ length rows
    long = length-rows logs so.front rows so.are

    -- as many as may be, or all
    pub takes_all : limit ≤ length rows → AreRowsOf logs (take limit whole) rows × (left ≡ Some (drop limit whole))
    takes_all full =
        let exact : length so.front ≡ limit = let few = so.few in let l = long in omega arith in (
          subst (λ (es : List Entry). AreRowsOf logs es rows)
              (sym (ap (take limit) so.parts ∙ take_front so.front so.rest limit exact)) so.are,
          so.behind ∙ ap Some (sym (ap (drop limit) so.parts ∙ drop_front so.front so.rest limit exact)),
        )

    pub takes_end : Gives left now None → AreRowsOf logs (take limit whole) rows × (now ≡ Some (drop limit whole))
    takes_end gives =
        let none = gives so.rest so.behind in
        let same : whole ≡ so.front = so.parts ∙ ap (λ l. so.front ++ l) none.0 ∙ append-nil so.front in
        let few : length whole ≤ limit = let most = so.few in let l = long in let w = ap length same in omega arith in (
          subst (λ (es : List Entry). AreRowsOf logs es rows) (sym (take_all limit whole few ∙ same)) so.are,
          none.1 ∙ ap Some (sym (drop_all limit whole few)),
        )

-- a fault is answered for as good a reason of more
pub err_answer : {T U : Type 0} (good : T → Type 0) (more : U → Type 0) (bad worse : Name → ℕ → Type 0) (fault : ReadFault)
    → ((name : Name) (place : ℕ) → bad name place → worse name place)
    → IsAnswer good bad (Err fault) → IsAnswer more worse (Err fault)
err_answer good more bad worse NoMemory weaker answer = tt
err_answer good more bad worse (Disk name) weaker answer = tt
err_answer good more bad worse (Damaged name place) weaker answer = weaker name place answer

-- what doesn't say that reading failed hasn't failed
pub no_read_fault : {T : Type 0} (e : ReadFault) (result : Result T ReadFault) → result ≡ Err e → is_disk_fault e ≡ false
    → Failed result → ⊥
no_read_fault {T} e result is quiet failed = by e quiet (subst (λ (r : Result T ReadFault). Failed r) is failed)
  where
    by : (f : ReadFault) → is_disk_fault f ≡ false → Failed {T = T} (Err f) → ⊥
    by NoMemory quiet failed = failed
    by (Disk name) quiet failed = cc
    by (Damaged name place) quiet failed = failed

-- a fault of what is read is answered as it is
pub fault_answer : {T : Type 0} (good : T → Type 0) (bad : Name → ℕ → Type 0) (e : ReadFault) (result : Result T ReadFault)
    → result ≡ Err e → ((name : Name) (place : ℕ) → e ≡ Damaged name place → bad name place) → IsAnswer good bad result
fault_answer {T} good bad e result is sends = subst (λ (r : Result T ReadFault). IsAnswer good bad r) (sym is) (by e refl)
  where
    by : (f : ReadFault) → e ≡ f → IsAnswer {T = T} good bad (Err f)
    by NoMemory same = tt
    by (Disk name) same = tt
    by (Damaged name place) same = sends name place same
