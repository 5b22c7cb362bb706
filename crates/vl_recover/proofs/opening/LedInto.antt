-- Numbers put among rising ones, and the logs with these numbers that are held.
use Rattle.std.specs.Prelude.{◌≡◌, ◌+◌, ◌<◌, ◌≤◌, ◌==◌, ◌⊎◌, ℕ, Bool, true, false, nat_lt, if◌then◌else◌, List, []}
use Rattle.std.specs.Prelude.{◌∷◌, ◌++◌, drop, get_or, length, take, refl}
use Rattle.std.proofs.Common.{sym, ap, subst, ◌∙◌, append_assoc, append-nil, arith, ⊎_elim}
use Rattle.std.proofs.lemmas.Bool.{cases_lt}
use Rattle.std.proofs.lemmas.Bool.Decides.{nat_tests}
use Rattle.std.proofs.lemmas.List.{drop_all, drop_more, take-append-drop, take_all, take_more}
use Rattle.std.specs.Prelude.{Option, Some}
use Rattle.std.specs.FinMap.{get}
use Rattle.std.specs.List.{AllZip, filter}
use Rattle.std.proofs.lemmas.List.Elements.{filter_more}
use Rattle.std.proofs.lemmas.Slice.Zip.{all_zipped_more}
use Rattle.vl_disk.specs.Crash.{Image}
use Rattle.vl_disk.specs.declared.name.Name.TheVariants.{Log}
use Rattle.vl_recover.specs.opening.HeldFiles.{IsReadLog}
use Rattle.vl_recover.specs.opening.Leading.{BeginsIn}
use Rattle.vl_recover.specs.opening.Opening.{put_number}
use Rattle.vl_seglog.specs.LogReading.{HasHeader}
use Rattle.vl_seglog.specs.declared.sealed.SealedLog.{SealedLog}

by_tests : (a b : Bool) (n m : ℕ) (ms : List ℕ) → List ℕ
by_tests a b n m ms = if a then n ∷ m ∷ ms else (if b then m ∷ ms else m ∷ put_number n ms)

-- behind one that is below,
put_below : (n m : ℕ) (ms : List ℕ) → m < n → put_number n (m ∷ ms) ≡ m ∷ put_number n ms
unfolding by_tests
put_below n m ms less =
    let not_less : nat_lt n m ≡ false = grind (arith, nat_tests) in
    let other : (n == m) ≡ false = grind (arith, nat_tests) in
    ap (λ (a : Bool). by_tests a (n == m) n m ms) not_less ∙ ap (λ (b : Bool). by_tests false b n m ms) other

-- at one that is the same,
put_same : (n m : ℕ) (ms : List ℕ) → m ≡ n → put_number n (m ∷ ms) ≡ m ∷ ms
unfolding by_tests
put_same n m ms same =
    let not_less : nat_lt n m ≡ false = grind (arith, nat_tests) in
    let equal : (n == m) ≡ true = grind (arith, nat_tests) in
    ap (λ (a : Bool). by_tests a (n == m) n m ms) not_less ∙ ap (λ (b : Bool). by_tests false b n m ms) equal

-- and before one that is above.
put_above : (n m : ℕ) (ms : List ℕ) → n < m → put_number n (m ∷ ms) ≡ n ∷ m ∷ ms
unfolding by_tests
put_above n m ms less =
    let is_less : nat_lt n m ≡ true = grind (arith, nat_tests) in
    ap (λ (a : Bool). by_tests a (n == m) n m ms) is_less

-- ---- the place of a number

pub put_further : (n : ℕ) (ns : List ℕ) (k : ℕ) → k < length ns → get_or ns k 0 < n
    → put_number n ns ≡ take k ns ++ put_number n (drop k ns)
    → put_number n ns ≡ take (k + 1) ns ++ put_number n (drop (k + 1) ns)
put_further n ns k inside below so =
    so
    ∙ ap (λ (l : List ℕ). take k ns ++ put_number n l) (drop_more ns k 0 inside)
    ∙ ap (λ (l : List ℕ). take k ns ++ l) (put_below n (get_or ns k 0) (drop (k + 1) ns) below)
    ∙ sym (append_assoc (take k ns) (get_or ns k 0 ∷ []) (put_number n (drop (k + 1) ns)))
    ∙ ap (λ (l : List ℕ). l ++ put_number n (drop (k + 1) ns)) (sym (take_more ns k 0 inside))

module _ (n : ℕ) (ns : List ℕ) (k : ℕ) (within : k ≤ length ns)
    (split : put_number n ns ≡ take k ns ++ put_number n (drop k ns)) where
  -- it is there already
  pub put_there : k < length ns → get_or ns k 0 ≡ n → ns ≡ put_number n ns
  put_there inside same =
      sym (split
      ∙ ap (λ (l : List ℕ). take k ns ++ put_number n l) (drop_more ns k 0 inside)
      ∙ ap (λ (l : List ℕ). take k ns ++ l) (put_same n (get_or ns k 0) (drop (k + 1) ns) same)
      ∙ ap (λ (l : List ℕ). take k ns ++ l) (sym (drop_more ns k 0 inside))
      ∙ take_drop k ns)
    where
      take_drop : (k : ℕ) (ns : List ℕ) → take k ns ++ drop k ns ≡ ns
      take_drop k ns = take-append-drop k ns

  -- it is put before what is above, or behind all
  pub put_new : (k < length ns → n < get_or ns k 0) → take k ns ++ n ∷ drop k ns ≡ put_number n ns
  put_new above = sym (split ∙ ap (λ (l : List ℕ). take k ns ++ l) (by (cases_lt k (length ns))))
    where
      by : (k < length ns) ⊎ (length ns ≤ k) → put_number n (drop k ns) ≡ n ∷ drop k ns
      by either = ⊎_elim
          (λ (inside : k < length ns).
          ap (put_number n) (drop_more ns k 0 inside) ∙ put_above n (get_or ns k 0) (drop (k + 1) ns) (above inside)
          ∙ ap (λ (l : List ℕ). n ∷ l) (sym (drop_more ns k 0 inside)))
          (λ (past : length ns ≤ k).
          ap (put_number n) (drop_all k ns past) ∙ ap (λ (l : List ℕ). n ∷ l) (sym (drop_all k ns past)))
          either

-- ---- the logs below head are held

module _ {H : Type 0} (bytes_of : H → Option (List ℕ)) (image : Image) (head : ℕ) (led : List ℕ) where
  -- so many of them were gone through
  abbrev pub AreHeldSoFar : List (SealedLog H) → ℕ → Type 0
  AreHeldSoFar logs i = AllZip (IsReadLog bytes_of image) logs (filter (λ (n : ℕ). nat_lt n head) (take i led))

  by_test : Bool → ℕ → List ℕ
  by_test b n = if b then n ∷ [] else []

  -- one that isn't below head,
  pub not_held : (logs : List (SealedLog H)) (i : ℕ) → i < length led → head ≤ get_or led i 0 → AreHeldSoFar logs i
      → AreHeldSoFar logs (i + 1)
  unfolding by_test
  not_held logs i inside above so =
      let test : nat_lt (get_or led i 0) head ≡ false = grind (arith, nat_tests) in
      subst (AllZip (IsReadLog bytes_of image) logs)
      (sym (filter_more (λ (n : ℕ). nat_lt n head) led i 0 inside
      ∙ ap (λ (b : Bool). filter (λ (n : ℕ). nat_lt n head) (take i led) ++ by_test b (get_or led i 0)) test
      ∙ append-nil (filter (λ (n : ℕ). nat_lt n head) (take i led)))) so

  -- and one that is
  pub one_held : (logs more : List (SealedLog H)) (log : SealedLog H) (i : ℕ) → i < length led → get_or led i 0 < head
      → more ≡ logs ++ log ∷ []
      → AreHeldSoFar logs i → IsReadLog bytes_of image log (get_or led i 0) → AreHeldSoFar more (i + 1)
  unfolding by_test
  one_held logs more log i inside below is so one =
      let test : nat_lt (get_or led i 0) head ≡ true = grind (arith, nat_tests) in
      subst (λ (xs : List (SealedLog H)). AreHeldSoFar xs (i + 1)) (sym is)
      (subst (AllZip (IsReadLog bytes_of image) (logs ++ log ∷ []))
      (sym (filter_more (λ (n : ℕ). nat_lt n head) led i 0 inside
      ∙ ap (λ (b : Bool). filter (λ (n : ℕ). nat_lt n head) (take i led) ++ by_test b (get_or led i 0)) test))
      (all_zipped_more (IsReadLog bytes_of image) logs (filter (λ (n : ℕ). nat_lt n head) (take i led)) log (get_or led i 0) so one))

  pub all_held : (logs : List (SealedLog H)) (i : ℕ) → length led ≤ i → AreHeldSoFar logs i
      → AllZip (IsReadLog bytes_of image) logs (filter (λ (n : ℕ). nat_lt n head) led)
  all_held logs i past so = subst
      (λ (ns : List ℕ). AllZip (IsReadLog bytes_of image) logs (filter (λ (n : ℕ). nat_lt n head) ns)) (take_all i led past) so

  -- a log that was held behind its header
  pub held_as_read : (number format : ℕ) (held : H) → BeginsIn image number format → bytes_of held ≡ get image (Log number)
      → IsReadLog bytes_of image (record { number = number; format = format; held = held }) number
  held_as_read number format held begins told = record {
    number_is = refl;
    told = told;
    format = begins.format_is;
    header = λ bytes is. subst (HasHeader format number) (one_file begins.bytes bytes (sym begins.stands ∙ is)) begins.header;
  }
    where
      one_file : (a b : List ℕ) → Some a ≡ Some b → a ≡ b
      one_file a b e = cc
