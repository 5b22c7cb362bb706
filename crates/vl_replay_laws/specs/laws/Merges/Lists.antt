-- Numbers that are drawn one after the other, and what they make of a layout and of a state.
use Rattle.std.specs.Prelude.{◌≡◌, ◌+◌, ◌≤◌, ◌==◌, ◌||◌, ◌&&◌, not, Bool, true, false, ℕ, zero, suc, List, [], ◌∷◌, ◌++◌, length, take, min}
use Rattle.std.specs.List.{AllByRecursion, AllZip}
use Rattle.std.proofs.Common.{refl, ap, sym, ◌∙◌, arith}
use Rattle.std.proofs.lemmas.Bool.Decides.{nat_tests}
use Rattle.std.proofs.lemmas.List.{length-take}
use Rattle.vl_disk.specs.Faults.{after_calls, one_more}
use Rattle.vl_engine_model.specs.Jobs.{AreDistinct}
use Rattle.vl_engine_model.specs.Rulings.Fresh.{drawn}
use Rattle.vl_engine_model.specs.declared.layout.Layout.{Layout}
use Rattle.vl_model.specs.Numbers.{has}
use Rattle.vl_replay_laws.specs.Drawn.{drawn_all, drawn_state, numbers_from}
use Rattle.vl_space.specs.Removing.{are_distinct}
use Rattle.vl_script_model.specs.Sequential.{State}

suc_is : (n : ℕ) → suc n ≡ n + 1
suc_is n = omega arith

suc_left : (n k : ℕ) → suc (n + k) ≡ suc n + k
suc_left n k = omega arith

suc_right : (n k : ℕ) → suc (n + k) ≡ n + suc k
suc_right n k = omega arith

none_left : (n : ℕ) → n ≡ 0 + n
none_left n = omega arith

none_right : (n : ℕ) → n ≡ n + 0
none_right n = omega arith

-- ---- numbers

pub length-from : (first count : ℕ) → length (numbers_from first count) ≡ count
length-from first zero = refl
length-from first (suc n) = ap suc (length-from (first + 1) n)

from_one : (first n : ℕ) → numbers_from first (suc n) ≡ numbers_from first n ++ (first + n) ∷ []
from_one first zero = ap (λ (k : ℕ). k ∷ []) (omega arith)
from_one first (suc n) =
    ap (λ (ns : List ℕ). first ∷ ns)
    (from_one (first + 1) n ∙ ap (λ (k : ℕ). numbers_from (first + 1) n ++ k ∷ []) (omega arith))

-- one more of them
pub one_from : (first n : ℕ) → numbers_from first n ++ (first + n) ∷ [] ≡ numbers_from first (n + 1)
one_from first n = sym (from_one first n) ∙ ap (numbers_from first) (suc_is n)

-- ---- a layout

more_drawn : (n : ℕ) (l : Layout) → drawn_all (suc n) l ≡ drawn (drawn_all n l)
more_drawn zero l = refl
more_drawn (suc n) l = more_drawn n (drawn l)

-- so many, and then so many more
pub drawn_then : (n k : ℕ) (l : Layout) → drawn_all k (drawn_all n l) ≡ drawn_all (n + k) l
drawn_then zero k l = ap (λ (m : ℕ). drawn_all m l) (none_left k)
drawn_then (suc n) k l =
    drawn_then n k (drawn l) ∙ ap (λ (m : ℕ). drawn_all m l) (suc_left n k)

pub next_drawn : (n : ℕ) (l : Layout) → (drawn_all n l).next_table ≡ l.next_table + n
next_drawn zero l = omega arith
next_drawn (suc n) l =
    let e : (drawn_all n (drawn l)).next_table ≡ l.next_table + 1 + n = next_drawn n (drawn l) in
    e ∙ omega arith

pub halted_drawn : (n : ℕ) (l : Layout) → (drawn_all n l).halted ≡ l.halted
halted_drawn zero l = refl
halted_drawn (suc n) l = halted_drawn n (drawn l)

-- ---- calls

pub calls_then : (n k count : ℕ) → after_calls k (after_calls n count) ≡ after_calls (n + k) count
calls_then n zero count = ap (λ (m : ℕ). after_calls m count) (none_right n)
calls_then n (suc k) count =
    ap one_more (calls_then n k count) ∙ ap (λ (m : ℕ). after_calls m count) (suc_right n k)

-- ---- a state

-- with this layout, and these counts
abbrev with_these : State → Layout → (calls files : ℕ) → State
with_these s l calls files = record s { store = record s.store { layout = l }; calls = calls; files = files }

-- none was drawn
pub drawn_none : (s : State) → drawn_state 0 s ≡ s
drawn_none s = ap (with_these s s.store.layout s.calls) (sym (none_right s.files))

pub state_then : (n k : ℕ) (s : State) → drawn_state k (drawn_state n s) ≡ drawn_state (n + k) s
state_then n k s =
    ap (λ (l : Layout). with_these s l (after_calls k (after_calls n s.calls)) (s.files + n + k)) (drawn_then n k s.store.layout)
    ∙ (ap (λ (m : ℕ). with_these s (drawn_all (n + k) s.store.layout) m (s.files + n + k)) (calls_then n k s.calls)
    ∙ ap (λ (m : ℕ). with_these s (drawn_all (n + k) s.store.layout) (after_calls (n + k) s.calls) m) (omega arith))

-- ---- lists

pub all_more : {T : Type 0} (P : T → Type 0) (ts : List T) (t : T) → AllByRecursion P ts → P t → AllByRecursion P (ts ++ t ∷ [])
all_more P [] t all is = (is, tt)
all_more P (x ∷ ts) t all is = (all.0, all_more P ts t all.1 is)

-- each of some numbers is one of them
pub all_among : (ns : List ℕ) → AllByRecursion (λ (n : ℕ). has n ns ≡ true) ns
all_among ns = later ns ns (λ n is. is)
  where
    first_is : (n : ℕ) (ns : List ℕ) → has n (n ∷ ns) ≡ true
    first_is n ns = ap (λ (b : Bool). b || has n ns) (let e : (n == n) ≡ true = grind (arith, nat_tests) in e)

    behind : (m n : ℕ) (ns : List ℕ) → has m ns ≡ true → has m (n ∷ ns) ≡ true
    behind m n ns is = by (n == m)
      where
        by : (b : Bool) → (b || has m ns) ≡ true
        by true = refl
        by false = is

    later : (all ns : List ℕ) → ((n : ℕ) → has n ns ≡ true → has n all ≡ true) → AllByRecursion (λ (n : ℕ). has n all ≡ true) ns
    later all [] among = tt
    later all (n ∷ ns) among = (among n (first_is n ns), later all ns (λ m is. among m (behind m n ns is)))

apart_still : (m n : ℕ) (ns : List ℕ) → (n == m) ≡ false → has m ns ≡ false → has m (ns ++ n ∷ []) ≡ false
apart_still m n [] other off = ap (λ (b : Bool). b || false) other
apart_still m n (k ∷ ns) other off = by (k == m) off (apart_still m n ns other)
  where
    by : (b : Bool) → (b || has m ns) ≡ false → (has m ns ≡ false → has m (ns ++ n ∷ []) ≡ false) → (b || has m (ns ++ n ∷ [])) ≡ false
    by true off later = absurd (let no : true ≡ false = off in cc)
    by false off later = later off

-- one more, which was none of them
pub more_distinct : (ns : List ℕ) (n : ℕ) → AreDistinct ns → has n ns ≡ false → AreDistinct (ns ++ n ∷ [])
more_distinct [] n apart off = (refl, tt)
more_distinct (m ∷ ns) n apart off = by (m == n) refl off (more_distinct ns n apart.1)
  where
    by : (b : Bool) → (m == n) ≡ b → (b || has n ns) ≡ false → (has n ns ≡ false → AreDistinct (ns ++ n ∷ []))
        → (has m (ns ++ n ∷ []) ≡ false) × AreDistinct (ns ++ n ∷ [])
    by true same off later = absurd (let no : true ≡ false = off in cc)
    by false other off later =
        let turned : (n == m) ≡ false = grind (arith, nat_tests, other) in
        (apart_still m n ns turned apart.0, later off)

-- so a boolean says that each is there once
pub apart_all : (ns : List ℕ) → AreDistinct ns → are_distinct ns ≡ true
apart_all [] apart = refl
apart_all (n ∷ ns) apart = ap (λ (b : Bool). not b && are_distinct ns) apart.0 ∙ apart_all ns apart.1

-- lists that go together are as long
pub length-zip : {A B : Type 0} (R : A → B → Type 0) (xs : List A) (ys : List B) → AllZip R xs ys → length xs ≡ length ys
length-zip R [] [] all = refl
length-zip R [] (y ∷ ys) all = absurd all
length-zip R (x ∷ xs) [] all = absurd all
length-zip R (x ∷ xs) (y ∷ ys) all = ap suc (length-zip R xs ys all.1)

-- one with the first ones of another isn't longer than that
pub no_longer : {A B : Type 0} (R : A → B → Type 0) (xs : List A) (ys : List B) → AllZip R xs (take (length xs) ys)
    → length xs ≤ length ys
no_longer R xs ys all =
    let same = length-zip R xs (take (length xs) ys) all in
    let cut : length (take (length xs) ys) ≡ min (length xs) (length ys) = length-take (length xs) ys in
    omega (arith, same, cut)
