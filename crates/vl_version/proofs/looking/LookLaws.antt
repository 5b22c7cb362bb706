-- What newer and older sources have of a key, one behind the other.
use Rattle.std.specs.Prelude.{◌≡◌, ◌≤◌, ◌<◌, ◌&&◌, ◌==◌, ℕ, Bool, true, false, max, nat_le, nat_lt, List, [], ◌∷◌, ◌++◌, Option, Some, None}
use Rattle.std.specs.Ordering.{eq_by_cmp}
use Rattle.std.proofs.Common.{refl, ap, ◌∙◌, arith, cond}
use Rattle.std.proofs.lemmas.Bool.Decides.{nat_tests}
use Rattle.vl_model.specs.Keys.{key_cmp}
use Rattle.vl_model.specs.Winners.{counts, exact, newest_of, only_if, winner}
use Rattle.vl_model.specs.laws.WinnerLaws.{newest_of-assoc, winner-append}
use Rattle.vl_model.specs.declared.entry.Entry.{Entry}
use Rattle.vl_model.specs.laws.Exact.{exact-append}
use Rattle.vl_table.specs.body.Bytes.{greatest_version}
use Rattle.vl_table.specs.laws.KeyRanges.{HasNone, exact-none, winner-none}
use Rattle.vl_version.specs.declared.levels.look.Look.{Look}
use Rattle.vl_version.specs.declared.levels.look.Look.TheVariants.{UpTo, Exactly}
use Rattle.vl_version.specs.levels.Looks.{better, is_wanted, sought}

pub sought-append : (look : Look) (key : List ℕ) (es fs : List Entry)
    → sought look key (es ++ fs) ≡ better look (sought look key es) (sought look key fs)
sought-append (UpTo number) key es fs = winner-append key number es fs
sought-append (Exactly version) key es fs = exact-append key version es fs

pub sought-none : (look : Look) (key : List ℕ) (es : List Entry) → HasNone key es → sought look key es ≡ None
sought-none (UpTo number) key es none = winner-none key number es none
sought-none (Exactly version) key es none = exact-none key version es none

pub better-none : (look : Look) (found : Option Entry) → better look None found ≡ found
better-none (UpTo number) found = refl
better-none (Exactly version) found = refl

pub none-better : (look : Look) (found : Option Entry) → better look found None ≡ found
none-better (UpTo number) None = refl
none-better (UpTo number) (Some e) = refl
none-better (Exactly version) None = refl
none-better (Exactly version) (Some e) = refl

pub better-assoc : (look : Look) (a b c : Option Entry) → better look (better look a b) c ≡ better look a (better look b c)
better-assoc (UpTo number) a b c = newest_of-assoc a b c
better-assoc (Exactly version) None b c = refl
better-assoc (Exactly version) (Some e) b c = refl

-- only a part has the key
pub sought-middle : (look : Look) (key : List ℕ) (front es back : List Entry) → HasNone key front → HasNone key back
    → sought look key (front ++ (es ++ back)) ≡ sought look key es
sought-middle look key front es back none none_behind =
    sought-append look key front (es ++ back) ∙ ap (λ o. better look o (sought look key (es ++ back))) (sought-none look key front none)
    ∙ better-none look (sought look key (es ++ back)) ∙ sought-append look key es back
    ∙ ap (better look (sought look key es)) (sought-none look key back none_behind) ∙ none-better look (sought look key es)

-- ---- versions

-- no entry is above the greatest version
pub winner-bounded : (es : List Entry) (key : List ℕ) (number : ℕ) (f : Entry) → winner es key number ≡ Some f
    → f.version ≤ greatest_version es
winner-bounded [] key number f is = absurd cc
winner-bounded (e ∷ es) key number f is = by (λ g some. winner-bounded es key number g some) (counts key number e)
    (winner es key number) refl is
  where
    same : (a b : Entry) → Some a ≡ Some b → a ≡ b
    same a b e = cc

    of_two : (g : Entry) (t : Bool) → g.version ≤ greatest_version es → cond t (Some e) (Some g) ≡ Some f
        → f.version ≤ max e.version (greatest_version es)
    of_two g true le is = omega (arith, ap (λ (x : Entry). x.version) (same e f is))
    of_two g false le is = omega (arith, le, ap (λ (x : Entry). x.version) (same g f is))

    by : ((g : Entry) → winner es key number ≡ Some g → g.version ≤ greatest_version es) → (t : Bool) (w : Option Entry)
        → winner es key number ≡ w → newest_of (only_if t e) w ≡ Some f → f.version ≤ max e.version (greatest_version es)
    by later true None none is = omega (arith, ap (λ (x : Entry). x.version) (same e f is))
    by later true (Some g) some is = of_two g (nat_le g.version e.version) (later g some) is
    by later false None none is = absurd cc
    by later false (Some g) some is = omega (arith, later g some, ap (λ (x : Entry). x.version) (same g f is))

-- and none has a version above it
pub exact-above : (es : List Entry) (key : List ℕ) (version : ℕ) → greatest_version es < version → exact es key version ≡ None
exact-above [] key version above = refl
exact-above (e ∷ es) key version above = by (eq_by_cmp key_cmp key e.key) ∙ exact-above es key version (omega (arith, above))
  where
    apart : (m n : ℕ) → m < n → (m == n) ≡ false
    apart m n less = grind (arith, nat_tests)

    by : (t : Bool) → cond (t && (e.version == version)) (Some e) (exact es key version) ≡ exact es key version
    by true = ap (λ (t : Bool). cond t (Some e) (exact es key version)) (apart e.version version (omega (arith, above)))
    by false = refl

-- a source that isn't wanted has nothing that counts more
pub unwanted : (look : Look) (key : List ℕ) (best : Option Entry) (es : List Entry) (greatest : ℕ) → greatest ≡ greatest_version es
    → is_wanted look best greatest ≡ false → better look best (sought look key es) ≡ best
unwanted (UpTo number) key None es greatest is refused = absurd cc
unwanted (UpTo number) key (Some b) es greatest is refused = by (winner es key number) refl
  where
    not_less : (m n : ℕ) → nat_lt m n ≡ false → n ≤ m
    not_less m n is = grind (arith, nat_tests)

    at_most : (m n : ℕ) → m ≤ n → nat_le m n ≡ true
    at_most m n le = grind (arith, nat_tests)

    by : (w : Option Entry) → winner es key number ≡ w → newest_of (Some b) w ≡ Some b
    by None none = refl
    by (Some f) some =
        ap (λ (t : Bool). cond t (Some b) (Some f))
        (at_most f.version b.version (omega (arith, winner-bounded es key number f some, not_less b.version greatest refused, is)))
unwanted (Exactly version) key None es greatest is refused = exact-above es key version (omega (arith, is, not_le version greatest refused))
  where
    not_le : (m n : ℕ) → nat_le m n ≡ false → n < m
    not_le m n is = grind (arith, nat_tests)
unwanted (Exactly version) key (Some b) es greatest is refused = refl
