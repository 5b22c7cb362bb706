-- What the names of files tell, name by name, and in their order.
use Rattle.std.proofs.Common.{◌≡◌, ◌⊎◌, ℕ, suc, ◌+◌, ◌<◌, ◌≤◌, Bool, true, false, List, [], ◌∷◌, ◌++◌, ◌-◌, length}
use Rattle.std.proofs.Common.{get_or, take, refl, sym, ap, subst, ◌∙◌, arith, ⊎_elim, inl, inr, None, Some}
use Rattle.std.specs.Prelude.{nat_le, nat_lt, if◌then◌else◌, ◌≢◌, swap, AllPairs, Contains, IsPermutation, IsSortedByKey}
use Rattle.std.specs.List.Sorted.{IsNonDecreasingBy}
use Rattle.std.specs.Ordering.{nat_cmp}
use Rattle.std.proofs.lemmas.Bool.{cases_eq}
use Rattle.std.proofs.lemmas.Bool.Decides.{nat_tests}
use Rattle.std.proofs.lemmas.List.{take_more}
use Rattle.std.proofs.lemmas.List.Edits.{Swapped, length-swap, swapped_from_swap}
use Rattle.std.proofs.lemmas.List.Elements.{Contains-append_cases, Contains-append_left, Contains-append_right}
use Rattle.std.proofs.lemmas.List.Elements.{Contains-push, Contains-push_cases}
use Rattle.std.proofs.lemmas.List.Sorted.{Contains-permutation, IsNonDecreasingBy-from_sort, IsPermutation-keeps, IsPermutation-sym}
use Rattle.vl_disk.specs.Disk.{Lists}
use Rattle.vl_disk.specs.DiskState.{DiskState}
use Rattle.vl_disk.specs.Name.{name_number}
use Rattle.vl_disk.specs.declared.name.Name.{Name}
use Rattle.vl_disk.specs.declared.name.Name.TheVariants.{Log, Table, Manifest}
use Rattle.vl_recover.specs.opening.Named.{AreGreatestIn, AreRising, IsGreatestIn, IsGreatestOf, IsLeastOf, IsLogFrom}
use Rattle.vl_recover.specs.opening.Named.{IsManifestBelow, greater, greatest_with, log_from, manifest_below}
use Rattle.vl_recover.specs.opening.Plans.{Greatest}

-- ---- where a name is

pub nothing_in : (name : Name) → Contains [] name → ⊥
nothing_in name c = let within = c.1 in omega (arith, within)

pub Contains-first : (name : Name) (names : List Name) → Contains (name ∷ names) name
Contains-first name names = (0, omega arith, refl)

pub Contains-later : (first name : Name) (names : List Name) → Contains names name → Contains (first ∷ names) name
Contains-later first name names c = Contains-append_right (first ∷ []) names name c

pub Contains-cases : (first name : Name) (names : List Name) → Contains (first ∷ names) name → (first ≡ name) ⊎ Contains names name
Contains-cases first name names c = ⊎_elim (λ (one : Contains (first ∷ []) name). inl (only one))
    (λ (rest : Contains names name). inr rest) (Contains-append_cases (first ∷ []) names name c)
  where
    only : Contains (first ∷ []) name → first ≡ name
    only one = ⊎_elim (λ (none : Contains [] name). absurd (nothing_in name none)) (λ (e : first ≡ name). e)
        (Contains-push_cases [] first name one)

-- ---- names of one kind

same_log : (m n : ℕ) → Log m ≡ Log n → m ≡ n
same_log m n e = cc

same_table : (m n : ℕ) → Table m ≡ Table n → m ≡ n
same_table m n e = cc

same_manifest : (m n : ℕ) → Manifest m ≡ Manifest n → m ≡ n
same_manifest m n e = cc

-- ---- the greatest of each kind

module _ (names : List Name) where
  greatest_kept : (kind : ℕ → Name) (name : Name) → ((n : ℕ) → name ≡ kind n → ⊥) → (g : ℕ) → IsGreatestIn names kind g
      → IsGreatestIn (names ++ name ∷ []) kind g
  greatest_kept kind name other g is = record {
    above = λ m c. ⊎_elim (λ (old : Contains names (kind m)). is.above m old)
        (λ (e : name ≡ kind m). absurd (other m e)) (Contains-push_cases names name (kind m) c);
    is_there = λ some. Contains-append_left names (name ∷ []) (kind g) (is.is_there some);
  }

  greatest_grown : (kind : ℕ → Name) → ((m n : ℕ) → kind m ≡ kind n → m ≡ n) → (number g : ℕ)
      → IsGreatestIn names kind g → IsGreatestIn (names ++ kind number ∷ []) kind (greater number g)
  greatest_grown kind one number g is = by (nat_le number g) refl
    where
      by : (b : Bool) → nat_le number g ≡ b → IsGreatestIn (names ++ kind number ∷ []) kind (if b then g else number)
      by true le =
          let below : number ≤ g = grind (arith, nat_tests) in
          record {
            above = λ m c. ⊎_elim (λ (old : Contains names (kind m)). is.above m old)
                (λ (e : kind number ≡ kind m). let same = one number m e in omega (arith, same, below))
                (Contains-push_cases names (kind number) (kind m) c);
            is_there = λ some. Contains-append_left names (kind number ∷ []) (kind g) (is.is_there some);
          }
      by false le =
          let past : g < number = grind (arith, nat_tests) in
          record {
            above = λ m c. ⊎_elim (λ (old : Contains names (kind m)). let most = is.above m old in omega
                (arith, most, past)) (λ (e : kind number ≡ kind m). let same = one number m e in omega (arith, same))
                (Contains-push_cases names (kind number) (kind m) c);
            is_there = λ some. Contains-push names (kind number);
          }

  pub greatest_more_names : (name : Name) (g : Greatest) → AreGreatestIn names g → AreGreatestIn (names ++ name ∷ []) (greatest_with name g)
  greatest_more_names (Log number) g are = record {
    log = greatest_grown Log same_log number g.log are.log;
    table = greatest_kept Table (Log number) (λ n e. cc) g.table are.table;
    manifest = greatest_kept Manifest (Log number) (λ n e. cc) g.manifest are.manifest;
  }
  greatest_more_names (Table number) g are = record {
    log = greatest_kept Log (Table number) (λ n e. cc) g.log are.log;
    table = greatest_grown Table same_table number g.table are.table;
    manifest = greatest_kept Manifest (Table number) (λ n e. cc) g.manifest are.manifest;
  }
  greatest_more_names (Manifest number) g are = record {
    log = greatest_kept Log (Manifest number) (λ n e. cc) g.log are.log;
    table = greatest_kept Table (Manifest number) (λ n e. cc) g.table are.table;
    manifest = greatest_grown Manifest same_manifest number g.manifest are.manifest;
  }

-- among no names none is found
pub no_greatest : AreGreatestIn [] (record { log = 0; table = 0; manifest = 0 })
no_greatest = record { log = none Log; table = none Table; manifest = none Manifest }
  where
    none : (kind : ℕ → Name) → IsGreatestIn [] kind 0
    none kind = record { above = λ m c. absurd (nothing_in (kind m) c); is_there = λ some. absurd (omega (arith, some)) }

-- ---- names in order

either : (a b : ℕ) → a ≢ b → (a < b) ⊎ (b < a)
either a b other = by (nat_lt a b) refl
  where
    by : (t : Bool) → nat_lt a b ≡ t → (a < b) ⊎ (b < a)
    by true lt = inl (grind (arith, nat_tests))
    by false lt = let not : b ≤ a = grind (arith, nat_tests) in inr (omega (arith, not, other))

-- what stands at a place stood at another, the same for both ways of a swap
module _ (f g : ℕ → Name) (i j n : ℕ) (i-in : i < n) (j-in : j < n) (swaps : Swapped f g i j) where
  abbrev Moved : ℕ → ℕ → Type 0
  Moved m p = ((m ≡ i) × (p ≡ j)) ⊎ (((m ≡ j) × (p ≡ i)) ⊎ ((m ≢ i) × (m ≢ j) × (p ≡ m)))

  record Stood (m : ℕ) : Type 0 where
    at : ℕ
    within : at < n
    same : g m ≡ f at
    moved : Moved m at

  stood : (m : ℕ) → m < n → Stood m
  stood m m-in = ⊎_elim
      (λ (e : m ≡ i). record { at = j; within = j-in; same = ap g e ∙ swaps.0; moved = inl (e, refl) })
      (λ (not_i : m ≢ i). ⊎_elim
      (λ (e : m ≡ j). record { at = i; within = i-in; same = ap g e ∙ swaps.1; moved = inr (inl (e, refl)) })
      (λ (not_j : m ≢ j). record { at = m; within = m-in; same = swaps.2 m not_i not_j; moved = inr (inr (not_i, not_j, refl)) })
      (cases_eq m j))
      (cases_eq m i)

  apart : (a b p q : ℕ) → a < b → Moved a p → Moved b q → p ≡ q → ⊥
  apart a b p q lt from to e = ⊎_elim
      (λ (x : (a ≡ i) × (p ≡ j)). ⊎_elim
      (λ (y : (b ≡ i) × (q ≡ j)). omega (arith, lt, x.0, y.0))
      (λ (rest : ((b ≡ j) × (q ≡ i)) ⊎ ((b ≢ i) × (b ≢ j) × (q ≡ b))). ⊎_elim
      (λ (y : (b ≡ j) × (q ≡ i)). omega (arith, lt, x.0, x.1, y.0, y.1, e))
      (λ (y : (b ≢ i) × (b ≢ j) × (q ≡ b)). y.1 (omega (arith, x.1, y.2, e))) rest) to)
      (λ (others : ((a ≡ j) × (p ≡ i)) ⊎ ((a ≢ i) × (a ≢ j) × (p ≡ a))). ⊎_elim
      (λ (x : (a ≡ j) × (p ≡ i)). ⊎_elim
      (λ (y : (b ≡ i) × (q ≡ j)). omega (arith, lt, x.0, x.1, y.0, y.1, e))
      (λ (rest : ((b ≡ j) × (q ≡ i)) ⊎ ((b ≢ i) × (b ≢ j) × (q ≡ b))). ⊎_elim
      (λ (y : (b ≡ j) × (q ≡ i)). omega (arith, lt, x.0, y.0))
      (λ (y : (b ≢ i) × (b ≢ j) × (q ≡ b)). y.0 (omega (arith, x.1, y.2, e))) rest) to)
      (λ (x : (a ≢ i) × (a ≢ j) × (p ≡ a)). ⊎_elim
      (λ (y : (b ≡ i) × (q ≡ j)). x.1 (omega (arith, x.2, y.1, e)))
      (λ (rest : ((b ≡ j) × (q ≡ i)) ⊎ ((b ≢ i) × (b ≢ j) × (q ≡ b))). ⊎_elim
      (λ (y : (b ≡ j) × (q ≡ i)). x.0 (omega (arith, x.2, y.1, e)))
      (λ (y : (b ≢ i) × (b ≢ j) × (q ≡ b)). omega (arith, lt, x.2, y.2, e)) rest) to) others)
      from

  swapped_once : ((a b : ℕ) → a < b → b < n → f a ≢ f b) → (a b : ℕ) → a < b → b < n → g a ≢ g b
  swapped_once once a b lt b-in e =
      let s = stood a (omega (arith, lt, b-in)) in
      let t = stood b b-in in
      let same : f s.at ≡ f t.at = sym s.same ∙ e ∙ t.same in
      ⊎_elim
      (λ (tie : s.at ≡ t.at). apart a b s.at t.at lt s.moved t.moved tie)
      (λ (other : s.at ≢ t.at). ⊎_elim
      (λ (less : s.at < t.at). once s.at t.at less t.within same)
      (λ (more : t.at < s.at). once t.at s.at more s.within (sym same))
      (either s.at t.at other))
      (cases_eq s.at t.at)

-- Names in another order are each there once too.
pub once_permuted : (xs ys : List Name) → IsPermutation xs ys → AllPairs (λ a b. a ≢ b) xs → AllPairs (λ a b. a ≢ b) ys
once_permuted xs ys same once = IsPermutation-keeps xs (AllPairs (λ a b. a ≢ b)) once
    (λ l i j i-in j-in p a b d lt b-in.
    let size = length-swap l i j in
    let within : b < length l = omega (arith, size, b-in) in
    swapped_once (λ k. get_or l k d) (λ k. get_or (swap l i j) k d) i j (length l) i-in j-in
    (swapped_from_swap l (swap l i j) i j d i-in j-in refl)
    (λ a b lt b-in. p a b d lt b-in) a b lt within)
    ys same

pub lists_permuted : (xs ys : List Name) (disk : DiskState) → IsPermutation xs ys → Lists xs disk → Lists ys disk
lists_permuted xs ys disk same lists = record {
  all = λ name. (
    λ c. (lists.all name).0 (Contains-permutation ys xs name (IsPermutation-sym xs ys same) c),
    λ stands.
        Contains-permutation xs ys name same ((lists.all name).1 stands),
  );
  once = once_permuted xs ys same lists.once;
}

rising_from : (names : List Name) → IsNonDecreasingBy name_number names → AreRising names
rising_from [] up = tt
rising_from (name ∷ names) up = (
  λ other c. subst (λ (o : Name). name_number name ≤ name_number o) c.2
      (up 0 (suc c.0) other (omega arith) (let within = c.1 in omega (arith, within))),
  rising_from names (λ i j d le within. up (suc i) (suc j) d (omega (arith, le)) (omega (arith, within))),
)

-- a sort puts them in order
pub sorted_rising : (names : List Name) → IsSortedByKey name_number nat_cmp names → AreRising names
sorted_rising names sorted = rising_from names (IsNonDecreasingBy-from_sort name_number names sorted)

-- the last of names in order is the greatest, and those before it are in order
pub rising_front : (others : List Name) (last : Name) → AreRising (others ++ last ∷ []) → AreRising others
rising_front [] last up = tt
rising_front (name ∷ others) last
    up = (λ other c. up.0 other (Contains-append_left others (last ∷ []) other c), rising_front others last up.1)

rising_last : (others : List Name) (last other : Name) → AreRising (others ++ last ∷ []) → Contains others other
    → name_number other ≤ name_number last
rising_last [] last other up c = absurd (nothing_in other c)
rising_last (name ∷ others) last other up c = ⊎_elim
    (λ (e : name ≡ other). subst (λ (o : Name). name_number o ≤ name_number last) e (up.0 last (Contains-push others last)))
    (λ (rest : Contains others other). rising_last others last other up.1 rest)
    (Contains-cases name other others c)

-- ---- logs from the least on, in order

-- the logs from a number on are still to come
pub record LogsToCome (names : List Name) (least : ℕ) (left : List Name) : Type 0 where
  pub part : (name : Name) → Contains left name → Contains names name
  pub all : (n : ℕ) → IsLogFrom names least n → Contains left (Log n)
  pub rising : AreRising left

module _ (names : List Name) where
  pub all_to_come : (least : ℕ) → AreRising names → LogsToCome names least names
  all_to_come least rising = record { part = λ name c. c; all = λ n is. is.0; rising = rising }

  from_rest : (least : ℕ) (name : Name) (left : List Name) → LogsToCome names least (name ∷ left) → (more : ℕ)
      → least ≤ more → ((n : ℕ) → more ≤ n → name ≢ Log n) → LogsToCome names more left
  from_rest least name left come more above other = record {
    part = λ n c. come.part n (Contains-later name n left c);
    all = λ n is. ⊎_elim (λ (e : name ≡ Log n). absurd (other n is.1 e)) (λ (c : Contains left (Log n)). c)
        (Contains-cases name (Log n) left (come.all n (is.0, (let from = is.1 in omega (arith, from, above)))));
    rising = come.rising.1;
  }

  -- a name that is none of them
  pub not_come : (least : ℕ) (name : Name) (left : List Name) → LogsToCome names least (name ∷ left)
      → log_from least name ≡ None → LogsToCome names least left
  not_come least (Log number) left come none = by (nat_le least number) refl
    where
      some_none : Some number ≡ None → ⊥
      some_none e = cc

      by : (b : Bool) → nat_le least number ≡ b → LogsToCome names least left
      by true le = absurd (some_none (sym (ap (λ (b : Bool). if b then Some number else None) le) ∙ none))
      by false le = from_rest least (Log number) left come least (omega arith)
          (λ n from e. let same = same_log number n e in let below : number < least = grind (arith, nat_tests) in omega
          (arith, same, below, from))
  not_come least (Table number) left come none = from_rest least (Table number) left come least (omega arith) (λ n from e. cc)
  not_come least (Manifest number) left come none = from_rest least (Manifest number) left come least (omega arith) (λ n from e. cc)

  -- the next one
  pub record IsNextNamed (least number : ℕ) (left : List Name) : Type 0 where
    pub first : IsLeastOf (IsLogFrom names least) (Some number)
    pub come : LogsToCome names (number + 1) left

  pub next_come : (least : ℕ) (name : Name) (number : ℕ) (left : List Name) → LogsToCome names least (name ∷ left)
      → log_from least name ≡ Some number → IsNextNamed least number left
  next_come least (Table m) number left come is = absurd cc
  next_come least (Manifest m) number left come is = absurd cc
  next_come least (Log m) number left come is = by (nat_le least m) refl
    where
      none_some : None ≡ Some number → ⊥
      none_some e = cc

      one : Some m ≡ Some number → m ≡ number
      one e = cc

      by : (b : Bool) → nat_le least m ≡ b → IsNextNamed least number left
      by false le = absurd (none_some (sym (ap (λ (b : Bool). if b then Some m else None) le) ∙ is))
      by true le =
          let from : least ≤ m = grind (arith, nat_tests) in
          subst (λ (k : ℕ). IsNextNamed least k left) (one (sym (ap (λ (b : Bool). if b then Some m else None) le) ∙ is)) (record {
            first = (
              (come.part (Log m) (Contains-first (Log m) left), from),
              λ n q. ⊎_elim (λ (e : Log m ≡ Log n). let same = same_log m n e in omega (arith, same))
                  (λ (c : Contains left (Log n)). let up = come.rising.0 (Log n) c in omega (arith, up))
                  (Contains-cases (Log m) (Log n) left (come.all n q)),
            );
            come = from_rest least (Log m) left come (m + 1) (omega (arith, from))
                (λ n above e. let same = same_log m n e in omega (arith, same, above));
          })

  pub none_come : (least : ℕ) → LogsToCome names least [] → IsLeastOf (IsLogFrom names least) None
  none_come least come n q = nothing_in (Log n) (come.all n q)

-- ---- manifests below one, from the last on

pub record ManifestsLeft (names : List Name) (above : ℕ) (left : List Name) : Type 0 where
  pub part : (name : Name) → Contains left name → Contains names name
  pub all : (n : ℕ) → IsManifestBelow names above n → Contains left (Manifest n)
  pub rising : AreRising left

module _ (names : List Name) where
  pub all_left : (above : ℕ) → AreRising names → ManifestsLeft names above names
  all_left above rising = record { part = λ name c. c; all = λ n is. is.0; rising = rising }

  from_front : (above : ℕ) (others : List Name) (last : Name) → ManifestsLeft names above (others ++ last ∷ [])
      → (less : ℕ) → less ≤ above → ((n : ℕ) → n < less → last ≢ Manifest n) → ManifestsLeft names less others
  from_front above others last left less below other = record {
    part = λ n c. left.part n (Contains-append_left others (last ∷ []) n c);
    all = λ n is. ⊎_elim (λ (c : Contains others (Manifest n)). c) (λ (e : last ≡ Manifest n). absurd (other n is.1 e))
        (Contains-push_cases others last (Manifest n) (left.all n (is.0, (let lt = is.1 in omega (arith, lt, below)))));
    rising = rising_front others last left.rising;
  }

  pub not_left : (above : ℕ) (others : List Name) (last : Name) → ManifestsLeft names above (others ++ last ∷ [])
      → manifest_below above last ≡ None → ManifestsLeft names above others
  not_left above others (Log number) left none = from_front above others (Log number) left above (omega arith) (λ n lt e. cc)
  not_left above others (Table number) left none = from_front above others (Table number) left above (omega arith) (λ n lt e. cc)
  not_left above others (Manifest number) left none = by (nat_lt number above) refl
    where
      some_none : Some number ≡ None → ⊥
      some_none e = cc

      by : (b : Bool) → nat_lt number above ≡ b → ManifestsLeft names above others
      by true lt = absurd (some_none (sym (ap (λ (b : Bool). if b then Some number else None) lt) ∙ none))
      by false lt = from_front above others (Manifest number) left above (omega arith)
          (λ n below e. let same = same_manifest number n e in let past : above ≤ number = grind (arith, nat_tests)
          in omega (arith, same, past, below))

  pub record IsNextLeft (above number : ℕ) (others : List Name) : Type 0 where
    pub next : IsGreatestOf (IsManifestBelow names above) (Some number)
    pub left : ManifestsLeft names number others

  pub next_left : (above : ℕ) (others : List Name) (last : Name) (number : ℕ)
      → ManifestsLeft names above (others ++ last ∷ []) → manifest_below above last ≡ Some number → IsNextLeft above number others
  next_left above others (Log m) number left is = absurd cc
  next_left above others (Table m) number left is = absurd cc
  next_left above others (Manifest m) number left is = by (nat_lt m above) refl
    where
      none_some : None ≡ Some number → ⊥
      none_some e = cc

      one : Some m ≡ Some number → m ≡ number
      one e = cc

      by : (b : Bool) → nat_lt m above ≡ b → IsNextLeft above number others
      by false lt = absurd (none_some (sym (ap (λ (b : Bool). if b then Some m else None) lt) ∙ is))
      by true lt =
          let below : m < above = grind (arith, nat_tests) in
          subst (λ (k : ℕ). IsNextLeft above k others) (one (sym (ap (λ (b : Bool). if b then Some m else None) lt) ∙ is)) (record {
            next = (
              (left.part (Manifest m) (Contains-push others (Manifest m)), below),
              λ n q. ⊎_elim (λ (c : Contains others (Manifest n)). let up = rising_last others (Manifest m) (Manifest n)
                  left.rising c in omega (arith, up))
                  (λ (e : Manifest m ≡ Manifest n). let same = same_manifest m n e in omega (arith, same))
                  (Contains-push_cases others (Manifest m) (Manifest n) (left.all n q)),
            );
            left = from_front above others (Manifest m) left m (omega (arith, below))
                (λ n lt e. let same = same_manifest m n e in omega (arith, same, lt));
          })

  pub none_left : (above : ℕ) → ManifestsLeft names above [] → IsGreatestOf (IsManifestBelow names above) None
  none_left above left n q = nothing_in (Manifest n) (left.all n q)

-- the names but the last so many, and one of them fewer
pub last_of_front : (names : List Name) (i : ℕ) (d : Name) → i < length names
    → take (length names - i) names ≡ take (length names - (i + 1)) names ++ get_or names (length names - 1 - i) d ∷ []
last_of_front names i d within =
    let k = length names - 1 - i in
    let more : length names - i ≡ k + 1 = omega (arith, within) in
    let less : length names - (i + 1) ≡ k = omega (arith, within) in
    ap (λ (n : ℕ). take n names) more ∙ take_more names k d (omega (arith, within))
    ∙ ap (λ (n : ℕ). take n names ++ get_or names k d ∷ []) (sym less)

pub no_front : (names : List Name) (i : ℕ) → length names ≤ i → take (length names - i) names ≡ []
no_front names i past = let none : length names - i ≡ 0 = omega (arith, past) in ap (λ (n : ℕ). take n names) none
