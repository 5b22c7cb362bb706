-- Laws of winners: lists end to end, one key's entries alone, and entries put in order.
use Rattle.std.proofs.Common.{◌≡◌, ◌≢◌, ℕ, Bool, true, false, cond, ◌&&◌, List, [], ◌∷◌, ◌++◌, refl, ap, sym, ◌∙◌, arith}
use Rattle.std.proofs.lemmas.Bool.Decides.{nat_tests}
use Rattle.std.proofs.lemmas.Bool.{and_parts}
use Rattle.std.specs.Prelude.{Option, Some, None, nat_le}
use Rattle.std.specs.List.{filter}
use Rattle.std.specs.declared.cmp.Ordering.{Ordering}
use Rattle.std.specs.declared.cmp.Ordering.TheVariants.{Less, Equal, Greater}
use Rattle.std.specs.Ordering.{ordering_then, nat_cmp, is_eq, eq_by_cmp}
use Rattle.std.specs.FinMap.{slice_cmp-IsAntisymmetric, nat_cmp-IsAntisymmetric, IsAntisymmetric}
use Rattle.vl_model.specs.Keys.{key_cmp}
use Rattle.vl_model.specs.Entries.{entry_cmp, by_order, put, in_order}
use Rattle.vl_model.specs.Winners.{counts, only_if, newest_of, winner}
use Rattle.vl_model.specs.declared.entry.Entry.{Entry}

-- ---- end to end

newest_of-none : (a : Option Entry) → newest_of a None ≡ a
newest_of-none None = refl
newest_of-none (Some e) = refl

three_tests : (e f g : Entry) (p q r : Bool) → nat_le f.version e.version ≡ p
    → nat_le g.version f.version ≡ q → nat_le g.version e.version ≡ r
    → newest_of (cond p (Some e) (Some f)) (Some g) ≡ newest_of (Some e) (cond q (Some f) (Some g))
three_tests e f g true true true ef fg eg = ap (λ b. cond b (Some e) (Some g)) eg ∙ sym (ap (λ b. cond b (Some e) (Some f)) ef)
three_tests e f g true true false ef fg eg = absurd (grind (arith, nat_tests))
three_tests e f g true false r ef fg eg = refl
three_tests e f g false true r ef fg eg = ap (λ b. cond b (Some f) (Some g)) fg ∙ sym (ap (λ b. cond b (Some e) (Some f)) ef)
three_tests e f g false false true ef fg eg = absurd (grind (arith, nat_tests))
three_tests e f g false false false ef fg eg = ap (λ b. cond b (Some f) (Some g)) fg ∙ sym (ap (λ b. cond b (Some e) (Some g)) eg)

pub newest_of-assoc : (a b c : Option Entry)
    → newest_of (newest_of a b) c ≡ newest_of a (newest_of b c)
newest_of-assoc None b c = refl
newest_of-assoc (Some e) None c = refl
newest_of-assoc (Some e) (Some f) None = newest_of-none (newest_of (Some e) (Some f))
newest_of-assoc (Some e) (Some f) (Some g) = three_tests e f g (nat_le f.version e.version) (nat_le g.version f.version)
    (nat_le g.version e.version) refl refl refl

module _ (key : List ℕ) (number : ℕ) where
  -- of two lists end to end the winner is the newest of their winners
  pub winner-append : (es fs : List Entry)
      → winner (es ++ fs) key number ≡ newest_of (winner es key number) (winner fs key number)
  winner-append [] fs = refl
  winner-append (e ∷ es) fs =
      ap (newest_of (only_if (counts key number e) e)) (winner-append es fs)
      ∙ sym (newest_of-assoc (only_if (counts key number e) e) (winner es key number) (winner fs key number))

  -- a part in the middle may be replaced by one that has the same winner
  pub winner-middle : (front old new back : List Entry)
      → winner old key number ≡ winner new key number
      → winner (front ++ old ++ back) key number ≡ winner (front ++ new ++ back) key number
  winner-middle front old new back same =
      winner-append (front ++ old) back
      ∙ ap (λ w. newest_of w (winner back key number))
      (winner-append front old ∙ ap (newest_of (winner front key number)) same ∙ sym (winner-append front new))
      ∙ sym (winner-append (front ++ new) back)

  -- a key's winner hangs on the entries of that key alone
  pub winner-of_key : (es : List Entry)
      → winner (filter (λ (e : Entry). eq_by_cmp key_cmp key e.key) es) key number ≡ winner es key number
  winner-of_key [] = refl
  winner-of_key (e ∷ es) =
      let mine : List Entry → List Entry = filter (λ (f : Entry). eq_by_cmp key_cmp key f.key) in
      let newest : Bool → Option Entry → Option Entry = λ b w. newest_of (only_if (b && nat_le e.version number) e) w in
      elim (eq_by_cmp key_cmp key e.key) as
      (λ b. eq_by_cmp key_cmp key e.key ≡ b → winner (cond b (e ∷ mine es) (mine es)) key number ≡ newest
      (eq_by_cmp key_cmp key e.key) (winner es key number)) [
        | true ↦ λ is. ap (newest (eq_by_cmp key_cmp key e.key)) (winner-of_key es)
        | false ↦ λ is. winner-of_key es ∙ ap (λ b. newest b (winner es key number)) (sym is)
      ] refl

-- ---- in order

pub key_exact : IsAntisymmetric key_cmp
key_exact = slice_cmp-IsAntisymmetric nat_cmp-IsAntisymmetric

is_eq-is : (r : Ordering) → is_eq r ≡ true → r ≡ Equal
is_eq-is Less tied = absurd cc
is_eq-is Equal tied = refl
is_eq-is Greater tied = absurd cc

-- keys that tie are equal
pub same_key : (k q : List ℕ) → eq_by_cmp key_cmp k q ≡ true → k ≡ q
same_key k q tied = key_exact k q (is_eq-is (key_cmp k q) tied)

then_equal : (r s : Ordering) → ordering_then r s ≡ Equal → (r ≡ Equal) × (s ≡ Equal)
then_equal Less s is = absurd cc
then_equal Equal s is = (refl, is)
then_equal Greater s is = absurd cc

versions_tied : (m n : ℕ) → m ≡ n → nat_cmp m n ≡ Equal
versions_tied m n same = grind (arith, nat_tests)

pub key_tied : (key : List ℕ) → key_cmp key key ≡ Equal
key_tied [] = refl
key_tied (b ∷ key) = ap (λ r. ordering_then r (key_cmp key key)) (versions_tied b b refl) ∙ key_tied key

-- entries that tie are of one key and version
pub entries_tied : (e f : Entry) → entry_cmp e f ≡ Equal → (e.key ≡ f.key) × (f.version ≡ e.version)
entries_tied e f tied =
    let both = then_equal (key_cmp e.key f.key) (nat_cmp f.version e.version) tied in
    (key_exact e.key f.key both.0, nat_cmp-IsAntisymmetric f.version e.version both.1)

greater_equal : Greater ≡ Equal → ⊥
greater_equal is = cc

-- two entries that count for one key and come in another order are of different versions
apart : (key : List ℕ) (number : ℕ) (e f : Entry) → counts key number e ≡ true
    → counts key number f ≡ true → entry_cmp e f ≡ Greater → e.version ≢ f.version
apart key number e f of_e of_f greater same =
    let to_e : key ≡ e.key = same_key key e.key (and_parts _ _ of_e).0 in
    let to_f : key ≡ f.key = same_key key f.key (and_parts _ _ of_f).0 in
    let keys : key_cmp e.key f.key ≡ Equal = ap (key_cmp e.key) (sym to_f ∙ to_e) ∙ key_tied e.key in
    let tied : entry_cmp e f ≡ Equal = ap (λ r. ordering_then r (nat_cmp f.version e.version)) keys
    ∙ versions_tied f.version e.version (sym same) in
    greater_equal (sym greater ∙ tied)

swapped : (e f : Entry) (p q : Bool) → e.version ≢ f.version → nat_le e.version f.version ≡ p
    → nat_le f.version e.version ≡ q → newest_of (Some f) (Some e) ≡ newest_of (Some e) (Some f)
swapped e f true true apart ef fe = absurd (grind (arith, nat_tests, apart))
swapped e f true false apart ef fe = ap (λ b. cond b (Some f) (Some e)) ef ∙ sym (ap (λ b. cond b (Some e) (Some f)) fe)
swapped e f false true apart ef fe = ap (λ b. cond b (Some f) (Some e)) ef ∙ sym (ap (λ b. cond b (Some e) (Some f)) fe)
swapped e f false false apart ef fe = absurd (grind (arith, nat_tests))

newest_of-swap : (e f : Entry) (w : Option Entry) → e.version ≢ f.version
    → newest_of (Some f) (newest_of (Some e) w) ≡ newest_of (Some e) (newest_of (Some f) w)
newest_of-swap e f w apart =
    sym (newest_of-assoc (Some f) (Some e) w)
    ∙ ap (λ x. newest_of x w) (swapped e f (nat_le e.version f.version) (nat_le f.version e.version) apart refl refl)
    ∙ newest_of-assoc (Some e) (Some f) w

module _ (key : List ℕ) (number : ℕ) where
  counted : Entry → Option Entry → Option Entry
  counted e w = newest_of (only_if (counts key number e) e) w

  -- an entry that is put behind another
  behind : (e f : Entry) (w : Option Entry) → entry_cmp e f ≡ Greater
      → counted f (counted e w) ≡ counted e (counted f w)
  unfolding counted
  behind e f w greater = by_tests (counts key number e) (counts key number f) refl refl
    where
      by_tests : (p q : Bool) → counts key number e ≡ p → counts key number f ≡ q
          → newest_of (only_if q f) (newest_of (only_if p e) w) ≡ newest_of (only_if p e) (newest_of (only_if q f) w)
      by_tests false q of_e of_f = refl
      by_tests true false of_e of_f = refl
      by_tests true true of_e of_f = newest_of-swap e f w (apart key number e f of_e of_f greater)

  -- an entry in the place of one of its key and version
  instead : (e f : Entry) (w : Option Entry) → entry_cmp e f ≡ Equal
      → counted e w ≡ counted e (counted f w)
  unfolding counted
  instead e f w tied = by_test (counts key number e) (counts key number f) alike
    where
      same : (e.key ≡ f.key) × (f.version ≡ e.version)
      same = entries_tied e f tied

      alike : counts key number f ≡ counts key number e
      alike = ap (λ k. eq_by_cmp key_cmp key k && nat_le f.version number) (sym same.0)
          ∙ ap (λ v. eq_by_cmp key_cmp key e.key && nat_le v number) same.1

      first : nat_le f.version e.version ≡ true
      first = let versions = same.1 in grind (arith, nat_tests)

      by_test : (p q : Bool) → q ≡ p
          → newest_of (only_if p e) w ≡ newest_of (only_if p e) (newest_of (only_if q f) w)
      by_test true true is = ap (λ b. newest_of (cond b (Some e) (Some f)) w) (sym first) ∙ newest_of-assoc (Some e) (Some f) w
      by_test true false is = absurd cc
      by_test false true is = absurd cc
      by_test false false is = refl

  counted-put : (e : Entry) (es : List Entry)
      → winner (put e es) key number ≡ counted e (winner es key number)
  unfolding counted
  counted-put e [] = refl
  counted-put e (f ∷ fs) =
      let w = winner fs key number in
      elim (entry_cmp e f) as (λ r. entry_cmp e f ≡ r → winner (by_order r (e ∷ f ∷ fs) (e ∷ fs) (f ∷ put e fs)) key
      number ≡ newest_of (only_if (counts key number e) e) (newest_of (only_if (counts key number f) f) w)) [
        | Less ↦ λ is. refl
        | Equal ↦ λ is. instead e f w is
        | Greater ↦ λ is. ap (newest_of (only_if (counts key number f) f)) (counted-put e fs) ∙ behind e f w is
      ] refl

  -- an entry put at its place counts as one in front does
  pub winner-put : (e : Entry) (es : List Entry)
      → winner (put e es) key number ≡ winner (e ∷ es) key number
  unfolding counted
  winner-put e es = counted-put e es

  -- to put entries in order changes no winner
  pub winner-in_order : (es : List Entry) → winner (in_order es) key number ≡ winner es key number
  winner-in_order [] = refl
  winner-in_order (e ∷ es) = winner-put e (in_order es) ∙ ap (newest_of (only_if (counts key number e) e)) (winner-in_order es)
