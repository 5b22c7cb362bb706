-- What clients side by side come to, one after the other.
use Rattle.std.proofs.Common.{◌≡◌, inl, inr, ℕ, zero, suc, ◌+◌, ◌*◌, ◌^◌, ◌<◌, ◌≤◌, List, [], ◌∷◌, ◌++◌, length, map, take, drop, true}
use Rattle.std.proofs.Common.{refl, ap, sym, ◌∙◌, subst, arith}
use Rattle.std.proofs.lemmas.Bool.{false≢true}
use Rattle.std.specs.List.{AllByRecursion, AllZip}
use Rattle.std.specs.Prelude.{IfErr, IfOk, is_ok, Option, None, Some, Result, Ok, Err, slice_index_or}
use Rattle.vl_drive.specs.Knowing.{GoesOn, Knows}
use Rattle.vl_sequence.specs.Clients.{Gathers, HasActed, HasEnd, IsDone, IsFew, IsLast, IsOfLease, LeavesStopped, all_given, all_leases}
use Rattle.vl_sequence.specs.Clients.{given_of, known, last_of, leases_of, shop_of}
use Rattle.vl_sequence.specs.Counted.{ids_key, rounded_up}
use Rattle.vl_sequence.specs.Counting.{HasLeased, HasSome, IsStop, IsStopOfOne}
use Rattle.vl_sequence.specs.declared.client.Tally.{Tally}
use Rattle.vl_sequence.specs.declared.clients.Client.{Client}
use Rattle.vl_sequence.specs.declared.clients.CountFail.{CountFail}
use Rattle.vl_sequence.specs.declared.clients.CountFail.TheVariants as fails
use Rattle.vl_sequence.specs.declared.fails.SeqFail.{SeqFail}

-- ---- lists

-- what is so at each place is so of both lists
pub each_zip : {X : Type 0} (R : X → X → Type 0) (xs ys : List X) → length ys ≡ length xs
    → ((i : ℕ) (d : X) → i < length xs → R (slice_index_or xs i d) (slice_index_or ys i d)) → AllZip R xs ys
each_zip R [] [] same each = tt
each_zip R [] (y ∷ ys) same each = absurd (omega arith)
each_zip R (x ∷ xs) [] same each = absurd (omega arith)
each_zip R (x ∷ xs) (y ∷ ys) same each =
    (each 0 x (omega arith), each_zip R xs ys (omega (arith, same)) (λ i d less. each (suc i) d (omega (arith, less))))

-- what is so of each is so at each place
pub each_at : {X : Type 0} (P : X → Type 0) (xs : List X) (i : ℕ) (d : X) → AllByRecursion P xs → i < length xs
    → P (slice_index_or xs i d)
each_at P [] i d all less = absurd (omega (arith, less))
each_at P (x ∷ xs) zero d all less = all.0
each_at P (x ∷ xs) (suc i) d all less = each_at P xs i d all.1 (omega (arith, less))

pub all_more : {X : Type 0} (P : X → Type 0) (xs : List X) (x : X) → AllByRecursion P xs → P x → AllByRecursion P (xs ++ x ∷ [])
all_more P [] x all is = (is, tt)
all_more P (y ∷ ys) x all is = (all.0, all_more P ys x all.1 is)

pub map_more : {X Y : Type 0} (f : X → Y) (xs : List X) (x : X) → map f (xs ++ x ∷ []) ≡ map f xs ++ f x ∷ []
map_more f [] x = refl
map_more f (y ∷ ys) x = ap (λ zs. f y ∷ zs) (map_more f ys x)

pub map_length : {X Y : Type 0} (f : X → Y) (xs : List X) → length (map f xs) ≡ length xs
map_length f [] = refl
map_length f (x ∷ xs) = ap suc (map_length f xs)

-- what is written back through a slice of a whole list
pub written_back : {X : Type 0} (n : ℕ) (s items : List X) → n ≡ length items → length s ≡ length items
    → take n (s ++ drop (length s) items) ≡ s
written_back n s items is long = subst (λ m. take m (s ++ drop (length s) items) ≡ s) (sym is) (back s items long)
  where
    back : {Y : Type 0} (t all : List Y) → length t ≡ length all → take (length all) (t ++ drop (length t) all) ≡ t
    back [] [] long = refl
    back [] (y ∷ all) long = absurd (omega arith)
    back (y ∷ t) [] long = absurd (omega arith)
    back (y ∷ t) (z ∷ all) long = ap (λ xs. y ∷ xs) (back t all (omega (arith, long)))

-- ---- one more

module _ {S T N : Type 0} where
  pub given_more : (ps : List (Client S T N)) (p : Client S T N) → all_given (ps ++ p ∷ []) ≡ all_given ps + given_of p.end
  given_more [] p = omega arith
  given_more (q ∷ ps) p = let rest = given_more ps p in omega (arith, rest)

  pub leases_more : (ps : List (Client S T N)) (p : Client S T N) → all_leases (ps ++ p ∷ []) ≡ all_leases ps + leases_of p.end
  leases_more [] p = omega arith
  leases_more (q ∷ ps) p = let rest = leases_more ps p in omega (arith, rest)

  has_more : (why : SeqFail) (ps : List (Client S T N)) (p : Client S T N) → HasEnd why ps → HasEnd why (ps ++ p ∷ [])
  has_more why [] p has = absurd has
  has_more why (q ∷ ps) p (inl is) = inl is
  has_more why (q ∷ ps) p (inr has) = inr (has_more why ps p has)

  has_now : (why : SeqFail) (ps : List (Client S T N)) (p : Client S T N) → p.end ≡ Err why → HasEnd why (ps ++ p ∷ [])
  has_now why [] p is = inl is
  has_now why (q ∷ ps) p is = inr (has_now why ps p is)

  pub last_more : (last : Option SeqFail) (ps : List (Client S T N)) (p : Client S T N) → IsLast last ps
      → IsLast (last_of last p.end) (ps ++ p ∷ [])
  last_more last ps p is = by p.end refl last is
    where
      by : (end : Result Tally SeqFail) → p.end ≡ end → (t : Option SeqFail) → IsLast t ps → IsLast (last_of t end) (ps ++ p ∷ [])
      by (Ok tally) at None is = all_more IsDone ps p is (ap is_ok at)
      by (Ok tally) at (Some why) is = has_more why ps p is
      by (Err why) at t is = has_now why ps p at

-- ---- ends

-- what ended well has a tally
tally_of : (P Q : Tally → Type 0) (end : Result Tally SeqFail) → is_ok end ≡ true → IfOk end P → IfOk end Q
    → (tally : Tally) × (end ≡ Ok tally) × P tally × Q tally
tally_of P Q (Ok tally) done p q = (tally, refl, p, q)
tally_of P Q (Err why) done p q = absurd (false≢true done)

stop_of : (P : SeqFail → Type 0) (end : Result Tally SeqFail) (why : SeqFail) → end ≡ Err why → IfErr end P → P why
stop_of P end why is holds = subst (λ (r : Result Tally SeqFail). IfErr r P) is holds

few_end : (count : ℕ) (end : Result Tally SeqFail) (P : Tally → Type 0) → count ≤ 100000
    → IfOk end (λ (t : Tally). (t.given ≡ count) × P t) → IfOk end (λ (t : Tally). t.leases ≤ count)
    → (given_of end < 2 ^ 32) × (leases_of end < 2 ^ 32)
few_end count (Ok tally) P few given least =
    let is = given.0 in (omega (arith, is, few), omega (arith, least, few))
few_end count (Err why) P few given least = (omega arith, omega arith)

-- ---- all of them

module _ {S T N : Type 0} (knows : S → Knows) (lease count : ℕ) where
  abbrev pub all_known : List (Client S T N) → List Knows
  all_known ps = map knows (map shop_of ps)

  abbrev pub AreActed : (ps qs : List (Client S T N)) → Type 0
  AreActed ps qs = AllZip (HasActed knows count) ps qs

  pub all_few : (ps qs : List (Client S T N)) → count ≤ 100000 → AreActed ps qs → AllByRecursion IsFew qs
  all_few [] [] few zip = tt
  all_few [] (q ∷ qs) few zip = absurd zip
  all_few (p ∷ ps) [] few zip = absurd zip
  all_few (p ∷ ps) (q ∷ qs) few zip =
      (few_end count q.end (λ t. t.leases ≡ rounded_up count p.sequence.lease) few zip.0.given zip.0.few, all_few ps qs few zip.1)

  pub all_on : (ps qs : List (Client S T N)) → AreActed ps qs → AllZip GoesOn (all_known ps) (all_known qs)
  all_on [] [] zip = tt
  all_on [] (q ∷ qs) zip = absurd zip
  all_on (p ∷ ps) [] zip = absurd zip
  all_on (p ∷ ps) (q ∷ qs) zip = (zip.0.on, all_on ps qs zip.1)

  -- ---- their leases

  module _ (p q : Client S T N) (is : IsOfLease lease p) (a : HasActed knows count p q) where
    begun : HasLeased ids_key lease 0 (known knows p) → HasLeased ids_key p.sequence.lease 0 (known knows p)
    begun new = subst (λ (l : ℕ). HasLeased ids_key l 0 (known knows p)) (sym is) new

    some_of : HasLeased ids_key lease 0 (known knows p) → HasSome lease count (known knows q)
    some_of new = subst (λ (l : ℕ). HasSome l count (known knows q)) is (a.some (begun new))

    leased_of : HasLeased ids_key lease 0 (known knows p) → IsDone q → HasLeased ids_key lease (rounded_up count lease) (known knows q)
    leased_of new done =
        let x = tally_of (λ (t : Tally). (t.given ≡ count) × (t.leases ≡ rounded_up count p.sequence.lease))
        (λ (t : Tally). HasLeased ids_key p.sequence.lease t.leases (known knows q)) q.end done a.given (a.leased (begun new)) in
        subst (λ (l : ℕ). HasLeased ids_key l (rounded_up count l) (known knows q)) is
        (subst (λ (n : ℕ). HasLeased ids_key p.sequence.lease n (known knows q)) x.2.1 x.3)

    sums_of : IsDone q → (given_of q.end ≡ count) × (leases_of q.end ≡ rounded_up count lease)
    sums_of done =
        let x = tally_of (λ (t : Tally). (t.given ≡ count) × (t.leases ≡ rounded_up count p.sequence.lease))
        (λ (t : Tally). t.leases ≤ count) q.end done a.given a.few in
        (ap given_of x.1 ∙ x.2.0, ap leases_of x.1 ∙ x.2.1 ∙ ap (rounded_up count) is)

    stopped_of : (why : SeqFail) → q.end ≡ Err why → IsStop (known knows p) (known knows q) ids_key lease why
    stopped_of why ended =
        subst (λ (l : ℕ). IsStop (known knows p) (known knows q) ids_key l why) is
        (stop_of (IsStop (known knows p) (known knows q) ids_key p.sequence.lease) q.end why ended a.stopped)

  abbrev AreNew : List (Client S T N) → Type 0
  AreNew ps = AllByRecursion (HasLeased ids_key lease 0) (all_known ps)

  abbrev AreOfLease : List (Client S T N) → Type 0
  AreOfLease ps = AllByRecursion (IsOfLease lease) ps

  pub all_some : (ps qs : List (Client S T N)) → AreOfLease ps → AreNew ps → AreActed ps qs
      → AllByRecursion (HasSome lease count) (all_known qs)
  all_some [] [] of new zip = tt
  all_some [] (q ∷ qs) of new zip = absurd zip
  all_some (p ∷ ps) [] of new zip = absurd zip
  all_some (p ∷ ps) (q ∷ qs) of new zip = (some_of p q of.0 zip.0 new.0, all_some ps qs of.1 new.1 zip.1)

  pub all_leased : (ps qs : List (Client S T N)) → AreOfLease ps → AreNew ps → AreActed ps qs → AllByRecursion IsDone qs
      → AllByRecursion (HasLeased ids_key lease (rounded_up count lease)) (all_known qs)
  all_leased [] [] of new zip done = tt
  all_leased [] (q ∷ qs) of new zip done = absurd zip
  all_leased (p ∷ ps) [] of new zip done = absurd zip
  all_leased (p ∷ ps) (q ∷ qs) of new zip done =
      (leased_of p q of.0 zip.0 new.0 done.0, all_leased ps qs of.1 new.1 zip.1 done.1)

  pub all_sums : (ps qs : List (Client S T N)) → AreOfLease ps → AreActed ps qs → AllByRecursion IsDone qs
      → (all_given qs ≡ length ps * count) × (all_leases qs ≡ length ps * rounded_up count lease)
  all_sums [] [] of zip done = (omega arith, omega arith)
  all_sums [] (q ∷ qs) of zip done = absurd zip
  all_sums (p ∷ ps) [] of zip done = absurd zip
  all_sums (p ∷ ps) (q ∷ qs) of zip done =
      let here = sums_of p q of.0 zip.0 done.0 in
      let rest = all_sums ps qs of.1 zip.1 done.1 in
      let given = here.0 in
      let leases = here.1 in
      let given_rest = rest.0 in
      let leases_rest = rest.1 in (
        sum_next count (length ps) (given_of q.end) (all_given qs) given given_rest,
        sum_next (rounded_up count lease) (length ps) (leases_of q.end) (all_leases qs) leases leases_rest,
      )
    where
      sum_next : (each n one sum : ℕ) → one ≡ each → sum ≡ n * each → one + sum ≡ suc n * each
      sum_next each n one sum is rest = omega (arith, is, rest)

  -- ---- one has stopped

  pub one_stops : (why : SeqFail) (ps qs : List (Client S T N)) → AreOfLease ps → AreActed ps qs → HasEnd why qs
      → IsStopOfOne lease why (all_known ps) (all_known qs)
  one_stops why [] [] of zip has = absurd has
  one_stops why [] (q ∷ qs) of zip has = absurd zip
  one_stops why (p ∷ ps) [] of zip has = absurd zip
  one_stops why (p ∷ ps) (q ∷ qs) of zip (inl is) = inl (stopped_of p q of.0 zip.0 why is)
  one_stops why (p ∷ ps) (q ∷ qs) of zip (inr has) = inr (one_stops why ps qs of.1 zip.1 has)

-- ---- behind the threads

module _ {S T N A : Type 0} (knows : S → Knows) (lease count : ℕ) (shops : List S) (ps qs : List (Client S T N))
    (are : map shop_of ps ≡ shops) (of : AllByRecursion (IsOfLease lease) ps)
    (new : AllByRecursion (HasLeased ids_key lease 0) (map knows shops)) (zip : AreActed knows lease count ps qs)
    (items : A → List S) (result : Result A (CountFail S)) (back : IfOk result (λ (a : A). items a ≡ map shop_of qs)) where
  news : AllByRecursion (HasLeased ids_key lease 0) (all_known knows lease count ps)
  news = subst (λ (xs : List S). AllByRecursion (HasLeased ids_key lease 0) (map knows xs)) (sym are) new

  known_are : all_known knows lease count ps ≡ map knows shops
  known_are = ap (map knows) are

  on_end : (r : Result A (CountFail S)) → IfOk r (λ (a : A). items a ≡ map shop_of qs)
      → IfOk r (λ (a : A). AllZip GoesOn (map knows shops) (map knows (items a)))
  on_end (Ok a) is =
      subst (λ (xs : List S). AllZip GoesOn (map knows shops) (map knows xs)) (sym is)
      (subst (λ (vs : List Knows). AllZip GoesOn vs (all_known knows lease count qs)) known_are (all_on knows lease count ps qs zip))
  on_end (Err fail) is = is

  pub ends_on : IfOk result (λ (a : A). AllZip GoesOn (map knows shops) (map knows (items a)))
  ends_on = on_end result back

  leased_end : (r : Result A (CountFail S)) → IfOk r (λ (a : A). items a ≡ map shop_of qs)
      → IfOk r (λ (a : A). AllByRecursion IsDone qs)
      → IfOk r (λ (a : A). AllByRecursion (HasLeased ids_key lease (rounded_up count lease)) (map knows (items a)))
  leased_end (Ok a) is done =
      subst (λ (xs : List S). AllByRecursion (HasLeased ids_key lease (rounded_up count lease)) (map knows xs)) (sym is)
      (all_leased knows lease count ps qs of news zip done)
  leased_end (Err fail) is done = is

  pub ends_leased : IfOk result (λ (a : A). AllByRecursion IsDone qs)
      → IfOk result (λ (a : A). AllByRecursion (HasLeased ids_key lease (rounded_up count lease)) (map knows (items a)))
  ends_leased done = leased_end result back done

  long : length ps ≡ length shops
  long = sym (map_length shop_of ps) ∙ ap length are

  given_end : (sum : A → ℕ) (r : Result A (CountFail S)) → IfOk r (λ (a : A). AllByRecursion IsDone qs)
      → IfOk r (λ (a : A). sum a ≡ all_given qs) → IfOk r (λ (a : A). sum a ≡ length shops * count)
  given_end sum (Ok a) done is = is ∙ (all_sums knows lease count ps qs of zip done).0 ∙ ap (λ (n : ℕ). n * count) long
  given_end sum (Err fail) done is = is

  leases_end : (sum : A → ℕ) (r : Result A (CountFail S)) → IfOk r (λ (a : A). AllByRecursion IsDone qs)
      → IfOk r (λ (a : A). sum a ≡ all_leases qs) → IfOk r (λ (a : A). sum a ≡ length shops * rounded_up count lease)
  leases_end sum (Ok a) done is =
      is ∙ (all_sums knows lease count ps qs of zip done).1 ∙ ap (λ (n : ℕ). n * rounded_up count lease) long
  leases_end sum (Err fail) done is = is

  pub ends_given : (sum : A → ℕ) → IfOk result (λ (a : A). AllByRecursion IsDone qs) → IfOk result (λ (a : A). sum a ≡ all_given qs)
      → IfOk result (λ (a : A). sum a ≡ length shops * count)
  ends_given sum done is = given_end sum result done is

  pub ends_leases : (sum : A → ℕ) → IfOk result (λ (a : A). AllByRecursion IsDone qs) → IfOk result (λ (a : A). sum a ≡ all_leases qs)
      → IfOk result (λ (a : A). sum a ≡ length shops * rounded_up count lease)
  ends_leases sum done is = leases_end sum result done is

  stopped_as : (fail : CountFail S) → Gathers qs fail → LeavesStopped knows lease count (map knows shops) fail
  stopped_as fails.NoMemory gathers = tt
  stopped_as (fails.Stopped shops' why) gathers =
      let same = sym (ap (map knows) gathers.0) in (
        subst (AllZip GoesOn (map knows shops)) same
            (subst (λ (vs : List Knows). AllZip GoesOn vs (all_known knows lease count qs)) known_are (all_on knows lease count ps qs zip)),
        subst (AllByRecursion (HasSome lease count)) same (all_some knows lease count ps qs of news zip),
        gathers.1,
        subst (IsStopOfOne lease why (map knows shops)) same
            (subst (λ (vs : List Knows). IsStopOfOne lease why vs (all_known knows lease count qs)) known_are
            (one_stops knows lease count why ps qs of zip gathers.2)),
      )

  stopped_end : (r : Result A (CountFail S)) → IfErr r (Gathers qs) → IfErr r (LeavesStopped knows lease count (map knows shops))
  stopped_end (Ok a) gathers = gathers
  stopped_end (Err fail) gathers = stopped_as fail gathers

  pub ends_stopped : IfErr result (Gathers qs) → IfErr result (LeavesStopped knows lease count (map knows shops))
  ends_stopped gathers = stopped_end result gathers
