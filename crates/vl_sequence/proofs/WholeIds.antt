-- Clients over a whole store, from its opening to its close: what the key tells then, and why no call of theirs could have stopped.
use Rattle.std.proofs.Common.{◌≡◌, ◌≢◌, inl, inr, ℕ, zero, suc, ◌+◌, ◌*◌, ◌<◌, ◌≤◌, ◌==◌, Bool, true, false, cond, List, [], ◌∷◌, ◌++◌, length}
use Rattle.std.proofs.Common.{refl, ap, sym, ◌∙◌, subst, arith}
use Rattle.std.proofs.lemmas.Bool.{false≢true}
use Rattle.std.proofs.lemmas.Bool.Decides.{nat_tests}
use Rattle.std.proofs.lemmas.Nat.{mul-le}
use Rattle.std.proofs.lemmas.List.{nil_from_length}
use Rattle.std.specs.FinMap.{empty, entries, len, len-empty, len-entries}
use Rattle.std.specs.List.{AllByRecursion, AllZip, filter}
use Rattle.std.specs.Ordering.{nat_cmp}
use Rattle.std.specs.Prelude.{None, Option, Some, map, nat_le}
use Rattle.byteorder.specs.Endian.{big_number}
use Rattle.vl_drive.specs.Accounts.{sum_of}
use Rattle.vl_drive.specs.Driven.{AreIn, IsClosed}
use Rattle.vl_drive.specs.Knowing.{GoesOn, Knows}
use Rattle.vl_drive.specs.Modest.{AreModest}
use Rattle.vl_drive.specs.Steps.{Origin, count_by, history_by, is_put, layout_by}
use Rattle.vl_drive.specs.Stores.{AreFirst, AreOf, Opened}
use Rattle.vl_drive.specs.laws.CountLaws.{by_session, commits-counted}
use Rattle.vl_drive.specs.laws.StepLaws.{counted_parts}
use Rattle.vl_engine_model.specs.LockHistory.{HasOpen, commits_of, entries_by, nothing_open}
use Rattle.vl_engine_model.specs.Rulings.Begin.{TooMany, begin_ruling}
use Rattle.vl_engine_model.specs.Rulings.Commit.{Exhausted, Transaction, commit_ruling}
use Rattle.vl_engine_model.specs.declared.lock_history.LockEntry.{LockEntry}
use Rattle.vl_engine_model.specs.laws.LockHistoryLaws.{none≢some}
use Rattle.vl_model.specs.History.{last_change, value_left}
use Rattle.vl_model.specs.Keys.{Stored, Writes}
use Rattle.vl_model.specs.Limits.{max_commit_number}
use Rattle.vl_model.specs.declared.counter.Counter.TheVariants.{Commit as CommitNumber}
use Rattle.vl_sequence.proofs.Beginnings.{begins_more}
use Rattle.vl_sequence.proofs.Committed.{committed_modest}
use Rattle.vl_sequence.proofs.Leased.{counted_in, leased_front, leased_in, leased_new}
use Rattle.vl_sequence.proofs.Telling.{TellsBy, all_told}
use Rattle.vl_sequence.specs.Causes.{IsMalformed, IsSpent, lease_txn}
use Rattle.vl_sequence.specs.Counted.{AreLeased, IsCounted, ids_key, rounded_up}
use Rattle.vl_sequence.specs.Counting.{HasLeased, HasSome, IsStop, IsStopOfOne, is_want}
use Rattle.vl_sequence.specs.Leases.{number_in}
use Rattle.vl_sequence.specs.Sequences.{most_number}
use Rattle.vl_sequence.specs.Takings.{first_value, last_value}
use Rattle.vl_sequence.specs.laws.LeaseLaws.{some_same}
use Rattle.vl_sequence.specs.declared.fails.SeqFail.{SeqFail}
use Rattle.vl_sequence.specs.declared.fails.SeqFail.TheVariants as fail
use Rattle.vl_sequence.specs.declared.ids.Counted.{Counted}
use mathlib.Core.List.{IsPrefix}

-- ---- its shops

-- they stay its shops
pub of_later : (o : Opened) (first : ℕ) (vs ws : List Knows) → AreFirst o first vs → AllZip GoesOn vs ws → AreOf o first ws
of_later o first [] [] are zip = tt
of_later o first [] (w ∷ ws) are zip = absurd zip
of_later o first (v ∷ vs) [] are zip = absurd zip
of_later o first (v ∷ vs) (w ∷ ws) are zip = (
  record {
    store_is = zip.0.store ∙ are.0.of.store_is;
    origin_is = zip.0.origin ∙ are.0.of.origin_is;
    session_is = zip.0.session ∙ are.0.of.session_is;
  },
  of_later o (first + 1) vs ws are.1 zip.1,
)

-- and have leased nothing before their first step
pub first_new : (lease : ℕ) (o : Opened) (first : ℕ) (vs : List Knows) → AreFirst o first vs
    → AllByRecursion (HasLeased ids_key lease 0) vs
first_new lease o first [] are = tt
first_new lease o first (v ∷ vs) are = (leased_new ids_key lease v are.0.own are.0.seen, first_new lease o (first + 1) vs are.1)

pub zip_length : (vs ws : List Knows) → AllZip GoesOn vs ws → length ws ≡ length vs
zip_length [] [] zip = refl
zip_length [] (w ∷ ws) zip = absurd zip
zip_length (v ∷ vs) [] zip = absurd zip
zip_length (v ∷ vs) (w ∷ ws) zip = ap suc (zip_length vs ws zip.1)

-- nothing stands in a new store, so the key tells 1
pub first_told : (o : Origin) (key : List ℕ) → o.base ≡ empty → number_in (first_value o key) ≡ Some 1
first_told o key none = ap (λ (es : List (ℕ × Writes)).
    number_in (value_left None (last_change (map (λ (c : ℕ × Writes). c.1) (filter (λ (c : ℕ × Writes). nat_le c.0 o.number) es)) key)))
    (nil_from_length (entries o.base) (sym (len-entries o.base) ∙ ap len none ∙ len-empty nat_cmp Writes))

-- ---- each session

module _ (o : Origin) (P : Knows → Type 0) (list : List LockEntry) where
  -- what a session's shop knows
  pub record IsAt (session : ℕ) : Type 0 where
    pub shop : Knows
    pub origin_is : shop.origin ≡ o
    pub session_is : shop.session ≡ session
    pub seen : IsPrefix shop.seen list
    pub own : shop.own ≡ entries_by session list
    pub so : P shop

  shop_at : (ws : List Knows) (first k : ℕ) → AreIn o first list ws → AllByRecursion P ws → first ≤ k → k < first + length ws → IsAt k
  shop_at [] first k are all le less = absurd (omega (arith, le, less))
  shop_at (w ∷ ws) first k are all le less = by (first == k) refl
      (λ above. shop_at ws (first + 1) k are.4 all.1 above (omega (arith, less)))
    where
      by : (b : Bool) → (first == k) ≡ b → (first + 1 ≤ k → IsAt k) → IsAt k
      by true is rest =
          let same : first ≡ k = grind (arith, nat_tests) in
          subst IsAt same (record { shop = w; origin_is = are.0; session_is = are.1; seen = are.2; own = are.3; so = all.0 })
      by false is rest = rest (grind (arith, nat_tests, le, is))

module _ (o : Origin) (clients lease : ℕ) (ws : List Knows) (list : List LockEntry) (closed : IsClosed o ws list)
    (many : length ws ≡ clients) where
  numbered : AllByRecursion (λ (e : LockEntry). e.session < clients) list
  numbered = subst (λ (n : ℕ). AllByRecursion (λ (e : LockEntry). e.session < n) list) many closed.numbers

  -- where each took so many leases
  module _ (leases : ℕ) (all : AllByRecursion (HasLeased ids_key lease leases) ws) where
    at : (client : ℕ) → client < clients → IsAt o (HasLeased ids_key lease leases) list client
    at client less = shop_at o (HasLeased ids_key lease leases) list ws 0 client closed.all all (omega arith) (omega (arith, less, many))

    pub each_leased : (client : ℕ) → client < clients → AreLeased o ids_key lease client list
    each_leased client less =
        let x = at client less in
        leased_in o ids_key lease leases list client x.shop x.origin_is x.session_is x.seen x.own x.so

    pub each_counted : (client : ℕ) → client < clients → count_by is_put client list ≡ leases
    each_counted client less =
        let x = at client less in
        counted_in o ids_key lease leases list client x.shop x.origin_is x.session_is x.seen x.own x.so

  -- where each took some, at most so many
  module _ (most : ℕ) (all : AllByRecursion (HasSome lease most) ws) where
    some_at : (client : ℕ) → client < clients → IsAt o (HasSome lease most) list client
    some_at client less = shop_at o (HasSome lease most) list ws 0 client closed.all all (omega arith) (omega (arith, less, many))

    some_leased : (client : ℕ) → client < clients → AreLeased o ids_key lease client list
    some_leased client less =
        let x = some_at client less in
        leased_in o ids_key lease x.so.leases list client x.shop x.origin_is x.session_is x.seen x.own x.so.leased

    few_counted : (client : ℕ) → client < clients → count_by is_put client list ≤ most
    few_counted client less =
        let x = some_at client less in
        let is = counted_in o ids_key lease x.so.leases list client x.shop x.origin_is x.session_is x.seen x.own x.so.leased in
        let few = x.so.few in
        omega (arith, is, few)

-- ---- sums

pub sum_each : (f : ℕ → ℕ) (each n : ℕ) → ((k : ℕ) → k < n → f k ≡ each) → sum_of f n ≡ n * each
sum_each f each zero is = omega arith
sum_each f each (suc n) is =
    let rest = sum_each f each n (λ k less. is k (omega (arith, less))) in
    let here = is n (omega arith) in
    omega (arith, rest, here)

sum_within : (f : ℕ → ℕ) (most n : ℕ) → ((k : ℕ) → k < n → f k ≤ most) → sum_of f n ≤ n * most
sum_within f most zero each = omega arith
sum_within f most (suc n) each =
    let rest = sum_within f most n (λ k less. each k (omega (arith, less))) in
    let here = each n (omega arith) in
    omega (arith, rest, here)

-- ---- at each place of the list

all_front : (P : LockEntry → Type 0) (es more : List LockEntry) → AllByRecursion P (es ++ more) → AllByRecursion P es
all_front P [] more all = tt
all_front P (e ∷ es) more all = (all.0, all_front P es more all.1)

malformed_tells : (value : Option Stored) (len n : ℕ) → IsMalformed value len → number_in value ≡ Some n → ⊥
malformed_tells None len n is told = is
malformed_tells (Some value) len n is told = by (length value.bytes == 8) refl told
  where
    by : (b : Bool) → (length value.bytes == 8) ≡ b → cond b (Some (big_number 8 value.bytes)) None ≡ Some n → ⊥
    by true eight told = let long : length value.bytes ≡ 8 = grind (arith, nat_tests) in is.1 (sym is.0 ∙ long)
    by false other told = none≢some n told

-- so few leases of so few numbers stay below the greatest end
below_most : (first leases clients count lease : ℕ) → first ≡ 1 + leases * lease → leases ≤ clients * count → clients ≤ 16
    → count ≤ 100000 → lease ≤ 1000 → first + lease ≤ most_number
below_most first leases clients count lease is few clients_few count_few lease_few =
    let all : clients * count ≤ 16 * 100000 = mul-le clients count 16 100000 clients_few count_few in
    let numbers : leases * lease ≤ 1600000 * 1000 = mul-le leases lease 1600000 1000 (omega (arith, few, all)) lease_few in
    omega (arith, is, numbers, lease_few)

module _ (o : Origin) (clients count lease : ℕ) (ws : List Knows) (list : List LockEntry) (closed : IsClosed o ws list)
    (many : length ws ≡ clients) (some : AllByRecursion (HasSome lease count) ws) (base : o.base ≡ empty) (least : 1 ≤ lease)
    (before : List LockEntry) (front : IsPrefix before list) where
  sessions_then : AllByRecursion (λ (e : LockEntry). e.session < clients) before
  sessions_then = all_front (λ (e : LockEntry). e.session < clients) before front.0
      (subst (AllByRecursion (λ (e : LockEntry). e.session < clients)) (sym front.1) (numbered o clients lease ws list closed many))

  told_then : TellsBy o ids_key lease least before
  told_then =
      all_told o ids_key lease clients least before
      (λ client less. leased_front o ids_key lease client list before front (some_leased o clients lease ws list closed many count some client less))
      sessions_then (first_told o ids_key base)

  few_then : length (commits_of before) ≤ clients * count
  few_then =
      let counted = commits-counted clients before sessions_then in
      let most = sum_within (by_session is_put before) count clients few_of in
      omega (arith, counted, most)
    where
      few_of : (k : ℕ) → k < clients → by_session is_put before k ≤ count
      few_of k less =
          let parts = counted_parts is_put k before front.0 in
          let whole = ap (count_by is_put k) front.1 in
          let few = few_counted o clients lease ws list closed many count some k less in
          omega (arith, parts, whole, few)

  never_malformed : (value : Option Stored) (len : ℕ) → value ≡ last_value o ids_key before → IsMalformed value len → ⊥
  never_malformed value len is bad =
      malformed_tells value len (1 + length (commits_of before) * lease) bad (ap number_in is ∙ told_then.told)

  never_spent : clients ≤ 16 → count ≤ 100000 → lease ≤ 1000 → (value : Option Stored) → value ≡ last_value o ids_key before
      → IsSpent value lease → ⊥
  never_spent clients_few count_few lease_few value is spent =
      let first_is = some_same spent.first (1 + length (commits_of before) * lease) (sym spent.told ∙ ap number_in is ∙ told_then.told) in
      let below = below_most spent.first (length (commits_of before)) clients count lease first_is few_then clients_few count_few lease_few in
      let passes = spent.passes in
      omega (arith, below, passes)

-- ---- stops

-- whose stop it is was sure, and has seen a beginning of the list
pub record StopsAt (o : Origin) (list : List LockEntry) (lease : ℕ) (why : SeqFail) : Type 0 where
  pub early : Knows
  pub late : Knows
  pub stop : IsStop early late ids_key lease why
  pub on : GoesOn early late
  pub sure : early.sure ≡ true
  pub origin_is : late.origin ≡ o
  pub seen : IsPrefix late.seen list

stop_at : (o : Opened) (list : List LockEntry) (lease : ℕ) (why : SeqFail) (first : ℕ) (vs ws : List Knows) → AreFirst o first vs
    → AllZip GoesOn vs ws → AreIn o.origin first list ws → IsStopOfOne lease why vs ws → StopsAt o.origin list lease why
stop_at o list lease why first [] ws news zip are is = absurd is
stop_at o list lease why first (v ∷ vs) [] news zip are is = absurd is
stop_at o list lease why first (v ∷ vs) (w ∷ ws) news zip are (inl is) =
    record { early = v; late = w; stop = is; on = zip.0; sure = news.0.sure; origin_is = are.0; seen = are.2 }
stop_at o list lease why first (v ∷ vs) (w ∷ ws) news zip are (inr is) =
    stop_at o list lease why (first + 1) vs ws news.1 zip.1 are.4 is

-- what the laws of modest shops say
abbrev pub NeverFull : Type 0
NeverFull = (o : Origin) (turns : ℕ) (vs : List Knows) (list before : List LockEntry) → IsClosed o vs list → AreModest turns vs
    → IsPrefix before list → HasOpen nothing_open o.layout → length vs ≤ 64
    → (begin_ruling (layout_by o before) (history_by o before)).answer ≢ TooMany

abbrev pub NeverExhausted : Type 0
NeverExhausted = (o : Origin) (turns : ℕ) (vs : List Knows) (list before : List LockEntry) → IsClosed o vs list
    → AreModest turns vs → IsPrefix before list → o.number + length vs * (turns + 1) < max_commit_number
    → (txn : Transaction) → (commit_ruling (layout_by o before) (history_by o before) txn).answer ≢ Exhausted CommitNumber

few_modest : (lease count : ℕ) (ws : List Knows) → AllByRecursion (HasSome lease count) ws → AreModest count ws
few_modest lease count [] some = tt
few_modest lease count (w ∷ ws) some =
    (committed_modest count some.0.leases w some.0.few some.0.leased.committed, few_modest lease count ws some.1)

-- so few commits have numbers
numbers_reach : (number shops clients count : ℕ) → number ≡ 0 → shops ≡ clients → clients ≤ 16 → count ≤ 100000
    → number + shops * (count + 1) < max_commit_number
numbers_reach number shops clients count new many clients_few count_few =
    let most : shops * (count + 1) ≤ 16 * 100001 =
    mul-le shops (count + 1) 16 100001 (omega (arith, many, clients_few)) (omega (arith, count_few)) in
    omega (arith, new, most)

module _ (full : NeverFull) (exhausted : NeverExhausted) (o : Opened) (clients count lease : ℕ) (vs ws : List Knows)
    (list : List LockEntry) (first : AreFirst o 0 vs) (zip : AllZip GoesOn vs ws) (closed : IsClosed o.origin ws list)
    (many : length ws ≡ clients) (some : AllByRecursion (HasSome lease count) ws) (nothing : HasOpen nothing_open o.origin.layout)
    (number : o.origin.number ≡ 0) (base : o.origin.base ≡ empty) (clients_few : clients ≤ 16) (count_few : count ≤ 100000)
    (least : 1 ≤ lease) (lease_few : lease ≤ 1000) where
  no_fault : {why : SeqFail} (x : StopsAt o.origin list lease why) → x.early.faults < x.late.faults → ⊥
  no_fault x rose = let same = x.on.sure x.sure in omega (arith, same, rose)

  pub none_stops : (why : SeqFail) → is_want why ≡ false → IsStopOfOne lease why vs ws → ⊥
  none_stops why other is = by why other (stop_at o list lease why 0 vs ws first zip closed.all is)
    where
      origin_of : {why : SeqFail} (x : StopsAt o.origin list lease why) → x.early.origin ≡ o.origin
      origin_of x = sym x.on.origin ∙ x.origin_is

      by : (why : SeqFail) → is_want why ≡ false → StopsAt o.origin list lease why → ⊥
      by (fail.Raced n) other x = false≢true (sym x.stop.1)
      by fail.Spent other x =
          let finds = x.stop.0.1 in
          never_spent o.origin clients count lease ws list closed many some base least finds.earlier
          (begins_more finds.earlier x.late.seen list finds.seen x.seen) clients_few count_few lease_few x.stop.0.0
          (finds.value_is ∙ ap (λ (p : Origin). last_value p ids_key finds.earlier) (origin_of x)) x.stop.0.2
      by (fail.Malformed len) other x =
          let finds = x.stop.0.1 in
          never_malformed o.origin clients count lease ws list closed many some base least finds.earlier
          (begins_more finds.earlier x.late.seen list finds.seen x.seen) x.stop.0.0 len
          (finds.value_is ∙ ap (λ (p : Origin). last_value p ids_key finds.earlier) (origin_of x)) x.stop.0.2
      by fail.TooMany other x =
          let was = x.stop.0 in
          full o.origin count ws list was.before closed (few_modest lease count ws some)
          (begins_more was.before x.late.seen list was.seen x.seen) nothing (omega (arith, many, clients_few))
          (ap (λ (p : Origin). (begin_ruling (layout_by p was.before) (history_by p was.before)).answer) (sym x.origin_is) ∙ sym was.answer)
      by (fail.Full long frame) other x = false≢true (sym x.stop.1)
      by (fail.Exhausted counter) other x =
          let asks = x.stop.0.1 in
          let ruled = asks.ruled in
          let txn = lease_txn x.early.origin ids_key asks.earlier asks.ticket (asks.first + lease) in
          exhausted o.origin count ws list ruled.before closed (few_modest lease count ws some)
          (begins_more ruled.before x.late.seen list ruled.seen x.seen)
          (numbers_reach o.origin.number (length ws) clients count number many clients_few count_few) txn
          (ap (λ (p : Origin). (commit_ruling (layout_by p ruled.before) (history_by p ruled.before) txn).answer) (sym (origin_of x))
          ∙ sym ruled.answer_is ∙ ap Exhausted x.stop.0.0)
      by (fail.Halted name) other x = no_fault x x.stop.0.0
      by (fail.Disk name) other x = no_fault x x.stop.0
      by (fail.Damaged name place) other x = no_fault x x.stop.0
      by fail.NoMemory other x = false≢true (sym other)

-- ---- in the end

module _ (o : Origin) (clients count lease : ℕ) (ws : List Knows) (list : List LockEntry) (closed : IsClosed o ws list)
    (many : length ws ≡ clients) (all : AllByRecursion (HasLeased ids_key lease (rounded_up count lease)) ws)
    (base : o.base ≡ empty) (least : 1 ≤ lease) where
  tells : TellsBy o ids_key lease least list
  tells = all_told o ids_key lease clients least list (each_leased o clients lease ws list closed many (rounded_up count lease) all)
      (numbered o clients lease ws list closed many) (first_told o ids_key base)

  -- all that were leased
  leases_in : sum_of (by_session is_put list) clients ≡ clients * rounded_up count lease
  leases_in = sum_each (by_session is_put list) (rounded_up count lease) clients
      (each_counted o clients lease ws list closed many (rounded_up count lease) all)

  pub end_told : number_in (last_value o ids_key list) ≡ Some (1 + length (commits_of list) * lease)
  end_told = tells.told

  -- the clients were so many shops
  pub all_counted : (shops : ℕ) → shops ≡ clients → (c : Counted) → c.given ≡ shops * count
      → c.leases ≡ shops * rounded_up count lease → number_in (last_value o ids_key list) ≡ Some c.next
      → IsCounted o clients count lease c list
  all_counted shops are c given leases told = record {
    legal = closed.legal;
    sessions = numbered o clients lease ws list closed many;
    leased = each_leased o clients lease ws list closed many (rounded_up count lease) all;
    each = each_counted o clients lease ws list closed many (rounded_up count lease) all;
    only = record { first = 1; told = first_told o ids_key base; only = tells.only };
    given_are = given ∙ ap (λ (n : ℕ). n * count) are;
    leases_are = leases_then ∙ sym leases_in;
    told = told;
    next_is = some_same c.next (1 + length (commits_of list) * lease) (sym told ∙ end_told)
        ∙ ap (λ (n : ℕ). 1 + n * lease) (commits-counted clients list (numbered o clients lease ws list closed many)
        ∙ leases_in ∙ sym leases_then);
  }
    where
      leases_then : c.leases ≡ clients * rounded_up count lease
      leases_then = leases ∙ ap (λ (n : ℕ). n * rounded_up count lease) are
