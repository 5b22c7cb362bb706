-- The leases that sessions took: more steps leave them, each is its session's, and no two sessions take the same number.
use Rattle.std.specs.Prelude.{◌≡◌, ◌≢◌, ◌≤◌, ℕ, List, [], ◌∷◌, ◌++◌, Bool, length, map, Option, Some, refl}
use Rattle.std.specs.FinMap.{empty, entries, entries_sorted, from_sorted, get, get-entries, get-from_sorted, get-insert}
use Rattle.std.specs.Cmp.Lexicographic.{nat_list_cmp_total}
use Rattle.std.specs.Ordering.{is_eq}
use Rattle.std.proofs.Common.{sym, ap, subst, ◌∙◌, cond, inl, inr, ⊎_elim, append_assoc, append-nil, arith}
use Rattle.byteorder.specs.Endian.{big_bytes, big_number}
use Rattle.byteorder.specs.Numbers.{big_number-reads_back}
use Rattle.vl_drive.specs.Knowing.{GoesOn, Knows}
use Rattle.vl_drive.specs.Steps.{Origin, history_by}
use Rattle.vl_engine_model.specs.LockHistory.{commits_of, put_after}
use Rattle.vl_engine_model.specs.declared.lock_history.LockEntry.{LockEntry}
use Rattle.vl_engine_model.specs.declared.lock_history.LockStep.{LockStep}
use Rattle.vl_engine_model.specs.declared.lock_history.LockStep.TheVariants.{Begun, Changed, Ended, JobEnded, PassEnded}
use Rattle.vl_engine_model.specs.declared.lock_history.LockStep.TheVariants.{Picked, Planned, Put}
use Rattle.vl_engine_model.specs.laws.LockHistoryLaws.{commits_of-append}
use Rattle.vl_model.specs.History.{Extends, History, last_number, value_at, value_left}
use Rattle.vl_model.specs.Keys.{Stored, Writes, key_cmp, untagged}
use Rattle.vl_model.specs.declared.change.Change.TheVariants.{Set}
use Rattle.vl_model.specs.laws.HistoryLaws.{value_at-first}
use Rattle.vl_model.specs.laws.WinnerLaws.{key_tied}
use Rattle.vl_sequence.specs.Leases.{AreRising, AreUpTo, IsIn, Lease, OnlyLeases, lease_of, leased, leases_from, number_in, value_behind}
use Rattle.vl_sequence.specs.Sequences.{TakesLease, lease_writes, most_number}
use Rattle.vl_sequence.specs.Takings.{Has, IsBelowValue, IsLeased, IsOnlyLeased, by_session, change_by, first_value, last_value, taken_by}
use Rattle.vl_sequence.specs.Takings.{taken_from}
use Rattle.vl_sequence.specs.laws.LeaseLaws.{apart_over_openings, below_rising, leased_below, number_behind, only-back, only-front}
use Rattle.vl_sequence.specs.laws.LeaseLaws.{rise, sessions_apart, some_same}
use Rattle.vl_sequence.specs.laws.LeaseLaws.{value_behind-all, value_behind-more}
use mathlib.Core.List.{IsPrefix}

module _ (key : List ℕ) where
  abbrev lease_in : ℕ × Lease → Lease
  lease_in t = t.1

  tagged : (session : ℕ) (ls : List Lease) (ts : List (ℕ × Lease)) → map lease_in (by_session session ls ++ ts) ≡ ls ++ map lease_in ts
  tagged session [] ts = refl
  tagged session (l ∷ ls) ts = ap (λ (xs : List Lease). l ∷ xs) (tagged session ls ts)

  -- They are the leases of the commits.
  pub leases_taken : (old : Option Stored) (es : List LockEntry)
      → map lease_in (taken_from key old es) ≡ leases_from key old (commits_of es)
  leases_taken old [] = refl
  leases_taken old (e ∷ es) =
      tagged e.session (leased old (change_by key e.step)) (taken_from key (value_left old (change_by key e.step)) es)
      ∙ by e.step (λ v. leases_taken v es)
    where
      by : (step : LockStep) → ((v : Option Stored) → map lease_in (taken_from key v es) ≡ leases_from key v (commits_of es))
          → leased old (change_by key step) ++ map lease_in (taken_from key (value_left old (change_by key step)) es)
          ≡ leases_from key old (put_after step (commits_of es))
      by (Begun ticket number) later = later old
      by (Put ticket number writes) later =
          let written : Writes = from_sorted writes in
          ap (λ ls. leased old (get written key) ++ ls) (later (value_left old (get written key)))
      by (Ended ticket) later = later old
      by Planned later = later old
      by JobEnded later = later old
      by Picked later = later old
      by PassEnded later = later old
      by Changed later = later old

  value_after : (old : Option Stored) (e : LockEntry) (es : List LockEntry)
      → value_behind key old (commits_of (e ∷ es)) ≡ value_behind key (value_left old (change_by key e.step)) (commits_of es)
  value_after old e es = by e.step
    where
      by : (step : LockStep) → value_behind key old (put_after step (commits_of es))
          ≡ value_behind key (value_left old (change_by key step)) (commits_of es)
      by (Begun ticket number) = refl
      by (Put ticket number writes) = refl
      by (Ended ticket) = refl
      by Planned = refl
      by JobEnded = refl
      by Picked = refl
      by PassEnded = refl
      by Changed = refl

  -- More steps leave the leases of those before.
  pub taken_from-more : (old : Option Stored) (es more : List LockEntry)
      → taken_from key old (es ++ more) ≡ taken_from key old es ++ taken_from key (value_behind key old (commits_of es)) more
  taken_from-more old [] more = refl
  taken_from-more old (e ∷ es) more =
      let next = value_left old (change_by key e.step) in
      let here = by_session e.session (leased old (change_by key e.step)) in
      ap (λ ts. here ++ ts) (taken_from-more next es more)
      ∙ sym (append_assoc here (taken_from key next es) (taken_from key (value_behind key next (commits_of es)) more))
      ∙ ap (λ v. (here ++ taken_from key next es) ++ taken_from key v more) (sym (value_after old e es))

  has_left : (ts us : List (ℕ × Lease)) (session : ℕ) (l : Lease) → Has ts session l → Has (ts ++ us) session l
  has_left [] us session l has = absurd has
  has_left (t ∷ ts) us session l has = ⊎_elim (λ (here : (t.0 ≡ session) × (t.1 ≡ l)). inl here)
      (λ (later : Has ts session l). inr (has_left ts us session l later)) has

  has_right : (ts us : List (ℕ × Lease)) (session : ℕ) (l : Lease) → Has us session l → Has (ts ++ us) session l
  has_right [] us session l has = has
  has_right (t ∷ ts) us session l has = inr (has_right ts us session l has)

  -- What a session took stays its own in each longer list.
  pub stays_taken : (old : Option Stored) (es more : List LockEntry) (session : ℕ) (l : Lease)
      → Has (taken_from key old es) session l → Has (taken_from key old (es ++ more)) session l
  stays_taken old es more session l has =
      subst (λ ts. Has ts session l) (sym (taken_from-more old es more))
      (has_left (taken_from key old es) (taken_from key (value_behind key old (commits_of es)) more) session l has)

  -- the value behind some steps, over that before the first
  pub behind_first : (o : Origin) (es : List LockEntry) → value_behind key (first_value o key) (commits_of es) ≡ last_value o key es
  behind_first o es =
      ap (λ v. value_behind key v (commits_of es)) (sym (value_at-first (history_by o es) o.number key (omega arith)))
      ∙ value_behind-all key (history_by o es)

  -- ---- a lease that was taken

  pub wrote : (end : ℕ) → get {R = key_cmp} (from_sorted (entries (lease_writes key end))) key ≡ Some (Set (untagged (big_bytes 8 end)))
  wrote end =
      let nothing : Writes = empty in
      let change = Set (untagged (big_bytes 8 end)) in
      get-from_sorted key_cmp (entries (lease_writes key end)) key (entries_sorted (lease_writes key end))
      ∙ sym (get-entries (lease_writes key end) key)
      ∙ get-insert nat_list_cmp_total nothing key change key
      ∙ ap (λ (b : Bool). cond b (Some change) (get nothing key)) (ap is_eq (key_tied key))

  pub reads_back : (old : Option Stored) (end : ℕ) → end ≤ most_number
      → number_in (value_left old (Some (Set (untagged (big_bytes 8 end))))) ≡ Some end
  reads_back old end fits =
      let is : length (big_bytes 8 end) ≡ 8 = refl in
      ap Some (ap (big_number 8) (sym (append-nil (big_bytes 8 end))) ∙ big_number-reads_back 8 end [] (omega (arith, fits)))

  -- In what the session has seen then, the lease is its own.
  pub lease_taken : (v w : Knows) (first end : ℕ) (t : TakesLease v w key first end)
      → Has (taken_by v.origin key w.seen) v.session (record { first = first; end = end })
  lease_taken v w first end t =
      subst (λ (es : List LockEntry). Has (taken_from key old es) v.session (record { first = first; end = end })) (sym t.seen)
      (subst (λ ts. Has ts v.session (record { first = first; end = end })) (sym (taken_from-more old t.before (t.entry ∷ [])))
      (has_right (taken_from key old t.before) (taken_from key value (t.entry ∷ [])) v.session (record { first = first; end = end }) here))
    where
      old : Option Stored
      old = first_value v.origin key

      value : Option Stored
      value = value_behind key old (commits_of t.before)

      told : number_in value ≡ Some first
      told = ap number_in (behind_first v.origin t.before) ∙ t.told

      change : change_by key t.entry.step ≡ Some (Set (untagged (big_bytes 8 end)))
      change = ap (change_by key) t.puts ∙ wrote end

      lease_is : leased value (change_by key t.entry.step) ≡ record { first = first; end = end } ∷ []
      lease_is =
          ap (leased value) change
          ∙ ap (λ o. lease_of o (number_in (value_left value (Some (Set (untagged (big_bytes 8 end))))))) told
          ∙ ap (lease_of (Some first)) (reads_back value end t.fits)

      here : Has (taken_from key value (t.entry ∷ [])) v.session (record { first = first; end = end })
      here = subst (λ ls. Has (by_session t.entry.session ls ++ []) v.session (record { first = first; end = end })) (sym lease_is)
          (inl (t.mine, refl))

  -- what a session took stays its own in what it sees later
  pub stays_own : (v w : Knows) → GoesOn v w → (l : Lease) → Has (taken_by v.origin key v.seen) v.session l
      → Has (taken_by w.origin key w.seen) w.session l
  stays_own v w on l has =
      subst (λ (s : ℕ). Has (taken_by w.origin key w.seen) s l) (sym on.session)
      (subst (λ (o : Origin). Has (taken_by o key w.seen) v.session l) (sym on.origin)
      (subst (λ (es : List LockEntry). Has (taken_by v.origin key es) v.session l) on.seen.1
      (stays_taken (first_value v.origin key) v.seen on.seen.0 v.session l has)))

  -- ---- where only sequences write the key

  pub only_first : (o : Origin) (es more : List LockEntry) → IsOnlyLeased o key (es ++ more) → IsOnlyLeased o key es
  only_first o es more x = record {
    first = x.first;
    told = x.told;
    only = only-front key (first_value o key) (commits_of es) (commits_of more)
        (subst (OnlyLeases key (first_value o key)) (commits_of-append es more) x.only);
  }

  has_up : (m : ℕ) (ts : List (ℕ × Lease)) (session : ℕ) (l : Lease) → AreUpTo m (map lease_in ts) → Has ts session l → l.end ≤ m
  has_up m [] session l up has = absurd has
  has_up m (t ∷ ts) session l up has = ⊎_elim
      (λ (here : (t.0 ≡ session) × (t.1 ≡ l)). subst (λ (x : Lease). x.end ≤ m) here.1 up.0)
      (λ (later : Has ts session l). has_up m ts session l up.1 later)
      has

  -- Each lease ends at the key's value or below it.
  pub below_value : (o : Origin) (list : List LockEntry) (session : ℕ) (l : Lease) → IsOnlyLeased o key list
      → Has (taken_by o key list) session l → (m : ℕ) × (number_in (last_value o key list) ≡ Some m) × (l.end ≤ m)
  below_value o list session l x has =
      let old = first_value o key in
      let b = number_behind key old (commits_of list) x.first x.told x.only in (
        b.0,
        ap number_in (sym (behind_first o list)) ∙ b.1,
        has_up b.0 (taken_from key old list) session l (subst (AreUpTo b.0) (sym (leases_taken old list)) b.3) has,
      )

  pub is_below : (v : Knows) (n : ℕ) → IsLeased v key n → IsOnlyLeased v.origin key v.seen → IsBelowValue v key n
  is_below v n x only =
      let b = below_value v.origin v.seen v.session x.lease only x.took in
      let less = x.within.1 in
      let le = b.2 in
      record { value = b.0; told = b.1; below = omega (arith, less, le) }

  -- The value never falls.
  pub later_above : (o : Origin) (es before : List LockEntry) (m n : ℕ) → IsPrefix es before → IsOnlyLeased o key before
      → number_in (last_value o key es) ≡ Some m → number_in (last_value o key before) ≡ Some n → m ≤ n
  later_above o es before m n later x told tells =
      let old = first_value o key in
      let all : commits_of before ≡ commits_of es ++ commits_of later.0 = ap commits_of (sym later.1) ∙ commits_of-append es later.0 in
      let only = only-back key old (commits_of es) (commits_of later.0) (subst (OnlyLeases key old) all x.only) in
      let behind = sym (value_behind-more key old (commits_of es) (commits_of later.0)) ∙ ap (value_behind key old) (sym all)
      ∙ behind_first o before in
      (leased_below key (value_behind key old (commits_of es)) (commits_of later.0) m n (ap number_in (behind_first o es) ∙ told) only
      (ap number_in behind ∙ tells)).0

  -- A lease begins at the end of each that its session took before, or above it.
  pub lease_above : (v w : Knows) (first end : ℕ) → TakesLease v w key first end → (l : Lease)
      → Has (taken_by v.origin key v.seen) v.session l → IsOnlyLeased v.origin key w.seen → l.end ≤ first
  lease_above v w first end t l has only =
      let has_then = subst (λ (es : List LockEntry). Has (taken_by v.origin key es) v.session l) t.later.1
      (stays_taken (first_value v.origin key) v.seen t.later.0 v.session l has) in
      let only_then = only_first v.origin t.before (t.entry ∷ []) (subst (IsOnlyLeased v.origin key) t.seen only) in
      let b = below_value v.origin t.before v.session l only_then has_then in
      subst (λ (m : ℕ). l.end ≤ m) (some_same b.0 first (sym b.1 ∙ t.told)) b.2

  -- Two sessions never take the same number.
  pub numbers_apart : (old : Option Stored) (n : ℕ) (list : List LockEntry) (s t : ℕ) (l m : Lease) (x : ℕ)
      → number_in old ≡ Some n → OnlyLeases key old (commits_of list) → s ≢ t
      → Has (taken_from key old list) s l → Has (taken_from key old list) t m → IsIn l x → IsIn m x → ⊥
  numbers_apart old n list s t l m x told only apart p q in_l in_m =
      sessions_apart n (taken_from key old list) s t l m x
      (subst (AreRising n) (sym (leases_taken old list)) (rise key old (commits_of list) n told only)) apart p q in_l in_m

  in_list : (o : Origin) (list : List LockEntry) (v : Knows) (l : Lease) → v.origin ≡ o → IsPrefix v.seen list
      → Has (taken_by v.origin key v.seen) v.session l → Has (taken_by o key list) v.session l
  in_list o list v l of first has =
      subst (λ (es : List LockEntry). Has (taken_by o key es) v.session l) first.1
      (stays_taken (first_value o key) v.seen first.0 v.session l
      (subst (λ (p : Origin). Has (taken_by p key v.seen) v.session l) of has))

  -- So what two sessions give, whose steps stand in one list, is different.
  pub given_once : (o : Origin) (list : List LockEntry) (v w : Knows) (n : ℕ) → v.origin ≡ o → w.origin ≡ o
      → IsPrefix v.seen list → IsPrefix w.seen list → v.session ≢ w.session → IsOnlyLeased o key list
      → IsLeased v key n → IsLeased w key n → ⊥
  given_once o list v w n of_v of_w first_v first_w apart x one other =
      numbers_apart (first_value o key) x.first list v.session w.session one.lease other.lease n x.told x.only apart
      (in_list o list v one.lease of_v first_v one.took) (in_list o list w other.lease of_w first_w other.took)
      one.within other.within

  -- ---- over an opening

  -- what the key has before the first of some steps
  first_is : (o : Origin) (es : List LockEntry) → value_at (history_by o es) o.number key ≡ first_value o key
  first_is o es = value_at-first (history_by o es) o.number key (omega arith)

  only_in : (o : Origin) (es : List LockEntry) → IsOnlyLeased o key es
      → OnlyLeases key (value_at (history_by o es) o.number key) (commits_of es)
  only_in o es x = subst (λ (v : Option Stored). OnlyLeases key v (commits_of es)) (sym (first_is o es)) x.only

  -- The leases of the history are those that its sessions took.
  taken_in : (o : Origin) (es : List LockEntry)
      → leases_from key (value_at (history_by o es) o.number key) (commits_of es) ≡ map lease_in (taken_by o key es)
  taken_in o es =
      ap (λ (v : Option Stored). leases_from key v (commits_of es)) (first_is o es) ∙ sym (leases_taken (first_value o key) es)

  -- What a session gave before a stop, none gives behind the opening.
  pub given_before : (o later : Origin) (list more : List LockEntry) (image : History) (v w : Knows) (n : ℕ) → v.origin ≡ o
      → IsPrefix v.seen list → IsOnlyLeased o key list → Extends (history_by o list) image
      → OnlyLeases key (value_at image image.first key) image.commits → w.origin ≡ later → IsPrefix w.seen more
      → IsOnlyLeased later key more → first_value later key ≡ value_at image (last_number image) key
      → IsLeased v key n → IsLeased w key n → ⊥
  given_before o later list more image v w n of_v first_v x shows only of_w first_w y stands one other =
      let apart = apart_over_openings key (history_by o list) image (history_by later more) x.first shows (first_is later more ∙ stands)
      (ap number_in (first_is o list) ∙ x.told) only (only_in later more y) in
      let up = has_up apart.0 (taken_by o key list) v.session one.lease (subst (AreUpTo apart.0) (taken_in o list) apart.1)
      (in_list o list v one.lease of_v first_v one.took) in
      let low = below_rising apart.0 (taken_by later key more) w.session other.lease
      (subst (AreRising apart.0) (taken_in later more) apart.2) (in_list later more w other.lease of_w first_w other.took) in
      let less = one.within.1 in
      let above = other.within.0 in
      omega (arith, up, low, less, above)
