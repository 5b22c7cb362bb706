-- Over a closed list of modest shops no begin is refused, and no commit for want of a number.
use Rattle.std.proofs.Common.{◌≡◌, ℕ, zero, suc, ◌+◌, ◌*◌, ◌<◌, ◌≤◌, ◌==◌, Bool, true, false, cond, List, [], ◌∷◌, ◌++◌, length}
use Rattle.std.proofs.Common.{refl, ap, sym, ◌∙◌, subst, arith}
use Rattle.std.proofs.lemmas.Bool.Decides.{nat_tests}
use Rattle.std.proofs.lemmas.List.Elements.{filter-append}
use Rattle.std.specs.List.{AllByRecursion, filter}
use Rattle.std.specs.Prelude.{None, Option, Some, if◌then◌else◌, nat_le, nat_lt, not}
use Rattle.vl_drive.specs.Accounts.{sum_of}
use Rattle.vl_drive.specs.Driven.{AreIn, IsClosed}
use Rattle.vl_drive.specs.Knowing.{Knows}
use Rattle.vl_drive.specs.Modest.{IsModest}
use Rattle.vl_drive.specs.Steps.{Origin, count_by, history_by, is_put, layout_by}
use Rattle.vl_drive.specs.laws.CountLaws.{commits-counted}
use Rattle.vl_drive.specs.laws.StepLaws.{counted_own, counted_parts}
use Rattle.vl_engine_model.specs.LockHistory.{HasOpen, IsLegal, OpenTicket, entries_by, is_of, nothing_open, open_things, open_tickets}
use Rattle.vl_engine_model.specs.LockHistory.{tickets_after, tickets_by}
use Rattle.vl_engine_model.specs.Rising.{put_by}
use Rattle.vl_engine_model.specs.Ruling.{leaving}
use Rattle.vl_engine_model.specs.Rulings.Begin.{Begun as BegunAt, TooMany, begin_ruling, begun}
use Rattle.vl_engine_model.specs.Rulings.Commit.{Exhausted, Full, Nothing, Transaction, commit_checked, commit_ended, commit_frame}
use Rattle.vl_engine_model.specs.Rulings.Commit.{commit_ruling, commit_unless, committed}
use Rattle.vl_engine_model.specs.Tickets.{free_ticket, tickets_of}
use Rattle.vl_engine_model.specs.declared.file_name.FileName.{FileName}
use Rattle.vl_engine_model.specs.declared.layout.Layout.{Layout}
use Rattle.vl_engine_model.specs.declared.lock_history.LockEntry.{LockEntry}
use Rattle.vl_engine_model.specs.declared.lock_history.LockStep.{LockStep}
use Rattle.vl_engine_model.specs.declared.lock_history.LockStep.TheVariants.{Begun, Changed, Ended, JobEnded, PassEnded}
use Rattle.vl_engine_model.specs.declared.lock_history.LockStep.TheVariants.{Picked, Planned, Put}
use Rattle.vl_engine_model.specs.laws.LockHistoryLaws.{as_many_live, last_open, legal-first, open_tickets-is, own_tickets}
use Rattle.vl_model.specs.Conflicts.{Named, first_conflict}
use Rattle.vl_model.specs.Frames.{frame_length}
use Rattle.vl_model.specs.History.{History, last_number}
use Rattle.vl_model.specs.Limits.{max_commit_number, max_live}
use Rattle.vl_model.specs.declared.counter.Counter.TheVariants.{Commit as CommitNumber}
use mathlib.Core.List.{IsPrefix}

-- ---- whose tickets are open

module _ (n : ℕ) where
  abbrev AreBelow : List OpenTicket → Type 0
  AreBelow ts = AllByRecursion (λ (t : OpenTicket). t.session < n) ts

  put_below : (x : OpenTicket) (ts : List OpenTicket) → x.session < n → AreBelow ts
      → AreBelow (put_by (λ (t : OpenTicket). t.ticket) x ts)
  put_below x [] less all = (less, tt)
  put_below x (t ∷ ts) less all = by (nat_lt t.ticket x.ticket) (put_below x ts less all.1)
    where
      by : (b : Bool) → AreBelow (put_by (λ (u : OpenTicket). u.ticket) x ts)
          → AreBelow (cond b (t ∷ put_by (λ (u : OpenTicket). u.ticket) x ts) (x ∷ t ∷ ts))
      by true rest = (all.0, rest)
      by false rest = (less, all)

  filter_below : (p : OpenTicket → Bool) (ts : List OpenTicket) → AreBelow ts → AreBelow (filter p ts)
  filter_below p [] all = tt
  filter_below p (t ∷ ts) all = by (p t) (filter_below p ts all.1)
    where
      by : (b : Bool) → AreBelow (filter p ts) → AreBelow (cond b (t ∷ filter p ts) (filter p ts))
      by true rest = (all.0, rest)
      by false rest = rest

  after_below : (s : ℕ) (step : LockStep) (ts : List OpenTicket) → s < n → AreBelow ts → AreBelow (tickets_after s step ts)
  after_below s (Begun ticket number) ts less all = put_below (record { session = s; ticket = ticket; number = number }) ts less all
  after_below s (Put ticket number writes) ts less all = filter_below (λ t. not (is_of s ticket t)) ts all
  after_below s (Ended ticket) ts less all = filter_below (λ t. not (is_of s ticket t)) ts all
  after_below s Planned ts less all = all
  after_below s JobEnded ts less all = all
  after_below s Picked ts less all = all
  after_below s PassEnded ts less all = all
  after_below s Changed ts less all = all

  open_below : (ts : List OpenTicket) (es : List LockEntry) → AreBelow ts → AllByRecursion (λ (e : LockEntry). e.session < n) es
      → AreBelow (open_tickets ts es)
  open_below ts [] all numbers = all
  open_below ts (e ∷ es) all numbers =
      open_below (tickets_after e.session e.step ts) es (after_below e.session e.step ts numbers.0 all) numbers.1

-- ---- how many they are

abbrev open_of : List OpenTicket → ℕ → ℕ
open_of ts session = length (tickets_by session ts)

one_longer : (b : Bool) (t : OpenTicket) (us : List OpenTicket) → length (cond b (t ∷ us) us) ≡ cond b 1 0 + length us
one_longer true t us = omega arith
one_longer false t us = omega arith

none_more : (n : ℕ) (t : OpenTicket) (ts : List OpenTicket) → n ≤ t.session → sum_of (open_of (t ∷ ts)) n ≡ sum_of (open_of ts) n
none_more zero t ts le = refl
none_more (suc n) t ts le =
    let other : (t.session == n) ≡ false = grind (arith, nat_tests, le) in
    let rest = none_more n t ts (omega (arith, le)) in
    let here : open_of (t ∷ ts) n ≡ 0 + open_of ts n =
    one_longer (t.session == n) t (tickets_by n ts) ∙ ap (λ b. cond b 1 0 + open_of ts n) other in
    omega (arith, rest, here)

one_more : (n : ℕ) (t : OpenTicket) (ts : List OpenTicket) → t.session < n
    → sum_of (open_of (t ∷ ts)) n ≡ 1 + sum_of (open_of ts) n
one_more zero t ts less = absurd (omega (arith, less))
one_more (suc n) t ts less = by_test (t.session == n) refl (λ below. one_more n t ts below)
  where
    by_test : (b : Bool) → (t.session == n) ≡ b → (t.session < n → sum_of (open_of (t ∷ ts)) n ≡ 1 + sum_of (open_of ts) n)
        → open_of (t ∷ ts) n + sum_of (open_of (t ∷ ts)) n ≡ 1 + (open_of ts n + sum_of (open_of ts) n)
    by_test true is rest =
        let at : n ≤ t.session = grind (arith, nat_tests, is) in
        let others = none_more n t ts at in
        let here : open_of (t ∷ ts) n ≡ 1 + open_of ts n =
        one_longer (t.session == n) t (tickets_by n ts) ∙ ap (λ b. cond b 1 0 + open_of ts n) is in
        omega (arith, others, here)
    by_test false is rest =
        let below : t.session < n = grind (arith, nat_tests, less, is) in
        let others = rest below in
        let here : open_of (t ∷ ts) n ≡ 0 + open_of ts n =
        one_longer (t.session == n) t (tickets_by n ts) ∙ ap (λ b. cond b 1 0 + open_of ts n) is in
        omega (arith, others, here)

none_yet : (n : ℕ) → sum_of (open_of []) n ≡ 0
none_yet zero = refl
none_yet (suc n) = let rest = none_yet n in omega (arith, rest)

tickets_counted : (n : ℕ) (ts : List OpenTicket) → AllByRecursion (λ (t : OpenTicket). t.session < n) ts
    → length ts ≡ sum_of (open_of ts) n
tickets_counted n [] all = sym (none_yet n)
tickets_counted n (t ∷ ts) all =
    let rest = tickets_counted n ts all.1 in
    let here = one_more n t ts all.0 in
    omega (arith, rest, here)

sum_within : (f : ℕ → ℕ) (most n : ℕ) → ((k : ℕ) → k < n → f k ≤ most) → sum_of f n ≤ n * most
sum_within f most zero each = omega arith
sum_within f most (suc n) each =
    let rest = sum_within f most n (λ k less. each k (omega (arith, less))) in
    let here = each n (omega arith) in
    omega (arith, rest, here)

-- ---- each shop

module _ (o : Origin) (P : Knows → Type 0) (list : List LockEntry) where
  shop_at : (vs : List Knows) (first k : ℕ) → AreIn o first list vs → AllByRecursion P vs → first ≤ k → k < first + length vs
      → (v : Knows) × (v.session ≡ k) × (v.own ≡ entries_by k list) × P v
  shop_at [] first k are all le less = absurd (omega (arith, le, less))
  shop_at (v ∷ vs) first k are all le less = by_test (first == k) refl
      (λ above. shop_at vs (first + 1) k are.4 all.1 above (omega (arith, less)))
    where
      by_test : (b : Bool) → (first == k) ≡ b
          → (first + 1 ≤ k → (w : Knows) × (w.session ≡ k) × (w.own ≡ entries_by k list) × P w)
          → (w : Knows) × (w.session ≡ k) × (w.own ≡ entries_by k list) × P w
      by_test true is rest =
          let same : first ≡ k = grind (arith, nat_tests) in
          (v, are.1 ∙ same, are.3 ∙ ap (λ (s : ℕ). entries_by s list) same, all.0)
      by_test false is rest = rest (grind (arith, nat_tests, le, is))

-- the front of what is so is so
all_front : (P : LockEntry → Type 0) (es more : List LockEntry) → AllByRecursion P (es ++ more) → AllByRecursion P es
all_front P [] more all = tt
all_front P (e ∷ es) more all = (all.0, all_front P es more all.1)

module _ (o : Origin) (turns : ℕ) (vs : List Knows) (list before : List LockEntry) (closed : IsClosed o vs list)
    (modest : AllByRecursion (IsModest turns) vs) (front : IsPrefix before list) where
  legal : IsLegal o.number before
  legal = legal-first o.number nothing_open before front.0 (subst (IsLegal o.number) (sym front.1) closed.legal)

  numbers : AllByRecursion (λ (e : LockEntry). e.session < length vs) before
  numbers = all_front (λ (e : LockEntry). e.session < length vs) before front.0
      (subst (AllByRecursion (λ (e : LockEntry). e.session < length vs)) (sym front.1) closed.numbers)

  one_open : (k : ℕ) → k < length vs → open_of (open_tickets [] before) k ≤ 1
  one_open k less =
      let at = shop_at o (IsModest turns) list vs 0 k closed.all modest (omega arith) (omega (arith, less)) in
      let own : entries_by k before ++ entries_by k front.0 ≡ at.0.own =
      sym (filter-append (λ (e : LockEntry). e.session == k) before front.0) ∙ ap (entries_by k) front.1 ∙ sym at.2 in
      subst (λ (ts : List OpenTicket). length ts ≤ 1) (sym (own_tickets k o.number nothing_open before legal tt))
      (at.3.live (entries_by k before) (entries_by k front.0, own))

  few_live : HasOpen nothing_open o.layout → length (layout_by o before).live ≤ length vs
  few_live start =
      let live = as_many_live (open_things nothing_open before) (layout_by o before)
      (last_open o.number nothing_open o.layout before start legal) in
      let same = ap length (open_tickets-is nothing_open before) in
      let counted = tickets_counted (length vs) (open_tickets [] before) (open_below (length vs) [] before tt numbers) in
      let most = sum_within (open_of (open_tickets [] before)) 1 (length vs) one_open in
      omega (arith, live, same, counted, most)

  few_puts : (k : ℕ) → k < length vs → count_by is_put k before ≤ turns + 1
  few_puts k less =
      let at = shop_at o (IsModest turns) list vs 0 k closed.all modest (omega arith) (omega (arith, less)) in
      let parts = counted_parts is_put k before front.0 in
      let whole = ap (count_by is_put k) front.1 in
      let own = counted_own is_put k list in
      let same : count_by is_put at.0.session at.0.own ≡ count_by is_put k (entries_by k list) =
      ap (λ (s : ℕ). count_by is_put s at.0.own) at.1 ∙ ap (count_by is_put k) at.2 in
      let few = at.3.puts in
      omega (arith, parts, whole, own, same, few)

  few_commits : last_number (history_by o before) ≤ o.number + length vs * (turns + 1)
  few_commits =
      let counted = commits-counted (length vs) before numbers in
      let most = sum_within (λ k. count_by is_put k before) (turns + 1) (length vs) few_puts in
      omega (arith, counted, most)

-- ---- rulings

too_many : (l : Layout) (h : History) → (begin_ruling l h).answer ≡ TooMany → nat_le max_live (length l.live) ≡ true
too_many l h is = by (nat_le max_live (length l.live)) is
  where
    by : (b : Bool) → (if b then leaving TooMany h l
        else leaving (BegunAt (free_ticket (tickets_of l.live)) (last_number h)) h
        (begun l (free_ticket (tickets_of l.live)) (last_number h))).answer ≡ TooMany → b ≡ true
    by true is = refl
    by false is = absurd cc

exhausted : (l : Layout) (h : History) (t : Transaction) → (commit_ruling l h t).answer ≡ Exhausted CommitNumber
    → nat_le max_commit_number (last_number h) ≡ true
exhausted l h t is = unless l.halted is
  where
    fitting : (fits : Bool) → (if fits then committed l h t
        else leaving (Full l.active.length (frame_length l.active.format (commit_frame h t.writes))) h l).answer
        ≡ Exhausted CommitNumber → ⊥
    fitting true is = absurd cc
    fitting false is = absurd cc

    checked : (c : Option Named) → (commit_checked l h t c).answer ≡ Exhausted CommitNumber → ⊥
    checked (Some named) is = absurd cc
    checked None is = fitting (nat_le (l.active.length + frame_length l.active.format (commit_frame h t.writes)) l.room) is

    running : (nothing last : Bool) → (if nothing then commit_ended Nothing l h t
        else (if last then leaving (Exhausted CommitNumber) h l
        else commit_checked l h t (first_conflict h t.number t.reads))).answer ≡ Exhausted CommitNumber → last ≡ true
    running true last is = absurd cc
    running false true is = refl
    running false false is = absurd (checked (first_conflict h t.number t.reads) is)

    unless : (halted : Option FileName) → (commit_unless halted l h t (first_conflict h t.number t.reads)).answer ≡ Exhausted CommitNumber
        → nat_le max_commit_number (last_number h) ≡ true
    unless (Some name) is = absurd cc
    unless None is = running (length t.writes == 0) (nat_le max_commit_number (last_number h)) is

few_not_many : (n : ℕ) → n ≤ 64 → nat_le max_live n ≡ true → ⊥
few_not_many n few many = grind (arith, nat_tests)

below_not_last : (n : ℕ) → n < max_commit_number → nat_le max_commit_number n ≡ true → ⊥
below_not_last n below last = grind (arith, nat_tests)

module _ (o : Origin) (turns : ℕ) (vs : List Knows) (list before : List LockEntry) (closed : IsClosed o vs list)
    (modest : AllByRecursion (IsModest turns) vs) (front : IsPrefix before list) where
  pub never_full : HasOpen nothing_open o.layout → length vs ≤ 64
      → (begin_ruling (layout_by o before) (history_by o before)).answer ≡ TooMany → ⊥
  never_full start few is =
      let live = few_live o turns vs list before closed modest front start in
      few_not_many (length (layout_by o before).live) (omega (arith, live, few)) (too_many (layout_by o before) (history_by o before) is)

  pub never_exhausted : o.number + length vs * (turns + 1) < max_commit_number → (t : Transaction)
      → (commit_ruling (layout_by o before) (history_by o before) t).answer ≡ Exhausted CommitNumber → ⊥
  never_exhausted below t is =
      let last = few_commits o turns vs list before closed modest front in
      below_not_last (last_number (history_by o before)) (omega (arith, last, below)) (exhausted (layout_by o before) (history_by o before) t is)
