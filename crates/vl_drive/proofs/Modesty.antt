-- What keeps a shop modest, call by call.
use Rattle.std.proofs.Common.{◌≡◌, ℕ, ◌+◌, ◌≤◌, true, cond, List, [], ◌∷◌, ◌++◌, length}
use Rattle.std.proofs.Common.{refl, ap, sym, ◌∙◌, subst, arith}
use Rattle.std.specs.Prelude.{Result, Ok, Err, OnErr}
use Rattle.std.specs.List.{AllByRecursion}
use Rattle.vl_drive.proofs.Scoring.{one_counted}
use Rattle.vl_drive.specs.Answers.{asked, done_outcome}
use Rattle.vl_drive.specs.Entries.{begin_entry, commit_entry}
use Rattle.vl_drive.specs.Knowing.{GoesAside, GoesOn, Knows, Looks, Stepped}
use Rattle.vl_drive.specs.Modest.{HasFew, IsBusy, IsIdle, IsModest}
use Rattle.vl_drive.specs.Steps.{AreBy, count_by, entry_of, history_by, is_aside, is_put, layout_by}
use Rattle.vl_drive.specs.laws.ModestLaws.{aside_all, begun_open, ended_open, few_aside, few_more, few_none, put_open}
use Rattle.vl_drive.specs.laws.StepLaws.{aside_is_no_put, counted_none, counted_parts}
use Rattle.vl_drive.specs.declared.fails.Done.{Done}
use Rattle.vl_drive.specs.declared.fails.Done.TheVariants as done
use Rattle.vl_engine_model.specs.Decides.{Answered, Damaged, Failed, NoMemory, Outcome}
use Rattle.vl_engine_model.specs.LockHistory.{OpenTicket, open_tickets}
use Rattle.vl_engine_model.specs.Ruling.{ended, halted_at, logged}
use Rattle.vl_engine_model.specs.Rulings.Begin as begin
use Rattle.vl_engine_model.specs.Rulings.Begin.{BeginAnswer, begin_ruling, begun}
use Rattle.vl_engine_model.specs.Rulings.Commit.{At, CommitAnswer, Conflict, Exhausted, Full, Halted, Nothing, commit_frame, commit_ruling}
use Rattle.vl_engine_model.specs.declared.lock_history.LockEntry.{LockEntry}
use Rattle.vl_engine_model.specs.declared.lock_history.LockStep.TheVariants.{Begun, Ended, Put}
use Rattle.vl_model.specs.Reads.{Read}
use Rattle.vl_model.specs.declared.change.Change.{Change}

-- ---- less is less

pub idle_new : (v : Knows) → v.own ≡ [] → IsIdle 0 v
idle_new v none = record {
  live = subst HasFew (sym none) few_none;
  none = ap (open_tickets []) none;
  puts = let same : count_by is_put v.session v.own ≡ 0 = ap (count_by is_put v.session) none in omega (arith, same);
}

pub idle_modest : (turns : ℕ) (v : Knows) → IsIdle turns v → IsModest turns v
idle_modest turns v x = record { live = x.live; puts = let few = x.puts in omega (arith, few) }

-- a turn that was just taken counts
pub idle_next : (turns : ℕ) (v : Knows) → IsIdle (turns + 1) v → IsModest turns v
idle_next turns v x = record { live = x.live; puts = x.puts }

pub busy_modest : (ticket number turns : ℕ) (v : Knows) → IsBusy ticket number turns v → IsModest turns v
busy_modest ticket number turns v x = record { live = x.live; puts = let few = x.puts in omega (arith, few) }

pub modest_more : (turns most : ℕ) (v : Knows) → turns ≤ most → IsModest turns v → IsModest most v
modest_more turns most v less x = record { live = x.live; puts = let few = x.puts in omega (arith, few, less) }

pub idle_more : (turns : ℕ) (v : Knows) → IsIdle turns v → IsIdle (turns + 1) v
idle_more turns v x = record { live = x.live; none = x.none; puts = let few = x.puts in omega (arith, few) }

-- ---- no step, and one

module _ (v w : Knows) (on : GoesOn v w) (same : w.own ≡ v.own) where
  own_puts : count_by is_put w.session w.own ≡ count_by is_put v.session v.own
  own_puts = ap (λ (s : ℕ). count_by is_put s w.own) on.session ∙ ap (count_by is_put v.session) same

  pub idle_same : (turns : ℕ) → IsIdle turns v → IsIdle turns w
  idle_same turns x = record {
    live = subst HasFew (sym same) x.live;
    none = ap (open_tickets []) same ∙ x.none;
    puts = let as_many = own_puts in let few = x.puts in omega (arith, as_many, few);
  }

  pub busy_same : (ticket number turns : ℕ) → IsBusy ticket number turns v → IsBusy ticket number turns w
  busy_same ticket number turns x = record {
    live = subst HasFew (sym same) x.live;
    one = ap (open_tickets []) same ∙ x.one
        ∙ ap (λ (s : ℕ). record { session = s; ticket = ticket; number = number } ∷ []) (sym on.session);
    puts = let as_many = own_puts in let few = x.puts in omega (arith, as_many, few);
  }

pub busy_looked : (ticket number turns : ℕ) (v w : Knows) → Looks v w → IsBusy ticket number turns v → IsBusy ticket number turns w
busy_looked ticket number turns v w l x = busy_same v w l.on l.own ticket number turns x

module _ (v w : Knows) (e : LockEntry) (on : GoesOn v w) (more : w.own ≡ v.own ++ e ∷ []) (mine : e.session ≡ v.session) where
  puts_more : count_by is_put w.session w.own ≡ count_by is_put v.session v.own + cond (is_put e.step) 1 0
  puts_more =
      let one = one_counted is_put v.session e mine in
      ap (λ (s : ℕ). count_by is_put s w.own) on.session ∙ ap (count_by is_put v.session) more
      ∙ counted_parts is_put v.session v.own (e ∷ []) ∙ ap (λ (n : ℕ). count_by is_put v.session v.own + n) one

  live_more : (ts : List OpenTicket) → open_tickets [] (v.own ++ e ∷ []) ≡ ts → length ts ≤ 1 → HasFew v.own → HasFew w.own
  live_more ts is few live =
      subst HasFew (sym more) (few_more v.own e live (subst (λ (us : List OpenTicket). length us ≤ 1) (sym is) few))

  pub begins : (ticket number turns : ℕ) → e.step ≡ Begun ticket number → IsIdle turns v → IsBusy ticket number turns w
  begins ticket number turns is x =
      let now = begun_open v.own e ticket number x.none is in
      let none : ◌≡◌ {A = ℕ} (cond (is_put e.step) 1 0) 0 = ap (λ (s : _). cond (is_put s) 1 0) is in
      let all = puts_more in
      let few = x.puts in
      record {
        live = live_more (record { session = e.session; ticket = ticket; number = number } ∷ []) now (omega arith) x.live;
        one = ap (open_tickets []) more ∙ now
            ∙ ap (λ (s : ℕ). record { session = s; ticket = ticket; number = number } ∷ []) (mine ∙ sym on.session);
        puts = omega (arith, all, none, few);
      }

  pub ends : (ticket number turns : ℕ) → e.step ≡ Ended ticket → IsBusy ticket number turns v → IsIdle turns w
  ends ticket number turns is x =
      let now = ended_open v.own e (record { session = v.session; ticket = ticket; number = number }) x.one (sym mine) is in
      let none : ◌≡◌ {A = ℕ} (cond (is_put e.step) 1 0) 0 = ap (λ (s : _). cond (is_put s) 1 0) is in
      let all = puts_more in
      let few = x.puts in
      record {
        live = live_more [] now (omega arith) x.live;
        none = ap (open_tickets []) more ∙ now;
        puts = omega (arith, all, none, few);
      }

  pub puts_one : (ticket number turns n : ℕ) (writes : List (List ℕ × Change)) → e.step ≡ Put ticket n writes
      → IsBusy ticket number turns v → IsIdle (turns + 1) w
  puts_one ticket number turns n writes is x =
      let now = put_open v.own e (record { session = v.session; ticket = ticket; number = number }) x.one (sym mine) is in
      let one : ◌≡◌ {A = ℕ} (cond (is_put e.step) 1 0) 1 = ap (λ (s : _). cond (is_put s) 1 0) is in
      let all = puts_more in
      let few = x.puts in
      record {
        live = live_more [] now (omega arith) x.live;
        none = ap (open_tickets []) more ∙ now;
        puts = omega (arith, all, one, few);
      }

-- ---- steps aside

aside_by : (session : ℕ) (es : List LockEntry) → AllByRecursion (λ (e : LockEntry). is_aside e.step ≡ true) es
    → AreBy is_aside session es
aside_by session [] all = tt
aside_by session (e ∷ es) all = ((λ mine. all.0), aside_by session es all.1)

module _ (v w : Knows) (s : GoesAside v w) where
  aside_puts : count_by is_put w.session w.own ≡ count_by is_put v.session v.own
  aside_puts =
      let none = counted_none is_aside is_put v.session aside_is_no_put s.more (aside_by v.session s.more s.aside) in
      ap (λ (k : ℕ). count_by is_put k w.own) s.on.session ∙ ap (count_by is_put v.session) s.own
      ∙ counted_parts is_put v.session v.own s.more ∙ omega (arith, none)

  pub aside_modest : (turns : ℕ) → IsModest turns v → IsModest turns w
  aside_modest turns x = record {
    live = subst HasFew (sym s.own) (few_aside v.own s.more x.live s.aside);
    puts = let all = aside_puts in let few = x.puts in omega (arith, all, few);
  }

  pub aside_busy : (ticket number turns : ℕ) → IsBusy ticket number turns v → IsBusy ticket number turns w
  aside_busy ticket number turns x = record {
    live = subst HasFew (sym s.own) (few_aside v.own s.more x.live s.aside);
    one = ap (open_tickets []) s.own ∙ aside_all v.own s.more s.aside ∙ x.one
        ∙ ap (λ (k : ℕ). record { session = k; ticket = ticket; number = number } ∷ []) (sym s.on.session);
    puts = let all = aside_puts in let few = x.puts in omega (arith, all, few);
  }

-- ---- a begin

pub begun_busy : (v w : Knows) (ticket number turns : ℕ) → Stepped v w begin_ruling begin_entry (Answered (begin.Begun ticket number))
    → IsIdle turns v → IsBusy ticket number turns w
begun_busy v w ticket number turns s x =
    begins v w (entry_of v.session (Begun ticket number) (begun (layout_by v.origin s.before) ticket number))
    s.steps.on s.steps.own refl ticket number turns refl x

-- ---- a commit

module _ (v w : Knows) (ticket number turns : ℕ) (reads : List Read) (writes : List (List ℕ × Change)) (x : IsBusy ticket number turns v) where
  abbrev Ran : Outcome CommitAnswer → Type 0
  Ran outcome =
      Stepped v w (λ l h. commit_ruling l h (asked ticket number reads writes)) (commit_entry ticket writes) outcome

  pub committed_idle : (n : ℕ) → Ran (Answered (At n)) → IsIdle (turns + 1) w
  committed_idle n s =
      puts_one v w (entry_of v.session (Put ticket n writes)
      (logged (commit_frame (history_by v.origin s.before) writes) (ended ticket (layout_by v.origin s.before))))
      s.steps.on s.steps.own refl ticket number turns n writes refl x

  pub nothing_idle : Ran (Answered Nothing) → IsIdle turns w
  nothing_idle s =
      ends v w (entry_of v.session (Ended ticket) (ended ticket (layout_by v.origin s.before)))
      s.steps.on s.steps.own refl ticket number turns refl x

  pub conflict_idle : (key : List ℕ) (n : ℕ) → Ran (Answered (Conflict key n)) → IsIdle turns w
  conflict_idle key n s =
      ends v w (entry_of v.session (Ended ticket) (ended ticket (layout_by v.origin s.before)))
      s.steps.on s.steps.own refl ticket number turns refl x

  pub halted_idle : (name : _) → Ran (Answered (Halted name)) → IsIdle turns w
  halted_idle name s =
      ends v w (entry_of v.session (Ended ticket) (ended ticket (layout_by v.origin s.before)))
      s.steps.on s.steps.own refl ticket number turns refl x

  pub failed_idle : (name : _) → Ran (Failed name) → IsIdle turns w
  failed_idle name s =
      ends v w (entry_of v.session (Ended ticket) (halted_at name (ended ticket (layout_by v.origin s.before))))
      s.steps.on s.steps.own refl ticket number turns refl x

  pub full_busy : (length frame : ℕ) → Ran (Answered (Full length frame)) → IsBusy ticket number turns w
  full_busy length frame s = busy_same v w s.steps.on s.steps.own ticket number turns x

  -- whatever it came to
  pub commit_modest : (outcome : Outcome CommitAnswer) → Ran outcome → IsModest turns w
  commit_modest (Answered (At n)) s = idle_next turns w (committed_idle n s)
  commit_modest (Answered Nothing) s = idle_modest turns w (nothing_idle s)
  commit_modest (Answered (Halted name)) s = idle_modest turns w (halted_idle name s)
  commit_modest (Answered (Exhausted counter)) s = busy_modest ticket number turns w (busy_same v w s.steps.on s.steps.own ticket number turns x)
  commit_modest (Answered (Conflict key n)) s = idle_modest turns w (conflict_idle key n s)
  commit_modest (Answered (Full length frame)) s = busy_modest ticket number turns w (full_busy length frame s)
  commit_modest NoMemory s = busy_modest ticket number turns w (busy_same v w s.steps.on s.steps.own ticket number turns x)
  commit_modest (Failed name) s = idle_modest turns w (failed_idle name s)
  commit_modest (Damaged name place) s = busy_modest ticket number turns w (busy_same v w s.steps.on s.steps.own ticket number turns x)

-- ---- answers

pub on_err : {A E : Type 0} {P : Type 0} (r : Result A E) → P → OnErr r P
on_err (Ok a) p = tt
on_err (Err e) p = p

module _ (v w : Knows) (ticket number turns : ℕ) (reads : List Read) (writes : List (List ℕ × Change)) (x : IsBusy ticket number turns v) where
  pub well_idle : (d : Done) → Ran v w ticket number turns reads writes x (done_outcome d) → IsIdle (turns + 1) w
  well_idle (done.At n) s = committed_idle v w ticket number turns reads writes x n s
  well_idle done.Nothing s = idle_more turns w (nothing_idle v w ticket number turns reads writes x s)

-- the same transaction by other words
pub busy_as : (ticket number ticket2 number2 turns : ℕ) (v : Knows) → ticket2 ≡ ticket → number2 ≡ number → IsBusy ticket number turns v
    → IsBusy ticket2 number2 turns v
busy_as ticket number ticket2 number2 turns v tickets numbers x =
    subst (λ (n : ℕ). IsBusy ticket2 n turns v) (sym numbers) (subst (λ (t : ℕ). IsBusy t number turns v) (sym tickets) x)
