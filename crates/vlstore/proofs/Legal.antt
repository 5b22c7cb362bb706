-- Which steps are lawful behind lawful ones, by what they do to a layout.
use Rattle.std.proofs.Common.{◌≡◌, ◌≢◌, ℕ, ◌+◌, List, [], refl, sym, ap, ◌∙◌, subst}
use Rattle.std.specs.Prelude.{false, Option, None, Some, IsTrue, is_some}
use Rattle.std.specs.FinMap.{is_sorted}
use Rattle.std.specs.Option.{option_map}
use Rattle.vl_engine_model.specs.LockHistory.{HasOpen, IsLegal, IsLegalEntry, IsOpen, IsOwn, OpenThings, job_in}
use Rattle.vl_engine_model.specs.LockHistory.{last_from, nothing_open, segment_in, tickets_in}
use Rattle.vl_engine_model.specs.Ruling.{ended}
use Rattle.vl_engine_model.specs.Rulings.Begin.{begun}
use Rattle.vl_engine_model.specs.Tickets.{free_ticket, has_ticket, tickets_of}
use Rattle.vl_engine_model.specs.declared.job.Job.{Job}
use Rattle.vl_engine_model.specs.declared.layout.Layout.{Layout}
use Rattle.vl_engine_model.specs.declared.lock_history.LockEntry.{LockEntry}
use Rattle.vl_engine_model.specs.declared.lock_history.LockStep.{LockStep}
use Rattle.vl_engine_model.specs.declared.lock_history.LockStep.TheVariants.{Begun, Changed, Ended, JobEnded, PassEnded, Picked, Planned, Put}
use Rattle.vl_engine_model.specs.laws.LockHistoryLaws.{AreRising, last_number-is, last_open, open_rising}
use Rattle.vl_engine_model.specs.laws.TicketLaws.{free_ticket-free, live_begun, live_closed, rising_in}
use Rattle.vl_model.specs.History.{last_number}
use Rattle.vl_model.specs.Keys.{key_cmp}
use Rattle.vl_model.specs.declared.change.Change.{Change}
use Rattle.vl_engine_model.specs.Ruling.{pin_of}
use Rattle.vlstore.specs.Lists.{history_by, layout_by, open_by, past_of}
use Rattle.vlstore.specs.declared.locked.Origin.{Origin}

abbrev entry : ℕ → LockStep → Layout → LockEntry
entry session step l = record { session = session; step = step; layout = l }

module _ (o : Origin) (list : List LockEntry) (start : HasOpen nothing_open o.layout) (legal : IsLegal o.number list) (session : ℕ) where
  abbrev pub last : ℕ
  last = last_from o.number list

  abbrev pub l : Layout
  l = layout_by o list

  abbrev pub things : OpenThings
  things = open_by list

  pub has : HasOpen things l
  has = last_open o.number nothing_open o.layout list start legal

  pub rising : AreRising things.tickets
  rising = open_rising o.number nothing_open list legal tt

  pub last_is : last_number (history_by o list) ≡ last
  last_is = last_number-is (past_of o.base) o.number list legal

  abbrev pub IsNext : LockStep → Layout → Type 0
  IsNext step next = IsLegalEntry last things (entry session step next)

  -- what is open stays
  pub changed : (next : Layout) → next.live ≡ l.live → job_in next ≡ job_in l → segment_in next ≡ segment_in l → IsNext Changed next
  changed next live job pass = record {
    step = tt;
    layout = record { live = ap tickets_of live ∙ has.live; job = job ∙ has.job; pass = pass ∙ has.pass };
    begun = tt;
  }

  -- a begin at the last number, with a free ticket
  pub begins : IsNext (Begun (free_ticket (tickets_of l.live)) (last_number (history_by o list)))
      (begun l (free_ticket (tickets_of l.live)) (last_number (history_by o list)))
  begins = record {
    step = (
      subst (λ ts. has_ticket (free_ticket ts) (tickets_in things.tickets) ≡ false) (sym has.live)
          (free_ticket-free (tickets_in things.tickets) (rising_in things.tickets rising)),
      last_is,
    );
    layout = record {
      live = live_begun things.tickets l.live session (free_ticket (tickets_of l.live)) (last_number (history_by o list))
          (pin_of l) has.live;
      job = has.job;
      pass = has.pass;
    };
    begun = tt;
  }

  -- an end of what is the session's
  pub ends : (ticket : ℕ) (next : Layout) → IsOpen session ticket things.tickets → next.live ≡ (ended ticket l).live
      → job_in next ≡ job_in l → segment_in next ≡ segment_in l → IsNext (Ended ticket) next
  ends ticket next is live job pass = record {
    step = is;
    layout = record {
      live = ap tickets_of live ∙ live_closed things.tickets l.live session ticket rising is has.live;
      job = job ∙ has.job;
      pass = pass ∙ has.pass;
    };
    begun = tt;
  }

  -- a commit of what is the session's
  pub puts : (ticket number : ℕ) (writes : List (List ℕ × Change)) (next : Layout) → IsOpen session ticket things.tickets
      → number ≡ last_number (history_by o list) + 1 → writes ≢ [] → IsTrue (is_sorted key_cmp writes)
      → next.live ≡ (ended ticket l).live → job_in next ≡ job_in l → segment_in next ≡ segment_in l
      → IsNext (Put ticket number writes) next
  puts ticket number writes next is next_is some sorted live job pass = record {
    step = (is, next_is ∙ ap (λ (n : ℕ). n + 1) last_is, some, sorted);
    layout = record {
      live = ap tickets_of live ∙ live_closed things.tickets l.live session ticket rising is has.live;
      job = job ∙ has.job;
      pass = pass ∙ has.pass;
    };
    begun = tt;
  }

  none_open : {X : Type 0} (opened : Option (ℕ × X)) → None ≡ option_map (λ (x : ℕ × X). x.1) opened → opened ≡ None
  none_open None is = refl
  none_open {X} (Some x) is = absurd (subst (λ (y : Option X). NotSome y) is tt)
    where
      NotSome : Option X → Type 0
      NotSome None = Unit {0}
      NotSome (Some y) = ⊥

  back : {X : Type 0} (o : Option X) → option_map (λ (x : ℕ × X). x.1) (option_map (λ (x : X). (session, x)) o) ≡ o
  back None = refl
  back (Some x) = refl

  -- a merge is planned where the layout has none
  pub plans : (job : Job) (next : Layout) → l.job ≡ None → next.live ≡ l.live → job_in next ≡ Some job → segment_in next ≡ segment_in l
      → IsNext Planned next
  plans job next none live job_is pass = record {
    step = none_open things.job (ap (option_map (λ (j : _). j.job)) (sym none) ∙ has.job);
    layout = record {
      live = ap tickets_of live ∙ has.live;
      job = sym (back (job_in next));
      pass = pass ∙ has.pass;
    };
    begun = ap is_some job_is;
  }

  -- the session's merge ends
  pub ends_job : (next : Layout) → IsOwn session things.job → next.live ≡ l.live → next.job ≡ None → segment_in next ≡ segment_in l
      → IsNext JobEnded next
  ends_job next own live none pass = record {
    step = own;
    layout = record { live = ap tickets_of live ∙ has.live; job = ap (option_map (λ (j : _). j.job)) none; pass = pass ∙ has.pass };
    begun = tt;
  }

  -- a pass begins where the layout has none
  pub picks : (segment : ℕ) (next : Layout) → l.pass ≡ None → next.live ≡ l.live → job_in next ≡ job_in l
      → segment_in next ≡ Some segment → IsNext Picked next
  picks segment next none live job pass_is = record {
    step = none_open things.pass (ap (option_map (λ (p : _). p.segment)) (sym none) ∙ has.pass);
    layout = record { live = ap tickets_of live ∙ has.live; job = job ∙ has.job; pass = sym (back (segment_in next)) };
    begun = ap is_some pass_is;
  }

  -- the session's pass ends
  pub ends_pass : (next : Layout) → IsOwn session things.pass → next.live ≡ l.live → job_in next ≡ job_in l → next.pass ≡ None
      → IsNext PassEnded next
  ends_pass next own live job none = record {
    step = own;
    layout = record { live = ap tickets_of live ∙ has.live; job = job ∙ has.job; pass = ap (option_map (λ (p : _). p.segment)) none };
    begun = tt;
  }
