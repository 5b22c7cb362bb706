-- At which number a view of a store that was just opened reads.
use Rattle.std.proofs.Common.{◌≡◌, ℕ, Bool, true, false, cond}
use Rattle.std.specs.Prelude.{length, nat_le}
use Rattle.vl_engine_model.specs.Ruling.{leaving}
use Rattle.vl_engine_model.specs.Rulings.Begin.{Begun, TooMany, begun}
use Rattle.vl_engine_model.specs.Rulings.View.{view_ruling}
use Rattle.vl_engine_model.specs.Tickets.{free_ticket, tickets_of}
use Rattle.vl_engine_model.specs.declared.layout.Layout.{Layout}
use Rattle.vl_model.specs.History.{History, last_number}
use Rattle.vl_model.specs.Limits.{max_live}

-- a view that began reads at the last number
pub begun_last : (h : History) (l : Layout) (ticket number : ℕ) → Begun ticket number ≡ (view_ruling l h).answer → number ≡ last_number h
begun_last h l ticket number is = by (nat_le max_live (length l.live)) is
  where
    last : ℕ
    last = last_number h

    by : (b : Bool) → Begun ticket number
        ≡ (cond b (leaving TooMany h l)
        (leaving (Begun (free_ticket (tickets_of l.live)) last) h (begun l (free_ticket (tickets_of l.live)) last))).answer
        → number ≡ last_number h
    by true e = absurd cc
    by false e = cc
