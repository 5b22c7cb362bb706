use Rattle.std.proofs.Common.{◌≡◌, ℕ, ◌≤◌, ◌<◌, List, length, ap, sym, ◌∙◌, subst, arith}
use Rattle.std.specs.Ordering.{nat_cmp}
use Rattle.std.specs.FinMap.{is_sorted}
use Rattle.std.specs.List.{insert}
use Rattle.std.specs.BTreeMap.{get}
use Rattle.vl_model.specs.Limits.{max_live}
use Rattle.vl_oracle.specs.LiveTickets.{LiveTickets, Ticket, begun, ended, free_from, free_ticket, floor_of}
use Rattle.vl_oracle.specs.Counts.{IsKept}
use Rattle.vl_oracle.proofs.Tickets.{kept-begun, kept-undone, ended-begun, floor-begun, floor-begun-same}
use Rattle.vl_oracle.proofs.Tickets.{few_uses, free_below}
use Rattle.vl_oracle.proofs.LiveLaws.{as_T}
use Rattle.vl_oracle.proofs.Places.{insert-free}
use Rattle.vl_oracle.proofs.oracle.Oracle.begin.Goals as goal

pub overflow_cast-ticket : goal.overflow_cast-ticket
overflow_cast-ticket c = omega (arith, c.free_ticket-ticket.ensures.within, c.deref.ensures.len, c.len.ensures, c.if-len.false)

pub overflow_cast-result : goal.overflow_cast-result
overflow_cast-result c = omega (arith, c.free_ticket-ticket.ensures.within, c.deref.ensures.len, c.len.ensures, c.if-len.false)

pub insert-requires : goal.insert-requires
insert-requires c = omega (arith, c.free_ticket-ticket.ensures.within, c.deref.ensures.len)

pub add-requires : goal.add-requires
add-requires c = few_uses _ (get nat_cmp c.self.inside.numbers) c.self.invariant

pub invariant_of-self-in-Ok : goal.invariant_of-self-in-Ok
invariant_of-self-in-Ok c =
    let live : LiveTickets = record { last = c.self.inside.last; tickets = c.self.inside.live.items } in
    let room : length live.tickets < max_live = omega (arith, c.len.ensures, c.if-len.false, c.self.inside.live.ok) in
    let free = c.free_ticket-ticket.ensures.free ∙ ap (free_from 0) c.deref.ensures.value in
    let entries = c.in-Ok.ensures.items ∙ ap (λ (t : ℕ). insert live.tickets t (t, live.last)) free
    ∙ insert-free live.last live.tickets (as_T (is_sorted nat_cmp live.tickets) c.self.invariant.are.rising) in
    subst (λ (ts : List Ticket). IsKept (record { last = live.last; tickets = ts }) (get nat_cmp c.add.new.numbers)) (sym entries)
    (kept-begun live (get nat_cmp c.self.inside.numbers) c.self.invariant (get nat_cmp c.add.new.numbers) room c.in_ok-add.ensures.ok)

pub invariant_of-self-in-Err : goal.invariant_of-self-in-Err
invariant_of-self-in-Err c =
    let live : LiveTickets = record { last = c.self.inside.last; tickets = c.self.inside.live.items } in
    subst (λ (ts : List Ticket). IsKept (record { last = live.last; tickets = ts })
    (get nat_cmp c.remove.new.numbers)) (sym c.in-Err.ensures.items)
    (kept-undone live (get nat_cmp c.self.inside.numbers) c.self.invariant (get nat_cmp c.add.new.numbers)
    (get nat_cmp c.remove.new.numbers) c.in_ok-add.ensures.ok (λ count n one. c.remove.ensures count one n))

pub returns-in-Ok-clause-ok : goal.returns-in-Ok-clause-ok
returns-in-Ok-clause-ok c =
    let live : LiveTickets = record { last = c.self.inside.last; tickets = c.self.inside.live.items } in
    let free = c.free_ticket-ticket.ensures.free ∙ ap (free_from 0) c.deref.ensures.value in
    let entries = c.in-Ok.ensures.items ∙ ap (λ (t : ℕ). insert live.tickets t (t, live.last)) free
    ∙ insert-free live.last live.tickets (as_T (is_sorted nat_cmp live.tickets) c.self.invariant.are.rising) in (
      free ∙ ap free_ticket c.self.view_is,
      ap
          (λ (ts : List Ticket). record { last = live.last; tickets = ts }) entries ∙ ap begun c.self.view_is,
    )

pub returns-in-Ok-clause-below : goal.returns-in-Ok-clause-below
returns-in-Ok-clause-below c =
    let live : LiveTickets = record { last = c.self.inside.last; tickets = c.self.inside.live.items } in
    let room : length live.tickets < max_live = omega (arith, c.len.ensures, c.if-len.false, c.self.inside.live.ok) in
    omega (arith, c.free_ticket-ticket.ensures.free ∙ ap (free_from 0) c.deref.ensures.value, free_below live room)

pub returns-in-Ok-clause-floor : goal.returns-in-Ok-clause-floor
returns-in-Ok-clause-floor c =
    let live : LiveTickets = record { last = c.self.inside.last; tickets = c.self.inside.live.items } in
    let room : length live.tickets < max_live = omega (arith, c.len.ensures, c.if-len.false, c.self.inside.live.ok) in
    let free = c.free_ticket-ticket.ensures.free ∙ ap (free_from 0) c.deref.ensures.value in
    let entries = c.in-Ok.ensures.items ∙ ap (λ (t : ℕ). insert live.tickets t (t, live.last)) free
    ∙ insert-free live.last live.tickets (as_T (is_sorted nat_cmp live.tickets) c.self.invariant.are.rising) in
    let after = kept-begun live (get nat_cmp c.self.inside.numbers) c.self.invariant (get nat_cmp c.add.new.numbers)
    room c.in_ok-add.ensures.ok in
    let floors = floor-begun live c.self.invariant.are after.are in
    subst (λ (ts : List Ticket). floor_of c.args.self.now ≤ floor_of (record { last = live.last; tickets = ts })) (sym entries)
    (subst (λ (l : LiveTickets). floor_of l ≤ floor_of (begun live)) c.self.view_is floors)

pub returns-in-Ok-clause-floor_stays : goal.returns-in-Ok-clause-floor_stays
returns-in-Ok-clause-floor_stays c =
    let live : LiveTickets = record { last = c.self.inside.last; tickets = c.self.inside.live.items } in
    let room : length live.tickets < max_live = omega (arith, c.len.ensures, c.if-len.false, c.self.inside.live.ok) in
    let free = c.free_ticket-ticket.ensures.free ∙ ap (free_from 0) c.deref.ensures.value in
    let entries = c.in-Ok.ensures.items ∙ ap (λ (t : ℕ). insert live.tickets t (t, live.last)) free
    ∙ insert-free live.last live.tickets (as_T (is_sorted nat_cmp live.tickets) c.self.invariant.are.rising) in
    let after = kept-begun live (get nat_cmp c.self.inside.numbers) c.self.invariant (get nat_cmp c.add.new.numbers)
    room c.in_ok-add.ensures.ok in
    let floors = floor-begun-same live c.self.invariant.are after.are in
    subst (λ (ts : List Ticket). floor_of (record { last = live.last; tickets = ts }) ≡ floor_of c.args.self.now) (sym entries)
    (subst (λ (l : LiveTickets). floor_of (begun live) ≡ floor_of l) c.self.view_is floors)

pub returns-in-Ok-clause-undone : goal.returns-in-Ok-clause-undone
returns-in-Ok-clause-undone c =
    let live : LiveTickets = record { last = c.self.inside.last; tickets = c.self.inside.live.items } in
    let free = c.free_ticket-ticket.ensures.free ∙ ap (free_from 0) c.deref.ensures.value in
    let entries = c.in-Ok.ensures.items ∙ ap (λ (t : ℕ). insert live.tickets t (t, live.last)) free
    ∙ insert-free live.last live.tickets (as_T (is_sorted nat_cmp live.tickets) c.self.invariant.are.rising) in
    ap (λ (ts : List Ticket). ended c.free_ticket-ticket.result (record { last = live.last; tickets = ts })) entries
    ∙ ap (λ (t : ℕ). ended t (begun live)) free ∙ ended-begun live c.self.invariant.are ∙ c.self.view_is
