use Rattle.vl_pins.specs.laws.SameTickets.{same_begun, same_ended, same_free_ticket, same_many}
use Rattle.vl_pins.proofs.laws.same_tickets_stay_the_same.Goals as goal

pub returns : goal.returns
returns c = record {
  free = λ one other same. same_free_ticket one other same;
  many = λ one other same. same_many one other same;
  begun = λ one other same. same_begun one other same;
  ended = λ one other ticket same. same_ended one other same ticket;
}
