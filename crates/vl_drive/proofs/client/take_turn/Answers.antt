use Rattle.std.proofs.Common.{◌+◌, ◌-◌, ◌^◌, ◌∷◌, [], min, ap, sym, ◌∙◌, subst, arith}
use Rattle.std.specs.FinMap.{empty, entries}
use Rattle.vl_drive.proofs.Modesty.{busy_as, busy_looked, busy_modest, on_err}
use Rattle.vl_drive.proofs.Playing.{looks_then}
use Rattle.vl_drive.proofs.Small.{small_below, small_more, small_none, some_written}
use Rattle.vl_drive.proofs.Turning.{reads_of, turn_done}
use Rattle.vl_drive.specs.Accounts.{account_key, added, balance_in, moved, with_balance}
use Rattle.vl_drive.specs.Answers.{asked}
use Rattle.vl_drive.specs.Playing.{HasEnded}
use Rattle.vl_drive.specs.Small.{IsSmall}
use Rattle.vl_drive.specs.Steps.{history_by}
use Rattle.vl_model.specs.History.{value_at}
use Rattle.vl_model.specs.Reads.{KeyRead}
use Rattle.vl_drive.proofs.client.take_turn.Goals as goal

pub balance-requires-2-clause-sees : goal.balance-requires-2-clause-sees
balance-requires-2-clause-sees g c κs within =
    let u = g.S.Shop.knows c.begin.new.shop in
    let h = history_by u.origin u.seen in
    (h, _, c.in_ok-from.ensures.sees h [] c.in_ok-txn.ensures.sees)

pub set-requires-clause-small : goal.set-requires-clause-small
set-requires-clause-small g c κs within =
    let none = c.balance-2.ensures.writes ∙ c.balance.ensures.writes ∙ c.in_ok-txn.ensures.new in
    subst IsSmall (sym none) (small_below 0 empty (omega arith) small_none)

pub set-requires-2-clause-small : goal.set-requires-2-clause-small
set-requires-2-clause-small g c κs within =
    let t = c.args.transfer in
    let none = c.balance-2.ensures.writes ∙ c.balance.ensures.writes ∙ c.in_ok-txn.ensures.new in
    let balance = c.in_ok-from.from - c.min-moved.result in
    let one = c.in_ok-set.ensures.writes ∙ ap (with_balance t.from balance) none in
    subst IsSmall (sym one)
    (small_below 1 (with_balance t.from balance empty) (omega arith) (small_more 0 t.from balance empty small_none))

pub commit-requires-clause-writes : goal.commit-requires-clause-writes
commit-requires-clause-writes g c κs within none =
    some_written c.args.transfer.to c.saturating_add.result (g.S.Shop.writes c.set.new.txn)
    (ap entries (sym c.in_ok-set-2.ensures.writes) ∙ none)

pub commit-requires-clause-sees : goal.commit-requires-clause-sees
commit-requires-clause-sees g c κs within =
    let u = g.S.Shop.knows c.begin.new.shop in
    let h = history_by u.origin u.seen in
    let from = c.in_ok-from.ensures.sees h [] c.in_ok-txn.ensures.sees in
    let to = c.in_ok-to.ensures.sees h _ from in
    (h, _, c.in_ok-set-2.ensures.sees h _ (c.in_ok-set.ensures.sees h _ to))

pub returns-clause-taken : goal.returns-clause-taken
returns-clause-taken g c =
    let shop = g.S.Shop in
    let t = c.args.transfer in
    let v = shop.knows c.args.shop.now in
    let u = shop.knows c.begin.new.shop in
    let x = shop.knows c.set-2.new.shop in
    let w = shop.knows c.commit.new.shop in
    let h = history_by u.origin u.seen in
    let begun = c.in_ok-txn.txn in
    let last = c.set-2.new.txn in
    let from = c.in_ok-from.from in
    let to = c.in_ok-to.to in
    let committed = c.in_ok-committed.committed in
    let number_is = c.in_ok-from.ensures.number in
    let first_sees = c.in_ok-from.ensures.sees h [] c.in_ok-txn.ensures.sees in
    let both_sees = c.in_ok-to.ensures.sees h _ first_sees in
    let all_sees = c.in_ok-set-2.ensures.sees h _ (c.in_ok-set.ensures.sees h _ both_sees) in
    let to_is = c.in_ok-to.ensures.value h _ first_sees
    ∙ ap (λ n. balance_in (value_at h n (account_key t.to))) number_is in
    let tickets = c.in_ok-set-2.ensures.ticket ∙ c.in_ok-set.ensures.ticket ∙ c.in_ok-to.ensures.ticket ∙ c.in_ok-from.ensures.ticket in
    let numbers = c.in_ok-set-2.ensures.number ∙ c.in_ok-set.ensures.number ∙ c.in_ok-to.ensures.number ∙ number_is in
    let none = c.in_ok-to.ensures.writes ∙ c.in_ok-from.ensures.writes ∙ c.in_ok-txn.ensures.new in
    let sum = c.saturating_add.ensures ∙ ap (λ m. min (to + m) (2 ^ 64 - 1)) c.min-moved.ensures in
    let one = c.in_ok-set.ensures.writes ∙ ap (λ m. with_balance t.from (from - m) (shop.writes c.balance-2.new.txn)) c.min-moved.ensures
    ∙ ap (with_balance t.from (from - moved t from)) none in
    let both = c.in_ok-set-2.ensures.writes ∙ ap (λ b. with_balance t.to b (shop.writes c.set.new.txn)) sum
    ∙ ap (with_balance t.to (added to (moved t from))) one in
    let read = KeyRead (account_key t.from) (value_at h (shop.number begun) (account_key t.from)) in
    let ended = c.in_ok-committed.ensures.ended h _ all_sees in
    let at_number = subst (λ n. HasEnded (asked (shop.ticket last) (shop.number last)
    (read ∷ KeyRead (account_key t.to) (value_at h n (account_key t.to)) ∷ []) (entries (shop.writes last))) committed x w) number_is ended in
    let reads = reads_of t h (shop.number begun) in
    let at_ticket = subst (λ k. HasEnded (asked k (shop.number last) reads (entries (shop.writes last))) committed x w) tickets at_number in
    let numbered = subst (λ n. HasEnded (asked (shop.ticket begun) n reads (entries (shop.writes last))) committed x w) numbers at_ticket in
    let written = subst (λ ws. HasEnded (asked (shop.ticket begun) (shop.number begun) reads (entries ws)) committed x w) both numbered in
    let looks = looks_then u (shop.knows c.balance.new.shop) x c.in_ok-from.ensures.looks
    (looks_then (shop.knows c.balance.new.shop) (shop.knows c.balance-2.new.shop) x c.in_ok-to.ensures.looks
    (looks_then (shop.knows c.balance-2.new.shop) (shop.knows c.set.new.shop) x c.in_ok-set.ensures.looks c.in_ok-set-2.ensures.looks)) in
    turn_done (shop.ticket begun) (shop.number begun) c.in_ok-txn.ensures.begun.0 v u c.in_ok-txn.ensures.begun.1 t committed x w from to
    c.in_ok-txn.ensures.on looks (c.in_ok-from.ensures.value h [] c.in_ok-txn.ensures.sees) to_is written

pub returns-in_err-from-clause-modest : goal.returns-in_err-from-clause-modest
returns-in_err-from-clause-modest g c turns idle =
    let shop = g.S.Shop in
    let ticket = shop.ticket c.in_ok-txn.txn in
    let number = shop.number c.in_ok-txn.txn in
    on_err _ (busy_modest ticket number turns (shop.knows c.balance.new.shop)
    (busy_looked ticket number turns (shop.knows c.begin.new.shop) (shop.knows c.balance.new.shop) c.balance.ensures.looks
    (c.in_ok-txn.ensures.busy turns idle)))

pub returns-in_err-to-clause-modest : goal.returns-in_err-to-clause-modest
returns-in_err-to-clause-modest g c turns idle =
    let shop = g.S.Shop in
    let ticket = shop.ticket c.in_ok-txn.txn in
    let number = shop.number c.in_ok-txn.txn in
    on_err _ (busy_modest ticket number turns (shop.knows c.balance-2.new.shop)
    (busy_looked ticket number turns (shop.knows c.balance.new.shop) (shop.knows c.balance-2.new.shop) c.balance-2.ensures.looks
    (busy_looked ticket number turns (shop.knows c.begin.new.shop) (shop.knows c.balance.new.shop) c.balance.ensures.looks
    (c.in_ok-txn.ensures.busy turns idle))))

pub returns-in_err-set-clause-modest : goal.returns-in_err-set-clause-modest
returns-in_err-set-clause-modest g c turns idle =
    let shop = g.S.Shop in
    let ticket = shop.ticket c.in_ok-txn.txn in
    let number = shop.number c.in_ok-txn.txn in
    on_err _ (busy_modest ticket number turns (shop.knows c.set.new.shop)
    (busy_looked ticket number turns (shop.knows c.balance-2.new.shop) (shop.knows c.set.new.shop) c.set.ensures.looks
    (busy_looked ticket number turns (shop.knows c.balance.new.shop) (shop.knows c.balance-2.new.shop) c.balance-2.ensures.looks
    (busy_looked ticket number turns (shop.knows c.begin.new.shop) (shop.knows c.balance.new.shop) c.balance.ensures.looks
    (c.in_ok-txn.ensures.busy turns idle)))))

pub returns-in_err-set-2-clause-modest : goal.returns-in_err-set-2-clause-modest
returns-in_err-set-2-clause-modest g c turns idle =
    let shop = g.S.Shop in
    let ticket = shop.ticket c.in_ok-txn.txn in
    let number = shop.number c.in_ok-txn.txn in
    on_err _ (busy_modest ticket number turns (shop.knows c.set-2.new.shop)
    (busy_looked ticket number turns (shop.knows c.set.new.shop) (shop.knows c.set-2.new.shop) c.set-2.ensures.looks
    (busy_looked ticket number turns (shop.knows c.balance-2.new.shop) (shop.knows c.set.new.shop) c.set.ensures.looks
    (busy_looked ticket number turns (shop.knows c.balance.new.shop) (shop.knows c.balance-2.new.shop) c.balance-2.ensures.looks
    (busy_looked ticket number turns (shop.knows c.begin.new.shop) (shop.knows c.balance.new.shop) c.balance.ensures.looks
    (c.in_ok-txn.ensures.busy turns idle))))))

pub returns-in_err-committed-clause-modest : goal.returns-in_err-committed-clause-modest
returns-in_err-committed-clause-modest g c turns idle =
    let shop = g.S.Shop in
    let ticket = shop.ticket c.in_ok-txn.txn in
    let number = shop.number c.in_ok-txn.txn in
    let last = c.set-2.new.txn in
    let tickets = c.in_ok-set-2.ensures.ticket ∙ c.in_ok-set.ensures.ticket ∙ c.in_ok-to.ensures.ticket ∙ c.in_ok-from.ensures.ticket in
    let numbers = c.in_ok-set-2.ensures.number ∙ c.in_ok-set.ensures.number ∙ c.in_ok-to.ensures.number ∙ c.in_ok-from.ensures.number in
    on_err _ (c.in_err-committed.ensures.modest turns (busy_as ticket number (shop.ticket last) (shop.number last) turns (shop.knows c.set-2.new.shop) tickets numbers
    (busy_looked ticket number turns (shop.knows c.set.new.shop) (shop.knows c.set-2.new.shop) c.set-2.ensures.looks
    (busy_looked ticket number turns (shop.knows c.balance-2.new.shop) (shop.knows c.set.new.shop) c.set.ensures.looks
    (busy_looked ticket number turns (shop.knows c.balance.new.shop) (shop.knows c.balance-2.new.shop) c.balance-2.ensures.looks
    (busy_looked ticket number turns (shop.knows c.begin.new.shop) (shop.knows c.balance.new.shop) c.balance.ensures.looks
    (c.in_ok-txn.ensures.busy turns idle)))))))

pub returns-clause-idle : goal.returns-clause-idle
returns-clause-idle g c turns idle =
    let shop = g.S.Shop in
    let ticket = shop.ticket c.in_ok-txn.txn in
    let number = shop.number c.in_ok-txn.txn in
    let last = c.set-2.new.txn in
    let tickets = c.in_ok-set-2.ensures.ticket ∙ c.in_ok-set.ensures.ticket ∙ c.in_ok-to.ensures.ticket ∙ c.in_ok-from.ensures.ticket in
    let numbers = c.in_ok-set-2.ensures.number ∙ c.in_ok-set.ensures.number ∙ c.in_ok-to.ensures.number ∙ c.in_ok-from.ensures.number in
    (c.in_ok-committed.ensures.idle turns (busy_as ticket number (shop.ticket last) (shop.number last) turns (shop.knows c.set-2.new.shop) tickets numbers
    (busy_looked ticket number turns (shop.knows c.set.new.shop) (shop.knows c.set-2.new.shop) c.set-2.ensures.looks
    (busy_looked ticket number turns (shop.knows c.balance-2.new.shop) (shop.knows c.set.new.shop) c.set.ensures.looks
    (busy_looked ticket number turns (shop.knows c.balance.new.shop) (shop.knows c.balance-2.new.shop) c.balance-2.ensures.looks
    (busy_looked ticket number turns (shop.knows c.begin.new.shop) (shop.knows c.balance.new.shop) c.balance.ensures.looks
    (c.in_ok-txn.ensures.busy turns idle)))))))
