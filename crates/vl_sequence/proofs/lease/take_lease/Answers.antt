use Rattle.std.proofs.Common.{true, false, [], ◌∷◌, ◌+◌, ℕ, ap, refl, subst}
use Rattle.std.specs.FinMap.{entries}
use Rattle.vl_drive.specs.Answers.{asked}
use Rattle.vl_drive.specs.Steps.{history_by}
use Rattle.vl_engine_model.specs.LockHistory.{open_tickets}
use Rattle.vl_model.specs.History.{value_at}
use Rattle.vl_model.specs.Keys.{Writes}
use Rattle.vl_model.specs.Reads.{KeyRead}
use Rattle.vl_sequence.proofs.Beginnings.{on_then, passed_up}
use Rattle.vl_sequence.proofs.Committed.{committed_same, on_err, uncommitted}
use Rattle.vl_sequence.proofs.Taking.{begin_cause, commit_cause, raise_cause, takes}
use Rattle.vl_sequence.proofs.Tickets.{leaves}
use Rattle.vl_sequence.proofs.Writing.{some_written}
use Rattle.vl_sequence.specs.Causes.{IsCause, IsCommitCause}
use Rattle.vl_sequence.specs.Sequences.{Puts, lease_writes}
use Rattle.vl_sequence.proofs.lease.take_lease.Goals as goal

pub commit-requires-clause-sees : goal.commit-requires-clause-sees
commit-requires-clause-sees g c κs within =
    let u = g.S.Shop.knows c.begin.new.shop in
    let h = history_by u.origin u.seen in
    let key = c.args.key.now in
    (h, KeyRead key (value_at h (g.S.Shop.number c.in_ok-txn.txn) key) ∷ [], c.in-Ok.ensures.sees h [] c.in_ok-txn.ensures.sees)

pub commit-requires-clause-writes : goal.commit-requires-clause-writes
commit-requires-clause-writes g c κs within none =
    some_written c.args.key.now (c.in-Ok.first + c.args.lease) (g.S.Shop.writes c.raise.new.txn) c.in-Ok.ensures.writes none

pub returns-in_ok-commit-in-Ok-clause-took : goal.returns-in_ok-commit-in-Ok-clause-took
returns-in_ok-commit-in-Ok-clause-took g c =
    let v = g.S.Shop.knows c.args.shop.now in
    let u = g.S.Shop.knows c.begin.new.shop in
    let x = g.S.Shop.knows c.raise.new.shop in
    let w = g.S.Shop.knows c.commit.new.shop in
    let h = history_by u.origin u.seen in
    let key = c.args.key.now in
    let begun = c.in_ok-txn.txn in
    let last = c.raise.new.txn in
    let end = c.in-Ok.first + c.args.lease in
    let value = value_at h (g.S.Shop.number begun) key in
    let seen = c.in-Ok.ensures.sees h [] c.in_ok-txn.ensures.sees in
    let puts = subst (λ (n : ℕ). Puts x w (g.S.Shop.ticket last) n (KeyRead key value ∷ []) (lease_writes key end)) c.in-Ok.ensures.number
    (subst (λ (ws : Writes). Puts x w (g.S.Shop.ticket last) (g.S.Shop.number last) (KeyRead key value ∷ []) ws) c.in-Ok.ensures.writes
    (c.in_ok-commit-in-Ok.ensures.puts h (KeyRead key value ∷ []) seen)) in
    takes v u x (g.S.Shop.ticket begun) (g.S.Shop.number begun) key value c.in_ok-txn.ensures.begun c.in-Ok.ensures.looks refl
    c.reads_without_conflict_stay_explained.ensures w (g.S.Shop.ticket last) c.in-Ok.first end puts
    (c.in-Ok.ensures.told h [] c.in_ok-txn.ensures.sees) c.in-Ok.ensures.fits c.in-Ok.ensures.ticket c.in_ok-commit-in-Ok.ensures.closes

pub returns-in_ok-commit-in-Ok-clause-on : goal.returns-in_ok-commit-in-Ok-clause-on
returns-in_ok-commit-in-Ok-clause-on g c =
    let v = g.S.Shop.knows c.args.shop.now in
    let u = g.S.Shop.knows c.begin.new.shop in
    let x = g.S.Shop.knows c.raise.new.shop in
    let w = g.S.Shop.knows c.commit.new.shop in
    on_then v u w c.in_ok-txn.ensures.on (on_then u x w c.in-Ok.ensures.looks.on c.in_ok-commit-in-Ok.ensures.closes.on)

pub returns-in_ok-commit-in-Ok-clause-nothing : goal.returns-in_ok-commit-in-Ok-clause-nothing
returns-in_ok-commit-in-Ok-clause-nothing g c =
    leaves true (g.S.Shop.knows c.args.shop.now) (g.S.Shop.knows c.begin.new.shop) (g.S.Shop.knows c.raise.new.shop)
    (g.S.Shop.knows c.commit.new.shop) (g.S.Shop.ticket c.in_ok-txn.txn) (g.S.Shop.number c.in_ok-txn.txn)
    (g.S.Shop.ticket c.raise.new.txn) c.in_ok-txn.ensures.begun c.in-Ok.ensures.looks c.in-Ok.ensures.ticket
    c.in_ok-commit-in-Ok.ensures.closes

-- no transaction was begun

pub returns-in_err-txn-clause-cause : goal.returns-in_err-txn-clause-cause
returns-in_err-txn-clause-cause g c =
    let v = g.S.Shop.knows c.args.shop.now in
    let u = g.S.Shop.knows c.begin.new.shop in
    let why = c.in_err-txn.field-0.0 in
    passed_up c.from_residual.result why (IsCause v u c.args.key.now c.args.lease) c.from_residual.ensures.1
    (begin_cause v u c.args.key.now c.args.lease why c.in_err-txn.ensures.cause)

pub returns-in_err-txn-clause-nothing : goal.returns-in_err-txn-clause-nothing
returns-in_err-txn-clause-nothing g c = ap (open_tickets []) c.in_err-txn.ensures.none.own

pub returns-in_err-txn-clause-commits : goal.returns-in_err-txn-clause-commits
returns-in_err-txn-clause-commits g c commits made =
    on_err c.from_residual.result
    (committed_same commits (g.S.Shop.knows c.args.shop.now) (g.S.Shop.knows c.begin.new.shop) made c.in_err-txn.ensures.on
    c.in_err-txn.ensures.none)

-- it wasn't committed

pub returns-in_err-commit-in-Ok-clause-on : goal.returns-in_err-commit-in-Ok-clause-on
returns-in_err-commit-in-Ok-clause-on g c =
    let v = g.S.Shop.knows c.args.shop.now in
    let u = g.S.Shop.knows c.begin.new.shop in
    let x = g.S.Shop.knows c.raise.new.shop in
    let w = g.S.Shop.knows c.commit.new.shop in
    on_then v u w c.in_ok-txn.ensures.on (on_then u x w c.in-Ok.ensures.looks.on c.in_err-commit-in-Ok.ensures.closes.on)

pub returns-in_err-commit-in-Ok-clause-nothing : goal.returns-in_err-commit-in-Ok-clause-nothing
returns-in_err-commit-in-Ok-clause-nothing g c =
    leaves false (g.S.Shop.knows c.args.shop.now) (g.S.Shop.knows c.begin.new.shop) (g.S.Shop.knows c.raise.new.shop)
    (g.S.Shop.knows c.commit.new.shop) (g.S.Shop.ticket c.in_ok-txn.txn) (g.S.Shop.number c.in_ok-txn.txn)
    (g.S.Shop.ticket c.raise.new.txn) c.in_ok-txn.ensures.begun c.in-Ok.ensures.looks c.in-Ok.ensures.ticket
    c.in_err-commit-in-Ok.ensures.closes

pub returns-in_err-commit-in-Ok-clause-cause : goal.returns-in_err-commit-in-Ok-clause-cause
returns-in_err-commit-in-Ok-clause-cause g c =
    let v = g.S.Shop.knows c.args.shop.now in
    let u = g.S.Shop.knows c.begin.new.shop in
    let x = g.S.Shop.knows c.raise.new.shop in
    let w = g.S.Shop.knows c.commit.new.shop in
    let h = history_by u.origin u.seen in
    let key = c.args.key.now in
    let begun = c.in_ok-txn.txn in
    let last = c.raise.new.txn in
    let end = c.in-Ok.first + c.args.lease in
    let value = value_at h (g.S.Shop.number begun) key in
    let seen = c.in-Ok.ensures.sees h [] c.in_ok-txn.ensures.sees in
    let why = c.in_err-commit-in-Ok.field-0.0 in
    let is = subst (λ (n : ℕ). IsCommitCause x w (asked (g.S.Shop.ticket last) n (KeyRead key value ∷ []) (entries (lease_writes key end))) why)
    c.in-Ok.ensures.number
    (subst (λ (ws : Writes). IsCommitCause x w (asked (g.S.Shop.ticket last) (g.S.Shop.number last) (KeyRead key value ∷ []) (entries ws)) why)
    c.in-Ok.ensures.writes (c.in_err-commit-in-Ok.ensures.cause h (KeyRead key value ∷ []) seen)) in
    passed_up c.from_residual-in_err-commit-in-Ok.result why (IsCause v w key c.args.lease)
    c.from_residual-in_err-commit-in-Ok.ensures.1
    (commit_cause v u x (g.S.Shop.ticket begun) (g.S.Shop.number begun) key value c.in_ok-txn.ensures.begun c.in-Ok.ensures.looks refl
    w c.args.lease (g.S.Shop.ticket last) c.in-Ok.first why (c.in-Ok.ensures.told h [] c.in_ok-txn.ensures.sees)
    c.in-Ok.ensures.fits c.in_err-commit-in-Ok.ensures.closes.on is)

pub returns-in_err-commit-in-Ok-clause-commits : goal.returns-in_err-commit-in-Ok-clause-commits
returns-in_err-commit-in-Ok-clause-commits g c commits made =
    on_err c.from_residual-in_err-commit-in-Ok.result
    (uncommitted commits (g.S.Shop.knows c.args.shop.now) (g.S.Shop.knows c.begin.new.shop) (g.S.Shop.knows c.raise.new.shop)
    (g.S.Shop.knows c.commit.new.shop) (g.S.Shop.ticket c.in_ok-txn.txn) (g.S.Shop.number c.in_ok-txn.txn)
    (g.S.Shop.ticket c.raise.new.txn) c.in_ok-txn.ensures.begun c.in-Ok.ensures.looks c.in-Ok.ensures.ticket
    c.in_err-commit-in-Ok.ensures.closes made)

-- the key wasn't raised

pub returns-in-Err-clause-on : goal.returns-in-Err-clause-on
returns-in-Err-clause-on g c =
    let v = g.S.Shop.knows c.args.shop.now in
    let u = g.S.Shop.knows c.begin.new.shop in
    let x = g.S.Shop.knows c.raise.new.shop in
    let w = g.S.Shop.knows c.give_up.new.shop in
    on_then v u w c.in_ok-txn.ensures.on (on_then u x w c.in-Err.ensures.looks.on c.give_up.ensures.on)

pub returns-in-Err-clause-nothing : goal.returns-in-Err-clause-nothing
returns-in-Err-clause-nothing g c =
    leaves false (g.S.Shop.knows c.args.shop.now) (g.S.Shop.knows c.begin.new.shop) (g.S.Shop.knows c.raise.new.shop)
    (g.S.Shop.knows c.give_up.new.shop) (g.S.Shop.ticket c.in_ok-txn.txn) (g.S.Shop.number c.in_ok-txn.txn)
    (g.S.Shop.ticket c.raise.new.txn) c.in_ok-txn.ensures.begun c.in-Err.ensures.looks c.in-Err.ensures.ticket c.give_up.ensures

pub returns-in-Err-clause-cause : goal.returns-in-Err-clause-cause
returns-in-Err-clause-cause g c =
    let v = g.S.Shop.knows c.args.shop.now in
    let u = g.S.Shop.knows c.begin.new.shop in
    let x = g.S.Shop.knows c.raise.new.shop in
    let w = g.S.Shop.knows c.give_up.new.shop in
    let h = history_by u.origin u.seen in
    let key = c.args.key.now in
    let begun = c.in_ok-txn.txn in
    let value = value_at h (g.S.Shop.number begun) key in
    raise_cause v u x (g.S.Shop.ticket begun) (g.S.Shop.number begun) key value c.in_ok-txn.ensures.begun c.in-Err.ensures.looks refl
    w c.args.lease c.in-Err.why c.give_up.ensures.on (c.in-Err.ensures.cause h [] c.in_ok-txn.ensures.sees)

pub returns-in-Err-clause-commits : goal.returns-in-Err-clause-commits
returns-in-Err-clause-commits g c commits made =
    uncommitted commits (g.S.Shop.knows c.args.shop.now) (g.S.Shop.knows c.begin.new.shop) (g.S.Shop.knows c.raise.new.shop)
    (g.S.Shop.knows c.give_up.new.shop) (g.S.Shop.ticket c.in_ok-txn.txn) (g.S.Shop.number c.in_ok-txn.txn)
    (g.S.Shop.ticket c.raise.new.txn) c.in_ok-txn.ensures.begun c.in-Err.ensures.looks c.in-Err.ensures.ticket c.give_up.ensures made
