-- A write is allowed or refused, and only an allowed one is made.
use Rattle.std.specs.Prelude.{◌≡◌, ℕ, List, Result, Ok, Err, OnOk, ⊤}
use Rattle.std.specs.FinMap.{insert}
use Rattle.std.proofs.Common.{ap, subst, sym, ◌∙◌}
use Rattle.vl_model.specs.Keys.{Writes, tagged}
use Rattle.vl_model.specs.declared.change.Change.{Change}
use Rattle.vl_model.specs.declared.change.Change.TheVariants.{Delete, Set}
use Rattle.vl_txn.specs.Refusals.{IsWritten}
use Rattle.vl_txn.specs.declared.set_fail.SetFail.{SetFail}
use Rattle.vl_backup.proofs.loading.write_change.Goals as goal

written : (old new : Writes) (key k : List ℕ) (change made : Change) (result : Result ⊤ SetFail) → k ≡ key → made ≡ change
    → IsWritten old k made new result → OnOk result (new ≡ insert old key change)
written old new key k change made (Ok done) same is so =
    subst (λ (x : List ℕ). new ≡ insert old x change) same (subst (λ (x : Change). new ≡ insert old k x) is so.1)
written old new key k change made (Err why) same is so = tt

pub returns-in-Set-clause-written : goal.returns-in-Set-clause-written
returns-in-Set-clause-written g c =
    let value = c.in-Set.value in
    written c.args.txn.now.writes c.set_tagged.new.self.writes c.args.key.now c.as_slice.result.now c.args.change.now
    (Set (tagged c.as_slice-in-Set.result.now value.tag)) c.set_tagged.result c.as_slice.ensures
    (ap (λ (b : List ℕ). Set (tagged b value.tag)) c.as_slice-in-Set.ensures ∙ sym c.in-Set.is) c.set_tagged.ensures.written

pub returns-in-Delete-clause-written : goal.returns-in-Delete-clause-written
returns-in-Delete-clause-written g c =
    written c.args.txn.now.writes c.delete.new.self.writes c.args.key.now c.as_slice-in-Delete.result.now c.args.change.now
    Delete
    c.delete.result c.as_slice-in-Delete.ensures (sym c.in-Delete.is) c.delete.ensures.written
