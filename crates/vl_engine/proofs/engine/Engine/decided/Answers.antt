use Rattle.std.specs.Prelude.{◌≡◌, ◌≤◌, ℕ, List, IfOk}
use Rattle.std.specs.FinMap.{entries}
use Rattle.std.proofs.Common.{subst}
use Rattle.vl_conflict.specs.Recent.{Remembers}
use Rattle.vl_front.specs.Decisions.{MayWrite, decision_of}
use Rattle.vl_front.specs.declared.decision.Decision.TheVariants.{Write}
use Rattle.vl_front.specs.declared.decision.Decision.{Decision}
use Rattle.vl_front.specs.declared.front.Front.{Front}
use Rattle.vl_model.specs.Conflicts.{first_conflict}
use Rattle.vl_model.specs.History.{History}
use Rattle.vl_model.specs.Keys.{Writes}
use Rattle.vl_model.specs.Notes.{AreNotesOf}
use Rattle.vl_model.specs.Reads.{Read}
use Rattle.vl_txn.specs.Reads.{Notes}
use Rattle.vl_engine.proofs.engine.Engine.decided.Goals as goal

-- what is said of a decision on these notes and writes
abbrev IsOn : Front → ℕ → Notes → Writes → Decision → Type 0
IsOn front number notes writes decision = (h : History) (floor : ℕ) (rs : List Read) → Remembers floor h front.recent.named
    → floor ≤ number → AreNotesOf rs notes.keys notes.spans
    → decision ≡ decision_of front (entries writes) (first_conflict h number rs)

pub returns-clause-decided : goal.returns-clause-decided
returns-clause-decided g c =
    let front = c.args.self.now.core.front in
    let txn = c.args.txn.now in
    subst (λ (w : Writes). IfOk c.decide.result (IsOn front txn.number txn.reads w)) c.writes.ensures
    (subst (λ (r : Notes). IfOk c.decide.result (IsOn front txn.number r c.writes.result.now)) c.reads.ensures
    (subst (λ (n : ℕ). IfOk c.decide.result (IsOn front n c.reads.result.now c.writes.result.now)) c.number.ensures
    c.decide.ensures.decided))

pub returns-clause-write : goal.returns-clause-write
returns-clause-write g c =
    subst (λ (w : Writes). IfOk c.decide.result (λ decision. decision ≡ Write → MayWrite c.args.self.now.core.front (entries w)))
    c.writes.ensures c.decide.ensures.write
