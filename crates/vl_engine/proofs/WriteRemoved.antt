-- What is kept of which files can go, behind writing a commit, whatever that came to.
use Rattle.std.specs.Prelude.{◌≡◌, ℕ, List, Bool, Option, Result, Ok, Err, refl}
use Rattle.std.specs.FinMap.{entries}
use Rattle.std.proofs.Common.{sym, ap, subst, ◌∙◌, arith}
use Rattle.vl_back.specs.declared.back.Back.{Back}
use Rattle.vl_engine_laws.specs.Represents.{Fronts, file_of}
use Rattle.vl_engine_laws.specs.declared.kept.Core.{Core}
use Rattle.vl_disk.specs.declared.name.Name.TheVariants as names
use Rattle.vl_disk.specs.declared.name.Name.{Name}
use Rattle.vl_disk.specs.declared.watched.Watched.{Ghosts}
use Rattle.vl_steps.specs.laws.Committing.{accepted, answer_is, decides_answered, decides_failed, decides_short}
use Rattle.vl_space.specs.laws.StillRemoved.{IsAlike, pins_alike, removes_alike, removes_halted, removes_same}
use Rattle.vl_steps.specs.Answers.{commit_effects, commit_outcome}
use Rattle.vl_engine.specs.Space.{UnpinsAs}
use Rattle.vl_space.specs.Pinning.{unpinned}
use Rattle.vl_space.specs.Removing.{Removes}
use Rattle.vl_steps.specs.Steps.{WritesAs, log_of}
use Rattle.vl_steps.specs.declared.done.Done.TheVariants as done
use Rattle.vl_steps.specs.declared.done.Done.{Done}
use Rattle.vl_steps.specs.declared.fails.CommitFail.TheVariants as fails
use Rattle.vl_steps.specs.declared.fails.CommitFail.{CommitFail}
use Rattle.vl_space.specs.declared.kept.Removing.{Removing}
use Rattle.vl_engine_model.specs.Decides.{Decides, Failed, Otherwise, as_before, effects_of, no_effects}
use Rattle.vl_engine_model.specs.Ruling.{Ruling, ended}
use Rattle.vl_engine_model.specs.Rulings.Commit.{At, CommitAnswer, Transaction, commit_lost, commit_ruling, committed}
use Rattle.vl_engine_model.specs.declared.layout.Layout.{Layout}
use Rattle.vl_model.specs.History.{History}
use Rattle.vl_model.specs.Keys.{Writes}
use Rattle.vl_model.specs.Reads.{Read}
use Rattle.vl_pins.specs.Pins.{ArePinsOf}
use Rattle.vl_pins.specs.laws.PinLaws.{pins_ended}

-- the stock stays
pub stock_by : {H R L : Type 0} (ticket : ℕ) (old new : Removing L) (result : Result Done (CommitFail H R))
    → UnpinsAs ticket old new result → new.stock ≡ old.stock
stock_by {L = L} ticket old new (Ok done) is = ap (λ (r : Removing L). r.stock) is
stock_by {L = L} ticket old new (Err (fails.Halted name)) is = ap (λ (r : Removing L). r.stock) is
stock_by {L = L} ticket old new (Err (fails.Exhausted txn)) is = ap (λ (r : Removing L). r.stock) is
stock_by {L = L} ticket old new (Err (fails.Conflict key n)) is = ap (λ (r : Removing L). r.stock) is
stock_by {L = L} ticket old new (Err (fails.Full txn long frame)) is = ap (λ (r : Removing L). r.stock) is
stock_by {L = L} ticket old new (Err (fails.NoMemory txn)) is = ap (λ (r : Removing L). r.stock) is
stock_by {L = L} ticket old new (Err (fails.Disk name)) is = ap (λ (r : Removing L). r.stock) is

module _ {D H : Type 0} (g : Ghosts D) (bytes : H → Option (List ℕ)) (disk then : D)
    (before after : Core H) (h : History) (l : Layout) (ticket number : ℕ) (reads : List Read) (writes : Writes)
    (back : after.back ≡ before.back) (logs : after.version.behind.logs.items ≡ before.version.behind.logs.items)
    {L : Type 0} (old new : Removing L) (is : Fronts before h l) (removes : Removes before old l) where
  abbrev t : Transaction
  t = record { ticket = ticket; number = number; reads = reads; writes = entries writes }

  abbrev ruling : Ruling CommitAnswer
  ruling = commit_ruling l h t

  abbrev otherwise : Otherwise
  otherwise = as_before l (commit_lost l t)

  abbrev Stays : History → Layout → Type 0
  Stays _ k = Removes after new k

  -- it has ended
  ended_pins : new ≡ unpinned ticket old → ArePinsOf new.pins (ended ticket l)
  ended_pins same = subst (λ (r : Removing L). ArePinsOf r.pins (ended ticket l)) (sym same) (pins_ended old.pins l removes.pins ticket)

  -- its frame stands in the active log
  longer : new ≡ unpinned ticket old → Stays h (committed l h t).layout
  longer same =
      let k = (committed l h t).layout in
      removes_alike l k (record {
        flushed = refl;
        frozen = refl;
        levels = refl;
        retired = refl;
        active = refl;
        later = omega arith;
        lent = omega arith;
        running = λ e. e;
      }) before after logs old new (ap (λ (r : Removing L). r.stock) same)
      (pins_alike new.pins (ended ticket l) k refl refl refl (omega arith) (ended_pins same)) removes

  module _ {R : Type 0} (write : committed l h t ≡ ruling) where
    pub removes_by : (result : Result Done (CommitFail H R)) → WritesAs g disk then before after ticket writes result
        → UnpinsAs ticket old new result
        → Decides Stays h l ruling otherwise (commit_outcome result) (commit_effects result)
    removes_by (Ok (done.At given)) (given_is, wrote) same =
        decides_answered Stays h l ruling otherwise (At given) (record no_effects { calls = 2 })
        (answer_is bytes before after h l ticket number reads writes back write g disk then wrote given given_is is)
        (ap (λ (r : Ruling CommitAnswer). effects_of r) write)
        (subst (λ (r : Ruling CommitAnswer). Stays r.history r.layout) write (longer same))
    removes_by (Ok done.Nothing) none same = absurd none
    removes_by (Err (fails.Halted name)) none same = absurd none
    removes_by (Err (fails.Exhausted txn)) none same = absurd none
    removes_by (Err (fails.Conflict key n)) none same = absurd none
    removes_by (Err (fails.Full txn long frame)) none same = absurd none
    removes_by (Err (fails.NoMemory txn)) un same =
        decides_short Stays h l ruling (commit_lost l t)
        (removes_same before after old new l logs (ap (λ (r : Removing L). r.stock) same)
        (subst (λ (r : Removing L). ArePinsOf r.pins l) (sym same) removes.pins) removes)
    removes_by (Err (fails.Disk name)) (named, failed) same =
        decides_failed Stays h l ruling (commit_lost l t) (file_of name) no_effects
        (accepted bytes before after h l ticket number reads writes back write).running
        (removes_halted after new (ended ticket l) (file_of name) (ended_pins same))
