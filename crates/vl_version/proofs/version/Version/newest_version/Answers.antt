use Rattle.std.proofs.Common.{◌≡◌, ℕ, ◌+◌, ap, ◌∙◌, Option}
use Rattle.std.specs.Prelude.{Err, Ok}
use Rattle.std.specs.Option.{option_map}
use Rattle.std.proofs.lemmas.Result.{err_from_is_err_and}
use Rattle.vl_table.specs.body.Founds.{found_of}
use Rattle.vl_table.specs.declared.body.found.Found.{Found as TableFound}
use Rattle.vl_model.specs.Numbers.{greatest_below}
use Rattle.vl_model.specs.Versions.{versions_in}
use Rattle.vl_model.specs.Winners.{newest_of}
use Rattle.vl_model.specs.declared.entry.Entry.{Entry}
use Rattle.vl_version.specs.Newest.{newest_entry, stand_in}
use Rattle.vl_version.specs.Past.{IsVersionOf}
use Rattle.vl_version.specs.declared.behind.Behind.{Behind}
use Rattle.vl_version.specs.declared.levels.look.Look.TheVariants.{UpTo}
use Rattle.vl_version.specs.levels.LevelsLooked.{tables_of}
use Rattle.vl_version.proofs.FaultLaws.{handed_cause, handed_failure}
use Rattle.vl_version.proofs.LookLaws.{fault_answers}
use Rattle.vl_version.proofs.NewestLaws.{newest_wins}
use Rattle.vl_version.proofs.OverLaws.{laid_behind, no_fault, on_version, over_fault, over_found, reads_behind}
use Rattle.vl_version.proofs.PastLaws.{newest_version, version_in}
use Rattle.vl_version.specs.Naming.{IsAskedFault}
use Rattle.vl_version.specs.Sources.{tables_in}
use Rattle.vl_version.proofs.NamingLaws.{asked_fault, err_is}
use Rattle.vl_version.proofs.version.Version.newest_version.Goals as goal

pub returns-clause-seeks : goal.returns-clause-seeks
returns-clause-seeks g c =
    let bytes = g.H.HeldFile.bytes in
    let self = c.args.self.now in
    let key = c.args.key.now in
    let number = c.args.number in
    let b = c.as_ref-behind.result.now in
    let behind = c.as_ref-behind.ensures in
    let stands = c.stand_in.ensures ∙ ap stand_in c.find_held-held.ensures in
    record {
      cause = c.in_ok-found.ensures.cause;
      near = λ untabled failed. failed;
      kept = λ files reads.
          c.find.ensures.kept files (reads_behind bytes self key number b behind c.stand_in.result stands files c.args.reader.now reads);
      answers = λ files es logs reads has.
          let on = on_version bytes self key number b behind c.stand_in.result stands _ _ (Ok c.in_ok-found.found)
          (c.in_ok-found.ensures.answers files
          (reads_behind bytes self key number b behind c.stand_in.result stands files c.args.reader.now reads)) in
          let wins = c.newer_of.ensures key
          ∙ ap (λ (w : Option Entry). newest_of w (option_map (found_of key) c.in_ok-found.found)) c.find_held-held.ensures
          ∙ newest_wins bytes self es logs has key number c.in_ok-found.found _ _ on in
          c.version_of.ensures key ∙ ap version_in wins ∙ newest_version es key number;
    }

pub returns-in_err-found-clause-seeks : goal.returns-in_err-found-clause-seeks
returns-in_err-found-clause-seeks g c =
    let bytes = g.H.HeldFile.bytes in
    let self = c.args.self.now in
    let key = c.args.key.now in
    let number = c.args.number in
    let b = c.as_ref-behind.result.now in
    let behind = c.as_ref-behind.ensures in
    let stands = c.stand_in.ensures ∙ ap stand_in c.find_held-held.ensures in
    let p = err_from_is_err_and c.from_residual.result c.from_residual.ensures.1 in
    record {
      cause = handed_cause (Option ℕ) (Option TableFound) _ _ c.in_err-found.field-0.0 c.from_residual.result (p.1 ∙ ap Err p.2)
          c.in_err-found.ensures.cause;
      near = λ untabled failed.
          no_fault bytes b.levels (UpTo number) key _ _ _ c.args.reader.now (Err c.in_err-found.field-0.0)
          (ap (λ (d : Behind g.row.H.Denot). tables_of d.levels) behind ∙ untabled) c.in_err-found.ensures.answers
          (handed_failure (Option ℕ) (Option TableFound) c.in_err-found.field-0.0 c.from_residual.result (p.1 ∙ ap Err p.2) failed);
      kept = λ files reads.
          c.find.ensures.kept files (reads_behind bytes self key number b behind c.stand_in.result stands files c.args.reader.now reads);
      answers = λ files es logs reads has.
          fault_answers bytes self es logs has key number (λ (found : Option ℕ). found ≡ greatest_below (number + 1) (versions_in es key))
          (λ name place. ⊥) c.in_err-found.field-0.0 _ _ _ c.from_residual.result (p.1 ∙ ap Err p.2)
          (on_version bytes self key number b behind c.stand_in.result stands _ _ (Err c.in_err-found.field-0.0)
          (c.in_err-found.ensures.answers files
          (reads_behind bytes self key number b behind c.stand_in.result stands files c.args.reader.now reads)));
    }

pub returns-clause-looks : goal.returns-clause-looks
returns-clause-looks g c files reads laid =
    let bytes = g.H.HeldFile.bytes in
    let self = c.args.self.now in
    let key = c.args.key.now in
    let number = c.args.number in
    let b = c.as_ref-behind.result.now in
    let behind = c.as_ref-behind.ensures in
    let stands = c.stand_in.ensures ∙ ap stand_in c.find_held-held.ensures in
    let now = reads_behind bytes self key number b behind c.stand_in.result stands files c.args.reader.now reads in
    let laid_then = laid_behind bytes self key number b behind c.stand_in.result stands laid in
    over_found bytes self key number b behind c.stand_in.result stands IsVersionOf (Ok c.version_of.result)
    c.in_ok-found.found (newest_entry key c.newer_of.result) (c.in_ok-found.ensures.looks files now laid_then)
    (c.newer_of.ensures key
    ∙ ap (λ (w : Option Entry). newest_of w (option_map (found_of key) c.in_ok-found.found)) c.find_held-held.ensures)
    (ap Ok (c.version_of.ensures key))

pub returns-in_err-found-clause-looks : goal.returns-in_err-found-clause-looks
returns-in_err-found-clause-looks g c files reads laid =
    let bytes = g.H.HeldFile.bytes in
    let self = c.args.self.now in
    let key = c.args.key.now in
    let number = c.args.number in
    let b = c.as_ref-behind.result.now in
    let behind = c.as_ref-behind.ensures in
    let stands = c.stand_in.ensures ∙ ap stand_in c.find_held-held.ensures in
    let now = reads_behind bytes self key number b behind c.stand_in.result stands files c.args.reader.now reads in
    let laid_then = laid_behind bytes self key number b behind c.stand_in.result stands laid in
    let p = err_from_is_err_and c.from_residual.result c.from_residual.ensures.1 in
    over_fault bytes self key number b behind c.stand_in.result stands IsVersionOf c.from_residual.result
    c.in_err-found.field-0.0 (c.in_err-found.ensures.looks files now laid_then) (p.1 ∙ ap Err p.2)

pub returns-in_err-found-clause-fault : goal.returns-in_err-found-clause-fault
returns-in_err-found-clause-fault g c files reads =
    let bytes = g.H.HeldFile.bytes in
    let self = c.args.self.now in
    let key = c.args.key.now in
    let number = c.args.number in
    let b = c.as_ref-behind.result.now in
    let behind = c.as_ref-behind.ensures in
    let stands = c.stand_in.ensures ∙ ap stand_in c.find_held-held.ensures in
    let p = err_from_is_err_and c.from_residual.result c.from_residual.ensures.1 in
    let on = on_version bytes self key number b behind c.stand_in.result stands _ _ (Err c.in_err-found.field-0.0)
    (c.in_err-found.ensures.answers files
    (reads_behind bytes self key number b behind c.stand_in.result stands files c.args.reader.now reads)) in
    err_is {T = Option ℕ} (IsAskedFault bytes (tables_in self) key) c.in_err-found.field-0.0 c.from_residual.result
    (p.1 ∙ ap Err p.2) (asked_fault bytes (tables_in self) key c.in_err-found.field-0.0 on.fault)
