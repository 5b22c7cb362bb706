use Rattle.std.proofs.Common.{◌≡◌, ap, sym, subst, ◌∙◌, List, Option, Some}
use Rattle.std.specs.Prelude.{Err, Ok}
use Rattle.std.specs.Option.{option_map}
use Rattle.std.proofs.lemmas.Result.{err_from_is_err_and}
use Rattle.vl_table.specs.body.Founds.{found_of}
use Rattle.vl_table.specs.declared.body.found.Found.{Found as TableFound}
use Rattle.vl_disk.specs.Faults.{HasCause}
use Rattle.vl_model.specs.Keys.{Stored}
use Rattle.vl_model.specs.Winners.{newest_of, resolved_at, winner}
use Rattle.vl_model.specs.declared.entry.Entry.{Entry}
use Rattle.vl_seglog.specs.declared.sealed.SealedLog.{SealedLog}
use Rattle.vl_version.specs.Answers.{Gives, IsAstray}
use Rattle.vl_version.specs.Faults.{Failed}
use Rattle.vl_version.specs.Newest.{newest_entry, stand_in}
use Rattle.vl_version.specs.Sources.{AreTold, in_memory, stored_in}
use Rattle.vl_version.specs.declared.behind.Behind.{Behind}
use Rattle.vl_version.specs.declared.levels.look.Look.TheVariants.{UpTo}
use Rattle.vl_version.specs.levels.LevelsLooked.{tables_of}
use Rattle.vl_version.proofs.FaultLaws.{handed_cause, handed_failure}
use Rattle.vl_version.proofs.NearLaws.{held_counts, near_winner}
use Rattle.vl_version.proofs.LookLaws.{fault_answers, given_of}
use Rattle.vl_version.proofs.NewestLaws.{newest_wins}
use Rattle.vl_version.proofs.OverLaws.{laid_behind, no_fault, on_version, over_fault, over_found, reads_behind}
use Rattle.std.proofs.Common.{inl, inr}
use Rattle.std.proofs.lemmas.Result.{IfErr-weaker}
use Rattle.vl_version.specs.Naming.{IsKeyFault, IsLogFault}
use Rattle.vl_version.specs.Sources.{tables_in}
use Rattle.vl_version.proofs.NamingLaws.{asked_fault, err_is}
use Rattle.vl_version.proofs.version.Version.get.Goals as goal

pub returns-clause-answers : goal.returns-clause-answers
returns-clause-answers g c files es logs reads has =
    let bytes = g.H.HeldFile.bytes in
    let self = c.args.self.now in
    let key = c.args.key.now in
    let number = c.args.number in
    let b = c.as_ref-behind.result.now in
    let behind = c.as_ref-behind.ensures in
    let stands = c.stand_in.ensures ∙ ap stand_in c.find_held-held.ensures in
    let on = on_version bytes self key number b behind c.stand_in.result stands _ _ (Ok c.in_ok-found.found)
    (c.in_ok-found.ensures.answers files
    (reads_behind bytes self key number b behind c.stand_in.result stands files c.args.reader.now reads)) in
    let wins = c.newer_of-counts.ensures key
    ∙ ap (λ (w : Option Entry). newest_of w (option_map (found_of key) c.in_ok-found.found)) c.find_held-held.ensures
    ∙ newest_wins bytes self es logs has key number c.in_ok-found.found _ _ on in
    let held = c.deref.ensures.value ∙ ap (λ (d : Behind g.row.H.Denot). d.logs.items) behind in
    given_of bytes self es logs has key number (newest_entry key c.newer_of-counts.result) wins c.deref.result.now held
    c.resolve_newest.result c.resolve_newest.ensures.answers

pub returns-in_err-found-clause-answers : goal.returns-in_err-found-clause-answers
returns-in_err-found-clause-answers g c files es logs reads has =
    let bytes = g.H.HeldFile.bytes in
    let self = c.args.self.now in
    let key = c.args.key.now in
    let number = c.args.number in
    let b = c.as_ref-behind.result.now in
    let behind = c.as_ref-behind.ensures in
    let stands = c.stand_in.ensures ∙ ap stand_in c.find_held-held.ensures in
    let p = err_from_is_err_and c.from_residual.result c.from_residual.ensures.1 in
    fault_answers bytes self es logs has key number (λ (value : Option Stored). resolved_at logs (winner es key number) ≡ Some value)
    (IsAstray logs (winner es key number)) c.in_err-found.field-0.0 _ _ _ c.from_residual.result (p.1 ∙ ap Err p.2)
    (on_version bytes self key number b behind c.stand_in.result stands _ _ (Err c.in_err-found.field-0.0)
    (c.in_err-found.ensures.answers files
    (reads_behind bytes self key number b behind c.stand_in.result stands files c.args.reader.now reads)))

pub returns-clause-looks : goal.returns-clause-looks
returns-clause-looks g c files reads laid told =
    let bytes = g.H.HeldFile.bytes in
    let self = c.args.self.now in
    let key = c.args.key.now in
    let number = c.args.number in
    let b = c.as_ref-behind.result.now in
    let behind = c.as_ref-behind.ensures in
    let stands = c.stand_in.ensures ∙ ap stand_in c.find_held-held.ensures in
    let held = c.deref.ensures.value ∙ ap (λ (d : Behind g.row.H.Denot). d.logs.items) behind in
    let now = reads_behind bytes self key number b behind c.stand_in.result stands files c.args.reader.now reads in
    let laid_then = laid_behind bytes self key number b behind c.stand_in.result stands laid in
    over_found bytes self key number b behind c.stand_in.result stands (Gives (stored_in bytes self.behind.logs.items))
    c.resolve_newest.result c.in_ok-found.found (newest_entry key c.newer_of-counts.result)
    (c.in_ok-found.ensures.looks files now laid_then)
    (c.newer_of-counts.ensures key
    ∙ ap (λ (w : Option Entry). newest_of w (option_map (found_of key) c.in_ok-found.found)) c.find_held-held.ensures)
    (subst (λ (l : List (SealedLog g.row.H.Denot)). Gives (stored_in bytes l)
    (newest_entry key c.newer_of-counts.result) c.resolve_newest.result) held
    (c.resolve_newest.ensures.answers (subst (AreTold bytes) (sym held) told)))

pub returns-in_err-found-clause-looks : goal.returns-in_err-found-clause-looks
returns-in_err-found-clause-looks g c files reads laid told =
    let bytes = g.H.HeldFile.bytes in
    let self = c.args.self.now in
    let key = c.args.key.now in
    let number = c.args.number in
    let b = c.as_ref-behind.result.now in
    let behind = c.as_ref-behind.ensures in
    let stands = c.stand_in.ensures ∙ ap stand_in c.find_held-held.ensures in
    let now = reads_behind bytes self key number b behind c.stand_in.result stands files c.args.reader.now reads in
    let laid_then = laid_behind bytes self key number b behind c.stand_in.result stands laid in
    let p = err_from_is_err_and c.from_residual.result c.from_residual.ensures.1 in
    over_fault bytes self key number b behind c.stand_in.result stands (Gives (stored_in bytes self.behind.logs.items))
    c.from_residual.result c.in_err-found.field-0.0 (c.in_err-found.ensures.looks files now laid_then) (p.1 ∙ ap Err p.2)

pub returns-clause-near : goal.returns-clause-near
returns-clause-near g c untabled near =
    let self = c.args.self.now in
    let key = c.args.key.now in
    let number = c.args.number in
    let b = c.as_ref-behind.result.now in
    let none = ap (λ (d : Behind g.row.H.Denot). tables_of d.levels) c.as_ref-behind.ensures ∙ untabled in
    let held = c.find_held-held.ensures in
    c.resolve_newest.ensures.near (near_winner (in_memory self) key number near (newest_entry key c.newer_of-counts.result)
    (c.newer_of-counts.ensures key
    ∙ held_counts g.H.HeldFile.bytes b.levels key number _ c.stand_in.result c.in_ok-found.found c.stand_in.ensures _ _
    c.args.reader.now none
    c.in_ok-found.ensures.answers
    ∙ held))

pub returns-in_err-found-clause-near : goal.returns-in_err-found-clause-near
returns-in_err-found-clause-near g c untabled near failed =
    let b = c.as_ref-behind.result.now in
    let p = err_from_is_err_and c.from_residual.result c.from_residual.ensures.1 in
    no_fault g.H.HeldFile.bytes b.levels (UpTo c.args.number) c.args.key.now _ _ _ c.args.reader.now (Err c.in_err-found.field-0.0)
    (ap (λ (d : Behind g.row.H.Denot). tables_of d.levels) c.as_ref-behind.ensures ∙ untabled) c.in_err-found.ensures.answers
    (handed_failure (Option Stored) (Option TableFound) c.in_err-found.field-0.0 c.from_residual.result (p.1 ∙ ap Err p.2) failed)

pub returns-clause-kept : goal.returns-clause-kept
returns-clause-kept g c files reads =
    let self = c.args.self.now in
    let b = c.as_ref-behind.result.now in
    let kept = c.find.ensures.kept files
    (reads_behind g.H.HeldFile.bytes self c.args.key.now c.args.number b c.as_ref-behind.ensures c.stand_in.result
    (c.stand_in.ensures ∙ ap stand_in c.find_held-held.ensures) files c.args.reader.now reads) in
    record { front = kept.front; others = kept.others }

pub returns-in_err-found-clause-kept : goal.returns-in_err-found-clause-kept
returns-in_err-found-clause-kept g c files reads =
    c.find.ensures.kept files
    (reads_behind g.H.HeldFile.bytes c.args.self.now c.args.key.now c.args.number c.as_ref-behind.result.now c.as_ref-behind.ensures
    c.stand_in.result (c.stand_in.ensures ∙ ap stand_in c.find_held-held.ensures) files c.args.reader.now reads)

pub returns-clause-cause : goal.returns-clause-cause
returns-clause-cause g c =
    subst (λ n. HasCause n (g.R.Reader.faults c.resolve_newest.new.reader) (Failed c.resolve_newest.result))
    (c.in_ok-found.ensures.cause.steady (λ none. none)) c.resolve_newest.ensures.cause

pub returns-in_err-found-clause-cause : goal.returns-in_err-found-clause-cause
returns-in_err-found-clause-cause g c =
    let p = err_from_is_err_and c.from_residual.result c.from_residual.ensures.1 in
    handed_cause (Option Stored) (Option TableFound) _ _ c.in_err-found.field-0.0 c.from_residual.result
    (p.1 ∙ ap Err p.2) c.in_err-found.ensures.cause

pub returns-clause-fault : goal.returns-clause-fault
returns-clause-fault g c files reads =
    let bytes = g.H.HeldFile.bytes in
    let self = c.args.self.now in
    let key = c.args.key.now in
    let held = c.deref.ensures.value ∙ ap (λ (d : Behind g.row.H.Denot). d.logs.items) c.as_ref-behind.ensures in
    IfErr-weaker c.resolve_newest.result _ (IsKeyFault bytes (tables_in self) self.behind.logs.items key)
    (λ e log. inr (subst (λ (l : List (SealedLog g.row.H.Denot)). IsLogFault l e) held log))
    c.resolve_newest.ensures.fault

pub returns-in_err-found-clause-fault : goal.returns-in_err-found-clause-fault
returns-in_err-found-clause-fault g c files reads =
    let bytes = g.H.HeldFile.bytes in
    let self = c.args.self.now in
    let key = c.args.key.now in
    let number = c.args.number in
    let b = c.as_ref-behind.result.now in
    let behind = c.as_ref-behind.ensures in
    let stands = c.stand_in.ensures ∙ ap stand_in c.find_held-held.ensures in
    let p = err_from_is_err_and c.from_residual.result c.from_residual.ensures.1 in
    let on = on_version bytes self key number b behind c.stand_in.result stands _ _ (Err c.in_err-found.field-0.0)
    (c.in_err-found.ensures.answers files
    (reads_behind bytes self key number b behind c.stand_in.result stands files c.args.reader.now reads)) in
    err_is {T = Option Stored} (IsKeyFault bytes (tables_in self) self.behind.logs.items key) c.in_err-found.field-0.0
    c.from_residual.result (p.1 ∙ ap Err p.2) (inl (asked_fault bytes (tables_in self) key c.in_err-found.field-0.0 on.fault))
