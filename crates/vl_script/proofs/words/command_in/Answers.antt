use Rattle.std.proofs.Common.{◌∙◌, ap, map, string_bytes, sym, Some}
use Rattle.std.proofs.lemmas.Result.{IfOk-weaker}
use Rattle.vl_script.proofs.Plain.{is_bench, is_drive, is_ids, is_trial}
use Rattle.vl_script.proofs.words.command_in.Goals as goal

pub trial_in-requires : goal.trial_in-requires
trial_in-requires c =
    let arm = c.in-Some-Trial in
    record {
      plain = (is_trial (map string_bytes c.args.words.now) arm.field-0-0 arm.field-0-1
          (sym c.spelled.ensures ∙ arm.is ∙ ap Some arm.field-0-is)).plain;
    }

pub bench_in-requires : goal.bench_in-requires
bench_in-requires c =
    let arm = c.in-Some-Bench in
    record {
      plain = (is_bench (map string_bytes c.args.words.now) arm.field-0-0 arm.field-0-1
          (sym c.spelled.ensures ∙ arm.is ∙ ap Some arm.field-0-is)).plain;
    }

pub drive_in-requires : goal.drive_in-requires
drive_in-requires c =
    let arm = c.in-Some-Drive in
    record {
      plain = (is_drive (map string_bytes c.args.words.now) arm.field-0-0 arm.field-0-1 arm.field-0-2
          (sym c.spelled.ensures ∙ arm.is ∙ ap Some arm.field-0-is)).plain;
    }

pub ids_in-requires : goal.ids_in-requires
ids_in-requires c =
    let arm = c.in-Some-Ids in
    record {
      plain = (is_ids (map string_bytes c.args.words.now) arm.field-0-0 arm.field-0-1 arm.field-0-2
          (sym c.spelled.ensures ∙ arm.is ∙ ap Some arm.field-0-is)).plain;
    }

pub returns-in-Some-Trial-clause-command : goal.returns-in-Some-Trial-clause-command
returns-in-Some-Trial-clause-command c =
    let arm = c.in-Some-Trial in
    let is = is_trial (map string_bytes c.args.words.now) arm.field-0-0 arm.field-0-1
    (sym c.spelled.ensures ∙ arm.is ∙ ap Some arm.field-0-is) in
    IfOk-weaker c.trial_in.result _ _ (λ command same. same ∙ sym is.of_words) c.trial_in.ensures.command

pub returns-in-Some-Bench-clause-command : goal.returns-in-Some-Bench-clause-command
returns-in-Some-Bench-clause-command c =
    let arm = c.in-Some-Bench in
    let is = is_bench (map string_bytes c.args.words.now) arm.field-0-0 arm.field-0-1
    (sym c.spelled.ensures ∙ arm.is ∙ ap Some arm.field-0-is) in
    IfOk-weaker c.bench_in.result _ _ (λ command same. same ∙ sym is.of_words) c.bench_in.ensures.command

pub returns-in-Some-Drive-clause-command : goal.returns-in-Some-Drive-clause-command
returns-in-Some-Drive-clause-command c =
    let arm = c.in-Some-Drive in
    let is = is_drive (map string_bytes c.args.words.now) arm.field-0-0 arm.field-0-1 arm.field-0-2
    (sym c.spelled.ensures ∙ arm.is ∙ ap Some arm.field-0-is) in
    IfOk-weaker c.drive_in.result _ _ (λ command same. same ∙ sym is.of_words) c.drive_in.ensures.command

pub returns-in-Some-Ids-clause-command : goal.returns-in-Some-Ids-clause-command
returns-in-Some-Ids-clause-command c =
    let arm = c.in-Some-Ids in
    let is = is_ids (map string_bytes c.args.words.now) arm.field-0-0 arm.field-0-1 arm.field-0-2
    (sym c.spelled.ensures ∙ arm.is ∙ ap Some arm.field-0-is) in
    IfOk-weaker c.ids_in.result _ _ (λ command same. same ∙ sym is.of_words) c.ids_in.ensures.command
