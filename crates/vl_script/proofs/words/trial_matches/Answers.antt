use Rattle.std.proofs.Common.{◌≡◌, ◌∙◌, ap, ap₂, codes, map, rules, string_bytes}
use Rattle.std.proofs.lemmas.Result.{IfErr-weaker, IfOk-weaker}
use Rattle.clap.specs.Words.{App, app_of, first_of, found_of, is_simple, matches_of, rule_of, takes, with_rule}
use Rattle.clap.proofs.WalkLemmas.{first_value-rows}
use Rattle.vl_script.proofs.Parsing.{trial_app, trial_takes, required}
use Rattle.vl_script.proofs.words.trial_matches.Goals as goal

is_command : (c : goal.After-try_get_matches_from) → app_of c.in_ok-command.command ≡ trial_app
is_command c =
    let first : rule_of c.required-stop.result ≡ required (codes "STOP") = search rules in
    let second : rule_of c.required-outcome.result ≡ required (codes "OUTCOME") = search rules in
    c.in_ok-command.ensures.shape (search rules)
    ∙ ap₂ with_rule (c.in_ok-arg.ensures.shape (search rules) ∙ ap₂ with_rule c.new-3.ensures.app first) second

pub returns-clause-stop : goal.returns-clause-stop
returns-clause-stop c =
    let words = map string_bytes c.args.words.now in
    let parse = c.try_get_matches_from in
    IfOk-weaker parse.result _ _ (λ m h. first_value-rows (found_of m) (codes "STOP")
    ∙ ap (first_of (codes "STOP")) ((h (ap is_simple (is_command c))).0 ∙ ap (λ (app : App). matches_of app words) (is_command c))
    ∙ (trial_takes words c.requires.plain).1)
    parse.ensures.matches

pub returns-clause-outcome : goal.returns-clause-outcome
returns-clause-outcome c =
    let words = map string_bytes c.args.words.now in
    let parse = c.try_get_matches_from in
    IfOk-weaker parse.result _ _ (λ m h. first_value-rows (found_of m) (codes "OUTCOME")
    ∙ ap (first_of (codes "OUTCOME")) ((h (ap is_simple (is_command c))).0 ∙ ap (λ (app : App). matches_of app words) (is_command c))
    ∙ (trial_takes words c.requires.plain).2)
    parse.ensures.matches

pub returns-clause-refused : goal.returns-clause-refused
returns-clause-refused c =
    let words = map string_bytes c.args.words.now in
    let parse = c.try_get_matches_from in
    IfErr-weaker parse.result _ _ (λ e h. h (ap (λ (app : App). takes app words) (is_command c) ∙ (trial_takes words c.requires.plain).0))
    parse.ensures.passes
