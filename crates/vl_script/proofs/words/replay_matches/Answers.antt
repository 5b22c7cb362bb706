use Rattle.std.proofs.Common.{◌≡◌, ◌∙◌, ap, ap₂, codes, map, rules, string_bytes}
use Rattle.std.proofs.lemmas.Result.{IfErr-weaker, IfOk-weaker}
use Rattle.clap.specs.Words.{App, app_of, first_of, found_of, is_simple, matches_of, rule_of, takes, with_rule}
use Rattle.clap.proofs.WalkLemmas.{first_value-rows}
use Rattle.vl_script.proofs.Parsing.{replay_app, replay_takes, required}
use Rattle.vl_script.proofs.words.replay_matches.Goals as goal

is_command : (c : goal.After-try_get_matches_from) → app_of c.in_ok-command.command ≡ replay_app
is_command c =
    let folder : rule_of c.required-folder.result ≡ required (codes "DIR") = search rules in
    c.in_ok-command.ensures.shape (search rules) ∙ ap₂ with_rule c.new-2.ensures.app folder

pub returns-clause-folder : goal.returns-clause-folder
returns-clause-folder c =
    let words = map string_bytes c.args.words.now in
    let parse = c.try_get_matches_from in
    IfOk-weaker parse.result _ _ (λ m h. first_value-rows (found_of m) (codes "DIR")
    ∙ ap (first_of (codes "DIR")) ((h (ap is_simple (is_command c))).0 ∙ ap (λ (app : App). matches_of app words) (is_command c))
    ∙ (replay_takes words c.requires.plain).1)
    parse.ensures.matches

pub returns-clause-refused : goal.returns-clause-refused
returns-clause-refused c =
    let words = map string_bytes c.args.words.now in
    let parse = c.try_get_matches_from in
    IfErr-weaker parse.result _ _ (λ e h. h (ap (λ (app : App). takes app words) (is_command c) ∙ (replay_takes words c.requires.plain).0))
    parse.ensures.passes
