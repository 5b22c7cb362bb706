use Rattle.std.proofs.Common.{◌≡◌, ◌∙◌, ap, ap₂, codes, map, rules, string_bytes}
use Rattle.std.proofs.lemmas.Result.{IfErr-weaker, IfOk-weaker}
use Rattle.clap.specs.Words.{App, app_of, first_of, found_of, is_simple, matches_of, rule_of, takes, with_rule}
use Rattle.clap.proofs.WalkLemmas.{first_value-rows}
use Rattle.vl_script.proofs.Parsing.{ids_app, ids_takes, required}
use Rattle.vl_script.proofs.words.ids_matches.Goals as goal

is_command : (c : goal.After-try_get_matches_from) → app_of c.in_ok-command.command ≡ ids_app
is_command c =
    let first : rule_of c.required-clients.result ≡ required (codes "CLIENTS") = search rules in
    let second : rule_of c.required-count.result ≡ required (codes "COUNT") = search rules in
    let third : rule_of c.required-lease.result ≡ required (codes "LEASE") = search rules in
    c.in_ok-command.ensures.shape (search rules)
    ∙ ap₂ with_rule (c.in_ok-arg-2.ensures.shape (search rules)
    ∙ ap₂ with_rule (c.in_ok-arg.ensures.shape (search rules) ∙ ap₂ with_rule c.new-4.ensures.app first) second) third

pub returns-clause-clients : goal.returns-clause-clients
returns-clause-clients c =
    let words = map string_bytes c.args.words.now in
    let parse = c.try_get_matches_from in
    IfOk-weaker parse.result _ _ (λ m h. first_value-rows (found_of m) (codes "CLIENTS")
    ∙ ap (first_of (codes "CLIENTS")) ((h (ap is_simple (is_command c))).0 ∙ ap (λ (app : App). matches_of app words) (is_command c))
    ∙ (ids_takes words c.requires.plain).1)
    parse.ensures.matches

pub returns-clause-count : goal.returns-clause-count
returns-clause-count c =
    let words = map string_bytes c.args.words.now in
    let parse = c.try_get_matches_from in
    IfOk-weaker parse.result _ _ (λ m h. first_value-rows (found_of m) (codes "COUNT")
    ∙ ap (first_of (codes "COUNT")) ((h (ap is_simple (is_command c))).0 ∙ ap (λ (app : App). matches_of app words) (is_command c))
    ∙ (ids_takes words c.requires.plain).2)
    parse.ensures.matches

pub returns-clause-lease : goal.returns-clause-lease
returns-clause-lease c =
    let words = map string_bytes c.args.words.now in
    let parse = c.try_get_matches_from in
    IfOk-weaker parse.result _ _ (λ m h. first_value-rows (found_of m) (codes "LEASE")
    ∙ ap (first_of (codes "LEASE")) ((h (ap is_simple (is_command c))).0 ∙ ap (λ (app : App). matches_of app words) (is_command c))
    ∙ (ids_takes words c.requires.plain).3)
    parse.ensures.matches

pub returns-clause-refused : goal.returns-clause-refused
returns-clause-refused c =
    let words = map string_bytes c.args.words.now in
    let parse = c.try_get_matches_from in
    IfErr-weaker parse.result _ _ (λ e h. h (ap (λ (app : App). takes app words) (is_command c) ∙ (ids_takes words c.requires.plain).0))
    parse.ensures.passes
