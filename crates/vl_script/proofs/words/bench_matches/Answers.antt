use Rattle.std.proofs.Common.{◌≡◌, ◌∙◌, ap, ap₂, codes, map, rules, string_bytes}
use Rattle.std.proofs.lemmas.Result.{IfErr-weaker, IfOk-weaker}
use Rattle.clap.specs.Words.{App, app_of, first_of, found_of, is_simple, matches_of, rule_of, takes, with_rule}
use Rattle.clap.proofs.WalkLemmas.{first_value-rows}
use Rattle.vl_script.proofs.Parsing.{bench_app, bench_takes, required}
use Rattle.vl_script.proofs.words.bench_matches.Goals as goal

is_command : (c : goal.After-try_get_matches_from) → app_of c.in_ok-command.command ≡ bench_app
is_command c =
    let first : rule_of c.required-seed.result ≡ required (codes "SEED") = search rules in
    let second : rule_of c.required-count.result ≡ required (codes "COUNT") = search rules in
    c.in_ok-command.ensures.shape (search rules)
    ∙ ap₂ with_rule (c.in_ok-arg.ensures.shape (search rules) ∙ ap₂ with_rule c.new-3.ensures.app first) second

pub returns-clause-seed : goal.returns-clause-seed
returns-clause-seed c =
    let words = map string_bytes c.args.words.now in
    let parse = c.try_get_matches_from in
    IfOk-weaker parse.result _ _ (λ m h. first_value-rows (found_of m) (codes "SEED")
    ∙ ap (first_of (codes "SEED")) ((h (ap is_simple (is_command c))).0 ∙ ap (λ (app : App). matches_of app words) (is_command c))
    ∙ (bench_takes words c.requires.plain).1)
    parse.ensures.matches

pub returns-clause-count : goal.returns-clause-count
returns-clause-count c =
    let words = map string_bytes c.args.words.now in
    let parse = c.try_get_matches_from in
    IfOk-weaker parse.result _ _ (λ m h. first_value-rows (found_of m) (codes "COUNT")
    ∙ ap (first_of (codes "COUNT")) ((h (ap is_simple (is_command c))).0 ∙ ap (λ (app : App). matches_of app words) (is_command c))
    ∙ (bench_takes words c.requires.plain).2)
    parse.ensures.matches

pub returns-clause-refused : goal.returns-clause-refused
returns-clause-refused c =
    let words = map string_bytes c.args.words.now in
    let parse = c.try_get_matches_from in
    IfErr-weaker parse.result _ _ (λ e h. h (ap (λ (app : App). takes app words) (is_command c) ∙ (bench_takes words c.requires.plain).0))
    parse.ensures.passes
