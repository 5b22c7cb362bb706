use Rattle.std.proofs.Common.{ap, rules, ◌∙◌}
use Rattle.std.specs.List.{filter}
use Rattle.std.proofs.lemmas.Fn.{filter_same}
use Rattle.vl_manifest.specs.Levels.{is_other}
use Rattle.vl_manifest.proofs.table_list.TableList.take_out.Goals as goal

pub returns : goal.returns
returns c =
    filter_same _ (is_other c.args.table) _ (λ x b f' k. search rules) _ _ c.retain.ensures.filtered
    ∙ ap (filter (is_other c.args.table)) c.self.view_is
