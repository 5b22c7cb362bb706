use Rattle.std.proofs.Common.{◌-◌, vec_len, vec_capacity, refl, ap, ◌∙◌}
use Rattle.std.specs.List.{filter}
use Rattle.vl_engine_model.specs.declared.layout.Layout.{Layout}
use Rattle.vl_stats.specs.Tallies.{IsOfLayout, IsTally, Tallied, stays}
use Rattle.vl_stats.specs.laws.RulingLaws.{flush_leaves, install_leaves, tally_flushed, tally_installed}
use Rattle.vl_stats.proofs.tally.Tally.switch.Goals as goal

pub returns-clause-flush : goal.returns-clause-flush
returns-clause-flush c = λ logs l h n tidy is stepped of.
    let new : Tallied = record {
      logs = c.retain.new.logs.items;
      live = c.args.live;
      room = vec_capacity c.retain.new.logs - vec_len c.retain.new.logs;
    } in
    flush_leaves (λ (x : Layout). IsOfLayout c.args.live c.args.head x → IsTally new x) l h
    (tally_flushed c.args.self.now new l is c.args.live c.args.head
    (c.retain.ensures.logs ∙ ap (λ (t : Tallied). filter (stays c.args.head c.args.live) t.logs) c.self.view_is)
    refl tidy.files.stocked.falling)
    n stepped of

pub returns-clause-install : goal.returns-clause-install
returns-clause-install c = λ logs l h job made tidy is installed of.
    let new : Tallied = record {
      logs = c.retain.new.logs.items;
      live = c.args.live;
      room = vec_capacity c.retain.new.logs - vec_len c.retain.new.logs;
    } in
    install_leaves (λ (x : Layout). IsOfLayout c.args.live c.args.head x → IsTally new x) l h job made
    (tally_installed c.args.self.now new l is c.args.live c.args.head
    (c.retain.ensures.logs ∙ ap (λ (t : Tallied). filter (stays c.args.head c.args.live) t.logs) c.self.view_is)
    refl tidy.files.stocked.falling job made)
    installed of
