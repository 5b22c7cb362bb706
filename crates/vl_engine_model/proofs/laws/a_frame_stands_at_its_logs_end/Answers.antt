use Rattle.std.proofs.Common.{ap, sym, ◌∙◌, ◌++◌}
use Rattle.vl_engine_model.specs.Logs.{frame_entries, frame_records, logged_entries, records}
use Rattle.vl_engine_model.specs.laws.LayoutShows.{logged_entries-more, place_behind-is, records_from-more}
use Rattle.vl_engine_model.proofs.laws.a_frame_stands_at_its_logs_end.Goals as goal

pub returns-clause-records : goal.returns-clause-records
returns-clause-records c l f is =
    records_from-more l.active.format 16 l.active.frames f
    ∙ ap (λ n. records l.active ++ frame_records l.active.format n f) (place_behind-is l.active.format 16 l.active.frames ∙ sym is)

pub returns-clause-entries : goal.returns-clause-entries
returns-clause-entries c l f is =
    logged_entries-more l.active.format l.active.number 16 l.active.frames f
    ∙ ap (λ n. frame_entries l.active.format l.active.number n f ++ logged_entries l.active.format l.active.number 16
    l.active.frames) (place_behind-is l.active.format 16 l.active.frames ∙ sym is)
