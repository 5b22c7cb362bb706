use Rattle.vl_engine_model.specs.laws.LowShows.{shows_merge, shows_merge_at_once}
use Rattle.vl_engine_model.proofs.laws.shown_after_a_merge.Goals as goal

pub returns-clause-at_once : goal.returns-clause-at_once
returns-clause-at_once c logs keep ss floor h since to some of shows = shows_merge_at_once logs keep ss floor h since to some of shows

pub returns-clause-later : goal.returns-clause-later
returns-clause-later c logs ms keep floor h now v since to some up fits of justified shows = shows_merge logs ms keep
    floor some h now v since to up fits of justified shows
