-- How far back what begins now may read.
use Rattle.vl_engine_laws.specs.declared.kept.Core.{Core}
use Rattle.vl_reads.specs.declared.past.Past.{Past}
use Rattle.vl_oracle.specs.LiveTickets.{floor_of}

-- what decides on it now
abbrev pub past_now : {H : Type 0} → Core H → Past
past_now core = record {
  floor = floor_of core.front.oracle;
  keep = core.back.state.keep;
  since = core.back.state.since;
  gone = core.back.state.gone;
}
