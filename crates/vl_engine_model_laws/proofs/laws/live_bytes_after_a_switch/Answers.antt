use Rattle.vl_engine_model_laws.specs.laws.LiveBytes.{live-flushed, live-installed_level, live-installed_in_place}
use Rattle.vl_engine_model_laws.proofs.laws.live_bytes_after_a_switch.Goals as goal

pub returns-clause-flush : goal.returns-clause-flush
returns-clause-flush c segment l s level deeper are = live-flushed segment l s level deeper are

pub returns-clause-level : goal.returns-clause-level
returns-clause-level c segment l job made n is within = live-installed_level segment l job made n is within

pub returns-clause-in_place : goal.returns-clause-in_place
returns-clause-in_place c segment l job made is one = live-installed_in_place segment l job made is one
