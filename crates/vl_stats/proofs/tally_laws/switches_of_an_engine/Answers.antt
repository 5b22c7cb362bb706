use Rattle.vl_stats.specs.laws.RulingLaws.{switch_flushed, switch_installed}
use Rattle.vl_stats.proofs.tally_laws.switches_of_an_engine.Goals as goal

pub returns-clause-flush : goal.returns-clause-flush
returns-clause-flush c logs l h s tidy = switch_flushed logs l h s tidy

pub returns-clause-install : goal.returns-clause-install
returns-clause-install c logs l h o made tidy is = switch_installed logs l h o made tidy is
