use Rattle.vl_engine_model_laws.specs.laws.Moves.{taken_parts}
use Rattle.vl_engine_model_laws.proofs.laws.batches_are_all_found_records.Goals as goal

pub returns : goal.returns
returns c base segment count bytes rs = taken_parts base segment count bytes rs
