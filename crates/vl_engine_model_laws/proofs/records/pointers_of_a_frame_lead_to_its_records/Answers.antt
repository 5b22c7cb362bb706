use Rattle.vl_engine_model_laws.specs.laws.Places.{places_told}
use Rattle.vl_engine_model_laws.proofs.records.pointers_of_a_frame_lead_to_its_records.Goals as goal

pub returns : goal.returns
returns c format log place f = places_told format log place f
