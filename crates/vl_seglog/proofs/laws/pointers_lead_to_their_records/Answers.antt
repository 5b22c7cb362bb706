use Rattle.vl_seglog.specs.laws.StoredLaws.{reading_leads}
use Rattle.vl_seglog.proofs.PointersRead.{log_pointers_lead, scanned_pointers_lead, staged_pointers_lead}
use Rattle.vl_seglog.proofs.laws.pointers_lead_to_their_records.Goals as goal

pub returns-clause-staged : goal.returns-clause-staged
returns-clause-staged c number place f staged bytes rest is here = staged_pointers_lead number place f staged bytes rest is here

pub returns-clause-held : goal.returns-clause-held
returns-clause-held c format number bytes reading reads header = reading_leads number bytes reading reads format header

pub returns-clause-read : goal.returns-clause-read
returns-clause-read c format number bytes read reads header placed = log_pointers_lead format number bytes read reads header placed

pub returns-clause-scanned : goal.returns-clause-scanned
returns-clause-scanned c format number place bytes f found placed = scanned_pointers_lead format number place bytes f found placed
