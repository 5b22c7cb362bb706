use Rattle.vl_seglog.specs.laws.StoredLaws.{leads_stored, stored_leads}
use Rattle.vl_seglog.proofs.laws.values_are_found_by_their_pointers.Goals as goal

pub returns-clause-found : goal.returns-clause-found
returns-clause-found c format log bytes p key value leads = leads_stored format log bytes p key value leads

pub returns-clause-leads : goal.returns-clause-leads
returns-clause-leads c format bytes p key value found = stored_leads format bytes p key value found
