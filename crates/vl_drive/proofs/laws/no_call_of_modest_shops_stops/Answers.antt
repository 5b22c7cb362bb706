use Rattle.vl_drive.proofs.Modest.{never_exhausted, never_full}
use Rattle.vl_drive.proofs.laws.no_call_of_modest_shops_stops.Goals as goal

pub returns-clause-begins : goal.returns-clause-begins
returns-clause-begins c o turns vs list before closed modest front start few is =
    never_full o turns vs list before closed modest front start few is

pub returns-clause-commits : goal.returns-clause-commits
returns-clause-commits c o turns vs list before closed modest front below txn is =
    never_exhausted o turns vs list before closed modest front below txn is
