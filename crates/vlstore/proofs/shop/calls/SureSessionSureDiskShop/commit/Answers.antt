use Rattle.vl_steps.specs.Answers.{commit_outcome}
use Rattle.vl_reads.specs.Sees.{asked}
use Rattle.vlstore.proofs.Shopping.{no_fault_counted, commit_sound, commits_so}
use Rattle.vlstore.specs.Entries.{commit_entry}
use Rattle.std.proofs.Common.{sym, ◌∙◌}
use Rattle.std.specs.FinMap.{entries}
use Rattle.vlstore.proofs.SureDisks.{sure_disks}
use Rattle.vlstore.proofs.shop.calls.SureSessionSureDiskShop.commit.Goals as goal

pub commit-requires : goal.commit-requires
commit-requires g c = λ disk told tells. record {
  own = c.requires.own;
  reads = c.requires.sees.1;
  noted = c.requires.sees.2.notes;
}

pub as_commit-requires : goal.as_commit-requires
as_commit-requires g c =
    let reads = c.requires.sees.1 in
    commit_sound c.args.self.now.session c.commit.new.self sure_disks c.args.self.now.runs (asked c.args.txn reads)
    (commit_entry c.args.txn.ticket (entries c.args.txn.writes)) c.commit.result
    (c.commit.ensures.steps c.args.self.now.tells reads c.requires.sees.2.notes)

pub returns-clause-steps : goal.returns-clause-steps
returns-clause-steps g c h reads sees =
    commits_so c.args.self.now.session c.commit.new.self c.commit.ensures.on (asked c.args.txn reads) (commit_outcome c.commit.result) _
    c.as_commit.ensures.outcome (c.commit.ensures.steps c.args.self.now.tells reads sees.notes)

pub returns-clause-back : goal.returns-clause-back
returns-clause-back g c back is = c.commit.ensures.back back (sym c.as_commit.ensures.back ∙ is)

pub returns-clause-faults : goal.returns-clause-faults
returns-clause-faults g c = no_fault_counted _ c.args.self.now.session c.commit.new.self c.as_commit.ensures.faults
