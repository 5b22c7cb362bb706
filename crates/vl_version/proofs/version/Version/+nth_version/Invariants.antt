use Rattle.vl_version.proofs.version.Version.+nth_version.Given as goal

-- proposed from what the function passes where it calls itself
abbrev pub decreases-nth_version : goal.decreases-nth_version
decreases-nth_version g l = l.nth
