-- Words ask for one command, and each is another than the others.
use Rattle.std.proofs.Common.{◌≡◌, ℕ, Option, None, Some, sym, ◌∙◌}
use Rattle.vl_mem.specs.declared.outcome.Outcome.{Outcome}
use Rattle.vl_script.specs.declared.words.Command.{Command}
use Rattle.vl_script.specs.declared.words.Command.TheVariants.{Bench, Drive, Ids, Replay, Trial}

pub none_asked : {o p : Option Command} (command : Command) → o ≡ p → o ≡ None → p ≡ Some command → ⊥
none_asked command is none found = some_none command (sym found ∙ sym is ∙ none)
  where
    some_none : (c : Command) → Some c ≡ None → ⊥
    some_none c e = cc

pub is_asked : {o p : Option Command} (command : Command) → o ≡ p → o ≡ Some command → p ≡ None → ⊥
is_asked command is found none = none_asked command (sym is) none found

pub other_asked : {o p : Option Command} (stop : ℕ) (outcome : Outcome) → o ≡ p → o ≡ Some (Trial stop outcome) → p ≡ Some Replay → ⊥
other_asked stop outcome is found other = apart stop outcome (sym found ∙ is ∙ other)
  where
    apart : (n : ℕ) (o : Outcome) → Some (Trial n o) ≡ Some Replay → ⊥
    apart n o e = cc

pub no_trial : {o p : Option Command} (stop : ℕ) (outcome : Outcome) → o ≡ p → o ≡ Some Replay → p ≡ Some (Trial stop outcome) → ⊥
no_trial stop outcome is found other = apart stop outcome (sym found ∙ is ∙ other)
  where
    apart : (n : ℕ) (o : Outcome) → Some Replay ≡ Some (Trial n o) → ⊥
    apart n o e = cc

pub same_trial : {o p : Option Command} (stop n : ℕ) (outcome other : Outcome) → o ≡ p → o ≡ Some (Trial n other)
    → p ≡ Some (Trial stop outcome)
    → (n ≡ stop) × (other ≡ outcome)
same_trial stop n outcome other is found asked = apart n stop other outcome (sym found ∙ is ∙ asked)
  where
    apart : (a b : ℕ) (o p : Outcome) → Some (Trial a o) ≡ Some (Trial b p) → (a ≡ b) × (o ≡ p)
    apart a b o p e = (cc, cc)

-- the words ask for one command
pub one_asked : {o p : Option Command} (command other : Command) → o ≡ p → o ≡ Some command → p ≡ Some other → command ≡ other
one_asked command other is found asked = of command other (sym found ∙ is ∙ asked)
  where
    of : (a b : Command) → Some a ≡ Some b → a ≡ b
    of a b e = cc

pub no_replay : (seed count : ℕ) → Bench seed count ≡ Replay → ⊥
no_replay seed count e = cc

pub no_trial_asked : (seed count stop : ℕ) (outcome : Outcome) → Bench seed count ≡ Trial stop outcome → ⊥
no_trial_asked seed count stop outcome e = cc

pub no_bench : (seed count : ℕ) → Replay ≡ Bench seed count → ⊥
no_bench seed count e = cc

pub no_bench_tried : (stop seed count : ℕ) (outcome : Outcome) → Trial stop outcome ≡ Bench seed count → ⊥
no_bench_tried stop seed count outcome e = cc

pub same_bench : (seed count other_seed other_count : ℕ) → Bench seed count ≡ Bench other_seed other_count
    → (seed ≡ other_seed) × (count ≡ other_count)
same_bench seed count other_seed other_count e = (cc, cc)

pub no_drive : (clients txns seed : ℕ) → Replay ≡ Drive clients txns seed → ⊥
no_drive clients txns seed e = cc

pub no_drive_tried : (stop clients txns seed : ℕ) (outcome : Outcome) → Trial stop outcome ≡ Drive clients txns seed → ⊥
no_drive_tried stop clients txns seed outcome e = cc

pub no_drive_benched : (one count clients txns seed : ℕ) → Bench one count ≡ Drive clients txns seed → ⊥
no_drive_benched one count clients txns seed e = cc

pub no_replay_driven : (clients txns seed : ℕ) → Drive clients txns seed ≡ Replay → ⊥
no_replay_driven clients txns seed e = cc

pub no_trial_driven : (clients txns seed stop : ℕ) (outcome : Outcome) → Drive clients txns seed ≡ Trial stop outcome → ⊥
no_trial_driven clients txns seed stop outcome e = cc

pub no_bench_driven : (one count clients txns seed : ℕ) → Drive clients txns seed ≡ Bench one count → ⊥
no_bench_driven one count clients txns seed e = cc

pub same_drive : (clients txns seed n m s : ℕ) → Drive clients txns seed ≡ Drive n m s → (clients ≡ n) × (txns ≡ m) × (seed ≡ s)
same_drive clients txns seed n m s e = (cc, cc, cc)

pub no_ids : (clients count lease : ℕ) → Replay ≡ Ids clients count lease → ⊥
no_ids clients count lease e = cc

pub no_ids_tried : (stop clients count lease : ℕ) (outcome : Outcome) → Trial stop outcome ≡ Ids clients count lease → ⊥
no_ids_tried stop clients count lease outcome e = cc

pub no_ids_benched : (one rounds clients count lease : ℕ) → Bench one rounds ≡ Ids clients count lease → ⊥
no_ids_benched one rounds clients count lease e = cc

pub no_ids_driven : (n m s clients count lease : ℕ) → Drive n m s ≡ Ids clients count lease → ⊥
no_ids_driven n m s clients count lease e = cc

pub no_replay_counted : (clients count lease : ℕ) → Ids clients count lease ≡ Replay → ⊥
no_replay_counted clients count lease e = cc

pub no_trial_counted : (clients count lease stop : ℕ) (outcome : Outcome) → Ids clients count lease ≡ Trial stop outcome → ⊥
no_trial_counted clients count lease stop outcome e = cc

pub no_bench_counted : (one rounds clients count lease : ℕ) → Ids clients count lease ≡ Bench one rounds → ⊥
no_bench_counted one rounds clients count lease e = cc

pub no_drive_counted : (n m s clients count lease : ℕ) → Ids clients count lease ≡ Drive n m s → ⊥
no_drive_counted n m s clients count lease e = cc

pub same_ids : (clients count lease n m k : ℕ) → Ids clients count lease ≡ Ids n m k → (clients ≡ n) × (count ≡ m) × (lease ≡ k)
same_ids clients count lease n m k e = (cc, cc, cc)
