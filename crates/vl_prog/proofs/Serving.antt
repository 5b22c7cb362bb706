-- What statuses a process may end with.
use Rattle.std.proofs.Common.{◌≡◌, ◌≢◌, ⊎_elim, inl, inr, ◌⊎◌, ℕ, List, ◌∙◌, ap, subst, arith}
use Rattle.vl_disk.specs.Faults.{Rose}
use Rattle.vl_disk.specs.declared.watched.Watched.{Ghosts}
use Rattle.vl_io.specs.declared.sink.Sink as sink
use Rattle.vl_io.specs.declared.source.Source as source
use Rattle.vl_script_model.specs.Endings.{status_of}
use Rattle.vl_script_model.specs.Runs.{IsFront}
use Rattle.vl_script_model.specs.declared.ending.Ending.{Ending}
use Rattle.vl_script_model.specs.declared.ending.Ending.TheVariants.{BadWords, NoMemory, WriteFault}
use Rattle.vl_prog.specs.Process.{MayExitWith, Replaying, ServedOver}
use Rattle.vl_prog.specs.Run.{AreNotPlain, AskFor, EndsBy}
use Rattle.vl_script.specs.declared.words.Command.{Command}

-- a run that wasn't begun has the status of what it was to end by, or the sink's
pub unbegun_status : {K : Type 0} (g : sink.Ghosts K) (old new : K) (meant : Ending) (status : ℕ)
    → EndsBy g old new meant status → (status ≡ status_of meant) ⊎ (status ≡ 7)
unbegun_status g old new meant status (ending, is, (line, last, finishes)) =
    ⊎_elim
    (λ (whole : (ending ≡ meant) × (finishes.printed ≡ line) × (g.faults new ≡ g.faults old)). inl (is ∙ ap status_of whole.0))
    (λ (cut : (ending ≡ WriteFault) × IsFront finishes.printed line × Rose (g.faults old) (g.faults new)). inr (is ∙ ap status_of cut.0))
    finishes.how

-- a process whose words were run
pub served_exits : {K : Type 0} (g : sink.Ghosts K) (old new : K) (words : List (List ℕ)) (status : ℕ)
    → ((ending : Ending) × (status ≡ status_of ending))
    → (AreNotPlain words → EndsBy g old new BadWords status)
    → ((command : Command) → AskFor words command → status ≢ 2) → MayExitWith words status
served_exits g old new words status some refused plain = record {
  status_is = some;
  not_plain = λ not. ⊎_elim (λ (two : status ≡ 2). inl two) (λ (seven : status ≡ 7). inr (inr seven))
      (unbegun_status g old new BadWords status (refused not));
  plain = plain;
}

-- and one that had no memory for its words
pub unserved_exits : {K : Type 0} (g : sink.Ghosts K) (old new : K) (words : List (List ℕ)) (status : ℕ)
    → EndsBy g old new NoMemory status → MayExitWith words status
unserved_exits g old new words status ends = record {
  status_is = (ends.0, ends.1);
  not_plain = λ not. ⊎_elim (λ (five : status ≡ 5). inr (inl five)) (λ (seven : status ≡ 7). inr (inr seven)) how;
  plain = λ command asked two. ⊎_elim (λ (five : status ≡ 5). five_or five two) (λ (seven : status ≡ 7). seven_or seven two) how;
}
  where
    how : (status ≡ 5) ⊎ (status ≡ 7)
    how = unbegun_status g old new NoMemory status ends

    five_or : status ≡ 5 → status ≡ 2 → ⊥
    five_or five two = omega arith

    seven_or : status ≡ 7 → status ≡ 2 → ⊥
    seven_or seven two = omega arith

-- a run over words is one over the same words
pub over_same : {S K D R W : Type 0} {s : source.Ghosts S} {k : sink.Ghosts K} {g : Ghosts D} {faults : R → ℕ} {writes : W → ℕ}
    {IsMade : List ℕ → D → Type 0} {Called : Replaying K D} {words other : List (List ℕ)} {from from' : S} {to to' : K} {left : D} {status : ℕ} → words ≡ other
    → ServedOver s k g faults writes IsMade Called words from from' to to' left status
    → ServedOver s k g faults writes IsMade Called other from from' to to' left status
over_same {S} {K} {D} {R} {W} {s} {k} {g} {faults} {writes} {IsMade} {Called} {words} {other} {from} {from'} {to} {to'} {left} {status} same served =
    subst (λ (w : List (List ℕ)). ServedOver s k g faults writes IsMade Called w from from' to to' left status) same served
