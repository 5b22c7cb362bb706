-- How turns go together to a score.
use Rattle.std.proofs.Common.{◌≡◌, ℕ, suc, ◌+◌, ◌==◌, Bool, true, false, cond, ◌&&◌, List, [], ◌∷◌, ◌++◌, refl, ap, sym, ◌∙◌, subst, arith}
use Rattle.std.proofs.lemmas.Bool.Decides.{nat_tests}
use Rattle.vl_drive.proofs.Playing.{others_since}
use Rattle.vl_drive.proofs.Prefixes.{begins_itself, begins_more}
use Rattle.vl_drive.specs.Clients.{HasPlayed}
use Rattle.vl_drive.specs.Knowing.{Knows}
use Rattle.vl_drive.specs.Numbers.{next_number, number_in_turn, transfer_of}
use Rattle.vl_drive.specs.Playing.{HasScored, HasTaken}
use Rattle.vl_drive.specs.Steps.{Origin, count_by, is_aside, is_end, is_ended, is_put}
use Rattle.vl_drive.specs.Turns.{AreTurns, EndsTurn, end_of}
use Rattle.vl_drive.specs.declared.transfer.Transfer.{Transfer}
use Rattle.vl_drive.specs.laws.StepLaws.{counted_aside, counted_own, counted_parts}
use Rattle.vl_drive.specs.laws.TurnLaws.{turns_ended, turns_more, turns_none}
use Rattle.vl_engine_model.specs.declared.lock_history.LockEntry.{LockEntry}
use Rattle.vl_engine_model.specs.declared.lock_history.LockStep.{LockStep}
use Rattle.vl_engine_model.specs.declared.lock_history.LockStep.TheVariants.{Begun, Changed, Ended, JobEnded, PassEnded, Picked, Planned, Put}
use Rattle.vl_model.specs.Keys.{Writes}
use mathlib.Core.List.{IsPrefix}

-- ---- kinds

pub put_ends : (step : LockStep) → is_end step ≡ false → is_put step ≡ false
put_ends (Begun ticket number) stays = refl
put_ends (Put ticket number writes) stays = stays
put_ends (Ended ticket) stays = refl
put_ends Planned stays = refl
put_ends JobEnded stays = refl
put_ends Picked stays = refl
put_ends PassEnded stays = refl
put_ends Changed stays = refl

pub ended_ends : (step : LockStep) → is_end step ≡ false → is_ended step ≡ false
ended_ends (Begun ticket number) stays = refl
ended_ends (Put ticket number writes) stays = refl
ended_ends (Ended ticket) stays = stays
ended_ends Planned stays = refl
ended_ends JobEnded stays = refl
ended_ends Picked stays = refl
ended_ends PassEnded stays = refl
ended_ends Changed stays = refl

either : (b : Bool) (step : LockStep) → ◌≡◌ {A = ℕ} (cond (b && is_end step) 1 0) (cond (b && is_put step) 1 0 + cond (b && is_ended step) 1 0)
either false step = refl
either true (Begun ticket number) = refl
either true (Put ticket number writes) = refl
either true (Ended ticket) = refl
either true Planned = refl
either true JobEnded = refl
either true Picked = refl
either true PassEnded = refl
either true Changed = refl

-- what ends is a commit or not
pub both_counted : (session : ℕ) (es : List LockEntry)
    → count_by is_end session es ≡ count_by is_put session es + count_by is_ended session es
both_counted session [] = refl
both_counted session (e ∷ es) =
    let one = either (e.session == session) e.step in
    let rest = both_counted session es in
    omega (arith, one, rest)

none_counted : (other : LockStep → Bool) (session : ℕ) → ((step : LockStep) → is_end step ≡ false → other step ≡ false)
    → (es : List LockEntry) → count_by is_end session es ≡ 0 → count_by other session es ≡ 0
none_counted other session ends [] none = refl
none_counted other session ends (e ∷ es) none =
    by_test (e.session == session) (is_end e.step) refl none (none_counted other session ends es)
  where
    by_test : (b c : Bool) → is_end e.step ≡ c → cond (b && c) 1 0 + count_by is_end session es ≡ 0
        → (count_by is_end session es ≡ 0 → count_by other session es ≡ 0)
        → cond (b && other e.step) 1 0 + count_by other session es ≡ 0
    by_test true true is none rest = absurd (omega arith)
    by_test true false is none rest =
        let zero = rest (omega (arith, none)) in
        ap (λ x. cond x 1 0 + count_by other session es) (ends e.step is) ∙ omega (arith, zero)
    by_test false c is none rest = let zero = rest (omega (arith, none)) in omega (arith, zero)

pub one_counted : (kind : LockStep → Bool) (session : ℕ) (e : LockEntry) → e.session ≡ session
    → count_by kind session (e ∷ []) ≡ cond (kind e.step) 1 0
one_counted kind session e mine =
    let is : (e.session == session) ≡ true = grind (arith, nat_tests) in
    ap (λ b. cond (b && kind e.step) 1 0 + 0) is ∙ omega arith

-- ---- scores

pub score_none : (transfers : ℕ → Transfer) (v : Knows) → v.own ≡ [] → HasScored transfers 0 0 0 v
score_none transfers v none = record {
  played = record {
    until = [];
    later = (v.seen, refl);
    mine = none;
    turns = turns_none v.origin transfers v.session [] refl;
    count = refl;
  };
  commits_are = ap (count_by is_put v.session) (sym none);
  conflicts_are = ap (count_by is_ended v.session) (sym none);
}

end_ends : (b : Bool) (ticket number : ℕ) (writes : Writes) → is_end (end_of b ticket number writes) ≡ true
end_ends true ticket number writes = refl
end_ends false ticket number writes = refl

-- an end that is no commit is a conflict
conflict_counts : (b committed : Bool) (ticket number : ℕ) (writes : Writes) → is_put (end_of b ticket number writes) ≡ committed
    → ◌≡◌ {A = ℕ} (cond (is_ended (end_of b ticket number writes)) 1 0) (cond committed 0 1)
conflict_counts true committed ticket number writes is = ap (λ c. cond c 0 1) is
conflict_counts false committed ticket number writes is = ap (λ c. cond c 0 1) is

module _ (transfers : ℕ → Transfer) (turns : ℕ) (committed : Bool) (v w : Knows) (p : HasPlayed transfers turns v)
    (h : HasTaken (transfers (turns + 1)) committed v w) where
  behind : IsPrefix p.until h.start
  behind = begins_more p.until v.seen h.start p.later h.later

  quiet : count_by is_end v.session behind.0 ≡ 0
  quiet = counted_aside v.session behind.0 (others_since is_aside v p.until h.start p.mine behind h.mine)

  ends : is_end h.ended.step ≡ true
  ends = ap is_end h.end.ends ∙ end_ends _ _ _ _

  -- what is counted of the session's own steps
  own_grown : (kind : LockStep → Bool) → ((step : LockStep) → is_end step ≡ false → kind step ≡ false)
      → count_by kind w.session w.seen ≡ count_by kind v.session p.until + cond (kind h.ended.step) 1 0
  own_grown kind only =
      let all = ap (λ n. count_by kind n w.seen) h.on.session ∙ ap (count_by kind v.session) h.seen in
      let parts = counted_parts kind v.session (h.start ++ h.turn) (h.ended ∷ []) in
      let front = counted_parts kind v.session h.start h.turn in
      let first = ap (count_by kind v.session) (sym behind.1) ∙ counted_parts kind v.session p.until behind.0 in
      let none = none_counted kind v.session only behind.0 quiet in
      let still = none_counted kind v.session only h.turn h.quiet in
      let last = one_counted kind v.session h.ended h.owner in
      omega (arith, all, parts, front, first, none, still, last)

  played : HasPlayed transfers (turns + 1) w
  played =
      let o = v.origin in
      let s = v.session in
      let at_start : AreTurns o transfers s h.start =
      subst (AreTurns o transfers s) behind.1 (turns_more o transfers s p.until behind.0 p.turns quiet) in
      let before = turns_more o transfers s h.start h.turn at_start h.quiet in
      let front = counted_parts is_end s h.start h.turn in
      let first = ap (count_by is_end s) (sym behind.1) ∙ counted_parts is_end s p.until behind.0 in
      let none = quiet in
      let still = h.quiet in
      let counted = p.count in
      let so_far : turns ≡ count_by is_end s (h.start ++ h.turn) = omega (arith, front, first, none, still, counted) in
      let end = subst (λ n. EndsTurn o (transfers (n + 1)) (h.start ++ h.turn) h.ended) so_far h.end in
      let all = turns_ended o transfers s (h.start ++ h.turn) h.ended before h.owner end in
      record {
        until = w.seen;
        later = begins_itself w.seen;
        mine = h.all;
        turns = subst (λ (x : Origin). AreTurns x transfers w.session w.seen) (sym h.on.origin)
            (subst (λ n. AreTurns o transfers n w.seen) (sym h.on.session) (subst (AreTurns o transfers s) (sym h.seen) all));
        count = own_grown is_end (λ step stays. stays) ∙ ap (λ n. n + cond (is_end h.ended.step) 1 0) p.count
            ∙ ap (λ b. turns + cond b 1 0) ends;
      }

  pub taken : (commits conflicts : ℕ) → commits ≡ count_by is_put v.session v.own → conflicts ≡ count_by is_ended v.session v.own
      → HasScored transfers (turns + 1) (commits + cond committed 1 0) (conflicts + cond committed 0 1) w
  taken commits conflicts put unput =
      let own : (kind : LockStep → Bool) → count_by kind v.session v.own ≡ count_by kind v.session p.until =
      λ kind. ap (count_by kind v.session) p.mine ∙ counted_own kind v.session p.until in
      let owned : (kind : LockStep → Bool) → count_by kind w.session w.own ≡ count_by kind w.session w.seen =
      λ kind. ap (count_by kind w.session) h.all ∙ counted_own kind w.session w.seen in
      record {
        played = played;
        commits_are = ap (λ n. n + cond committed 1 0) (put ∙ own is_put)
            ∙ ap (λ b. count_by is_put v.session p.until + cond b 1 0) (sym h.committed_is)
            ∙ sym (own_grown is_put put_ends) ∙ sym (owned is_put);
        conflicts_are = ap (λ n. n + cond committed 0 1) (unput ∙ own is_ended)
            ∙ ap (λ n. count_by is_ended v.session p.until + n) (sym (ap (λ x. cond (is_ended x) 1 0) h.end.ends
            ∙ conflict_counts _ committed _ _ _ (sym (ap is_put h.end.ends) ∙ h.committed_is)))
            ∙ sym (own_grown is_ended ended_ends) ∙ sym (owned is_ended);
      }

pub score_more : (transfers : ℕ → Transfer) (turns commits conflicts : ℕ) (committed : Bool) (v w : Knows)
    → HasScored transfers turns commits conflicts v → HasTaken (transfers (turns + 1)) committed v w
    → HasScored transfers (turns + 1) (commits + cond committed 1 0) (conflicts + cond committed 0 1) w
score_more transfers turns commits conflicts committed v w x h =
    taken transfers turns committed v w x.played h commits conflicts x.commits_are x.conflicts_are

-- how many there are of both
pub score_counts : (transfers : ℕ → Transfer) (turns commits conflicts : ℕ) (v : Knows) → HasScored transfers turns commits conflicts v
    → commits + conflicts ≡ turns
score_counts transfers turns commits conflicts v x =
    let p = x.played in
    let all = both_counted v.session p.until in
    let put = x.commits_are ∙ ap (count_by is_put v.session) p.mine ∙ counted_own is_put v.session p.until in
    let unput = x.conflicts_are ∙ ap (count_by is_ended v.session) p.mine ∙ counted_own is_ended v.session p.until in
    let count = p.count in
    omega (arith, all, put, unput, count)

-- ---- turns of one seed

abbrev pub draws : (seed : ℕ) → ℕ → Transfer
draws seed turn = transfer_of (number_in_turn seed turn)

pub next_turn : (seed turn x : ℕ) → x ≡ number_in_turn seed turn → next_number x ≡ number_in_turn seed (turn + 1)
next_turn seed turn x is = let e : turn + 1 ≡ suc turn = omega arith in rw e (ap next_number is)

drawn : (seed turns x : ℕ) (t : Transfer) → x ≡ number_in_turn seed turns → t ≡ transfer_of (next_number x) → t ≡ draws seed (turns + 1)
drawn seed turns x t at is = is ∙ ap transfer_of (next_turn seed turns x at)

pub turn_committed : (seed turns commits conflicts x : ℕ) (t : Transfer) (u w : Knows) → x ≡ number_in_turn seed turns
    → t ≡ transfer_of (next_number x) → HasScored (draws seed) turns commits conflicts u → HasTaken t true u w
    → HasScored (draws seed) (turns + 1) (commits + 1) conflicts w
turn_committed seed turns commits conflicts x t u w at is scored taken =
    let more = score_more (draws seed) turns commits conflicts true u w scored
    (subst (λ (s : Transfer). HasTaken s true u w) (drawn seed turns x t at is) taken) in
    subst (λ n. HasScored (draws seed) (turns + 1) (commits + 1) n w) (omega arith) more

pub turn_refused : (seed turns commits conflicts x : ℕ) (t : Transfer) (u w : Knows) → x ≡ number_in_turn seed turns
    → t ≡ transfer_of (next_number x) → HasScored (draws seed) turns commits conflicts u → HasTaken t false u w
    → HasScored (draws seed) (turns + 1) commits (conflicts + 1) w
turn_refused seed turns commits conflicts x t u w at is scored taken =
    let more = score_more (draws seed) turns commits conflicts false u w scored
    (subst (λ (s : Transfer). HasTaken s false u w) (drawn seed turns x t at is) taken) in
    subst (λ n. HasScored (draws seed) (turns + 1) n (conflicts + 1) w) (omega arith) more
