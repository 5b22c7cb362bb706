-- What the rounds of a merge do to a disk: runs of them one after the other, and what isn't durable where one failed.
use Rattle.std.specs.Prelude.{◌≡◌, ◌≢◌, ◌+◌, ◌≤◌, ℕ, List, [], Option, None, Some, Result}
use Rattle.std.specs.FinMap.{get}
use Rattle.std.proofs.Common.{⊎_elim, refl, ap, sym, ◌∙◌, subst, arith}
use Rattle.vl_disk.specs.Calls.{ChangesNothing}
use Rattle.vl_disk.specs.Changes.{without_elsewhere}
use Rattle.vl_disk.specs.Crash.{WhileCreating, WhileRemoving}
use Rattle.vl_disk.specs.DiskState.{DiskState, File, created, without}
use Rattle.vl_disk.specs.Faults.{after_calls}
use Rattle.vl_disk.specs.MadeFile as making
use Rattle.vl_disk.specs.Moments.{While, holds_then}
use Rattle.vl_disk.specs.declared.name.Name.{Name}
use Rattle.vl_disk.specs.declared.name.Name.TheVariants.{Table}
use Rattle.vl_disk.specs.declared.watched.Watched.{Ghosts}
use Rattle.vl_disk.specs.laws.NameMap.{get_removed, same_or_other}
use Rattle.vl_steps.specs.Drawing.{WhileLent, WritesFresh}
use Rattle.vl_engine_laws.specs.Represents.{IsHeld, Represents}
use Rattle.vl_engine_laws.specs.Shown.{Shown}
use Rattle.vl_engine_laws.specs.declared.kept.Core.{Core}
use Rattle.vl_engine_model.specs.declared.layout.Layout.{Layout}
use Rattle.vl_mem.specs.laws.CrashChance.{IsTornByPieces}
use Rattle.vl_model.specs.History.{History}
use Rattle.vl_recover.specs.crash.Held.{AllSettled}
use Rattle.vl_recover.specs.crash.Starts.{MayOpen}
use Rattle.vl_script_model.specs.Between.{ShowsBetween}
use Rattle.vl_replay_laws.specs.Drawn.{DrawsOn, drawn_state}
use Rattle.vl_script_model.specs.Durable.{CrashesShow, HoldsState, Leaves, Tells}
use Rattle.vl_script_model.specs.Halts.{HaltsByDisk}
use Rattle.vl_script_model.specs.Sequential.{State, history_of}
use Rattle.vl_script_model.specs.Stopped.{StopsStep}
use Rattle.vl_script_model.specs.Stored.{IsStopped, IsStored}
use Rattle.vl_script_model.specs.declared.fails.Halt.{Halt}
use Rattle.vl_replay_laws.specs.laws.Merges.Lists.{calls_then, drawn_none, state_then}
use Rattle.vl_script_model.specs.laws.Betweens.{extends_itself}
use Rattle.vl_script_model.specs.laws.DiskSteps.{IsWatched, opens_again, rests_until}
use Rattle.vl_script_model.specs.laws.ShownDisk.{shown_stays, stored_exactly}
use Rattle.vl_script_model.specs.laws.TornSteps.{making_torn, settled_torn}

-- ---- what isn't durable

-- while a file is made and lent
pub lent_torn : (old now : DiskState) (name : Name) → AllSettled old → WhileLent name old now → IsTornByPieces now
lent_torn old now name settled_old during = ⊎_elim
    (λ (is : WhileCreating name old now). ⊎_elim
    (λ (same : now ≡ old). subst IsTornByPieces (sym same) (settled_torn old settled_old))
    (λ (made : now ≡ created name old). subst IsTornByPieces (sym made) made_torn)
    is)
    (λ (is : WhileRemoving name (created name old) now). ⊎_elim
    (λ (same : now ≡ created name old). subst IsTornByPieces (sym same) made_torn)
    (λ (gone : now ≡ without name (created name old)). subst IsTornByPieces (sym gone) gone_torn)
    is)
    during
  where
    made_torn : IsTornByPieces (created name old)
    made_torn = making_torn old (created name old) name [] settled_old (making.empty refl)

    none_some : (file : File) → None ≡ Some file → ⊥
    none_some file e = cc

    gone_torn : IsTornByPieces (without name (created name old))
    gone_torn = record {
      each = λ q file there grows loose. ⊎_elim
          (λ (e : q ≡ name). absurd (none_some file (sym (get_removed (created name old).standing name)
          ∙ ap (get (without name (created name old)).standing) (sym e) ∙ there)))
          (λ (apart : q ≢ name). made_torn.each q file
          (sym ((without_elsewhere name (created name old)).standing q apart) ∙ there) grows loose)
          (same_or_other q name);
    }

-- where lending the next file failed
pub fresh_torn : {D H : Type 0} (g : Ghosts D) (watched : IsWatched g) (bytes : H → Option (List ℕ)) (core : Core H)
    (h : History) (l : Layout)
    (old new : D) → Represents bytes core (g.told old) h l → l.halted ≡ None → WritesFresh g core old new
    → (now : DiskState) → g.told new ≡ Some now → IsTornByPieces now
fresh_torn g watched bytes core h l old new is running writes now told =
    let held : IsHeld core.back (g.told old) h l = is.held running in
    let told_mid : g.told writes.mid ≡ Some held.state = writes.before.told ∙ held.told_is in
    ⊎_elim
    (λ (early : g.states_since writes.mid (g.moment writes.mid) now).
    subst IsTornByPieces (sym (watched.only_now writes.mid held.state now told_mid early)) (settled_torn held.state held.holds.durable))
    (λ (during : While (g.told writes.mid) (WhileLent (Table core.back.state.next_table)) now).
    lent_torn held.state now (Table core.back.state.next_table) held.holds.durable (during held.state told_mid))
    (writes.time.nothing_else (g.moment writes.mid) now (omega arith)
    (watched.counts_now new now (g.moment writes.mid) told writes.time.later))

-- ---- rounds one after the other

sum_is : (n k : ℕ) → n + (k + 1) ≡ n + k + 1
sum_is n k = omega arith

stops_earlier : (s : State) (n k : ℕ) (now : DiskState) → StopsStep Shown (drawn_state n s) (drawn_state n s) k now
    → StopsStep Shown s s (n + k) now
stops_earlier s n k now x = record {
  same = refl;
  left = x.left;
  files = x.files;
  few = let few : x.files ≤ s.files + n + k + 1 = x.few in omega (arith, few);
  numbered = x.numbered;
  next = x.next;
  head = x.head;
  torn = x.torn;
}

module _ {D : Type 0} (g : Ghosts D) (watched : IsWatched g) where
  -- none was drawn, and the disk wasn't asked
  pub rests : {T : Type 0} (disk : D) (s : State) (result : Result T Halt) → (HaltsByDisk result → ⊥) → HoldsState g IsStored s disk
      → DrawsOn g disk disk s 0 result
  rests disk s result sound held = record {
    held = λ fine. subst (λ (t : State). HoldsState g IsStored t disk) (sym (drawn_none s)) held;
    tells = opens_again g watched IsStored Shown IsStopped shown_stays stored_exactly s disk held;
    through = rests_until g watched IsStored Shown IsStopped shown_stays stored_exactly s (history_of s)
        (extends_itself (history_of s)) disk held;
    passed = λ by. absurd (sound by);
    calls = λ by. absurd (sound by);
    stopped = λ by clean. absurd (sound by);
  }

  -- none was drawn, and the disk was left alone
  pub stays : {T : Type 0} (old new : D) (s : State) (result : Result T Halt) → (HaltsByDisk result → ⊥) → ChangesNothing g old new ⊥
      → CrashesShow g Shown old new (history_of s) (history_of s) → Tells g new MayOpen → HoldsState g IsStored s old
      → DrawsOn g old new s 0 result
  stays old new s result sound unchanged through tells held = record {
    held = λ fine. subst (λ (t : State). HoldsState g IsStored t new) (sym (drawn_none s)) (record {
      calls = unchanged.calls ∙ held.calls;
      there = (held.there.0, unchanged.told ∙ held.there.1, held.there.2);
    });
    tells = tells;
    through = through;
    passed = λ by. absurd (sound by);
    calls = λ by. absurd (sound by);
    stopped = λ by clean. absurd (sound by);
  }

  -- some were drawn, none of which failed, and then more
  pub draws_then : {T U : Type 0} (old mid new : D) (s : State) (n k : ℕ) (first : Result T Halt) (second : Result U Halt)
      → g.faults mid ≡ g.faults old → DrawsOn g old mid s n first → DrawsOn g mid new (drawn_state n s) k second
      → DrawsOn g old new s (n + k) second
  draws_then old mid new s n k first second steady one two = record {
    held = λ fine. subst (λ (t : State). HoldsState g IsStored t new) (state_then n k s) (two.held fine);
    tells = two.tells;
    through = holds_then g (Leaves (ShowsBetween Shown (history_of s) (history_of s))) old mid new one.through two.through;
    passed = λ by. let some = two.passed by in
        record {
          mid = some.mid;
          counted = some.counted ∙ calls_then n k s.calls;
          steady = some.steady ∙ steady;
          as_planned = λ stop past. some.as_planned stop (one.through.time.as_planned stop past);
        };
    calls = λ by. two.calls by ∙ (calls_then n (k + 1) s.calls ∙ ap (λ (m : ℕ). after_calls m s.calls) (sum_is n k));
    stopped = λ by clean. let (now, told, stops) = two.stopped by clean in (now, told, stops_earlier s n k now stops);
  }
