-- Time as a disk has it: what it was at the moments since an earlier one, and so what a crash at one of them may have left.
use Rattle.std.specs.Prelude.{◌≡◌, ◌⊎◌, ℕ, ◌≤◌, Option, Some}
use Rattle.std.specs.Option.{ForSome}
use Rattle.std.proofs.Common.{inl, inr, ⊎_elim, sym, subst, arith}
use Rattle.vl_disk.specs.declared.watched.Watched.{Ghosts}
use Rattle.vl_disk.specs.DiskState.{DiskState}

-- What contracts see of a disk's past: the moment, what it was at some moment since an earlier one, when its calls fail, and
-- that what it gives is steady.
pub record Past : Type 1 where
  pub moment : ℕ
  pub was : ℕ → DiskState → Type 0
  pub fails_past : Option ℕ → Type 0
  pub gives_steady : Type 0

abbrev pub past_of : {D : Type 0} → Ghosts D → D → Past
past_of g disk = record {
  moment = g.moment disk;
  was = g.states_since disk;
  fails_past = g.fails_past disk;
  gives_steady = g.gives_steady disk;
}

-- Time goes on by a call, from one moment to another.
pub record Passes (old new : Past) (during : DiskState → Type 0) : Type 0 where
  pub later : old.moment ≤ new.moment
  -- what the new disk was since t, the old one had been since then, or it was so while the call was under way;
  pub nothing_else : (t : ℕ) (state : DiskState) → t ≤ old.moment → new.was t state → old.was t state ⊎ during state
  -- what the old one had been, the new one was;
  pub keeps : (t : ℕ) (state : DiskState) → t ≤ old.moment → old.was t state → new.was t state
  -- it fails when the old one was to;
  pub as_planned : (stop : Option ℕ) → old.fails_past stop → new.fails_past stop
  -- and what it gives is steady if it was so of the old one
  pub steady : old.gives_steady → new.gives_steady

-- so it is with what a disk may be while a call is under way, by what it was before; of one that doesn't tell that, nothing
-- is said
abbrev pub While : Option DiskState → (DiskState → DiskState → Type 0) → DiskState → Type 0
While told during now = ForSome told (λ disk. during disk now)

-- time goes on for a disk, on which meanwhile stands what `during` says
abbrev pub Elapses : {D : Type 0} → Ghosts D → D → D → (DiskState → DiskState → Type 0) → Type 0
Elapses g old new during = Passes (past_of g old) (past_of g new) (While (g.told old) during)

-- From old to new the disk has P.
pub record HoldsThroughout {D : Type 0} (g : Ghosts D) (old new : D) (P : DiskState → Type 0) : Type 0 where
  -- at each moment from old to new it has P,
  pub each : (state : DiskState) → g.states_since new (g.moment old) state → P state
  -- so since an earlier moment it was what the old disk had been since then, or has P
  pub time : Passes (past_of g old) (past_of g new) P

-- what follows from what a call makes of it
pub passes_weaker : (old new : Past) (P Q : DiskState → Type 0)
    → Passes old new P → ((state : DiskState) → P state → Q state) → Passes old new Q
passes_weaker old new P Q passes weaker = record {
  later = passes.later;
  nothing_else = λ t state earlier was. ⊎_elim
      (λ (before : old.was t state). inl before) (λ (now : P state). inr (weaker state now)) (passes.nothing_else t state earlier was);
  keeps = passes.keeps;
  as_planned = passes.as_planned;
  steady = passes.steady;
}

-- two calls, one after the other
pub passes_then : (old mid new : Past) (P Q R : DiskState → Type 0)
    → Passes old mid P → Passes mid new Q → ((state : DiskState) → P state → R state) → ((state : DiskState) → Q state → R state)
    → Passes old new R
passes_then old mid new P Q R first second here there = record {
  later = omega (arith, first.later, second.later);
  nothing_else = λ t state earlier was. ⊎_elim
      (λ (before : mid.was t state). ⊎_elim (λ (long_ago : old.was t state). inl long_ago)
      (λ (now : P state). inr (here state now)) (first.nothing_else t state earlier before))
      (λ (now : Q state). inr (there state now))
      (second.nothing_else t state (omega (arith, earlier, first.later)) was);
  keeps = λ t state earlier was. second.keeps t state (omega (arith, earlier, first.later)) (first.keeps t state earlier was);
  as_planned = λ stop plan. second.as_planned stop (first.as_planned stop plan);
  steady = λ was. second.steady (first.steady was);
}

-- no call
pub passes_none : (now : Past) (P : DiskState → Type 0) → Passes now now P
passes_none now P = record {
  later = omega arith;
  nothing_else = λ t state earlier was. inl was;
  keeps = λ t state earlier was. was;
  as_planned = λ stop plan. plan;
  steady = λ was. was;
}

-- a run of calls, one after the other
module _ {D : Type 0} (g : Ghosts D) (P : DiskState → Type 0) where
  -- before the first call
  pub begins : (disk : D) → ((state : DiskState) → g.states_since disk (g.moment disk) state → P state) → HoldsThroughout g disk disk P
  begins disk here = record { each = here; time = passes_none (past_of g disk) P }

  -- the same, by the law `only_now` of a disk
  pub waits : ((disk : D) (state other : DiskState) → g.told disk ≡ Some state → g.states_since disk (g.moment disk) other → other ≡ state)
      → (disk : D) (state : DiskState) → g.told disk ≡ Some state → P state → HoldsThroughout g disk disk P
  waits only_now disk state is here = begins disk (λ now was. subst P (sym (only_now disk state now is was)) here)

  -- one call more, while which the disk has P
  pub goes_on : (old mid new : D) (during : DiskState → DiskState → Type 0) → HoldsThroughout g old mid P
      → Elapses g mid new during → ((state : DiskState) → While (g.told mid) during state → P state) → HoldsThroughout g old new P
  goes_on old mid new during so_far time here = record {
    each = λ state was. ⊎_elim (so_far.each state) (here state) (time.nothing_else (g.moment old) state so_far.time.later was);
    time = passes_then (past_of g old) (past_of g mid) (past_of g new) P (While (g.told mid) during) P
        so_far.time time (λ state now. now) here;
  }

  -- the same of a disk that tells its bytes
  pub goes_by : (old mid new : D) (state : DiskState) (during : DiskState → DiskState → Type 0)
      → g.told mid ≡ Some state → HoldsThroughout g old mid P
      → Elapses g mid new during → ((now : DiskState) → during state now → P now) → HoldsThroughout g old new P
  goes_by old mid new state during is so_far time here = goes_on old mid new during so_far time
      (λ now meanwhile. here now (meanwhile state is))

-- what follows from P at each moment
pub holds_weaker : {D : Type 0} (g : Ghosts D) (P Q : DiskState → Type 0) (old new : D)
    → HoldsThroughout g old new P → ((state : DiskState) → P state → Q state) → HoldsThroughout g old new Q
holds_weaker g P Q old new holds weaker = record {
  each = λ state was. weaker state (holds.each state was);
  time = passes_weaker (past_of g old) (past_of g new) P Q holds.time weaker;
}

-- two runs, one after the other
pub holds_then : {D : Type 0} (g : Ghosts D) (P : DiskState → Type 0) (old mid new : D)
    → HoldsThroughout g old mid P → HoldsThroughout g mid new P → HoldsThroughout g old new P
holds_then g P old mid new first second = record {
  each = λ state was. ⊎_elim (first.each state) (λ (now : P state). now)
      (second.time.nothing_else (g.moment old) state first.time.later was);
  time = passes_then (past_of g old) (past_of g mid) (past_of g new) P P P
      first.time second.time (λ state now. now) (λ state now. now);
}
