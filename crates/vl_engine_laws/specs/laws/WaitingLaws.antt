-- The edits of a flush's switch are those of the layout that the ruling leaves.
use Rattle.std.specs.Prelude.{◌≡◌, ◌≤◌, ℕ, ◌+◌, List, [], ◌∷◌, ◌++◌, drop, length, Some, refl}
use Rattle.std.proofs.Common.{ap, subst, ◌∙◌, arith}
use Rattle.vl_back.specs.FlushEdits.{flush_switch, head_of, switch_of}
use Rattle.vl_back.specs.declared.back.Back.{Back}
use Rattle.vl_manifest.specs.declared.state.ManifestState.{ManifestState}
use Rattle.vl_manifest.specs.declared.waiting.Waiting.{Waiting}
use Rattle.vl_engine_laws.specs.Held.{Base}
use Rattle.vl_engine_laws.specs.Represents.{IsBack}
use Rattle.vl_recover.specs.opening.HeldFiles.{AreWaiting}
use Rattle.vl_engine_laws.specs.laws.FlushBase.{first_number}
use Rattle.vl_engine_laws.specs.laws.FlushLaws.{edits_of}
use Rattle.vl_engine_model.specs.Rulings.Flush.{covered_by, flushed}
use Rattle.vl_engine_model.specs.Sources.{but_oldest, head, number_or, oldest}
use Rattle.vl_engine_model.specs.Start.{newest_first}
use Rattle.vl_engine_model.specs.declared.layout.Layout.{Layout}
use Rattle.vl_engine_model.specs.declared.segment.Segment.{Segment}
use Rattle.vl_engine_model_laws.specs.laws.TidyLogs.{frozen_split}
use Rattle.vl_manifest.specs.States.{flush_edits}

-- ---- the frozen logs, the oldest first

last_first : (ss : List Segment) (s : Segment) → newest_first (ss ++ s ∷ []) ≡ s ∷ newest_first ss
last_first [] s = refl
last_first (t ∷ ss) s = ap (λ (rest : List Segment). rest ++ t ∷ []) (last_first ss s)

pub waits_first : (ss : List Segment) (s : Segment) → oldest ss ≡ Some s → newest_first ss ≡ s ∷ newest_first (but_oldest ss)
waits_first ss s waits = ap newest_first (frozen_split ss s waits) ∙ last_first (but_oldest ss) s

first_turned : (ss : List Segment) (a : Segment) → first_number (newest_first ss) a ≡ number_or a (oldest ss)
first_turned [] a = refl
first_turned (x ∷ []) a = refl
first_turned (x ∷ y ∷ ss) a = on_more (newest_first (y ∷ ss)) (some_behind (newest_first ss)) ∙ first_turned (y ∷ ss) a
  where
    on_more : (l : List Segment) → 1 ≤ length l → first_number (l ++ x ∷ []) a ≡ first_number l a
    on_more [] some = absurd (omega (arith, some))
    on_more (z ∷ l) some = refl

    some_behind : (l : List Segment) → 1 ≤ length (l ++ y ∷ [])
    some_behind [] = omega arith
    some_behind (z ∷ l) = omega arith

first_waits : (covered : ℕ) (ws : List Waiting) (ss : List Segment) (a : Segment) → AreWaiting covered ws ss
    → head_of a.number ws ≡ first_number ss a
first_waits covered [] [] a are = refl
first_waits covered [] (s ∷ ss) a are = absurd are
first_waits covered (w ∷ ws) [] a are = absurd are
first_waits covered (w ∷ ws) (s ∷ ss) a (number, covers, rest) = number

-- ---- a flush

module _ (back : Back) (b : Base) (l : Layout) (s : Segment) (is : IsBack back b l) (waits : oldest l.frozen ≡ Some s) where
  waiting_so : AreWaiting l.covered back.waiting.items (s ∷ newest_first (but_oldest l.frozen))
  waiting_so = subst (AreWaiting l.covered back.waiting.items) (waits_first l.frozen s waits) is.waiting

  -- Of the logs that wait the first is flushed,
  pub waiting_edits : flush_switch l.active.number back ≡ edits_of l s
  waiting_edits = by back.waiting.items waiting_so
    where
      by : (ws : List Waiting) → AreWaiting l.covered ws (s ∷ newest_first (but_oldest l.frozen))
          → switch_of l.active.number ws back ≡ edits_of l s
      by [] are = absurd are
      by (w ∷ ws) (number, covers, rest) =
          let table : back.state.next_table ≡ l.next_table = ap (λ (x : ManifestState). x.next_table) is.state in
          let first : head_of l.active.number ws ≡ head (flushed l s) =
          first_waits w.covered ws (newest_first (but_oldest l.frozen)) l.active rest ∙ first_turned (but_oldest l.frozen) l.active in
          ap (λ (n : ℕ). flush_edits n (head_of l.active.number ws) w.covered back.next_log (n + 1)) table
          ∙ ap (λ (n : ℕ). flush_edits l.next_table n w.covered back.next_log (l.next_table + 1)) first
          ∙ ap (λ (n : ℕ). flush_edits l.next_table (head (flushed l s)) n back.next_log (l.next_table + 1)) covers
          ∙ ap (λ (n : ℕ). flush_edits l.next_table (head (flushed l s)) (covered_by s.frames l.covered) n
          (l.next_table + 1)) is.next_log

  -- and the others wait on.
  pub waiting_then : (ws : List Waiting) (w : Waiting) → back.waiting.items ≡ w ∷ ws
      → AreWaiting (flushed l s).covered ws (newest_first (flushed l s).frozen)
  waiting_then ws w are =
      let (number, covers, rest) =
      subst (λ (all : List Waiting). AreWaiting l.covered all (s ∷ newest_first (but_oldest l.frozen))) are waiting_so in
      subst (λ (n : ℕ). AreWaiting n ws (newest_first (but_oldest l.frozen))) covers rest

  -- Without the first of them these are left.
  pub waiting_dropped : AreWaiting (flushed l s).covered (drop 1 back.waiting.items) (newest_first (flushed l s).frozen)
  waiting_dropped = by back.waiting.items waiting_so
    where
      by : (ws : List Waiting) → AreWaiting l.covered ws (s ∷ newest_first (but_oldest l.frozen))
          → AreWaiting (flushed l s).covered (drop 1 ws) (newest_first (but_oldest l.frozen))
      by [] are = absurd are
      by (w ∷ ws) (number, covers, rest) = subst (λ (n : ℕ). AreWaiting n ws (newest_first (but_oldest l.frozen))) covers rest
