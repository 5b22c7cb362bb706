-- An install's switch says nothing of how many versions are kept, and the next log as it is.
use Rattle.std.specs.Prelude.{◌≡◌, ◌==◌, ◌&&◌, ℕ, ◌+◌, Bool, true, false, not, if◌then◌else◌, List, [], ◌∷◌, ◌++◌}
use Rattle.std.specs.Prelude.{map, Option, None, Some, refl}
use Rattle.std.specs.List.{AllByRecursion, filter}
use Rattle.std.specs.Option.{option_map}
use Rattle.std.proofs.Common.{sym, ap, ◌∙◌}
use Rattle.vl_back.specs.InstallEdits.{Replacing, drops_of, gone_since, install_switch}
use Rattle.vl_engine_laws.specs.laws.FlushKeeps.{KeepsAsMany}
use Rattle.vl_manifest.specs.Levels.{all_tables, is_in, put_at, taken_out}
use Rattle.vl_manifest.specs.States.{all_applied, applied, are_next, as_draft, finish, finished, given_if}
use Rattle.vl_manifest.specs.States.{is_file_number, is_gone, is_head, level_adds, next_state, then_applied}
use Rattle.vl_manifest.specs.States.{with_both, with_levels}
use Rattle.vl_manifest.specs.declared.edit.Edit.TheVariants.{Add, Drop, Gone, Head, Keep, Next}
use Rattle.vl_manifest.specs.declared.edit.Edit.{Edit}
use Rattle.vl_manifest.specs.declared.state.ManifestState.{ManifestState}
use Rattle.vl_manifest.specs.declared.version_builder.VersionBuilder.{VersionBuilder}

-- ---- one edit

-- it says nothing of that
abbrev IsOther : Edit → Type 0
IsOther (Add level position table) = Unit {0}
IsOther (Drop table) = Unit {0}
IsOther (Head segment number) = Unit {0}
IsOther (Next log table) = Unit {0}
IsOther (Keep versions since) = ⊥
IsOther (Gone number) = Unit {0}

-- what comes of a draft keeps as many, if anything does
abbrev AreKept : VersionBuilder → Option VersionBuilder → Type 0
AreKept d None = Unit {0}
AreKept d (Some x) = (x.keep ≡ d.keep) × (x.since ≡ d.since)

given_kept : (d x : VersionBuilder) (b : Bool) → x.keep ≡ d.keep → x.since ≡ d.since → AreKept d (given_if b x)
given_kept d x true keep since = (keep, since)
given_kept d x false keep since = tt

edit_kept : (e : Edit) (d : VersionBuilder) → IsOther e → AreKept d (applied e d)
edit_kept (Add level position table) d other =
    by (is_file_number table && not (is_in table (all_tables d.levels))) (put_at level position table d.levels)
  where
    by : (b : Bool) (o : Option (List (List ℕ))) → AreKept d (if b then option_map (with_levels d) o else None)
    by true None = tt
    by true (Some levels) = (refl, refl)
    by false o = tt
edit_kept (Drop table) d other =
    given_kept d (with_levels d (taken_out table d.levels)) (is_in table (all_tables d.levels)) refl refl
edit_kept (Head segment number) d other =
    given_kept d (record d { head = Some (segment, number) }) (is_head segment number) refl refl
edit_kept (Next log table) d other = given_kept d (record d { next = Some (log, table) }) (are_next log table) refl refl
edit_kept (Keep versions since) d other = absurd other
edit_kept (Gone number) d other = given_kept d (record d { gone = number }) (is_gone number) refl refl

-- ---- all of them

all_kept : (es : List Edit) (d : VersionBuilder) → AllByRecursion IsOther es → AreKept d (all_applied es d)
all_kept [] d others = (refl, refl)
all_kept (e ∷ es) d others = by (applied e d) (edit_kept e d others.0) (λ x. all_kept es x others.1)
  where
    further : (x : VersionBuilder) → AreKept d (Some x) → (o : Option VersionBuilder) → AreKept x o → AreKept d o
    further x kept None more = tt
    further x kept (Some y) more = (more.0 ∙ kept.0, more.1 ∙ kept.1)

    by : (o : Option VersionBuilder) → AreKept d o → ((x : VersionBuilder) → AreKept x (all_applied es x))
        → AreKept d (then_applied (all_applied es) o)
    by None kept rest = tt
    by (Some x) kept rest = further x kept (all_applied es x) (rest x)

module _ (s u : ManifestState) where
  finished_kept : (d : VersionBuilder) → AreKept (as_draft s) (Some d) → finished d ≡ Some u → KeepsAsMany s u
  finished_kept d kept is = by d.head d.next is
    where
      same : (a b : ManifestState) → Some a ≡ Some b → a ≡ b
      same a b e = cc

      by : (head next : Option (ℕ × ℕ)) → with_both d head next ≡ Some u → KeepsAsMany s u
      by None next is = absurd cc
      by (Some head) None is = absurd cc
      by (Some head) (Some next) is = record {
        keep = ap (λ (o : ManifestState). o.keep) (sym (same _ u is)) ∙ kept.0;
        since = ap (λ (o : ManifestState). o.since) (sym (same _ u is)) ∙ kept.1;
      }

  -- Edits that say nothing of it leave it so.
  pub kept_behind : (es : List Edit) → AllByRecursion IsOther es → next_state es s ≡ Some u → KeepsAsMany s u
  kept_behind es others is = by (all_applied es (as_draft s)) (all_kept es (as_draft s) others) is
    where
      by : (o : Option VersionBuilder) → AreKept (as_draft s) o → finish o ≡ Some u → KeepsAsMany s u
      by None kept is = absurd cc
      by (Some d) kept is = finished_kept d kept is

-- ---- an install's

drops_other : (ns : List ℕ) (es : List Edit) → AllByRecursion IsOther es → AllByRecursion IsOther (map Drop ns ++ es)
drops_other [] es others = others
drops_other (n ∷ ns) es others = (tt, drops_other ns es others)

adds_other : (level position : ℕ) (ts : List ℕ) (es : List Edit) → AllByRecursion IsOther es
    → AllByRecursion IsOther (level_adds level position ts ++ es)
adds_other level position [] es others = others
adds_other level position (t ∷ ts) es others = (tt, adds_other level (position + 1) ts es others)

gone_other : (before after : ℕ) → AllByRecursion IsOther (gone_since before after)
gone_other before after = by (before == after)
  where
    by : (b : Bool) → AllByRecursion IsOther (if b then [] else Gone after ∷ [])
    by true = tt
    by false = (tt, tt)

-- Behind an install's switch as many versions are kept as before.
pub kept_installed : (r : Replacing) (s u : ManifestState) → next_state (install_switch r s) s ≡ Some u → KeepsAsMany s u
kept_installed r s u is = kept_behind s u (install_switch r s)
    (drops_other (filter (λ (t : ℕ). is_in t r.inputs) (all_tables s.levels))
    (level_adds r.level r.position r.made ++ (Next r.next_log r.next_table ∷ gone_since s.gone r.gone))
    (adds_other r.level r.position r.made (Next r.next_log r.next_table ∷ gone_since s.gone r.gone)
    (tt, gone_other s.gone r.gone)))
    is

-- ---- the next log

-- what is so of whatever edits make behind others is so behind these
behind_front : (P : Option VersionBuilder → Type 0) → P None → (rest : List Edit)
    → ((d : VersionBuilder) → P (all_applied rest d)) → (front : List Edit) (d : VersionBuilder) → P (all_applied (front ++ rest) d)
behind_front P none rest each [] d = each d
behind_front P none rest each (e ∷ front) d = by (applied e d) (λ x. behind_front P none rest each front x)
  where
    by : (o : Option VersionBuilder) → ((x : VersionBuilder) → P (all_applied (front ++ rest) x))
        → P (then_applied (all_applied (front ++ rest)) o)
    by None more = none
    by (Some x) more = more x

module _ (log table : ℕ) (u : ManifestState) where
  abbrev SaysLog : Option VersionBuilder → Type 0
  SaysLog o = finish o ≡ Some u → u.next_log ≡ log

  said_log : (d : VersionBuilder) → d.next ≡ Some (log, table) → SaysLog (Some d)
  said_log d next is = by d.head (ap (with_both d d.head) (sym next) ∙ is)
    where
      same : (a b : ManifestState) → Some a ≡ Some b → a ≡ b
      same a b e = cc

      by : (head : Option (ℕ × ℕ)) → with_both d head (Some (log, table)) ≡ Some u → u.next_log ≡ log
      by None is = absurd cc
      by (Some head) is = ap (λ (o : ManifestState). o.next_log) (sym (same _ u is))

  next_log_said : (before after : ℕ) (d : VersionBuilder) → SaysLog (all_applied (Next log table ∷ gone_since before after) d)
  next_log_said before after d = by (are_next log table) (before == after)
    where
      none : SaysLog None
      none is = absurd cc

      gone : (b : Bool) (x : VersionBuilder) → x.next ≡ Some (log, table)
          → SaysLog (then_applied (all_applied []) (given_if b (record x { gone = after })))
      gone true x next = said_log (record x { gone = after }) next
      gone false x next = none

      by : (fits same : Bool)
          → SaysLog (then_applied (all_applied (if same then [] else Gone after ∷ []))
          (given_if fits (record d { next = Some (log, table) })))
      by true true = said_log (record d { next = Some (log, table) }) refl
      by true false = gone (is_gone after) (record d { next = Some (log, table) }) refl
      by false same = none

-- Behind an install's switch it is the one that this says.
pub log_installed : (r : Replacing) (s u : ManifestState) → next_state (install_switch r s) s ≡ Some u → u.next_log ≡ r.next_log
log_installed r s u = behind_front (SaysLog r.next_log r.next_table u) (λ is. absurd cc)
    (level_adds r.level r.position r.made ++ rest)
    (λ d. behind_front (SaysLog r.next_log r.next_table u) (λ is. absurd cc) rest
    (λ x. next_log_said r.next_log r.next_table u s.gone r.gone x) (level_adds r.level r.position r.made) d)
    (drops_of r.inputs (all_tables s.levels)) (as_draft s)
  where
    rest : List Edit
    rest = Next r.next_log r.next_table ∷ gone_since s.gone r.gone
