-- Entries of which each key stands once, from the least key on, lead to the changes that winners tell.
use Rattle.std.proofs.Common.{◌≡◌, ℕ, zero, suc, ◌≤◌, Bool, true, false, cond, List, [], ◌∷◌, length, map}
use Rattle.std.proofs.Common.{refl, ap, sym, ◌∙◌, subst, arith}
use Rattle.std.specs.Prelude.{T, Option, Some, None, unwrap_or}
use Rattle.std.specs.Cmp.Lexicographic.{nat_list_cmp_total}
use Rattle.std.specs.FinMap.{find}
use Rattle.std.specs.FinMap.Entries.{below_all, is_sorted, same_entries}
use Rattle.std.specs.List.{AllByRecursion}
use Rattle.std.specs.Option.{option_map}
use Rattle.std.specs.Ordering.{eq_by_cmp, is_lt}
use Rattle.vl_engine_model.specs.Changes.{change_to}
use Rattle.vl_model.specs.Entries.{is_gone}
use Rattle.vl_model.specs.Keys.{Stored, key_cmp}
use Rattle.vl_model.specs.Merging.{IsAlong}
use Rattle.vl_model.specs.Winners.{Logs, resolved, winner}
use Rattle.vl_model.specs.declared.change.Change.{Change}
use Rattle.vl_model.specs.declared.change.Change.TheVariants.{Set, Delete}
use Rattle.vl_model.specs.declared.entry.Body.{Body}
use Rattle.vl_model.specs.declared.entry.Body.TheVariants.{Far, Gone, Inline, Logged}
use Rattle.vl_model.specs.declared.entry.Entry.{Entry}
use Rattle.vl_model.specs.declared.way.Way.TheVariants.{Up}
use Rattle.vl_model.specs.laws.WinnerLaws.{key_exact}
use Rattle.vl_merge.specs.Visible.{is_hidden, shown}
use Rattle.vl_version.specs.Changes.{AreLed, Tells, Write, hiding, told_since}
use Rattle.vl_version.proofs.RowLaws.{AreAbove, AreOnce, all_above, all_by_key, both_parts, no_other, of_key, once_later}
use Rattle.vl_version.proofs.Winning.{winner-key}

-- ---- the changes of a list, for these entries

-- the key of an entry with what some changes do there
abbrev pub change_at : List Write → Entry → Write
change_at ws e = (e.key, unwrap_or (find key_cmp e.key ws) Delete)

below-changes : (ws : List Write) (key : List ℕ) (es : List Entry) → AreAbove key es
    → T (below_all key_cmp key (map (change_at ws) es))
below-changes ws key [] above = tt
below-changes ws key (f ∷ fs) above =
    both_parts (is_lt (key_cmp key f.key)) (below_all key_cmp key (map (change_at ws) fs))
    (subst (λ r. T (is_lt r)) (sym above.0) tt) (below-changes ws key fs above.1)

sorted-changes : (ws : List Write) (es : List Entry) → IsAlong Up es → AreOnce es
    → T (is_sorted key_cmp (map (change_at ws) es))
sorted-changes ws [] along once = tt
sorted-changes ws (e ∷ es) along once =
    both_parts (below_all key_cmp e.key (map (change_at ws) es)) (is_sorted key_cmp (map (change_at ws) es))
    (below-changes ws e.key es (all_above e es along.0 (no_other e es once)))
    (sorted-changes ws es along.1 (once_later e es once))

abbrev first_of : List Write → List Entry → Option Change
first_of ws [] = None
first_of ws (e ∷ es) = Some (change_at ws e).1

find-changes : (ws : List Write) (key : List ℕ) (es : List Entry)
    → find key_cmp key (map (change_at ws) es) ≡ first_of ws (of_key key es)
find-changes ws key [] = refl
find-changes ws key (e ∷ es) = by (eq_by_cmp key_cmp key e.key) (find-changes ws key es)
  where
    by : (b : Bool) → find key_cmp key (map (change_at ws) es) ≡ first_of ws (of_key key es)
        → cond b (Some (change_at ws e).1) (find key_cmp key (map (change_at ws) es))
        ≡ first_of ws (cond b (e ∷ of_key key es) (of_key key es))
    by true later = refl
    by false later = later

-- ---- what a winner tells, by whether it is hidden

set_is : (v : Stored) (value : Option Stored) → Some (Some v) ≡ Some value → option_map Set value ≡ Some (change_to value)
set_is v None is = absurd cc
set_is v (Some w) is = refl

far_is : (o : Option Stored) (value : Option Stored) → option_map Some o ≡ Some value
    → option_map Set value ≡ Some (change_to value)
far_is None value is = absurd cc
far_is (Some v) value is = set_is v value is

none_is : (value : Option Stored) → Some None ≡ Some value → option_map Set value ≡ None
none_is None is = refl
none_is (Some v) is = absurd cc

standing : (held : Logs) (key : List ℕ) (body : Body) (value : Option Stored) → resolved held key body ≡ Some value
    → (b : Bool) → is_gone body ≡ b → option_map Set value ≡ cond b None (Some (change_to value))
standing held key (Inline v) value led true is = absurd cc
standing held key (Inline v) value led false is = set_is v value led
standing held key Gone value led true is = none_is value led
standing held key Gone value led false is = absurd cc
standing held key (Far pointer) value led true is = absurd cc
standing held key (Far pointer) value led false is = far_is (held pointer key) value led
standing held key (Logged v pointer) value led true is = absurd cc
standing held key (Logged v pointer) value led false is = set_is v value led

by_hidden : (held : Logs) (since : ℕ) (e : Entry) (value : Option Stored) → resolved held e.key e.body ≡ Some value
    → (b : Bool) → is_hidden (hiding since) e ≡ b → told_since since (Some e) value ≡ cond b None (Some (change_to value))
by_hidden held zero e value led b is = standing held e.key e.body value led b is
by_hidden held (suc since) e value led b is = ap (λ t. cond t None (Some (change_to value))) is

no_winner : (since : ℕ) (value : Option Stored) → Some None ≡ Some value → told_since since None value ≡ None
no_winner zero value is = none_is value is
no_winner (suc since) value is = refl

unwrapped : (o : Option Change) (c : Change) → o ≡ Some c → Some (unwrap_or o Delete) ≡ o
unwrapped None c is = absurd cc
unwrapped (Some d) c is = refl

-- ---- entries that are seen of others

module _ (held : Logs) (all : List Entry) (since number : ℕ) (ws : List Write)
    (tells : (key : List ℕ) → Tells held since (winner all key number) (find key_cmp key ws)) where
  abbrev Is_told : Entry → Type 0
  Is_told e = option_map change_to (resolved held e.key e.body) ≡ Some (change_at ws e).1

  told_by : (key : List ℕ) (w : Option Entry) → winner all key number ≡ w → Tells held since w (find key_cmp key ws)
  told_by key w is = subst (λ (v : Option Entry). Tells held since v (find key_cmp key ws)) is (tells key)

  -- the change of a key whose winner is seen
  found_seen : (key : List ℕ) (e : Entry) (is : winner all key number ≡ Some e) → is_hidden (hiding since) e ≡ false
      → find key_cmp key ws ≡ Some (change_to (told_by key (Some e) is).value)
  found_seen key e is seen =
      let t = told_by key (Some e) is in t.change ∙ by_hidden held since e t.value t.led false seen

  told_of : (key : List ℕ) (w : Option Entry) → winner all key number ≡ w → AllByRecursion Is_told (shown (hiding since) w)
  told_of key None is = tt
  told_of key (Some e) is = by (is_hidden (hiding since) e) refl
    where
      by : (b : Bool) → is_hidden (hiding since) e ≡ b → AllByRecursion Is_told (cond b [] (e ∷ []))
      by true hidden = tt
      by false seen = (
        ap (option_map change_to) (told_by key (Some e) is).led
            ∙ sym (ap (λ o. Some (unwrap_or o Delete))
            (ap (λ (k : List ℕ). find key_cmp k ws) (sym (winner-key key number all e is)) ∙ found_seen key e is seen)),
        tt,
      )

  first-shown : (key : List ℕ) (w : Option Entry) → winner all key number ≡ w
      → first_of ws (shown (hiding since) w) ≡ find key_cmp key ws
  first-shown key None is = let t = told_by key None is in sym (t.change ∙ no_winner since t.value t.led)
  first-shown key (Some e) is = by (is_hidden (hiding since) e) refl
    where
      by : (b : Bool) → is_hidden (hiding since) e ≡ b → first_of ws (cond b [] (e ∷ [])) ≡ find key_cmp key ws
      by true hidden = let t = told_by key (Some e) is in sym (t.change ∙ by_hidden held since e t.value t.led true hidden)
      by false seen =
          ap (λ (k : List ℕ). Some (unwrap_or (find key_cmp k ws) Delete)) (sym (winner-key key number all e is))
          ∙ unwrapped (find key_cmp key ws) (change_to (told_by key (Some e) is).value) (found_seen key e is seen)

  shown-once : (w : Option Entry) → length (shown (hiding since) w) ≤ 1
  shown-once None = omega arith
  shown-once (Some e) = by (is_hidden (hiding since) e)
    where
      by : (b : Bool) → length (cond b [] (e ∷ [])) ≤ 1
      by true = omega arith
      by false = omega arith

  led_map : (es : List Entry) → AllByRecursion Is_told es → AreLed held es (map (change_at ws) es)
  led_map [] all = tt
  led_map (e ∷ es) all = (refl, all.0, led_map es all.1)

  -- Entries in which each winner that isn't hidden stands lead to just these changes.
  pub are_led : (seen : List Entry) → IsAlong Up seen
      → ((key : List ℕ) → of_key key seen ≡ shown (hiding since) (winner all key number)) → T (is_sorted key_cmp ws)
      → AreLed held seen ws
  are_led seen along winners sorted = subst (AreLed held seen) same (led_map seen all_told)
    where
      once : AreOnce seen
      once key = subst (λ (es : List Entry). length es ≤ 1) (sym (winners key)) (shown-once (winner all key number))

      same : map (change_at ws) seen ≡ ws
      same =
          same_entries key_cmp nat_list_cmp_total key_exact (map (change_at ws) seen) ws
          (sorted-changes ws seen along once) sorted
          (λ key. find-changes ws key seen ∙ ap (first_of ws) (winners key) ∙ first-shown key (winner all key number) refl)

      all_told : AllByRecursion Is_told seen
      all_told = all_by_key Is_told seen
          (λ key. subst (AllByRecursion Is_told) (sym (winners key)) (told_of key (winner all key number) refl))
