-- Up to where what a merge goes over was read whole, step by step.
use Rattle.std.proofs.Common.{◌≡◌, ◌⊎◌, ℕ, Bool, true, false, cond, sym, ◌∙◌, subst, Option, Some, None, is_some, inl, inr}
use Rattle.std.proofs.Common.{List, [], ◌∷◌, ◌++◌}
use Rattle.std.specs.List.{AllByRecursion}
use Rattle.std.specs.Ordering.{eq_by_cmp}
use Rattle.std.specs.Prelude.{nat_le, Result, Ok, Err, IfOk}
use Rattle.vl_model.specs.Cursors.{IsReached}
use Rattle.vl_model.specs.Keys.{key_cmp}
use Rattle.vl_model.specs.declared.entry.Entry.{Entry}
use Rattle.vl_model.specs.declared.way.Way.{Way}
use Rattle.vl_merge.proofs.BuildLaws.{turned_way}
use Rattle.vl_merge.specs.Built.{leaves, IsUnread}
use Rattle.vl_merge.specs.Held.{held_with, held_after, passed_by, passed}
use Rattle.vl_merge.specs.ReadAhead.{IsKnown, entry_of, taken, takes_older}
use Rattle.vl_merge.specs.Standing.{BothStand, IsMetBy, IsUpward, StandsAt, StandsIn}
use Rattle.vl_merge.specs.Visible.{is_counted, is_hidden}
use Rattle.vl_merge.specs.declared.hides.Hides.{Hides}
use Rattle.vl_merge.specs.declared.lookahead.Lookahead.{Lookahead}
use Rattle.vl_merge.specs.declared.lookahead.Lookahead.TheVariants.{Unread, Next, End}
use Rattle.vl_merge.specs.declared.tree.Tree.{Tree, Nothing, Source, Two'}

-- ---- two heads

module _ (way : Way) (is_met : Entry → Bool) (upward : IsUpward way is_met) (A B : Type 0) where
  -- where the one that comes first is met, so is the other
  met_older : (first second : Lookahead) → IsKnown first → IsKnown second → takes_older way first second ≡ true
      → IsReached is_met (entry_of second) → StandsAt is_met first A × StandsAt is_met second B
  met_older Unread second known also is met = absurd known
  met_older first Unread known also is met = absurd also
  met_older End End known also is met = (tt, tt)
  met_older End (Next f) known also is met = (tt, inl met)
  met_older (Next e) (Next f) known also is met = (inl (upward f e met (turned_way way e f is)), inl met)
  met_older (Next e) End known also is met = absurd cc

  met_newer : (first second : Lookahead) → IsKnown first → IsKnown second → takes_older way first second ≡ false
      → IsReached is_met (entry_of first) → StandsAt is_met first A × StandsAt is_met second B
  met_newer Unread second known also is met = absurd known
  met_newer first Unread known also is met = absurd also
  met_newer End End known also is met = absurd cc
  met_newer End (Next f) known also is met = absurd cc
  met_newer (Next e) (Next f) known also is met = (inl met, inl (upward e f met is))
  met_newer (Next e) End known also is met = (inl met, tt)

  pub reached_older : (first second : Lookahead) (next : Option Entry) → IsKnown first → IsKnown second
      → takes_older way first second ≡ true → next ≡ entry_of second → IsReached is_met next
      → StandsAt is_met first A × StandsAt is_met second B
  reached_older first second next known also is gives met =
      met_older first second known also is (subst (IsReached is_met) gives met)

  pub reached_newer : (first second : Lookahead) (next : Option Entry) → IsKnown first → IsKnown second
      → takes_older way first second ≡ false → next ≡ entry_of first → IsReached is_met next
      → StandsAt is_met first A × StandsAt is_met second B
  reached_newer first second next known also is gives met =
      met_newer first second known also is (subst (IsReached is_met) gives met)

-- before a head was given it stood as behind it
pub untaken : (is_met : Entry → Bool) (A : Type 0) (head now : Lookahead) → now ≡ taken head → StandsAt is_met now A → StandsAt is_met head A
untaken is_met A head now is stands = by head (subst (λ h. StandsAt is_met h A) is stands)
  where
    by : (h : Lookahead) → StandsAt is_met (taken h) A → StandsAt is_met h A
    by Unread stands = stands
    by (Next e) stands = inr stands
    by End stands = stands

-- a head was read
module _ (is_met : Entry → Bool) (A B : Type 0) (head now read : Lookahead) (next : Option Entry) (unread : head ≡ Unread) (is : now ≡ read)
    (came : IsReached is_met next → A) (back : B → A) where
  pub looked_some : (e : Entry) → read ≡ Next e → next ≡ Some e → StandsAt is_met now B → StandsAt is_met head A
  looked_some e shows gives stands =
      subst (λ h. StandsAt is_met h A) (sym unread) (by (subst (λ h. StandsAt is_met h B) (is ∙ shows) stands))
    where
      by : (is_met e ≡ true) ⊎ B → A
      by (inl met) = came (subst (IsReached is_met) (sym gives) met)
      by (inr later) = back later

  pub looked_none : read ≡ End → next ≡ None → StandsAt is_met now B → StandsAt is_met head A
  looked_none shows gives stands = subst (λ h. StandsAt is_met h A) (sym unread) (came (subst (IsReached is_met) (sym gives) tt))

-- ---- a tree that was just made

module _ {C : Type 0} (stands_to : C → (Entry → Bool) → Type 0) (is_met : Entry → Bool) where
  all_joined : (cs ds : List C) → AllByRecursion (λ c. stands_to c is_met) cs → AllByRecursion (λ c. stands_to c is_met) ds
      → AllByRecursion (λ c. stands_to c is_met) (cs ++ ds)
  all_joined [] ds here there = there
  all_joined (c ∷ cs) ds here there = (here.0, all_joined cs ds here.1 there)

  -- in a tree of two halves
  pub stands-halves : (newer older a b : Tree C) (first second : Lookahead) → newer ≡ a → older ≡ b
      → BothStand stands_to is_met newer first older second → BothStand stands_to is_met a first b second
  stands-halves newer older a b first second first_is second_is stand = (
    subst (λ (t : Tree C). StandsAt is_met first (StandsIn stands_to is_met t)) first_is stand.0,
    subst (λ (t : Tree C). StandsAt is_met second (StandsIn stands_to is_met t)) second_is stand.1,
  )

  pub stands-planted : (tree : Tree C) → IsUnread tree → StandsIn stands_to is_met tree → AllByRecursion (λ c. stands_to c is_met) (leaves tree)
  stands-planted Nothing unread stands = tt
  stands-planted (Source c) unread stands = (stands, tt)
  stands-planted (Two' p newer first q older second) unread stands =
      all_joined (leaves newer) (leaves older)
      (stands-planted newer unread.2 (subst (λ h. StandsAt is_met h (StandsIn stands_to is_met newer)) unread.0 stands.0))
      (stands-planted older unread.3 (subst (λ h. StandsAt is_met h (StandsIn stands_to is_met older)) unread.1 stands.1))

-- ---- what is held

module _ (is_met : Entry → Bool) where
  met_with : (held : Option Entry) (e : Entry) → IsMetBy is_met (held_with held e) → IsMetBy is_met held ⊎ (is_met e ≡ true)
  met_with None e met = inr met
  met_with (Some h) e met = by (eq_by_cmp key_cmp h.key e.key) (nat_le e.version h.version) met
    where
      by : (b c : Bool) → IsMetBy is_met (cond b (cond c (Some h) (Some e)) (Some e)) → IsMetBy is_met (Some h) ⊎ (is_met e ≡ true)
      by true true met = inl met
      by true false met = inr met
      by false c met = inr met

  -- what is held was held, or came just now
  pub met_after : (number : ℕ) (held now : Option Entry) (e : Entry) → now ≡ held_after number held e → IsMetBy is_met now
      → IsMetBy is_met held ⊎ (is_met e ≡ true)
  met_after number held now e is met = by (is_counted number e) (subst (IsMetBy is_met) is met)
    where
      by : (b : Bool) → IsMetBy is_met (cond b (held_with held e) held) → IsMetBy is_met held ⊎ (is_met e ≡ true)
      by true met = met_with held e met
      by false met = inl met

  -- what is given was held
  pub met_passed : (hides : Hides) (number : ℕ) (held : Option Entry) (e : Entry) (given : Option Entry) → given ≡ passed hides number held e
      → is_some given ≡ true → IsReached is_met given → IsMetBy is_met held
  met_passed hides number held e given is some met =
      by held (is_counted number e) (subst (λ o. is_some o ≡ true) is some) (subst (IsReached is_met) is met)
    where
      shown : (h : Entry) (b c : Bool) → is_some (cond b None (cond c None (Some h))) ≡ true
          → IsReached is_met (cond b None (cond c None (Some h))) → is_met h ≡ true
      shown h true c some met = absurd cc
      shown h false true some met = absurd cc
      shown h false false some met = met

      by : (o : Option Entry) (b : Bool) → is_some (cond b (passed_by hides o e) None) ≡ true
          → IsReached is_met (cond b (passed_by hides o e) None) → IsMetBy is_met o
      by None true some met = absurd cc
      by None false some met = absurd cc
      by (Some h) false some met = absurd cc
      by (Some h) true some met = shown h (eq_by_cmp key_cmp h.key e.key) (is_hidden hides h) some met

-- ---- steps of what is visible

module _ (is_met : Entry → Bool) (Before : Type 0) (held now : Option Entry) (Was Is : Type 0) (e : Entry) (number : ℕ)
    (known : IsMetBy is_met held ⊎ Was → Before) (came : is_met e ≡ true → Was) (back : Is → Was) (is : now ≡ held_after number held e) where
  -- an entry comes
  pub stands_passed : IsMetBy is_met now ⊎ Is → Before
  stands_passed (inl met) = elim (met_after is_met number held now e is met) [
    | inl was ↦ known (inl was)
    | inr new ↦ known (inr (came new))
  ]
  stands_passed (inr stands) = known (inr (back stands))

-- what an answer says under a premise
pub if_ok_under : {T E : Type 0} (r : Result T E) (U : Type 0) (P Q : T → Type 0) → ((x : T) → (U → P x) → Q x) → (U → IfOk r P) → IfOk r Q
if_ok_under (Ok x) U P Q under p = under x p
if_ok_under (Err e) U P Q under p = tt
