use Rattle.std.proofs.Common.{◌≤◌, MatchResult, ◌+◌, ap, sym, ◌∙◌, subst}
use Rattle.std.proofs.lemmas.Result.{IfOk-weaker, IfErr-weaker}
use Rattle.vl_model.specs.Cursors.{Spends}
use Rattle.vl_merge.specs.MergeOf.{pair_of}
use Rattle.vl_merge.specs.Trees.{MayFailIn, tree_left, tree_budget, half_left, half_budget}
use Rattle.vl_merge.proofs.TreeLaws.{source_given, gives_same, gives_older, gives_newer, halves, fails-halves, keeps-halves}
use Rattle.vl_merge.proofs.StandingLaws.{looked_none, looked_some, reached_newer, reached_older, stands-halves, untaken}
use Rattle.vl_merge.specs.Standing.{StandsAt, StandsIn}
use Rattle.vl_merge.proofs.tree.+next.Goals as goal
use Rattle.vl_merge.proofs.tree.+next.Goals.{look-in-Unread+in_ok-entry+in-Next+in-Inline-1}
use Rattle.vl_merge.proofs.tree.+next.Goals.{look-in-Unread+in_ok-entry+in-Next+in-Logged-1}
use Rattle.vl_merge.proofs.tree.+next.Goals.{look-in-Unread+in_ok-entry+in-Next+in-Gone-1}
use Rattle.vl_merge.proofs.tree.+next.Goals.{look-in-Unread+in_ok-entry+in-Unread-1, look-in_default, look-in-Some, look-in-None}

pub Tree::next-returns-in-Source-clause-given : goal.Tree::next-returns-in-Source-clause-given
Tree::next-returns-in-Source-clause-given g t c =
    IfOk-weaker c.next.result _ _ (λ next h. gives_same _ _ _ next (sym (ap (tree_left (λ k. g.C.Cursor.left k) c.args.way) c.in-Source.is))
    (source_given c.args.way (g.C.Cursor.left c.in-Source.cursor) (g.C.Cursor.left c.next.new.self) next h)) c.next.ensures.given

pub Tree::next-returns-in-Two-clause-given : goal.Tree::next-returns-in-Two-clause-given
Tree::next-returns-in-Two-clause-given g t c =
    let left = tree_left (λ k. g.C.Cursor.left k) c.args.way in
    IfOk-weaker c.next_of_two.result _ _ (λ next h. gives_same _ _ _ next
    (halves (λ newer older. pair_of c.args.way (half_left (λ k. g.C.Cursor.left k) c.args.way c.in-Two.first newer)
    (half_left (λ k. g.C.Cursor.left k) c.args.way c.in-Two.second older)) c.deref_mut.result.now
    c.deref_mut-in-Two.result.now c.in-Two.newer.value c.in-Two.older.value (left c.args.self.now)
    c.deref_mut.ensures.value c.deref_mut-in-Two.ensures.value (ap left c.in-Two.is)) h) c.next_of_two.ensures.given

pub Tree::next-returns-in-Two-clause-spends : goal.Tree::next-returns-in-Two-clause-spends
Tree::next-returns-in-Two-clause-spends g t c =
    let budget = tree_budget (λ k. g.C.Cursor.budget k) in
    let now = half_budget (λ k. g.C.Cursor.budget k) c.next_of_two.new.first c.next_of_two.new.newer + half_budget
    (λ k. g.C.Cursor.budget k) c.next_of_two.new.second c.next_of_two.new.older in
    subst (λ n. MatchResult c.next_of_two.result (Spends n now) (λ _. now ≤ n))
    (halves (λ newer older. half_budget (λ k. g.C.Cursor.budget k) c.in-Two.first newer + half_budget
    (λ k. g.C.Cursor.budget k) c.in-Two.second older) c.deref_mut.result.now c.deref_mut-in-Two.result.now
    c.in-Two.newer.value c.in-Two.older.value (budget c.args.self.now)
    c.deref_mut.ensures.value c.deref_mut-in-Two.ensures.value (ap budget c.in-Two.is)) c.next_of_two.ensures.spends

pub Tree::next-returns-in-Two-clause-may_fail : goal.Tree::next-returns-in-Two-clause-may_fail
Tree::next-returns-in-Two-clause-may_fail g t c =
    let may_fail = g.C.Cursor.may_fail in
    IfErr-weaker c.next_of_two.result _ _ (λ fault fails. subst (λ tree. MayFailIn may_fail tree fault) (sym c.in-Two.is)
    (fails-halves may_fail c.deref_mut.result.now c.deref_mut-in-Two.result.now c.in-Two.newer.value c.in-Two.older.value
    c.deref_mut.ensures.value c.deref_mut-in-Two.ensures.value fault fails)) c.next_of_two.ensures.may_fail

pub Tree::next-returns-in-Two-clause-keeps : goal.Tree::next-returns-in-Two-clause-keeps
Tree::next-returns-in-Two-clause-keeps g t c fault now =
    let may_fail = g.C.Cursor.may_fail in
    subst (λ tree. MayFailIn may_fail tree fault) (sym c.in-Two.is)
    (keeps-halves may_fail c.deref_mut.result.now c.deref_mut-in-Two.result.now c.in-Two.newer.value c.in-Two.older.value
    c.deref_mut.ensures.value c.deref_mut-in-Two.ensures.value fault c.next_of_two.new.newer c.next_of_two.new.older
    (c.next_of_two.ensures.keeps_newer fault) (c.next_of_two.ensures.keeps_older fault) now)

pub look-returns-clause-keeps : goal.look-returns-clause-keeps
look-returns-clause-keeps g t c fault now =
    elim c.match-head.branch [
      | look-in-Unread+in_ok-entry+in-Next+in-Inline-1 w ↦ w.next.ensures.keeps fault
          (subst (λ tree. MayFailIn g.C.Cursor.may_fail tree fault) w.half-is now)
      | look-in-Unread+in_ok-entry+in-Next+in-Logged-1 w ↦ w.next.ensures.keeps fault
          (subst (λ tree. MayFailIn g.C.Cursor.may_fail tree fault) w.half-is now)
      | look-in-Unread+in_ok-entry+in-Next+in-Gone-1 w ↦ w.next.ensures.keeps fault
          (subst (λ tree. MayFailIn g.C.Cursor.may_fail tree fault) w.half-is now)
      | look-in-Unread+in_ok-entry+in-Unread-1 w ↦ w.next.ensures.keeps fault
          (subst (λ tree. MayFailIn g.C.Cursor.may_fail tree fault) w.half-is now)
      | look-in_default w ↦ subst (λ tree. MayFailIn g.C.Cursor.may_fail tree fault) w.half-is now
    ]

pub next_of_two-returns-then-takes_older-clause-given : goal.next_of_two-returns-then-takes_older-clause-given
next_of_two-returns-then-takes_older-clause-given g t c =
    gives_older c.args.way _ _ (tree_left (λ k. g.C.Cursor.left k) c.args.way c.look.new.half)
    (tree_left (λ k. g.C.Cursor.left k) c.args.way c.look-2.new.half) c.look.new.head c.look-2.new.head
    c.look.ensures.kept c.look-2.ensures.kept c.in_ok-look.ensures.read c.in_ok-look-2.ensures.read c.take.result c.take.new.self
    (sym c.takes_older.ensures ∙ c.if-takes_older.true) c.take.ensures.taken c.take.ensures.gives

pub next_of_two-returns-else-takes_older-clause-given : goal.next_of_two-returns-else-takes_older-clause-given
next_of_two-returns-else-takes_older-clause-given g t c =
    gives_newer c.args.way _ _ (tree_left (λ k. g.C.Cursor.left k) c.args.way c.look.new.half)
    (tree_left (λ k. g.C.Cursor.left k) c.args.way c.look-2.new.half) c.look.new.head c.look-2.new.head
    c.look.ensures.kept c.look-2.ensures.kept c.in_ok-look.ensures.read c.in_ok-look-2.ensures.read
    c.take-else-takes_older.result c.take-else-takes_older.new.self
    (sym c.takes_older.ensures ∙ c.if-takes_older.false) c.take-else-takes_older.ensures.taken c.take-else-takes_older.ensures.gives

-- ---- up to where it stands

pub Tree::next-returns-in-Two-clause-reaches : goal.Tree::next-returns-in-Two-clause-reaches
Tree::next-returns-in-Two-clause-reaches g t c is_met upward =
    IfOk-weaker c.next_of_two.result _ _ (λ next stands met.
    subst (λ tree. StandsIn g.C.Cursor.stands_to is_met tree) (sym c.in-Two.is)
    (stands-halves g.C.Cursor.stands_to is_met c.deref_mut.result.now c.deref_mut-in-Two.result.now c.in-Two.newer.value c.in-Two.older.value
    c.in-Two.first c.in-Two.second c.deref_mut.ensures.value c.deref_mut-in-Two.ensures.value (stands met)))
    (c.next_of_two.ensures.reaches is_met upward)

pub Tree::next-returns-in-Two-clause-back : goal.Tree::next-returns-in-Two-clause-back
Tree::next-returns-in-Two-clause-back g t c is_met upward now =
    subst (λ tree. StandsIn g.C.Cursor.stands_to is_met tree) (sym c.in-Two.is)
    (stands-halves g.C.Cursor.stands_to is_met c.deref_mut.result.now c.deref_mut-in-Two.result.now c.in-Two.newer.value c.in-Two.older.value
    c.in-Two.first c.in-Two.second c.deref_mut.ensures.value c.deref_mut-in-Two.ensures.value
    (c.next_of_two.ensures.back is_met upward now))

pub look-returns-clause-back : goal.look-returns-clause-back
look-returns-clause-back g t c is_met upward now =
    elim c.match-head.branch [
      | look-in-Unread+in_ok-entry+in-Next+in-Inline-1 w ↦ elim w.match-branch-2.branch [
        | look-in-Some w' ↦ looked_some is_met _ _ _ _ _ _ w.in-Unread.is w.head-is (w.in_ok-entry.ensures.reaches is_met upward)
            (w.next.ensures.back is_met upward) _ w'.t-16-is w'.in-Some.is
            (subst (λ tree. StandsAt is_met c.match-head.head (StandsIn g.C.Cursor.stands_to is_met tree)) w.half-is now)
        | look-in-None w' ↦ looked_none is_met _ _ _ _ _ _ w.in-Unread.is w.head-is (w.in_ok-entry.ensures.reaches is_met upward)
            (w.next.ensures.back is_met upward) w'.t-16-is w'.in-None.is
            (subst (λ tree. StandsAt is_met c.match-head.head (StandsIn g.C.Cursor.stands_to is_met tree)) w.half-is now)
      ]
      | look-in-Unread+in_ok-entry+in-Next+in-Logged-1 w ↦ elim w.match-branch-2.branch [
        | look-in-Some w' ↦ looked_some is_met _ _ _ _ _ _ w.in-Unread.is w.head-is (w.in_ok-entry.ensures.reaches is_met upward)
            (w.next.ensures.back is_met upward) _ w'.t-16-is w'.in-Some.is
            (subst (λ tree. StandsAt is_met c.match-head.head (StandsIn g.C.Cursor.stands_to is_met tree)) w.half-is now)
        | look-in-None w' ↦ looked_none is_met _ _ _ _ _ _ w.in-Unread.is w.head-is (w.in_ok-entry.ensures.reaches is_met upward)
            (w.next.ensures.back is_met upward) w'.t-16-is w'.in-None.is
            (subst (λ tree. StandsAt is_met c.match-head.head (StandsIn g.C.Cursor.stands_to is_met tree)) w.half-is now)
      ]
      | look-in-Unread+in_ok-entry+in-Next+in-Gone-1 w ↦ elim w.match-branch-2.branch [
        | look-in-Some w' ↦ looked_some is_met _ _ _ _ _ _ w.in-Unread.is w.head-is (w.in_ok-entry.ensures.reaches is_met upward)
            (w.next.ensures.back is_met upward) _ w'.t-16-is w'.in-Some.is
            (subst (λ tree. StandsAt is_met c.match-head.head (StandsIn g.C.Cursor.stands_to is_met tree)) w.half-is now)
        | look-in-None w' ↦ looked_none is_met _ _ _ _ _ _ w.in-Unread.is w.head-is (w.in_ok-entry.ensures.reaches is_met upward)
            (w.next.ensures.back is_met upward) w'.t-16-is w'.in-None.is
            (subst (λ tree. StandsAt is_met c.match-head.head (StandsIn g.C.Cursor.stands_to is_met tree)) w.half-is now)
      ]
      | look-in-Unread+in_ok-entry+in-Unread-1 w ↦ elim w.match-branch-2.branch [
        | look-in-Some w' ↦ looked_some is_met _ _ _ _ _ _ w.in-Unread.is w.head-is (w.in_ok-entry.ensures.reaches is_met upward)
            (w.next.ensures.back is_met upward) _ w'.t-16-is w'.in-Some.is
            (subst (λ tree. StandsAt is_met c.match-head.head (StandsIn g.C.Cursor.stands_to is_met tree)) w.half-is now)
        | look-in-None w' ↦ looked_none is_met _ _ _ _ _ _ w.in-Unread.is w.head-is (w.in_ok-entry.ensures.reaches is_met upward)
            (w.next.ensures.back is_met upward) w'.t-16-is w'.in-None.is
            (subst (λ tree. StandsAt is_met c.match-head.head (StandsIn g.C.Cursor.stands_to is_met tree)) w.half-is now)
      ]
      | look-in_default w ↦ subst (λ head. StandsAt is_met head (StandsIn g.C.Cursor.stands_to is_met c.args.half.now)) w.head-is
          (subst (λ tree. StandsAt is_met c.match-head.head (StandsIn g.C.Cursor.stands_to is_met tree)) w.half-is now)
    ]

pub next_of_two-returns-in_err-look-clause-back : goal.next_of_two-returns-in_err-look-clause-back
next_of_two-returns-in_err-look-clause-back g t c is_met upward now = (c.look.ensures.back is_met upward now.0, now.1)

pub next_of_two-returns-in_err-look-2-clause-back : goal.next_of_two-returns-in_err-look-2-clause-back
next_of_two-returns-in_err-look-2-clause-back g t c is_met upward now =
    (c.look.ensures.back is_met upward now.0, c.look-2.ensures.back is_met upward now.1)

pub next_of_two-returns-then-takes_older-clause-reaches : goal.next_of_two-returns-then-takes_older-clause-reaches
next_of_two-returns-then-takes_older-clause-reaches g t c is_met upward met =
    let r = reached_older c.args.way is_met upward _ _ c.look.new.head c.look-2.new.head c.take.result c.in_ok-look.ensures.read
    c.in_ok-look-2.ensures.read (sym c.takes_older.ensures ∙ c.if-takes_older.true) c.take.ensures.gives met in
    (c.look.ensures.back is_met upward r.0, c.look-2.ensures.back is_met upward r.1)

pub next_of_two-returns-then-takes_older-clause-back : goal.next_of_two-returns-then-takes_older-clause-back
next_of_two-returns-then-takes_older-clause-back g t c is_met upward now = (
  c.look.ensures.back is_met upward now.0,
  c.look-2.ensures.back is_met upward (untaken is_met _ c.look-2.new.head c.take.new.self c.take.ensures.taken now.1),
)

pub next_of_two-returns-else-takes_older-clause-reaches : goal.next_of_two-returns-else-takes_older-clause-reaches
next_of_two-returns-else-takes_older-clause-reaches g t c is_met upward met =
    let r = reached_newer c.args.way is_met upward _ _ c.look.new.head c.look-2.new.head c.take-else-takes_older.result
    c.in_ok-look.ensures.read c.in_ok-look-2.ensures.read (sym c.takes_older.ensures ∙ c.if-takes_older.false)
    c.take-else-takes_older.ensures.gives met in
    (c.look.ensures.back is_met upward r.0, c.look-2.ensures.back is_met upward r.1)

pub next_of_two-returns-else-takes_older-clause-back : goal.next_of_two-returns-else-takes_older-clause-back
next_of_two-returns-else-takes_older-clause-back g t c is_met upward now = (
  c.look.ensures.back is_met upward
      (untaken is_met _ c.look.new.head c.take-else-takes_older.new.self c.take-else-takes_older.ensures.taken now.0),
  c.look-2.ensures.back is_met upward now.1,
)
