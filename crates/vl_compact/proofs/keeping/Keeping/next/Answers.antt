use Rattle.std.proofs.Common.{Bool, Option, subst, sym, ◌∙◌, arith}
use Rattle.vl_compact.proofs.Passing.{gives_it, gives_none, walks_on}
use Rattle.vl_compact.specs.Keeps.{AreRulesOf, Passes, place_in}
use Rattle.vl_compact.specs.declared.rules.Rules.{Rules}
use Rattle.vl_model.specs.Cursors.{Gives, IsReached, Spends}
use Rattle.vl_model.specs.declared.entry.Entry.{Entry}
use Rattle.vl_compact.proofs.keeping.Keeping.next.Goals as goal

pub returns-then-branch-clause-next : goal.returns-then-branch-clause-next
returns-then-branch-clause-next g c = λ j left are has fits told.
    let before = g.C.Cursor.left c.walking.self.cursor in
    let now = g.C.Cursor.left c.next.new.self in
    let e = c.in-Some.entry in
    let rules = subst (λ (r : Rules). AreRulesOf r j) (sym c.walking.invariant.rules) are in
    gives_it j _ c.walking.self.last before c.walking.found.items (c.walking.invariant.walked j left are has fits told)
    c.pass.new.last now c.pass.new.found.items e
    (subst (λ (o : Option Entry). Gives before now o) c.in-Some.is c.in_ok-entry.ensures.given)
    (subst (λ (b : Bool). Passes j (place_in c.walking.self.last) (place_in c.pass.new.last) e c.walking.found.items
    c.pass.new.found.items b)
    c.if-branch.true (c.in_ok-pass.ensures.passes j rules has (c.walking.invariant.fits fits)))

pub walking-preserved-else-branch : goal.walking-preserved-else-branch
walking-preserved-else-branch g c = record {
  walked = λ j left are has fits told.
      let before = g.C.Cursor.left c.walking.self.cursor in
      let now = g.C.Cursor.left c.next.new.self in
      let e = c.in-Some.entry in
      let rules = subst (λ (r : Rules). AreRulesOf r j) (sym c.walking.invariant.rules) are in
      walks_on j _ c.walking.self.last before c.walking.found.items (c.walking.invariant.walked j left are has fits told)
      c.pass.new.last now c.pass.new.found.items e
      (subst (λ (o : Option Entry). Gives before now o) c.in-Some.is c.in_ok-entry.ensures.given)
      (subst (λ (b : Bool). Passes j (place_in c.walking.self.last) (place_in c.pass.new.last) e c.walking.found.items
      c.pass.new.found.items b)
      c.if-branch.false (c.in_ok-pass.ensures.passes j rules has (c.walking.invariant.fits fits)));
  rules = c.walking.invariant.rules;
  fits = λ fits. c.pass.ensures.fits (c.walking.invariant.fits fits);
  steady = record {
    sources = c.in_ok-pass.ensures.steady ∙ c.walking.invariant.steady.sources;
    files = c.in_ok-entry.ensures.cause ∙ c.walking.invariant.steady.files;
  };
  keeps = λ fault may. c.walking.invariant.keeps fault (c.next.ensures.keeps fault may);
  back = λ is_met stands. c.walking.invariant.back is_met (c.next.ensures.back is_met stands);
  spends =
      let less = subst (λ (o : Option Entry). Spends (g.C.Cursor.budget c.walking.self.cursor) (g.C.Cursor.budget c.next.new.self) o)
      c.in-Some.is c.in_ok-entry.ensures.spends in
      omega (arith, less, c.walking.invariant.spends);
}

pub walking-preserved-else-branch-2 : goal.walking-preserved-else-branch-2
walking-preserved-else-branch-2 g c = record {
  walked = λ j left are has fits told.
      let before = g.C.Cursor.left c.walking.self.cursor in
      let now = g.C.Cursor.left c.next.new.self in
      let e = c.in-Some.entry in
      let rules = subst (λ (r : Rules). AreRulesOf r j) (sym c.walking.invariant.rules) are in
      walks_on j _ c.walking.self.last before c.walking.found.items (c.walking.invariant.walked j left are has fits told)
      c.pass.new.last now c.pass.new.found.items e
      (subst (λ (o : Option Entry). Gives before now o) c.in-Some.is c.in_ok-entry.ensures.given)
      (subst (λ (b : Bool). Passes j (place_in c.walking.self.last) (place_in c.pass.new.last) e c.walking.found.items
      c.pass.new.found.items b)
      c.if-branch.false (c.in_ok-pass.ensures.passes j rules has (c.walking.invariant.fits fits)));
  rules = c.walking.invariant.rules;
  fits = λ fits. c.pass.ensures.fits (c.walking.invariant.fits fits);
  steady = record {
    sources = c.in_ok-pass.ensures.steady ∙ c.walking.invariant.steady.sources;
    files = c.in_ok-entry.ensures.cause ∙ c.walking.invariant.steady.files;
  };
  keeps = λ fault may. c.walking.invariant.keeps fault (c.next.ensures.keeps fault may);
  back = λ is_met stands. c.walking.invariant.back is_met (c.next.ensures.back is_met stands);
  spends =
      let less = subst (λ (o : Option Entry). Spends (g.C.Cursor.budget c.walking.self.cursor) (g.C.Cursor.budget c.next.new.self) o)
      c.in-Some.is c.in_ok-entry.ensures.spends in
      omega (arith, less, c.walking.invariant.spends);
}

pub walking-preserved : goal.walking-preserved
walking-preserved g c = record {
  walked = λ j left are has fits told.
      let before = g.C.Cursor.left c.walking.self.cursor in
      let now = g.C.Cursor.left c.next.new.self in
      let e = c.in-Some.entry in
      let rules = subst (λ (r : Rules). AreRulesOf r j) (sym c.walking.invariant.rules) are in
      walks_on j _ c.walking.self.last before c.walking.found.items (c.walking.invariant.walked j left are has fits told)
      c.pass.new.last now c.pass.new.found.items e
      (subst (λ (o : Option Entry). Gives before now o) c.in-Some.is c.in_ok-entry.ensures.given)
      (subst (λ (b : Bool). Passes j (place_in c.walking.self.last) (place_in c.pass.new.last) e c.walking.found.items
      c.pass.new.found.items b)
      c.if-branch.false (c.in_ok-pass.ensures.passes j rules has (c.walking.invariant.fits fits)));
  rules = c.walking.invariant.rules;
  fits = λ fits. c.pass.ensures.fits (c.walking.invariant.fits fits);
  steady = record {
    sources = c.in_ok-pass.ensures.steady ∙ c.walking.invariant.steady.sources;
    files = c.in_ok-entry.ensures.cause ∙ c.walking.invariant.steady.files;
  };
  keeps = λ fault may. c.walking.invariant.keeps fault (c.next.ensures.keeps fault may);
  back = λ is_met stands. c.walking.invariant.back is_met (c.next.ensures.back is_met stands);
  spends =
      let less = subst (λ (o : Option Entry). Spends (g.C.Cursor.budget c.walking.self.cursor) (g.C.Cursor.budget c.next.new.self) o)
      c.in-Some.is c.in_ok-entry.ensures.spends in
      omega (arith, less, c.walking.invariant.spends);
}

pub returns-clause-next : goal.returns-clause-next
returns-clause-next g c = λ j left are has fits told.
    let before = g.C.Cursor.left c.walking.self.cursor in
    let now = g.C.Cursor.left c.next.new.self in
    gives_none j _ c.walking.self.last before c.walking.found.items (c.walking.invariant.walked j left are has fits told) now
    (subst (λ (o : Option Entry). Gives before now o) c.in_default.is c.in_ok-entry.ensures.given)

pub returns-then-branch-clause-reaches : goal.returns-then-branch-clause-reaches
returns-then-branch-clause-reaches g c = λ is_met met.
    c.walking.invariant.back is_met (c.in_ok-entry.ensures.reaches is_met (subst (IsReached is_met) (sym c.in-Some.is) met))

pub returns-clause-reaches : goal.returns-clause-reaches
returns-clause-reaches g c = λ is_met met.
    c.walking.invariant.back is_met (c.in_ok-entry.ensures.reaches is_met (subst (IsReached is_met) (sym c.in_default.is) met))
