use Rattle.std.proofs.Common.{Option, Some, inl, subst, sym, ◌∙◌}
use Rattle.vl_compact.proofs.Adding.{adding_closes, adding_ends, adding_goes, is_up}
use Rattle.vl_compact.proofs.Failing.{passed_on, reads_later}
use Rattle.vl_compact.specs.Keeps.{AreRulesOf, GivesNext, stage}
use Rattle.vl_compact.specs.Walking.{is_behind}
use Rattle.vl_compact.specs.declared.rules.Rules.{Rules}
use Rattle.vl_model.specs.Cursors.{IsReached}
use Rattle.vl_model.specs.declared.entry.Entry.{Entry}
use Rattle.vl_compact.proofs.fill.add_kept.Goals as goal

pub returns-then-closes-clause-adds : goal.returns-then-closes-clause-adds
returns-then-closes-clause-adds g c = λ j left are has fits told along written.
    let now = g.C.Cursor.left c.next.new.self.cursor in
    let last = c.next.new.self.last in
    let found = c.next.new.found.items in
    let so = c.adding.invariant.adding j left are has fits told along written in
    let rules = subst (λ (r : Rules). AreRulesOf r j) (sym c.adding.invariant.rules) are in
    let n = subst (λ (o : Option Entry). GivesNext j (stage c.adding.keeping.last so.rest c.adding.found.items) last now
    found o) c.in-Some.is
    (c.in_ok-entry.ensures.next j so.rest rules has (c.adding.invariant.fits fits) so.left_is) in
    let up = is_up g.W.Writer j c.args.first (stage c.args.keeping.now.last left c.args.found.now.items) c.adding.lent c.adding.table
    c.adding.last c.adding.keeping.last (g.C.Cursor.left c.adding.keeping.cursor) c.adding.found.items so last now found
    c.in-Some.entry n in
    let is = c.closes.ensures.closes c.adding.lent.number so.all so.written.given so.written.writing (so.last_is ∙ sym so.ends) up in
    adding_closes g.W.Writer j c.args.first (stage c.args.keeping.now.last left c.args.found.now.items) c.adding.lent c.adding.table
    c.adding.last c.adding.keeping.last (g.C.Cursor.left c.adding.keeping.cursor) c.adding.found.items so last now found
    c.in-Some.entry n (sym is ∙ c.if-closes.true)

pub adding-preserved-in_ok-add : goal.adding-preserved-in_ok-add
adding-preserved-in_ok-add g c = record {
  adding = λ j left are has fits told along written.
      let now = g.C.Cursor.left c.next.new.self.cursor in
      let last = c.next.new.self.last in
      let found = c.next.new.found.items in
      let so = c.adding.invariant.adding j left are has fits told along written in
      let rules = subst (λ (r : Rules). AreRulesOf r j) (sym c.adding.invariant.rules) are in
      let n = subst (λ (o : Option Entry). GivesNext j (stage c.adding.keeping.last so.rest c.adding.found.items) last
      now found o) c.in-Some.is
      (c.in_ok-entry.ensures.next j so.rest rules has (c.adding.invariant.fits fits) so.left_is) in
      let up = is_up g.W.Writer j c.args.first (stage c.args.keeping.now.last left c.args.found.now.items) c.adding.lent c.adding.table
      c.adding.last c.adding.keeping.last (g.C.Cursor.left c.adding.keeping.cursor) c.adding.found.items so last now found
      c.in-Some.entry n in
      let is = c.closes.ensures.closes c.adding.lent.number so.all so.written.given so.written.writing (so.last_is ∙ sym so.ends) up in
      adding_goes g.W.Writer j c.args.first (stage c.args.keeping.now.last left c.args.found.now.items) c.adding.lent c.adding.table
      c.adding.last c.adding.keeping.last (g.C.Cursor.left c.adding.keeping.cursor) c.adding.found.items so last now
      found c.in-Some.entry n c.add.new.lent c.add.new.table
      (sym is ∙ c.if-closes.false) (c.in_ok-add.ensures.added so.all so.written);
  rules = c.next.ensures.rules ∙ c.adding.invariant.rules;
  number = c.add.ensures.number ∙ c.adding.invariant.number;
  tells = λ told. c.add.ensures.tells (c.adding.invariant.tells told);
  fits = λ fits. c.next.ensures.fits (c.adding.invariant.fits fits);
  steady = record {
    sources = c.in_ok-entry.ensures.steady.sources ∙ c.adding.invariant.steady.sources;
    files = c.in_ok-entry.ensures.steady.files ∙ c.adding.invariant.steady.files;
  };
  kept = c.in_ok-add.ensures.steady ∙ c.adding.invariant.kept;
  keeps = λ fault may. c.adding.invariant.keeps fault (c.next.ensures.keeps fault may);
  back = λ is_met stands. c.adding.invariant.back is_met (c.next.ensures.back is_met stands);
  ends = λ begun. c.in_ok-add.ensures.ends c.adding.last (c.adding.invariant.ends begun);
}

pub adding-preserved-in_ok-add-2 : goal.adding-preserved-in_ok-add-2
adding-preserved-in_ok-add-2 g c = record {
  adding = λ j left are has fits told along written.
      let now = g.C.Cursor.left c.next.new.self.cursor in
      let last = c.next.new.self.last in
      let found = c.next.new.found.items in
      let so = c.adding.invariant.adding j left are has fits told along written in
      let rules = subst (λ (r : Rules). AreRulesOf r j) (sym c.adding.invariant.rules) are in
      let n = subst (λ (o : Option Entry). GivesNext j (stage c.adding.keeping.last so.rest c.adding.found.items) last
      now found o) c.in-Some.is
      (c.in_ok-entry.ensures.next j so.rest rules has (c.adding.invariant.fits fits) so.left_is) in
      let up = is_up g.W.Writer j c.args.first (stage c.args.keeping.now.last left c.args.found.now.items) c.adding.lent c.adding.table
      c.adding.last c.adding.keeping.last (g.C.Cursor.left c.adding.keeping.cursor) c.adding.found.items so last now found
      c.in-Some.entry n in
      let is = c.closes.ensures.closes c.adding.lent.number so.all so.written.given so.written.writing (so.last_is ∙ sym so.ends) up in
      adding_goes g.W.Writer j c.args.first (stage c.args.keeping.now.last left c.args.found.now.items) c.adding.lent c.adding.table
      c.adding.last c.adding.keeping.last (g.C.Cursor.left c.adding.keeping.cursor) c.adding.found.items so last now
      found c.in-Some.entry n c.add.new.lent c.add.new.table
      (sym is ∙ c.if-closes.false) (c.in_ok-add.ensures.added so.all so.written);
  rules = c.next.ensures.rules ∙ c.adding.invariant.rules;
  number = c.add.ensures.number ∙ c.adding.invariant.number;
  tells = λ told. c.add.ensures.tells (c.adding.invariant.tells told);
  fits = λ fits. c.next.ensures.fits (c.adding.invariant.fits fits);
  steady = record {
    sources = c.in_ok-entry.ensures.steady.sources ∙ c.adding.invariant.steady.sources;
    files = c.in_ok-entry.ensures.steady.files ∙ c.adding.invariant.steady.files;
  };
  kept = c.in_ok-add.ensures.steady ∙ c.adding.invariant.kept;
  keeps = λ fault may. c.adding.invariant.keeps fault (c.next.ensures.keeps fault may);
  back = λ is_met stands. c.adding.invariant.back is_met (c.next.ensures.back is_met stands);
  ends = λ begun. c.in_ok-add.ensures.ends c.adding.last (c.adding.invariant.ends begun);
}

pub adding-preserved : goal.adding-preserved
adding-preserved g c = record {
  adding = λ j left are has fits told along written.
      let now = g.C.Cursor.left c.next.new.self.cursor in
      let last = c.next.new.self.last in
      let found = c.next.new.found.items in
      let so = c.adding.invariant.adding j left are has fits told along written in
      let rules = subst (λ (r : Rules). AreRulesOf r j) (sym c.adding.invariant.rules) are in
      let n = subst (λ (o : Option Entry). GivesNext j (stage c.adding.keeping.last so.rest c.adding.found.items) last
      now found o) c.in-Some.is
      (c.in_ok-entry.ensures.next j so.rest rules has (c.adding.invariant.fits fits) so.left_is) in
      let up = is_up g.W.Writer j c.args.first (stage c.args.keeping.now.last left c.args.found.now.items) c.adding.lent c.adding.table
      c.adding.last c.adding.keeping.last (g.C.Cursor.left c.adding.keeping.cursor) c.adding.found.items so last now found
      c.in-Some.entry n in
      let is = c.closes.ensures.closes c.adding.lent.number so.all so.written.given so.written.writing (so.last_is ∙ sym so.ends) up in
      adding_goes g.W.Writer j c.args.first (stage c.args.keeping.now.last left c.args.found.now.items) c.adding.lent c.adding.table
      c.adding.last c.adding.keeping.last (g.C.Cursor.left c.adding.keeping.cursor) c.adding.found.items so last now
      found c.in-Some.entry n c.add.new.lent c.add.new.table
      (sym is ∙ c.if-closes.false) (c.in_ok-add.ensures.added so.all so.written);
  rules = c.next.ensures.rules ∙ c.adding.invariant.rules;
  number = c.add.ensures.number ∙ c.adding.invariant.number;
  tells = λ told. c.add.ensures.tells (c.adding.invariant.tells told);
  fits = λ fits. c.next.ensures.fits (c.adding.invariant.fits fits);
  steady = record {
    sources = c.in_ok-entry.ensures.steady.sources ∙ c.adding.invariant.steady.sources;
    files = c.in_ok-entry.ensures.steady.files ∙ c.adding.invariant.steady.files;
  };
  kept = c.in_ok-add.ensures.steady ∙ c.adding.invariant.kept;
  keeps = λ fault may. c.adding.invariant.keeps fault (c.next.ensures.keeps fault may);
  back = λ is_met stands. c.adding.invariant.back is_met (c.next.ensures.back is_met stands);
  ends = λ begun. c.in_ok-add.ensures.ends c.adding.last (c.adding.invariant.ends begun);
}

pub returns-clause-adds : goal.returns-clause-adds
returns-clause-adds g c = λ j left are has fits told along written.
    let now = g.C.Cursor.left c.next.new.self.cursor in
    let last = c.next.new.self.last in
    let found = c.next.new.found.items in
    let so = c.adding.invariant.adding j left are has fits told along written in
    let rules = subst (λ (r : Rules). AreRulesOf r j) (sym c.adding.invariant.rules) are in
    let n = subst (λ (o : Option Entry). GivesNext j (stage c.adding.keeping.last so.rest c.adding.found.items) last now
    found o) c.in_default.is
    (c.in_ok-entry.ensures.next j so.rest rules has (c.adding.invariant.fits fits) so.left_is) in
    adding_ends g.W.Writer j c.args.first (stage c.args.keeping.now.last left c.args.found.now.items) c.adding.lent c.adding.table
    c.adding.last c.adding.keeping.last (g.C.Cursor.left c.adding.keeping.cursor) c.adding.found.items so last now found n

-- up to where it was read

pub returns-then-closes-clause-reads : goal.returns-then-closes-clause-reads
returns-then-closes-clause-reads g c = λ begun.
    let is_met = is_behind (Some c.adding.last) in
    record {
      key = c.adding.last;
      ends = c.adding.invariant.ends begun;
      read = c.adding.invariant.back is_met (c.in_ok-entry.ensures.reaches is_met
          (subst (IsReached is_met) (sym c.in-Some.is) (c.closes.ensures.behind c.if-closes.true)));
    }

pub returns-clause-reads : goal.returns-clause-reads
returns-clause-reads g c = λ begun.
    let is_met = is_behind (Some c.adding.last) in
    record {
      key = c.adding.last;
      ends = c.adding.invariant.ends begun;
      read = c.adding.invariant.back is_met (c.in_ok-entry.ensures.reaches is_met (subst (IsReached is_met) (sym c.in_default.is) tt));
    }

-- why it wasn't read on

pub returns-in_err-entry-clause-cause : goal.returns-in_err-entry-clause-cause
returns-in_err-entry-clause-cause g c =
    let base = c.args.base.now in
    let inv = c.adding.invariant in
    passed_on _ c.from_residual.result _ c.from_residual.ensures.1
    (inl (
      reads_later (λ l. g.V.Sources.faults l) (λ r. g.C.Cursor.faults r) (λ f. g.V.Sources.is_read_fault f)
          (λ f. g.C.Cursor.is_read_fault f) c.args.reader.now c.adding.reader c.next.new.reader inv.steady
          (g.V.Sources.fits base c.args.reader.now.looks) (g.V.Sources.fits base c.adding.reader.looks) (g.V.Sources.may_fail base)
          (g.C.Cursor.may_fail c.args.keeping.now.cursor) (g.C.Cursor.may_fail c.adding.keeping.cursor) inv.fits inv.keeps _
          c.in_err-entry.ensures.cause,
      inv.kept,
    ))
