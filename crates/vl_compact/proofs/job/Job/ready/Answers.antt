use Rattle.std.proofs.Common.{None, Option, Some, true, false, refl, sym, subst, ◌∙◌, ◌≡◌, ap}
use Rattle.std.specs.Prelude.{unwrap_or}
use Rattle.vl_compact.proofs.Making.{ended_already, left_told, ready_more, ready_none, rules_of}
use Rattle.vl_compact.proofs.Passing.{begins}
use Rattle.vl_compact.specs.Keeps.{AreRulesOf}
use Rattle.vl_compact.specs.Progress.{IsNextOf, left_behind}
use Rattle.vl_compact.specs.declared.rules.Rules.{Rules}
use Rattle.vl_model.specs.Cursors.{IsReached}
use Rattle.vl_compact.proofs.job.Job.ready.Goals as goal

pub returns-then-self-clause-answers : goal.returns-then-self-clause-answers
returns-then-self-clause-answers g c = λ j fits h.
    ended_already g.W.Writer g.H.HeldFile.bytes g.V.Sources.has _ c.args.self.now j h c.if-self.true

pub returns-clause-answers : goal.returns-clause-answers
returns-clause-answers g c = λ j fits h.
    let W = g.W.Writer in
    let bytes = g.H.HeldFile.bytes in
    let has = g.V.Sources.has in
    let job = c.args.self.now in
    let k = c.in_ok-keeping.ensures in
    let left = left_behind j job.after in
    let rules = rules_of W bytes has job j h.is c.in_ok-keeping.keeping.rules k.inputs k.floor k.keep in
    let n = begins j c.in_ok-keeping.keeping.last c.next.new.self.last left c.new-found.result.items c.next.new.found.items _ (Some c.in-Some.first) _ k.first
    c.new-found.ensures.items c.in-Some.is
    (c.in_ok-first.ensures.next j left rules h.is.base fits (left_told W bytes has job j h.is _ k.left)) in
    ready_more W bytes has _ job j h _ (record {
      rules = subst (λ (r : Rules). AreRulesOf r j) (sym c.next.ensures.rules) rules;
      gives = n;
    })

pub returns-in_default-clause-answers : goal.returns-in_default-clause-answers
returns-in_default-clause-answers g c = λ j fits h.
    let W = g.W.Writer in
    let bytes = g.H.HeldFile.bytes in
    let has = g.V.Sources.has in
    let job = c.args.self.now in
    let k = c.in_ok-keeping.ensures in
    let left = left_behind j job.after in
    let rules = rules_of W bytes has job j h.is c.in_ok-keeping.keeping.rules k.inputs k.floor k.keep in
    let n = begins j c.in_ok-keeping.keeping.last c.next.new.self.last left c.new-found.result.items c.next.new.found.items _ None _ k.first
    c.new-found.ensures.items c.in_default.is
    (c.in_ok-first.ensures.next j left rules h.is.base fits (left_told W bytes has job j h.is _ k.left)) in
    ready_none W bytes has _ job j h c.next.new.self.last c.next.new.found.items _ n c.if-self.false c.append.new.self c.in_ok-append.ensures.items

-- up to where its inputs were read

pub returns-clause-next : goal.returns-clause-next
returns-clause-next g c = λ next is.
    subst (IsNextOf _ _ g.H.HeldFile.bytes c.args.self.now) (ap (λ (o : Option _). unwrap_or o next) is) (record {
      going = c.if-self.false;
      may_stop = λ fault may. c.in_ok-keeping.ensures.may_fail fault (c.next.ensures.keeps fault may);
      stands = λ is_met upward stands. c.in_ok-keeping.ensures.stands is_met upward (c.next.ensures.back is_met stands);
    })

pub returns-clause-whole : goal.returns-clause-whole
returns-clause-whole g c = λ going.
    c.in_ok-keeping.ensures.stands (λ e. true) (λ e f met le. met)
    (c.in_ok-first.ensures.reaches (λ e. true) (subst (IsReached (λ e. true)) (sym c.in-Some.is) refl))

pub returns-in_default-clause-whole : goal.returns-in_default-clause-whole
returns-in_default-clause-whole g c = λ going.
    c.in_ok-keeping.ensures.stands (λ e. false) (λ e f met le. met)
    (c.in_ok-first.ensures.reaches (λ e. false) (subst (IsReached (λ e. false)) (sym c.in_default.is) tt))

pub returns-then-self-clause-whole : goal.returns-then-self-clause-whole
returns-then-self-clause-whole g c = λ going. absurd (let both : true ≡ false = sym c.if-self.true ∙ going in cc)

pub returns-in_default-clause-read : goal.returns-in_default-clause-read
returns-in_default-clause-read g c = λ read. record {
  on = read.on;
  rest = λ ended. c.in_ok-keeping.ensures.stands (λ e. false) (λ e f met le. met)
      (c.in_ok-first.ensures.reaches (λ e. false) (subst (IsReached (λ e. false)) (sym c.in_default.is) tt));
}

pub returns-in_err-append-clause-read : goal.returns-in_err-append-clause-read
returns-in_err-append-clause-read g c = λ read. record { on = read.on; rest = read.rest }
