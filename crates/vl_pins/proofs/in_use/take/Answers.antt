use Rattle.std.proofs.Common.{rules, ◌≡◌, ◌∙◌, ap, sym, length, nat_lt, ℕ, List}
use Rattle.std.proofs.lemmas.Fn.{filter_same}
use Rattle.vl_pins.proofs.Taking.{fewer_left}
use Rattle.vl_pins.proofs.in_use.take.Goals as goal

pub returns-clause-numbers : goal.returns-clause-numbers
returns-clause-numbers c = filter_same _ _ _ (λ x b f' k. search rules) _ _ c.retain.ensures.filtered

pub returns-clause-was : goal.returns-clause-was
returns-clause-was c =
    ap (λ (n : ℕ). nat_lt n c.len-before.result) (c.len.ensures ∙ c.retain.new.self.ok.0 ∙ ap length (returns-clause-numbers c))
    ∙ ap (nat_lt _) (c.len-before.ensures ∙ c.args.numbers.now.ok.0) ∙ fewer_left c.args.number c.args.numbers.now.items
