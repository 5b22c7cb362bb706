use Rattle.std.proofs.Common.{◌≡◌, true, false, refl, sym, ap, ◌∙◌, Some, List, ℕ}
use Rattle.std.proofs.lemmas.Map.Text.{is_eq-slice_cmp}
use Rattle.vl_model.specs.laws.WinnerLaws.{same_key}
use Rattle.vl_table.specs.body.Entries.{entry_of}
use Rattle.vl_table.specs.body.Founds.{found_of}
use Rattle.vl_model.specs.laws.Lookup.{of_key}
use Rattle.vl_table.proofs.entries.scan_at.Goals as goal

pub returns-then-eq : goal.returns-then-eq
returns-then-eq c =
    let e = entry_of c.args.entry.now in
    let key = c.args.key.now in
    let keys : key ≡ e.key = same_key key e.key (is_eq-slice_cmp key e.key ∙ sym c.eq.ensures ∙ c.if-eq.true) in
    let is : e ≡ found_of key c.of.result = sym c.of.ensures ∙ ap (λ (k : List ℕ). found_of k c.of.result) (sym keys) in
    (ap Some is, of_key key 0 e true (sym c.eq.ensures ∙ c.if-eq.true) ∙ ap Some is)

pub returns-else-eq : goal.returns-else-eq
returns-else-eq c =
    let e = entry_of c.args.entry.now in
    (e, refl, of_key c.args.key.now 0 e false (sym c.eq.ensures ∙ c.if-eq.false))
