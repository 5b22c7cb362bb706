use Rattle.std.specs.Prelude.{Option}
use Rattle.std.specs.Option.{option_copied}
use Rattle.std.proofs.Common.{◌∙◌, List, ℕ, ap, sym}
use Rattle.vl_compact.proofs.Finding.{before_none}
use Rattle.vl_compact.proofs.Zips.{zip_length}
use Rattle.vl_compact.specs.Laid.{IsTableOf}
use Rattle.vl_compact.specs.Places.{place_before}
use Rattle.vl_compact.proofs.replace.place_before.Goals as goal

pub returns-in-Some : goal.returns-in-Some
returns-in-Some g c = λ ts are.
    c.ending_before.ensures ts are ∙ sym (ap (λ (o : Option (List ℕ)). place_before o ts) (ap option_copied c.in-Some.is))

pub returns-in-None : goal.returns-in-None
returns-in-None g c = λ ts are.
    zip_length (IsTableOf g.H.HeldFile.bytes) c.args.tables.now ts are ∙ before_none ts
    ∙ sym (ap (λ (o : Option (List ℕ)). place_before o ts) (ap option_copied c.in-None.is))
