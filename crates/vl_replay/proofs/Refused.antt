-- What a refusal puts.
use Rattle.std.proofs.Common.{inl, refl}
use Rattle.vl_io.specs.declared.sink.Sink as sink
use Rattle.vl_script_model.specs.Endings.{refusal_line}
use Rattle.vl_script_model.specs.Opening.{why_refused}
use Rattle.vl_script_model.specs.Steps.{EndsUnopened, Finishes}
use Rattle.vl_script_model.specs.declared.ending.Ending.{Ending}
use Rattle.vl_script_model.specs.declared.ending.Ending.TheVariants.{Refused}
use Rattle.vl_script_model.specs.declared.fails.Refusal.{Refusal}
use Rattle.vl_script_model.specs.declared.fails.Refusal.TheVariants.{NotAStore, NewerFormat, Damaged, Exhausted}

module _ {K : Type 0} (k : sink.Ghosts K) (old new : K) where
  pub refused_so : (refusal : Refusal) (result : Ending) → Finishes k old new (refusal_line refusal) (Refused refusal)
      result → EndsUnopened k old new (why_refused refusal) result
  refused_so NotAStore result finishes = (why_refused NotAStore, inl refl, (refusal_line NotAStore, refl, finishes))
  refused_so (NewerFormat format) result
      finishes = (why_refused (NewerFormat format), inl refl, (refusal_line (NewerFormat format), refl, finishes))
  refused_so (Damaged name place) result
      finishes = (why_refused (Damaged name place), inl refl, (refusal_line (Damaged name place), refl, finishes))
  refused_so (Exhausted counter) result
      finishes = (why_refused (Exhausted counter), inl refl, (refusal_line (Exhausted counter), refl, finishes))
