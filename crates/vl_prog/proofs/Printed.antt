-- How a run ends that prints lines and nothing else.
use Rattle.std.proofs.Common.{⊎_elim, ℕ, List}
use Rattle.vl_io.specs.declared.sink.Sink as sink
use Rattle.vl_prog.specs.Run.{PrintsLines}
use Rattle.vl_script_model.specs.Endings.{no_memory_line}
use Rattle.vl_script_model.specs.Steps.{Finishes}
use Rattle.vl_script_model.specs.declared.ending.Ending.{Ending}
use Rattle.vl_script_model.specs.declared.ending.Ending.TheVariants.{Complete, NoMemory, WriteFault}
use Rattle.vl_script_model.specs.laws.Ends.{or_cut}

-- with the lines or the line of want of memory put whole, or with the sink's fault
pub lines_end : {K : Type 0} (k : sink.Ghosts K) (Tells : List ℕ → Type 0) (old new : K) (result : Ending) (P : Ending → Type 0)
    → PrintsLines k Tells old new result → P Complete → P NoMemory → P WriteFault → P result
lines_end k Tells old new result P prints whole out cut = ⊎_elim
    (λ (f : (text : List ℕ) × Tells text × Finishes k old new text Complete result).
    or_cut k old new f.0 Complete result P f.2 whole cut)
    (λ (f : Finishes k old new no_memory_line NoMemory result). or_cut k old new no_memory_line NoMemory result P f out cut)
    prints
