use Rattle.std.proofs.Common.{refl}
use Rattle.vl_script_model.specs.Endings.{no_memory_line}
use Rattle.vl_prog.proofs.command_line.refuse_without_words.Goals as goal

pub returns : goal.returns
returns g c = (c.finish.result, c.status.ensures, (no_memory_line, refl, c.finish.ensures))
