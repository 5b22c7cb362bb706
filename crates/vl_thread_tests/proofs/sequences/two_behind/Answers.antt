use denote.Exit.{no}
use denote.Param.Send.{arg_send, param_send}
use Rattle.vl_mem.proofs.held.MemHeld.TheSendSync as held
use Rattle.vl_mem.proofs.steady_writer.SteadyWriter.TheSendSync as writer
use Rattle.vl_mem.proofs.sure_disk.SureDisk.TheSendSync as disk
use Rattle.vl_mem.specs.contracts.steady_reader.SteadyReader as reader
use Rattle.vlstore.proofs.Crosses.{note}
use Rattle.vl_thread_tests.proofs.sequences.two_behind.Goals as goal

pub next_two-requires-send-S-Note : goal.next_two-requires-send-S-Note
next_two-requires-send-S-Note g c κs lives =
    param_send 3 _ (arg_send _ no _ (note _ _ reader.the_row _ _ _ _ _ _ disk.the_send held.the_send held.the_sync writer.the_send))
