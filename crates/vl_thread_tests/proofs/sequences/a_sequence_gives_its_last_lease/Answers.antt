use denote.Exit.{no}
use denote.Param.Send.{arg_send, param_send}
use Rattle.vl_mem.proofs.held.MemHeld.TheSendSync as held
use Rattle.vl_mem.proofs.steady_writer.SteadyWriter.TheSendSync as writer
use Rattle.vl_mem.proofs.sure_disk.SureDisk.TheSendSync as disk
use Rattle.vl_mem.specs.contracts.steady_reader.SteadyReader as reader
use Rattle.vlstore.proofs.Crosses.{note, sure_session}
use Rattle.vl_thread_tests.proofs.sequences.a_sequence_gives_its_last_lease.Goals as goal

pub is_spent_behind-spent-requires-send-T-Shop : goal.is_spent_behind-spent-requires-send-T-Shop
is_spent_behind-spent-requires-send-T-Shop g c κs =
    param_send 2 _ (arg_send _ no _ (sure_session _ _ _ _ _ _ _ _ _ _ disk.the_send held.the_send held.the_sync writer.the_send))

pub is_spent_behind-spent-requires-send-T-Shop-Note : goal.is_spent_behind-spent-requires-send-T-Shop-Note
is_spent_behind-spent-requires-send-T-Shop-Note g c κs =
    param_send 5 _ (arg_send _ no _ (note _ _ reader.the_row _ _ _ _ _ _ disk.the_send held.the_send held.the_sync writer.the_send))
