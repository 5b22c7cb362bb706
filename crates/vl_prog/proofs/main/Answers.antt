use denote.Exit.{no}
use denote.Param.Send.{arg_send, param_send}
use Rattle.vl_mem.proofs.held.MemHeld.TheSendSync as held
use Rattle.vl_mem.proofs.steady_writer.SteadyWriter.TheSendSync as writer
use Rattle.vl_mem.proofs.sure_disk.SureDisk.TheSendSync as disk
use Rattle.vl_mem.specs.contracts.steady_reader.SteadyReader as reader
use Rattle.vlstore.proofs.Crosses.{note, sure_session}
use Rattle.vl_prog.proofs.main.Goals as goal

-- the sessions of clients go to threads of their own, and so do notes
pub serve-disk-requires-send-T-Shop : goal.serve-disk-requires-send-T-Shop
serve-disk-requires-send-T-Shop g c κs within =
    param_send 6 _ (arg_send _ no _ (sure_session _ _ _ _ _ _ _ _ _ _ disk.the_send held.the_send held.the_sync writer.the_send))

pub serve-disk-requires-send-T-Shop-Note : goal.serve-disk-requires-send-T-Shop-Note
serve-disk-requires-send-T-Shop-Note g c κs within =
    param_send 9 _ (arg_send _ no _ (note _ _ reader.the_row _ _ _ _ _ _ disk.the_send held.the_send held.the_sync writer.the_send))
