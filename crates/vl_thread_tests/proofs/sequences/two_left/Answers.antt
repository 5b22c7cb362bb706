use denote.Exit.{no}
use denote.Param.Send.{arg_send, param_send}
use Rattle.vl_mem.proofs.held.MemHeld.TheSendSync as held
use Rattle.vl_mem.proofs.steady_writer.SteadyWriter.TheSendSync as writer
use Rattle.vl_mem.proofs.sure_disk.SureDisk.TheSendSync as disk
use Rattle.vl_mem.specs.SureDisk.{state_on}
use Rattle.vl_mem.specs.contracts.steady_reader.SteadyReader as reader
use Rattle.vlstore.proofs.Crosses.{note, sure_session}
use Rattle.vlstore.proofs.ShopKept.{crash_keeps}
use Rattle.vl_thread_tests.proofs.sequences.two_left.Goals as goal

pub two_given-requires-send-T-Shop : goal.two_given-requires-send-T-Shop
two_given-requires-send-T-Shop g c κs lives =
    param_send 2 _ (arg_send _ no _ (sure_session _ _ _ _ _ _ _ _ _ _ disk.the_send held.the_send held.the_sync writer.the_send))

pub two_given-requires-send-T-Shop-Note : goal.two_given-requires-send-T-Shop-Note
two_given-requires-send-T-Shop-Note g c κs lives =
    param_send 5 _ (arg_send _ no _ (note _ _ reader.the_row _ _ _ _ _ _ disk.the_send held.the_send held.the_sync writer.the_send))

pub returns-in-Ok : goal.returns-in-Ok
returns-in-Ok g c =
    let (h, held) = c.in_ok-first.ensures in (
      h,
      crash_keeps h (state_on c.into_disk-disk.result) _ (state_on c.in-Ok.disk) (c.into_disk-disk.ensures h held)
          c.in-Ok.ensures.left c.in-Ok.ensures.started,
    )
