use denote.Exit.{no}
use denote.Param.{param}
use denote.Param.Send.{arg_send, param_send}
use Rattle.vl_thread_tests.proofs.notes.exchange.Goals as goal
use Rattle.vlstore.proofs.Crosses as crosses

pub told-requires-send-C : goal.told-requires-send-C
told-requires-send-C g c κs within =
    let it = crosses.session (param 0 g.row.D) (param 2 g.row.D-Held) (param 3 g.row.D-Reader) (param 4 g.row.D-Writer)
    g.D.Watched g.D.Held.HeldFile g.D.Held.Clone g.D.Reader.Reader g.D.Writer.Writer g.D.Disk
    c.type_bounds.send-D c.type_bounds.send-D-Held c.type_bounds.sync-D-Held c.type_bounds.send-D-Writer in
    param_send 0 _ (arg_send _ no _ it)

pub told-requires-send-C-Note : goal.told-requires-send-C-Note
told-requires-send-C-Note g c κs within =
    let it = crosses.note (param 0 g.row.D) (param 2 g.row.D-Held) (param 3 g.row.D-Reader) (param 4 g.row.D-Writer)
    g.D.Watched g.D.Held.HeldFile g.D.Held.Clone g.D.Reader.Reader g.D.Writer.Writer
    c.type_bounds.send-D c.type_bounds.send-D-Held c.type_bounds.sync-D-Held c.type_bounds.send-D-Writer in
    param_send 2 _ (arg_send _ no _ it)
