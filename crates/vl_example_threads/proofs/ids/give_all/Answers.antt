use denote.Exit.{no}
use denote.Param.{param}
use denote.Param.Send.{arg_send, param_send}
use Rattle.vl_example_threads.proofs.ids.give_all.Goals as goal
use Rattle.vlstore.proofs.Crosses as sessions

pub map_vec-requires-send-J : goal.map_vec-requires-send-J
map_vec-requires-send-J g c κs within =
    let it = sessions.session (param 0 g.row.D) (param 2 g.row.D-Held) (param 3 g.row.D-Reader) (param 4 g.row.D-Writer)
    g.D.Watched g.D.Held.HeldFile g.D.Held.Clone g.D.Reader.Reader g.D.Writer.Writer g.D.Disk
    c.type_bounds.send-D c.type_bounds.send-D-Held c.type_bounds.sync-D-Held c.type_bounds.send-D-Writer in
    param_send 1 _ (arg_send _ no _ it)
