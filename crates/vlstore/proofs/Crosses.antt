-- A session may go to another thread where its disk may, and what the disk lends. `search` meets its limits there, so it is proved field by field.
use denote.RattleType.{RattleType}
use denote.Param.Send.{IsSend, IsSync, sendable}
use mathlib.Core.List.{[], ◌∷◌}
use mir.Syntax.{Sym}
use denote.Struct.Field.{row_field}
use denote.Struct.Tuple.{TupleAt, type_at}
use denote.Param.SendFields.{declared_send, as_row_send}
use Rattle.std.proofs.Common.{rules}
use Rattle.std.proofs.Crossing.{crosses}
use Rattle.atomic_table.proofs.shared.Seat.TheSendSync as seat
use Rattle.vl_back.proofs.back.Back.TheSendSync as back
use Rattle.vl_conflict.proofs.tree.Tree.TheLaws.TheKnot as knot
use Rattle.vl_conflict.specs.contracts.recent.Recent as Recent
use Rattle.vl_engine_laws.specs.contracts.kept.Core as Core
use Rattle.vl_disk.proofs.name.Name.TheSendSync as name
use Rattle.vl_compact.proofs.files.Lent.TheSendSync as lent
use Rattle.vl_space.proofs.kept.Collecting.TheSendSync as collecting
use Rattle.vl_engine_laws.proofs.open.OpenMerge.TheSendSync as merge
use Rattle.vl_space.proofs.kept.Removing.TheSendSync as removing
use Rattle.std.specs.contracts.option.Option as Option
use Rattle.vl_engine_laws.specs.contracts.open.OpenMerge as OpenMerge
use Rattle.vl_engine.specs.contracts.engine.Engine as Engine
use Rattle.vlstore.specs.contracts.note.Note as Note
use Rattle.vlstore.specs.contracts.session.Session as Session
use Rattle.vlstore.specs.contracts.shop.SureSession as SureSession
use Rattle.vlstore.specs.contracts.locked.Locked as Locked
use Rattle.vl_turn.proofs.lock.TurnLock.TheSendSync as lock
use Rattle.vl_disk.specs.declared.disk.Disk as Disk
use Rattle.vl_disk.specs.declared.watched.Watched as Watched
use Rattle.vl_disk.specs.declared.reader.HeldFile as HeldFile
use Rattle.vl_disk.specs.declared.reader.Reader as Reader
use Rattle.vl_disk.specs.declared.writer.Writer as Writer
use Rattle.std.specs.declared.clone.Clone as Clone
use Rattle.vl_front.specs.contracts.front.Front as Front
use Rattle.vl_oracle.proofs.oracle.Oracle.TheSendSync as oracle
use Rattle.vl_seglog.proofs.active.ActiveLog.TheSendSync as active
use Rattle.vl_version.proofs.version.Version.TheSendSync as version

recent : IsSend Recent.the_row
recent = search (sendable, crosses, knot.send-Tree, knot.send-Node) depth 30

front : IsSend Front.the_row
front = declared_send Front.the_type (oracle.the_send, (recent, (active.the_send, (search sendable, (search (rules, sendable, crosses, name.the_send) depth 20, tt)))))

module _ (H : RattleType) (h : HeldFile.Ghosts H.Denot) (c : Clone.Ghosts H.Denot) (s : IsSend H) (y : IsSync H) where
  pub core : IsSend (Core.the_row H h c)
  core = declared_send (Core.the_type H h c) (version.the_send H h c s y, (front, (back.the_send, tt)))

merging : IsSend (Option.the_row OpenMerge.the_row)
merging = search (rules, sendable, crosses, merge.the_send) depth 20

module _ (D H R W : RattleType) (w : Watched.Ghosts D.Denot) (h : HeldFile.Ghosts H.Denot) (c : Clone.Ghosts H.Denot) (r : Reader.Ghosts R.Denot H.Denot) (x : Writer.Ghosts W.Denot) where
  pub engine : IsSend D → IsSend H → IsSync H → IsSend W → IsSend (Engine.the_row D H R W w h c r x)
  engine d s y e = declared_send (Engine.the_type D H R W w h c r x)
      (search (sendable, crosses), (as_row_send (row_field D) d, (core H h c s y, (merging, (collecting.the_send, (removing.the_send _ (lent.the_send W x e), tt))))))

  locked : IsSend D → IsSend H → IsSync H → IsSend W → IsSend (Locked.the_row D H R W w h c r x)
  locked d s y e = declared_send (Locked.the_type D H R W w h c r x) (engine d s y e, (search (sendable, seat.the_send), tt))

  pub session : (k : Disk.Ghosts D.Denot H.Denot R.Denot W.Denot) → IsSend D → IsSend H → IsSync H → IsSend W → IsSend (Session.the_row D H R W w h c r x k)
  session k d s y e = let l = locked d s y e in search (sendable, crosses, lock.the_send, lock.the_sync, seat.the_send) depth 20

  -- what a session had seen, and a session over a disk that never fails
  pub note : IsSend D → IsSend H → IsSync H → IsSend W → IsSend (Note.the_row D H R W w h c r x)
  note d s y e = let l = locked d s y e in search (sendable, crosses, seat.the_send) depth 20

  pub sure_session : (k : Disk.Ghosts D.Denot H.Denot R.Denot W.Denot) → IsSend D → IsSend H → IsSync H → IsSend W
      → IsSend (SureSession.the_row D H R W k w h c r x)
  sure_session k d s y e = declared_send (SureSession.the_type D H R W k w h c r x) (session k d s y e, tt)

-- a pair goes where both do
pub pair : (name : Sym) (T S : RattleType) → IsSend T → IsSend S → IsSend (TupleAt name (T ∷ S ∷ []))
pair name T S t s = declared_send (type_at name (T ∷ S ∷ [])) (as_row_send (row_field T) t, (as_row_send (row_field S) s, tt))
