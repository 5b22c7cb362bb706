-- Where a cursor over tables stops, step by step.
use Rattle.std.specs.declared.clone.Clone as Clone
use Rattle.vl_disk.specs.declared.reader.HeldFile as HeldFile
use Rattle.std.specs.Prelude.{◌≡◌, ℕ, true, List, [], ◌∷◌, ◌++◌, Option}
use Rattle.std.specs.List.{AllByRecursion}
use Rattle.std.proofs.Common.{ap, refl, sym, subst, ◌∙◌, append_assoc}
use Rattle.vl_disk.specs.declared.read_fault.ReadFault.{ReadFault}
use Rattle.vl_disk.specs.declared.read_fault.ReadFault.TheVariants.{NoMemory}
use Rattle.vl_model.specs.declared.entry.Entry.{Entry}
use Rattle.vl_model.specs.declared.span.Span.{Span}
use Rattle.vl_model.specs.declared.way.Way.{Way}
use Rattle.vl_table.specs.CursorLeft.{Begins, GoesOn, HasRead, unread}
use Rattle.vl_table.specs.CursorParts.{Block, MayFailOn, StandsWith, StopsBefore, rise_over}
use Rattle.vl_table.specs.CursorStops.{MayStop, MayStopOn, StopIn}
use Rattle.vl_table.specs.declared.cursor.TableCursor.{TableCursor}
use Rattle.vl_table.specs.declared.table.Table.{Table}

all_both : {X : Type 0} (P : X → Type 0) (xs ys : List X) → AllByRecursion P xs → AllByRecursion P ys → AllByRecursion P (xs ++ ys)
all_both P [] ys first second = second
all_both P (x ∷ xs) ys first second = (first.0, all_both P xs ys first.1 second)

module _ {H R : Type 0} {g : HeldFile.Ghosts H} {k : Clone.Ghosts H} (bytes_of : H → Option (List ℕ)) where
  -- want of memory stops it anywhere
  pub stops_memory : (c : TableCursor H R g k) → MayStop bytes_of c NoMemory
  stops_memory c = (tt, λ rises. record { read = []; rest = unread c; parts = refl; stood = tt; stops = tt })

  module _ (c d : TableCursor H R g k) (goes : GoesOn c d) (has : HasRead bytes_of c d) where
    -- what it stops at comes behind the blocks that it read
    pub stops_old : (fault : ReadFault) → MayFailOn bytes_of c.tables.items fault → StopsBefore bytes_of (unread d) fault
        → MayStop bytes_of c fault
    stops_old fault may stops =
        (may, λ rises. record { read = has.read; rest = unread d; parts = has.passed rises; stood = has.stood; stops = stops })

    pub stops_kept : (fault : ReadFault) → MayStop bytes_of d fault → MayStop bytes_of c fault
    stops_kept fault may = (
      subst (λ (ts : List (Table H)). MayFailOn bytes_of ts fault) (ap (λ v. v.items) goes.tables) may.0,
      λ rises. behind rises (may.1 ((λ i. rise_over (goes.span i) (goes.tables i).items) ∙ rises)),
    )
      where
        behind : rise_over c.span c.tables.items ≡ true → StopIn bytes_of (unread d) fault → StopIn bytes_of (unread c) fault
        behind rises f = record {
          read = has.read ++ f.read;
          rest = f.rest;
          parts = has.passed rises ∙ ap (λ (l : List (Block H)). has.read ++ l) f.parts
              ∙ sym (append_assoc has.read f.read f.rest);
          stood = all_both (λ b. (es : List Entry) × StandsWith bytes_of b es) has.read f.read has.stood f.stood;
          stops = f.stops;
        }

  -- from its beginning on
  pub stops_begun : (ts : List (Table H)) (s : Span) (w : Way) (c : TableCursor H R g k) → Begins ts s w c → (fault : ReadFault)
      → MayStop bytes_of c fault → MayStopOn bytes_of s w ts fault
  stops_begun ts s w c begins fault may = (
    subst (λ (l : List (Table H)). MayFailOn bytes_of l fault) begins.tables may.0,
    λ rises. subst (λ (bs : List (Block H)). StopIn bytes_of bs fault) begins.unread
        (may.1 ((λ i. rise_over (begins.span i) (begins.tables i)) ∙ rises)),
  )
