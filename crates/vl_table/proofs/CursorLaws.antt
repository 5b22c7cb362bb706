-- How what a cursor has left follows from its steps.
use Rattle.std.specs.declared.clone.Clone as Clone
use Rattle.vl_disk.specs.declared.reader.HeldFile as HeldFile
use Rattle.std.specs.Prelude.{◌≡◌, ◌+◌, ◌-◌, ℕ, Bool, true, List, [], ◌∷◌, ◌++◌, Option, Result, Ok, Err, OnErr}
use Rattle.std.specs.List.{AllByRecursion, slice_get}
use Rattle.std.proofs.Common.{ap, sym, subst, ◌∙◌, append_assoc}
use Rattle.vl_model.specs.Cursors.{Keeps}
use Rattle.vl_model.specs.declared.entry.Entry.{Entry}
use Rattle.vl_model.specs.EntryOrder.{within}
use Rattle.vl_table.specs.CursorLeft.{GoesOn, HasRead, ReadsNext, StaysIn, blocks_left, cursor_left, in_block, unread}
use Rattle.vl_table.specs.CursorParts.{Block, StandsWith, block_count, blocks_at, blocks_over, entries_told, rise_over}
use Rattle.vl_table.specs.Stretches.{on_way, stretch_of}
use Rattle.vl_table.specs.declared.cursor.TableCursor.{TableCursor}
use Rattle.vl_table.proofs.CursorSteps.{keeps_all, left_of, reads_in}

pub on_err_any : {T E : Type 0} (r : Result T E) (P : Type 0) → P → OnErr r P
on_err_any (Ok x) P p = tt
on_err_any (Err e) P p = p

all_behind : {X : Type 0} (P : X → Type 0) (xs : List X) (y : X) → AllByRecursion P xs → P y → AllByRecursion P (xs ++ y ∷ [])
all_behind P [] y all here = (here, tt)
all_behind P (x ∷ xs) y all here = (all.0, all_behind P xs y all.1 here)

module _ {H R : Type 0} {g : HeldFile.Ghosts H} {k : Clone.Ghosts H} where
  pub rise_same : (c d : TableCursor H R g k) → GoesOn c d → rise_over d.span d.tables.items ≡ rise_over c.span c.tables.items
  rise_same c d goes = λ i. rise_over (goes.span i) (goes.tables i).items

  pub goes_on : (c d e : TableCursor H R g k) → GoesOn c d → GoesOn d e → GoesOn c e
  goes_on c d e first second = record
      { tables = second.tables ∙ first.tables; span = second.span ∙ first.span; way = second.way ∙ first.way }

  pub unread_stays : (c d : TableCursor H R g k) → StaysIn c d → unread d ≡ unread c
  unread_stays c d s = λ i.
      blocks_at (s.goes.way i) (slice_get ((s.goes.tables i).items) (s.table i)) (s.blocks i)
      ++ blocks_over (s.goes.span i) (s.goes.way i) (on_way (s.goes.way i) (stretch_of (s.later i) ((s.goes.tables i).items)))

  pub blocks_stay : (c d : TableCursor H R g k) → StaysIn c d → blocks_left d ≡ blocks_left c
  blocks_stay c d s = λ i.
      ((s.blocks i).end - (s.blocks i).first) + block_count (on_way (s.goes.way i) (stretch_of (s.later i) ((s.goes.tables i).items)))

module _ {H R : Type 0} {g : HeldFile.Ghosts H} {k : Clone.Ghosts H} (bytes_of : H → Option (List ℕ)) where
  -- nothing is read or given
  pub keeps_step : (c d : TableCursor H R g k) → GoesOn c d → (rise_over c.span c.tables.items ≡ true → unread d ≡ unread c)
      → in_block d ≡ in_block c
      → Keeps (cursor_left bytes_of c) (cursor_left bytes_of d)
  keeps_step c d goes same here =
      let b = rise_over c.span c.tables.items in
      subst (λ (t : Bool). Keeps (cursor_left bytes_of c)
      (left_of t (in_block d) (entries_told bytes_of d.span d.way (unread d)))) (sym (rise_same c d goes))
      (keeps_all b (entries_told bytes_of c.span c.way (unread c)) (entries_told bytes_of d.span d.way (unread d)) (in_block c) (in_block d)
      (λ rises. sym (λ i. entries_told bytes_of (goes.span i) (goes.way i) (same rises i))) (sym here))

  -- a block is read
  pub keeps_read : (c d : TableCursor H R g k) → GoesOn c d → ReadsNext bytes_of c d → in_block c ≡ []
      → Keeps (cursor_left bytes_of c) (cursor_left bytes_of d)
  keeps_read c d goes next none =
      subst (Keeps (cursor_left bytes_of c))
      (λ i. left_of (sym (rise_same c d goes) i) (in_block d) (entries_told bytes_of (sym goes.span i) (sym goes.way i) (unread d)))
      (reads_in bytes_of c.span c.way (rise_over c.span c.tables.items) next.block (unread c) (unread d) next.entries
      (in_block c) (in_block d) next.passed next.stood none next.taken)

  -- a block is read later
  pub reads_later : (c d e : TableCursor H R g k) → GoesOn c d
      → (rise_over c.span c.tables.items ≡ true → unread d ≡ unread c) → ReadsNext bytes_of d e → ReadsNext bytes_of c e
  reads_later c d e goes same next = record {
    block = next.block;
    passed = λ rises. sym (same rises) ∙ next.passed (rise_same c d goes ∙ rises);
    entries = next.entries;
    stood = next.stood;
    taken = next.taken ∙ (λ i. within (goes.span i) (on_way (goes.way i) next.entries));
  }

  pub reads_none : (c d : TableCursor H R g k) → (rise_over c.span c.tables.items ≡ true → unread d ≡ unread c) → HasRead bytes_of c d
  reads_none c d same = record { read = []; passed = λ rises. sym (same rises); stood = tt }

  pub reads_on : (c d e : TableCursor H R g k) → GoesOn c d → HasRead bytes_of c d
      → (rise_over d.span d.tables.items ≡ true → unread e ≡ unread d) → HasRead bytes_of c e
  reads_on c d e goes has same = record {
    read = has.read;
    passed = λ rises. has.passed rises ∙ ap (λ (l : List (Block H)). has.read ++ l) (sym (same (rise_same c d goes ∙ rises)));
    stood = has.stood;
  }

  pub reads_one : (c d e : TableCursor H R g k) → GoesOn c d → HasRead bytes_of c d → ReadsNext bytes_of d e → HasRead bytes_of c e
  reads_one c d e goes has next = record {
    read = has.read ++ next.block ∷ [];
    passed = λ rises. has.passed rises ∙ ap (λ (l : List (Block H)). has.read ++ l) (next.passed (rise_same c d goes ∙ rises))
        ∙ sym (append_assoc has.read (next.block ∷ []) (unread e));
    stood = all_behind (λ b. (es : List Entry) × StandsWith bytes_of b es) has.read next.block has.stood (next.entries, next.stood);
  }
