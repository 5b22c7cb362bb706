-- What a file has once pieces of a table were put behind its end.
use Rattle.std.proofs.Common.{◌≡◌, ℕ, Bool, true, false, not, ◌&&◌, List, [], ◌∷◌, ◌++◌, refl, ap, sym, subst, ◌∙◌, append_assoc, Some}
use Rattle.std.specs.Option.{ForSome}
use Rattle.std.specs.Ordering.{eq_by_cmp, is_eq, is_gt, is_lt}
use Rattle.std.specs.Prelude.{nat_le}
use Rattle.std.specs.declared.cmp.Ordering.{Ordering}
use Rattle.std.specs.declared.cmp.Ordering.TheVariants.{Less, Equal, Greater}
use Rattle.vl_table.specs.body.Bytes.{table_bytes}
use Rattle.vl_model.specs.Cutting.{last_key}
use Rattle.vl_table.specs.body.Footer.{Foot}
use Rattle.vl_table.specs.body.Shapes.{IsShapeOf}
use Rattle.vl_table.specs.declared.body.shape.TableShape.{TableShape}
use Rattle.vl_compact.specs.Filling.{IsWhole, IsWrittenTo}
use Rattle.vl_compact.specs.FirstTable.{closes, frames_length}
use Rattle.vl_compact.specs.Walking.{is_behind}
use Rattle.vl_compact.specs.declared.files.Lent.{Lent}
use Rattle.vl_disk.specs.declared.writer.Writer.{Ghosts}
use Rattle.vl_engine_model.specs.Tables.{full_table_bytes}
use Rattle.vl_model.specs.Formats.{table_format}
use Rattle.vl_model.specs.Keys.{key_cmp}
use Rattle.vl_model.specs.declared.entry.Entry.{Entry}
use Rattle.vl_table.specs.writer.Tails.{IsTail, tail_bytes}
use Rattle.vl_table.specs.writer.Writing.{Appended, IsWriting}
use Rattle.vl_table.specs.declared.writer.tail.Tail.{Tail}
use Rattle.vl_table.specs.declared.writer.table_writer.TableWriter.{TableWriter}

-- four pieces in pairs, and a fifth, are one behind the other
pub regroup : (given a b c d e : List ℕ) → ((given ++ (a ++ b)) ++ (c ++ d)) ++ e ≡ given ++ (a ++ (b ++ (c ++ (d ++ e))))
regroup given a b c d e =
    append_assoc (given ++ (a ++ b)) (c ++ d) e ∙ append_assoc given (a ++ b) ((c ++ d) ++ e)
    ∙ ap (λ l. given ++ l) (append_assoc a b ((c ++ d) ++ e) ∙ ap (λ l. a ++ (b ++ l)) (append_assoc c d e))

pub five : (a a' b b' c c' d d' e : List ℕ) → a ≡ a' → b ≡ b' → c ≡ c' → d ≡ d'
    → a ++ (b ++ (c ++ (d ++ e))) ≡ a' ++ (b' ++ (c' ++ (d' ++ e)))
five a a' b b' c c' d d' e is_a is_b is_c is_d =
    ap (λ l. l ++ (b ++ (c ++ (d ++ e)))) is_a ∙ ap (λ l. a' ++ (l ++ (c ++ (d ++ e)))) is_b
    ∙ ap (λ l. a' ++ (b' ++ (l ++ (d ++ e)))) is_c ∙ ap (λ l. a' ++ (b' ++ (c' ++ (l ++ e)))) is_d

-- whether a table is closed, where an entry is of a greater key
pub closes_full : (es : List Entry) (e : Entry) (k : List ℕ) → k ≡ last_key es → (b : Bool) → b ≡ is_behind (Some k) e → b ≡ true
    → (full : Bool) → full ≡ nat_le full_table_bytes (frames_length es) → full ≡ closes es e
closes_full es e k last b is behind full full_is =
    full_is
    ∙ ap (λ x. x && nat_le full_table_bytes (frames_length es))
    (sym (ap (λ x. not (eq_by_cmp key_cmp x e.key)) (sym last) ∙ apart (key_cmp k e.key) (sym is ∙ behind)))
  where
    apart : (r : Ordering) → is_lt r ≡ true → not (is_eq r) ≡ true
    apart Less less = refl
    apart Equal less = absurd cc
    apart Greater less = absurd cc

-- and it isn't where it is of the same one
pub stays_open : (es : List Entry) (e : Entry) (k : List ℕ) → k ≡ last_key es → (b : Bool) → b ≡ is_behind (Some k) e → b ≡ false
    → is_gt (key_cmp k e.key) ≡ false → false ≡ closes es e
stays_open es e k last b is short up =
    sym (ap (λ x. x && nat_le full_table_bytes (frames_length es))
    (ap (λ x. not (eq_by_cmp key_cmp x e.key)) (sym last) ∙ same (key_cmp k e.key) (sym is ∙ short) up))
  where
    same : (r : Ordering) → is_lt r ≡ false → is_gt r ≡ false → not (is_eq r) ≡ false
    same Less short up = absurd cc
    same Equal short up = refl
    same Greater short up = absurd cc

module _ {W : Type 0} (writer : Ghosts W) where
  -- the header went out
  pub first_out : {g : _} (old new : Lent W g) (table : TableWriter) (e : Entry) (none header out piece : List ℕ) → none ≡ []
      → out ≡ none ++ header → piece ≡ out → new.number ≡ old.number → IsWriting table old.number (e ∷ []) header
      → ForSome (writer.file new.writer) (λ f. f.bytes ≡ [] ++ piece) → IsWrittenTo writer new table (e ∷ [])
  first_out old new table e none header out piece nothing is out_is number writing file = record {
    given = header;
    writing = subst (λ n. IsWriting table n (e ∷ []) header) (sym number) writing;
    file = λ f told. file f told ∙ out_is ∙ is ∙ ap (λ l. l ++ header) nothing;
  }

  -- what was given out went out
  pub more_out : {g : _} (old new : Lent W g) (table : TableWriter) (es : List Entry) (given none out piece : List ℕ)
      → none ≡ [] → piece ≡ out
      → new.number ≡ old.number → Appended none out (λ p. IsWriting table old.number es (given ++ p))
      → ForSome (writer.file new.writer) (λ f. f.bytes ≡ given ++ piece) → IsWrittenTo writer new table es
  more_out old new table es given none out piece nothing is number added file = record {
    given = given ++ added.0;
    writing = subst (λ n. IsWriting table n es (given ++ added.0)) (sym number) added.2;
    file = λ f told. file f told ∙ ap (λ l. given ++ l) (is ∙ added.1 ∙ ap (λ l. l ++ added.0) nothing);
  }

  -- the rest went out
  pub whole_out : {g : _} (old new : Lent W g) (es : List Entry) (given : List ℕ) (tail : Tail) (shape : TableShape)
      → IsTail tail old.number es given → given ++ tail_bytes tail ≡ table_bytes table_format old.number es → new.number ≡ old.number
      → ForSome (writer.file new.writer) (λ f. f.bytes ≡ given ++ tail_bytes tail) → shape ≡ tail.shape → IsWhole writer new es shape
  whole_out old new es given tail shape is whole number file shape_is = record {
    format = ap (λ (s : TableShape). s.format) shape_is ∙ is.written;
    shape_is = subst (λ (s : TableShape). IsShapeOf new.number es s) (sym shape_is)
        (subst (λ n. IsShapeOf n es tail.shape) (sym number) is.shape);
    file = λ f told. file f told ∙ whole ∙ ap (λ n. table_bytes table_format n es) (sym number);
  }

-- the last key that the footer says
pub last_said : (number : ℕ) (es : List Entry) (shape : TableShape) → IsShapeOf number es shape → shape.footer.last ≡ last_key es
last_said number es shape is = ap (λ (f : Foot). f.head.last) is.foot
