-- Items one behind the other, as they are read from the left, and the places behind them.
use Rattle.std.proofs.Common.{◌≡◌, ℕ, ◌+◌, ◌<◌, ◌^◌, List, [], ◌∷◌, ◌++◌, length, map, refl, sym, ap, subst, ◌∙◌}
use Rattle.std.proofs.Common.{append_assoc, length-append, arith}
use Rattle.std.proofs.lemmas.List.{append-nil, map_push}
use Rattle.vl_model.specs.declared.pointer.Pointer.{Pointer}
use Rattle.vl_seglog.specs.Commit.{records_spelling}
use Rattle.vl_seglog.specs.Placed.{Follow, LiesAt, LiesMovedAt, moved_size, record_size}
use Rattle.vl_seglog.specs.Reading.{moved_of, write_of}
use Rattle.vl_seglog.specs.Relocation.{moves_spelling}
use Rattle.vl_seglog.specs.Series.{Spelling}
use Rattle.vl_seglog.specs.declared.frame.ReadRecord.{ReadRecord}
use Rattle.vl_seglog.specs.laws.RecordLaws.{length-record_bytes}
use Rattle.vl_seglog.specs.laws.MoveLaws.{length-moved_bytes}
use Rattle.vl_seglog.proofs.Runs.{SoFar, read_one}

module _ {Item : Type 0} (At : ℕ → Item → Type 0) (size : Item → ℕ) where
  -- What follows the items so far completes them.
  pub record Placing (from : ℕ) (read : List Item) (place : ℕ) : Type 0 where
    pub completes : (others : List Item) → Follow At size place others → Follow At size from (read ++ others)

  pub none_placed : (from : ℕ) → Placing from [] from
  none_placed from = record { completes = λ others follow. follow }

  pub one_placed : (from : ℕ) (read : List Item) (place : ℕ) (item : Item) → Placing from read place → At place item
      → Placing from (read ++ item ∷ []) (place + size item)
  one_placed from read place item so at = record {
    completes = λ others follow. subst (Follow At size from) (sym (append_assoc read (item ∷ []) others))
        (so.completes (item ∷ others) (at, follow));
  }

  pub all_placed : (from : ℕ) (read : List Item) (place : ℕ) → Placing from read place → Follow At size from read
  all_placed from read place so = subst (Follow At size from) (append-nil read) (so.completes [] tt)

-- Records that are read from the left, seen as the items that they spell.
module _ {Item : Type 0} (S : Spelling Item) (view : ReadRecord → Item) (At : ℕ → ReadRecord → Type 0) (size : ReadRecord → ℕ)
    (sized : (r : ReadRecord) → length (S.bytes (view r)) ≡ size r) where
  -- so many were read, the next one is to be at this place, and the rest fits behind it
  pub record ReadSoFar (from : ℕ) (bytes : List ℕ) (count : ℕ) (read : List ReadRecord) (rest : List ℕ) (place : ℕ) : Type 0 where
    pub so_far : SoFar S bytes count (map view read) rest
    pub placed : Placing At size from read place
    pub fits : place + length rest < 2 ^ 64

  pub none_so_far : (from : ℕ) (bytes : List ℕ) (none : List ReadRecord) → none ≡ [] → from + length bytes < 2 ^ 64
      → ReadSoFar from bytes 0 none bytes from
  none_so_far from bytes none is fits = subst (λ (rs : List ReadRecord). ReadSoFar from bytes 0 rs bytes from) (sym is) (record {
    so_far = record { counted = refl; lawful = tt; spelled = refl };
    placed = none_placed At size from;
    fits = fits;
  })

  -- how far on it is behind the record at the front
  pub step_fits : (place step : ℕ) (rest : List ℕ) (r : ReadRecord) (after : List ℕ) → rest ≡ S.bytes (view r) ++ after → step ≡ size r
      → place + length rest < 2 ^ 64 → place + step + length after < 2 ^ 64
  step_fits place step rest r after parts is fits =
      let long = ap length parts ∙ length-append (S.bytes (view r)) after in
      omega (arith, fits, long, is, sized r)

  pub one_more : (from : ℕ) (bytes : List ℕ) (count : ℕ) (read now : List ReadRecord) (rest : List ℕ) (place step : ℕ)
      (r : ReadRecord) (after : List ℕ)
      → ReadSoFar from bytes count read rest place → now ≡ read ++ r ∷ [] → S.lawful (view r)
      → rest ≡ S.bytes (view r) ++ after → At place r → step ≡ size r
      → ReadSoFar from bytes (count + 1) now after (place + step)
  one_more from bytes count read now rest place step r after so is lawful parts at step_is = record {
    so_far = subst (λ (items : List Item). SoFar S bytes (count + 1) items after) (sym (ap (map view) is ∙ map_push view read r))
        (read_one S bytes count (map view read) rest (view r) after so.so_far lawful parts);
    placed = subst (λ (n : ℕ). Placing At size from now (place + n)) (sym step_is)
        (subst (λ (rs : List ReadRecord). Placing At size from rs (place + size r)) (sym is)
        (one_placed At size from read place r so.placed at));
    fits = step_fits place step rest r after parts step_is so.fits;
  }

pub write_sized : (format : ℕ) (r : ReadRecord) → length ((records_spelling format).bytes (write_of r)) ≡ record_size format r
write_sized format r = length-record_bytes format r.key r.change

pub moved_sized : (format : ℕ) (r : ReadRecord) → length ((moves_spelling format).bytes (moved_of r)) ≡ moved_size format r
moved_sized format r = length-moved_bytes format (moved_of r)

pub write_length_is : (format log version place : ℕ) (r : ReadRecord) → LiesAt format log version place r
    → r.pointer.length ≡ record_size format r
write_length_is format log version place r at = ap (λ (p : Pointer). p.length) at.pointer_is

pub moved_length_is : (format log place : ℕ) (r : ReadRecord) → LiesMovedAt format log place r → 8 + r.pointer.length ≡ moved_size format r
moved_length_is format log place r at = ap (λ (p : Pointer). 8 + p.length) at.pointer_is
