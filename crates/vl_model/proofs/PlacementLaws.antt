-- What a flush places may stand in a table.
use Rattle.std.proofs.Common.{◌≡◌, ◌≤◌, ℕ, ◌+◌, Bool, true, false, cond, List, length, refl, arith}
use Rattle.std.proofs.lemmas.Bool.Decides.{nat_tests}
use Rattle.std.specs.Prelude.{nat_le}
use Rattle.vl_model.specs.Formats.{record_head}
use Rattle.vl_model.specs.Keys.{value_length}
use Rattle.vl_model.specs.Limits.{max_inline_bytes}
use Rattle.vl_model.specs.Placement.{placement, placed, is_body_placed, is_placed, IsLoggedAt, IsLogged}
use Rattle.vl_model.specs.declared.entry.Entry.{Entry}
use Rattle.vl_model.specs.declared.entry.Body.{Body}
use Rattle.vl_model.specs.declared.entry.Body.TheVariants.{Inline, Gone, Far, Logged}

body_placed : (format : ℕ) (key : List ℕ) (body : Body) → IsLoggedAt format key body
    → is_body_placed format key (placement body) ≡ true
body_placed format key (Inline value) logged = absurd logged
body_placed format key Gone logged = refl
body_placed format key (Far pointer) logged = absurd logged
body_placed format key (Logged value pointer) logged = by (nat_le (value_length value) max_inline_bytes) refl
  where
    by : (b : Bool) → nat_le (value_length value) max_inline_bytes ≡ b
        → is_body_placed format key (cond b (Inline value) (Far pointer)) ≡ true
    by true is = is
    by false is =
        let whole : pointer.length ≡ record_head format + length key + value_length value = logged in
        grind (arith, nat_tests)

pub placed-placed : (format : ℕ) (e : Entry) → IsLogged format e → is_placed format (placed e) ≡ true
placed-placed format e logged = body_placed format e.key e.body logged

head_least : (format : ℕ) → record_head 1 ≤ record_head format
head_least format = by (nat_le format 1)
  where
    by : (b : Bool) → 7 ≤ cond b 7 8
    by true = omega arith
    by false = omega arith

body_weakest : (format : ℕ) (key : List ℕ) (body : Body) → is_body_placed format key body ≡ true
    → is_body_placed 1 key body ≡ true
body_weakest format key (Inline value) is = is
body_weakest format key Gone is = is
body_weakest format key (Far pointer) is =
    let least : record_head 1 ≤ record_head format = head_least format in grind (arith, nat_tests)
body_weakest format key (Logged value pointer) is = is

pub placed-weakest : (format : ℕ) (e : Entry) → is_placed format e ≡ true → is_placed 1 e ≡ true
placed-weakest format e is = body_weakest format e.key e.body is
