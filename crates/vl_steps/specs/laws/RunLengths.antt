-- How long the run is that a commit or a relocation adds to the memtable: each of its entries counts once.
use Rattle.std.proofs.Common.{◌≡◌, ℕ, zero, suc, ◌≤◌, ◌+◌, Bool, true, false, cond, List, [], ◌∷◌, length, refl, ap, sym, ◌∙◌, arith, Option, Some, None}
use Rattle.std.specs.Prelude.{◌==◌}
use Rattle.std.specs.Ordering.{eq_by_cmp, is_eq}
use Rattle.std.proofs.lemmas.Bool.{and_parts}
use Rattle.std.proofs.lemmas.Bool.Decides.{nat_tests}
use Rattle.std.specs.declared.cmp.Ordering.{Ordering}
use Rattle.std.specs.declared.cmp.Ordering.TheVariants.{Less, Equal, Greater}
use Rattle.vl_memtable.specs.Lengths.{lengths_with}
use Rattle.vl_model.specs.Entries.{entry_cmp, in_order, is_at, put}
use Rattle.vl_model.specs.Keys.{key_cmp}
use Rattle.vl_model.specs.Winners.{exact}
use Rattle.vl_model.specs.declared.entry.Entry.{Entry}
use Rattle.vl_model.specs.declared.log_frame.Moved.{Moved}
use Rattle.vl_model.specs.declared.pointer.Pointer.{Pointer}
use Rattle.vl_model.specs.laws.Exact.{exact-in_order}
use Rattle.vl_model.specs.laws.Lookup.{is_at-tied}
use Rattle.vl_model.specs.laws.OrderLaws.{put-greater, put-less}
use Rattle.vl_model.specs.laws.WinnerLaws.{same_key}
use Rattle.vl_seglog.specs.Moves.{AreOnce, IsElsewhere}
use Rattle.vl_steps.specs.Relocating.{lengths_after, move_entries_of, moved_entry}

-- no key and version stands there twice
abbrev pub AreApart : List Entry → Type 0
AreApart [] = Unit {0}
AreApart (e ∷ es) = (exact es e.key e.version ≡ None) × AreApart es

length-put_new : (e : Entry) (es : List Entry) → exact es e.key e.version ≡ None → length (put e es) ≡ length es + 1
length-put_new e [] none = refl
length-put_new e (f ∷ fs) none = by (length-put_new e fs) (entry_cmp e f) refl
  where
    at : (r : Ordering) → entry_cmp e f ≡ r → is_at e.key e.version f ≡ is_eq r
    at r is = is_at-tied e.key e.version f ∙ ap is_eq is

    there : (b : Bool) → is_at e.key e.version f ≡ b → cond b (Some f) (exact fs e.key e.version) ≡ None
    there b is = ap (λ b. cond b (Some f) (exact fs e.key e.version)) (sym is) ∙ none

    by : (exact fs e.key e.version ≡ None → length (put e fs) ≡ length fs + 1) → (r : Ordering) → entry_cmp e f ≡ r
        → length (put e (f ∷ fs)) ≡ length (f ∷ fs) + 1
    by later Less is = ap length (put-less e f fs is) ∙ (omega arith)
    by later Equal is = let some = there true (at Equal is) in absurd cc
    by later Greater is =
        let rest = later (there false (at Greater is)) in
        ap length (put-greater e f fs is) ∙ (omega (arith, rest))

-- put in order they are as many
pub length-apart : (es : List Entry) → AreApart es → length (in_order es) ≡ length es
length-apart [] apart = refl
length-apart (e ∷ es) apart =
    let rest = length-apart es apart.1 in
    let one = length-put_new e (in_order es) (exact-in_order e.key e.version es ∙ apart.0) in
    omega (arith, one, rest)

-- where no other record has its key and version, no entry of theirs has
none_at : (m : Moved) (ms : List Moved) (ps : List Pointer) → IsElsewhere m ms → exact (move_entries_of ms ps) m.key m.version ≡ None
none_at m [] ps else = refl
none_at m (o ∷ os) [] else = refl
none_at m (o ∷ os) (p ∷ ps) else = by (is_at m.key m.version (moved_entry o p)) refl (none_at m os ps else.1)
  where
    not_here : is_at m.key m.version (moved_entry o p) ≡ true → ⊥
    not_here at =
        let parts = and_parts (eq_by_cmp key_cmp m.key o.key) (o.version == m.version) at in
        let version : o.version ≡ m.version = grind (arith, nat_tests, parts.1) in
        else.0 version (sym (same_key m.key o.key parts.0))

    by : (b : Bool) → is_at m.key m.version (moved_entry o p) ≡ b → exact (move_entries_of os ps) m.key m.version ≡ None
        → cond b (Some (moved_entry o p)) (exact (move_entries_of os ps) m.key m.version) ≡ None
    by true at later = absurd (not_here at)
    by false at later = later

moves_apart : (ms : List Moved) (ps : List Pointer) → AreOnce ms → AreApart (move_entries_of ms ps)
moves_apart [] ps once = tt
moves_apart (m ∷ ms) [] once = tt
moves_apart (m ∷ ms) (p ∷ ps) once = (none_at m ms ps once.0, moves_apart ms ps once.1)

moves_many : (ms : List Moved) (ps : List Pointer) → length ps ≡ length ms → length (move_entries_of ms ps) ≡ length ms
moves_many [] ps same = refl
moves_many (m ∷ ms) [] same = absurd (omega (arith, same))
moves_many (m ∷ ms) (p ∷ ps) same = let rest = moves_many ms ps (omega (arith, same)) in omega (arith, rest)

-- The run of moved records, none of which is there twice, has as many entries.
pub moves_long : (ms : List Moved) (ps : List Pointer) → AreOnce ms → length ps ≡ length ms
    → length (in_order (move_entries_of ms ps)) ≡ length ms
moves_long ms ps once same = length-apart (move_entries_of ms ps) (moves_apart ms ps once) ∙ moves_many ms ps same

-- where there are some the run is joined
pub some_after : (n : ℕ) (old : List ℕ) → 1 ≤ n → lengths_with n old ≡ lengths_after n old
some_after zero old some = absurd (omega (arith, some))
some_after (suc n) old some = refl
