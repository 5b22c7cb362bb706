-- Up to where the blocks of a cursor were read whole, step by step.
use Rattle.std.specs.declared.clone.Clone as Clone
use Rattle.vl_disk.specs.declared.reader.HeldFile as HeldFile
use Rattle.std.specs.Prelude.{◌≡◌, ◌⊎◌, ℕ, Bool, true, false, ◌||◌, List, [], ◌∷◌, Option}
use Rattle.std.specs.List.{list_any}
use Rattle.std.proofs.Common.{ap, refl, sym, subst, ◌∙◌, inl, inr}
use Rattle.vl_model.specs.declared.entry.Entry.{Entry}
use Rattle.vl_model.specs.declared.span.Span.{Span}
use Rattle.vl_model.specs.declared.way.Way.{Way}
use Rattle.vl_table.specs.CursorLeft.{Begins, GoesOn, HasNotRead, ReadsNext, in_block, unread}
use Rattle.vl_table.specs.CursorParts.{Block, rise_over}
use Rattle.vl_table.specs.ReadTo.{AreReadTo, CursorStands, LeftReadTo, TablesReadTo}
use Rattle.vl_table.specs.declared.cursor.TableCursor.{TableCursor}
use Rattle.vl_table.specs.declared.table.Table.{Table}
use Rattle.vl_table.proofs.CursorLaws.{rise_same}

later_too : (a b : Bool) → b ≡ true → a || b ≡ true
later_too true b is = refl
later_too false b is = is

here_so : (a b : Bool) → a ≡ true → a || b ≡ true
here_so true b is = refl
here_so false b is = absurd cc

any_none : (is_met : Entry → Bool) (es : List Entry) → es ≡ [] → list_any is_met es ≡ true → ⊥
any_none is_met [] none any = cc
any_none is_met (e ∷ es) none any = cc

module _ {H R : Type 0} {g : HeldFile.Ghosts H} {k : Clone.Ghosts H} (bytes_of : H → Option (List ℕ)) (is_met : Entry → Bool) where
  -- with the interval and the way that it had before
  as_before : (c d : TableCursor H R g k) → GoesOn c d → CursorStands bytes_of d is_met
      → LeftReadTo bytes_of c.span c.way (rise_over c.span c.tables.items) is_met (in_block d) (unread d)
  as_before c d goes stands =
      subst (λ (b : Bool). LeftReadTo bytes_of c.span c.way b is_met (in_block d) (unread d)) (rise_same c d goes)
      (subst (λ (w : Way). LeftReadTo bytes_of c.span w (rise_over d.span d.tables.items) is_met (in_block d) (unread d)) goes.way
      (subst (λ (s : Span). LeftReadTo bytes_of s d.way (rise_over d.span d.tables.items) is_met (in_block d) (unread d)) goes.span stands))

  -- nothing is read, and what is in the block now was before
  pub stands_on : (c d : TableCursor H R g k) → GoesOn c d → (rise_over c.span c.tables.items ≡ true → unread d ≡ unread c)
      → (list_any is_met (in_block d) ≡ true → list_any is_met (in_block c) ≡ true)
      → CursorStands bytes_of d is_met → CursorStands bytes_of c is_met
  stands_on c d goes same here stands = λ rises. elim (as_before c d goes stands rises) [
    | inl met ↦ inl (here met)
    | inr to ↦ inr (subst (AreReadTo bytes_of c.span c.way is_met) (same rises) to)
  ]

  -- an entry is given
  pub stands_given : (c d : TableCursor H R g k) (e : Entry) → GoesOn c d → (rise_over c.span c.tables.items ≡ true → unread d ≡ unread c)
      → in_block c ≡ e ∷ in_block d → CursorStands bytes_of d is_met → CursorStands bytes_of c is_met
  stands_given c d e goes same is =
      stands_on c d goes same (λ met. ap (list_any is_met) is ∙ later_too (is_met e) (list_any is_met (in_block d)) met)

  pub stands_met : (c d : TableCursor H R g k) (e : Entry) → in_block c ≡ e ∷ in_block d → is_met e ≡ true → CursorStands bytes_of c is_met
  stands_met c d e is met = λ rises. inl (ap (list_any is_met) is ∙ here_so (is_met e) (list_any is_met (in_block d)) met)

  -- a block is read
  pub stands_read : (c d : TableCursor H R g k) → GoesOn c d → ReadsNext bytes_of c d → CursorStands bytes_of d is_met
      → CursorStands bytes_of c is_met
  stands_read c d goes next stands = λ rises. elim (as_before c d goes stands rises) [
    | inl met ↦ inr (record {
      read = next.block ∷ [];
      rest = unread d;
      parts = next.passed rises;
      stood = ((next.entries, next.stood), tt);
      met = inr (inl (next.entries, next.stood, ap (list_any is_met) (sym next.taken) ∙ met));
    })
    | inr to ↦ inr (record {
      read = next.block ∷ to.read;
      rest = to.rest;
      parts = next.passed rises ∙ ap (λ (l : List (Block H)). next.block ∷ l) to.parts;
      stood = ((next.entries, next.stood), to.stood);
      met = elim to.met [ inl none ↦ inl none | inr has ↦ inr (inr has) ];
    })
  ]

  -- none was
  pub stands_unread : (c d : TableCursor H R g k) → GoesOn c d → HasNotRead c d → CursorStands bytes_of d is_met → CursorStands bytes_of c is_met
  stands_unread c d goes kept = stands_on c d goes kept.same (λ met. absurd (any_none is_met (in_block d) kept.none met))

  -- none is left
  pub stands_ended : (c : TableCursor H R g k) → (rise_over c.span c.tables.items ≡ true → unread c ≡ []) → CursorStands bytes_of c is_met
  stands_ended c none = λ rises. inr (record { read = []; rest = unread c; parts = refl; stood = tt; met = inl (none rises) })

  -- from its beginning on
  pub stands_begun : (ts : List (Table H)) (s : Span) (w : Way) (c : TableCursor H R g k) → Begins ts s w c → CursorStands bytes_of c is_met
      → TablesReadTo bytes_of s w is_met ts
  stands_begun ts s w c begins stands = λ rises.
      elim (subst (λ (x : Way). (list_any is_met (in_block c) ≡ true) ⊎ AreReadTo bytes_of s x is_met (unread c)) begins.way
      (subst (λ (x : Span). (list_any is_met (in_block c) ≡ true) ⊎ AreReadTo bytes_of x c.way is_met (unread c)) begins.span
      (stands ((λ i. rise_over (begins.span i) (begins.tables i)) ∙ rises)))) [
        | inl met ↦ absurd (any_none is_met (in_block c) begins.none met)
        | inr to ↦ subst (AreReadTo bytes_of s w is_met) begins.unread to
      ]
