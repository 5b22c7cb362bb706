-- The stages of an opening, one behind the other.
use Rattle.std.specs.Prelude.{ℕ, List, Option, Result, Ok}
use Rattle.std.proofs.Common.{subst, ◌∙◌}
use Rattle.vl_table.specs.body.Footer.{Foot, foot_of}
use Rattle.vl_table.specs.Answers.{Answers}
use Rattle.vl_table.specs.Begun.{IsBegun, IsInside}
use Rattle.vl_table.proofs.Stages.{IsPlace, NoHeader, NoPlace, behind_place}
use Rattle.vl_table.specs.Opening.{HasFooter, IsDamaged, IsRead, StandsFooter, no_filter, no_footer, no_index}
use Rattle.vl_table.specs.OpeningParts.{HasParts, NoParts, NotLedTo, with_footer, without_filter, without_footer, without_index}
use Rattle.vl_disk.specs.declared.read_fault.ReadFault.{ReadFault}
use Rattle.vl_table.specs.declared.open.Parts.{Parts}

module _ (format number : ℕ) (bytes : List ℕ) where
  has_footer : (place : ℕ) (f : Foot) → IsBegun format number bytes → IsPlace bytes place
      → StandsFooter format number bytes place f → HasFooter number bytes format f
  has_footer place f begun at stands = record {
    begun = begun;
    inside = subst (IsInside bytes) at.0 at.1;
    footer = subst (λ (n : ℕ). StandsFooter format number bytes n f) at.0 stands;
  }

  led_damage : (f : Foot) (damage : ℕ) → HasFooter number bytes format f → NotLedTo number f bytes damage → IsDamaged number bytes damage
  led_damage f damage has (without_index none) = no_index format f has none.0 none.1
  led_damage f damage has (without_filter ps index p named none) = no_filter format f has ps index p named none.0 none.1

  -- what the stages behind the place miss is the table's damage
  parts_damage : (place : ℕ) → IsBegun format number bytes → IsPlace bytes place → (damage : ℕ)
      → NoParts format number place bytes damage → IsDamaged number bytes damage
  parts_damage place begun at damage (without_footer none) =
      no_footer format begun (subst (IsInside bytes) at.0 at.1)
      (subst (λ (n : ℕ). (f : Foot) → StandsFooter format number bytes n f → ⊥) at.0 none.0) (none.1 ∙ at.0)
  parts_damage place begun at damage (with_footer f stands none) = led_damage f damage (has_footer place f begun at stands) none

  -- all stages went well
  pub is_read : (place : ℕ) (parts : Parts) → IsBegun format number bytes → IsPlace bytes place → HasParts format number place bytes parts
      → IsRead number bytes (record
      { format = format; foot = foot_of parts.footer; place = place; places = parts.blocks.items; bits = parts.filter.items })
  is_read place parts begun at has =
      let footer = has_footer place (foot_of parts.footer) begun at has.footer in
      record {
        begun = begun;
        inside = footer.inside;
        footer = footer.footer;
        index = has.rest.index;
        filter = has.rest.filter;
        place = at.0;
      }

-- the last stage, behind the others
pub opened : {T : Type 0} (format number : ℕ) (told : Option (List ℕ)) (a b c d place : ℕ) (good : List ℕ → T → Type 0)
    (r : Result T ReadFault)
    → Answers {T = ℕ} a b number told (λ bytes f. IsBegun f number bytes) (NoHeader number) (Ok format)
    → Answers b c number told IsPlace NoPlace (Ok place)
    → Answers {T = T} c d number told good (NoParts format number place) r
    → Answers {T = T} a d number told (λ bytes x. IsBegun format number bytes × IsPlace bytes place × good bytes x) (IsDamaged number) r
opened format number told a b c d place good r first second third =
    behind_place format number told a b c d place good (NoParts format number place) (IsDamaged number) r first second
    (λ bytes begun at damage none. parts_damage format number bytes place begun at damage none) third
