-- Levels without tables: what is found of them, what they name, and where they lead.
use Rattle.std.specs.Prelude.{◌≡◌, ℕ, Bool, true, false, List, [], ◌∷◌, ◌++◌, map, Ok, refl}
use Rattle.std.specs.List.{flat_map}
use Rattle.std.proofs.Common.{subst, sym, ap, ◌∙◌, inl, inr}
use Rattle.vl_disk.specs.Crash.{Image}
use Rattle.vl_engine_laws.specs.Files.{found_levels}
use Rattle.vl_engine_laws.specs.Shown.{Shown, entries_among, tables_among}
use Rattle.vl_engine_laws.specs.laws.ShownLaws.{levels_numbers}
use Rattle.vl_engine_model.specs.Sources.{numbers_of, table_entries}
use Rattle.vl_engine_model.specs.declared.table.Table as laid
use Rattle.vl_manifest.specs.declared.state.ManifestState.{ManifestState}
use Rattle.vl_model.specs.History.{History}
use Rattle.vl_recover.specs.laws.opening.OpeningLaws.{opened, single_current}
use Rattle.vl_recover.specs.laws.repairing.StageLaws.{ok_same}
use Rattle.vl_recover.specs.opening.Opening.{FoundTable, IsAmong, IsNamed, NamedLevels, NamesNoTable, Refusal, led_into, led_through}

-- what stands in all levels
abbrev pub in_levels : {X : Type 0} → List (List X) → List X
in_levels levels = flat_map (λ level. level) levels

-- ---- tables, and as they are found

-- Where there are none, none are found;
pub none_found : (levels : List (List laid.Table)) → tables_among levels ≡ [] → in_levels (found_levels levels) ≡ []
none_found [] none = refl
none_found ([] ∷ levels) none = none_found levels none
none_found ((t ∷ ts) ∷ levels) none = absurd cc

-- and where none are found, there are none.
pub found_none : (levels : List (List laid.Table)) → in_levels (found_levels levels) ≡ [] → tables_among levels ≡ []
found_none [] none = refl
found_none ([] ∷ levels) none = found_none levels none
found_none ((t ∷ ts) ∷ levels) none = absurd cc

-- They have no entries.
pub no_entries : (levels : List (List laid.Table)) → tables_among levels ≡ [] → entries_among levels ≡ []
no_entries levels none = ap (λ (ts : List laid.Table). flat_map table_entries ts) none

-- ---- what is named

-- An image without these tables has them all;
pub none_named : (deeper : Bool) (image : Image) (levels : List (List laid.Table)) → tables_among levels ≡ []
    → NamedLevels deeper image (map numbers_of levels) (Ok (found_levels levels))
none_named deeper image [] none = refl
none_named deeper image ([] ∷ levels) none = ([], refl, (found_levels levels, none_named true image levels none, refl))
none_named deeper image ((t ∷ ts) ∷ levels) none = absurd cc

-- and where none are named, none are found.
pub named_none : (deeper : Bool) (image : Image) (named : List (List ℕ)) (found : List (List FoundTable))
    → in_levels named ≡ [] → NamedLevels deeper image named (Ok found) → in_levels found ≡ []
named_none deeper image [] [] none is = refl
named_none deeper image [] (ts ∷ found) none is = absurd cc
named_none deeper image ((n ∷ ns) ∷ named) found none is = absurd cc
named_none deeper image ([] ∷ named) [] none (ts, here, (others, rest, e)) = absurd cc
named_none deeper image ([] ∷ named) (us ∷ found) none (ts, here, (others, rest, e)) =
    let same : us ∷ found ≡ ts ∷ others = ok_same {E = Refusal} (us ∷ found) (ts ∷ others) e in
    let empty : ts ≡ [] = ok_same {E = Refusal} ts [] here in
    let first : us ≡ [] = cc in
    let rest_is : found ≡ others = cc in
    let below : in_levels found ≡ [] = named_none true image named found none
    (subst (λ (l : List (List FoundTable)). NamedLevels true image named (Ok l)) (sym rest_is) rest) in
    ap (λ (ts : List FoundTable). ts ++ in_levels found) first ∙ below

-- Where there are none, none are named.
pub none_numbered : (levels : List (List laid.Table)) → tables_among levels ≡ [] → in_levels (map numbers_of levels) ≡ []
none_numbered [] none = refl
none_numbered ([] ∷ levels) none = none_numbered levels none
none_numbered ((t ∷ ts) ∷ levels) none = absurd cc

pub unnamed : (named : List (List ℕ)) → in_levels named ≡ [] → (n : ℕ) → IsNamed named n → ⊥
unnamed [] none n is = is
unnamed ([] ∷ named) none n (inl is) = is
unnamed ([] ∷ named) none n (inr is) = unnamed named none n is
unnamed ((k ∷ ks) ∷ named) none n is = absurd cc

-- What an image shows without tables names none.
shows_none : (image : Image) (h : History) (m : ℕ) (shown : Shown image h m) → tables_among shown.levels ≡ []
    → (n : ℕ) → IsNamed shown.opening.state.levels n → ⊥
shows_none image h m shown none =
    let names : shown.opening.state.levels ≡ map numbers_of shown.levels =
    levels_numbers image false shown.opening.state.levels shown.levels
    (subst (λ (l : List (List FoundTable)). NamedLevels false image shown.opening.state.levels (Ok l)) shown.found
    (opened image shown.opening shown.opens).levels) in
    unnamed shown.opening.state.levels (ap in_levels names ∙ none_numbered shown.levels none)

-- So its current manifest names none.
pub names_no_table : (image : Image) (h : History) (m : ℕ) (shown : Shown image h m) → tables_among shown.levels ≡ [] → NamesNoTable image
names_no_table image h m shown none state current n named =
    let is = opened image shown.opening shown.opens in
    let same : state ≡ shown.opening.state =
    ok_same {E = Refusal} state shown.opening.state
    (single_current image (Ok state) (Ok shown.opening.state) current (is.heading, is.headed, is.says)) in
    shows_none image h m shown none n (subst (λ (s : ManifestState). IsNamed s.levels n) same named)

-- ---- where they lead

leads_on : (levels : List (List FoundTable)) (ns : List ℕ) → in_levels levels ≡ [] → led_through levels ns ≡ ns
leads_on [] ns none = refl
leads_on ([] ∷ levels) ns none = leads_on levels ns none
leads_on ((t ∷ ts) ∷ levels) ns none = absurd cc

-- They lead into no log.
pub led_nowhere : (levels : List (List FoundTable)) → in_levels levels ≡ [] → (n : ℕ) → IsAmong (led_into levels) n → ⊥
led_nowhere levels none n among = subst (λ (ns : List ℕ). IsAmong ns n) (leads_on levels [] none) among
