-- A worked row of the text, which holds by computing.
use Rattle.std.proofs.Common.{◌≡◌, ◌∷◌, [], refl}
use Rattle.std.specs.Prelude.{codes}
use Rattle.std.specs.Fmt.{digits}
use Rattle.hex.specs.Hex.{encode_with}
use Rattle.vl_model.specs.Keys.{untagged}
use Rattle.vl_script.specs.Text.{contents_text}

-- an empty value is a -
two_rows : contents_text 12 ((0x61 ∷ [], untagged (0x0b ∷ [])) ∷ (0x62 ∷ 0xff ∷ [], untagged []) ∷ [])
    ≡ codes "reopened 12\nrows 2\n61 0b\n62ff -\n"
unfolding digits encode_with
two_rows = refl
