use Rattle.std.proofs.Common.{[], ◌∷◌, ap, ◌∙◌}
use Rattle.std.specs.FinMap.{get, get-empty}
use Rattle.vl_model.specs.Keys.{key_cmp}
use Rattle.vl_drive.proofs.client.balance.Goals as goal

pub get-requires-clause-unwritten : goal.get-requires-clause-unwritten
get-requires-clause-unwritten g c =
    ap (λ writes. get writes (c.args.account ∷ [])) c.requires.unwritten ∙ get-empty key_cmp (c.args.account ∷ [])
