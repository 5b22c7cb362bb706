use Rattle.std.proofs.Common.{◌≡◌, ◌++◌, ◌∷◌, IfOk, string_bytes, subst, sym, codes}
use Rattle.std.specs.Fmt.{styled_decimal}
use Rattle.vl_folder.specs.FileName.{file_name}
use Rattle.vl_folder.proofs.Digits.{path_text}
use Rattle.vl_folder.proofs.file_name.path_of.Goals as goal

pub returns-in-Log : goal.returns-in-Log
returns-in-Log c = subst (λ name. IfOk c.format.result (λ path. string_bytes path ≡ c.args.folder.now ++ 47 ∷ file_name name))
    (sym c.in-Log.is)
    (subst (λ text. IfOk c.format.result (λ path. string_bytes path ≡ text))
    (path_text c.args.folder.now (codes ".vlog") c.in-Log.number)
    (subst (λ spec. IfOk c.format.result
    (λ path. string_bytes path ≡ c.args.folder.now ++ (47 ∷ (styled_decimal spec c.in-Log.number ++ codes ".vlog"))))
    c.laid_out.ensures c.format.ensures.ok))

pub returns-in-Table : goal.returns-in-Table
returns-in-Table c = subst (λ name. IfOk c.format-in-Table.result (λ path. string_bytes path ≡ c.args.folder.now ++ 47 ∷ file_name name))
    (sym c.in-Table.is)
    (subst (λ text. IfOk c.format-in-Table.result (λ path. string_bytes path ≡ text))
    (path_text c.args.folder.now (codes ".vtab") c.in-Table.number)
    (subst (λ spec. IfOk c.format-in-Table.result
    (λ path. string_bytes path ≡ c.args.folder.now ++ (47 ∷ (styled_decimal spec c.in-Table.number ++ codes ".vtab"))))
    c.laid_out-in-Table.ensures c.format-in-Table.ensures.ok))

pub returns-in-Manifest : goal.returns-in-Manifest
returns-in-Manifest c = subst
    (λ name. IfOk c.format-in-Manifest.result (λ path. string_bytes path ≡ c.args.folder.now ++ 47 ∷ file_name name))
    (sym c.in-Manifest.is)
    (subst (λ text. IfOk c.format-in-Manifest.result (λ path. string_bytes path ≡ text))
    (path_text c.args.folder.now (codes ".vman") c.in-Manifest.number)
    (subst (λ spec. IfOk c.format-in-Manifest.result
    (λ path. string_bytes path ≡ c.args.folder.now ++ (47 ∷ (styled_decimal spec c.in-Manifest.number ++ codes ".vman"))))
    c.laid_out-in-Manifest.ensures c.format-in-Manifest.ensures.ok))
