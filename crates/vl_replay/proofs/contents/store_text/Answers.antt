use Rattle.std.proofs.Common.{◌≡◌, ℕ, Some, Vec, Global, refl, subst}
use Rattle.vl_model.specs.History.{contents_at, last_number}
use Rattle.vl_script.specs.Text.{reopened_text}
use Rattle.vl_script_model.specs.laws.StoreText.{begun_last}
use Rattle.vl_replay.proofs.contents.store_text.Goals as goal

same_text : (a b : Vec ℕ Global) → Some a ≡ Some b → a ≡ b
same_text a b e = cc

pub returns-in-Ok-view_text : goal.returns-in-Ok-view_text
returns-in-Ok-view_text g c h l stands x is =
    let view = c.in-Ok.view in
    let text : Vec ℕ Global = c.in-Ok-view_text.text in
    let answered = (c.in-Ok.ensures.stands h l stands).answered _ refl in
    let number : view.number ≡ last_number h = begun_last h l view.ticket view.number answered.0 in
    subst (λ (v : Vec ℕ Global). v.items ≡ reopened_text (last_number h) (contents_at h (last_number h))) (same_text text x is)
    (subst (λ (n : ℕ). text.items ≡ reopened_text n (contents_at h n)) number
    (c.in-Ok-view_text.ensures h (c.in-Ok.ensures.sees h l stands)))
