use Rattle.std.proofs.Common.{◌≡◌, ◌++◌, ◌∷◌, subst}
use Rattle.std.specs.Prelude.{string_bytes, OnOk}
use Rattle.std.specs.List.{flat_map}
use Rattle.doc_store_tags.proofs.NameSteps.{all_names}
use Rattle.doc_hub_editing.proofs.names.push_names.Goals as goal

pub returns : goal.returns
returns c =
    let pushed = c.push_others.result in
    let out = string_bytes c.push_others.new.out in
    all_names (λ text. OnOk pushed (out ≡ text)) (string_bytes c.args.out.now) c.get.result.now c.in-Some.first.now c.args.names.now
    c.in-Some.others.now c.in-Some.ensures.cases.0 c.get.ensures
    (subst (λ text. OnOk pushed (out ≡ text ++ flat_map (λ name. 44 ∷ name) c.in-Some.others.now)) c.in_ok-push_str.ensures.bytes
    c.push_others.ensures)
