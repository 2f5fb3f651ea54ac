use Rattle.std.proofs.Common.{ap, ◌++◌, ◌∙◌, chars}
use Rattle.std.specs.String.{string_bytes}
use Rattle.std.proofs.lemmas.Str.{IsUtf8-string_bytes}
use Rattle.doc_blocks_leaves.specs.OpenLeaves.{Gathering}
use Rattle.doc_blocks_leaves.proofs.GatheredSteps.{boundary_stays, all_grows}
use Rattle.doc_blocks_leaves.proofs.gathered.Gathered.add.Goals as goal

pub invariant_of-self-2 : goal.invariant_of-self-2
invariant_of-self-2 c = boundary_stays (string_bytes c.self.inside.text) c.args.text.now _ c.self.inside.kept
    c.in_ok-push_str.ensures.bytes c.utf8.text c.self.invariant

pub returns-clause-all : goal.returns-clause-all
returns-clause-all c =
    let whole = all_grows (string_bytes c.self.inside.text) c.args.text.now _ c.in_ok-push_str.ensures.bytes
    (IsUtf8-string_bytes c.self.inside.text) in
    whole ∙ ap (λ (g : Gathering). g.all ++ chars c.args.text.now) c.self.view_is
