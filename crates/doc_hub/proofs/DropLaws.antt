-- A dropped connection is gone.
use Rattle.std.proofs.Common.{◌≡◌, ℕ, true, cond, ap, ◌∙◌, subst, arith, ◌==◌}
use Rattle.std.specs.Prelude.{Option, None}
use Rattle.std.specs.FinMap as map
use Rattle.std.specs.Cmp.{unsigned_tied}
use Rattle.std.proofs.lemmas.Cmp.{nat_cmp_total}
use Rattle.doc_hub.specs.Connections.{pushed_at}
use Rattle.doc_hub.specs.declared.connection.Connection.{Connection}
use Rattle.doc_hub.specs.Worlds.{World, StepsAt, disconnected}
use Rattle.doc_hub.specs.ConnectionLaws.{DroppedIsGone}
use Rattle.doc_hub.specs.StepLaws.{connection}

gone : (w : World) (id : ℕ) → connection id (disconnected w id).0 ≡ None
gone w id =
    let itself : (id == id) ≡ true = grind (arith) in
    map.get-remove nat_cmp_total w.connections id id ∙ ap (λ t. cond t None (connection id w)) (unsigned_tied id id ∙ itself)

pub dropped_is_gone : DroppedIsGone
dropped_is_gone w id =
    let v = (disconnected w id).0 in
    record {
      push = λ bytes. ap (λ (k : Option Connection). let r = pushed_at v.connections id bytes k in (record v { connections = r.0 }, r.1))
          (gone w id);
      step = λ render u said h. subst (λ (k : Option Connection). StepsAt render v id u said k) (gone w id) h;
    }
