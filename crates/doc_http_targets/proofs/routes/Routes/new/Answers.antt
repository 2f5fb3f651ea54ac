use Rattle.std.proofs.Common.{refl}
use Rattle.matchit.proofs.OnLiterals.{matchit_on_literals}
use Rattle.doc_http_targets.proofs.routes.Routes.new.Goals as goal

pub add-requires : goal.add-requires
unfolding matchit_on_literals
add-requires c = rw (c.new-router.ensures) refl

pub add-requires-2 : goal.add-requires-2
unfolding matchit_on_literals
add-requires-2 c = rw (c.in_ok-add.ensures.1, c.new-router.ensures) refl

pub add-requires-3 : goal.add-requires-3
unfolding matchit_on_literals
add-requires-3 c = rw (c.in_ok-add-2.ensures.1, c.in_ok-add.ensures.1, c.new-router.ensures) refl

pub add-requires-4 : goal.add-requires-4
unfolding matchit_on_literals
add-requires-4 c = rw (c.in_ok-add-3.ensures.1, c.in_ok-add-2.ensures.1, c.in_ok-add.ensures.1, c.new-router.ensures) refl

pub add-requires-5 : goal.add-requires-5
unfolding matchit_on_literals
add-requires-5 c =
    rw (c.in_ok-add-4.ensures.1, c.in_ok-add-3.ensures.1, c.in_ok-add-2.ensures.1, c.in_ok-add.ensures.1, c.new-router.ensures) refl

pub invariant_of-result : goal.invariant_of-result
unfolding matchit_on_literals
invariant_of-result c =
    record {
      rows = rw (
        c.in_ok-add-5.ensures.1,
        c.in_ok-add-4.ensures.1,
        c.in_ok-add-3.ensures.1,
        c.in_ok-add-2.ensures.1,
        c.in_ok-add.ensures.1,
        c.new-router.ensures,
      ) refl;
    }
