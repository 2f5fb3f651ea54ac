-- A hub behind the edits of its journal.
use Rattle.std.proofs.Common.{◌≡◌, ◌≤◌, ℕ, List, Bool, sym, ap, subst, ◌∙◌, arith}
use Rattle.std.specs.Prelude.{Ok}
use Rattle.doc_hub.specs.Worlds.{World, store_of, world_taking}
use Rattle.doc_server_serving.specs.Hostings.{IsRestoredFrom}
use Rattle.doc_server_network.specs.KeptTurns.{IsRestored}
use Rattle.doc_server_restore.specs.Restores.{restored}
use Rattle.std.specs.Prelude.{Option}

same_is_less : (a b : ℕ) → a ≡ b → a ≤ b
same_is_less a b is = omega (arith, is)

-- its site is what the records give, also once it is told whether puts are taken
pub restored_too : (file : Option (List ℕ)) (w begin v : World) (takes : Bool) (is : IsRestoredFrom file w begin)
    → v ≡ world_taking begin takes → IsRestored (store_of w) is.texts v
restored_too file w begin v takes is told = record {
  store = store_of begin;
  gives =
      subst (λ m. restored m (store_of w) is.texts ≡ Ok (store_of begin))
      (sym (ap (λ x. x.media) told ∙ ap (λ x. x.media) is.others)) is.gives;
  site = sym (ap (λ x. x.site) told);
  puts = same_is_less begin.puts v.puts (sym (ap (λ x. x.puts) told));
}
