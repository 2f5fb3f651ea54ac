-- The keys of a table as its map has them.
use Rattle.std.proofs.Common.{◌≡◌, List, [], ◌∷◌, map, string_bytes, refl, ap}
use Rattle.std.specs.Map.{keys_of}
use Rattle.toml.specs.View.{members_view}
use Rattle.toml.proofs.Views.{Entry}
use Rattle.doc_server_config.specs.Keys.{keys_in}

pub keys_in_view : (entries : List Entry) → keys_in (members_view entries) ≡ map string_bytes (keys_of entries)
keys_in_view [] = refl
keys_in_view (entry ∷ entries) = ap (λ keys. string_bytes entry.0 ∷ keys) (keys_in_view entries)
