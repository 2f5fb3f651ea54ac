-- What is known of a system that a server begins on.
use Rattle.std.specs.Prelude.{◌≡◌, ℕ, List, [], Option, IfSome}

-- nothing has passed on a connection, and its number is free
pub record IsUnused (came gone : Option (List ℕ)) (free : Type 0) : Type 0 where
  pub nothing_came : IfSome came (λ bytes. bytes ≡ [])
  pub nothing_gone : IfSome gone (λ bytes. bytes ≡ [])
  pub is_free : free
