-- What a crash leaves in a change of a file.
use Rattle.std.proofs.Common.{◌≡◌, inl, ℕ, ◌≤◌, List, length, take, refl, sym, ◌∙◌, arith, length-take}
use Rattle.std.proofs.lemmas.List.{append-nil, take_all}
use Rattle.doc_server_journal.specs.Devices.{Torn, Grown}

pub before_all : (at : ℕ) (bytes old new : List ℕ) → at ≤ length old → Torn at bytes old new → take at new ≡ take at old
before_all at bytes old new fits torn =
    sym (take_all (length old) (take at new) (omega (arith, fits, length-take at new))) ∙ torn.before

-- nothing was done
pub torn_same : (at : ℕ) (bytes file : List ℕ) → Torn at bytes file file
torn_same at bytes file = record {
  before = take_all (length file) (take at file) (omega (arith, length-take at file));
  behind = refl;
  no_shorter = omega arith;
  no_longer = omega arith;
  each = λ i le lt. inl refl;
}

pub grown_same : (count : ℕ) (file : List ℕ) → Grown count file file
grown_same count file = (0, omega arith, sym (append-nil file))
