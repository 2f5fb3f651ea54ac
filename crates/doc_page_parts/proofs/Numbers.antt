-- Numbers and the tests of them. `add-zero`, `add-one`, `sub-one`, `eqb-true`, `eq-eqb` and their kin are the library's.
use Rattle.std.proofs.Common.{◌≡◌, ℕ, Bool, true, ◌==◌, sym, ◌∙◌, eqb-true}

-- what a test for 0 tells, as of a length by `is_empty`
pub zero_test_true : (test : Bool) (n : ℕ) → test ≡ (n == 0) → test ≡ true → n ≡ 0
zero_test_true test n is holds = eqb-true n 0 (sym is ∙ holds)
