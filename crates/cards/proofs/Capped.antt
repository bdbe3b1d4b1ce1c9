-- Rounds of what is measured up to a cap.
use Rattle.std.proofs.Common.{◌≡◌, ℕ, zero, suc, ◌*◌, ◌≤◌, min, ap, ⊎_elim, mul-le-mul_right, zero-mul, arith}
use native.Mathlib.Nat.{min-eq_right}
use Rattle.std.proofs.lemmas.Bool.{cases_lt}

-- v and w agree up to k
pub capped_rounds : (c v w k : ℕ) → min v k ≡ min w k → min (c * v) k ≡ min (c * w) k
capped_rounds zero v w k e = simp zero-mul
capped_rounds (suc c) v w k e =
    let one : 1 ≤ suc c = omega arith in
    ⊎_elim
    (λ h. let same : v ≡ w = omega arith in ap (λ n. min (suc c * n) k) same)
    (λ h.
    let lv : k ≤ suc c * v = omega (arith, mul-le-mul_right v one) in
    let lw : k ≤ suc c * w = omega (arith, mul-le-mul_right w one) in
    rw (min-eq_right lv, min-eq_right lw))
    (cases_lt v k)
