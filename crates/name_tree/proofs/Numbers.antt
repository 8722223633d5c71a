-- Numbers of weights.
use Rattle.std.proofs.Common.{ℕ, zero, suc, ◌^◌, ◌<◌, ◌≤◌, arith}

pub six_digits : (n k : ℕ) → n < 10 ^ k → k ≤ 6 → n < 1000000
six_digits n zero h few = omega arith
six_digits n (suc zero) h few = omega arith
six_digits n (suc (suc zero)) h few = omega arith
six_digits n (suc (suc (suc zero))) h few = omega arith
six_digits n (suc (suc (suc (suc zero)))) h few = omega arith
six_digits n (suc (suc (suc (suc (suc zero))))) h few = omega arith
six_digits n (suc (suc (suc (suc (suc (suc zero)))))) h few = omega arith
six_digits n (suc (suc (suc (suc (suc (suc (suc k))))))) h few = absurd (omega arith)
