-- What holds on axis 0, 1 and 2 holds on every axis.
use Rattle.std.proofs.Common.{◌≡◌, ℕ, zero, suc, ◌<◌, refl, arith}
use Rattle.distance.specs.Axes.{by_axis, along}

pub on_each : (P : ℕ → Type 0) → P 0 → P 1 → P 2 → (a : ℕ) → a < 3 → P a
on_each P p q r zero h = p
on_each P p q r (suc zero) h = q
on_each P p q r (suc (suc zero)) h = r
on_each P p q r (suc (suc (suc a))) h = absurd (omega arith)

-- a row made by axis has on each axis what it was made of
pub along_by_axis : (f : ℕ → ℕ) (a : ℕ) → a < 3 → along (by_axis f) a ≡ f a
along_by_axis f = on_each (λ a. along (by_axis f) a ≡ f a) refl refl refl
