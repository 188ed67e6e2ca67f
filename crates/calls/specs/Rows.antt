-- What a row of calls in bytes gives next.
-- Assumes nothing: these are definitions.
use Rattle.std.specs.Prelude.{◌≡◌, ℕ, ◌+◌, ◌<◌, ◌≤◌, List, length, Some, None, Option, Result, MatchResult}
use Rattle.motion.specs.Refusals.{told}
use Rattle.motion.specs.declared.refusal.Refusal.{Refusal}
use Rattle.calls.specs.Calls.{call_at, size_of}
use Rattle.calls.specs.declared.call.Call.{Call}

-- Call k, whose bytes begin at `at`, was read or refused; behind a call that was read the next one begins at `to`, and nothing
-- follows what is refused.
pub record IsRead (bytes : List ℕ) (k at : ℕ) (call : Result Call Refusal) (to : ℕ) : Type 0 where
  pub there : at < length bytes
  pub call_is : told call ≡ call_at bytes k at
  pub next_is : MatchResult call (λ call. to ≡ at + size_of call) (λ _. to ≡ length bytes)
  pub further : at < to

-- a row in these bytes that comes to call k at `at` is over, or gives it with its number and its place and goes on
abbrev pub NextCall : List ℕ → ℕ → ℕ → Option (ℕ × ℕ × Result Call Refusal) → List ℕ → ℕ → ℕ → Type 0
NextCall bytes k at None bytes_after k_after at_after = length bytes ≤ at
NextCall bytes k at (Some item) bytes_after k_after at_after =
    (item.0 ≡ k) × IsRead bytes item.0 at item.2 at_after × (bytes_after ≡ bytes) × (k_after ≡ item.0 + 1) × (item.1 ≡ at)
