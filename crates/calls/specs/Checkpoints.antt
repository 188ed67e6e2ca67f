-- How checkpoints lie in memory: sixteen times 6n + 2 words, kept or not, the time, and the words of the state.
-- Assumes nothing: these are definitions.
use Rattle.std.specs.Prelude.{◌≡◌, ℕ, ◌+◌, ◌*◌, cond, List, ◌∷◌, ◌++◌, take, drop, ℤ, Some, None, Option, ◌==◌, nat_lt, slice_index}
use Rattle.std.specs.Int.{w64}
use mir.Val.{of_z}
use Rattle.words.specs.Signed.{signed}
use Rattle.motion.specs.Memory.{state_of, state_length}
use Rattle.calls.specs.Machine.{Checkpoint, Machine}
use Rattle.calls.specs.declared.player.Player.{Player}

-- the words of a checkpoint of n bodies, and of all sixteen
abbrev pub checkpoint_length : ℕ → ℕ
checkpoint_length n = 6 * n + 2

abbrev pub checkpoints_length : ℕ → ℕ
checkpoints_length n = 16 * checkpoint_length n

-- what the words from `at` on keep: nothing where the first is 0; else the time, read with sign, and the state behind it
abbrev pub checkpoint_at : ℕ → List ℕ → ℕ → Option Checkpoint
checkpoint_at n words at =
    cond (slice_index words at == 0) None
    (Some (record { time = signed w64 (slice_index words (at + 1)); state = state_of n (drop (at + 2) words) }))

-- what is kept under number c, of which there are sixteen
abbrev pub kept_in : ℕ → List ℕ → ℕ → Option Checkpoint
kept_in n words c = cond (nat_lt c 16) (checkpoint_at n words (c * checkpoint_length n)) None

-- the words after a time and the words of a state were kept under number c
abbrev pub kept_words : ℕ → ℕ → ℤ → List ℕ → List ℕ → List ℕ
kept_words n c time state words =
    take (c * checkpoint_length n) words ++ ((1 ∷ of_z w64 time ∷ take (state_length n) state) ++ drop (c * checkpoint_length n + checkpoint_length n) words)

-- the machine that a player and the words lent to it make up
abbrev pub machine_of : Player → List ℕ → List ℕ → Machine
machine_of player state checkpoints =
    record { time = player.time; state = state_of player.system.count state; kept = kept_in player.system.count checkpoints }

-- what is kept has this time
abbrev pub HoldsTime : ℤ → Option Checkpoint → Type 0
HoldsTime t None = ⊥
HoldsTime t (Some checkpoint) = checkpoint.time ≡ t
