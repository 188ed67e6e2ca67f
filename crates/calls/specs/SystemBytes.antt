-- A system and its opening in bytes: a count, a softening, and for each body its mass, three positions and three momenta.
-- Assumes nothing: these are definitions.
use Rattle.std.specs.Prelude.{ℕ, zero, suc, ◌+◌, ◌*◌, ◌^◌, ◌<◌, ◌≤◌, cond, ◌&&◌, List, length, pos, None, nat_le, nat_lt, slice_index}
use Rattle.words.specs.Bytes.{number_at}
use Rattle.motion.specs.Memory.{held, state_length, work_length}
use Rattle.motion.specs.Refusals.{Told, good, refused}
use Rattle.motion.specs.Systems.{WordsState, step_by, back_by}
use Rattle.calls.specs.Checkpoints.{checkpoints_length}
use Rattle.calls.specs.Machine.{Rules, Machine, provided}

-- where the bytes of body b begin, and so the length of a system of b bodies
abbrev pub body_at : ℕ → ℕ
body_at b = 9 + 50 * b

abbrev pub count_in : List ℕ → ℕ
count_in bytes = slice_index bytes 0

abbrev pub softening_in : List ℕ → ℕ
softening_in bytes = number_at 8 bytes 1

-- the mass of body b, and 0 where there is no such body
abbrev pub mass_in : List ℕ → ℕ → ℕ
mass_in bytes b = cond (nat_lt b (count_in bytes)) (number_at 2 bytes (body_at b)) 0

-- position and momentum of body b along axis a: three positions, and behind them three momenta
abbrev pub position_in : List ℕ → ℕ → ℕ → ℕ
position_in bytes b a = number_at 8 bytes (body_at b + (2 + 8 * a))

abbrev pub momentum_in : List ℕ → ℕ → ℕ → ℕ
momentum_in bytes b a = number_at 8 bytes (body_at b + (26 + 8 * a))

-- the state of the opening
abbrev pub state_in : List ℕ → WordsState
state_in bytes = record { position = held (count_in bytes) (position_in bytes); momentum = held (count_in bytes) (momentum_in bytes) }

-- what the bytes' bodies move by
abbrev pub rules_in : List ℕ → Rules
rules_in bytes = record {
  count = count_in bytes;
  step = step_by (softening_in bytes) (mass_in bytes) (count_in bytes);
  back = back_by (softening_in bytes) (mass_in bytes) (count_in bytes);
}

-- the machine of the opening: at time 0, with nothing kept
abbrev pub machine_in : List ℕ → Machine
machine_in bytes = record { time = pos 0; state = state_in bytes; kept = λ c. None }

-- what is told where so many bytes are needed
abbrev pub enough : List ℕ → ℕ → Told (Unit {0})
enough bytes needed = cond (nat_lt (length bytes) needed) (refused 1 (length bytes)) (good tt)

-- what is told of a number that has a range: out of it, a fault at a place
abbrev pub ranged : ℕ → ℕ → ℕ → ℕ → ℕ → Told (Unit {0})
ranged least most number fault place = cond (nat_le least number && nat_le number most) (good tt) (refused fault place)

abbrev pub count_told : List ℕ → Told (Unit {0})
count_told bytes = provided (enough bytes 1) (ranged 1 64 (count_in bytes) 2 0)

abbrev pub softening_told : List ℕ → Told (Unit {0})
softening_told bytes = provided (enough bytes 9) (ranged (2 ^ 20) (2 ^ 40) (softening_in bytes) 3 1)

-- what is told of body b: its mass is cut off or out of range, or its positions and momenta are cut off
abbrev pub body_told : List ℕ → ℕ → Told (Unit {0})
body_told bytes b =
    provided (enough bytes (body_at b + 2)) (provided (ranged 1 1023 (number_at 2 bytes (body_at b)) 3 (body_at b)) (enough bytes (body_at (b + 1))))

-- what is told of so many bodies from b on
unfoldable pub bodies_told : List ℕ → ℕ → ℕ → Told (Unit {0})
bodies_told bytes zero b = good tt
bodies_told bytes (suc left) b = provided (body_told bytes b) (bodies_told bytes left (b + 1))

-- what is told of a system in front of bytes, read front to back
abbrev pub system_told : List ℕ → Told (Unit {0})
system_told bytes = provided (count_told bytes) (provided (softening_told bytes) (bodies_told bytes (count_in bytes) 0))

-- The bytes begin with a system: its numbers are in their ranges, and all its bytes are there.
pub record Valid (bytes : List ℕ) : Type 0 where
  pub count : (1 ≤ count_in bytes) × (count_in bytes ≤ 64)
  pub softening : (2 ^ 20 ≤ softening_in bytes) × (softening_in bytes ≤ 2 ^ 40)
  pub masses : (b : ℕ) → b < count_in bytes → (1 ≤ number_at 2 bytes (body_at b)) × (number_at 2 bytes (body_at b) ≤ 1023)
  pub room : body_at (count_in bytes) ≤ length bytes

-- what is told of bytes that are a system and nothing else
abbrev pub alone_told : List ℕ → Told (Unit {0})
alone_told bytes = cond (nat_lt (body_at (count_in bytes)) (length bytes)) (refused 1 (body_at (count_in bytes))) (good tt)

-- what is told of slices of these lengths, lent for n bodies
abbrev pub room_told : ℕ → ℕ → ℕ → ℕ → Told (Unit {0})
room_told n state checkpoints work =
    cond (nat_lt state (state_length n)) (refused 8 0) (cond (nat_lt checkpoints (checkpoints_length n)) (refused 8 1)
    (cond (nat_lt work (work_length n)) (refused 8 2) (good tt)))
