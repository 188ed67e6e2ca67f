-- What an opening is told, and what it leaves.
-- Assumes nothing: these are definitions.
use Rattle.std.specs.Prelude.{◌≡◌, ℕ, ◌+◌, ◌*◌, ◌<◌, ◌≤◌, List, ◌++◌, map, length, drop, replicate, Ok, Err, Result, slice_index}
use Rattle.words.specs.Bytes.{number_at}
use Rattle.words.specs.Masses.{Mass}
use Rattle.motion.specs.Memory.{position_at, momentum_at, state_length}
use Rattle.motion.specs.Refusals.{Told, good, refused, number_of, place_of}
use Rattle.motion.specs.Systems.{mass_of}
use Rattle.motion.specs.declared.refusal.Refusal.{Refusal}
use Rattle.motion.specs.declared.system.System.{System}
use Rattle.calls.specs.Checkpoints.{checkpoints_length, machine_of}
use Rattle.calls.specs.Machine.{rules_of}
use Rattle.calls.specs.SystemBytes.{body_at, count_in, softening_in, mass_in, position_in, momentum_in, rules_in, machine_in}
use Rattle.calls.specs.declared.player.Player.{Player}

-- whether something was taken, or how it was refused
abbrev pub verdict : {X : Type 0} → Result X Refusal → Told (Unit {0})
verdict (Ok x) = good tt
verdict (Err e) = refused (number_of e) (place_of e)

-- The first k masses are those in the bytes, whose bodies are all there.
pub record MassesRead (bytes : List ℕ) (k : ℕ) (masses : List Mass) : Type 0 where
  pub values : (b : ℕ) → b < k → slice_index (map (λ m. m.value) masses) b ≡ number_at 2 bytes (body_at b)
  pub room : body_at k ≤ length bytes

-- The system is that in front of the bytes, which are enough for it.
pub record SystemRead (bytes : List ℕ) (system : System) : Type 0 where
  pub count : system.count ≡ count_in bytes
  pub softening : system.softening.value ≡ softening_in bytes
  pub masses : (b : ℕ) → mass_of system b ≡ mass_in bytes b
  pub room : body_at (count_in bytes) ≤ length bytes

-- A body's six words are those in its fifty bytes.
pub record BodyWritten (bytes words : List ℕ) : Type 0 where
  pub positions : (a : ℕ) → a < 3 → slice_index words (2 * a) ≡ number_at 8 bytes (2 + 8 * a)
  pub momenta : (a : ℕ) → a < 3 → slice_index words (2 * a + 1) ≡ number_at 8 bytes (26 + 8 * a)

-- The words of the first k bodies are those in the bytes, and what lies behind them stays.
pub record BodiesWritten (bytes : List ℕ) (k : ℕ) (before after : List ℕ) : Type 0 where
  pub positions : (b : ℕ) → b < k → (a : ℕ) → a < 3 → position_at after b a ≡ position_in bytes b a
  pub momenta : (b : ℕ) → b < k → (a : ℕ) → a < 3 → momentum_at after b a ≡ momentum_in bytes b a
  pub behind : drop (state_length k) after ≡ drop (state_length k) before

-- The player has opened the system in front of the bytes: it moves by their rules, and its machine is that of the opening. All
-- words of the checkpoints in use are 0, and what lies behind them and behind the state is as it was.
pub record Opened (bytes : List ℕ) (player : Player) (state state_after checkpoints checkpoints_after : List ℕ) : Type 0 where
  pub room : body_at (count_in bytes) ≤ length bytes
  pub rules : rules_of player.system ≡ rules_in bytes
  pub machine : machine_of player state_after checkpoints_after ≡ machine_in bytes
  pub state_behind : drop (state_length (count_in bytes)) state_after ≡ drop (state_length (count_in bytes)) state
  pub checkpoints_are : checkpoints_after ≡ replicate (checkpoints_length (count_in bytes)) 0 ++ drop (checkpoints_length (count_in bytes)) checkpoints
