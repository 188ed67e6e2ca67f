-- The check sum of a state: the exclusive-or of its words, each turned to the left by its place.
-- Assumes nothing: these are definitions.
use Rattle.std.specs.Prelude.{ℕ, zero, suc, ◌-◌, ◌*◌, ◌/◌, ◌%◌, ◌^◌, List, length, bit_or, bit_xor, slice_index}

-- a word of 64 bits turned to the left by k modulo 64 bits: what leaves it at the top comes in at the bottom
abbrev pub turned_left : ℕ → ℕ → ℕ
turned_left word k = bit_or ((word * 2 ^ (k % 64)) % 2 ^ 64) (word / 2 ^ ((64 - k % 64) % 64))

-- the sum of the first k words
unfoldable pub check_below : List ℕ → ℕ → ℕ
check_below words zero = 0
check_below words (suc k) = bit_xor (check_below words k) (turned_left (slice_index words k) (k % 64))

-- the sum of all words
abbrev pub check_sum : List ℕ → ℕ
check_sum words = check_below words (length words)
