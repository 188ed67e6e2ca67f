-- Numbers in bytes, at every width: each byte is one digit to the base 256, so all is shown byte by byte.
use Rattle.std.proofs.Common.{◌≡◌, ℕ, zero, suc, ◌+◌, ◌-◌, ◌*◌, ◌/◌, ◌%◌, ◌^◌, ◌<◌, ◌≤◌, List, [], ◌∷◌, ◌++◌, length, get_or, take, drop, set, reverse, sym, refl, ap, ◌∙◌, add-zero, zero-add, mod-eq_of_lt, pow-suc, arith}
use native.Mathlib.Nat.{div-div-eq-div-mul, mod-one, one-le-pow, pow-le-pow_right}
use borrow.Rule.Slice.PartMut.{put_mid}
use lib.Arith.{mod-mul}
use Rattle.std.specs.Int.{bytes_low_first}
use Rattle.std.specs.List.{between, fold}
use Rattle.std.proofs.lemmas.List.Edits.{length-between, get_or-between}
use Rattle.std.proofs.lemmas.Grind.{reverse_onto}
use Rattle.std.proofs.lemmas.List.Sums.{fold_push}
use Rattle.std.proofs.lemmas.List.{append-nil, append_assoc, drop_more, take_all, take_more_set}
use Rattle.words.specs.Bytes.{number_at, bytes_of}
use Rattle.words.proofs.Placed.{placed_own}

-- k bytes hold a number below 256 ^ k
pub number_bound : (k : ℕ) (bytes : List ℕ) (at : ℕ) → ((j : ℕ) → get_or bytes j 0 < 256) → number_at k bytes at < 256 ^ k
unfolding number_at
number_bound zero bytes at small = omega arith
number_bound (suc k) bytes at small =
    let low = small at in
    let high = number_bound k bytes (at + 1) small in
    rw (pow-suc 256 k) (omega arith)

-- the first byte from `at` on, without a sum
first_byte : (xs ys : List ℕ) (at to : ℕ) → get_or xs (at + 0) 0 ≡ get_or ys (to + 0) 0 → get_or xs at 0 ≡ get_or ys to 0
first_byte xs ys at to same = ap (λ j. get_or xs j 0) (sym (add-zero at)) ∙ same ∙ ap (λ j. get_or ys j 0) (add-zero to)

-- a number is that of its bytes, wherever they stand
pub number_moved : (k : ℕ) (xs ys : List ℕ) (at to : ℕ) → ((j : ℕ) → j < k → get_or xs (at + j) 0 ≡ get_or ys (to + j) 0) → number_at k xs at ≡ number_at k ys to
unfolding number_at
number_moved zero xs ys at to same = refl
number_moved (suc k) xs ys at to same =
    let first = first_byte xs ys at to (same 0 (omega arith)) in
    let others = number_moved k xs ys (at + 1) (to + 1)
    (λ j h. ap (λ m. get_or xs m 0) (omega arith) ∙ same (1 + j) (omega arith) ∙ ap (λ m. get_or ys m 0) (omega arith)) in
    λ i. first i + 256 * others i

-- a number stays where none of its bytes is written
pub number_stays : (k : ℕ) (xs ys : List ℕ) (at : ℕ) → ((j : ℕ) → at ≤ j → j < at + k → get_or xs j 0 ≡ get_or ys j 0) → number_at k xs at ≡ number_at k ys at
number_stays k xs ys at same = number_moved k xs ys at at (λ j h. same (at + j) (omega arith) (omega arith))

pub length-bytes_of : (k n : ℕ) → length (bytes_of k n) ≡ k
unfolding bytes_of
length-bytes_of zero n = refl
length-bytes_of (suc k) n = ap suc (length-bytes_of k (n / 256))

-- each byte of a number is a byte
pub small_bytes : (k n j : ℕ) → get_or (bytes_of k n) j 0 < 256
unfolding bytes_of
small_bytes zero n j = omega arith
small_bytes (suc k) n zero = omega arith
small_bytes (suc k) n (suc j) = small_bytes k (n / 256) j

-- the bytes of a number behind the first i + 1, as the library takes them
bytes_behind : (i k n : ℕ) → bytes_low_first (suc i) k n ≡ bytes_of k (n / 256 ^ suc i)
unfolding bytes_of
bytes_behind i zero n = refl
bytes_behind i (suc k) n =
    let next : n / 256 ^ suc (suc i) ≡ n / 256 ^ suc i / 256 = ap (λ m. n / m) (pow-suc 256 (suc i)) ∙ sym (div-div-eq-div-mul n (256 ^ suc i) 256) in
    let others = bytes_behind (suc i) k n ∙ ap (bytes_of k) next in
    λ j. n / 256 ^ suc i % 256 ∷ others j

-- the bytes that the library's `to_le_bytes` gives are these, at every width
pub library_bytes : (k n : ℕ) → bytes_low_first 0 k n ≡ bytes_of k n
unfolding bytes_of
library_bytes zero n = refl
library_bytes (suc k) n = ap (λ l. n % 256 ∷ l) (bytes_behind 0 k n)

-- the bytes of a number, read again, are the number, but for what did not fit into them
pub number_of_bytes : (k n : ℕ) (xs : List ℕ) (at : ℕ) → ((j : ℕ) → j < k → get_or xs (at + j) 0 ≡ get_or (bytes_of k n) j 0) → number_at k xs at ≡ n % 256 ^ k
unfolding number_at bytes_of
number_of_bytes zero n xs at same = sym (mod-one n)
number_of_bytes (suc k) n xs at same =
    let first : get_or xs at 0 ≡ n % 256 = ap (λ j. get_or xs j 0) (sym (add-zero at)) ∙ same 0 (omega arith) in
    let others = number_of_bytes k (n / 256) xs (at + 1) (λ j h. ap (λ m. get_or xs m 0) (omega arith) ∙ same (suc j) (omega arith)) in
    let whole = mod-mul n {m = 256 ^ k} {c = 256} (one-le-pow k 256 (omega arith)) (omega arith) in
    rw (pow-suc 256 k) (omega arith)

-- a number's bytes are those that it was read from
pub bytes_of_number : (k : ℕ) (xs : List ℕ) (at : ℕ) → at + k ≤ length xs → ((j : ℕ) → get_or xs j 0 < 256) → bytes_of k (number_at k xs at) ≡ take k (drop at xs)
unfolding number_at bytes_of
bytes_of_number zero xs at room small = refl
bytes_of_number (suc k) xs at room small =
    let first = small at in
    let low : (get_or xs at 0 + 256 * number_at k xs (at + 1)) % 256 ≡ get_or xs at 0 = omega arith in
    let high : (get_or xs at 0 + 256 * number_at k xs (at + 1)) / 256 ≡ number_at k xs (at + 1) = omega arith in
    let others = ap (bytes_of k) high ∙ bytes_of_number k xs (at + 1) (omega arith) small in
    (λ i. low i ∷ others i) ∙ ap (take (suc k)) (sym (drop_more xs at 0 (omega arith)))

-- what `&bytes[at..e]` is read as
pub words_in_part : (k : ℕ) (bytes : List ℕ) (at e : ℕ) → e ≡ at + k → number_at (e - at) (between at e bytes) 0 ≡ number_at k bytes at
words_in_part k bytes at e end =
    let size : e - at ≡ k = omega arith in
    ap (λ n. number_at n (between at e bytes) 0) size
    ∙ number_moved k (between at e bytes) bytes 0 at (λ j h. ap (λ m. get_or (between at e bytes) m 0) (omega arith) ∙ get_or-between bytes at e j 0 (omega arith))

-- what `&bytes[at..e]` is read as modulo 2 ^ 64: up to eight bytes lose nothing
pub number_read : (k : ℕ) (bytes : List ℕ) (at e : ℕ) → e ≡ at + k → e ≤ length bytes → k ≤ 8 → ((j : ℕ) → get_or bytes j 0 < 256) →
    number_at (length (between at e bytes)) (between at e bytes) 0 % 2 ^ 64 ≡ number_at k bytes at
number_read k bytes at e end room few small =
    let bound = number_bound k bytes at small in
    let fits : 256 ^ k ≤ 256 ^ 8 = pow-le-pow_right {n = 256} (omega arith) few in
    ap (λ n. number_at n (between at e bytes) 0 % 2 ^ 64) (length-between bytes at e room)
    ∙ ap (λ n. n % 2 ^ 64) (words_in_part k bytes at e end) ∙ mod-eq_of_lt (omega arith)

-- what a write of a number's bytes to `bytes[at..at + s]` leaves to be read there
pub number_written : (k n : ℕ) (xs ys : List ℕ) (at s : ℕ) → s ≡ k → at + s ≤ length xs → ys ≡ bytes_of s n → number_at k (put_mid at s xs ys) at ≡ n % 256 ^ k
number_written k n xs ys at s size room same =
    let long : length ys ≡ s = ap length same ∙ length-bytes_of s n in
    number_of_bytes k n (put_mid at s xs ys) at
    (λ j h. placed_own at s xs ys room long j (omega arith) ∙ ap (λ zs. get_or zs j 0) (same ∙ ap (λ m. bytes_of m n) size))

-- of n bytes one more is written: with the bytes of what is left they are as before
pub bytes_more : (n k left : ℕ) (xs : List ℕ) → k < n → n ≡ length xs →
    take (k + 1) (set xs k (left % 256)) ++ bytes_of (n - (k + 1)) (left / 256) ≡ take k xs ++ bytes_of (n - k) left
unfolding bytes_of
bytes_more n k left xs within long =
    let size : n - k ≡ suc (n - (k + 1)) = omega arith in
    ap (λ ys. ys ++ bytes_of (n - (k + 1)) (left / 256)) (take_more_set xs k (left % 256) (omega arith))
    ∙ append_assoc (take k xs) (left % 256 ∷ []) (bytes_of (n - (k + 1)) (left / 256))
    ∙ ap (λ m. take k xs ++ bytes_of m left) (sym size)

-- behind the last byte nothing is left to write
pub bytes_all : (n k left : ℕ) (xs : List ℕ) → n ≤ k → n ≡ length xs → take k xs ++ bytes_of (n - k) left ≡ xs
unfolding bytes_of
bytes_all n k left xs over long =
    let size : n - k ≡ 0 = omega arith in
    ap (λ m. take k xs ++ bytes_of m left) size ∙ append-nil (take k xs) ∙ take_all k xs (omega arith)

-- a byte as the lowest digit of a number
abbrev pub low_digit : ℕ → ℕ → ℕ
low_digit n b = (n * 256 % 2 ^ 64 + b) % 2 ^ 64

-- bytes taken from the last to the first, each as the lowest digit, make up their number
pub number_by-fold : (bytes : List ℕ) → fold low_digit 0 (reverse bytes) ≡ number_at (length bytes) bytes 0 % 2 ^ 64
unfolding number_at
number_by-fold [] = refl
number_by-fold (b ∷ bytes) =
    let behind : number_at (length bytes) (b ∷ bytes) 1 ≡ number_at (length bytes) bytes 0 =
    number_moved (length bytes) (b ∷ bytes) bytes 1 0 (λ j h. let next : 1 + j ≡ suc j = omega arith in ap (λ m. get_or (b ∷ bytes) m 0) next ∙ ap (λ m. get_or bytes m 0) (sym (zero-add j))) in
    let last = ap (fold low_digit 0) (reverse_onto bytes b []) ∙ fold_push low_digit 0 (reverse bytes) b in
    let others = number_by-fold bytes in
    last ∙ omega (arith, others, behind)
