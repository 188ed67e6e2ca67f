-- The whole rows of bytes, each of its own: byte i of row k is byte 49 * k + i of all.
use Rattle.std.proofs.Common.{◌≡◌, ℕ, zero, suc, ◌+◌, ◌*◌, ◌<◌, ◌≤◌, Bool, ◌||◌, ◌&&◌, eqb, List, [], length, get_or, take, drop, sym, refl, ap, ◌∙◌, add-one, add-zero, zero-add, mul-suc, arith, get_or-take}
use Rattle.std.proofs.Math.Bool.{and_assoc, and-true}
use Rattle.std.specs.Simd.{first_chunks}
use Rattle.std.specs.List.{list_any, list_all, range_with_len}
use Rattle.std.proofs.lemmas.List.{get_or-drop, take_all}
use Rattle.std.proofs.lemmas.List.Folds.{list_any_more}
use Rattle.shares.specs.Rows.{row_body, rows_in, rows_of}
use Rattle.shares.specs.Taking.{seen, all_seen}

length-first_chunks : (n k : ℕ) (xs : List ℕ) → length (first_chunks n k xs) ≡ k
length-first_chunks n zero xs = refl
length-first_chunks n (suc k) xs = ap suc (length-first_chunks n k (drop n xs))

pub get_or-first_chunks : (n k : ℕ) (xs : List ℕ) (j i : ℕ) (d : List ℕ) → j < k → i < n → get_or (get_or (first_chunks n k xs) j d) i 0 ≡ get_or xs (n * j + i) 0
get_or-first_chunks n zero xs j i d h l = absurd (omega arith)
get_or-first_chunks n (suc k) xs zero i d h l = get_or-take n xs i 0 l ∙ ap (λ m. get_or xs m 0) (omega arith)
get_or-first_chunks n (suc k) xs (suc j) i d h l =
    let next : n + (n * j + i) ≡ n * suc j + i = rw mul-suc (omega arith) in
    get_or-first_chunks n k (drop n xs) j i d (omega arith) l ∙ get_or-drop n xs (n * j + i) 0 ∙ ap (λ m. get_or xs m 0) next

pub length-rows_of : (bytes : List ℕ) → length (rows_of bytes) ≡ rows_in bytes
length-rows_of bytes = length-first_chunks 49 (rows_in bytes) bytes

pub get_or-rows_of : (bytes : List ℕ) (k i : ℕ) (d : List ℕ) → k < rows_in bytes → i < 49 → get_or (get_or (rows_of bytes) k d) i 0 ≡ get_or bytes (49 * k + i) 0
get_or-rows_of bytes k i d h l = get_or-first_chunks 49 (rows_in bytes) bytes k i d h l

pub row_at : (bytes : List ℕ) (k : ℕ) (d : List ℕ) → k < rows_in bytes → get_or (get_or (rows_of bytes) k d) 0 0 ≡ row_body bytes k
row_at bytes k d h = get_or-rows_of bytes k 0 d h (omega arith) ∙ ap (λ m. get_or bytes m 0) (add-zero (49 * k))

-- is one of these rows that of a body?
abbrev pub is_among : List (List ℕ) → ℕ → Bool
is_among rows b = list_any (λ row. eqb (get_or row 0 0) b) rows

pub seen_before : (bytes : List ℕ) (k b : ℕ) → k ≤ rows_in bytes → is_among (take k (rows_of bytes)) b ≡ seen bytes k b
unfolding seen
seen_before bytes zero b h = refl
seen_before bytes (suc k) b h =
    let long = length-rows_of bytes in
    ap (λ m. is_among (take m (rows_of bytes)) b) (sym (add-one k))
    ∙ list_any_more (λ row. eqb (get_or row 0 0) b) (rows_of bytes) k [] (omega arith)
    ∙ (λ i. seen_before bytes k b (omega arith) i || eqb (row_at bytes k [] (omega arith) i) b)

seen_whole : (bytes : List ℕ) (b : ℕ) → is_among (rows_of bytes) b ≡ seen bytes (rows_in bytes) b
seen_whole bytes b =
    let long = length-rows_of bytes in
    ap (λ rows. is_among rows b) (sym (take_all (rows_in bytes) (rows_of bytes) (omega arith))) ∙ seen_before bytes (rows_in bytes) b (omega arith)

-- each of the bodies from `a` on, of which there are n, and of those before them
all_seen_from : (bytes : List ℕ) (k a n : ℕ) → (all_seen bytes k a && list_all (seen bytes k) (range_with_len a n)) ≡ all_seen bytes k (a + n)
unfolding all_seen
all_seen_from bytes k a zero = and-true (all_seen bytes k a) ∙ ap (all_seen bytes k) (sym (add-zero a))
all_seen_from bytes k a (suc n) =
    let next : a + 1 + n ≡ a + suc n = omega arith in
    let here : all_seen bytes k (a + 1) ≡ (all_seen bytes k a && seen bytes k a) = ap (all_seen bytes k) (add-one a) in
    sym (and_assoc (all_seen bytes k a) (seen bytes k a) (list_all (seen bytes k) (range_with_len (a + 1) n)))
    ∙ ap (λ x. x && list_all (seen bytes k) (range_with_len (a + 1) n)) (sym here)
    ∙ all_seen_from bytes k (a + 1) n ∙ ap (all_seen bytes k) next

-- rows that are read from bytes
module _ (bytes : List ℕ) (rows : List (List ℕ)) (read : rows ≡ rows_of bytes) where
  pub rows_counted : length rows ≡ rows_in bytes
  rows_counted = ap length read ∙ length-rows_of bytes

  pub body_read : (k : ℕ) → k < length rows → get_or (get_or rows k []) 0 0 ≡ row_body bytes k
  body_read k h = let long = rows_counted in ap (λ l. get_or (get_or l k []) 0 0) read ∙ row_at bytes k [] (omega arith)

  pub seen_read : (k b : ℕ) → k ≤ length rows → is_among (take k rows) b ≡ seen bytes k b
  seen_read k b h = let long = rows_counted in ap (λ l. is_among (take k l) b) read ∙ seen_before bytes k b (omega arith)

pub all_among : (bytes : List ℕ) (n : ℕ) → list_all (is_among (rows_of bytes)) (range_with_len 0 n) ≡ all_seen bytes (rows_in bytes) n
unfolding all_seen
all_among bytes n =
    (λ i. list_all (λ b. seen_whole bytes b i) (range_with_len 0 n)) ∙ all_seen_from bytes (rows_in bytes) 0 n ∙ ap (all_seen bytes (rows_in bytes)) (zero-add n)
