-- A state cut off the front of a longer slice: it is the state of the whole slice, and what lies behind stays.
use Rattle.std.proofs.Common.{◌≡◌, ℕ, ◌+◌, ◌*◌, ◌<◌, ◌≤◌, Bool, List, ◌++◌, length, get_or, take, drop, refl, ap, ◌∙◌, arith, get_or-take, rules, le-ltb}
use Rattle.std.proofs.lemmas.List.{places, drop_at}
use Rattle.motion.specs.Changes.{ShareHolds}
use Rattle.motion.specs.Systems.{WordsState}
use Rattle.motion.specs.Memory.{state_of, position_at, momentum_at}
use Rattle.motion.specs.Refusals.{lent, good}
use Rattle.motion.proofs.Kicks.{held_within}

-- words that agree in front hold the same state
pub same_front : (n : ℕ) (xs ys : List ℕ) → ((k : ℕ) → k < 6 * n → get_or xs k 0 ≡ get_or ys k 0) → state_of n xs ≡ state_of n ys
same_front n xs ys same = λ k. record {
  position = λ b a. held_within n (position_at xs) (position_at ys) (λ c d h l. same (6 * c + 2 * d) (omega arith)) b a k;
  momentum = λ b a. held_within n (momentum_at xs) (momentum_at ys) (λ c d h l. same (6 * c + (2 * d + 1)) (omega arith)) b a k;
}

-- a word in front is that of the whole
in_front : (n : ℕ) (ys zs : List ℕ) → length ys ≡ 6 * n → (k : ℕ) → k < 6 * n → get_or (ys ++ zs) k 0 ≡ get_or ys k 0
in_front n ys zs long k h = search (rules, places)

-- the state lies in the first words
pub state_in_front : (n : ℕ) (ys zs : List ℕ) → length ys ≡ 6 * n → state_of n (ys ++ zs) ≡ state_of n ys
state_in_front n ys zs long = same_front n (ys ++ zs) ys (in_front n ys zs long)

-- and so do the words of a share's bodies
pub share_in_front : (n : ℕ) (share : List Bool) (s t : WordsState) (ys zs : List ℕ) → length ys ≡ 6 * n → s ≡ t → ShareHolds n share s ys → ShareHolds n share t (ys ++ zs)
share_in_front n share s t ys zs long e holds = record {
  positions = λ b h in-share a k. in_front n ys zs long (6 * b + 2 * a) (omega arith) ∙ holds.positions b h in-share a k ∙ ap (λ u. (u.position b a).value) e;
  momenta = λ b h in-share a k. in_front n ys zs long (6 * b + (2 * a + 1)) (omega arith) ∙ holds.momenta b h in-share a k ∙ ap (λ u. (u.momentum b a).value) e;
}

-- and they are enough to read it
pub state_of_front : (n : ℕ) (xs : List ℕ) (m : ℕ) → m ≡ 6 * n → state_of n (take m xs) ≡ state_of n xs
state_of_front n xs m e = same_front n (take m xs) xs (λ k h. get_or-take m xs k 0 (omega arith))

-- slices that are long enough are not refused
pub long_enough : (m n state work : ℕ) → m ≤ state → n ≤ work → good tt ≡ lent m n state work
long_enough m n state work h k = rw (le-ltb state m h) (rw (le-ltb work n k) refl)

-- what lies behind the words in use stays
pub behind_stays : (m : ℕ) (ys zs xs : List ℕ) → length ys ≡ m → zs ≡ drop m xs → drop m (ys ++ zs) ≡ drop m xs
behind_stays m ys zs xs h e = drop_at ys zs m h ∙ e
