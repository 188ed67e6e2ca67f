-- What the code leaves in memory after a step is the step of the definitions, as one equation of states. Within the system it
-- holds word by word; outside of it there is nothing on both sides.
use Rattle.std.proofs.Common.{◌≡◌, ℕ, suc, ◌%◌, ◌^◌, ◌<◌, ◌≤◌, Bool, true, false, cond, ◌⊎◌, List, get_or, sym, refl, ap, ◌∙◌, inl, inr, mod-eq_of_lt, arith, w64, le-ltb, lt-ltb}
use Rattle.std.proofs.lemmas.Bool.Decides.{leb_tells}
use Rattle.words.specs.Signed.{divided}
use Rattle.words.specs.Words.{Word, word, words}
use Rattle.words.proofs.Signs.{divided_word, divided_none}
use Rattle.words.proofs.Wrapping.{same_word, words_lawful}
use Rattle.impulse.specs.Impulse.{impulse}
use Rattle.impulse.proofs.Pairs.{impulse_level, impulse_massless}
use Rattle.motion.specs.Bodies.{sum_of, impulses, kicked, step, drifted_back, step_back}
use Rattle.motion.specs.Changes.{moved, gathered, everyone, AllKicked, AllDrifted, member, ShareKicked, ShareHolds}
use Rattle.motion.specs.Memory.{state_of, position_at, momentum_at, inside, held}
use Rattle.motion.specs.Systems.{mass_of, system_law, step_of, back_of, stepped}
use Rattle.motion.specs.declared.system.System.{System}
use Rattle.motion.specs.declared.turn.Direction.{Direction}
use Rattle.motion.specs.declared.turn.Direction.TheVariants.{Ahead, Behind}
use Rattle.motion.proofs.Kicks.{held_same}
use Rattle.motion.proofs.Masses.{mass_beyond}
use Rattle.motion.proofs.Sums.{sum_none}

-- adding or taking away, as words
moves : Direction → Word 64 → Word 64 → Word 64
moves Ahead = (words 64).plus
moves Behind = (words 64).less

moves_word : (direction : Direction) (p : ℕ) (v : Word 64) → word 64 (moved direction p v.value) ≡ moves direction (word 64 p) v
unfolding moves
moves_word Ahead p v = same_word (omega arith)
moves_word Behind p v = let h = v.small in same_word (omega arith)

moves_none : (direction : Direction) → moves direction (word 64 0) (word 64 0) ≡ word 64 0
unfolding moves
moves_none Ahead = same_word refl
moves_none Behind = same_word refl

-- a body and an axis exist, or one of them doesn't
pub exists : (n b a : ℕ) → ((a < 3) × (b < n) × (inside n b a ≡ true)) ⊎ (((3 ≤ a) ⊎ (n ≤ b)) × (inside n b a ≡ false))
exists n b a = elim (leb_tells (suc a) 3) [
  | inl t ↦ elim (leb_tells (suc b) n) [
    | inl u ↦ inl (t.1, u.1, rw t.0 u.0)
    | inr u ↦ inr (inr (omega arith), rw t.0 u.0)
  ]
  | inr t ↦ inr (inl (omega arith), rw t.0 refl)
]

pub held_inside : (n : ℕ) (at : ℕ → ℕ → ℕ) (b a : ℕ) → inside n b a ≡ true → held n at b a ≡ word 64 (at b a)
held_inside n at b a e = ap (λ t. word 64 (cond t (at b a) 0)) e

pub held_outside : (n : ℕ) (at : ℕ → ℕ → ℕ) (b a : ℕ) → inside n b a ≡ false → held n at b a ≡ word 64 0
held_outside n at b a e = ap (λ t. word 64 (cond t (at b a) 0)) e

module _ (system : System) where
  -- all impulses on body b along axis a
  pull : List ℕ → ℕ → ℕ → Word 64
  pull xs b a = sum_of (words 64) ((system_law system).impulse (state_of system.count xs).position a b) system.count

  -- where body b is along axis a, as the law reads it
  reads : List ℕ → ℕ → ℕ → ℕ
  reads xs b a = ((state_of system.count xs).position b a).value

  -- outside of the system there are none
  no_impulse : (xs : List ℕ) (a b j : ℕ) → (3 ≤ a) ⊎ (system.count ≤ b) → (system_law system).impulse (state_of system.count xs).position a b j ≡ word 64 0
  unfolding reads
  no_impulse xs a b j (inl h) =
      ap (word 64) (impulse_level system.softening.value (mass_of system b) (mass_of system j) a (reads xs b) (reads xs j) (level b ∙ sym (level j))
      ((state_of system.count xs).position b a).small)
    where
      level : (c : ℕ) → ((state_of system.count xs).position c a).value ≡ 0
      level c = rw (le-ltb a 3 h) refl
  no_impulse xs a b j (inr h) =
      ap (λ m. word 64 (impulse system.softening.value m (mass_of system j) (reads xs b) (reads xs j) a)) (mass_beyond system.masses system.count b h)
      ∙ ap (word 64) (impulse_massless system.softening.value (mass_of system j) a (reads xs b) (reads xs j))

  pull_outside : (xs : List ℕ) (b a : ℕ) → (3 ≤ a) ⊎ (system.count ≤ b) → pull xs b a ≡ word 64 0
  unfolding pull
  pull_outside xs b a out = sum_none (words_lawful 64) _ system.count (λ j _. no_impulse xs a b j out)

  -- kicks and drifts in memory are sums and differences of words: for one body and axis
  kick_at : (direction : Direction) (xs : List ℕ) (b a m : ℕ) → inside system.count b a ≡ true →
      m ≡ moved direction (momentum_at xs b a) (gathered system xs a b system.count) →
      word 64 m ≡ moves direction (held system.count (momentum_at xs) b a) (pull xs b a)
  unfolding pull
  kick_at direction xs b a m there e =
      ap (word 64) e ∙ moves_word direction _ (pull xs b a)
      ∙ ap (λ w. moves direction w (pull xs b a)) (sym (held_inside _ (momentum_at xs) b a there))

  drift_at : (direction : Direction) (xs : List ℕ) → ((k : ℕ) → get_or xs k 0 < 2 ^ 64) → (b a p : ℕ) → inside system.count b a ≡ true →
      p ≡ moved direction (position_at xs b a) (divided w64 (momentum_at xs b a) (mass_of system b)) →
      word 64 p ≡ moves direction (held system.count (position_at xs) b a) ((system_law system).motion b a (held system.count (momentum_at xs) b a))
  drift_at direction xs fit b a p there e =
      ap (word 64) (e ∙ ap (moved direction (position_at xs b a)) way)
      ∙ moves_word direction _ ((system_law system).motion b a (word 64 (momentum_at xs b a)))
      ∙ (λ k. moves direction (sym (held_inside _ (position_at xs) b a there) k) ((system_law system).motion b a (sym (held_inside _ (momentum_at xs) b a there) k)))
    where
      way : divided w64 (momentum_at xs b a) (mass_of system b) ≡ ((system_law system).motion b a (word 64 (momentum_at xs b a))).value
      way = sym (mod-eq_of_lt (divided_word _ _ (fit _))) ∙ ap (λ m. divided w64 m (mass_of system b) % 2 ^ 64) (sym (mod-eq_of_lt (fit _)))

  -- outside of the system nothing moves
  still : (xs : List ℕ) (b a : ℕ) → inside system.count b a ≡ false → (system_law system).motion b a (held system.count (momentum_at xs) b a) ≡ word 64 0
  still xs b a out = ap ((system_law system).motion b a) (held_outside _ (momentum_at xs) b a out) ∙ ap (word 64) (divided_none (mass_of system b))

  -- for all of them
  kick_held : (direction : Direction) (xs ys : List ℕ) → AllKicked system direction system.count xs ys → (b a : ℕ) →
      held system.count (momentum_at ys) b a ≡ moves direction (held system.count (momentum_at xs) b a) (pull xs b a)
  kick_held direction xs ys kick b a = elim (exists system.count b a) [
    | inl e ↦ held_inside _ (momentum_at ys) b a e.2 ∙ kick_at direction xs b a _ e.2 (kick.done b e.1 a e.0)
    | inr e ↦ held_outside _ (momentum_at ys) b a e.1 ∙ sym (moves_none direction)
        ∙ (λ k. moves direction (sym (held_outside _ (momentum_at xs) b a e.1) k) (sym (pull_outside xs b a e.0) k))
  ]

  drift_held : (direction : Direction) (xs ys : List ℕ) → ((k : ℕ) → get_or xs k 0 < 2 ^ 64) → AllDrifted system direction everyone system.count xs ys → (b a : ℕ) →
      held system.count (position_at ys) b a
      ≡ moves direction (held system.count (position_at xs) b a) ((system_law system).motion b a (held system.count (momentum_at xs) b a))
  drift_held direction xs ys fit drift b a = elim (exists system.count b a) [
    | inl e ↦ held_inside _ (position_at ys) b a e.2 ∙ drift_at direction xs fit b a _ e.2 (drift.done b e.1 refl a e.0)
    | inr e ↦ held_outside _ (position_at ys) b a e.1 ∙ sym (moves_none direction)
        ∙ (λ k. moves direction (sym (held_outside _ (position_at xs) b a e.1) k) (sym (still xs b a e.1) k))
  ]

  -- kicks, then drifts: a step
  pub step_is : (xs ys zs : List ℕ) → ((k : ℕ) → get_or ys k 0 < 2 ^ 64) → AllKicked system Ahead system.count xs ys → AllDrifted system Ahead everyone system.count ys zs →
      state_of system.count zs ≡ step_of system (state_of system.count xs)
  unfolding moves pull step kicked impulses
  step_is xs ys zs fit kick drift = λ k. record { position = λ b a. place b a k; momentum = λ b a. (same b a ∙ kick_held Ahead xs ys kick b a) k }
    where
      same : (b a : ℕ) → held system.count (momentum_at zs) b a ≡ held system.count (momentum_at ys) b a
      same = held_same system.count (momentum_at zs) (momentum_at ys) drift.momenta

      place : (b a : ℕ) → held system.count (position_at zs) b a ≡ (step_of system (state_of system.count xs)).position b a
      place b a =
          drift_held Ahead ys zs fit drift b a
          ∙ (λ k. moves Ahead (held_same system.count (position_at ys) (position_at xs) kick.positions b a k) ((system_law system).motion b a (kick_held Ahead xs ys kick b a k)))

  -- drifts, then kicks: a step back
  pub back_is : (xs ys zs : List ℕ) → ((k : ℕ) → get_or xs k 0 < 2 ^ 64) → AllDrifted system Behind everyone system.count xs ys → AllKicked system Behind system.count ys zs →
      state_of system.count zs ≡ back_of system (state_of system.count xs)
  unfolding moves pull step_back drifted_back impulses
  back_is xs ys zs fit drift kick = λ k. record { position = λ b a. (stays b a ∙ drift_held Behind xs ys fit drift b a) k; momentum = λ b a. drive b a k }
    where
      stays : (b a : ℕ) → held system.count (position_at zs) b a ≡ held system.count (position_at ys) b a
      stays = held_same system.count (position_at zs) (position_at ys) kick.positions

      drive : (b a : ℕ) → held system.count (momentum_at zs) b a ≡ (back_of system (state_of system.count xs)).momentum b a
      drive b a =
          kick_held Behind ys zs kick b a
          ∙ (λ k. moves Behind (held_same system.count (momentum_at ys) (momentum_at xs) drift.momenta b a k)
          (sum_of (words 64) ((system_law system).impulse (λ c d. drift_held Behind xs ys fit drift c d k) a b) system.count))

  -- a word that fits is the value of its word
  fits_value : (m : ℕ) (w : Word 64) → m < 2 ^ 64 → word 64 m ≡ w → m ≡ w.value
  fits_value m w h e = sym (mod-eq_of_lt h) ∙ ap (λ v. v.value) e

  -- a share's kicks and then its drifts give its bodies the words of a step of all
  pub share_step_is : (share : List Bool) (xs ys zs : List ℕ) → ((k : ℕ) → get_or ys k 0 < 2 ^ 64) → ((k : ℕ) → get_or zs k 0 < 2 ^ 64) →
      ShareKicked system Ahead share system.count xs ys → AllDrifted system Ahead (member share) system.count ys zs →
      ShareHolds system.count share (step_of system (state_of system.count xs)) zs
  unfolding moves pull step kicked impulses
  share_step_is share xs ys zs fit fit' kick drift = record {
    positions = λ b h in-share a k. fits_value _ _ (fit' _)
        (drift_at Ahead ys fit b a _ (there b a h k) (drift.done b h in-share a k)
        ∙ (λ l. moves Ahead (held_same system.count (position_at ys) (position_at xs) kick.positions b a l)
        ((system_law system).motion b a ((held_inside _ (momentum_at ys) b a (there b a h k) ∙ drive b h in-share a k) l))));
    momenta = λ b h in-share a k. fits_value _ _ (fit' _) (ap (word 64) (drift.momenta b a k) ∙ drive b h in-share a k);
  }
    where
      there : (b a : ℕ) → b < system.count → a < 3 → inside system.count b a ≡ true
      there b a h k = rw (lt-ltb a 3 k) (lt-ltb b system.count h)

      drive : (b : ℕ) → b < system.count → member share b ≡ true → (a : ℕ) → a < 3 →
          word 64 (momentum_at ys b a) ≡ (step_of system (state_of system.count xs)).momentum b a
      drive b h in-share a k = kick_at Ahead xs b a _ (there b a h k) (kick.done b h in-share a k)

  -- all drifts back and then a share's kicks back give its bodies the words of a step back of all
  pub share_back_is : (share : List Bool) (xs ys zs : List ℕ) → ((k : ℕ) → get_or xs k 0 < 2 ^ 64) → ((k : ℕ) → get_or zs k 0 < 2 ^ 64) →
      AllDrifted system Behind everyone system.count xs ys → ShareKicked system Behind share system.count ys zs →
      ShareHolds system.count share (back_of system (state_of system.count xs)) zs
  unfolding moves pull step_back drifted_back impulses
  share_back_is share xs ys zs fit fit' drift kick = record {
    positions = λ b h in-share a k. fits_value _ _ (fit' _)
        (ap (word 64) (kick.positions b a k) ∙ sym (held_inside _ (position_at ys) b a (there b a h k)) ∙ drift_held Behind xs ys fit drift b a);
    momenta = λ b h in-share a k. fits_value _ _ (fit' _)
        (kick_at Behind ys b a _ (there b a h k) (kick.done b h in-share a k)
        ∙ (λ l. moves Behind (held_same system.count (momentum_at ys) (momentum_at xs) drift.momenta b a l)
        (sum_of (words 64) ((system_law system).impulse (λ c d. drift_held Behind xs ys fit drift c d l) a b) system.count)));
  }
    where
      there : (b a : ℕ) → b < system.count → a < 3 → inside system.count b a ≡ true
      there b a h k = rw (lt-ltb a 3 k) (lt-ltb b system.count h)

  -- outside of the system a step, and a step back, leave nothing
  no_impulse_at : (x : ℕ → ℕ → Word 64) (a b j : ℕ) → ((c : ℕ) → 3 ≤ a → x c a ≡ word 64 0) → (3 ≤ a) ⊎ (system.count ≤ b) → (system_law system).impulse x a b j ≡ word 64 0
  no_impulse_at x a b j level (inl h) =
      ap (word 64) (impulse_level system.softening.value (mass_of system b) (mass_of system j) a (λ c. (x b c).value) (λ c. (x j c).value)
      (ap (λ w. w.value) (level b h ∙ sym (level j h))) (x b a).small)
  no_impulse_at x a b j level (inr h) =
      ap (λ m. word 64 (impulse system.softening.value m (mass_of system j) (λ c. (x b c).value) (λ c. (x j c).value) a)) (mass_beyond system.masses system.count b h)
      ∙ ap (word 64) (impulse_massless system.softening.value (mass_of system j) a (λ c. (x b c).value) (λ c. (x j c).value))

  pub nothing_outside : (direction : Direction) (xs : List ℕ) (b a : ℕ) → (3 ≤ a) ⊎ (system.count ≤ b) → inside system.count b a ≡ false →
      ((stepped direction system (state_of system.count xs)).position b a ≡ word 64 0) × ((stepped direction system (state_of system.count xs)).momentum b a ≡ word 64 0)
  unfolding moves pull step kicked impulses step_back drifted_back
  nothing_outside Ahead xs b a where_to out =
      let p = held_outside system.count (position_at xs) b a out in
      let m : moves Ahead (held system.count (momentum_at xs) b a) (pull xs b a) ≡ word 64 0 =
      (λ k. moves Ahead (held_outside system.count (momentum_at xs) b a out k) (pull_outside xs b a where_to k)) ∙ moves_none Ahead in
      ((λ k. moves Ahead (p k) ((ap ((system_law system).motion b a) m ∙ ap (word 64) (divided_none (mass_of system b))) k)) ∙ moves_none Ahead, m)
  nothing_outside Behind xs b a where_to out = (
    drifts b out,
    (λ k. moves Behind (held_outside system.count (momentum_at xs) b a out k)
        (sum_none (words_lawful 64) ((system_law system).impulse earlier a b) system.count (λ j _. no_impulse_at earlier a b j (λ c h. drifts c (rw (le-ltb a 3 h) refl)) where_to) k))
        ∙ moves_none Behind,
  )
    where
      earlier : ℕ → ℕ → Word 64
      earlier = λ c d. moves Behind (held system.count (position_at xs) c d) ((system_law system).motion c d (held system.count (momentum_at xs) c d))

      drifts : (c : ℕ) → inside system.count c a ≡ false → earlier c a ≡ word 64 0
      drifts c gone = (λ k. moves Behind (held_outside system.count (position_at xs) c a gone k) (still xs c a gone k)) ∙ moves_none Behind
